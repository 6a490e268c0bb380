-- Lemmas on the sign and the name of a line.
use Rattle.std.proofs.Common.{◌≡◌, ◌≢◌, ℕ, ◌+◌, ◌<◌, List, [], ◌∷◌, ◌++◌, Option, Some, None, Bool, true, false, cond, eqb, ◌⊎◌, inl, inr, length, get_or, take, unwrap_or, refl, sym, ◌∙◌, ap, arith, append-nil}
use Rattle.std.proofs.lemmas.Bool.Decides.{nat_tests}
use Rattle.markdown_events.proofs.Spellings.{lacks, spelling-lacks_line_feed, spelling-lacks_space}
use Rattle.markdown_events.specs.declared.event.Event.{Event}
use Rattle.markdown_events.specs.declared.event.Kind.{Kind}
use Rattle.markdown_events.specs.declared.event.Name.{Name}
use Rattle.markdown_events.specs.declared.event.Point.{Point}
use Rattle.markdown_events.specs.Spelling.{name_of, spelling}
use Rattle.event_lines.specs.Lines.{before, after, kind_of, head_of, point_of, event_of, ◌>>=◌}
use Rattle.event_lines.specs.Fronts.{PointBegins, HeadBegins, EventBegins}
use Rattle.event_lines.proofs.CutLemmas.{from, drop_at, parts_of, before_lacking, after_lacking, before_in_line, none_in_line, after_none, before_at}
use Rattle.event_lines.proofs.PointLemmas.{fails_after}

abbrev the_head : Kind → Name → Option (Kind × Name)
the_head kind name = Some (kind, name)

abbrev the_event : Kind → Name → Point → Option Event
the_event kind name point = Some (record { kind = kind; name = name; point = point })

-- ---- Heads

-- a sign is no separator
sign_feed : (sign : ℕ) (kind : Kind) → kind_of sign ≡ Some kind → sign ≢ 10
sign_feed sign kind h = λ e. let bad : ◌≡◌ {A = Option Kind} None (Some kind) = ap kind_of (sym e) ∙ h in cc

sign_space : (sign : ℕ) (kind : Kind) → kind_of sign ≡ Some kind → sign ≢ 32
sign_space sign kind h = λ e. let bad : ◌≡◌ {A = Option Kind} None (Some kind) = ap kind_of (sym e) ∙ h in cc

-- a line without a space, or with a wrong head, is no event line
event_no_space : (line : List ℕ) → after 32 line ≡ None → event_of line ≡ None
unfolding event_of
event_no_space line e = rw e refl

event_no_head : (line : List ℕ) → head_of (before 32 line) ≡ None → event_of line ≡ None
unfolding event_of
event_no_head line e = fails_after (after 32 line) (head_of (before 32 line)) (λ numbers head. point_of numbers >>= λ point. the_event head.0 head.1 point) e

wrong_head : (text : List ℕ) → (after 32 (before 10 text) ≡ None) ⊎ (before 32 (before 10 text) ≡ before 32 text) → head_of (before 32 text) ≡ None → event_of (before 10 text) ≡ None
wrong_head text (inl h) e = event_no_space (before 10 text) h
wrong_head text (inr h) e = event_no_head (before 10 text) (ap head_of h ∙ e)

step_no_kind : (sign : ℕ) (z : List ℕ) (u : Bool) → kind_of sign ≡ None → head_of (cond u [] (sign ∷ z)) ≡ None
step_no_kind sign z true e = refl
step_no_kind sign z false e = ap (λ o. o >>= λ kind. name_of z >>= λ name. the_head kind name) e

-- a wrong sign
pub head_no_kind : (sign : ℕ) (nm : List ℕ) → kind_of sign ≡ None → event_of (before 10 (sign ∷ nm)) ≡ None
head_no_kind sign nm e = wrong_head (sign ∷ nm) (before_in_line 10 32 (sign ∷ nm)) (step_no_kind sign (before 32 nm) (eqb sign 32) e)

step_no_name : (sign : ℕ) (z : List ℕ) (u : Bool) → name_of z ≡ None → head_of (cond u [] (sign ∷ z)) ≡ None
step_no_name sign z true e = refl
step_no_name sign z false e = fails_after (kind_of sign) (name_of z) (λ kind name. the_head kind name) e

-- a wrong name
pub head_no_name : (sign : ℕ) (nm : List ℕ) (end : ℕ) → end < length nm → get_or nm end 0 ≡ 32 → ((k : ℕ) → k < end → get_or nm k 0 ≢ 32) → name_of (take end nm) ≡ None → event_of (before 10 (sign ∷ nm)) ≡ None
head_no_name sign nm end lt at none e =
    let front : before 32 nm ≡ take end nm = before_at 32 nm end lt at none in
    wrong_head (sign ∷ nm) (before_in_line 10 32 (sign ∷ nm)) (step_no_name sign (before 32 nm) (eqb sign 32) (ap name_of front ∙ e))

-- no space
pub head_no_space : (sign : ℕ) (nm : List ℕ) (kind : Kind) → kind_of sign ≡ Some kind → ((k : ℕ) → k < length nm → get_or nm k 0 ≢ 32) → event_of (before 10 (sign ∷ nm)) ≡ None
head_no_space sign nm kind h none =
    let ne : sign ≢ 32 = sign_space sign kind h in
    let other : eqb sign 32 ≡ false = grind (arith, nat_tests) in
    let no_more : after 32 nm ≡ None = after_none 32 nm none in
    let no_space : after 32 (sign ∷ nm) ≡ None = rw other no_more in
    event_no_space (before 10 (sign ∷ nm)) (none_in_line 10 32 (sign ∷ nm) no_space)

lacks_more : (c sign : ℕ) (ds : List ℕ) → sign ≢ c → lacks c ds ≡ true → lacks c (sign ∷ ds) ≡ true
lacks_more c sign ds ne h = let no : eqb sign c ≡ false = grind (arith, nat_tests) in rw (no, h) refl

-- a head and a space
event_head : (line h numbers : List ℕ) (kind : Kind) (name : Name) → after 32 line ≡ Some numbers → before 32 line ≡ h → head_of h ≡ the_head kind name → event_of line ≡ (point_of numbers >>= λ point. the_event kind name point)
unfolding event_of
event_head line h numbers kind name a b e = rw (a, b, e) refl

-- a sign, a name and a space
pub head_some : (sign : ℕ) (nm : List ℕ) (end : ℕ) (kind : Kind) (name : Name) → kind_of sign ≡ Some kind → end < length nm → get_or nm end 0 ≡ 32
    → name_of (take end nm) ≡ Some name → spelling name ≡ take end nm → HeadBegins (sign ∷ nm) kind name (from nm (end + 1))
head_some sign nm end kind name k lt at n spelled =
    let ds = take end nm in
    let rest = from nm (end + 1) in
    let f10 : lacks 10 (sign ∷ ds) ≡ true = lacks_more 10 sign ds (sign_feed sign kind k) (ap (lacks 10) (sym spelled) ∙ spelling-lacks_line_feed name) in
    let f32 : lacks 32 (sign ∷ ds) ≡ true = lacks_more 32 sign ds (sign_space sign kind k) (ap (lacks 32) (sym spelled) ∙ spelling-lacks_space name) in
    let parts : nm ≡ ds ++ (32 ∷ rest) = parts_of nm end (32 ∷ rest) (drop_at nm end 32 lt at) in
    let text : (sign ∷ nm) ≡ (sign ∷ ds) ++ (32 ∷ rest) = ap (λ l. sign ∷ l) parts in
    let line : before 10 (sign ∷ nm) ≡ (sign ∷ ds) ++ (32 ∷ before 10 rest) = ap (before 10) text ∙ before_lacking 10 (sign ∷ ds) (32 ∷ rest) f10 in
    let a : after 32 ((sign ∷ ds) ++ (32 ∷ before 10 rest)) ≡ Some (before 10 rest) = after_lacking 32 (sign ∷ ds) (32 ∷ before 10 rest) f32 in
    let b : before 32 ((sign ∷ ds) ++ (32 ∷ before 10 rest)) ≡ sign ∷ ds = before_lacking 32 (sign ∷ ds) (32 ∷ before 10 rest) f32 ∙ append-nil (sign ∷ ds) in
    let h : head_of (sign ∷ ds) ≡ the_head kind name = ap (λ o. o >>= λ p. name_of ds >>= λ q. the_head p q) k ∙ ap (λ o. o >>= λ q. the_head kind q) n in
    record {
      event = ap event_of line ∙ event_head ((sign ∷ ds) ++ (32 ∷ before 10 rest)) (sign ∷ ds) (before 10 rest) kind name a b h;
      lines = ap (after 10) text ∙ after_lacking 10 (sign ∷ ds) (32 ∷ rest) f10;
    }

-- ---- A head and a point
