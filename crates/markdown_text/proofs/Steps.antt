-- Pieces that are written, one after the other.
use Rattle.std.proofs.Common.{Bool, Err, IfOk, IfSome, List, None, Ok, OnOk, Option, Result, Some, [], ap, arith, false, if◌then◌else◌, is_some, length, refl, subst, sym, true, ℕ, ◌∷◌, ◌∙◌, ◌≡◌, ◌≤◌}
use Rattle.std.specs.Prelude.{slice_range}
use Rattle.std.specs.Str.{IsCharBoundary, IsUtf8, is_utf8}
use Rattle.std.proofs.lemmas.Option.{same_Some}
use Rattle.std.proofs.lemmas.Str.{IsCharBoundary-from_take, IsUtf8-from_is_utf8}
use lib.Utf8.{encode}
use Rattle.event_writer.specs.Stages.{Enclosing, Stage, are_beside, entered, exited, heading_atx, in_part, inlines, skips, takes_line_endings, written}
use Rattle.event_writer.specs.Written.{Written}
use Rattle.markdown_events.specs.Names.{role_of}
use Rattle.markdown_events.specs.Slices.{edge}
use Rattle.markdown_events.specs.declared.event.Name.{Name}
use Rattle.markdown_events.specs.declared.event.Name.TheVariants.{ByteOrderMark, CharacterReferenceValue, HeadingAtxSequence, HeadingSetextUnderlineSequence, LineEnding as LineEndingName, ListItemValue}
use Rattle.markdown_events.specs.declared.event.Point.{Point}
use Rattle.markdown_events.specs.declared.role.ItemKind.TheVariants.{Part as part}
use Rattle.markdown_events.specs.declared.role.Part.TheVariants as parts
use Rattle.markdown_events.specs.declared.role.Role.{Role}
use Rattle.markdown_events.specs.declared.role.Role.TheVariants.{Significant as significant}
use Rattle.markdown_grammar.specs.Document.{is_item_number}
use Rattle.markdown_pieces.specs.Tilings.{EndsCharacter, GoesAsToken, HasValue as PieceHasValue, Spot, point}
use Rattle.markdown_pieces.specs.Walks.{SaysAll, State, Steps, after_closing, after_token, inside, more, same}
use Rattle.markdown_pieces.specs.declared.piece.PieceKind.TheVariants.{Enter, Exit, LineEnding, OpeningSequence, Token}
use Rattle.markdown_text.proofs.Standings.{beside, cut_is_boundary, edge_whole, weakened}
use Rattle.markdown_text.specs.Contents.{spot}
use Rattle.markdown_text.specs.Outputs.{after_inlines, after_string, after_string_in, if_skips}
use Rattle.markdown_text.specs.Standings.{HasFront, HasValue, IsAt, MayEndLine, MayWrite, after_line}

-- ---- Answers that are there

-- what follows of what is true where a call succeeds
pub on_ok : {X E P Q : Type 0} (r : Result X E) → (P → Q) → OnOk r P → OnOk r Q
on_ok (Ok x) f p = f p
on_ok (Err e) f p = tt

-- the same of two things that are true of what it gives
pub both_on_ok : {X E : Type 0} {P Q S : X → Type 0} (r : Result X E) → ((x : X) → P x → Q x → S x) → IfOk r P → IfOk r Q → IfOk r S
both_on_ok (Ok x) f p q = f x p q
both_on_ok (Err e) f p q = tt

-- the same of four things that are true
pub four_on_ok : {X E A B C : Type 0} {P Q : X → Type 0} (r : Result X E) → ((x : X) → A → B → C → P x → Q x) → OnOk r A → OnOk r B → OnOk r C → IfOk r P → IfOk r Q
four_on_ok (Ok x) f a b c p = f x a b c p
four_on_ok (Err e) f a b c p = tt

-- of a stage that is there
pub at_some : (P : Stage → Type 0) (o : Option Stage) (b : Stage) → o ≡ Some b → IfSome o P → P b
at_some P o b is h = subst (λ (x : Option Stage). IfSome x P) is h

-- what follows of each value, where something else does
pub some_then : {A : Type 0} (P Q : A → Type 0) (o : Option A) → ((x : A) → P x → Q x) → IfSome o P → IfSome o Q
some_then P Q None f h = tt
some_then P Q (Some x) f h = f x h

-- ---- Tokens

-- the byte order mark is a character
mark_valid : IsUtf8 (239 ∷ 187 ∷ 191 ∷ [])
unfolding encode
mark_valid = (65279 ∷ [], (refl, refl))

-- a token ends where a character does
pub token_boundary : (bytes : List ℕ) (name : Name) (i : ℕ) → is_utf8 bytes ≡ true → i ≤ length bytes → EndsCharacter bytes name i → IsCharBoundary bytes i
token_boundary bytes ByteOrderMark i valid within ends =
    IsCharBoundary-from_take bytes i (IsUtf8-from_is_utf8 bytes valid) within (subst IsUtf8 (sym ends) mark_valid)
token_boundary bytes name i valid within ends = cut_is_boundary bytes i valid within ends

-- the stage after it
pub token_stage : (a b : Stage) (name : Name) → after_token a name ≡ Some b → written a (role_of name) ≡ Some b
token_stage a b HeadingAtxSequence is = closing a is
  where
    closing : (c : Stage) → after_closing c ≡ Some b → written c (role_of HeadingAtxSequence) ≡ Some b
    closing heading_atx h = absurd (cc h)
    closing c h = h
token_stage a b name is = is

-- signs that close a heading are not counted
closing_value : (bytes : List ℕ) (decode : List ℕ → ℕ → Option (List ℕ)) (a b : Stage) (start end : Point) → after_closing a ≡ Some b → HasValue bytes decode a (role_of HeadingAtxSequence) start end
closing_value bytes decode (inlines h) b start end is = tt
closing_value bytes decode _ b start end is = absurd (cc is)

-- what is read of it can be
pub token_value : (bytes : List ℕ) (decode : List ℕ → ℕ → Option (List ℕ)) (name : Name) (a b : Stage) (from to : Spot) → to.offset ≤ length bytes → after_token a name ≡ Some b → PieceHasValue bytes name from to → HasValue bytes decode a (role_of name) (point from) (point to)
token_value bytes decode HeadingAtxSequence a b from to within is value = closing_value bytes decode a b (point from) (point to) is
token_value bytes decode HeadingSetextUnderlineSequence a b from to within is value = omega (arith, within, value)
token_value bytes decode CharacterReferenceValue a b from to within is value = absurd value
token_value bytes decode ListItemValue a b from to within is value =
    subst (λ (n : ℕ). is_item_number (Some (slice_range bytes n (edge (point to)))) ≡ true) (sym (edge_whole (point from) value.0)) (subst (λ (n : ℕ). is_item_number (Some (slice_range bytes from.offset n)) ≡ true) (sym (edge_whole (point to) value.1)) value.2)
token_value bytes decode name a b from to within is value = tt

-- ---- One piece

pub step_enter : {R : Type 0} (new : Written R) (name : Name) (s t : State) → Steps (Enter name) s t → IfSome (entered s.stage (role_of name)) (λ b. IsAt new b (inside name s.stage s.outer)) → IsAt new t.stage t.outer
step_enter new name s t step h = subst (λ (os : List Enclosing). IsAt new t.stage os) (sym step.1) (at_some (λ b. IsAt new b (inside name s.stage s.outer)) (entered s.stage (role_of name)) t.stage step.0 h)

pub step_exit : {R X E : Type 0} (r : Result X E) (old new : Written R) (name : Name) (s t : State) → Steps (Exit name) s t → IsAt old s.stage s.outer
    → ((own a : Stage) → (name : Name) → (outer : List Enclosing) → IsAt old own (inside name a outer) → OnOk r (IfSome (exited own a (role_of name)) (λ b. IsAt new b outer))) → OnOk r (IsAt new t.stage t.outer)
step_exit r old new name s t step at h =
    on_ok r (at_some (λ b. IsAt new b t.outer) (exited s.stage step.0 (role_of name)) t.stage step.1) (h s.stage step.0 name t.outer (subst (λ (os : List Enclosing). IsAt old s.stage os) step.2 at))

pub step_token : {R : Type 0} (new : Written R) (name : Name) (s t : State) → Steps (Token name) s t → IfSome (written s.stage (role_of name)) (λ b. IsAt new b s.outer) → IsAt new t.stage t.outer
step_token new name s t step h = subst (λ (os : List Enclosing). IsAt new t.stage os) (sym step.1) (at_some (λ b. IsAt new b s.outer) (written s.stage (role_of name)) t.stage (token_stage s.stage t.stage name step.0) h)

pub step_opening : {R : Type 0} (new : Written R) (s t : State) → Steps OpeningSequence s t → IfSome (written s.stage (role_of HeadingAtxSequence)) (λ b. IsAt new b s.outer) → IsAt new t.stage t.outer
step_opening new s t step h =
    subst (λ (u : State). IsAt new u.stage u.outer) (sym step.1) (at_some (λ b. IsAt new b s.outer) (written s.stage (role_of HeadingAtxSequence)) (inlines true) (ap (λ (a : Stage). written a (role_of HeadingAtxSequence)) step.0) h)

ending_stage : (a : Stage) → takes_line_endings a ≡ true → written a (role_of LineEndingName) ≡ Some a
ending_stage a takes = (λ i. if takes i then Some a else None)

pub step_ending : {R : Type 0} (new : Written R) (s t : State) → Steps LineEnding s t → IfSome (written s.stage (role_of LineEndingName)) (λ b. IsAt new b s.outer) → IsAt new t.stage t.outer
step_ending new s t step h = subst (λ (u : State). IsAt new u.stage u.outer) (sym step.1) (at_some (λ b. IsAt new b s.outer) (written s.stage (role_of LineEndingName)) s.stage (ending_stage s.stage step.0) h)

pub may_end_line : {R : Type 0} (decode : List ℕ → ℕ → Option (List ℕ)) (w : Written R) (s t : State) → IsAt w s.stage s.outer → Steps LineEnding s t → MayEndLine decode w LineEndingName
may_end_line decode w s t at step = record { waits = false; stage = s.stage; outer = s.outer; at = at; may = ap is_some (ending_stage s.stage step.0); value = λ end. tt }

pub step_same : {R : Type 0} (new : Written R) (s t : State) → t ≡ s → IsAt new s.stage s.outer → IsAt new t.stage t.outer
step_same new s t is h = subst (λ (u : State). IsAt new u.stage u.outer) (sym is) h

-- a token of a piece may be written
pub may_write_token : {R : Type 0} (decode : List ℕ → ℕ → Option (List ℕ)) (w : Written R) (name : Name) (to : Spot) (s t : State) → IsAt w s.stage s.outer → Steps (Token name) s t → GoesAsToken w.given.bytes name (spot w.cursor) to → MayWrite decode w name to
may_write_token decode w name to s t at step goes =
    let is = token_stage s.stage t.stage name step.0 in
    record { stage = s.stage; outer = s.outer; at = at; may = ap is_some is; value = at_cursor w.given.bytes decode s.stage (role_of name) w.cursor (point to) (token_value w.given.bytes decode name s.stage t.stage (spot w.cursor) to (goes.reaches).within step.0 goes.value) }
  where
    at_cursor : (bytes : List ℕ) (decode : List ℕ → ℕ → Option (List ℕ)) (a : Stage) (r : Role) (p end : Point) → HasValue bytes decode a r (point (spot p)) end → HasValue bytes decode a r p end
    at_cursor bytes decode a (significant (part parts.HeadingAtxSequence)) p end value = value
    at_cursor bytes decode a (significant (part parts.HeadingSetextUnderlineSequence)) p end value = value
    at_cursor bytes decode a (significant (part parts.ListItemValue)) p end value = value
    at_cursor bytes decode a (significant (part parts.CharacterReferenceValue)) p end value = value
    at_cursor bytes decode a _ p end value = tt

-- a span that is no item may end where it began
pub transparent_exit : (a : Stage) → (if are_beside a a then Some a else None) ≡ Some a
transparent_exit a = (λ i. if beside a i then Some a else None)

-- ---- Which pieces come before a text

-- a state says less after others
pub says_at : {R : Type 0} (w : Written R) (r s : State) → SaysAll r s → IsAt w s.stage s.outer → IsAt w r.stage r.outer
says_at w r s (same _ is) at = subst (λ (u : State). IsAt w u.stage u.outer) is at
says_at w r s (more _ t skip outer rest) at = says_at w r t rest (weakened w s.stage t.stage t.outer skip (subst (λ (os : List Enclosing). IsAt w s.stage os) outer at))

pub says_outer : (r s : State) → SaysAll r s → s.outer ≡ r.outer
says_outer r s (same _ is) = ap (λ (u : State). u.outer) is
says_outer r s (more _ t skip outer rest) = outer ∙ says_outer r t rest

-- ---- Line endings among inlines

-- the stage after a line ending, by whether a break waits for it
pub after_inline_ending : (waits : Bool) (h : Bool) → after_line waits (inlines h) (role_of LineEndingName) ≡ Some (inlines h)
after_inline_ending true h = refl
after_inline_ending false h = refl

pub after_ending : (a : Stage) → takes_line_endings a ≡ true → after_line false a (role_of LineEndingName) ≡ Some a
after_ending a takes = ending_stage a takes

-- ---- Strings

-- a string in a span stands among inlines
pub record StandsAsString (a : Stage) (name : Name) (c : Stage) : Type 0 where
  pub after : after_string a name ≡ Some c
  pub begins : entered a (role_of name) ≡ Some (inlines false)
  pub ends : exited (inlines false) a (role_of name) ≡ Some c
  pub skip : skips a c ≡ true
  pub front : (bytes : List ℕ) (p : Point) → HasFront bytes p (role_of name)

string_part : (a : Stage) (name : Name) (r : Role) (c : Stage) → role_of name ≡ r → after_string_in a r ≡ Some c → StandsAsString a name c
string_part a name (significant (part p)) c role is = by (in_part a p) refl is
  where
    skipped : (b : Bool) (x : Stage) → skips a x ≡ b → (if b then Some x else None) ≡ Some c → (x ≡ c) × (skips a x ≡ true)
    skipped true x s e = (same_Some x c e, s)
    skipped false x s e = absurd (cc e)

    ended : (o : Option Stage) → exited (inlines false) a (significant (part p)) ≡ o → if_skips a o ≡ Some c → (exited (inlines false) a (significant (part p)) ≡ Some c) × (skips a c ≡ true)
    ended None s e = absurd (cc e)
    ended (Some x) s e = let k = skipped (skips a x) x refl e in (s ∙ ap (λ (y : Stage). Some y) k.0, subst (λ (y : Stage). skips a y ≡ true) k.0 k.1)

    by : (o : Option Stage) → in_part a p ≡ o → if_skips a (after_inlines a p o) ≡ Some c → StandsAsString a name c
    by (Some (inlines false)) s e =
        let k = ended (exited (inlines false) a (significant (part p))) refl e in
        record {
          after = ap (after_string_in a) role ∙ is;
          begins = ap (entered a) role ∙ s;
          ends = ap (exited (inlines false) a) role ∙ k.0;
          skip = k.1;
          front = λ bytes q. subst (λ (r : Role). HasFront bytes q r) (sym role) tt;
        }
    by _ s e = absurd (cc e)
string_part a name _ c role is = absurd (cc is)

pub string_stands : (a : Stage) (name : Name) (c : Stage) → after_string a name ≡ Some c → StandsAsString a name c
string_stands a name c is = string_part a name (role_of name) c refl is
