-- The brackets that are open among the tokens so far.
use Rattle.std.proofs.Common.{◌≡◌, ◌≤◌, ◌<◌, ◌+◌, ◌++◌, ◌∷◌, ◌⊎◌, List, None, Option, Some, [], ap, arith, get_or, inl, inr, length, refl, set, slice_get, slice_index, subst, suc, sym, true, zero, ℕ}
use Rattle.std.proofs.lemmas.List.Elements.{All-get_or, All-set, All-weaker}
use Rattle.markdown_text.specs.Contents.{IsAsciiPart, IsPart}
use Rattle.markdown_text.specs.Reached.{AreOpen, AreOpenWith, IsOpen, IsStartOf, IsWith, Reach, ReachAsFar, form_size, starts_label}
use Rattle.markdown_text.specs.Tokens.{BeginsLabel, IsToken, label_start}
use Rattle.markdown_text.specs.declared.brackets.Bracket.{Bracket}
use Rattle.markdown_text.specs.declared.brackets.LabelForm.{LabelForm}
use Rattle.markdown_text.specs.declared.token.Found.{Found}
use Rattle.markdown_text.specs.declared.token.Labelled.{Labelled}
use Rattle.markdown_text.specs.declared.token.Token.{Token}
use Rattle.markdown_text.specs.declared.token.TokenKind.{TokenKind}
use Rattle.markdown_text.specs.declared.token.TokenKind.TheVariants.{Attention, Autolink, AutolinkLiteral, CharacterEscape, CharacterReference, CodeText, HardBreakEscape, HtmlText, LabelEnd, LabelStart, LineEnding, MathText, TaskListItemCheck}

-- ---- One token more

get_before : (ts : List Token) (t u : Token) (i : ℕ) → slice_get ts i ≡ Some u → slice_get (ts ++ t ∷ []) i ≡ Some u
get_before [] t u i at = absurd (cc at)
get_before (v ∷ ts) t u zero at = at
get_before (v ∷ ts) t u (suc i) at = get_before ts t u i at

get_last : (ts : List Token) (t : Token) (i : ℕ) → i ≡ length ts → slice_get (ts ++ t ∷ []) i ≡ Some t
get_last [] t i same = subst (λ (n : ℕ). slice_get (t ∷ []) n ≡ Some t) (sym same) refl
get_last (v ∷ ts) t i same = subst (λ (n : ℕ). slice_get (v ∷ ts ++ t ∷ []) n ≡ Some t) (sym same) (get_last ts t (length ts) refl)

open_before : (ts : List Token) (t : Token) (b : Bracket) → IsOpen ts b → IsOpen (ts ++ t ∷ []) b
open_before ts t b (u, at, start) = (u, get_before ts t u b.token at, start)

-- brackets stay open where a token comes after those so far
pub open_with : (ts us : List Token) (kind : Option TokenKind) (from to : ℕ) (bs : List Bracket) → IsWith ts from kind to us → AreOpen ts bs → AreOpen us bs
open_with ts us None from to bs same opened = subst (λ (vs : List Token). AreOpen vs bs) (sym same) opened
open_with ts us (Some kind) from to bs (t, of, first, last, same) opened =
    subst (λ (vs : List Token). AreOpen vs bs) (sym same) (All-weaker (IsOpen ts) (IsOpen (ts ++ t ∷ [])) (open_before ts t) bs opened)

-- the same, as what a step says
pub open_kept : (ts old : List Token) (bs before : List Bracket) (at : ℕ) (found : Found) → ts ≡ old → bs ≡ before → AreOpen old before → AreOpenWith ts at found bs
open_kept ts old bs before at found same also opened us with =
    let first = subst (λ (vs : List Token). AreOpen vs before) (sym same) opened in
    open_with ts us found.kind at (at + found.size) bs with (subst (λ (cs : List Bracket). AreOpen ts cs) (sym also) first)

-- a token that is what was found
pub with_token : (ts us : List Token) (t : Token) (kind : Option TokenKind) (from to : ℕ) → kind ≡ Some t.kind → t.start ≡ from → t.end ≡ to → us ≡ ts ++ t ∷ [] → IsWith ts from kind to us
with_token ts us t kind from to is first last same = subst (λ (k : Option TokenKind). IsWith ts from k to us) (sym is) (t, refl, first, last, same)

-- the bracket whose start is what was found
pub open_new : (ts us : List Token) (b : Bracket) (kind : Option TokenKind) (from to : ℕ) → kind ≡ Some (LabelStart None) → b.token ≡ length ts → from + form_size b.form ≤ to → IsWith ts from kind to us → IsOpen us b
open_new ts us b kind from to is last size with = by (subst (λ (k : Option TokenKind). IsWith ts from k to us) is with)
  where
    by : IsWith ts from (Some (LabelStart None)) to us → IsOpen us b
    by (t, of, start, end, same) = (
      t,
      subst (λ (vs : List Token). slice_get vs b.token ≡ Some t) (sym same) (get_last ts t b.token last),
      (ap starts_label of, omega (arith, start, end, size)),
    )

-- ---- A label that is known

-- tokens, of which the one at a place, the start of a label, is of another label
pub label_reach : (ts : List Token) (i : ℕ) (t u : Token) (form : LabelForm) (label : Labelled) → slice_get ts i ≡ Some t → IsStartOf form t → label_start label ≤ form_size form → u.kind ≡ LabelStart (Some label) → u.start ≡ t.start → u.end ≡ t.end → ReachAsFar ts (set ts i u)
label_reach [] i t u form label at start size is first last text from to reach = absurd (cc at)
label_reach (v ∷ ts) zero t u form label at start size is first last text from to reach =
    let e : v ≡ t = cc at in
    let before : IsPart text.bytes from t.start = subst (λ (w : Token). IsPart text.bytes from w.start) e reach.0 in
    let token : IsToken text t.kind t.start t.end = subst (λ (w : Token). IsToken text w.kind w.start w.end) e reach.1 in
    let rest : Reach text t.end ts to = subst (λ (w : Token). Reach text w.end ts to) e reach.2 in
    let long = start.1 in (
      subst (λ (n : ℕ). IsPart text.bytes from n) (sym first) before,
      subst (λ (k : TokenKind). IsToken text k u.start u.end) (sym is) (
        subst (λ (n : ℕ). IsAsciiPart text.bytes n u.end) (sym first) (subst (λ (n : ℕ). IsAsciiPart text.bytes t.start n) (sym last) (begun t.kind start.0 token).0),
        omega (arith, first, last, long, size),
        subst (λ (n : ℕ). BeginsLabel (slice_index text.bytes n)) (sym first) (begun t.kind start.0 token).1,
      ),
      subst (λ (n : ℕ). Reach text n ts to) (sym last) rest,
    )
  where
    begun : (kind : TokenKind) → starts_label kind ≡ true → IsToken text kind t.start t.end → IsAsciiPart text.bytes t.start t.end × BeginsLabel (slice_index text.bytes t.start)
    begun (LabelStart known) begins token = (token.0, token.2)
    begun LineEnding begins token = absurd (cc begins)
    begun HardBreakEscape begins token = absurd (cc begins)
    begun CharacterEscape begins token = absurd (cc begins)
    begun (CharacterReference kind) begins token = absurd (cc begins)
    begun (CodeText n) begins token = absurd (cc begins)
    begun (MathText n) begins token = absurd (cc begins)
    begun (Autolink name) begins token = absurd (cc begins)
    begun HtmlText begins token = absurd (cc begins)
    begun (AutolinkLiteral name) begins token = absurd (cc begins)
    begun Attention begins token = absurd (cc begins)
    begun (LabelEnd known target) begins token = absurd (cc begins)
    begun (TaskListItemCheck checked) begins token = absurd (cc begins)
label_reach (v ∷ ts) (suc i) t u form label at start size is first last text from to reach =
    (reach.0, reach.1, label_reach ts i t u form label at start size is first last text v.end to reach.2)

-- a token in their place, or another one as before
get_set : (ts : List Token) (i j : ℕ) (t u v : Token) → slice_get ts i ≡ Some t → slice_get ts j ≡ Some v → ((slice_get (set ts i u) j ≡ Some u) × (v ≡ t)) ⊎ (slice_get (set ts i u) j ≡ Some v)
get_set [] i j t u v at there = absurd (cc at)
get_set (w ∷ ts) zero zero t u v at there = let same : v ≡ t = cc (at, there) in inl (refl, same)
get_set (w ∷ ts) zero (suc j) t u v at there = inr there
get_set (w ∷ ts) (suc i) zero t u v at there = inr there
get_set (w ∷ ts) (suc i) (suc j) t u v at there = get_set ts i j t u v at there

-- brackets stay open with it
pub label_open : (ts : List Token) (bs : List Bracket) (i : ℕ) (t u : Token) (label : Labelled) → slice_get ts i ≡ Some t → u.kind ≡ LabelStart (Some label) → u.start ≡ t.start → u.end ≡ t.end → AreOpen ts bs → AreOpen (set ts i u) bs
label_open ts bs i t u label at is first last opened = All-weaker (IsOpen ts) (IsOpen (set ts i u)) one bs opened
  where
    one : (b : Bracket) → IsOpen ts b → IsOpen (set ts i u) b
    one b (v, there, start) = by (get_set ts i b.token t u v at there)
      where
        by : ((slice_get (set ts i u) b.token ≡ Some u) × (v ≡ t)) ⊎ (slice_get (set ts i u) b.token ≡ Some v) → IsOpen (set ts i u) b
        by (inl (here, same)) =
            let long = start.1 in
            let from : v.start ≡ t.start = ap (λ (w : Token). w.start) same in
            let to : v.end ≡ t.end = ap (λ (w : Token). w.end) same in
            (u, here, (ap starts_label is, omega (arith, first, last, long, from, to)))
        by (inr other) = (v, other, start)

-- ---- The brackets themselves

-- a bracket of the same token and form in the place of another
pub bracket_set : (ts : List Token) (bs : List Bracket) (i : ℕ) (b : Bracket) (d : Bracket) → i < length bs → b.token ≡ (get_or bs i d).token → b.form ≡ (get_or bs i d).form → AreOpen ts bs → AreOpen ts (set bs i b)
bracket_set ts bs i b d within token form opened = All-set (IsOpen ts) bs i b (same (All-get_or (IsOpen ts) bs i d within opened)) opened
  where
    same : IsOpen ts (get_or bs i d) → IsOpen ts b
    same (t, at, start) = (t, subst (λ (n : ℕ). slice_get ts n ≡ Some t) (sym token) at, subst (λ (f : LabelForm). IsStartOf f t) (sym form) start)
