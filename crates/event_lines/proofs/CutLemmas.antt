-- Lemmas on a text that is cut at its separators.
use Rattle.std.proofs.Common.{◌≡◌, ◌≢◌, ℕ, zero, suc, ◌+◌, ◌-◌, ◌<◌, ◌≤◌, List, [], ◌∷◌, ◌++◌, Option, Some, None, Bool, true, false, cond, eqb, not, ◌&&◌, ◌⊎◌, inl, inr, length, get_or, take, drop, unwrap_or, refl, sym, ◌∙◌, ap, arith, add-one}
use Rattle.std.proofs.lemmas.Bool.Decides.{nat_tests}
use Rattle.std.proofs.lemmas.Grind.{common_steps}
use Rattle.std.proofs.lemmas.List.{take-append-drop}
use Rattle.std.proofs.Math.Seq.{drop-cons}
use Rattle.std.specs.List.{onto_first}
use Rattle.markdown_events.proofs.Spellings.{lacks}
use Rattle.event_lines.specs.Lines.{before, after, pieces}
use Rattle.event_lines.specs.Fronts.{rest_after}

-- nothing comes after a byte that a text has not
pub after_none : (c : ℕ) (bs : List ℕ) → ((k : ℕ) → k < length bs → get_or bs k 0 ≢ c) → after c bs ≡ None
after_none c [] h = refl
after_none c (b ∷ bs) h =
    let rest : after c bs ≡ None = after_none c bs (λ k lt. h (suc k) (omega arith)) in
    let ne : eqb b c ≡ false = grind (arith, nat_tests, h 0 (omega arith)) in
    rw ne rest

-- what is before the first such byte, by its index
pub before_at : (c : ℕ) (bs : List ℕ) (i : ℕ) → i < length bs → get_or bs i 0 ≡ c → ((k : ℕ) → k < i → get_or bs k 0 ≢ c) → before c bs ≡ take i bs
before_at c [] i lt at h = absurd (omega arith)
before_at c (b ∷ bs) zero lt at h = let e : eqb b c ≡ true = grind (arith, nat_tests) in rw e refl
before_at c (b ∷ bs) (suc i) lt at h =
    let rest : before c bs ≡ take i bs = before_at c bs i (omega arith) at (λ k l. h (suc k) (omega arith)) in
    let ne : eqb b c ≡ false = grind (arith, nat_tests, h 0 (omega arith)) in
    rw (ne, rest) refl

-- the pieces, by the first of them
abbrev pub more_pieces : ℕ → Option (List ℕ) → List (List ℕ)
more_pieces c None = []
more_pieces c (Some bs) = pieces c bs

-- a byte goes onto the first piece
onto_front : (b : ℕ) (ps : List (List ℕ)) (front : List ℕ) (qs : List (List ℕ)) → ps ≡ front ∷ qs → onto_first b ps ≡ (b ∷ front) ∷ qs
onto_front b ps front qs e = rw e refl

step_pieces : (c b : ℕ) (bs : List ℕ) (t : Bool) → pieces c bs ≡ before c bs ∷ more_pieces c (after c bs)
    → cond t ([] ∷ pieces c bs) (onto_first b (pieces c bs)) ≡ cond t [] (b ∷ before c bs) ∷ more_pieces c (cond t (Some bs) (after c bs))
step_pieces c b bs true h = refl
step_pieces c b bs false h = onto_front b _ _ _ h

-- the first piece is what is before the first separator
pub pieces_first : (c : ℕ) (bs : List ℕ) → pieces c bs ≡ before c bs ∷ more_pieces c (after c bs)
pieces_first c [] = refl
pieces_first c (b ∷ bs) = step_pieces c b bs (eqb b c) (pieces_first c bs)

-- a slice from an index
abbrev pub from : List ℕ → ℕ → List ℕ
from text i = take (length text - i) (drop i text)

-- which is all that comes after it
pub from_is : (text : List ℕ) (i : ℕ) → from text i ≡ drop i text
from_is text i = grind (arith, common_steps)

-- the byte after so many, and what comes after it
pub drop_at : (text : List ℕ) (n y : ℕ) → n < length text → get_or text n 0 ≡ y → drop n text ≡ y ∷ from text (n + 1)
drop_at text n y lt e = drop-cons text n 0 lt ∙ ap (λ b. b ∷ drop (suc n) text) e ∙ ap (λ k. y ∷ drop k text) (sym (add-one n)) ∙ ap (λ l. y ∷ l) (sym (from_is text (n + 1)))

-- a text by its first bytes and what comes after them
pub parts_of : (text : List ℕ) (n : ℕ) (ys : List ℕ) → drop n text ≡ ys → text ≡ take n text ++ ys
parts_of text n ys e = sym (take-append-drop n text) ∙ ap (λ l. take n text ++ l) e

-- a byte that is no separator
pub step_before : (c y : ℕ) (zs : List ℕ) → y ≢ c → before c (y ∷ zs) ≡ y ∷ before c zs
step_before c y zs ne = let no : eqb y c ≡ false = grind (arith, nat_tests) in rw no refl

-- a text by its first byte and the rest
pub first_and_rest : (text : List ℕ) → 0 < length text → text ≡ get_or text 0 0 ∷ from text 1
first_and_rest text lt = drop_at text 0 (get_or text 0 0) lt refl

-- after a text there is nothing
pub get_or_all : (text : List ℕ) → get_or text (length text) 0 ≡ 0
get_or_all [] = refl
get_or_all (b ∷ bs) = get_or_all bs

pub get_or_past : (text : List ℕ) (i : ℕ) → length text ≤ i → get_or text i 0 ≡ 0
get_or_past [] i le = refl
get_or_past (b ∷ bs) zero le = absurd (omega arith)
get_or_past (b ∷ bs) (suc i) le = get_or_past bs i (omega arith)

-- before a separator stands what has none
step_lacking : (c b : ℕ) (ds zs : List ℕ) (t f : Bool) → not t && f ≡ true → (f ≡ true → before c (ds ++ zs) ≡ ds ++ before c zs) → cond t [] (b ∷ before c (ds ++ zs)) ≡ b ∷ (ds ++ before c zs)
step_lacking c b ds zs true f h more = absurd (cc)
step_lacking c b ds zs false f h more = ap (λ l. b ∷ l) (more h)

pub before_lacking : (c : ℕ) (ds zs : List ℕ) → lacks c ds ≡ true → before c (ds ++ zs) ≡ ds ++ before c zs
before_lacking c [] zs h = refl
before_lacking c (d ∷ ds) zs h = step_lacking c d ds zs (eqb d c) (lacks c ds) h (before_lacking c ds zs)

-- and after it what would come after it without that
step_lacking_after : (c b : ℕ) (ds zs : List ℕ) (t f : Bool) → not t && f ≡ true → (f ≡ true → after c (ds ++ zs) ≡ after c zs) → cond t (Some (ds ++ zs)) (after c (ds ++ zs)) ≡ after c zs
step_lacking_after c b ds zs true f h more = absurd (cc)
step_lacking_after c b ds zs false f h more = more h

pub after_lacking : (c : ℕ) (ds zs : List ℕ) → lacks c ds ≡ true → after c (ds ++ zs) ≡ after c zs
after_lacking c [] zs h = refl
after_lacking c (d ∷ ds) zs h = step_lacking_after c d ds zs (eqb d c) (lacks c ds) h (after_lacking c ds zs)

-- what is before a separator in the first line, if it stands there
step_before_in_line_inner : (c d b : ℕ) (bs : List ℕ) (u : Bool) → (after d (before c bs) ≡ None) ⊎ (before d (before c bs) ≡ before d bs)
    → (cond u (Some (before c bs)) (after d (before c bs)) ≡ None) ⊎ (cond u [] (b ∷ before d (before c bs)) ≡ cond u [] (b ∷ before d bs))
step_before_in_line_inner c d b bs true h = inr refl
step_before_in_line_inner c d b bs false (inl h) = inl h
step_before_in_line_inner c d b bs false (inr h) = inr (ap (λ l. b ∷ l) h)

step_before_in_line : (c d b : ℕ) (bs : List ℕ) (t : Bool) → (after d (before c bs) ≡ None) ⊎ (before d (before c bs) ≡ before d bs)
    → (after d (cond t [] (b ∷ before c bs)) ≡ None) ⊎ (before d (cond t [] (b ∷ before c bs)) ≡ before d (b ∷ bs))
step_before_in_line c d b bs true h = inl refl
step_before_in_line c d b bs false h = step_before_in_line_inner c d b bs (eqb b d) h

pub before_in_line : (c d : ℕ) (xs : List ℕ) → (after d (before c xs) ≡ None) ⊎ (before d (before c xs) ≡ before d xs)
before_in_line c d [] = inl refl
before_in_line c d (b ∷ bs) = step_before_in_line c d b bs (eqb b c) (before_in_line c d bs)

-- no separator in a text, and so none in its first line
step_none_in_line_inner : (c d : ℕ) (bs : List ℕ) (u : Bool) → cond u (Some bs) (after d bs) ≡ None → (after d bs ≡ None → after d (before c bs) ≡ None) → cond u (Some (before c bs)) (after d (before c bs)) ≡ None
step_none_in_line_inner c d bs true h more = absurd (cc)
step_none_in_line_inner c d bs false h more = more h

step_none_in_line : (c d b : ℕ) (bs : List ℕ) (t : Bool) → after d (b ∷ bs) ≡ None → (after d bs ≡ None → after d (before c bs) ≡ None) → after d (cond t [] (b ∷ before c bs)) ≡ None
step_none_in_line c d b bs true h more = refl
step_none_in_line c d b bs false h more = step_none_in_line_inner c d bs (eqb b d) h more

pub none_in_line : (c d : ℕ) (xs : List ℕ) → after d xs ≡ None → after d (before c xs) ≡ None
none_in_line c d [] h = refl
none_in_line c d (b ∷ bs) h = step_none_in_line c d b bs (eqb b c) h (none_in_line c d bs)

-- a text that ends with its first separator, and more
step_front : (c b : ℕ) (bs rest : List ℕ) (t : Bool) → cond t (Some bs) (after c bs) ≡ Some [] → (after c bs ≡ Some [] → after c (bs ++ rest) ≡ Some rest) → cond t (Some (bs ++ rest)) (after c (bs ++ rest)) ≡ Some rest
step_front c b [] rest true h more = refl
step_front c b (d ∷ bs) rest true h more = absurd (cc)
step_front c b bs rest false h more = more h

pub after_front : (c : ℕ) (xs rest : List ℕ) → after c xs ≡ Some [] → after c (xs ++ rest) ≡ Some rest
after_front c [] rest h = absurd (cc)
after_front c (b ∷ bs) rest h = step_front c b bs rest (eqb b c) h (after_front c bs rest)

step_front_before : (c b : ℕ) (bs rest : List ℕ) (t : Bool) → cond t (Some bs) (after c bs) ≡ Some [] → (after c bs ≡ Some [] → before c (bs ++ rest) ≡ before c bs) → cond t [] (b ∷ before c (bs ++ rest)) ≡ cond t [] (b ∷ before c bs)
step_front_before c b bs rest true h more = refl
step_front_before c b bs rest false h more = ap (λ l. b ∷ l) (more h)

pub before_front : (c : ℕ) (xs rest : List ℕ) → after c xs ≡ Some [] → before c (xs ++ rest) ≡ before c xs
before_front c [] rest h = absurd (cc)
before_front c (b ∷ bs) rest h = step_front_before c b bs rest (eqb b c) h (before_front c bs rest)

-- what comes after a byte is no longer
step_short : (c : ℕ) (bs : List ℕ) (t : Bool) → length (rest_after c bs) ≤ length bs → length (unwrap_or (cond t (Some bs) (after c bs)) []) ≤ length bs
step_short c bs true h = omega arith
step_short c bs false h = h

pub rest_short : (c : ℕ) (xs : List ℕ) → length (rest_after c xs) ≤ length xs
rest_short c [] = omega arith
rest_short c (b ∷ bs) = let h : length (unwrap_or (cond (eqb b c) (Some bs) (after c bs)) []) ≤ length bs = step_short c bs (eqb b c) (rest_short c bs) in omega (arith, h)

-- and shorter where there is a byte
pub rest_shorter : (c : ℕ) (xs : List ℕ) → 0 < length xs → length (rest_after c xs) < length xs
rest_shorter c [] some = absurd (omega arith)
rest_shorter c (b ∷ bs) some = let h : length (unwrap_or (cond (eqb b c) (Some bs) (after c bs)) []) ≤ length bs = step_short c bs (eqb b c) (rest_short c bs) in omega (arith, h)

-- a line with its end
pub record IsLine (c : ℕ) (front xs : List ℕ) : Type 0 where
  pub ends : after c front ≡ Some []
  pub same : before c front ≡ before c xs

-- the bytes of a line with its end, where something comes after
step_line : (c b : ℕ) (bs : List ℕ) (m : ℕ) (t : Bool) → 0 < length (unwrap_or (cond t (Some bs) (after c bs)) []) → suc m + length (unwrap_or (cond t (Some bs) (after c bs)) []) ≡ suc (length bs)
    → (0 < length (rest_after c bs) → m + length (rest_after c bs) ≡ length bs → IsLine c (take m bs) bs)
    → (cond t (Some (take m bs)) (after c (take m bs)) ≡ Some []) × (cond t [] (b ∷ before c (take m bs)) ≡ cond t [] (b ∷ before c bs))
step_line c b bs m true some h more =
    let none : m ≡ 0 = omega arith in
    (ap (λ k. Some (take k bs)) none, refl)
step_line c b bs m false some h more =
    let line = more some (omega arith) in
    (line.ends, ap (λ l. b ∷ l) line.same)

pub line_front : (c : ℕ) (xs : List ℕ) (n : ℕ) → 0 < length (rest_after c xs) → n + length (rest_after c xs) ≡ length xs → IsLine c (take n xs) xs
line_front c [] n some all = absurd (omega arith)
line_front c (b ∷ bs) zero some all =
    let h : length (unwrap_or (cond (eqb b c) (Some bs) (after c bs)) []) ≤ length bs = step_short c bs (eqb b c) (rest_short c bs) in
    absurd (omega (arith, h, all))
line_front c (b ∷ bs) (suc m) some all =
    let parts = step_line c b bs m (eqb b c) some all (line_front c bs m) in
    record { ends = parts.0; same = parts.1 }
