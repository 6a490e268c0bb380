-- The stack of the runs that may open something.
use Rattle.std.proofs.Common.{◌≡◌, ◌≢◌, ℕ, zero, suc, ◌+◌, ◌-◌, ◌<◌, ◌≤◌, Bool, true, false, List, [], ◌∷◌, ◌++◌, drop, take, get_or, length, length-take, refl, sym, ◌∙◌, ap, subst, inl, inr, arith, cond}
use Rattle.std.specs.Prelude.{◌&&◌, ◌==◌, nat_lt, slice_index, slice_set, min}
use Rattle.std.proofs.lemmas.Bool.Decides.{nat_tests}
use Rattle.std.proofs.lemmas.Bool.{and_parts, cases_Bool, cases_eq}
use Rattle.std.proofs.Math.Bool.{and-false}
use Rattle.std.proofs.Math.Seq.{take-length}
use Rattle.std.proofs.lemmas.List.{take-append-drop}
use Rattle.std.proofs.lemmas.List.Elements.{All-head, All-rest}
use Rattle.markdown_attention.specs.declared.run.Run.{Run}
use Rattle.markdown_attention.specs.Emphasis.{DelimiterRun, NoneOpens, is_opener_of, goes_with, kept, kind_with, opened, strength}
use Rattle.markdown_attention.specs.Emphasis.{kind_size}
use Rattle.markdown_attention.specs.declared.delimiter.AttentionKind.TheVariants.{Emphasis, Strong, Strikethrough, DoubleStrikethrough}
use Rattle.markdown_attention.specs.Openers.{AreBottoms, AreOpeners, AreWithin, IsNearest, IsSound, MayClose, class_of}
use Rattle.markdown_attention.specs.Runs.{AreReady, IsDelimiterRun, IsReady, view, views}
use Rattle.markdown_attention.proofs.Classes.{class_goes}

-- The run at a place, and those after it.
pub drop_at : (runs : List Run) (i : ℕ) (r : Run) → i < length runs → r ≡ get_or runs i r → drop i (views runs) ≡ view r ∷ drop (suc i) (views runs)
drop_at [] i r less e = absurd (omega (arith, less))
drop_at (x ∷ runs) zero r less e = ap (λ y. view y ∷ views runs) (sym e)
drop_at (x ∷ runs) (suc i) r less e = drop_at runs i r (omega (arith, less)) e

pub views_length : (runs : List Run) → length (views runs) ≡ length runs
views_length [] = refl
views_length (x ∷ runs) = ap suc (views_length runs)

-- A run that does not go with the closing one is no opener of it.
pub unfit : (opener closer : DelimiterRun) → goes_with opener closer ≡ false → is_opener_of opener closer ≡ false
unfit opener closer e = elim (cases_Bool (opener.can_open && closer.can_close)) [
  | inl able ↦ ap (λ b. b && goes_with opener closer) able ∙ e
  | inr shut ↦ ap (λ b. b && goes_with opener closer) shut
]

pub none_on : (runs : List Run) (closer : DelimiterRun) (height : ℕ) (r : Run) → 0 < height → height ≤ length runs → r ≡ get_or runs (height - 1) r → goes_with (view r) closer ≡ false
    → NoneOpens (drop height (views runs)) closer → NoneOpens (drop (height - 1) (views runs)) closer
none_on runs closer height r some fits_in e other none =
    let same : suc (height - 1) ≡ height = omega (arith, some) in
    subst (λ x. NoneOpens x closer) (sym (drop_at runs (height - 1) r (omega (arith, some, fits_in)) e))
    (unfit (view r) closer other, subst (λ n. NoneOpens (drop n (views runs)) closer) (sym same) none)

-- A run of the stack that goes with the closing one is an opener of it.
opens_at : (runs : List DelimiterRun) (i : ℕ) (r : DelimiterRun) (rest : List DelimiterRun) → AreOpeners runs → drop i runs ≡ r ∷ rest → r.can_open ≡ true
opens_at [] zero r rest able e = cc
opens_at [] (suc i) r rest able e = cc
opens_at (x ∷ runs) zero r rest able e = let same : x ≡ r = cc in ap (λ (y : DelimiterRun). y.can_open) (sym same) ∙ able.0.1
opens_at (x ∷ runs) (suc i) r rest able e = opens_at runs i r rest able.1 e

pub nearest : (runs : List Run) (closer : DelimiterRun) (height : ℕ) (r : Run) → AreOpeners (views runs) → closer.can_close ≡ true → 0 < height → height ≤ length runs → r ≡ get_or runs (height - 1) r → goes_with (view r) closer ≡ true
    → NoneOpens (drop height (views runs)) closer → IsNearest (views runs) closer (height - 1 + 1)
nearest runs closer height r able closes some fits_in e goes none =
    let same : suc (height - 1) ≡ height = omega (arith, some) in
    let at : drop (height - 1) (views runs) ≡ view r ∷ drop (suc (height - 1)) (views runs) = drop_at runs (height - 1) r (omega (arith, some, fits_in)) e in record {
      before = take (height - 1) (views runs);
      opener = view r;
      after = drop (suc (height - 1)) (views runs);
      runs_are = sym (take-append-drop (height - 1) (views runs)) ∙ ap (λ (x : List DelimiterRun). take (height - 1) (views runs) ++ x) at;
      height_is = ap (λ n. n + 1) (length-take (height - 1) (views runs) ∙ omega (arith, views_length runs, fits_in, some));
      fit = rw (opens_at (views runs) (height - 1) (view r) (drop (suc (height - 1)) (views runs)) able at, closes, goes) refl;
      none = subst (λ n. NoneOpens (drop n (views runs)) closer) (sym same) none;
    }

-- No run below the bottom is an opener, and none above it: then none is.
none_both : (front rest : List DelimiterRun) (closer : DelimiterRun) → NoneOpens front closer → NoneOpens rest closer → NoneOpens (front ++ rest) closer
none_both [] rest closer first second = second
none_both (r ∷ front) rest closer first second = (first.0, none_both front rest closer first.1 second)

none_more : (runs : List DelimiterRun) (closer : DelimiterRun) (k n : ℕ) → k ≤ n → NoneOpens (take n runs) closer → NoneOpens (drop k runs) closer → NoneOpens runs closer
none_more runs closer zero n le first second = second
none_more [] closer (suc k) n le first second = tt
none_more (r ∷ runs) closer (suc k) zero le first second = absurd (omega (arith, le))
none_more (r ∷ runs) closer (suc k) (suc n) le first second = (first.0, none_more runs closer k n (omega (arith, le)) first.1 second)

pub none_left : (bottoms : List ℕ) (runs : List DelimiterRun) (closer : DelimiterRun) (height bottom : ℕ) → bottom ≡ slice_index bottoms (class_of closer) → height ≤ bottom → NoneOpens (drop height runs) closer
    → AreBottoms bottoms runs → IsDelimiterRun closer → NoneOpens runs closer
none_left bottoms runs closer height bottom e le none are is =
    none_more runs closer height bottom le (subst (λ n. NoneOpens (take n runs) closer) (sym e) (are closer is)) none

-- The run on top.
pub top_is : (runs : List Run) (n : ℕ) (r : Run) (before : List DelimiterRun) (opener : DelimiterRun) → views runs ≡ before ++ (opener ∷ []) → n + 1 ≡ length runs → r ≡ get_or runs n r → view r ≡ opener
top_is [] n r before opener e size at = absurd (omega (arith, size))
top_is (x ∷ []) n r [] opener e size at = (let zeroth : n ≡ 0 = (omega (arith, size)) in let same : r ≡ x = at ∙ ap (λ m. get_or (x ∷ []) m r) zeroth in let top : view x ≡ opener = cc in ap view same ∙ top)
top_is (x ∷ []) n r (b ∷ []) opener e size at = cc
top_is (x ∷ []) n r (b ∷ d ∷ before) opener e size at = cc
top_is (x ∷ y ∷ runs) n r [] opener e size at = cc
top_is (x ∷ y ∷ runs) zero r (b ∷ before) opener e size at = absurd (omega (arith, size))
top_is (x ∷ y ∷ runs) (suc n) r (b ∷ before) opener e size at = (let rest : views (y ∷ runs) ≡ before ++ (opener ∷ []) = cc in let fits_in : n + 1 ≡ length (y ∷ runs) = (omega (arith, size)) in top_is (y ∷ runs) n r before opener rest fits_in at)

pub top_set : (runs : List Run) (n : ℕ) (r : Run) (before : List DelimiterRun) (opener : DelimiterRun) → views runs ≡ before ++ (opener ∷ []) → n + 1 ≡ length runs → views (slice_set runs n r) ≡ before ++ (view r ∷ [])
top_set [] n r before opener e size = absurd (omega (arith, size))
top_set (x ∷ []) n r [] opener e size = (let zeroth : n ≡ 0 = (omega (arith, size)) in ap (λ m. views (slice_set (x ∷ []) m r)) zeroth)
top_set (x ∷ []) n r (b ∷ []) opener e size = cc
top_set (x ∷ []) n r (b ∷ d ∷ before) opener e size = cc
top_set (x ∷ y ∷ runs) n r [] opener e size = cc
top_set (x ∷ y ∷ runs) zero r (b ∷ before) opener e size = absurd (omega (arith, size))
top_set (x ∷ y ∷ runs) (suc n) r (b ∷ before) opener e size =
    let first : view x ≡ b = cc in
    let rest : views (y ∷ runs) ≡ before ++ (opener ∷ []) = cc in
    let fits_in : n + 1 ≡ length (y ∷ runs) = (omega (arith, size)) in
    ap (λ z. z ∷ views (slice_set (y ∷ runs) n r)) first ∙ ap (λ (z : List DelimiterRun). b ∷ z) (top_set (y ∷ runs) n r before opener rest fits_in)

-- The markers that a pair takes.
kind_two : (t : Bool) → kind_size (cond t DoubleStrikethrough Strong) ≡ 2
kind_two true = refl
kind_two false = refl

kind_one : (t : Bool) → kind_size (cond t Strikethrough Emphasis) ≡ 1
kind_one true = refl
kind_one false = refl

is_double : (a b : ℕ) → (nat_lt 1 a && nat_lt 1 b) ≡ true → (1 < a) × (1 < b)
is_double a b e = let parts = and_parts (nat_lt 1 a) (nat_lt 1 b) e in (grind (arith, nat_tests, parts.0), grind (arith, nat_tests, parts.1))

two_of : (n a b : ℕ) → n ≡ 2 → 1 < a → 1 < b → min (min n a) b ≡ 2
two_of n a b e f g = grind (arith, e, f, g)

one_of : (n a b : ℕ) → n ≡ 1 → 0 < a → 0 < b → min (min n a) b ≡ 1
one_of n a b e f g = grind (arith, e, f, g)

sized : (t d : Bool) (n a b : ℕ) → (nat_lt 1 a && nat_lt 1 b) ≡ d → 0 < a → 0 < b → n ≡ kind_size (cond t (cond d DoubleStrikethrough Strikethrough) (cond d Strong Emphasis)) → min (min n a) b ≡ cond d 2 1
sized t true n a b is f g e = let both = is_double a b is in two_of n a b (e ∙ kind_two t) both.0 both.1
sized t false n a b is f g e = one_of n a b (e ∙ kind_one t) f g

pub strength_is : (o c : DelimiterRun) (n : ℕ) → 0 < o.left → 0 < c.left → n ≡ kind_size (kind_with o c) → min (min n o.left) c.left ≡ strength o c
strength_is o c n some_o some_c e = sized (o.marker == 126) (nat_lt 1 o.left && nat_lt 1 c.left) n o.left c.left refl some_o some_c e

-- The stack after a pair.
openers_front : (front rest : List DelimiterRun) → AreOpeners (front ++ rest) → AreOpeners front
openers_front [] rest are = tt
openers_front (r ∷ front) rest are = (are.0, openers_front front rest are.1)

some_left : (n : ℕ) → (n == 0) ≡ false → 0 < n
some_left n e = grind (arith, nat_tests)

kept_opener : (b : Bool) (n : ℕ) (r : DelimiterRun) → ((opened n r).left == 0) ≡ b → IsDelimiterRun r × (r.can_open ≡ true) × (0 < r.left) → AreOpeners (cond b [] (opened n r ∷ []))
kept_opener true n r e is = tt
kept_opener false n r e is = ((is.0, is.1, some_left (opened n r).left e), tt)

pub openers_kept : (before : List DelimiterRun) (n : ℕ) (opener : DelimiterRun) (after : List DelimiterRun) → AreOpeners (before ++ (opener ∷ after)) → AreOpeners (before ++ kept (opened n opener))
openers_kept [] n opener after are = kept_opener ((opened n opener).left == 0) n opener refl are.0
openers_kept (r ∷ before) n opener after are = (are.0, openers_kept before n opener after are.1)

pub opener_left : (before : List DelimiterRun) (opener : DelimiterRun) (after : List DelimiterRun) → AreOpeners (before ++ (opener ∷ after)) → 0 < opener.left
opener_left [] opener after are = are.0.2
opener_left (r ∷ before) opener after are = opener_left before opener after are.1

take_kept : (b : Bool) (m n : ℕ) (r : DelimiterRun) (closer : DelimiterRun) → is_opener_of r closer ≡ false → NoneOpens (take m (cond b [] (opened n r ∷ []))) closer
take_kept true zero n r closer e = tt
take_kept true (suc m) n r closer e = tt
take_kept false zero n r closer e = tt
take_kept false (suc zero) n r closer e = (e, tt)
take_kept false (suc (suc m)) n r closer e = (e, tt)

none_kept : (before : List DelimiterRun) (n : ℕ) (opener : DelimiterRun) (after : List DelimiterRun) (closer : DelimiterRun) (m k : ℕ) → k ≤ m → NoneOpens (take m (before ++ (opener ∷ after))) closer → NoneOpens (take k (before ++ kept (opened n opener))) closer
none_kept before n opener after closer m zero le none = tt
none_kept before n opener after closer zero (suc k) le none = absurd (omega (arith, le))
none_kept [] n opener after closer (suc m) (suc k) le none = take_kept ((opened n opener).left == 0) (suc k) n opener closer none.0
none_kept (r ∷ before) n opener after closer (suc m) (suc k) le none = (none.0, none_kept before n opener after closer m k (omega (arith, le)) none.1)

pub bottoms_kept : (old new : List ℕ) (before : List DelimiterRun) (n : ℕ) (opener : DelimiterRun) (after : List DelimiterRun) (size : ℕ) → ((class : ℕ) → slice_index new class ≡ min (slice_index old class) size)
    → AreBottoms old (before ++ (opener ∷ after)) → AreBottoms new (before ++ kept (opened n opener))
bottoms_kept old new before n opener after size lower are closer is =
    none_kept before n opener after closer (slice_index old (class_of closer)) (slice_index new (class_of closer)) (grind (arith, lower (class_of closer))) (are closer is)

-- Where a closing run has no opener, no run of its class has one.
shut : (o k : DelimiterRun) → k.can_close ≡ false → is_opener_of o k ≡ false
shut o k e = rw (e, and-false o.can_open) refl

none_class : (runs : List DelimiterRun) (j k : DelimiterRun) → IsDelimiterRun j → IsDelimiterRun k → class_of j ≡ class_of k → j.can_close ≡ true → NoneOpens runs j → NoneOpens runs k
none_class [] j k is_j is_k same closes none = tt
none_class (o ∷ runs) j k is_j is_k same closes none = (by_closing k.can_close refl, none_class runs j k is_j is_k same closes none.1)
  where
    by_closing : (b : Bool) → k.can_close ≡ b → is_opener_of o k ≡ false
    by_closing false e = shut o k e
    by_closing true e = ap (λ (b : Bool). (o.can_open && b) && goes_with o k) (e ∙ sym closes) ∙ ap (λ (b : Bool). (o.can_open && j.can_close) && b) (sym (class_goes j k is_j is_k same o)) ∙ none.0

pub bottoms_raised : (old new : List ℕ) (runs : List DelimiterRun) (j : DelimiterRun) (size : ℕ) → size ≡ length runs → IsDelimiterRun j → j.can_close ≡ true → NoneOpens runs j → slice_index new (class_of j) ≡ size
    → ((class : ℕ) → class ≢ class_of j → slice_index new class ≡ slice_index old class) → AreBottoms old runs → AreBottoms new runs
bottoms_raised old new runs j size is_size is_j closes none here others are closer is = elim (cases_eq (class_of closer) (class_of j)) [
  | inl same ↦
      subst (λ x. NoneOpens x closer) (sym (ap (λ n. take n runs) (ap (slice_index new) same ∙ here ∙ is_size) ∙ take-length runs)) (none_class runs j closer is_j is (sym same) closes none)
  | inr other ↦ subst (λ n. NoneOpens (take n runs) closer) (sym (others (class_of closer) other)) (are closer is)
]

pub nearest_take : (runs : List Run) (before : List DelimiterRun) (opener : DelimiterRun) (after : List DelimiterRun) (height : ℕ) → views runs ≡ before ++ (opener ∷ after) → length before + 1 ≡ height → views (take height runs) ≡ before ++ (opener ∷ [])
nearest_take runs before opener after height e size =
    let same : height ≡ suc (length before) = omega (arith, size) in
    views_take runs height ∙ ap (take height) e ∙ ap (λ n. take n (before ++ (opener ∷ after))) same ∙ front_one before opener after
  where
    views_take : (runs : List Run) (n : ℕ) → views (take n runs) ≡ take n (views runs)
    views_take runs zero = refl
    views_take [] (suc n) = refl
    views_take (x ∷ runs) (suc n) = ap (λ (z : List DelimiterRun). view x ∷ z) (views_take runs n)

    front_one : (before : List DelimiterRun) (opener : DelimiterRun) (after : List DelimiterRun) → take (suc (length before)) (before ++ (opener ∷ after)) ≡ before ++ (opener ∷ [])
    front_one [] opener after = refl
    front_one (r ∷ before) opener after = ap (λ (z : List DelimiterRun). r ∷ z) (front_one before opener after)

-- The stack with one more run on top.
pub views_both : (front rest : List Run) → views (front ++ rest) ≡ views front ++ views rest
views_both [] rest = refl
views_both (r ∷ front) rest = ap (λ (z : List DelimiterRun). view r ∷ z) (views_both front rest)

pub openers_pushed : (runs : List DelimiterRun) (run : DelimiterRun) → AreOpeners runs → IsDelimiterRun run → run.can_open ≡ true → 0 < run.left → AreOpeners (runs ++ (run ∷ []))
openers_pushed [] run are is able some = ((is, able, some), tt)
openers_pushed (r ∷ runs) run are is able some = (are.0, openers_pushed runs run are.1 is able some)

none_pushed : (runs more : List DelimiterRun) (closer : DelimiterRun) (n : ℕ) → n ≤ length runs → NoneOpens (take n runs) closer → NoneOpens (take n (runs ++ more)) closer
none_pushed runs more closer zero le none = tt
none_pushed [] more closer (suc n) le none = absurd (omega (arith, le))
none_pushed (r ∷ runs) more closer (suc n) le none = (none.0, none_pushed runs more closer n (omega (arith, le)) none.1)

pub bottoms_pushed : (bottoms : List ℕ) (runs : List DelimiterRun) (run : DelimiterRun) → AreBottoms bottoms runs → AreWithin bottoms runs → AreBottoms bottoms (runs ++ (run ∷ []))
bottoms_pushed bottoms runs run are within closer is = none_pushed runs (run ∷ []) closer (slice_index bottoms (class_of closer)) (within (class_of closer)) (are closer is)

longer : (runs : List DelimiterRun) (run : DelimiterRun) → length runs ≤ length (runs ++ (run ∷ []))
longer [] run = omega arith
longer (r ∷ runs) run = omega (arith, longer runs run)

pub within_pushed : (bottoms : List ℕ) (runs : List DelimiterRun) (run : DelimiterRun) → AreWithin bottoms runs → AreWithin bottoms (runs ++ (run ∷ []))
within_pushed bottoms runs run within class = omega (arith, within class, longer runs run)

-- A run that closes nothing has no opener.
pub none_shut : (runs : List DelimiterRun) (run : DelimiterRun) → run.can_close ≡ false → NoneOpens runs run
none_shut [] run e = tt
none_shut (r ∷ runs) run e = (shut r run e, none_shut runs run e)

-- The run at a place, of those to be taken.
pub ready_at : (runs : List Run) (i : ℕ) (r : Run) → AreReady runs → i < length runs → r ≡ get_or runs i r → IsReady (view r)
ready_at [] i r are less e = absurd (omega (arith, less))
ready_at (x ∷ runs) zero r are less e = subst (λ y. IsReady (view y)) (sym e) (All-head (λ (run : Run). IsReady (view run)) x runs are)
ready_at (x ∷ runs) (suc i) r are less e = ready_at runs i r (All-rest (λ (run : Run). IsReady (view run)) x runs (x ∷ runs) refl are) (omega (arith, less)) e

pub take_one : (runs : List Run) (i : ℕ) (r : Run) → i < length runs → r ≡ get_or runs i r → take (i + 1) (views runs) ≡ take i (views runs) ++ (view r ∷ [])
take_one runs i r less e = ap (λ n. take n (views runs)) next ∙ from_next runs i less e
  where
    next : i + 1 ≡ suc i
    next = omega arith

    from_next : (runs : List Run) (i : ℕ) → i < length runs → r ≡ get_or runs i r → take (suc i) (views runs) ≡ take i (views runs) ++ (view r ∷ [])
    from_next [] i less e = absurd (omega (arith, less))
    from_next (x ∷ runs) zero less e = ap (λ y. view y ∷ []) (sym e)
    from_next (x ∷ runs) (suc i) less e = ap (λ (z : List DelimiterRun). view x ∷ z) (from_next runs i (omega (arith, less)) e)

pub take_whole : (runs : List Run) (n : ℕ) → length runs ≤ n → take n (views runs) ≡ views runs
take_whole [] zero le = refl
take_whole [] (suc n) le = refl
take_whole (x ∷ runs) zero le = absurd (omega (arith, le))
take_whole (x ∷ runs) (suc n) le = ap (λ (z : List DelimiterRun). view x ∷ z) (take_whole runs n (omega (arith, le)))

-- What holds of the stack after each step.
pub sound_pushed : (bottoms : List ℕ) (runs : List DelimiterRun) (run : DelimiterRun) → IsSound bottoms runs → IsDelimiterRun run → run.can_open ≡ true → 0 < run.left → IsSound bottoms (runs ++ (run ∷ []))
sound_pushed bottoms runs run s is able some = record {
  openers = openers_pushed runs run s.openers is able some;
  bottoms_are = bottoms_pushed bottoms runs run s.bottoms_are s.within;
  within = within_pushed bottoms runs run s.within;
}

pub sound_raised : (old new : List ℕ) (runs : List DelimiterRun) (j : DelimiterRun) (size : ℕ) → size ≡ length runs → MayClose j → NoneOpens runs j → slice_index new (class_of j) ≡ size
    → ((class : ℕ) → class ≢ class_of j → slice_index new class ≡ slice_index old class) → IsSound old runs → IsSound new runs
sound_raised old new runs j size is_size closes none here others s = record {
  openers = s.openers;
  bottoms_are = bottoms_raised old new runs j size is_size closes.is_run closes.closes none here others s.bottoms_are;
  within = λ class. elim (cases_eq class (class_of j)) [
    | inl same ↦ omega (arith, is_size, here, ap (slice_index new) same)
    | inr other ↦ omega (arith, others class other, s.within class)
  ];
}

pub sound_lowered : (old new : List ℕ) (before : List DelimiterRun) (n : ℕ) (opener : DelimiterRun) (after : List DelimiterRun) (size : ℕ) → size ≡ length (before ++ kept (opened n opener))
    → ((class : ℕ) → slice_index new class ≡ min (slice_index old class) size) → IsSound old (before ++ (opener ∷ after)) → IsSound new (before ++ kept (opened n opener))
sound_lowered old new before n opener after size is_size lower s = record {
  openers = openers_kept before n opener after s.openers;
  bottoms_are = bottoms_kept old new before n opener after size lower s.bottoms_are;
  within = λ class. grind (arith, is_size, lower class);
}

pub sound_none : (bottoms : List ℕ) → ((class : ℕ) → slice_index bottoms class ≡ 0) → IsSound bottoms []
sound_none bottoms all = record {
  openers = tt;
  bottoms_are = λ closer is. nothing (slice_index bottoms (class_of closer)) closer;
  within = λ class. omega (arith, all class);
}
  where
    nothing : (n : ℕ) (closer : DelimiterRun) → NoneOpens (take n []) closer
    nothing zero closer = tt
    nothing (suc n) closer = tt
