-- The pairs of emphasis nest: what a later pair takes lies outside of each pair before it.
use Rattle.std.proofs.Common.{◌≡◌, ℕ, ◌+◌, ◌-◌, ◌<◌, ◌≤◌, ◌==◌, Bool, true, false, cond, ◌⊎◌, List, [], ◌∷◌, ◌++◌, refl, inl, inr, sym, subst, arith}
use Rattle.std.specs.Prelude.{◌&&◌, nat_lt}
use Rattle.std.proofs.lemmas.Bool.{cases_Bool}
use Rattle.std.proofs.lemmas.Bool.Decides.{nat_tests}
use Rattle.markdown_attention.specs.Emphasis.{DelimiterRun, Pair, Resolves, done, pair, closed, is_strong, kept, kind_size, kind_with, opened, paired, strength}
use Rattle.markdown_attention.specs.Nesting.{AreNested, Follow, NestsWith, closing_end, opening_end}

-- A pair takes as many markers of each run as its kind has.
pub takes_kind : (opener closer : DelimiterRun) → kind_size (kind_with opener closer) ≡ strength opener closer
takes_kind opener closer = elim (cases_Bool (opener.marker == 126)) [
  | inl tilde ↦ elim (cases_Bool (is_strong opener closer)) [
    | inl double ↦ rw tilde (rw double refl)
    | inr single ↦ rw tilde (rw single refl)
  ]
  | inr other ↦ elim (cases_Bool (is_strong opener closer)) [
    | inl double ↦ rw other (rw double refl)
    | inr single ↦ rw other (rw single refl)
  ]
]

both_more : (a b : ℕ) → (nat_lt 1 a && nat_lt 1 b) ≡ true → (1 < a) × (1 < b)
both_more a b e = (grind (arith, nat_tests), grind (arith, nat_tests))

pub strength_fits : (opener closer : DelimiterRun) → 0 < opener.left → 0 < closer.left → (0 < strength opener closer) × (strength opener closer ≤ opener.left) × (strength opener closer ≤ closer.left)
strength_fits opener closer some other = elim (cases_Bool (is_strong opener closer)) [
  | inl double ↦ (let more : (1 < opener.left) × (1 < closer.left) = both_more opener.left closer.left double in
      let two : strength opener closer ≡ 2 = rw double refl in
      (omega (arith, two), omega (arith, two, more.0), omega (arith, two, more.1)))
  | inr single ↦ (let one : strength opener closer ≡ 1 = rw single refl in
      (omega (arith, one), omega (arith, one, some), omega (arith, one, other)))
]

-- Runs that follow each other.
sooner : (a b : ℕ) (runs : List DelimiterRun) → a ≤ b → Follow b runs → Follow a runs
sooner a b [] le h = tt
sooner a b (run ∷ runs) le h = (omega (arith, le, h.0), h.1, h.2)

-- Every run of some ends before an offset, or begins after one.
abbrev pub AreBefore : ℕ → List DelimiterRun → Type 0
AreBefore at [] = Unit {0}
AreBefore at (run ∷ runs) = (run.first + run.left ≤ at) × AreBefore at runs

-- what is known at a run in the middle
pub record Middle (at : ℕ) (before : List DelimiterRun) (run : DelimiterRun) (rest : List DelimiterRun) : Type 0 where
  pub before_it : AreBefore run.first before
  pub late : at ≤ run.first
  pub some : 0 < run.left
  pub after_it : Follow (run.first + run.left) rest

middle : (at : ℕ) (before : List DelimiterRun) (run : DelimiterRun) (rest : List DelimiterRun) → Follow at (before ++ (run ∷ rest)) → Middle at before run rest
middle at [] run rest h = record { before_it = tt; late = h.0; some = h.1; after_it = h.2 }
middle at (first ∷ before) run rest h =
    let m : Middle (first.first + first.left) before run rest = middle (first.first + first.left) before run rest h.2 in
    record { before_it = (m.late, m.before_it); late = omega (arith, h.0, h.1, m.late); some = m.some; after_it = m.after_it }

-- other runs in place of those from a run on
replaced : (at : ℕ) (before : List DelimiterRun) (run : DelimiterRun) (rest others : List DelimiterRun) → Follow at (before ++ (run ∷ rest)) → ((a : ℕ) → a ≤ run.first → Follow a others) → Follow at (before ++ others)
replaced at [] run rest others h new = new at h.0
replaced at (first ∷ before) run rest others h new = (h.0, h.1, replaced (first.first + first.left) before run rest others h.2 new)

none_or_some : (n : ℕ) → ((n == 0) ≡ true) × (n ≡ 0) ⊎ ((n == 0) ≡ false) × (0 < n)
none_or_some n = elim (cases_Bool (n == 0)) [
  | inl e ↦ inl (e, grind (arith, nat_tests))
  | inr e ↦ inr (e, grind (arith, nat_tests))
]

-- what is left of a run is in its place
kept_follows : (a : ℕ) (run : DelimiterRun) (rest : List DelimiterRun) → a ≤ run.first → ((b : ℕ) → b ≤ run.first + run.left → Follow b rest) → Follow a (kept run ++ rest)
kept_follows a run rest le after = elim (none_or_some run.left) [
  | inl none ↦ subst (λ (b : Bool). Follow a (cond b [] (run ∷ []) ++ rest)) (sym none.0) (after a (omega (arith, le)))
  | inr some ↦ subst (λ (b : Bool). Follow a (cond b [] (run ∷ []) ++ rest)) (sym some.0) (le, some.1, after (run.first + run.left) (omega arith))
]

-- Every run of some, or every pair, lies outside of what is between two offsets.
abbrev pub AreOutside : ℕ → ℕ → List DelimiterRun → Type 0
AreOutside o e [] = Unit {0}
AreOutside o e (run ∷ runs) = ((run.first + run.left ≤ o) ⊎ (e ≤ run.first)) × AreOutside o e runs

abbrev pub PairsOutside : ℕ → ℕ → List Pair → Type 0
PairsOutside o e [] = Unit {0}
PairsOutside o e (q ∷ pairs) = ((opening_end q ≤ o) ⊎ (e ≤ q.opening)) × ((closing_end q ≤ o) ⊎ (e ≤ q.closing)) × PairsOutside o e pairs

outside_both : (o e : ℕ) (xs ys : List DelimiterRun) → AreOutside o e xs → AreOutside o e ys → AreOutside o e (xs ++ ys)
outside_both o e [] ys h k = k
outside_both o e (run ∷ xs) ys h k = (h.0, outside_both o e xs ys h.1 k)

outside_front : (o e : ℕ) (xs ys : List DelimiterRun) → AreOutside o e (xs ++ ys) → AreOutside o e xs
outside_front o e [] ys h = tt
outside_front o e (run ∷ xs) ys h = (h.0, outside_front o e xs ys h.1)

outside_rest : (o e : ℕ) (xs ys : List DelimiterRun) → AreOutside o e (xs ++ ys) → AreOutside o e ys
outside_rest o e [] ys h = h
outside_rest o e (run ∷ xs) ys h = outside_rest o e xs ys h.1

outside_kept : (o e : ℕ) (run : DelimiterRun) → (run.first + run.left ≤ o) ⊎ (e ≤ run.first) → AreOutside o e (kept run)
outside_kept o e run h = elim (cases_Bool (run.left == 0)) [
  | inl none ↦ subst (λ (b : Bool). AreOutside o e (cond b [] (run ∷ []))) (sym none) tt
  | inr some ↦ subst (λ (b : Bool). AreOutside o e (cond b [] (run ∷ []))) (sym some) (h, tt)
]

outside_before : (o e at : ℕ) (runs : List DelimiterRun) → at ≤ o → AreBefore at runs → AreOutside o e runs
outside_before o e at [] le h = tt
outside_before o e at (run ∷ runs) le h = (inl (omega (arith, le, h.0)), outside_before o e at runs le h.1)

outside_after : (o e at : ℕ) (runs : List DelimiterRun) → e ≤ at → Follow at runs → AreOutside o e runs
outside_after o e at [] le h = tt
outside_after o e at (run ∷ runs) le h = (inr (omega (arith, le, h.0)), outside_after o e (run.first + run.left) runs (omega (arith, le, h.0)) h.2)

-- the runs after a pair
abbrev pub left_of_pair : (before rest : List DelimiterRun) (opener closer : DelimiterRun) → List DelimiterRun
left_of_pair before rest opener closer = before ++ (kept (opened (strength opener closer) opener) ++ (kept (closed (strength opener closer) closer) ++ rest))

-- what is known of an opener and a closer
pub record Both (at : ℕ) (before between rest : List DelimiterRun) (opener closer : DelimiterRun) : Type 0 where
  pub first : Middle at before opener (between ++ (closer ∷ rest))
  pub last : Middle (opener.first + opener.left) between closer rest
  pub left_follows : Follow at (left_of_pair before rest opener closer)

pub both : (at : ℕ) (before between rest : List DelimiterRun) (opener closer : DelimiterRun) → Follow at (before ++ (opener ∷ (between ++ (closer ∷ rest)))) → Both at before between rest opener closer
both at before between rest opener closer h =
    let f : Middle at before opener (between ++ (closer ∷ rest)) = middle at before opener (between ++ (closer ∷ rest)) h in
    let l : Middle (opener.first + opener.left) between closer rest = middle (opener.first + opener.left) between closer rest f.after_it in
    let n : ℕ = strength opener closer in
    let fits : (0 < n) × (n ≤ opener.left) × (n ≤ closer.left) = strength_fits opener closer f.some l.some in
    record {
      first = f;
      last = l;
      left_follows = replaced at before opener (between ++ (closer ∷ rest)) (kept (opened n opener) ++ (kept (closed n closer) ++ rest)) h
          (λ a le. kept_follows a (opened n opener) (kept (closed n closer) ++ rest) le
          (λ b near. kept_follows b (closed n closer) rest (omega (arith, near, l.late, fits.1))
          (λ c close. sooner c (closer.first + closer.left) rest (omega (arith, close, fits.2)) l.after_it)));
    }

-- Pairs of runs that lie outside lie outside.
pairs_outside : (o e at : ℕ) (runs : List DelimiterRun) (pairs : List Pair) → Follow at runs → AreOutside o e runs → Resolves runs pairs → PairsOutside o e pairs
pairs_outside o e at runs pairs follow h (done _ _) = tt
pairs_outside o e at runs all follow h (pair before between rest opener closer pairs none fit nearest later) =
    let b : Both at before between rest opener closer = both at before between rest opener closer follow in
    let n : ℕ = strength opener closer in
    let fits : (0 < n) × (n ≤ opener.left) × (n ≤ closer.left) = strength_fits opener closer b.first.some b.last.some in
    let size : kind_size (kind_with opener closer) ≡ n = takes_kind opener closer in
    let from_opener : AreOutside o e (opener ∷ (between ++ (closer ∷ rest))) = outside_rest o e before (opener ∷ (between ++ (closer ∷ rest))) h in
    let from_closer : AreOutside o e (closer ∷ rest) = outside_rest o e between (closer ∷ rest) from_opener.1 in
    let at_opener : (opener.first + opener.left ≤ o) ⊎ (e ≤ opener.first) = from_opener.0 in
    let at_closer : (closer.first + closer.left ≤ o) ⊎ (e ≤ closer.first) = from_closer.0 in (
      elim at_opener [ inl x ↦ inl (omega (arith, size, fits.1, x)) | inr x ↦ inr (omega (arith, x)) ],
      elim at_closer [ inl x ↦ inl (omega (arith, size, fits.2, x)) | inr x ↦ inr x ],
      pairs_outside o e at (left_of_pair before rest opener closer) pairs b.left_follows
          (outside_both o e before _ (outside_front o e before _ h)
          (outside_both o e (kept (opened n opener)) _ (outside_kept o e (opened n opener) (elim at_opener [ inl x ↦ inl (omega (arith, x)) | inr x ↦ inr x ]))
          (outside_both o e (kept (closed n closer)) rest (outside_kept o e (closed n closer) (elim at_closer [ inl x ↦ inl (omega (arith, fits.2, x)) | inr x ↦ inr (omega (arith, x)) ])) from_closer.1)))
          later,
    )

-- A pair nests with pairs that lie outside of it.
nests_outside : (p : Pair) (pairs : List Pair) → PairsOutside p.opening (closing_end p) pairs → AreNested pairs → NestsWith p pairs
nests_outside p [] h k = tt
nests_outside p (q ∷ pairs) h k = (
  elim h.1 [
    | inl closes ↦ inl closes
    | inr closes ↦ elim h.0 [
      | inl opens ↦ inr (inr (inl (opens, closes)))
      | inr opens ↦ inr (inl opens)
    ]
  ],
  nests_outside p pairs h.2 k.2,
)

pub nests : (at : ℕ) (runs : List DelimiterRun) (pairs : List Pair) → Follow at runs → Resolves runs pairs → AreNested pairs
nests at runs pairs follow (done _ _) = tt
nests at runs all follow (pair before between rest opener closer pairs none fit nearest later) =
    let b : Both at before between rest opener closer = both at before between rest opener closer follow in
    let n : ℕ = strength opener closer in
    let fits : (0 < n) × (n ≤ opener.left) × (n ≤ closer.left) = strength_fits opener closer b.first.some b.last.some in
    let size : kind_size (kind_with opener closer) ≡ n = takes_kind opener closer in
    let o : ℕ = opener.first + (opener.left - n) in
    let e : ℕ = closer.first + kind_size (kind_with opener closer) in
    let inner : AreNested pairs = nests at (left_of_pair before rest opener closer) pairs b.left_follows later in
    let outside : AreOutside o e (left_of_pair before rest opener closer) =
    outside_both o e before _ (outside_before o e opener.first before (omega arith) b.first.before_it)
    (outside_both o e (kept (opened n opener)) _ (outside_kept o e (opened n opener) (inl (omega arith)))
    (outside_both o e (kept (closed n closer)) rest (outside_kept o e (closed n closer) (inr (omega (arith, size)))) (outside_after o e (closer.first + closer.left) rest (omega (arith, size, fits.2)) b.last.after_it))) in (
      omega (arith, size, fits.1, b.last.late),
      nests_outside (paired opener closer) pairs (pairs_outside o e at (left_of_pair before rest opener closer) pairs b.left_follows outside later) inner,
      inner,
    )
