-- The strings of marks before an offset.
use Rattle.std.proofs.Common.{◌≡◌, ◌≢◌, ℕ, ◌+◌, ◌-◌, ◌<◌, ◌≤◌, List, drop, take, length, length-drop, ◌⊎◌, inl, inr, sym, ◌∙◌, ap, subst, arith}
use Rattle.std.proofs.lemmas.List.{get_or-drop}
use Rattle.std.specs.Prelude.{false, nat_lt, slice_index, slice_set}
use Rattle.std.proofs.lemmas.Bool.{cases_lt}
use Rattle.std.proofs.lemmas.Bool.Decides.{nat_tests}
use Rattle.std.proofs.lemmas.Grind.{common_steps}
use Rattle.commonmark_syntax.proofs.Searches.{rest_at, shifted, shifted_there}
use Rattle.commonmark_syntax.specs.Strings.{FirstStringEnds, HasNoString, IsKept, IsStringAt}

-- Marks stand right before an offset, run of them, and none before those.
pub record Running (mark : ℕ) (text : List ℕ) (i run : ℕ) : Type 0 where
  pub inside : run ≤ i
  pub marks : (k : ℕ) → k < i → i ≤ k + run → slice_index text k ≡ mark
  pub start : (k : ℕ) → k + 1 + run ≡ i → slice_index text k ≢ mark

-- No string of n begins before the marks that stand right before an offset.
pub record SoFar (mark : ℕ) (text : List ℕ) (n i run : ℕ) : Type 0 where
  pub running : Running mark text i run
  pub none : (j : ℕ) → j + run < i → IsStringAt mark text n j → ⊥

-- no mark stands at an offset
abbrev pub Stops : ℕ → List ℕ → ℕ → Type 0
Stops mark text i = i < length text → slice_index text i ≢ mark

same_or_less : (a b : ℕ) → a ≤ b → (a ≡ b) ⊎ (a < b)
same_or_less a b k = grind arith

three_ways : (a b : ℕ) → (a < b) ⊎ ((b < a) ⊎ (a ≡ b))
three_ways a b = grind arith

-- Where the marks stop, they are a string.
pub last_string : (mark : ℕ) (text : List ℕ) (n i run j : ℕ) → Running mark text i run → Stops mark text i → i ≤ length text → 0 < n → j ≤ i → i ≤ j + run → IsStringAt mark text n j → (n ≡ run) × (j + run ≡ i)
last_string mark text n i run j h stops fits some up near at = elim (three_ways (j + run) i) [
  | inl a ↦ absurd (omega (arith, a, near))
  | inr (inl b) ↦ elim (same_or_less j i up) [
    | inl e ↦ absurd (stops (omega (arith, e, some, at.within)) (ap (slice_index text) (let k : i ≡ j + 0 = omega (arith, e) in k) ∙ at.marks 0 some))
    | inr less ↦ absurd (at.not_before (j - 1) (omega (arith, less, b, h.inside)) (h.marks (j - 1) (omega (arith, less)) (omega (arith, b))))
  ]
  | inr (inr e) ↦ elim (three_ways n run) [
    | inl less ↦ absurd (at.not_after (omega (arith, less, e, fits)) (h.marks (j + n) (omega (arith, less, e)) (omega (arith, e))))
    | inr (inl more) ↦ absurd (stops (omega (arith, more, e, at.within)) (ap (slice_index text) (sym e) ∙ at.marks run more))
    | inr (inr same) ↦ (same, e)
  ]
]

near_or_before : (j run i : ℕ) → (j + run < i) ⊎ (i ≤ j + run)
near_or_before j run i = grind arith

-- Where the marks stop, no string of n begins up to there, if the last marks are not n.
no_string : (mark : ℕ) (text : List ℕ) (n i run j : ℕ) → SoFar mark text n i run → Stops mark text i → i ≤ length text → run ≢ n → 0 < n → j ≤ i → IsStringAt mark text n j → ⊥
no_string mark text n i run j h stops fits other some up at = elim (near_or_before j run i) [
  | inl before ↦ h.none j before at
  | inr near ↦ other (sym (last_string mark text n i run j h.running stops fits some up near at).0)
]

pub run_begins : (mark : ℕ) (text : List ℕ) → Running mark text 0 0
run_begins mark text = record {
  inside = omega arith;
  marks = λ k less le. absurd (omega (arith, less));
  start = λ k e. absurd (omega (arith, e));
}

pub run_goes_on : (mark : ℕ) (text : List ℕ) (i run : ℕ) → Running mark text i run → slice_index text i ≡ mark → Running mark text (i + 1) (run + 1)
run_goes_on mark text i run h is = record {
  inside = omega (arith, h.inside);
  marks = λ k less le. elim (last k less) [
    | inl e ↦ ap (slice_index text) e ∙ is
    | inr before ↦ h.marks k before (omega (arith, le))
  ];
  start = λ k e. h.start k (omega (arith, e));
}
  where
    last : (k : ℕ) → k < i + 1 → (k ≡ i) ⊎ (k < i)
    last k less = grind arith

pub run_ends : (mark : ℕ) (text : List ℕ) (i : ℕ) → slice_index text i ≢ mark → Running mark text (i + 1) 0
run_ends mark text i other = record {
  inside = omega arith;
  marks = λ k less le. absurd (omega (arith, less, le));
  start = λ k e. (let same : k ≡ i = omega (arith, e) in subst (λ x. slice_index text x ≢ mark) (sym same) other);
}

pub begin : (mark : ℕ) (text : List ℕ) (n : ℕ) → SoFar mark text n 0 0
begin mark text n = record { running = run_begins mark text; none = λ j less at. omega (arith, less) }

pub mark_step : (mark : ℕ) (text : List ℕ) (n i run : ℕ) → SoFar mark text n i run → slice_index text i ≡ mark → SoFar mark text n (i + 1) (run + 1)
mark_step mark text n i run h is = record {
  running = run_goes_on mark text i run h.running is;
  none = λ j less at. h.none j (omega (arith, less)) at;
}

pub other_step : (mark : ℕ) (text : List ℕ) (n i run : ℕ) → SoFar mark text n i run → 0 < n → i < length text → slice_index text i ≢ mark → run ≢ n → SoFar mark text n (i + 1) 0
other_step mark text n i run h some inside other wrong = record {
  running = run_ends mark text i other;
  none = λ j less at. no_string mark text n i run j h (λ _. other) (omega (arith, inside)) wrong some (omega (arith, less)) at;
}

pub ends_at : (mark : ℕ) (text : List ℕ) (n i run : ℕ) → SoFar mark text n i run → run ≡ n → i ≤ length text → Stops mark text i → FirstStringEnds mark text n i
ends_at mark text n i run h same fits stops =
    let inside : n ≤ i = omega (arith, h.running.inside, same) in
    let whole : i - n + n ≡ i = omega (arith, inside) in record {
      start = i - n;
      size = whole;
      there = record {
        within = omega (arith, whole, fits);
        marks = λ k less. h.running.marks (i - n + k) (omega (arith, less, inside)) (omega (arith, same, inside));
        not_before = λ k e. h.running.start k (omega (arith, e, same, inside));
        not_after = λ less. subst (λ x. slice_index text x ≢ mark) (sym whole) (stops (omega (arith, less, whole)));
      };
      none_before = λ j less at. h.none j (omega (arith, less, same, inside)) at;
    }

pub ends_nowhere : (mark : ℕ) (text : List ℕ) (n run : ℕ) → SoFar mark text n (length text) run → 0 < n → run ≢ n → HasNoString mark text n
ends_nowhere mark text n run h some wrong j at =
    no_string mark text n (length text) run j h (λ less. absurd (omega (arith, less))) (omega arith) wrong some (omega (arith, at.within)) at

-- No string of n begins before an offset, and none goes on there.
pub record Searched (mark : ℕ) (text : List ℕ) (n i : ℕ) : Type 0 where
  pub none : (j : ℕ) → j < i → IsStringAt mark text n j → ⊥
  pub apart : 0 < i → Stops mark text i

-- The next mark after it begins a run.
next_begins : (mark : ℕ) (text : List ℕ) (n i start : ℕ) → Searched mark text n i → i < length text → i ≤ start → ((k : ℕ) → i ≤ k → k < start → slice_index text k ≢ mark) → (start < length text → slice_index text start ≡ mark)
    → (k : ℕ) → k + 1 ≡ start → slice_index text k ≢ mark
next_begins mark text n i start h inside le other first k e = elim (same_or_less i start le) [
  | inl none ↦ absurd (h.apart (omega (arith, none, e)) inside (ap (slice_index text) none ∙ first (omega (arith, none, inside))))
  | inr some ↦ other k (omega (arith, some, e)) (omega (arith, e))
]

run_after : (mark : ℕ) (text : List ℕ) (start run : ℕ) → ((k : ℕ) → k + 1 ≡ start → slice_index text k ≢ mark) → ((k : ℕ) → k < run → slice_index text (start + k) ≡ mark) → Running mark text (start + run) run
run_after mark text start run before marks = record {
  inside = omega arith;
  marks = λ k less near. (let place : start + (k - start) ≡ k = omega (arith, near) in ap (slice_index text) (sym place) ∙ marks (k - start) (omega (arith, less, near)));
  start = λ k e. before k (omega (arith, e));
}

none_before_run : (mark : ℕ) (text : List ℕ) (n i start j : ℕ) → Searched mark text n i → 0 < n → ((k : ℕ) → i ≤ k → k < start → slice_index text k ≢ mark) → j < start → IsStringAt mark text n j → ⊥
none_before_run mark text n i start j h some other less at = elim (cases_lt j i) [
  | inl before ↦ h.none j before at
  | inr later ↦ other j later less (ap (slice_index text) (let k : j ≡ j + 0 = omega arith in k) ∙ at.marks 0 some)
]

-- the bytes from an offset on
abbrev rest : List ℕ → ℕ → List ℕ
rest text i = take (length text - i) (drop i text)

-- the next run of marks, after bytes that are none
pub next_run : (mark : ℕ) (text : List ℕ) (n i before run : ℕ) → Searched mark text n i → 0 < n → i < length text → ((k : ℕ) → k < before → slice_index (rest text i) k ≢ mark)
    → (before < length (rest text i) → slice_index (rest text i) before ≡ mark) → ((k : ℕ) → k < run → slice_index (rest text (i + before)) k ≡ mark) → SoFar mark text n (i + before + run) run
next_run mark text n i before run h some inside others first marks =
    let other = shifted (λ b. b ≢ mark) i before text others in
    let begins = next_begins mark text n i (i + before) h inside (omega arith) other (shifted_there (λ b. b ≡ mark) i before text first) in record {
      running = run_after mark text (i + before) run begins (λ k less. sym (rest_at text (i + before) k) ∙ marks k less);
      none = λ j less at. none_before_run mark text n i (i + before) j h some other (omega (arith, less)) at;
    }

-- where the next run ends, no mark stands
pub run_stops : (mark : ℕ) (text : List ℕ) (start run : ℕ) → (run < length (rest text start) → slice_index (rest text start) run ≢ mark) → Stops mark text (start + run)
run_stops mark text start run next = shifted_there (λ b. b ≢ mark) start run text next

-- where they are not n, the search goes on
pub searched_on : (mark : ℕ) (text : List ℕ) (n i run : ℕ) → SoFar mark text n i run → Stops mark text i → i ≤ length text → run ≢ n → 0 < n → Searched mark text n i
searched_on mark text n i run h stops fits wrong some = record {
  none = λ j less at. no_string mark text n i run j h stops fits wrong some (omega (arith, less)) at;
  apart = λ _. stops;
}

pub searched_all : (mark : ℕ) (text : List ℕ) (n i : ℕ) → Searched mark text n i → length text ≤ i → 0 < n → HasNoString mark text n
searched_all mark text n i h whole some j at = h.none j (omega (arith, at.within, whole, some)) at

-- The strings before the marks that stand right before an offset are kept.
pub record Keeps (mark : ℕ) (text : List ℕ) (i run : ℕ) (ends : List ℕ) : Type 0 where
  pub running : Running mark text i run
  pub kept : (n j : ℕ) → 0 < n → IsStringAt mark text n j → j + run < i → j + n ≤ slice_index ends n
  pub before : (n : ℕ) → slice_index ends n ≤ i

same_or_not : (a b : ℕ) → (a ≡ b) ⊎ (a ≢ b)
same_or_not a b = grind arith

zero_or_some : (n : ℕ) → (n ≡ 0) ⊎ (0 < n)
zero_or_some n = grind arith

kept_before : (mark : ℕ) (text : List ℕ) (i run : ℕ) (old new : List ℕ) → Keeps mark text i run old → IsKept run i old new → (n : ℕ) → slice_index new n ≤ i
kept_before mark text i run old new h is n = elim (same_or_not n run) [
  | inl e ↦ elim (zero_or_some run) [
    | inl none ↦ omega (arith, ap (λ (xs : List ℕ). slice_index xs n) (is.none none), h.before n)
    | inr some ↦ omega (arith, ap (slice_index new) e, is.here some)
  ]
  | inr other ↦ omega (arith, is.others n other, h.before n)
]

-- where the marks stop, all strings up to there are kept
all_kept : (mark : ℕ) (text : List ℕ) (i run : ℕ) (old new : List ℕ) → Keeps mark text i run old → IsKept run i old new → Stops mark text i → i ≤ length text → (n j : ℕ) → 0 < n → IsStringAt mark text n j → j ≤ i → j + n ≤ slice_index new n
all_kept mark text i run old new h is stops fits n j some at up = elim (near_or_before j run i) [
  | inl before ↦ elim (same_or_not n run) [
    | inl e ↦ omega (arith, ap (slice_index new) e, is.here (omega (arith, e, some)), h.kept n j some at before, h.before n)
    | inr other ↦ omega (arith, is.others n other, h.kept n j some at before)
  ]
  | inr near ↦
      let last : (n ≡ run) × (j + run ≡ i) = last_string mark text n i run j h.running stops fits some up near at in
      omega (arith, ap (slice_index new) last.0, is.here (omega (arith, last.0, some)), last.0, last.1)
]

pub keeps_mark : (mark : ℕ) (text : List ℕ) (i run : ℕ) (ends : List ℕ) → Keeps mark text i run ends → slice_index text i ≡ mark → Keeps mark text (i + 1) (run + 1) ends
keeps_mark mark text i run ends h is = record {
  running = run_goes_on mark text i run h.running is;
  kept = λ n j some at less. h.kept n j some at (omega (arith, less));
  before = λ n. omega (arith, h.before n);
}

pub keeps_other : (mark : ℕ) (text : List ℕ) (i run : ℕ) (old new : List ℕ) → Keeps mark text i run old → IsKept run i old new → slice_index text i ≢ mark → i < length text → Keeps mark text (i + 1) 0 new
keeps_other mark text i run old new h is other inside = record {
  running = run_ends mark text i other;
  kept = λ n j some at less. all_kept mark text i run old new h is (λ _. other) (omega (arith, inside)) n j some at (omega (arith, less));
  before = λ n. omega (arith, kept_before mark text i run old new h is n);
}

pub keeps_all : (mark : ℕ) (text : List ℕ) (run : ℕ) (old new : List ℕ) → Keeps mark text (length text) run old → IsKept run (length text) old new → (n j : ℕ) → 0 < n → IsStringAt mark text n j → j + n ≤ slice_index new n
keeps_all mark text run old new h is n j some at =
    all_kept mark text (length text) run old new h is (λ less. absurd (omega (arith, less))) (omega arith) n j some at (omega (arith, at.within))

pub set_kept : (size end : ℕ) (old new : List ℕ) → size ≢ 0 → size < length new → ((n : ℕ) → slice_index new n ≡ slice_index old n) → IsKept size end old (slice_set new size end)
set_kept size end old new some room same = record {
  here = λ _. here;
  others = λ n other. others n other ∙ same n;
  none = λ zero. absurd (some zero);
}
  where
    here : slice_index (slice_set new size end) size ≡ end
    here = grind (arith, common_steps)

    others : (n : ℕ) → n ≢ size → slice_index (slice_set new size end) n ≡ slice_index new n
    others n other = grind (arith, common_steps)

-- a string after marks is one of the whole text, where they stop
string_after : (mark : ℕ) (text : List ℕ) (n at i : ℕ) → at ≤ length text → 0 < n → (at < length text → slice_index text at ≢ mark) → IsStringAt mark (drop at text) n i → IsStringAt mark text n (at + i)
string_after mark text n at i fits some stops string = record {
  within = omega (arith, string.within, length-drop at text, fits);
  marks = λ k less. moved (at + i + k) (i + k) (omega arith) ∙ string.marks k less;
  not_before = λ k e is. not_before k e is;
  not_after = λ less is. string.not_after (omega (arith, less, length-drop at text)) (sym (moved (at + i + n) (i + n) (omega arith)) ∙ is);
}
  where
    moved : (k j : ℕ) → k ≡ at + j → slice_index text k ≡ slice_index (drop at text) j
    moved k j e = ap (slice_index text) e ∙ sym (get_or-drop at text j 0)

    begins : i ≡ 0 → ⊥
    begins none = stops (omega (arith, string.within, length-drop at text, some, fits)) (moved at i (omega (arith, none)) ∙ ap (slice_index (drop at text)) (let k : i ≡ i + 0 = omega arith in k) ∙ string.marks 0 some)

    zero_or_more : (i ≡ 0) ⊎ (0 < i)
    zero_or_more = grind arith

    not_before : (k : ℕ) → k + 1 ≡ at + i → slice_index text k ≡ mark → ⊥
    not_before k e is = elim zero_or_more [
      | inl none ↦ begins none
      | inr more ↦ string.not_before (i - 1) (omega (arith, more)) (sym (moved k (i - 1) (omega (arith, e, more))) ∙ is)
    ]

-- where no string of n ends after an offset, none is in the rest
pub none_after : (mark : ℕ) (text : List ℕ) (n at end : ℕ) → at ≤ length text → 0 < n → (at < length text → slice_index text at ≢ mark) → ((i : ℕ) → IsStringAt mark text n i → i + n ≤ end) → nat_lt at end ≡ false → HasNoString mark (drop at text) n
none_after mark text n at end fits some stops last none i string =
    let le : end ≤ at = grind (arith, nat_tests) in
    omega (arith, last (at + i) (string_after mark text n at i fits some stops string), le, some)
