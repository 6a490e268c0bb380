-- Taking a run, pair by pair.
use Rattle.std.proofs.Common.{◌≡◌, ℕ, ◌<◌, ◌≤◌, ◌==◌, Bool, true, false, cond, List, [], ◌∷◌, ◌++◌, refl, sym, ◌∙◌, ap, subst, inl, inr, arith}
use Rattle.std.specs.Prelude.{◌&&◌}
use Rattle.std.proofs.lemmas.Bool.{cases_Bool, cases_lt}
use Rattle.std.proofs.lemmas.Bool.Decides.{nat_tests}
use Rattle.std.proofs.lemmas.List.{append-nil}
use Rattle.markdown_attention.specs.declared.delimiter.Delimiter.{Delimiter}
use Rattle.markdown_attention.specs.Emphasis.{DelimiterRun, NoneOpens, Pair, closed, is_opener_of, goes_with, kept, opened, paired, strength}
use Rattle.markdown_attention.specs.Runs.{AreResolved}
use Rattle.markdown_attention.specs.Taking.{AreTaken, AreTakenInPart, IsTaking, Takes, close, keep, openers, stay}
use Rattle.markdown_attention.specs.Openers.{IsClosed, IsSound, MayClose}
use Rattle.markdown_attention.specs.Runs.{IsDelimiterRun, marked}
use Rattle.markdown_attention.proofs.Pairs.{resolves, takes_both, takes_more}

-- What a run has made so far.
pub record IsGoing (first_runs runs : List DelimiterRun) (bottoms : List ℕ) (first run : DelimiterRun) (old new : List Delimiter) : Type 0 where
  pub sound : IsSound bottoms runs
  pub is_run : IsDelimiterRun run
  pub closes : run.can_close ≡ true
  pub opens : run.can_open ≡ first.can_open
  pub taking : (taken : List DelimiterRun) → openers taken ≡ first_runs → IsTaking taken first runs run old new

-- A run of which markers are left is kept.
pub kept_some : (run : DelimiterRun) → 0 < run.left → kept run ≡ run ∷ []
kept_some run some = ap (λ b. cond b [] (run ∷ [])) (not_zero run.left some)
  where
    not_zero : (n : ℕ) → 0 < n → (n == 0) ≡ false
    not_zero n h = grind (arith, nat_tests)

pub kept_none : (run : DelimiterRun) → run.left ≤ 0 → kept run ≡ []
kept_none run none = ap (λ b. cond b [] (run ∷ [])) (is_zero run.left none)
  where
    is_zero : (n : ℕ) → n ≤ 0 → (n == 0) ≡ true
    is_zero n h = grind (arith, nat_tests)

-- A run that has made nothing.
pub untaken : (taken : List DelimiterRun) (run : DelimiterRun) (runs : List DelimiterRun) (old : List Delimiter) → 0 < run.left → openers taken ≡ runs → IsTaking taken run runs run old old
untaken taken run runs old some e = record {
  later = taken;
  pairs = [];
  openers_are = e;
  takes = subst (Takes taken (run ∷ []) [] taken) (sym (kept_some run some)) (stay taken (run ∷ []));
  delimiters_are = refl;
}

pub begin : (runs : List DelimiterRun) (bottoms : List ℕ) (run : DelimiterRun) (old : List Delimiter) → IsSound bottoms runs → MayClose run → IsGoing runs runs bottoms run run old old
begin runs bottoms run old sound closes = record {
  sound = sound;
  is_run = closes.is_run;
  closes = closes.closes;
  opens = refl;
  taking = λ taken e. untaken taken run runs old closes.some e;
}

-- The opener of a pair, and those before and after it, among the runs that are taken.
record Parted (taken before : List DelimiterRun) (opener : DelimiterRun) (after : List DelimiterRun) : Type 0 where
  front : List DelimiterRun
  rest : List DelimiterRun
  taken_is : taken ≡ front ++ (opener ∷ rest)
  before_is : openers front ≡ before
  after_is : openers rest ≡ after

parted : (taken before : List DelimiterRun) (opener : DelimiterRun) (after : List DelimiterRun) → openers taken ≡ before ++ (opener ∷ after) → Parted taken before opener after
parted [] [] opener after e = cc
parted [] (b ∷ before) opener after e = cc
parted (r ∷ taken) before opener after e = elim (cases_Bool r.can_open) [
  | inl able ↦ here (λ b later. parted taken b opener after later) before (sym (ap (λ (x : Bool). cond x (r ∷ openers taken) (openers taken)) able) ∙ e) able
  | inr shut ↦
      let p : Parted taken before opener after = parted taken before opener after (sym (ap (λ (x : Bool). cond x (r ∷ openers taken) (openers taken)) shut) ∙ e) in record {
        front = r ∷ p.front;
        rest = p.rest;
        taken_is = ap (λ (x : List DelimiterRun). r ∷ x) p.taken_is;
        before_is = ap (λ (x : Bool). cond x (r ∷ openers p.front) (openers p.front)) shut ∙ p.before_is;
        after_is = p.after_is;
      }
]
  where
    here : ((b : List DelimiterRun) → openers taken ≡ b ++ (opener ∷ after) → Parted taken b opener after) → (before : List DelimiterRun) → r ∷ openers taken ≡ before ++ (opener ∷ after) → r.can_open ≡ true → Parted (r ∷ taken) before opener after
    here again [] e able =
        let first : r ≡ opener = cc in
        let later : openers taken ≡ after = cc in
        record { front = []; rest = taken; taken_is = ap (λ (x : DelimiterRun). x ∷ taken) first; before_is = refl; after_is = later }
    here again (b ∷ before) e able =
        let first : r ≡ b = cc in
        let later : openers taken ≡ before ++ (opener ∷ after) = cc in
        let p : Parted taken before opener after = again before later in record {
          front = r ∷ p.front;
          rest = p.rest;
          taken_is = ap (λ (x : List DelimiterRun). r ∷ x) p.taken_is;
          before_is = ap (λ (x : Bool). cond x (r ∷ openers p.front) (openers p.front)) able ∙ ap (λ (x : List DelimiterRun). r ∷ x) p.before_is ∙ ap (λ (x : DelimiterRun). x ∷ before) first;
          after_is = p.after_is;
        }

none_openers : (runs : List DelimiterRun) (closer : DelimiterRun) → NoneOpens (openers runs) closer → NoneOpens runs closer
none_openers [] closer none = tt
none_openers (r ∷ runs) closer none = elim (cases_Bool r.can_open) [
  | inl able ↦ (let both : NoneOpens (r ∷ openers runs) closer = subst (λ x. NoneOpens x closer) (ap (λ (x : Bool). cond x (r ∷ openers runs) (openers runs)) able) none in (both.0, none_openers runs closer both.1))
  | inr shut ↦ (unable r closer shut, none_openers runs closer (subst (λ x. NoneOpens x closer) (ap (λ (x : Bool). cond x (r ∷ openers runs) (openers runs)) shut) none))
]
  where
    unable : (o k : DelimiterRun) → o.can_open ≡ false → is_opener_of o k ≡ false
    unable o k e = ap (λ (b : Bool). (b && k.can_close) && goes_with o k) e

openers_both : (front rest : List DelimiterRun) → openers (front ++ rest) ≡ openers front ++ openers rest
openers_both [] rest = refl
openers_both (r ∷ front) rest = by_able (openers_both front rest) r.can_open
  where
    by_able : openers (front ++ rest) ≡ openers front ++ openers rest → (b : Bool) → cond b (r ∷ openers (front ++ rest)) (openers (front ++ rest)) ≡ cond b (r ∷ openers front) (openers front) ++ openers rest
    by_able same true = ap (λ (x : List DelimiterRun). r ∷ x) same
    by_able same false = same

openers_kept : (n : ℕ) (run : DelimiterRun) → run.can_open ≡ true → openers (kept (opened n run)) ≡ kept (opened n run)
openers_kept n run able = by_left ((opened n run).left == 0)
  where
    by_left : (b : Bool) → openers (cond b [] (opened n run ∷ [])) ≡ cond b [] (opened n run ∷ [])
    by_left true = refl
    by_left false = ap (λ (x : Bool). cond x (opened n run ∷ []) []) able

opener_opens : (o k : DelimiterRun) → is_opener_of o k ≡ true → o.can_open ≡ true
opener_opens o k e = elim (cases_Bool o.can_open) [
  | inl able ↦ able
  | inr shut ↦ (let none : is_opener_of o k ≡ false = ap (λ (b : Bool). (b && k.can_close) && goes_with o k) shut in let same : false ≡ true = sym none ∙ e in cc)
]

marked_both : (first second : List Pair) (delimiters : List Delimiter) → marked (first ++ second) delimiters ≡ marked second (marked first delimiters)
marked_both [] second delimiters = refl
marked_both (pair ∷ first) second delimiters = marked_both first second _

-- One more pair.
step : (taken : List DelimiterRun) (first : DelimiterRun) (runs : List DelimiterRun) (run : DelimiterRun) (old new : List Delimiter) (left_runs : List DelimiterRun) (left : DelimiterRun) (newer : List Delimiter)
    → 0 < run.left → IsTaking taken first runs run old new → IsClosed runs run left_runs left new newer → IsTaking taken first left_runs left old newer
step taken first runs run old new left_runs left newer some t x =
    let n : ℕ = strength x.opener run in
    let p : Parted t.later x.before x.opener x.after = parted t.later x.before x.opener x.after (t.openers_are ∙ x.runs_are) in
    let left_is : left ≡ closed n run = x.paired.left_is in
    let none : NoneOpens p.rest run = none_openers p.rest run (subst (λ y. NoneOpens y run) (sym p.after_is) x.none) in
    let ended : Takes (p.front ++ kept (opened n x.opener)) (kept (closed n run) ++ []) [] (p.front ++ kept (opened n x.opener)) (kept left) =
    subst (λ y. Takes (p.front ++ kept (opened n x.opener)) (kept (closed n run) ++ []) [] (p.front ++ kept (opened n x.opener)) y)
    (append-nil (kept (closed n run)) ∙ ap kept (sym left_is)) (stay (p.front ++ kept (opened n x.opener)) (kept (closed n run) ++ [])) in
    let closing : Takes (p.front ++ (x.opener ∷ p.rest)) (run ∷ []) (paired x.opener run ∷ []) (p.front ++ kept (opened n x.opener)) (kept left) =
    close p.front p.rest x.opener run [] [] (p.front ++ kept (opened n x.opener)) (kept left) x.fit none ended in
    let going : Takes t.later (kept run) (paired x.opener run ∷ []) (p.front ++ kept (opened n x.opener)) (kept left) =
    subst (λ y. Takes t.later y (paired x.opener run ∷ []) (p.front ++ kept (opened n x.opener)) (kept left)) (sym (kept_some run some))
    (subst (λ y. Takes y (run ∷ []) (paired x.opener run ∷ []) (p.front ++ kept (opened n x.opener)) (kept left)) (sym p.taken_is) closing) in record {
      later = p.front ++ kept (opened n x.opener);
      pairs = t.pairs ++ (paired x.opener run ∷ []);
      openers_are = openers_both p.front (kept (opened n x.opener)) ∙ ap (λ (y : List DelimiterRun). openers p.front ++ y) (openers_kept n x.opener (opener_opens x.opener run x.fit))
          ∙ ap (λ (y : List DelimiterRun). y ++ kept (opened n x.opener)) p.before_is ∙ sym x.paired.runs_are;
      takes = takes_both taken (first ∷ []) t.pairs t.later (kept run) (paired x.opener run ∷ []) (p.front ++ kept (opened n x.opener)) (kept left) t.takes going;
      delimiters_are = x.paired.delimiters_are ∙ ap (λ y. marked (paired x.opener run ∷ []) y) t.delimiters_are ∙ sym (marked_both t.pairs (paired x.opener run ∷ []) old);
    }

pub goes_on : (first_runs runs : List DelimiterRun) (bottoms : List ℕ) (first run : DelimiterRun) (old new : List Delimiter) (left_runs : List DelimiterRun) (left : DelimiterRun) (newer : List Delimiter) (bottoms_left : List ℕ)
    → 0 < run.left → IsGoing first_runs runs bottoms first run old new → IsClosed runs run left_runs left new newer → IsSound bottoms_left left_runs
    → IsGoing first_runs left_runs bottoms_left first left old newer
goes_on first_runs runs bottoms first run old new left_runs left newer bottoms_left some g x sound =
    let left_is : left ≡ closed (strength x.opener run) run = x.paired.left_is in record {
      sound = sound;
      is_run = subst IsDelimiterRun (sym left_is) g.is_run;
      closes = ap (λ (r : DelimiterRun). r.can_close) left_is ∙ g.closes;
      opens = ap (λ (r : DelimiterRun). r.can_open) left_is ∙ g.opens;
      taking = λ taken e. step taken first runs run old new left_runs left newer some (g.taking taken e) x;
    }

-- A run is taken once it has no opener any more.
pub taken_whole : (taken : List DelimiterRun) (first : DelimiterRun) (runs : List DelimiterRun) (run : DelimiterRun) (old new : List Delimiter) → IsTaking taken first runs run old new → (0 < run.left → NoneOpens runs run)
    → AreTaken taken (first ∷ []) (runs ++ openers (kept run)) old new
taken_whole taken first runs run old new t none = elim (cases_lt 0 run.left) [
  | inl some ↦
      let last : List DelimiterRun = t.later ++ (run ∷ []) in
      let opens : NoneOpens t.later run = none_openers t.later run (subst (λ x. NoneOpens x run) (sym t.openers_are) (none some)) in
      let kept_on : Takes t.later (kept run) [] last [] = subst (λ x. Takes t.later x [] last []) (sym (kept_some run some)) (keep t.later run [] [] last [] opens (stay last [])) in record {
        later = last;
        pairs = t.pairs ++ [];
        openers_are = openers_both t.later (run ∷ []) ∙ ap (λ x. x ++ openers (run ∷ [])) t.openers_are ∙ ap (λ (x : List DelimiterRun). runs ++ openers x) (sym (kept_some run some));
        takes = takes_both taken (first ∷ []) t.pairs t.later (kept run) [] last [] t.takes kept_on;
        delimiters_are = t.delimiters_are ∙ sym (marked_both t.pairs [] old);
      }
  | inr gone ↦ record {
    later = t.later;
    pairs = t.pairs;
    openers_are = t.openers_are ∙ sym (ap (λ (x : List DelimiterRun). runs ++ openers x) (kept_none run gone) ∙ append-nil runs);
    takes = subst (λ x. Takes taken (first ∷ []) t.pairs t.later x) (kept_none run gone) t.takes;
    delimiters_are = t.delimiters_are;
  }
]

pub none_taken : (taken runs : List DelimiterRun) (old : List Delimiter) → openers taken ≡ runs → AreTaken taken [] runs old old
none_taken taken runs old e = record { later = taken; pairs = []; openers_are = e; takes = stay taken []; delimiters_are = refl }

-- Runs, and then one more.
pub one_more : (taken front : List DelimiterRun) (run : DelimiterRun) (runs later : List DelimiterRun) (old new newer : List Delimiter) → AreTaken taken front runs old new
    → ((taken : List DelimiterRun) → openers taken ≡ runs → AreTaken taken (run ∷ []) later new newer) → AreTaken taken (front ++ (run ∷ [])) later old newer
one_more taken front run runs later old new newer t next =
    let u : AreTaken t.later (run ∷ []) later new newer = next t.later t.openers_are in record {
      later = u.later;
      pairs = t.pairs ++ u.pairs;
      openers_are = u.openers_are;
      takes = takes_both taken (front ++ (run ∷ [])) t.pairs t.later (run ∷ []) u.pairs u.later [] (takes_more taken front t.pairs t.later [] (run ∷ []) t.takes) u.takes;
      delimiters_are = u.delimiters_are ∙ ap (λ x. marked u.pairs x) t.delimiters_are ∙ sym (marked_both t.pairs u.pairs old);
    }

pub are_resolved : (runs last : List DelimiterRun) (old new : List Delimiter) → AreTaken [] runs last old new → AreResolved runs old new
are_resolved runs last old new t = record { pairs = t.pairs; resolves = resolves [] runs t.pairs t.later tt t.takes; delimiters_are = t.delimiters_are }

-- Some of the runs, where memory ran out.
pub in_part : (taken : List DelimiterRun) (first : DelimiterRun) (runs : List DelimiterRun) (run : DelimiterRun) (old new : List Delimiter) → IsTaking taken first runs run old new → AreTakenInPart taken (first ∷ []) old new
in_part taken first runs run old new t = record { later = t.later; left = kept run; pairs = t.pairs; takes = t.takes; delimiters_are = t.delimiters_are }

pub all_in_part : (taken rest runs : List DelimiterRun) (old new : List Delimiter) → AreTaken taken rest runs old new → AreTakenInPart taken rest old new
all_in_part taken rest runs old new t = record { later = t.later; left = []; pairs = t.pairs; takes = t.takes; delimiters_are = t.delimiters_are }

pub one_in_part : (taken front : List DelimiterRun) (run : DelimiterRun) (rest runs : List DelimiterRun) (old new newer : List Delimiter) → AreTaken taken front runs old new
    → ((taken : List DelimiterRun) → openers taken ≡ runs → AreTakenInPart taken (run ∷ []) new newer) → AreTakenInPart taken (front ++ (run ∷ rest)) old newer
one_in_part taken front run rest runs old new newer t next =
    let u : AreTakenInPart t.later (run ∷ []) new newer = next t.later t.openers_are in record {
      later = u.later;
      left = u.left ++ rest;
      pairs = t.pairs ++ u.pairs;
      takes = takes_both taken (front ++ (run ∷ rest)) t.pairs t.later (run ∷ rest) u.pairs u.later (u.left ++ rest) (takes_more taken front t.pairs t.later [] (run ∷ rest) t.takes)
          (takes_more t.later (run ∷ []) u.pairs u.later u.left rest u.takes);
      delimiters_are = u.delimiters_are ∙ ap (λ x. marked u.pairs x) t.delimiters_are ∙ sym (marked_both t.pairs u.pairs old);
    }
