-- The pairs of emphasis are the only ones.
use Rattle.std.proofs.Common.{◌≡◌, true, false, List, [], ◌∷◌, ◌++◌, refl, sym, ◌∙◌, ap, subst}
use Rattle.std.proofs.lemmas.List.{append_assoc, append-nil}
use Rattle.markdown_attention.specs.Emphasis.{DelimiterRun, AreUnpaired, AreUnpairedAfter, NoneOpens, Pair, Resolves, done, is_opener_of, pair}

-- Two runs stand at the same place of a list, or one of them before the other.
data Places : List DelimiterRun → DelimiterRun → List DelimiterRun → List DelimiterRun → DelimiterRun → List DelimiterRun → Type 0 where
  same : (before before' after after' : List DelimiterRun) (x y : DelimiterRun) → before ≡ before' → x ≡ y → after ≡ after' → Places before x after before' y after'
  first : (before before' after after' between : List DelimiterRun) (x y : DelimiterRun) → before' ≡ before ++ (x ∷ between) → after ≡ between ++ (y ∷ after') → Places before x after before' y after'
  second : (before before' after after' between : List DelimiterRun) (x y : DelimiterRun) → before ≡ before' ++ (y ∷ between) → after' ≡ between ++ (x ∷ after) → Places before x after before' y after'

places : (before before' after after' : List DelimiterRun) (x y : DelimiterRun) → before ++ (x ∷ after) ≡ before' ++ (y ∷ after') → Places before x after before' y after'
places [] [] after after' x y e =
    let one : x ≡ y = cc in
    let rest : after ≡ after' = cc in same [] [] after after' x y refl one rest
places [] (b ∷ before') after after' x y e =
    let one : x ≡ b = cc in
    let rest : after ≡ before' ++ (y ∷ after') = cc in first [] (b ∷ before') after after' before' x y (ap (λ z. z ∷ before') (sym one)) rest
places (a ∷ before) [] after after' x y e =
    let one : a ≡ y = cc in
    let rest : before ++ (x ∷ after) ≡ after' = cc in second (a ∷ before) [] after after' before x y (ap (λ z. z ∷ before) one) (sym rest)
places (a ∷ before) (b ∷ before') after after' x y e =
    let one : a ≡ b = cc in
    let rest : before ++ (x ∷ after) ≡ before' ++ (y ∷ after') = cc in longer one (places before before' after after' x y rest)
  where
    longer : a ≡ b → Places before x after before' y after' → Places (a ∷ before) x after (b ∷ before') y after'
    longer one (same _ _ _ _ _ _ front here rest) = same (a ∷ before) (b ∷ before') after after' x y (rw (one, front) refl) here rest
    longer one (first _ _ _ _ between _ _ front rest) = first (a ∷ before) (b ∷ before') after after' between x y (rw (one, front) refl) rest
    longer one (second _ _ _ _ between _ _ front rest) = second (a ∷ before) (b ∷ before') after after' between x y (rw (one, front) refl) rest

none_at : (before : List DelimiterRun) (o : DelimiterRun) (after : List DelimiterRun) (closer : DelimiterRun) → NoneOpens (before ++ (o ∷ after)) closer → is_opener_of o closer ≡ true → ⊥
none_at [] o after closer none fit = (let wrong : false ≡ true = sym none.0 ∙ fit in cc)
none_at (r ∷ before) o after closer none fit = none_at before o after closer none.1 fit

none_opens : (earlier before after : List DelimiterRun) (closer : DelimiterRun) → AreUnpairedAfter earlier (before ++ (closer ∷ after)) → NoneOpens (earlier ++ before) closer
none_opens earlier [] after closer none = subst (λ x. NoneOpens x closer) (sym (append-nil earlier)) none.0
none_opens earlier (r ∷ before) after closer none = subst (λ x. NoneOpens x closer) (append_assoc earlier (r ∷ []) before) (none_opens (earlier ++ (r ∷ [])) before after closer none.1)

-- Unpaired runs have no pair.
no_pair : (before between after : List DelimiterRun) (opener closer : DelimiterRun) → AreUnpaired (before ++ (opener ∷ (between ++ (closer ∷ after)))) → is_opener_of opener closer ≡ true → ⊥
no_pair before between after opener closer none fit =
    none_at before opener between closer
    (none_opens [] (before ++ (opener ∷ between)) after closer (subst AreUnpaired (sym (append_assoc before (opener ∷ between) (closer ∷ after))) none)) fit

-- Two lists of pairs begin with the same pair.
record AreSame (before between rest before' between' rest' : List DelimiterRun) (opener closer opener' closer' : DelimiterRun) : Type 0 where
  before_is : before ≡ before'
  opener_is : opener ≡ opener'
  closer_is : closer ≡ closer'
  rest_is : rest ≡ rest'

pair_is : (before between rest before' between' rest' : List DelimiterRun) (opener closer opener' closer' : DelimiterRun) → AreUnpaired (before ++ (opener ∷ between)) → is_opener_of opener closer ≡ true → NoneOpens between closer
    → AreUnpaired (before' ++ (opener' ∷ between')) → is_opener_of opener' closer' ≡ true → NoneOpens between' closer'
    → before ++ (opener ∷ (between ++ (closer ∷ rest))) ≡ before' ++ (opener' ∷ (between' ++ (closer' ∷ rest')))
    → AreSame before between rest before' between' rest' opener closer opener' closer'
pair_is before between rest before' between' rest' opener closer opener' closer' none fit near none' fit' near' e =
    by_closer (places (before ++ (opener ∷ between)) (before' ++ (opener' ∷ between')) rest rest' closer closer'
    (append_assoc before (opener ∷ between) (closer ∷ rest) ∙ e ∙ sym (append_assoc before' (opener' ∷ between') (closer' ∷ rest'))))
  where
    by_opener : closer ≡ closer' → rest ≡ rest' → Places before opener between before' opener' between' → AreSame before between rest before' between' rest' opener closer opener' closer'
    by_opener here rest_is (same _ _ _ _ _ _ front there _) = record { before_is = front; opener_is = there; closer_is = here; rest_is = rest_is }
    by_opener here rest_is (first _ _ _ _ middle _ _ _ later) = absurd (none_at middle opener' between' closer' (subst (λ x. NoneOpens x closer') later (subst (λ x. NoneOpens between x) here near)) fit')
    by_opener here rest_is (second _ _ _ _ middle _ _ _ later) = absurd (none_at middle opener between closer (subst (λ x. NoneOpens x closer) later (subst (λ x. NoneOpens between' x) (sym here) near')) fit)

    by_closer : Places (before ++ (opener ∷ between)) closer rest (before' ++ (opener' ∷ between')) closer' rest' → AreSame before between rest before' between' rest' opener closer opener' closer'
    by_closer (same _ _ _ _ _ _ front here rest_is) = by_opener here rest_is (places before before' between between' opener opener' front)
    by_closer (first _ _ _ _ middle _ _ front _) = absurd (no_pair before between middle opener closer (subst AreUnpaired (front ∙ append_assoc before (opener ∷ between) (closer ∷ middle)) none') fit)
    by_closer (second _ _ _ _ middle _ _ front _) = absurd (no_pair before' between' middle opener' closer' (subst AreUnpaired (front ∙ append_assoc before' (opener' ∷ between') (closer' ∷ middle)) none) fit')

same_runs : (runs runs' : List DelimiterRun) (pairs pairs' : List Pair) → Resolves runs pairs → Resolves runs' pairs' → runs ≡ runs' → pairs ≡ pairs'
same_runs runs runs' _ _ (done _ none) (done _ none') e = refl
same_runs runs _ _ _ (done _ none) (pair before between rest opener closer pairs' _ fit _ _) e = absurd (no_pair before between rest opener closer (subst AreUnpaired e none) fit)
same_runs _ runs' _ _ (pair before between rest opener closer pairs _ fit _ _) (done _ none) e = absurd (no_pair before between rest opener closer (subst AreUnpaired (sym e) none) fit)
same_runs _ _ _ _ (pair before between rest opener closer pairs none fit near more) (pair before' between' rest' opener' closer' pairs' none' fit' near' more') e =
    let s = pair_is before between rest before' between' rest' opener closer opener' closer' none fit near none' fit' near' e in
    let again : pairs ≡ pairs' = same_runs _ _ pairs pairs' more more' (rw (s.before_is, s.opener_is, s.closer_is, s.rest_is) refl) in
    rw (s.opener_is, s.closer_is, again) refl

pub unique : (runs : List DelimiterRun) (pairs pairs' : List Pair) → Resolves runs pairs → Resolves runs pairs' → pairs ≡ pairs'
unique runs pairs pairs' one other = same_runs runs runs pairs pairs' one other refl
