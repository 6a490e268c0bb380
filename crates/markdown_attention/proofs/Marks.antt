-- The kinds of pairs have the markers of the runs that make them.
use Rattle.std.proofs.Common.{◌≡◌, ◌==◌, Bool, true, false, cond, List, [], ◌∷◌, ◌++◌, refl, inl, inr, subst, ◌⊎◌}
use Rattle.std.specs.List.{All}
use Rattle.std.proofs.lemmas.List.{append_assoc}
use Rattle.std.proofs.lemmas.List.Elements.{All-cons, All-nil}
use Rattle.markdown_attention.specs.Emphasis.{DelimiterRun, Pair, closed, is_strong, kept, kind_with, opened, paired, strength}
use Rattle.markdown_attention.specs.Runs.{AreMarked, HasMarkerOf, is_struck}
use Rattle.markdown_attention.specs.Taking.{AreTakenInPart, Takes, close, keep, stay}
use Rattle.markdown_attention.specs.declared.delimiter.AttentionKind.{AttentionKind}
use Rattle.markdown_attention.specs.declared.delimiter.AttentionKind.TheVariants.{DoubleStrikethrough, Emphasis, Strikethrough, Strong}
use Rattle.markdown_attention.specs.declared.delimiter.Delimiter.{Delimiter}

left_has : (front rest : List DelimiterRun) (kind : AttentionKind) → HasMarkerOf front kind → HasMarkerOf (front ++ rest) kind
left_has [] rest kind has = absurd has
left_has (r ∷ front) rest kind (inl e) = inl e
left_has (r ∷ front) rest kind (inr has) = inr (left_has front rest kind has)

right_has : (front rest : List DelimiterRun) (kind : AttentionKind) → HasMarkerOf rest kind → HasMarkerOf (front ++ rest) kind
right_has [] rest kind has = has
right_has (r ∷ front) rest kind has = inr (right_has front rest kind has)

either_has : (front rest : List DelimiterRun) (kind : AttentionKind) → HasMarkerOf (front ++ rest) kind → HasMarkerOf front kind ⊎ HasMarkerOf rest kind
either_has [] rest kind has = inr has
either_has (r ∷ front) rest kind (inl e) = inl (inl e)
either_has (r ∷ front) rest kind (inr has) = elim (either_has front rest kind has) [
  | inl here ↦ inl (inr here)
  | inr there ↦ inr there
]

kept_has : (run : DelimiterRun) (kind : AttentionKind) → HasMarkerOf (kept run) kind → HasMarkerOf (run ∷ []) kind
kept_has run kind = by_left (run.left == 0)
  where
    by_left : (b : Bool) → HasMarkerOf (cond b [] (run ∷ [])) kind → HasMarkerOf (run ∷ []) kind
    by_left true has = absurd has
    by_left false has = has

opener_has : (opener closer : DelimiterRun) → (opener.marker == 126) ≡ is_struck (kind_with opener closer)
opener_has opener closer = by_marker (opener.marker == 126) (is_strong opener closer)
  where
    by_marker : (is_tilde double : Bool) → is_tilde ≡ is_struck (cond is_tilde (cond double DoubleStrikethrough Strikethrough) (cond double Strong Emphasis))
    by_marker true true = refl
    by_marker true false = refl
    by_marker false true = refl
    by_marker false false = refl

-- What is left of the runs of a pair has no other markers.
rest_has : (before between rest : List DelimiterRun) (opener run : DelimiterRun) (o r : DelimiterRun) (kind : AttentionKind)
    → (HasMarkerOf (kept o) kind → HasMarkerOf (opener ∷ []) kind) → (HasMarkerOf (kept r) kind → HasMarkerOf (run ∷ []) kind)
    → HasMarkerOf ((before ++ kept o) ++ (kept r ++ rest)) kind → HasMarkerOf ((before ++ (opener ∷ between)) ++ (run ∷ rest)) kind
rest_has before between rest opener run o r kind opens closes has = elim (either_has (before ++ kept o) (kept r ++ rest) kind has) [
  | inl front ↦ left_has (before ++ (opener ∷ between)) (run ∷ rest) kind (in_front (either_has before (kept o) kind front))
  | inr later ↦ right_has (before ++ (opener ∷ between)) (run ∷ rest) kind (in_rest (either_has (kept r) rest kind later))
]
  where
    in_front : HasMarkerOf before kind ⊎ HasMarkerOf (kept o) kind → HasMarkerOf (before ++ (opener ∷ between)) kind
    in_front (inl has) = left_has before (opener ∷ between) kind has
    in_front (inr has) = right_has before (opener ∷ between) kind (left_has (opener ∷ []) between kind (opens has))

    in_rest : HasMarkerOf (kept r) kind ⊎ HasMarkerOf rest kind → HasMarkerOf (run ∷ rest) kind
    in_rest (inl has) = left_has (run ∷ []) rest kind (closes has)
    in_rest (inr has) = inr has

takes_has : (all taken runs : List DelimiterRun) (pairs : List Pair) (last left : List DelimiterRun) → ((kind : AttentionKind) → HasMarkerOf (taken ++ runs) kind → HasMarkerOf all kind) → Takes taken runs pairs last left
    → All (λ (pair : Pair). HasMarkerOf all pair.kind) pairs
takes_has all taken runs _ _ _ more (stay _ _) = All-nil (λ (pair : Pair). HasMarkerOf all pair.kind)
takes_has all taken _ pairs last left more (keep _ run rest _ _ _ _ later) =
    takes_has all (taken ++ (run ∷ [])) rest pairs last left (λ kind has. more kind (subst (λ x. HasMarkerOf x kind) (append_assoc taken (run ∷ []) rest) has)) later
takes_has all _ _ _ last left more (close before between opener run rest pairs _ _ _ _ later) =
    let o : DelimiterRun = opened (strength opener run) opener in
    let r : DelimiterRun = closed (strength opener run) run in
    All-cons (λ (pair : Pair). HasMarkerOf all pair.kind) (paired opener run) pairs
    (more (kind_with opener run) (left_has (before ++ (opener ∷ between)) (run ∷ rest) (kind_with opener run) (right_has before (opener ∷ between) (kind_with opener run) (inl (opener_has opener run)))))
    (takes_has all (before ++ kept o) (kept r ++ rest) pairs last left
    (λ kind has. more kind (rest_has before between rest opener run o r kind (kept_has o kind) (kept_has r kind) has)) later)

pub are_marked : (runs : List DelimiterRun) (old new : List Delimiter) → AreTakenInPart [] runs old new → AreMarked runs old new
are_marked runs old new t = record { pairs = t.pairs; kinds = takes_has runs [] runs t.pairs t.later t.left (λ kind has. has) t.takes; delimiters_are = t.delimiters_are }
