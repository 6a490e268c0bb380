-- Taking runs one after the other makes the pairs of emphasis.
use Rattle.std.proofs.Common.{ℕ, ◌==◌, Bool, true, false, cond, List, [], ◌∷◌, ◌++◌, sym, subst}
use Rattle.std.proofs.lemmas.List.{append_assoc, append-nil}
use Rattle.markdown_attention.specs.Taking.{Takes, close, keep, stay}
use Rattle.markdown_attention.specs.Emphasis.{DelimiterRun, AreUnpaired, AreUnpairedAfter, NoneOpens, Pair, Resolves, closed, done, kept, opened, pair, paired, strength}

-- The runs that are taken are unpaired.
none_after : (earlier runs : List DelimiterRun) (run : DelimiterRun) → AreUnpairedAfter earlier runs → NoneOpens (earlier ++ runs) run → AreUnpairedAfter earlier (runs ++ (run ∷ []))
none_after earlier [] run none last = (subst (λ x. NoneOpens x run) (append-nil earlier) last, tt)
none_after earlier (r ∷ runs) run none last = (none.0, none_after (earlier ++ (r ∷ [])) runs run none.1 (subst (λ x. NoneOpens x run) (sym (append_assoc earlier (r ∷ []) runs)) last))

none_front : (earlier front rest : List DelimiterRun) → AreUnpairedAfter earlier (front ++ rest) → AreUnpairedAfter earlier front
none_front earlier [] rest none = tt
none_front earlier (r ∷ front) rest none = (none.0, none_front (earlier ++ (r ∷ [])) front rest none.1)

same_opened : (earlier : List DelimiterRun) (n : ℕ) (run : DelimiterRun) → NoneOpens earlier run → NoneOpens earlier (opened n run)
same_opened [] n run none = tt
same_opened (r ∷ earlier) n run none = (none.0, same_opened earlier n run none.1)

kept_none : (b : Bool) (earlier : List DelimiterRun) (n : ℕ) (run : DelimiterRun) → NoneOpens earlier run → AreUnpairedAfter earlier (cond b [] (opened n run ∷ []))
kept_none true earlier n run none = tt
kept_none false earlier n run none = (same_opened earlier n run none, tt)

none_kept : (earlier front rest : List DelimiterRun) (n : ℕ) (run : DelimiterRun) → AreUnpairedAfter earlier (front ++ (run ∷ rest)) → AreUnpairedAfter earlier (front ++ kept (opened n run))
none_kept earlier [] rest n run none = kept_none ((opened n run).left == 0) earlier n run none.0
none_kept earlier (r ∷ front) rest n run none = (none.0, none_kept (earlier ++ (r ∷ [])) front rest n run none.1)

pub resolves : (taken runs : List DelimiterRun) (pairs : List Pair) (last : List DelimiterRun) → AreUnpaired taken → Takes taken runs pairs last [] → Resolves (taken ++ runs) pairs
resolves taken _ _ _ none (stay _ _) = done (taken ++ []) (subst AreUnpaired (sym (append-nil taken)) none)
resolves taken _ pairs last none (keep _ run rest _ _ _ opens later) =
    subst (λ x. Resolves x pairs) (append_assoc taken (run ∷ []) rest) (resolves (taken ++ (run ∷ [])) rest pairs last (none_after [] taken run none opens) later)
resolves _ _ _ last none (close before between opener run rest pairs _ _ fit opens later) =
    let n : ℕ = strength opener run in
    let again : Resolves ((before ++ kept (opened n opener)) ++ (kept (closed n run) ++ rest)) pairs =
    resolves (before ++ kept (opened n opener)) (kept (closed n run) ++ rest) pairs last (none_kept [] before between n opener none) later in
    subst (λ x. Resolves x (paired opener run ∷ pairs)) (sym (append_assoc before (opener ∷ between) (run ∷ rest)))
    (pair before between rest opener run pairs none fit opens
    (subst (λ x. Resolves x pairs) (append_assoc before (kept (opened n opener)) (kept (closed n run) ++ rest)) again))

-- Steps that follow other steps.
pub takes_both : (taken runs : List DelimiterRun) (pairs : List Pair) (between left : List DelimiterRun) (later : List Pair) (last none : List DelimiterRun)
    → Takes taken runs pairs between left → Takes between left later last none → Takes taken runs (pairs ++ later) last none
takes_both taken runs _ _ _ later last none (stay _ _) second = second
takes_both taken _ pairs between left later last none (keep _ run rest _ _ _ opens first) second = keep taken run rest (pairs ++ later) last none opens (takes_both (taken ++ (run ∷ [])) rest pairs between left later last none first second)
takes_both _ _ _ between left later last none (close before middle opener run rest pairs _ _ fit opens first) second =
    close before middle opener run rest (pairs ++ later) last none fit opens
    (takes_both (before ++ kept (opened (strength opener run) opener)) (kept (closed (strength opener run) run) ++ rest) pairs between left later last none first second)

-- Steps of the first runs are steps of all of them.
pub takes_more : (taken runs : List DelimiterRun) (pairs : List Pair) (last left more : List DelimiterRun) → Takes taken runs pairs last left → Takes taken (runs ++ more) pairs last (left ++ more)
takes_more taken runs _ _ _ more (stay _ _) = stay taken (runs ++ more)
takes_more taken _ pairs last left more (keep _ run rest _ _ _ opens later) = keep taken run (rest ++ more) pairs last (left ++ more) opens (takes_more (taken ++ (run ∷ [])) rest pairs last left more later)
takes_more _ _ _ last left more (close before between opener run rest pairs _ _ fit opens later) =
    close before between opener run (rest ++ more) pairs last (left ++ more) fit opens
    (subst (λ x. Takes (before ++ kept (opened (strength opener run) opener)) x pairs last (left ++ more)) (append_assoc (kept (closed (strength opener run) run)) rest more)
    (takes_more (before ++ kept (opened (strength opener run) opener)) (kept (closed (strength opener run) run) ++ rest) pairs last left more later))
