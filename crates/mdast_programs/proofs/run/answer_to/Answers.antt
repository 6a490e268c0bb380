use Rattle.std.proofs.Common.{rules, ◌≡◌, ℕ, List, Option, Some, None, Result, Ok, Err, sym, ◌∙◌, ap, subst, arith}
use Rattle.std.specs.Prelude.{IfOk, IfSome, IsSomeAnd}
use Rattle.std.specs.Io.KnownBytes.{IsAtEnd}
use Rattle.markdown_events.specs.declared.event.Event.{Event}
use Rattle.markdown_grammar.specs.Correct.{IsMeaning, Refuses}
use Rattle.mdast_programs.specs.declared.run.Answer.{Answer}
use Rattle.mdast_programs.specs.declared.run.Answer.TheVariants as answers
use Rattle.event_lines.specs.Lines.{lines}
use Rattle.mdast_programs.specs.Run.{IsAnswer, IsCompiled, over}
use Rattle.mdast_programs.proofs.run.answer_to.Goals as goal

-- what holds of the events holds of the lines of what was read
of_lines : (P : List Event → Type 0) (known : Option (List ℕ)) (text : List ℕ) (events : List Event)
    → IfSome known (λ all. text ≡ all) → lines text ≡ Some events → P events → IfSome known (λ all. IsSomeAnd (lines all) P)
of_lines P None text events read are p = tt
of_lines P (Some all) text events read are p = subst (λ o. IsSomeAnd o P) (sym are ∙ ap lines read) p

is_answer : (a : Answer) (known left : Option (List ℕ)) (text : List ℕ) (events : List Event) (doc : List ℕ)
    → IsAtEnd left → IfSome known (λ all. text ≡ all) → lines text ≡ Some events → IsCompiled a events doc → IsAnswer a known left doc
is_answer (answers.Tree tree) known left text events doc end read are is_it = (end, of_lines (λ es. IsMeaning tree es (over doc)) known text events read are is_it)
is_answer (answers.Refused message) known left text events doc end read are is_it = (end, of_lines (λ es. Refuses message es (over doc)) known text events read are is_it)
is_answer (answers.UnreadLine number) known left text events doc end read are is_it = absurd is_it
is_answer answers.UnreadEvents known left text events doc end read are is_it = tt

if_answered : {E : Type 0} (r : Result Answer E) (known left : Option (List ℕ)) (text : List ℕ) (events : List Event) (doc : List ℕ)
    → IsAtEnd left → IfSome known (λ all. text ≡ all) → lines text ≡ Some events → IfOk r (λ a. IsCompiled a events doc) → IfOk r (λ a. IsAnswer a known left doc)
if_answered (Ok a) known left text events doc end read are is_it = is_answer a known left text events doc end read are is_it
if_answered (Err e) known left text events doc end read are is_it = tt

pub returns : goal.returns
returns g c =
    let are = rw c.deref.ensures.value at c.in-Ok-events.ensures.ok in
    if_answered c.compiled.result _ _ _ c.in-Ok-events.events.items c.args.doc.now c.in-Ok.ensures.end c.in-Ok.ensures.bytes are (rw c.deref-2.ensures.value at c.compiled.ensures)

pub returns-in-Err-Unread : goal.returns-in-Err-Unread
returns-in-Err-Unread g c = search rules
