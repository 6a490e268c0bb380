-- What a run that checks a tree wrote, with status 0, 1 and 4.
use Rattle.std.proofs.Common.{◌≡◌, ℕ, List, [], ◌∷◌, Option, Some, None, inl, inr, refl, subst, sym, ap, ◌∙◌}
use Rattle.std.specs.Prelude.{IfSome, IsSomeAnd, ◌≢◌, ◌⊎◌}
use Rattle.std.specs.Io.KnownBytes.{Appends}
use Rattle.markdown_events.specs.declared.event.Event.{Event}
use Rattle.markdown_events.specs.declared.message.Message.{Message}
use Rattle.markdown_nodes.specs.View.{view}
use Rattle.markdown_nodes.specs.declared.mdast.Node.{Node}
use Rattle.markdown_grammar.specs.Correct.{IsMeaning, Refuses}
use Rattle.mdast_check.specs.References.{Reference, open_in}
use Rattle.mdast_check.specs.Report.{IsReport}
use Rattle.mdast_programs.specs.Check.{IsChecked, tree_status}
use Rattle.event_lines.specs.Lines.{lines}
use Rattle.mdast_programs.specs.Run.{IsAnswer, IsRefusedWith, message_line, over}
use Rattle.mdast_programs.specs.declared.run.Answer.{Answer}
use Rattle.mdast_programs.specs.declared.run.Answer.TheVariants as answers

-- a status that was written is that of what was said
pub status_said : (result status wanted : ℕ) → (result ≡ status) ⊎ (result ≡ 2) → result ≡ wanted → wanted ≢ 2 → status ≡ wanted
status_said result status wanted (inl same) is other = sym same ∙ is
status_said result status wanted (inr two) is other = absurd (other (sym is ∙ two))

none_open : (found : List Reference) → tree_status found ≡ 0 → found ≡ []
none_open [] zero = refl
none_open (first ∷ rest) zero = let z : ⊥ = cc in absurd z

some_open : (found : List Reference) → tree_status found ≡ 4 → found ≢ []
some_open found four = λ none. let z : 0 ≡ 4 = sym (ap tree_status none) ∙ four in absurd cc

-- no tree has the status 1
none_one : (found : List Reference) → tree_status found ≡ 1 → ⊥
none_one [] one = let z : 0 ≡ 1 = one in cc
none_one (first ∷ rest) one = let z : 4 ≡ 1 = one in cc

pub closed_written : (a : Answer) (known left old new : Option (List ℕ)) (doc text : List ℕ) (status : ℕ) → status ≡ 0 → IsAnswer a known left doc → IsChecked a text status → Appends old new text
    → (tree : Node) × IfSome known (λ all. IsSomeAnd (lines all) (λ events. IsMeaning tree events (over doc))) × (open_in (view tree) ≡ []) × ((text : List ℕ) × IsReport (view tree) text × Appends old new text)
closed_written (answers.Tree tree) known left old new doc text status zero is says appends = (tree, is.1, none_open (open_in (view tree)) (sym says.1 ∙ zero), (text, says.0, appends))
closed_written (answers.Refused message) known left old new doc text status zero is says appends = let z : 1 ≡ 0 = sym says.1 ∙ zero in absurd cc
closed_written (answers.UnreadLine number) known left old new doc text status zero is says appends = let z : 2 ≡ 0 = sym says.1 ∙ zero in absurd cc
closed_written answers.UnreadEvents known left old new doc text status zero is says appends = let z : 2 ≡ 0 = sym says.1 ∙ zero in absurd cc

pub open_written : (a : Answer) (known left old new : Option (List ℕ)) (doc text : List ℕ) (status : ℕ) → status ≡ 4 → IsAnswer a known left doc → IsChecked a text status → Appends old new text
    → (tree : Node) × IfSome known (λ all. IsSomeAnd (lines all) (λ events. IsMeaning tree events (over doc))) × (open_in (view tree) ≢ []) × ((text : List ℕ) × IsReport (view tree) text × Appends old new text)
open_written (answers.Tree tree) known left old new doc text status four is says appends = (tree, is.1, some_open (open_in (view tree)) (sym says.1 ∙ four), (text, says.0, appends))
open_written (answers.Refused message) known left old new doc text status four is says appends = let z : 1 ≡ 4 = sym says.1 ∙ four in absurd cc
open_written (answers.UnreadLine number) known left old new doc text status four is says appends = let z : 2 ≡ 4 = sym says.1 ∙ four in absurd cc
open_written answers.UnreadEvents known left old new doc text status four is says appends = let z : 2 ≡ 4 = sym says.1 ∙ four in absurd cc

-- a message that is written is one that refuses the list
some_message : (message : Message) (o : Option (List Event)) (doc : List ℕ) (Said : List ℕ → Type 0) → IsSomeAnd o (λ events. Refuses message events (over doc)) → Said (message_line message)
    → IsSomeAnd o (λ events. (m : Message) × Refuses m events (over doc) × Said (message_line m))
some_message message None doc Said refuses said = refuses
some_message message (Some events) doc Said refuses said = (message, refuses, said)

known_message : (message : Message) (known : Option (List ℕ)) (doc : List ℕ) (Said : List ℕ → Type 0) → IfSome known (λ all. IsSomeAnd (lines all) (λ events. Refuses message events (over doc))) → Said (message_line message)
    → IsRefusedWith known doc Said
known_message message None doc Said refuses said = tt
known_message message (Some all) doc Said refuses said = some_message message (lines all) doc Said refuses said

pub refused_written : (a : Answer) (known left old new : Option (List ℕ)) (doc text : List ℕ) (status : ℕ) → status ≡ 1 → IsAnswer a known left doc → IsChecked a text status → Appends old new text
    → IsRefusedWith known doc (Appends old new)
refused_written (answers.Tree tree) known left old new doc text status one is says appends = absurd (none_one (open_in (view tree)) (sym says.1 ∙ one))
refused_written (answers.Refused message) known left old new doc text status one is says appends = known_message message known doc (Appends old new) is.1 (subst (λ (t : List ℕ). Appends old new t) says.0 appends)
refused_written (answers.UnreadLine number) known left old new doc text status one is says appends = let z : 2 ≡ 1 = sym says.1 ∙ one in absurd cc
refused_written answers.UnreadEvents known left old new doc text status one is says appends = let z : 2 ≡ 1 = sym says.1 ∙ one in absurd cc
