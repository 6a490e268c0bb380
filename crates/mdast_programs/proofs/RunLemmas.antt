-- What a run with status 0 wrote.
use Rattle.std.proofs.Common.{◌≡◌, ℕ, List, Option, inl, inr, sym, ◌∙◌}
use Rattle.std.specs.Prelude.{IfSome, IsSomeAnd, ◌⊎◌}
use Rattle.std.specs.Io.KnownBytes.{Appends}
use Rattle.markdown_nodes.specs.View.{view}
use Rattle.markdown_nodes.specs.declared.mdast.Node.{Node}
use Rattle.markdown_grammar.specs.Correct.{IsMeaning}
use Rattle.event_lines.specs.Lines.{lines}
use Rattle.mdast_programs.specs.Run.{IsAnswer, IsLineOf, Prints, over, status_of}
use Rattle.mdast_programs.specs.declared.run.Answer.{Answer}
use Rattle.mdast_programs.specs.declared.run.Answer.TheVariants as answers

-- an answer with status 0 is a tree, whose line is written
pub tree_written : (a : Answer) (known left old new : Option (List ℕ)) (doc line : List ℕ)
    → status_of a ≡ 0 → IsAnswer a known left doc → Prints a line → Appends old new line
    → (tree : Node) × IfSome known (λ all. IsSomeAnd (lines all) (λ events. IsMeaning tree events (over doc))) × ((line : List ℕ) × IsLineOf (view tree) line × Appends old new line)
tree_written (answers.Tree tree) known left old new doc line zero is prints appends = (tree, is.1, (line, prints, appends))
tree_written (answers.Refused message) known left old new doc line zero is prints appends = let z : ⊥ = cc in absurd z
tree_written (answers.UnreadLine number) known left old new doc line zero is prints appends = let z : ⊥ = cc in absurd z
tree_written answers.UnreadEvents known left old new doc line zero is prints appends = let z : ⊥ = cc in absurd z

-- a status 0 that was written is that of the answer
pub status_kept : (result status : ℕ) (a : Answer) → status ≡ status_of a → (result ≡ status) ⊎ (result ≡ 2) → result ≡ 0 → status_of a ≡ 0
status_kept result status a is (inl e) zero = sym is ∙ sym e ∙ zero
status_kept result status a is (inr e) zero = let two : 2 ≡ 0 = sym e ∙ zero in absurd cc

-- nothing that is written for want of memory ends with status 0
pub not_written : (result : ℕ) → (result ≡ 3) ⊎ (result ≡ 2) → result ≡ 0 → ⊥
not_written result (inl e) zero = let three : 3 ≡ 0 = sym e ∙ zero in cc
not_written result (inr e) zero = let two : 2 ≡ 0 = sym e ∙ zero in cc

-- no answer has the status 3
not_three : (a : Answer) → status_of a ≡ 3 → ⊥
not_three (answers.Tree tree) three = cc
not_three (answers.Refused message) three = cc
not_three (answers.UnreadLine number) three = cc
not_three answers.UnreadEvents three = cc

-- nor has a line of an answer that was written
pub answer_not_three : (result status : ℕ) (a : Answer) → status ≡ status_of a → (result ≡ status) ⊎ (result ≡ 2) → result ≡ 3 → ⊥
answer_not_three result status a is (inl e) three = not_three a (sym is ∙ sym e ∙ three)
answer_not_three result status a is (inr e) three = let two : 2 ≡ 3 = sym e ∙ three in cc
