-- The output of a run that checks a tree.
use Rattle.std.specs.Prelude.{◌≡◌, ℕ, List, [], ◌∷◌}
use Rattle.markdown_nodes.specs.View.{view}
use Rattle.mdast_check.specs.References.{Reference, open_in}
use Rattle.mdast_check.specs.Report.{IsReport}
use Rattle.mdast_programs.specs.declared.run.Answer.{Answer}
use Rattle.mdast_programs.specs.declared.run.Answer.TheVariants as answers
use Rattle.mdast_programs.specs.Run.{Prints}

-- the exit status for a tree: 4 if a reference is open
abbrev pub tree_status : List Reference → ℕ
tree_status [] = 0
tree_status (first ∷ rest) = 4

-- the text and the exit status for an answer: those of a report for a tree, and those of `run` for any other answer
abbrev pub IsChecked : Answer → List ℕ → ℕ → Type 0
IsChecked (answers.Tree tree) text status = IsReport (view tree) text × (status ≡ tree_status (open_in (view tree)))
IsChecked (answers.Refused message) text status = Prints (answers.Refused message) text × (status ≡ 1)
IsChecked (answers.UnreadLine number) text status = Prints (answers.UnreadLine number) text × (status ≡ 2)
IsChecked answers.UnreadEvents text status = Prints answers.UnreadEvents text × (status ≡ 2)
