use Rattle.markdown.proofs.hidden.offsets_in_cells.Given as goal

abbrev pub invariant-loop-piece : goal.invariant-loop-piece
invariant-loop-piece l = Unit {0}
