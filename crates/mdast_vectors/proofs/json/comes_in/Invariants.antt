use Rattle.std.proofs.Common.{length}
use Rattle.mdast_vectors.proofs.json.comes_in.Given as goal

abbrev pub decreases-pieces : goal.decreases-pieces
decreases-pieces g l = length l.pieces
