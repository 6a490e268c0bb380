-- A line that is kept of the open leaf.
use Rattle.std.proofs.Common.{◌≡◌, ◌∙◌, List, [], ap, false, subst, sym, true}
use Rattle.markdown_flow.specs.Contents.{AreKept, after_lines}
use Rattle.markdown_flow.specs.Flows.{keeps_lines}
use Rattle.markdown_flow.specs.Outputs.{IsAt, Reads, document_of, source_of, spot, spot_in}
use Rattle.markdown_flow.specs.declared.content.KeptLine.{KeptLine}
use Rattle.markdown_flow.specs.declared.input.Input.{Input}
use Rattle.markdown_flow.specs.declared.leaf.Leaf.{Leaf}
use Rattle.markdown_flow.specs.declared.line.Line.{Line}
use Rattle.markdown_flow.specs.declared.line.Source.{Source}
use Rattle.markdown_flow.specs.declared.output.Output.{Output}
use Rattle.markdown_pieces.specs.Tilings.{Spot, Tiles}
use Rattle.markdown_pieces.specs.Walks.{AreBetween}
use Rattle.markdown_pieces.specs.declared.piece.Piece.{Piece}

-- no lines are kept
pub none_kept : (source : Source) (prefixes : List Piece) (from : Spot) (lines : List KeptLine) → lines ≡ [] → AreKept source prefixes from lines
none_kept source prefixes from lines none = subst (λ (ls : List KeptLine). AreKept source prefixes from ls) (sym none) tt

-- a line that is begun is read from where it is
pub reads_begun : (output : Output) (input : Input) (line : Line) (lines : List KeptLine) → IsAt output.cursor line → input.line ≡ line → input.prefix.items ≡ [] → lines ≡ [] → Reads (source_of output) (after_lines (spot output.cursor) lines) input
reads_begun output input line lines at same taken none =
    record {
      between = subst AreBetween (sym taken) tt;
      same = ap (λ (l : Line). l.source) same ∙ sym at.source;
      prefix = subst (λ (ls : List KeptLine). Tiles (document_of output) (after_lines (spot output.cursor) ls) input.prefix.items (spot_in input.line)) (sym none)
          (subst (λ (ps : List Piece). Tiles (document_of output) (spot output.cursor) ps (spot_in input.line)) (sym taken) (at.spot ∙ ap spot_in (sym same)));
    }
