-- Definitions as they are written: how far a writer has come in the text of the kept lines.
use Rattle.std.specs.Prelude.{List, [], drop, ℕ, ◌++◌, ◌-◌, ◌∷◌, ◌≡◌}
use Rattle.markdown_flow.specs.Parts.{AreCuts}
use Rattle.markdown_pieces.specs.Tilings.{Spot}
use Rattle.markdown_flow.specs.Contents.{AreKept, after_lines}
use Rattle.markdown_flow.specs.Outputs.{Stands, Writes, line_after, rest_of, source_of, spot, text_of}
use Rattle.markdown_flow.specs.declared.content.KeptLine.{KeptLine}
use Rattle.markdown_flow.specs.declared.definition.Part.{Part}
use Rattle.markdown_flow.specs.declared.definition_pieces.PartWriter.{PartWriter}
use Rattle.markdown_flow.specs.declared.output.Cursor.{Cursor}
use Rattle.markdown_flow.specs.declared.output.Output.{Output}

-- a text may be cut at both ends of a part, and at both ends of the part's string
abbrev pub HasCuts : List ℕ → Part → Type 0
HasCuts text part = AreCuts text part.start part.string_start part.string_end part.end

-- the text of lines, with an LF after each
abbrev pub joined : List KeptLine → List ℕ
joined [] = []
joined (kept ∷ lines) = kept.line.text.now ++ 10 ∷ joined lines

-- the number of bytes that are left of a line
abbrev pub left : Cursor → ℕ
left cursor = (cursor.extent).end - cursor.offset

-- the writer is before a line
pub record IsBeforeLine (w : PartWriter) (output : Output) : Type 0 where
  pub stands : Stands output
  pub lines : AreKept (source_of output) w.content.now.prefixes.items (spot output.cursor) w.lines.now
  pub text : drop w.at w.text.now ≡ joined w.lines.now

-- the writer is in the text of the first of the remaining lines
pub record IsInText (w : PartWriter) (output : Output) : Type 0 where
  pub writes : Writes output
  pub later : AreKept (source_of output) w.content.now.prefixes.items (line_after output.cursor) (drop 1 w.lines.now)
  pub text : drop w.at w.text.now ≡ rest_of output ++ 10 ∷ joined (drop 1 w.lines.now)

-- the writer is at the first of the remaining lines, before its text
pub record HasBegun (w : PartWriter) (output : Output) : Type 0 where
  pub writes : Writes output
  pub later : AreKept (source_of output) w.content.now.prefixes.items (line_after output.cursor) (drop 1 w.lines.now)
  pub text : drop w.at w.text.now ≡ text_of output ++ 10 ∷ joined (drop 1 w.lines.now)

-- the start of the line after all lines, for a writer before a line
abbrev pub end_before : PartWriter → Output → Spot
end_before w output = after_lines (spot output.cursor) w.lines.now

-- the start of the line after all lines, for a writer in a text
abbrev pub end_in : PartWriter → Output → Spot
end_in w output = after_lines (line_after output.cursor) (drop 1 w.lines.now)

-- a writer continues with the same lines
pub record GoesOn (old new : PartWriter) (before after : Output) : Type 0 where
  pub content : new.content ≡ old.content
  pub text : new.text ≡ old.text
  pub source : source_of after ≡ source_of before
