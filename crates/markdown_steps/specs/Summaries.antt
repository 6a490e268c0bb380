-- The summary that a container keeps of its parts, in place of its items.
use Rattle.std.specs.Prelude.{Bool, List, None, Option, Some, [], if◌then◌else◌, option_map, unwrap_or, ℕ}
use Rattle.std.specs.Option.{option_and_then}
use Rattle.markdown_events.specs.Texts.{fold}
use Rattle.markdown_nodes.specs.Tree.{Trees, plain_label, plain_text}
use Rattle.markdown_events.specs.declared.event.Point.{Point}
use Rattle.markdown_events.specs.declared.role.Part.{Part}
use Rattle.markdown_grammar.specs.Attributes.{Place, decoded, mark, inherited_after, inherited_in, value}
use Rattle.markdown_grammar.specs.Document.{Source, is_byte, label_read, length_between, value_read}
use Rattle.markdown_grammar.specs.Items.{Items, item, none, same_part, ◌then◌}
use Rattle.markdown_events.specs.declared.role.ItemKind.TheVariants.{Content as content, Part as part}
use Rattle.markdown_events.specs.declared.role.Part.TheVariants as parts

-- a span: its ends, its place, and its items
pub record FoundPart : Type 0 where
  pub start : Point
  pub end : Point
  pub place : Place
  pub inner : Items

-- the first part of this kind, among items that begin in this place
abbrev pub first_part : Part → Place → Items → Option FoundPart
first_part q p none = None
first_part q p (item (part r) start end _ inner rest) =
    if same_part q r then Some (record { start = start; end = end; place = p; inner = inner }) else first_part q (inherited_after (part r) p) rest
first_part q p (item (content c) _ _ _ _ rest) = first_part q (inherited_after (content c) p) rest

-- a choice of items: all of them, or those of the first part at the end of a path
pub data PartPath : Type 0 where
  itself : PartPath
  into : Part → PartPath → PartPath

-- the path to a part
abbrev pub path_to : Part → PartPath
path_to p = into p itself

-- the path to a part in a part
abbrev pub path_through : Part → Part → PartPath
path_through q p = into q (into p itself)

-- the part at the end of a path, if it is there
abbrev pub stretch_at : PartPath → Place → Items → Option FoundPart
stretch_at itself p inner = None
stretch_at (into q itself) p inner = first_part q p inner
stretch_at (into q (into r way)) p inner = option_and_then (λ (x : FoundPart). stretch_at (into r way) (inherited_in (part q) x.place) x.inner) (first_part q p inner)

-- the summary of a part, which it gives to the span around it
pub data PartSummary : Type 0 where
  stood : PartSummary
  -- the depth of a heading
  count : ℕ → PartSummary
  -- the text of its items, or the decoder's result for it
  words : List ℕ → PartSummary
  -- an identifier and a text
  named : List ℕ → List ℕ → PartSummary
  -- an address, and its ends
  address : Point → Point → List ℕ → PartSummary

-- the summary of a part between two points, from its place and the nodes of its items
abbrev pub kept_from : Source → Place → Part → Point → Point → Trees → PartSummary
kept_from s p parts.AutolinkEmail a b ts = address a b (value_read s a b)
kept_from s p parts.AutolinkProtocol a b ts = address a b (value_read s a b)
kept_from s p parts.CharacterReferenceValue a b ts = words (unwrap_or (decoded s p a b) [])
kept_from s p parts.CodeFencedFenceInfo a b ts = words (plain_text ts)
kept_from s p parts.CodeFencedFenceMeta a b ts = words (plain_text ts)
kept_from s p parts.MathFlowFenceMeta a b ts = words (plain_text ts)
kept_from s p parts.DefinitionDestinationString a b ts = words (plain_text ts)
kept_from s p parts.DefinitionTitleString a b ts = words (plain_text ts)
kept_from s p parts.ResourceDestinationString a b ts = words (plain_text ts)
kept_from s p parts.ResourceTitleString a b ts = words (plain_text ts)
kept_from s p parts.DefinitionLabelString a b ts = named (fold (label_read s a b)) (plain_text ts)
kept_from s p parts.FootnoteDefinitionLabelString a b ts = named (fold (label_read s a b)) (plain_text ts)
kept_from s p parts.ReferenceString a b ts = named (fold (label_read s a b)) (plain_text ts)
kept_from s p parts.LabelText a b ts = named (fold (label_read s a b)) (plain_label ts)
kept_from s p parts.HeadingAtxSequence a b ts = count (unwrap_or (length_between s.bytes a b) 0)
kept_from s p parts.HeadingSetextUnderlineSequence a b ts = count (if is_byte s 45 a then 2 else 1)
kept_from s p _ a b ts = stood

-- the summary of the part at the end of a path
abbrev pub kept_at : Source → PartPath → FoundPart → Trees → PartSummary
kept_at s itself x ts = stood
kept_at s (into q itself) x ts = kept_from s x.place q x.start x.end ts
kept_at s (into q (into r way)) x ts = kept_at s (into r way) x ts

-- the text that a part gives, if it gives one
abbrev pub words_of : Option PartSummary → Option (List ℕ)
words_of (Some (words w)) = Some w
words_of (Some (named i w)) = Some w
words_of _ = None

-- the text that a part gives, empty if there is none
abbrev pub text_of : Option PartSummary → List ℕ
text_of k = unwrap_or (words_of k) []

-- the identifier that a part gives, empty if there is none
abbrev pub identifier_of : Option PartSummary → List ℕ
identifier_of (Some (named i w)) = i
identifier_of _ = []

-- the depth that a part gives, 0 if there is none
abbrev pub count_of : Option PartSummary → ℕ
count_of (Some (count n)) = n
count_of _ = 0

-- everything about the items in a span that its node depends on
pub record Summary : Type 0 where
  -- the nodes of all items, and those of the first LabelText
  pub nodes : Trees
  pub label : Trees
  pub part : PartPath → Option PartSummary
  pub mark : Option Bool
  pub value : Option ℕ

-- the summary of items that begin in this place, from the nodes that they give
abbrev pub summary_of : Source → Place → Items → (PartPath → Trees) → Summary
summary_of s p inner under = record {
  nodes = under itself;
  label = under (path_to parts.LabelText);
  part = λ way. option_map (λ (x : FoundPart). kept_at s way x (under way)) (stretch_at way p inner);
  mark = mark inner;
  value = value s inner;
}
