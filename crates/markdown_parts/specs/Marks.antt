-- The facts that the program keeps of the children of a span, as those of the steps.
use Rattle.std.specs.Prelude.{None, Option, Some, Bool, false, true}
use Rattle.markdown_parts.specs.declared.marks.First.{First}
use Rattle.markdown_parts.specs.declared.marks.First.TheVariants as firsts
use Rattle.markdown_parts.specs.declared.marks.Marks.{Marks as OpenMarks}
use Rattle.markdown_parts.specs.declared.marks.Sibling.{Sibling as OpenSibling}
use Rattle.markdown_parts.specs.declared.marks.Sibling.TheVariants as siblings
use Rattle.markdown_steps.specs.Siblings.{Marks, Sibling, no_sibling}

-- the facts about a child
abbrev pub sibling_in : OpenSibling → Sibling
sibling_in siblings.Other = no_sibling
sibling_in siblings.SpaceOrTab = record no_sibling { space = true }
sibling_in siblings.ListItemPrefix = record no_sibling { item_prefix = true; bare_end = true }
sibling_in siblings.BlockQuotePrefix = record no_sibling { quote_prefix = true }
sibling_in siblings.BareBlockQuote = record no_sibling { bare_end = true }
sibling_in siblings.BareListItem = record no_sibling { bare_item = true }
sibling_in siblings.DelimiterMarker = record no_sibling { marker = true }

-- whether the first child is a delimiter marker
abbrev pub first_of : First → Option Bool
first_of firsts.Absent = None
first_of firsts.DelimiterMarker = Some true
first_of firsts.Other = Some false

-- the facts about the children so far
abbrev pub marks_of : OpenMarks → Marks
marks_of m = record {
  last = sibling_in m.last;
  last_but_one = sibling_in m.last_but_one;
  is_loose_item = m.is_loose_item;
  is_loose_list = m.is_loose_list;
  marked_first = first_of m.first;
}
