use Rattle.std.proofs.Common.{◌≡◌, ◌-◌}
use Rattle.markdown_html.specs.Given.{source_of}
use Rattle.markdown_html.specs.Html.{most_notes, notes_page}
use Rattle.markdown_html.specs.Pages.{page_of}
use Rattle.markdown_html.proofs.source.Source.push_notes.Given as goal

abbrev pub invariant-loop-number : goal.invariant-loop-number
invariant-loop-number l = notes_page (source_of l.self) (most_notes - l.number) l.number (page_of l.page) ≡ notes_page (source_of l.self) most_notes 0 (page_of l.fn.page)
