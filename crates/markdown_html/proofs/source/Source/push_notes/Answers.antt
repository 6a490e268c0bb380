use Rattle.std.proofs.Common.{◌≡◌, Some, rules, sym, ◌∙◌, slice_get}
use Rattle.markdown_nodes.specs.View.{view}
use Rattle.markdown_html.specs.Given.{source_of}
use Rattle.markdown_html.specs.Gathered.{call_of}
use Rattle.markdown_html.specs.Html.{footnote_in}
use Rattle.markdown_html.specs.Pages.{page_of}
use Rattle.markdown_html.proofs.Notes.{note_written}
use Rattle.markdown_html.proofs.source.Source.push_notes.Goals as goal

pub loop-number-preserved : goal.loop-number-preserved
loop-number-preserved c =
    let it = source_of c.args.self.now in
    let called : slice_get c.loop-number.page.calls c.loop-number.number ≡ Some (call_of c.in-Some.call) = search rules in
    let defined : footnote_in it.tree c.in-Some.call.identifier.now ≡ Some (view c.in-Some-footnote.note.now) = search rules in
    sym (note_written it c.loop-number.number (page_of c.loop-number.page) (page_of c.push_tree.new.page) (call_of c.in-Some.call) (view c.in-Some-footnote.note.now) c.loop-number-test.true called defined (search rules))
    ∙ c.loop-number.invariant
