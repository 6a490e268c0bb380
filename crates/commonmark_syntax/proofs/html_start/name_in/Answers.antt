use Rattle.commonmark_syntax.specs.Language.{many, one}
use Rattle.commonmark_syntax.specs.Syntax.{is_of_tag_name}
use Rattle.commonmark_syntax.proofs.Html.{front_taken}
use Rattle.commonmark_syntax.proofs.Scans.{size_most}
use Rattle.commonmark_syntax.proofs.html_start.name_in.Goals as goal

pub slice_bounds-result-count : goal.slice_bounds-result-count
slice_bounds-result-count c = size_most (many (one is_of_tag_name)) _ _ c.past_all.ensures

pub returns : goal.returns
returns c = front_taken is_of_tag_name _ _ c.past_all.ensures
