use Rattle.markdown_nodes.proofs.Levels.{to_walk}
use Rattle.markdown_nodes.specs.View.{view}
use Rattle.markdown_html.specs.Given.{source_of}
use Rattle.markdown_html.specs.Html.{tree_page}
use Rattle.markdown_html.specs.Pages.{page_of}
use Rattle.markdown_html.specs.Places.{place_of}
use Rattle.markdown_html.proofs.Levels.{Writes}
use Rattle.markdown_html.proofs.source.Source.push_tree.Given as goal

abbrev pub invariant-walk : goal.invariant-walk
invariant-walk l = Writes (source_of l.fn.self) (page_of l.page) (place_of l.at) (place_of l.around) l.level l.parent l.frames.items (tree_page (source_of l.fn.self) (place_of l.fn.place) (view l.fn.tree) (page_of l.fn.page))

abbrev pub decreases-walk : goal.decreases-walk
decreases-walk l = to_walk (λ x. x.rest.now) l.level l.frames.items
