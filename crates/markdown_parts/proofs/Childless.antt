-- A significant span without children says nothing to its siblings.
use Rattle.std.specs.Prelude.{◌≡◌}
use Rattle.std.proofs.Common.{refl}
use Rattle.markdown_events.specs.declared.role.Content.TheVariants as contents
use Rattle.markdown_events.specs.declared.role.ItemKind.{ItemKind}
use Rattle.markdown_events.specs.declared.role.ItemKind.TheVariants.{Content as content}
use Rattle.markdown_events.specs.declared.role.Role.TheVariants.{Significant as significant}
use Rattle.markdown_steps.specs.Siblings.{no_marks, no_sibling, sibling_of}

pub says_nothing : (what : ItemKind) → sibling_of (significant what) no_marks ≡ no_sibling
says_nothing (content contents.BlockQuote) = refl
says_nothing (content contents.ListItem) = refl
says_nothing what = refl
