use Rattle.std.proofs.Common.{arith}
use Rattle.markdown_events.specs.declared.role.Content.TheVariants as contents
use Rattle.markdown_events.specs.declared.role.ItemKind.TheVariants.{Content as content}
use Rattle.markdown_containers.specs.declared.container.Container.TheVariants as containers
use Rattle.markdown_containers.proofs.Kept.{content_kept}
use Rattle.markdown_containers.proofs.container.Container.take_item.Goals as goal

pub returns-in-ListOrdered : goal.returns-in-ListOrdered
returns-in-ListOrdered c s p a b ts = content_kept s p a b ts (content contents.ListItem) _ _ _ _ (containers.ListOrdered c.take_item.new.self) c.in-NumberedItem.is c.in-ListOrdered.is (c.take_item.ensures s p a b ts)
