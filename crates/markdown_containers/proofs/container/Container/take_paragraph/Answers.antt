use Rattle.std.proofs.Common.{arith}
use Rattle.markdown_events.specs.declared.role.Content.TheVariants as contents
use Rattle.markdown_events.specs.declared.role.ItemKind.TheVariants.{Content as content}
use Rattle.markdown_containers.specs.declared.container.Container.TheVariants as containers
use Rattle.markdown_containers.proofs.Kept.{content_kept}
use Rattle.markdown_containers.proofs.container.Container.take_paragraph.Goals as goal

pub returns-in-ListItem : goal.returns-in-ListItem
returns-in-ListItem c s p a b ts = content_kept s p a b ts (content contents.Paragraph) _ _ _ _ (containers.ListItem c.take_paragraph.new.self) c.in-TaskParagraph.is c.in-ListItem.is (c.take_paragraph.ensures s p a b ts)

pub returns-in-NumberedItem : goal.returns-in-NumberedItem
returns-in-NumberedItem c s p a b ts = content_kept s p a b ts (content contents.Paragraph) _ _ _ _ (containers.NumberedItem c.take_paragraph-in-NumberedItem.new.self) c.in-TaskParagraph.is c.in-NumberedItem.is (c.take_paragraph-in-NumberedItem.ensures s p a b ts)
