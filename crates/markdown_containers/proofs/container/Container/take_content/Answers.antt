use Rattle.std.proofs.Common.{sym, subst}
use Rattle.markdown_events.specs.declared.role.ItemKind.TheVariants.{Content as content}
use Rattle.markdown_events.specs.declared.role.Content.{Content}
use Rattle.markdown_containers.specs.Containers.{Keeps, summary_with}
use Rattle.markdown_containers.proofs.Keeping.{content_keeps}
use Rattle.markdown_containers.proofs.container.Container.take_content.Goals as goal

pub returns-in-Paragraph : goal.returns-in-Paragraph
returns-in-Paragraph c s p a b ts = subst (λ (k : Content). Keeps s p (content k) a b (summary_with c.args.inner.now ts) c.args.self.now c.take_paragraph.new.self) (sym c.in-Paragraph.is) (c.take_paragraph.ensures s p a b ts)

pub returns-in-ListItem : goal.returns-in-ListItem
returns-in-ListItem c s p a b ts = subst (λ (k : Content). Keeps s p (content k) a b (summary_with c.args.inner.now ts) c.args.self.now c.take_item.new.self) (sym c.in-ListItem.is) (c.take_item.ensures s p a b ts)

pub returns-in_default : goal.returns-in_default
returns-in_default c s p a b ts = content_keeps s p c.args.content a b (summary_with c.args.inner.now ts) c.args.self.now c.in_default.not-Paragraph c.in_default.not-ListItem
