use Rattle.std.proofs.Common.{◌∙◌}
use Rattle.markdown_parts.proofs.OnlyPlaces.{alone, not_alone}
use Rattle.markdown_parts.proofs.fenced.place_of.Goals as goal

pub returns-in-len1 : goal.returns-in-len1
returns-in-len1 c = c.copied.ensures ∙ c.position.ensures ∙ alone c.args.nodes.now c.only-item.result c.in-len1.len_at_least c.in-len1.len_below c.only-item.is

pub returns-in_default-2 : goal.returns-in_default-2
returns-in_default-2 c = not_alone c.args.nodes.now c.in_default.len_at_least
