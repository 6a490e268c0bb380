use Rattle.std.proofs.Common.{rules}
use denote.Hole.Carrier
use Rattle.markdown_nodes.specs.declared.mdast.Node.TheViews.{out-Node}
use Rattle.markdown_nodes.proofs.mdast.reading.value.Goals as goal

pub returns-in-Toml : goal.returns-in-Toml
unfolding out-Node denote.Hole.Carrier.out
returns-in-Toml c = rw c.in-Toml.is c.as_str.ensures.value

pub returns-in-Yaml : goal.returns-in-Yaml
unfolding out-Node denote.Hole.Carrier.out
returns-in-Yaml c = rw c.in-Yaml.is c.as_str-in-Yaml.ensures.value

pub returns-in-InlineCode : goal.returns-in-InlineCode
unfolding out-Node denote.Hole.Carrier.out
returns-in-InlineCode c = rw c.in-InlineCode.is c.as_str-in-InlineCode.ensures.value

pub returns-in-InlineMath : goal.returns-in-InlineMath
unfolding out-Node denote.Hole.Carrier.out
returns-in-InlineMath c = rw c.in-InlineMath.is c.as_str-in-InlineMath.ensures.value

pub returns-in-Html : goal.returns-in-Html
unfolding out-Node denote.Hole.Carrier.out
returns-in-Html c = rw c.in-Html.is c.as_str-in-Html.ensures.value

pub returns-in-Text : goal.returns-in-Text
unfolding out-Node denote.Hole.Carrier.out
returns-in-Text c = rw c.in-Text.is c.as_str-in-Text.ensures.value

pub returns-in-Code : goal.returns-in-Code
unfolding out-Node denote.Hole.Carrier.out
returns-in-Code c = rw c.in-Code.is c.as_str-in-Code.ensures.value

pub returns-in-Math : goal.returns-in-Math
unfolding out-Node denote.Hole.Carrier.out
returns-in-Math c = rw c.in-Math.is c.as_str-in-Math.ensures.value

pub returns-in_default : goal.returns-in_default
returns-in_default c = search rules
