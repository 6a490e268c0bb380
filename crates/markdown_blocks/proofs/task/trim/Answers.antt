use Rattle.std.proofs.Common.{false, refl, rules, ◌<◌, ◌≡◌, arith}
use Rattle.std.specs.Vec.{vec_len}
use denote.Hole.Carrier
use Rattle.markdown_nodes.specs.declared.mdast.Node.TheViews.{out-Node}
use Rattle.markdown_nodes.specs.Access.{label_of}
use Rattle.markdown_blocks.proofs.Trims.{is_paragraph, nodes_stay, paragraph_trimmed}
use Rattle.markdown_blocks.proofs.task.trim.Goals as goal

pub returns-in-Paragraph : goal.returns-in-Paragraph
unfolding out-Node denote.Hole.Carrier.out
returns-in-Paragraph c =
    let v = c.args.nodes.now in
    let some : 0 < vec_len v = c.in-Some.ensures.variant.0 refl in
    rw c.in-Paragraph.is (paragraph_trimmed v.items (vec_len v) c.in-Some.first.now c.in-Paragraph.paragraph _ c.trim_paragraph.new.paragraph v.ok.0 some c.in-Some.ensures.value c.in-Paragraph.is c.in-Paragraph.paragraph-is c.trim_paragraph.ensures)

pub returns-in_default-first : goal.returns-in_default-first
returns-in_default-first c =
    let v = c.args.nodes.now in
    let some : 0 < vec_len v = c.in-Some.ensures.variant.0 refl in
    let none : is_paragraph (label_of c.in-Some.first.now) ≡ false = search rules in
    nodes_stay v.items (vec_len v) c.in-Some.first.now v.ok.0 some c.in-Some.ensures.value none
