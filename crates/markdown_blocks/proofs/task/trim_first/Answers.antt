use Rattle.std.proofs.Common.{ap, refl, string_bytes, sym, ◌<◌, ◌==◌, ◌∙◌, arith}
use Rattle.std.specs.Vec.{vec_len}
use denote.Hole.Carrier
use Rattle.markdown_nodes.specs.declared.mdast.Node.TheViews.{out-Node}
use Rattle.markdown_blocks.proofs.Trims.{first_views, not_cut, text_goes, text_starts, text_stays, with_first}
use Rattle.markdown_parts.proofs.Views.{no_text}
use Rattle.markdown_blocks.proofs.task.trim_first.Goals as goal

pub returns-in_default : goal.returns-in_default
returns-in_default c =
    let v = c.args.nodes.now in
    let first = c.in_ok-first.first.now in
    let some : 0 < vec_len v = c.in_ok-first.ensures.variant.0 refl in
    record {
      cut = not_cut v.items (vec_len v) first v.ok.0 some c.in_ok-first.ensures.value (no_text first c.in_default.not-Text);
      kept = with_first v.items (vec_len v) first first v.ok.0 some c.in_ok-first.ensures.value ∙ sym (first_views v.items (vec_len v) first v.ok.0 some c.in_ok-first.ensures.value);
    }

pub returns-in_err-start-clause-cut : goal.returns-in_err-start-clause-cut
returns-in_err-start-clause-cut c =
    let v = c.args.nodes.now in
    let some : 0 < vec_len v = c.in_ok-first.ensures.variant.0 refl in
    rw c.from_residual-in_err-start.ensures (text_stays v.items (vec_len v) c.in_ok-first.first.now c.in-Text.text _ c.trim_text.new.text v.ok.0 some c.in_ok-first.ensures.value c.in-Text.is c.in-Text.text-is c.in_err-start.ensures.cut)

pub returns-then-is_empty-clause-cut : goal.returns-then-is_empty-clause-cut
returns-then-is_empty-clause-cut c =
    let v = c.args.nodes.now in
    let some : 0 < vec_len v = c.in_ok-first.ensures.variant.0 refl in
    text_goes v.items (vec_len v) c.in_ok-first.first.now c.in-Text.text _ (string_bytes c.trim_text.new.text.value) c.in_ok-start.start _ c.remove_node.new.nodes.items _ v.ok.0 some c.in_ok-first.ensures.value c.in-Text.is c.in-Text.text-is c.in_ok-start.ensures.cut (ap (λ n. n == 0) (sym c.trim_text.new.text.value.bytes.ok.0) ∙ sym c.if-is_empty.ensures) refl c.remove_node.ensures

pub returns-else-is_empty-clause-cut : goal.returns-else-is_empty-clause-cut
unfolding out-Node denote.Hole.Carrier.out
returns-else-is_empty-clause-cut c =
    let v = c.args.nodes.now in
    let some : 0 < vec_len v = c.in_ok-first.ensures.variant.0 refl in
    rw c.in-Text.is (text_starts v.items (vec_len v) c.in_ok-first.first.now c.in-Text.text _ c.trim_text.new.text c.in_ok-start.start v.ok.0 some c.in_ok-first.ensures.value c.in-Text.is c.in-Text.text-is c.in_ok-start.ensures.cut c.in_ok-start.ensures.place (ap (λ n. n == 0) (sym c.trim_text.new.text.value.bytes.ok.0) ∙ sym c.if-is_empty.ensures))
