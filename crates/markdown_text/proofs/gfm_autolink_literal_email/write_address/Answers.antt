use Rattle.std.proofs.Common.{ap, is_some, refl, ◌+◌, ◌∙◌}
use Rattle.event_writer.specs.Stages.{inlines}
use Rattle.markdown_text.proofs.AttentionEvents.{address_other}
use Rattle.markdown_text.proofs.Steps.{at_some}
use Rattle.markdown_text.proofs.Waiting.{address_plain, around, part_same}
use Rattle.markdown_text.specs.Outputs.{after_plain, bytes_of}
use Rattle.markdown_text.specs.Standings.{IsAt}
use Rattle.markdown_text.proofs.gfm_autolink_literal_email.write_address.Goals as goal

pub fill_to-requires-clause-part : goal.fill_to-requires-clause-part
fill_to-requires-clause-part g c =
    let o = c.args.output.now in
    let a = c.args.address.now in
    let k = around (bytes_of o) _ o.at c.requires.address.0 a c.requires.address.1 refl c.requires.address.2 in
    part_same (bytes_of o) (bytes_of o) o.at (o.at + a.start) _ _ refl refl c.offset_after.ensures k.before

pub token_to-requires-clause-part : goal.token_to-requires-clause-part
token_to-requires-clause-part g c =
    let o = c.args.output.now in
    let a = c.args.address.now in
    let k = around (bytes_of o) _ o.at c.requires.address.0 a c.requires.address.1 refl c.requires.address.2 in
    let w = c.in_ok-fill_to.ensures.writes in
    part_same (bytes_of o) (bytes_of c.fill_to.new.self) (o.at + a.start) (o.at + a.end) _ _ w.goes_on.bytes (w.at ∙ c.offset_after.ensures) c.offset_after-address_end.ensures k.address

pub token_to-requires-clause-may : goal.token_to-requires-clause-may
token_to-requires-clause-may g c =
    let i = c.requires.inlines in
    record { stage = inlines i.in_heading; outer = i.outer; at = c.in_ok-fill_to.ensures.stage (inlines i.in_heading) i.outer refl i.at; may = ap is_some (address_plain c.args.address.now.name i.in_heading c.requires.address.2.named) }

pub returns-clause-left : goal.returns-clause-left
returns-clause-left g c = λ end part address.
    let o = c.args.output.now in
    let a = c.args.address.now in
    let k = around (bytes_of o) _ o.at end a part refl address in
    let w = c.in_ok-token_to.ensures.writes in
    part_same (bytes_of o) (bytes_of c.token_to.new.self) (o.at + a.end) end _ _ (w.goes_on.bytes ∙ c.in_ok-fill_to.ensures.writes.goes_on.bytes) (w.at ∙ c.offset_after-address_end.ensures) refl k.after

pub returns-clause-at : goal.returns-clause-at
returns-clause-at g c = λ h outer at.
    at_some (λ b. IsAt c.token_to.new.self.writer.value b outer) (after_plain (inlines h) c.args.address.now.name) (inlines h) (address_plain c.args.address.now.name h c.requires.address.2.named) (c.in_ok-token_to.ensures.stage (inlines h) outer (c.in_ok-fill_to.ensures.stage (inlines h) outer refl at))

pub returns-clause-attention : goal.returns-clause-attention
returns-clause-attention g c = c.in_ok-token_to.ensures.attention (address_other c.args.address.now.name c.requires.address.2.named) ∙ c.in_ok-fill_to.ensures.attention refl
