use Rattle.std.proofs.Common.{List, refl, subst, ℕ, ◌∙◌}
use Rattle.event_writer.specs.Stages.{inlines}
use Rattle.markdown_text.proofs.Outputs.{goes_on_then}
use Rattle.markdown_text.specs.Addresses.{IsAddress}
use Rattle.markdown_text.proofs.gfm_autolink_literal_email.write.Goals as goal

pub write_address-requires-clause-inlines : goal.write_address-requires-clause-inlines
write_address-requires-clause-inlines g c =
    let i = c.requires.inlines in
    record { in_heading = i.in_heading; outer = i.outer; at = c.loop.invariant.at i.in_heading i.outer i.at }

pub loop-preserved : goal.loop-preserved
loop-preserved g c =
    let i = c.loop.invariant in
    let wrote = c.in_ok-write_address.ensures in
    record {
      given = c.write_address.ensures.given ∙ i.given;
      goes_on = goes_on_then c.args.output.now c.loop.output c.write_address.new.output i.goes_on wrote.goes_on;
      part = wrote.left c.args.end c.loop.invariant.part (subst (λ (text : List ℕ). IsAddress text c.in-Some.address) c.rest_to.ensures c.in-Some.ensures.address);
      at = λ h outer at. wrote.at h outer (i.at h outer at);
      attention = wrote.attention ∙ i.attention;
    }

pub fill_to-requires-clause-may : goal.fill_to-requires-clause-may
fill_to-requires-clause-may g c =
    let i = c.requires.inlines in
    record { stage = inlines i.in_heading; outer = i.outer; at = c.loop.invariant.at i.in_heading i.outer i.at; keeps = refl }

pub returns-clause-at : goal.returns-clause-at
returns-clause-at g c = λ h outer at. c.fill_to.ensures.stage (inlines h) outer refl (c.loop.invariant.at h outer at)

pub write_address-requires-clause-address : goal.write_address-requires-clause-address
write_address-requires-clause-address g c = (c.args.end, c.loop.invariant.part, subst (λ (text : List ℕ). IsAddress text c.in-Some.address) c.rest_to.ensures c.in-Some.ensures.address)
