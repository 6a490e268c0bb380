use Rattle.std.proofs.Common.{refl}
use Rattle.markdown_events.specs.declared.event.Name.TheVariants.{GfmFootnoteCallMarker, LabelImageMarker, LabelMarker}
use Rattle.markdown_text.proofs.Opened.{named_may_put, named_put, sign_put}
use Rattle.markdown_text.specs.Opens.{label_stage}
use Rattle.markdown_text.proofs.label_start.write_signs.Goals as goal

pub token-requires-in-Image-2-clause-may : goal.token-requires-in-Image-2-clause-may
token-requires-in-Image-2-clause-may g c =
    let l = c.args.labelled in
    let a = label_stage l in
    let label = c.requires.at.outer in
    let o = c.token-in-Image.new.self in
    named_may_put o LabelMarker LabelMarker a a label refl (sign_put l) (named_put o.writer.value LabelImageMarker LabelImageMarker a a label refl (sign_put l) (c.in_ok-token-in-Image.ensures.stage a label c.requires.at.at))

pub token-requires-in-FootnoteCall-2-clause-may : goal.token-requires-in-FootnoteCall-2-clause-may
token-requires-in-FootnoteCall-2-clause-may g c =
    let l = c.args.labelled in
    let a = label_stage l in
    let label = c.requires.at.outer in
    let o = c.token-in-FootnoteCall.new.self in
    named_may_put o GfmFootnoteCallMarker GfmFootnoteCallMarker a a label refl (sign_put l) (named_put o.writer.value LabelMarker LabelMarker a a label refl (sign_put l) (c.in_ok-token-in-FootnoteCall.ensures.stage a label c.requires.at.at))
