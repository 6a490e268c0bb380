use Rattle.std.proofs.Common.{inl, inr, sym, ◌∙◌}
use Rattle.markdown_attention.proofs.Segments.{goes_period, goes_segment, stops}
use Rattle.markdown_attention.proofs.extended_autolink_segments.past_character.Goals as goal
use Rattle.markdown_attention.proofs.extended_autolink_segments.past_character.Goals.{then-begins_segment, else-begins_segment+then-is_period, else-begins_segment+else-is_period}

pub returns-then-begins_segment-2-clause-exact : goal.returns-then-begins_segment-2-clause-exact
returns-then-begins_segment-2-clause-exact c = λ characters ok e.
    let text = c.args.text.now in
    let rest = c.after_character-rest.result.now in
    let after = c.after_character-rest.ensures.exact in
    elim c.if-begins_segment.branch [
      | then-begins_segment w ↦ goes_segment characters text rest ok e after (sym (c.begins_segment.ensures.exact characters ok e) ∙ w.if-begins_segment.true)
      | else-begins_segment+then-is_period w ↦
          goes_period characters text rest ok e after (sym w.is_period.ensures ∙ w.if-is_period.true)
          (λ u fine same. sym (w.begins_segment-then-is_period.ensures.exact u fine same) ∙ sym w.value-is ∙ c.if-begins_segment-2.true)
      | else-begins_segment+else-is_period w ↦ (let k = sym w.value-is ∙ c.if-begins_segment-2.true in cc)
    ]

pub returns-else-begins_segment-2-clause-exact : goal.returns-else-begins_segment-2-clause-exact
returns-else-begins_segment-2-clause-exact c = λ characters ok e.
    let text = c.args.text.now in
    let rest = c.after_character-rest.result.now in
    let after = c.after_character-rest.ensures.exact in
    elim c.if-begins_segment.branch [
      | then-begins_segment w ↦ (let k = sym w.value-is ∙ c.if-begins_segment-2.false in cc)
      | else-begins_segment+then-is_period w ↦
          stops characters text rest ok e after (sym (c.begins_segment.ensures.exact characters ok e) ∙ w.if-begins_segment.false)
          (inr (λ u fine same. sym (w.begins_segment-then-is_period.ensures.exact u fine same) ∙ sym w.value-is ∙ c.if-begins_segment-2.false))
      | else-begins_segment+else-is_period w ↦
          stops characters text rest ok e after (sym (c.begins_segment.ensures.exact characters ok e) ∙ w.if-begins_segment.false)
          (inl (sym w.is_period.ensures ∙ w.if-is_period.false))
    ]
