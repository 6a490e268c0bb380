use Rattle.std.proofs.Common.{List, None, Option, refl, ℕ, ◌∙◌, arith}
use Rattle.markdown_parts.specs.PartsSoFar.{place_with}
use Rattle.markdown_events.specs.declared.event.Point.{Point}
use Rattle.markdown_events.specs.declared.role.Part.{Part}
use Rattle.markdown_grammar.specs.Document.{Source, source_of}
use Rattle.markdown_steps.specs.Compiler.{nothing_yet}
use Rattle.markdown_containers.proofs.Kept.{later_code_fence, later_math_fence, leaf_here, part_kept}
use Rattle.markdown_containers.proofs.container.Container.take_leaf_part.Goals as goal
use Rattle.markdown_containers.proofs.container.Container.take_leaf_part.Goals.{in-Autolink-AutolinkEmail, in-Autolink-AutolinkProtocol, in-CharacterReference-CharacterReferenceValue, in-CharacterReference-CharacterReferenceMarker, in-CharacterReference-CharacterReferenceMarkerNumeric, in-CharacterReference-CharacterReferenceMarkerHexadecimal, in-HeadingAtx-HeadingAtxSequence, in-HeadingSetext-HeadingSetextUnderlineSequence, in-NumberedItem-ListItemValue, in-TaskParagraph-TaskMarkChecked, in-TaskParagraph-TaskMarkUnchecked, in-CodeFenced-CodeFencedFence, in-CodeFenced-CodeFencedFence-2}

pub returns : goal.returns
returns g c line_endings in_table =
    let text : List ℕ → ℕ → Option (List ℕ) = g.R.References.text c.args.references.now in
    let s : Source = source_of c.args.document.now text in
    let a : Point = c.args.start in
    let b : Point = c.args.end in
    let q : Part = c.args.part in
    elim c.match-self.branch [
      | in-Autolink-AutolinkEmail w ↦ part_kept s nothing_yet a b q _ _ _ _ _ _ _ w.in-Autolink-AutolinkEmail.is-0 w.in-Autolink-AutolinkEmail.is-1 w.self-is w.result-is (λ l t. w.take_email.ensures text (place_with l t None)) line_endings in_table
      | in-Autolink-AutolinkProtocol w ↦ part_kept s nothing_yet a b q _ _ _ _ _ _ _ w.in-Autolink-AutolinkProtocol.is-0 w.in-Autolink-AutolinkProtocol.is-1 w.self-is w.result-is (λ l t. w.take_protocol.ensures text (place_with l t None)) line_endings in_table
      | in-CharacterReference-CharacterReferenceValue w ↦ part_kept s nothing_yet a b q _ _ _ _ _ _ _ w.in-CharacterReference-CharacterReferenceValue.is-0 w.in-CharacterReference-CharacterReferenceValue.is-1 w.self-is w.result-is (λ l t. w.take_value.ensures l t) line_endings in_table
      | in-CharacterReference-CharacterReferenceMarker w ↦ part_kept s nothing_yet a b q _ _ _ _ _ _ _ w.in-CharacterReference-CharacterReferenceMarker.is-0 w.in-CharacterReference-CharacterReferenceMarker.is-1 w.self-is w.result-is (λ l t. (refl, w.take_marker.ensures s (place_with l t _) a b)) line_endings in_table
      | in-CharacterReference-CharacterReferenceMarkerNumeric w ↦ part_kept s nothing_yet a b q _ _ _ _ _ _ _ w.in-CharacterReference-CharacterReferenceMarkerNumeric.is-0 w.in-CharacterReference-CharacterReferenceMarkerNumeric.is-1 w.self-is w.result-is (λ l t. (refl, w.take_marker-in-CharacterReference-CharacterReferenceMarkerNumeric.ensures s (place_with l t _) a b)) line_endings in_table
      | in-CharacterReference-CharacterReferenceMarkerHexadecimal w ↦ part_kept s nothing_yet a b q _ _ _ _ _ _ _ w.in-CharacterReference-CharacterReferenceMarkerHexadecimal.is-0 w.in-CharacterReference-CharacterReferenceMarkerHexadecimal.is-1 w.self-is w.result-is (λ l t. (refl, w.take_marker-in-CharacterReference-CharacterReferenceMarkerHexadecimal.ensures s (place_with l t _) a b)) line_endings in_table
      | in-HeadingAtx-HeadingAtxSequence w ↦ part_kept s nothing_yet a b q _ _ _ _ _ _ _ w.in-HeadingAtx-HeadingAtxSequence.is-0 w.in-HeadingAtx-HeadingAtxSequence.is-1 w.self-is w.result-is (λ l t. w.take_sequence.ensures text (place_with l t None)) line_endings in_table
      | in-HeadingSetext-HeadingSetextUnderlineSequence w ↦ part_kept s nothing_yet a b q _ _ _ _ _ _ _ w.in-HeadingSetext-HeadingSetextUnderlineSequence.is-0 w.in-HeadingSetext-HeadingSetextUnderlineSequence.is-1 w.self-is w.result-is (λ l t. w.take_underline.ensures text (place_with l t None)) line_endings in_table
      | in-NumberedItem-ListItemValue w ↦ part_kept s nothing_yet a b q _ _ _ _ _ _ _ w.in-NumberedItem-ListItemValue.is-0 w.in-NumberedItem-ListItemValue.is-1 w.self-is w.result-is (λ l t. w.take_value-in-NumberedItem-ListItemValue.ensures text (place_with l t None)) line_endings in_table
      | in-TaskParagraph-TaskMarkChecked w ↦ part_kept s nothing_yet a b q _ _ _ _ _ _ _ w.in-TaskParagraph-TaskMarkChecked.is-0 w.in-TaskParagraph-TaskMarkChecked.is-1 w.self-is w.result-is (λ l t. (refl, w.take_mark.ensures s (place_with l t _) a b)) line_endings in_table
      | in-TaskParagraph-TaskMarkUnchecked w ↦ part_kept s nothing_yet a b q _ _ _ _ _ _ _ w.in-TaskParagraph-TaskMarkUnchecked.is-0 w.in-TaskParagraph-TaskMarkUnchecked.is-1 w.self-is w.result-is (λ l t. (refl, w.take_mark-in-TaskParagraph-TaskMarkUnchecked.ensures s (place_with l t _) a b)) line_endings in_table
      | in-CodeFenced-CodeFencedFence w ↦ part_kept s nothing_yet a b q _ _ _ _ _ _ _ w.in-CodeFenced-CodeFencedFence.is-0 w.in-CodeFenced-CodeFencedFence.is-1 (w.self-is ∙ w.in-CodeFenced-CodeFencedFence.is-0) w.result-is
          (λ l t. (refl, later_code_fence s (place_with l t None) a b _ (leaf_here q _ _ _ w.in-CodeFenced-CodeFencedFence.is-0 w.in-CodeFenced-CodeFencedFence.is-1 c.requires.leaf))) line_endings in_table
      | in-CodeFenced-CodeFencedFence-2 w ↦ part_kept s nothing_yet a b q _ _ _ _ _ _ _ w.in-CodeFenced-CodeFencedFence.is-0 w.in-CodeFenced-CodeFencedFence.is-1 (w.self-is ∙ w.in-CodeFenced-CodeFencedFence.is-0) w.result-is
          (λ l t. (refl, later_math_fence s (place_with l t None) a b _ (leaf_here q _ _ _ w.in-CodeFenced-CodeFencedFence.is-0 w.in-CodeFenced-CodeFencedFence.is-1 c.requires.leaf))) line_endings in_table
    ]
