-- Rows of crates/mdast_replay/data/rows.txt, by computation. scripts/rows writes this file.
use Rattle.std.proofs.Common.{◌≡◌, [], ◌∷◌, None, Some, refl}
use Rattle.std.specs.Prelude.{codes}
use Rattle.std.specs.Str.{is_utf8, chars}
use lib.Utf8.{encode}
use Rattle.caseless.proofs.Computing.{caseless}
use Rattle.markdown_events.specs.declared.event.Name.TheVariants as n
use Rattle.markdown_kinds.specs.declared.ReferenceKind.TheVariants as r
use Rattle.markdown_events.specs.Forest.{Forest, empty, span, events_of}
use Rattle.markdown_events.specs.Slices.{slice}
use Rattle.markdown_events.specs.Texts.{fold}
use Rattle.markdown_nodes.specs.Tree.{node, nothing, only}
use Rattle.markdown_nodes.specs.Tree as t
use Rattle.markdown_grammar.specs.Accepted.{Accepted}
use Rattle.markdown_steps.proofs.Conditions.{conditions-hold, conditions-fail}
use Rattle.markdown_steps.specs.Compiler.{compiled, enter_step, exit_step, leave, run}
use Rattle.markdown_grammar.specs.Meaning.{meaning}
use Rattle.markdown_steps.proofs.RowWords.{at, position, over, error_kind, error_kind_of}

abbrev an_image_in_a_label : Forest
an_image_in_a_label = (span n.Image (at 1 1 0) (at 1 18 17) (span n.LabelText (at 1 3 2) (at 1 14 13) (span n.Data (at 1 3 2) (at 1 5 4) empty (span n.Image (at 1 5 4) (at 1 12 11) (span n.LabelText (at 1 7 6) (at 1 8 7) (span n.Data (at 1 7 6) (at 1 8 7) empty empty) (span n.Resource (at 1 9 8) (at 1 12 11) (span n.ResourceDestinationString (at 1 10 9) (at 1 11 10) (span n.Data (at 1 10 9) (at 1 11 10) empty empty) empty) empty)) (span n.Data (at 1 12 11) (at 1 14 13) empty empty))) (span n.Resource (at 1 15 14) (at 1 18 17) (span n.ResourceDestinationString (at 1 16 15) (at 1 17 16) (span n.Data (at 1 16 15) (at 1 17 16) empty empty) empty) empty)) empty)

an_image_in_a_label-accepted : Accepted (over (33 ∷ 91 ∷ 97 ∷ 32 ∷ 33 ∷ 91 ∷ 98 ∷ 93 ∷ 40 ∷ 99 ∷ 41 ∷ 32 ∷ 100 ∷ 93 ∷ 40 ∷ 101 ∷ 41 ∷ [])) an_image_in_a_label
unfolding is_utf8 chars encode slice fold caseless
an_image_in_a_label-accepted = conditions-hold (over (33 ∷ 91 ∷ 97 ∷ 32 ∷ 33 ∷ 91 ∷ 98 ∷ 93 ∷ 40 ∷ 99 ∷ 41 ∷ 32 ∷ 100 ∷ 93 ∷ 40 ∷ 101 ∷ 41 ∷ [])) an_image_in_a_label refl

an_image_in_a_label-means : only (meaning (over (33 ∷ 91 ∷ 97 ∷ 32 ∷ 33 ∷ 91 ∷ 98 ∷ 93 ∷ 40 ∷ 99 ∷ 41 ∷ 32 ∷ 100 ∷ 93 ∷ 40 ∷ 101 ∷ 41 ∷ [])) an_image_in_a_label) ≡ (node t.root (node (t.image (97 ∷ 32 ∷ 98 ∷ 32 ∷ 100 ∷ []) (101 ∷ []) None) nothing (position 1 1 0 1 18 17) nothing) (position 1 1 0 1 18 17) nothing)
unfolding is_utf8 chars encode slice fold caseless
an_image_in_a_label-means = refl

abbrev a_collapsed_link : Forest
a_collapsed_link = (span n.Link (at 1 1 0) (at 1 9 8) (span n.LabelText (at 1 2 1) (at 1 6 5) (span n.Data (at 1 2 1) (at 1 6 5) empty empty) (span n.Reference (at 1 7 6) (at 1 9 8) empty empty)) empty)

a_collapsed_link-accepted : Accepted (over (91 ∷ 65 ∷ 9 ∷ 32 ∷ 98 ∷ 93 ∷ 91 ∷ 93 ∷ [])) a_collapsed_link
unfolding is_utf8 chars encode slice fold caseless
a_collapsed_link-accepted = conditions-hold (over (91 ∷ 65 ∷ 9 ∷ 32 ∷ 98 ∷ 93 ∷ 91 ∷ 93 ∷ [])) a_collapsed_link refl

a_collapsed_link-means : only (meaning (over (91 ∷ 65 ∷ 9 ∷ 32 ∷ 98 ∷ 93 ∷ 91 ∷ 93 ∷ [])) a_collapsed_link) ≡ (node t.root (node (t.link_reference r.Collapsed (97 ∷ 32 ∷ 98 ∷ []) (Some (65 ∷ 9 ∷ 32 ∷ 98 ∷ []))) (node (t.text (65 ∷ 9 ∷ 32 ∷ 98 ∷ [])) nothing (position 1 2 1 1 6 5) nothing) (position 1 1 0 1 9 8) nothing) (position 1 1 0 1 9 8) nothing)
unfolding is_utf8 chars encode slice fold caseless
a_collapsed_link-means = refl

abbrev a_collapsed_image : Forest
a_collapsed_image = (span n.Image (at 1 1 0) (at 1 14 13) (span n.LabelText (at 1 3 2) (at 1 11 10) (span n.Data (at 1 3 2) (at 1 5 4) empty (span n.Link (at 1 5 4) (at 1 11 10) (span n.LabelText (at 1 6 5) (at 1 7 6) (span n.Data (at 1 6 5) (at 1 7 6) empty empty) (span n.Resource (at 1 8 7) (at 1 11 10) empty empty)) empty)) (span n.Reference (at 1 12 11) (at 1 14 13) empty empty)) empty)

a_collapsed_image-accepted : Accepted (over (33 ∷ 91 ∷ 120 ∷ 32 ∷ 91 ∷ 121 ∷ 93 ∷ 40 ∷ 122 ∷ 41 ∷ 93 ∷ 91 ∷ 93 ∷ [])) a_collapsed_image
unfolding is_utf8 chars encode slice fold caseless
a_collapsed_image-accepted = conditions-hold (over (33 ∷ 91 ∷ 120 ∷ 32 ∷ 91 ∷ 121 ∷ 93 ∷ 40 ∷ 122 ∷ 41 ∷ 93 ∷ 91 ∷ 93 ∷ [])) a_collapsed_image refl

a_collapsed_image-means : only (meaning (over (33 ∷ 91 ∷ 120 ∷ 32 ∷ 91 ∷ 121 ∷ 93 ∷ 40 ∷ 122 ∷ 41 ∷ 93 ∷ 91 ∷ 93 ∷ [])) a_collapsed_image) ≡ (node t.root (node (t.image_reference (120 ∷ 32 ∷ 121 ∷ []) r.Collapsed (120 ∷ 32 ∷ 91 ∷ 121 ∷ 93 ∷ 40 ∷ 122 ∷ 41 ∷ []) (Some (120 ∷ 32 ∷ 121 ∷ []))) nothing (position 1 1 0 1 14 13) nothing) (position 1 1 0 1 14 13) nothing)
unfolding is_utf8 chars encode slice fold caseless
a_collapsed_image-means = refl

abbrev a_folded_identifier : Forest
a_folded_identifier = (span n.Link (at 1 1 0) (at 1 6 5) (span n.LabelText (at 1 2 1) (at 1 5 4) (span n.Data (at 1 2 1) (at 1 5 4) empty empty) empty) empty)

a_folded_identifier-accepted : Accepted (over (91 ∷ 225 ∷ 186 ∷ 158 ∷ 93 ∷ [])) a_folded_identifier
unfolding is_utf8 chars encode slice fold caseless
a_folded_identifier-accepted = conditions-hold (over (91 ∷ 225 ∷ 186 ∷ 158 ∷ 93 ∷ [])) a_folded_identifier refl

a_folded_identifier-means : only (meaning (over (91 ∷ 225 ∷ 186 ∷ 158 ∷ 93 ∷ [])) a_folded_identifier) ≡ (node t.root (node (t.link_reference r.Shortcut (115 ∷ 115 ∷ []) (Some (225 ∷ 186 ∷ 158 ∷ []))) (node (t.text (225 ∷ 186 ∷ 158 ∷ [])) nothing (position 1 2 1 1 5 4) nothing) (position 1 1 0 1 6 5) nothing) (position 1 1 0 1 6 5) nothing)
unfolding is_utf8 chars encode slice fold caseless
a_folded_identifier-means = refl

abbrev a_full_link : Forest
a_full_link = (span n.Link (at 1 1 0) (at 1 7 6) (span n.LabelText (at 1 2 1) (at 1 3 2) (span n.Data (at 1 2 1) (at 1 3 2) empty empty) (span n.Reference (at 1 4 3) (at 1 7 6) (span n.ReferenceString (at 1 5 4) (at 1 6 5) (span n.Data (at 1 5 4) (at 1 6 5) empty empty) empty) empty)) empty)

a_full_link-accepted : Accepted (over (91 ∷ 97 ∷ 93 ∷ 91 ∷ 66 ∷ 93 ∷ [])) a_full_link
unfolding is_utf8 chars encode slice fold caseless
a_full_link-accepted = conditions-hold (over (91 ∷ 97 ∷ 93 ∷ 91 ∷ 66 ∷ 93 ∷ [])) a_full_link refl

a_full_link-means : only (meaning (over (91 ∷ 97 ∷ 93 ∷ 91 ∷ 66 ∷ 93 ∷ [])) a_full_link) ≡ (node t.root (node (t.link_reference r.Full (98 ∷ []) (Some (66 ∷ []))) (node (t.text (97 ∷ [])) nothing (position 1 2 1 1 3 2) nothing) (position 1 1 0 1 7 6) nothing) (position 1 1 0 1 7 6) nothing)
unfolding is_utf8 chars encode slice fold caseless
a_full_link-means = refl

abbrev a_label_of_an_image : Forest
a_label_of_an_image = (span n.Link (at 1 1 0) (at 1 12 11) (span n.LabelText (at 1 2 1) (at 1 9 8) (span n.Image (at 1 2 1) (at 1 9 8) (span n.LabelText (at 1 4 3) (at 1 5 4) (span n.Data (at 1 4 3) (at 1 5 4) empty empty) (span n.Resource (at 1 6 5) (at 1 9 8) (span n.ResourceDestinationString (at 1 7 6) (at 1 8 7) (span n.Data (at 1 7 6) (at 1 8 7) empty empty) empty) empty)) empty) (span n.Reference (at 1 10 9) (at 1 12 11) empty empty)) empty)

a_label_of_an_image-accepted : Accepted (over (91 ∷ 33 ∷ 91 ∷ 97 ∷ 93 ∷ 40 ∷ 98 ∷ 41 ∷ 93 ∷ 91 ∷ 93 ∷ [])) a_label_of_an_image
unfolding is_utf8 chars encode slice fold caseless
a_label_of_an_image-accepted = conditions-hold (over (91 ∷ 33 ∷ 91 ∷ 97 ∷ 93 ∷ 40 ∷ 98 ∷ 41 ∷ 93 ∷ 91 ∷ 93 ∷ [])) a_label_of_an_image refl

a_label_of_an_image-means : only (meaning (over (91 ∷ 33 ∷ 91 ∷ 97 ∷ 93 ∷ 40 ∷ 98 ∷ 41 ∷ 93 ∷ 91 ∷ 93 ∷ [])) a_label_of_an_image) ≡ (node t.root (node (t.link_reference r.Collapsed (33 ∷ 91 ∷ 97 ∷ 93 ∷ 40 ∷ 98 ∷ 41 ∷ []) (Some (97 ∷ []))) (node (t.image (97 ∷ []) (98 ∷ []) None) nothing (position 1 2 1 1 9 8) nothing) (position 1 1 0 1 12 11) nothing) (position 1 1 0 1 12 11) nothing)
unfolding is_utf8 chars encode slice fold caseless
a_label_of_an_image-means = refl

abbrev a_link_without_a_label : Forest
a_link_without_a_label = (span n.Link (at 1 1 0) (at 1 3 2) empty empty)

a_link_without_a_label-accepted : Accepted (over (91 ∷ 93 ∷ [])) a_link_without_a_label
unfolding is_utf8 chars encode slice fold caseless
a_link_without_a_label-accepted = conditions-hold (over (91 ∷ 93 ∷ [])) a_link_without_a_label refl

a_link_without_a_label-means : only (meaning (over (91 ∷ 93 ∷ [])) a_link_without_a_label) ≡ (node t.root (node (t.link_reference r.Shortcut ([]) (Some ([]))) nothing (position 1 1 0 1 3 2) nothing) (position 1 1 0 1 3 2) nothing)
unfolding is_utf8 chars encode slice fold caseless
a_link_without_a_label-means = refl

abbrev a_reference_after_a_resource : Forest
a_reference_after_a_resource = (span n.Link (at 1 1 0) (at 1 3 2) (span n.Resource (at 1 1 0) (at 1 2 1) empty (span n.Reference (at 1 2 1) (at 1 3 2) empty empty)) empty)

a_reference_after_a_resource-accepted : ¬ (Accepted (over (91 ∷ 93 ∷ [])) a_reference_after_a_resource)
unfolding is_utf8 chars encode slice fold caseless
a_reference_after_a_resource-accepted = conditions-fail (over (91 ∷ 93 ∷ [])) a_reference_after_a_resource refl

a_reference_after_a_resource-refused : error_kind_of (compiled (over (91 ∷ 93 ∷ [])) (events_of a_reference_after_a_resource)) ≡ error_kind (codes "name-misplaced") 1 2 1
unfolding is_utf8 chars encode slice fold caseless run enter_step exit_step leave
a_reference_after_a_resource-refused = refl

abbrev two_labels : Forest
two_labels = (span n.Link (at 1 1 0) (at 1 3 2) (span n.LabelText (at 1 1 0) (at 1 2 1) empty (span n.LabelText (at 1 2 1) (at 1 3 2) empty empty)) empty)

two_labels-accepted : ¬ (Accepted (over (91 ∷ 93 ∷ [])) two_labels)
unfolding is_utf8 chars encode slice fold caseless
two_labels-accepted = conditions-fail (over (91 ∷ 93 ∷ [])) two_labels refl

two_labels-refused : error_kind_of (compiled (over (91 ∷ 93 ∷ [])) (events_of two_labels)) ≡ error_kind (codes "part-repeated") 1 2 1
unfolding is_utf8 chars encode slice fold caseless run enter_step exit_step leave
two_labels-refused = refl

abbrev an_autolink : Forest
an_autolink = (span n.Autolink (at 1 1 0) (at 1 6 5) (span n.AutolinkProtocol (at 1 2 1) (at 1 5 4) empty empty) empty)

an_autolink-accepted : Accepted (over (60 ∷ 97 ∷ 58 ∷ 98 ∷ 62 ∷ [])) an_autolink
unfolding is_utf8 chars encode slice fold caseless
an_autolink-accepted = conditions-hold (over (60 ∷ 97 ∷ 58 ∷ 98 ∷ 62 ∷ [])) an_autolink refl

an_autolink-means : only (meaning (over (60 ∷ 97 ∷ 58 ∷ 98 ∷ 62 ∷ [])) an_autolink) ≡ (node t.root (node (t.link (97 ∷ 58 ∷ 98 ∷ []) None) (node (t.text (97 ∷ 58 ∷ 98 ∷ [])) nothing (position 1 2 1 1 5 4) nothing) (position 1 1 0 1 6 5) nothing) (position 1 1 0 1 6 5) nothing)
unfolding is_utf8 chars encode slice fold caseless
an_autolink-means = refl

abbrev an_address_of_mail : Forest
an_address_of_mail = (span n.Autolink (at 1 1 0) (at 1 8 7) (span n.AutolinkEmail (at 1 2 1) (at 1 7 6) empty empty) empty)

an_address_of_mail-accepted : Accepted (over (60 ∷ 97 ∷ 64 ∷ 98 ∷ 46 ∷ 99 ∷ 62 ∷ [])) an_address_of_mail
unfolding is_utf8 chars encode slice fold caseless
an_address_of_mail-accepted = conditions-hold (over (60 ∷ 97 ∷ 64 ∷ 98 ∷ 46 ∷ 99 ∷ 62 ∷ [])) an_address_of_mail refl

an_address_of_mail-means : only (meaning (over (60 ∷ 97 ∷ 64 ∷ 98 ∷ 46 ∷ 99 ∷ 62 ∷ [])) an_address_of_mail) ≡ (node t.root (node (t.link (109 ∷ 97 ∷ 105 ∷ 108 ∷ 116 ∷ 111 ∷ 58 ∷ 97 ∷ 64 ∷ 98 ∷ 46 ∷ 99 ∷ []) None) (node (t.text (97 ∷ 64 ∷ 98 ∷ 46 ∷ 99 ∷ [])) nothing (position 1 2 1 1 7 6) nothing) (position 1 1 0 1 8 7) nothing) (position 1 1 0 1 8 7) nothing)
unfolding is_utf8 chars encode slice fold caseless
an_address_of_mail-means = refl

abbrev an_autolink_without_a_value : Forest
an_autolink_without_a_value = (span n.Autolink (at 1 1 0) (at 1 3 2) empty empty)

an_autolink_without_a_value-accepted : Accepted (over (60 ∷ 62 ∷ [])) an_autolink_without_a_value
unfolding is_utf8 chars encode slice fold caseless
an_autolink_without_a_value-accepted = conditions-hold (over (60 ∷ 62 ∷ [])) an_autolink_without_a_value refl

an_autolink_without_a_value-means : only (meaning (over (60 ∷ 62 ∷ [])) an_autolink_without_a_value) ≡ (node t.root (node (t.link ([]) None) nothing (position 1 1 0 1 3 2) nothing) (position 1 1 0 1 3 2) nothing)
unfolding is_utf8 chars encode slice fold caseless
an_autolink_without_a_value-means = refl

abbrev an_address_of_the_web : Forest
an_address_of_the_web = (span n.GfmAutolinkLiteralWww (at 1 1 0) (at 1 8 7) empty empty)

an_address_of_the_web-accepted : Accepted (over (119 ∷ 119 ∷ 119 ∷ 46 ∷ 97 ∷ 46 ∷ 98 ∷ [])) an_address_of_the_web
unfolding is_utf8 chars encode slice fold caseless
an_address_of_the_web-accepted = conditions-hold (over (119 ∷ 119 ∷ 119 ∷ 46 ∷ 97 ∷ 46 ∷ 98 ∷ [])) an_address_of_the_web refl

an_address_of_the_web-means : only (meaning (over (119 ∷ 119 ∷ 119 ∷ 46 ∷ 97 ∷ 46 ∷ 98 ∷ [])) an_address_of_the_web) ≡ (node t.root (node (t.link (104 ∷ 116 ∷ 116 ∷ 112 ∷ 58 ∷ 47 ∷ 47 ∷ 119 ∷ 119 ∷ 119 ∷ 46 ∷ 97 ∷ 46 ∷ 98 ∷ []) None) (node (t.text (119 ∷ 119 ∷ 119 ∷ 46 ∷ 97 ∷ 46 ∷ 98 ∷ [])) nothing (position 1 1 0 1 8 7) nothing) (position 1 1 0 1 8 7) nothing) (position 1 1 0 1 8 7) nothing)
unfolding is_utf8 chars encode slice fold caseless
an_address_of_the_web-means = refl

abbrev a_definition : Forest
a_definition = (span n.Definition (at 1 1 0) (at 1 11 10) (span n.DefinitionLabelString (at 1 2 1) (at 1 3 2) (span n.Data (at 1 2 1) (at 1 3 2) empty empty) (span n.DefinitionDestinationString (at 1 6 5) (at 1 7 6) (span n.Data (at 1 6 5) (at 1 7 6) empty empty) (span n.DefinitionTitleString (at 1 9 8) (at 1 10 9) (span n.Data (at 1 9 8) (at 1 10 9) empty empty) empty))) empty)

a_definition-accepted : Accepted (over (91 ∷ 97 ∷ 93 ∷ 58 ∷ 32 ∷ 98 ∷ 32 ∷ 34 ∷ 99 ∷ 34 ∷ [])) a_definition
unfolding is_utf8 chars encode slice fold caseless
a_definition-accepted = conditions-hold (over (91 ∷ 97 ∷ 93 ∷ 58 ∷ 32 ∷ 98 ∷ 32 ∷ 34 ∷ 99 ∷ 34 ∷ [])) a_definition refl

a_definition-means : only (meaning (over (91 ∷ 97 ∷ 93 ∷ 58 ∷ 32 ∷ 98 ∷ 32 ∷ 34 ∷ 99 ∷ 34 ∷ [])) a_definition) ≡ (node t.root (node (t.definition (98 ∷ []) (Some (99 ∷ [])) (97 ∷ []) (Some (97 ∷ []))) nothing (position 1 1 0 1 11 10) nothing) (position 1 1 0 1 11 10) nothing)
unfolding is_utf8 chars encode slice fold caseless
a_definition-means = refl

abbrev an_identifier_is_not_decoded : Forest
an_identifier_is_not_decoded = (span n.Definition (at 1 1 0) (at 1 12 11) (span n.DefinitionLabelString (at 1 2 1) (at 1 8 7) (span n.Data (at 1 2 1) (at 1 3 2) empty (span n.CharacterReference (at 1 3 2) (at 1 8 7) (span n.CharacterReferenceMarker (at 1 3 2) (at 1 4 3) empty (span n.CharacterReferenceValue (at 1 4 3) (at 1 7 6) empty empty)) empty)) (span n.DefinitionDestinationString (at 1 11 10) (at 1 12 11) (span n.Data (at 1 11 10) (at 1 12 11) empty empty) empty)) empty)

an_identifier_is_not_decoded-accepted : Accepted (over (91 ∷ 97 ∷ 38 ∷ 97 ∷ 109 ∷ 112 ∷ 59 ∷ 93 ∷ 58 ∷ 32 ∷ 98 ∷ [])) an_identifier_is_not_decoded
unfolding is_utf8 chars encode slice fold caseless
an_identifier_is_not_decoded-accepted = conditions-hold (over (91 ∷ 97 ∷ 38 ∷ 97 ∷ 109 ∷ 112 ∷ 59 ∷ 93 ∷ 58 ∷ 32 ∷ 98 ∷ [])) an_identifier_is_not_decoded refl

an_identifier_is_not_decoded-means : only (meaning (over (91 ∷ 97 ∷ 38 ∷ 97 ∷ 109 ∷ 112 ∷ 59 ∷ 93 ∷ 58 ∷ 32 ∷ 98 ∷ [])) an_identifier_is_not_decoded) ≡ (node t.root (node (t.definition (98 ∷ []) None (97 ∷ 38 ∷ 97 ∷ 109 ∷ 112 ∷ 59 ∷ []) (Some (97 ∷ 38 ∷ []))) nothing (position 1 1 0 1 12 11) nothing) (position 1 1 0 1 12 11) nothing)
unfolding is_utf8 chars encode slice fold caseless
an_identifier_is_not_decoded-means = refl

abbrev a_footnote_definition : Forest
a_footnote_definition = (span n.GfmFootnoteDefinition (at 1 1 0) (at 1 8 7) (span n.GfmFootnoteDefinitionLabelString (at 1 3 2) (at 1 4 3) (span n.Data (at 1 3 2) (at 1 4 3) empty empty) (span n.Paragraph (at 1 7 6) (at 1 8 7) (span n.Data (at 1 7 6) (at 1 8 7) empty empty) empty)) empty)

a_footnote_definition-accepted : Accepted (over (91 ∷ 94 ∷ 65 ∷ 93 ∷ 58 ∷ 32 ∷ 98 ∷ [])) a_footnote_definition
unfolding is_utf8 chars encode slice fold caseless
a_footnote_definition-accepted = conditions-hold (over (91 ∷ 94 ∷ 65 ∷ 93 ∷ 58 ∷ 32 ∷ 98 ∷ [])) a_footnote_definition refl

a_footnote_definition-means : only (meaning (over (91 ∷ 94 ∷ 65 ∷ 93 ∷ 58 ∷ 32 ∷ 98 ∷ [])) a_footnote_definition) ≡ (node t.root (node (t.footnote_definition (97 ∷ []) (Some (65 ∷ []))) (node t.paragraph (node (t.text (98 ∷ [])) nothing (position 1 7 6 1 8 7) nothing) (position 1 7 6 1 8 7) nothing) (position 1 1 0 1 8 7) nothing) (position 1 1 0 1 8 7) nothing)
unfolding is_utf8 chars encode slice fold caseless
a_footnote_definition-means = refl

abbrev a_footnote_call : Forest
a_footnote_call = (span n.GfmFootnoteCall (at 1 1 0) (at 1 5 4) (span n.LabelText (at 1 3 2) (at 1 4 3) (span n.Data (at 1 3 2) (at 1 4 3) empty empty) empty) empty)

a_footnote_call-accepted : Accepted (over (91 ∷ 94 ∷ 65 ∷ 93 ∷ [])) a_footnote_call
unfolding is_utf8 chars encode slice fold caseless
a_footnote_call-accepted = conditions-hold (over (91 ∷ 94 ∷ 65 ∷ 93 ∷ [])) a_footnote_call refl

a_footnote_call-means : only (meaning (over (91 ∷ 94 ∷ 65 ∷ 93 ∷ [])) a_footnote_call) ≡ (node t.root (node (t.footnote_reference (97 ∷ []) (Some (65 ∷ []))) nothing (position 1 1 0 1 5 4) nothing) (position 1 1 0 1 5 4) nothing)
unfolding is_utf8 chars encode slice fold caseless
a_footnote_call-means = refl
