-- Rows of crates/mdast_replay/data/rows.txt, by computation. scripts/rows writes this file.
use Rattle.std.proofs.Common.{◌≡◌, true, false, [], ◌∷◌, None, Some, refl}
use Rattle.std.specs.Prelude.{codes}
use Rattle.std.specs.Str.{is_utf8, chars}
use lib.Utf8.{encode}
use Rattle.caseless.proofs.Computing.{caseless}
use Rattle.markdown_events.specs.declared.event.Name.TheVariants as n
use Rattle.markdown_events.specs.Forest.{Forest, empty, span, events_of}
use Rattle.markdown_events.specs.Slices.{slice}
use Rattle.markdown_events.specs.Texts.{fold}
use Rattle.markdown_nodes.specs.Tree.{node, nothing, only}
use Rattle.markdown_nodes.specs.Tree as t
use Rattle.markdown_grammar.specs.Accepted.{Accepted}
use Rattle.markdown_steps.proofs.Conditions.{conditions-hold, conditions-fail}
use Rattle.markdown_steps.specs.Compiler.{compiled, enter_step, exit_step, leave, run}
use Rattle.markdown_grammar.specs.Meaning.{meaning}
use Rattle.markdown_grammar.specs.Ordered.{IsOrdered}
use Rattle.markdown_steps.proofs.Orderly.{is-ordered}
use Rattle.markdown_steps.proofs.RowWords.{at, position, over, error_kind, error_kind_of}

abbrev the_greatest_list_value : Forest
the_greatest_list_value = (span n.ListOrdered (at 1 1 0) (at 1 11 10) (span n.ListItem (at 1 1 0) (at 1 11 10) (span n.ListItemPrefix (at 1 1 0) (at 1 11 10) (span n.ListItemValue (at 1 1 0) (at 1 11 10) empty empty) empty) empty) empty)

the_greatest_list_value-accepted : Accepted (over (52 ∷ 50 ∷ 57 ∷ 52 ∷ 57 ∷ 54 ∷ 55 ∷ 50 ∷ 57 ∷ 53 ∷ [])) the_greatest_list_value
unfolding is_utf8 chars encode slice fold caseless
the_greatest_list_value-accepted = conditions-hold (over (52 ∷ 50 ∷ 57 ∷ 52 ∷ 57 ∷ 54 ∷ 55 ∷ 50 ∷ 57 ∷ 53 ∷ [])) the_greatest_list_value refl

the_greatest_list_value-means : only (meaning (over (52 ∷ 50 ∷ 57 ∷ 52 ∷ 57 ∷ 54 ∷ 55 ∷ 50 ∷ 57 ∷ 53 ∷ [])) the_greatest_list_value) ≡ (node t.root (node (t.list true (Some 4294967295) false) (node (t.list_item false None) nothing (position 1 1 0 1 11 10) nothing) (position 1 1 0 1 11 10) nothing) (position 1 1 0 1 11 10) nothing)
unfolding is_utf8 chars encode slice fold caseless
the_greatest_list_value-means = refl

the_greatest_list_value-ordered : IsOrdered (only (meaning (over (52 ∷ 50 ∷ 57 ∷ 52 ∷ 57 ∷ 54 ∷ 55 ∷ 50 ∷ 57 ∷ 53 ∷ [])) the_greatest_list_value))
unfolding is_utf8 chars encode slice fold caseless
the_greatest_list_value-ordered = is-ordered (only (meaning (over (52 ∷ 50 ∷ 57 ∷ 52 ∷ 57 ∷ 54 ∷ 55 ∷ 50 ∷ 57 ∷ 53 ∷ [])) the_greatest_list_value)) refl

abbrev the_greatest_list_value_without_a_prefix : Forest
the_greatest_list_value_without_a_prefix = (span n.ListOrdered (at 1 1 0) (at 1 11 10) (span n.ListItem (at 1 1 0) (at 1 11 10) (span n.ListItemValue (at 1 1 0) (at 1 11 10) empty empty) empty) empty)

the_greatest_list_value_without_a_prefix-accepted : Accepted (over (52 ∷ 50 ∷ 57 ∷ 52 ∷ 57 ∷ 54 ∷ 55 ∷ 50 ∷ 57 ∷ 53 ∷ [])) the_greatest_list_value_without_a_prefix
unfolding is_utf8 chars encode slice fold caseless
the_greatest_list_value_without_a_prefix-accepted = conditions-hold (over (52 ∷ 50 ∷ 57 ∷ 52 ∷ 57 ∷ 54 ∷ 55 ∷ 50 ∷ 57 ∷ 53 ∷ [])) the_greatest_list_value_without_a_prefix refl

the_greatest_list_value_without_a_prefix-means : only (meaning (over (52 ∷ 50 ∷ 57 ∷ 52 ∷ 57 ∷ 54 ∷ 55 ∷ 50 ∷ 57 ∷ 53 ∷ [])) the_greatest_list_value_without_a_prefix) ≡ (node t.root (node (t.list true (Some 4294967295) false) (node (t.list_item false None) nothing (position 1 1 0 1 11 10) nothing) (position 1 1 0 1 11 10) nothing) (position 1 1 0 1 11 10) nothing)
unfolding is_utf8 chars encode slice fold caseless
the_greatest_list_value_without_a_prefix-means = refl

the_greatest_list_value_without_a_prefix-ordered : IsOrdered (only (meaning (over (52 ∷ 50 ∷ 57 ∷ 52 ∷ 57 ∷ 54 ∷ 55 ∷ 50 ∷ 57 ∷ 53 ∷ [])) the_greatest_list_value_without_a_prefix))
unfolding is_utf8 chars encode slice fold caseless
the_greatest_list_value_without_a_prefix-ordered = is-ordered (only (meaning (over (52 ∷ 50 ∷ 57 ∷ 52 ∷ 57 ∷ 54 ∷ 55 ∷ 50 ∷ 57 ∷ 53 ∷ [])) the_greatest_list_value_without_a_prefix)) refl

abbrev leading_zeros : Forest
leading_zeros = (span n.ListOrdered (at 1 1 0) (at 1 4 3) (span n.ListItem (at 1 1 0) (at 1 4 3) (span n.ListItemPrefix (at 1 1 0) (at 1 4 3) (span n.ListItemValue (at 1 1 0) (at 1 4 3) empty empty) empty) empty) empty)

leading_zeros-accepted : Accepted (over (48 ∷ 48 ∷ 55 ∷ [])) leading_zeros
unfolding is_utf8 chars encode slice fold caseless
leading_zeros-accepted = conditions-hold (over (48 ∷ 48 ∷ 55 ∷ [])) leading_zeros refl

leading_zeros-means : only (meaning (over (48 ∷ 48 ∷ 55 ∷ [])) leading_zeros) ≡ (node t.root (node (t.list true (Some 7) false) (node (t.list_item false None) nothing (position 1 1 0 1 4 3) nothing) (position 1 1 0 1 4 3) nothing) (position 1 1 0 1 4 3) nothing)
unfolding is_utf8 chars encode slice fold caseless
leading_zeros-means = refl

leading_zeros-ordered : IsOrdered (only (meaning (over (48 ∷ 48 ∷ 55 ∷ [])) leading_zeros))
unfolding is_utf8 chars encode slice fold caseless
leading_zeros-ordered = is-ordered (only (meaning (over (48 ∷ 48 ∷ 55 ∷ [])) leading_zeros)) refl

abbrev leading_zeros_without_a_prefix : Forest
leading_zeros_without_a_prefix = (span n.ListOrdered (at 1 1 0) (at 1 4 3) (span n.ListItem (at 1 1 0) (at 1 4 3) (span n.ListItemValue (at 1 1 0) (at 1 4 3) empty empty) empty) empty)

leading_zeros_without_a_prefix-accepted : Accepted (over (48 ∷ 48 ∷ 55 ∷ [])) leading_zeros_without_a_prefix
unfolding is_utf8 chars encode slice fold caseless
leading_zeros_without_a_prefix-accepted = conditions-hold (over (48 ∷ 48 ∷ 55 ∷ [])) leading_zeros_without_a_prefix refl

leading_zeros_without_a_prefix-means : only (meaning (over (48 ∷ 48 ∷ 55 ∷ [])) leading_zeros_without_a_prefix) ≡ (node t.root (node (t.list true (Some 7) false) (node (t.list_item false None) nothing (position 1 1 0 1 4 3) nothing) (position 1 1 0 1 4 3) nothing) (position 1 1 0 1 4 3) nothing)
unfolding is_utf8 chars encode slice fold caseless
leading_zeros_without_a_prefix-means = refl

leading_zeros_without_a_prefix-ordered : IsOrdered (only (meaning (over (48 ∷ 48 ∷ 55 ∷ [])) leading_zeros_without_a_prefix))
unfolding is_utf8 chars encode slice fold caseless
leading_zeros_without_a_prefix-ordered = is-ordered (only (meaning (over (48 ∷ 48 ∷ 55 ∷ [])) leading_zeros_without_a_prefix)) refl

abbrev a_list_value_too_great : Forest
a_list_value_too_great = (span n.ListOrdered (at 1 1 0) (at 1 11 10) (span n.ListItem (at 1 1 0) (at 1 11 10) (span n.ListItemPrefix (at 1 1 0) (at 1 11 10) (span n.ListItemValue (at 1 1 0) (at 1 11 10) empty empty) empty) empty) empty)

a_list_value_too_great-accepted : ¬ (Accepted (over (52 ∷ 50 ∷ 57 ∷ 52 ∷ 57 ∷ 54 ∷ 55 ∷ 50 ∷ 57 ∷ 54 ∷ [])) a_list_value_too_great)
unfolding is_utf8 chars encode slice fold caseless
a_list_value_too_great-accepted = conditions-fail (over (52 ∷ 50 ∷ 57 ∷ 52 ∷ 57 ∷ 54 ∷ 55 ∷ 50 ∷ 57 ∷ 54 ∷ [])) a_list_value_too_great refl

a_list_value_too_great-refused : error_kind_of (compiled (over (52 ∷ 50 ∷ 57 ∷ 52 ∷ 57 ∷ 54 ∷ 55 ∷ 50 ∷ 57 ∷ 54 ∷ [])) (events_of a_list_value_too_great)) ≡ error_kind (codes "list-value-invalid") 1 11 10
unfolding is_utf8 chars encode slice fold caseless run enter_step exit_step leave
a_list_value_too_great-refused = refl

abbrev a_list_value_too_great_without_a_prefix : Forest
a_list_value_too_great_without_a_prefix = (span n.ListOrdered (at 1 1 0) (at 1 11 10) (span n.ListItem (at 1 1 0) (at 1 11 10) (span n.ListItemValue (at 1 1 0) (at 1 11 10) empty empty) empty) empty)

a_list_value_too_great_without_a_prefix-accepted : ¬ (Accepted (over (52 ∷ 50 ∷ 57 ∷ 52 ∷ 57 ∷ 54 ∷ 55 ∷ 50 ∷ 57 ∷ 54 ∷ [])) a_list_value_too_great_without_a_prefix)
unfolding is_utf8 chars encode slice fold caseless
a_list_value_too_great_without_a_prefix-accepted = conditions-fail (over (52 ∷ 50 ∷ 57 ∷ 52 ∷ 57 ∷ 54 ∷ 55 ∷ 50 ∷ 57 ∷ 54 ∷ [])) a_list_value_too_great_without_a_prefix refl

a_list_value_too_great_without_a_prefix-refused : error_kind_of (compiled (over (52 ∷ 50 ∷ 57 ∷ 52 ∷ 57 ∷ 54 ∷ 55 ∷ 50 ∷ 57 ∷ 54 ∷ [])) (events_of a_list_value_too_great_without_a_prefix)) ≡ error_kind (codes "list-value-invalid") 1 11 10
unfolding is_utf8 chars encode slice fold caseless run enter_step exit_step leave
a_list_value_too_great_without_a_prefix-refused = refl

abbrev a_list_value_with_a_sign : Forest
a_list_value_with_a_sign = (span n.ListOrdered (at 1 1 0) (at 1 3 2) (span n.ListItem (at 1 1 0) (at 1 3 2) (span n.ListItemPrefix (at 1 1 0) (at 1 3 2) (span n.ListItemValue (at 1 1 0) (at 1 3 2) empty empty) empty) empty) empty)

a_list_value_with_a_sign-accepted : ¬ (Accepted (over (43 ∷ 49 ∷ [])) a_list_value_with_a_sign)
unfolding is_utf8 chars encode slice fold caseless
a_list_value_with_a_sign-accepted = conditions-fail (over (43 ∷ 49 ∷ [])) a_list_value_with_a_sign refl

a_list_value_with_a_sign-refused : error_kind_of (compiled (over (43 ∷ 49 ∷ [])) (events_of a_list_value_with_a_sign)) ≡ error_kind (codes "list-value-invalid") 1 3 2
unfolding is_utf8 chars encode slice fold caseless run enter_step exit_step leave
a_list_value_with_a_sign-refused = refl

abbrev a_list_value_with_a_sign_without_a_prefix : Forest
a_list_value_with_a_sign_without_a_prefix = (span n.ListOrdered (at 1 1 0) (at 1 3 2) (span n.ListItem (at 1 1 0) (at 1 3 2) (span n.ListItemValue (at 1 1 0) (at 1 3 2) empty empty) empty) empty)

a_list_value_with_a_sign_without_a_prefix-accepted : ¬ (Accepted (over (43 ∷ 49 ∷ [])) a_list_value_with_a_sign_without_a_prefix)
unfolding is_utf8 chars encode slice fold caseless
a_list_value_with_a_sign_without_a_prefix-accepted = conditions-fail (over (43 ∷ 49 ∷ [])) a_list_value_with_a_sign_without_a_prefix refl

a_list_value_with_a_sign_without_a_prefix-refused : error_kind_of (compiled (over (43 ∷ 49 ∷ [])) (events_of a_list_value_with_a_sign_without_a_prefix)) ≡ error_kind (codes "list-value-invalid") 1 3 2
unfolding is_utf8 chars encode slice fold caseless run enter_step exit_step leave
a_list_value_with_a_sign_without_a_prefix-refused = refl

abbrev an_empty_list_value : Forest
an_empty_list_value = (span n.ListOrdered (at 1 1 0) (at 1 1 0) (span n.ListItem (at 1 1 0) (at 1 1 0) (span n.ListItemPrefix (at 1 1 0) (at 1 1 0) (span n.ListItemValue (at 1 1 0) (at 1 1 0) empty empty) empty) empty) empty)

an_empty_list_value-accepted : ¬ (Accepted (over ([])) an_empty_list_value)
unfolding is_utf8 chars encode slice fold caseless
an_empty_list_value-accepted = conditions-fail (over ([])) an_empty_list_value refl

an_empty_list_value-refused : error_kind_of (compiled (over ([])) (events_of an_empty_list_value)) ≡ error_kind (codes "list-value-invalid") 1 1 0
unfolding is_utf8 chars encode slice fold caseless run enter_step exit_step leave
an_empty_list_value-refused = refl

abbrev an_empty_list_value_without_a_prefix : Forest
an_empty_list_value_without_a_prefix = (span n.ListOrdered (at 1 1 0) (at 1 1 0) (span n.ListItem (at 1 1 0) (at 1 1 0) (span n.ListItemValue (at 1 1 0) (at 1 1 0) empty empty) empty) empty)

an_empty_list_value_without_a_prefix-accepted : ¬ (Accepted (over ([])) an_empty_list_value_without_a_prefix)
unfolding is_utf8 chars encode slice fold caseless
an_empty_list_value_without_a_prefix-accepted = conditions-fail (over ([])) an_empty_list_value_without_a_prefix refl

an_empty_list_value_without_a_prefix-refused : error_kind_of (compiled (over ([])) (events_of an_empty_list_value_without_a_prefix)) ≡ error_kind (codes "list-value-invalid") 1 1 0
unfolding is_utf8 chars encode slice fold caseless run enter_step exit_step leave
an_empty_list_value_without_a_prefix-refused = refl

abbrev a_list_value_with_a_space : Forest
a_list_value_with_a_space = (span n.ListOrdered (at 1 1 0) (at 1 3 2) (span n.ListItem (at 1 1 0) (at 1 3 2) (span n.ListItemPrefix (at 1 1 0) (at 1 3 2) (span n.ListItemValue (at 1 1 0) (at 1 3 2) empty empty) empty) empty) empty)

a_list_value_with_a_space-accepted : ¬ (Accepted (over (49 ∷ 32 ∷ [])) a_list_value_with_a_space)
unfolding is_utf8 chars encode slice fold caseless
a_list_value_with_a_space-accepted = conditions-fail (over (49 ∷ 32 ∷ [])) a_list_value_with_a_space refl

a_list_value_with_a_space-refused : error_kind_of (compiled (over (49 ∷ 32 ∷ [])) (events_of a_list_value_with_a_space)) ≡ error_kind (codes "list-value-invalid") 1 3 2
unfolding is_utf8 chars encode slice fold caseless run enter_step exit_step leave
a_list_value_with_a_space-refused = refl

abbrev a_list_value_of_other_digits : Forest
a_list_value_of_other_digits = (span n.ListOrdered (at 1 1 0) (at 1 3 2) (span n.ListItem (at 1 1 0) (at 1 3 2) (span n.ListItemPrefix (at 1 1 0) (at 1 3 2) (span n.ListItemValue (at 1 1 0) (at 1 3 2) empty empty) empty) empty) empty)

a_list_value_of_other_digits-accepted : ¬ (Accepted (over (217 ∷ 163 ∷ [])) a_list_value_of_other_digits)
unfolding is_utf8 chars encode slice fold caseless
a_list_value_of_other_digits-accepted = conditions-fail (over (217 ∷ 163 ∷ [])) a_list_value_of_other_digits refl

a_list_value_of_other_digits-refused : error_kind_of (compiled (over (217 ∷ 163 ∷ [])) (events_of a_list_value_of_other_digits)) ≡ error_kind (codes "list-value-invalid") 1 3 2
unfolding is_utf8 chars encode slice fold caseless run enter_step exit_step leave
a_list_value_of_other_digits-refused = refl

abbrev an_ordered_list_without_a_value : Forest
an_ordered_list_without_a_value = (span n.ListOrdered (at 1 1 0) (at 1 2 1) (span n.ListItem (at 1 1 0) (at 1 2 1) empty empty) empty)

an_ordered_list_without_a_value-accepted : ¬ (Accepted (over (49 ∷ [])) an_ordered_list_without_a_value)
unfolding is_utf8 chars encode slice fold caseless
an_ordered_list_without_a_value-accepted = conditions-fail (over (49 ∷ [])) an_ordered_list_without_a_value refl

an_ordered_list_without_a_value-refused : error_kind_of (compiled (over (49 ∷ [])) (events_of an_ordered_list_without_a_value)) ≡ error_kind (codes "list-value-missing") 1 2 1
unfolding is_utf8 chars encode slice fold caseless run enter_step exit_step leave
an_ordered_list_without_a_value-refused = refl

abbrev a_value_in_an_unordered_list : Forest
a_value_in_an_unordered_list = (span n.ListUnordered (at 1 1 0) (at 1 2 1) (span n.ListItem (at 1 1 0) (at 1 2 1) (span n.ListItemValue (at 1 1 0) (at 1 2 1) empty empty) empty) empty)

a_value_in_an_unordered_list-accepted : ¬ (Accepted (over (49 ∷ [])) a_value_in_an_unordered_list)
unfolding is_utf8 chars encode slice fold caseless
a_value_in_an_unordered_list-accepted = conditions-fail (over (49 ∷ [])) a_value_in_an_unordered_list refl

a_value_in_an_unordered_list-refused : error_kind_of (compiled (over (49 ∷ [])) (events_of a_value_in_an_unordered_list)) ≡ error_kind (codes "name-misplaced") 1 1 0
unfolding is_utf8 chars encode slice fold caseless run enter_step exit_step leave
a_value_in_an_unordered_list-refused = refl

abbrev the_first_value_counts : Forest
the_first_value_counts = (span n.ListOrdered (at 1 1 0) (at 1 3 2) (span n.ListItem (at 1 1 0) (at 1 2 1) (span n.ListItemValue (at 1 1 0) (at 1 2 1) empty empty) (span n.ListItem (at 1 2 1) (at 1 3 2) empty empty)) empty)

the_first_value_counts-accepted : Accepted (over (49 ∷ 50 ∷ [])) the_first_value_counts
unfolding is_utf8 chars encode slice fold caseless
the_first_value_counts-accepted = conditions-hold (over (49 ∷ 50 ∷ [])) the_first_value_counts refl

the_first_value_counts-means : only (meaning (over (49 ∷ 50 ∷ [])) the_first_value_counts) ≡ (node t.root (node (t.list true (Some 1) false) (node (t.list_item false None) nothing (position 1 1 0 1 2 1) (node (t.list_item false None) nothing (position 1 2 1 1 3 2) nothing)) (position 1 1 0 1 3 2) nothing) (position 1 1 0 1 3 2) nothing)
unfolding is_utf8 chars encode slice fold caseless
the_first_value_counts-means = refl

abbrev a_value_in_the_second_item : Forest
a_value_in_the_second_item = (span n.ListOrdered (at 1 1 0) (at 1 3 2) (span n.ListItem (at 1 1 0) (at 1 2 1) empty (span n.ListItem (at 1 2 1) (at 1 3 2) (span n.ListItemValue (at 1 2 1) (at 1 3 2) empty empty) empty)) empty)

a_value_in_the_second_item-accepted : Accepted (over (49 ∷ 50 ∷ [])) a_value_in_the_second_item
unfolding is_utf8 chars encode slice fold caseless
a_value_in_the_second_item-accepted = conditions-hold (over (49 ∷ 50 ∷ [])) a_value_in_the_second_item refl

a_value_in_the_second_item-means : only (meaning (over (49 ∷ 50 ∷ [])) a_value_in_the_second_item) ≡ (node t.root (node (t.list true (Some 2) false) (node (t.list_item false None) nothing (position 1 1 0 1 2 1) (node (t.list_item false None) nothing (position 1 2 1 1 3 2) nothing)) (position 1 1 0 1 3 2) nothing) (position 1 1 0 1 3 2) nothing)
unfolding is_utf8 chars encode slice fold caseless
a_value_in_the_second_item-means = refl
