-- Which syntax is clear: what is seen ahead always tells how to go on.
use Rattle.std.proofs.Common.{◌≡◌, refl, true}
use Rattle.commonmark_syntax.specs.Inlines.{backslash_break, backslash_escape, decimal_reference, email_autolink, entity_reference, hexadecimal_reference, task_mark, uri_autolink, extended_autolink_start}
use Rattle.commonmark_syntax.specs.Reading.{are_apart, everything, is_clear, is_within}
use Rattle.commonmark_syntax.specs.Blocks.{atx_opening, code_fence, interrupting_list_marker, list_marker, math_fence, setext_underline}
use Rattle.commonmark_syntax.specs.Html.{basic_start, complete_closing, raw_end, raw_start}
use Rattle.commonmark_syntax.specs.Syntax.{angle_destination, cdata_section, closing_tag, declaration, link_label, processing_instruction, title, whole_tag_name}

pub whole_tag_name_clear : is_clear whole_tag_name everything ≡ true
unfolding are_apart is_within
whole_tag_name_clear = refl

pub closing_tag_clear : is_clear closing_tag everything ≡ true
unfolding are_apart is_within
closing_tag_clear = refl

pub processing_instruction_clear : is_clear processing_instruction everything ≡ true
unfolding are_apart is_within
processing_instruction_clear = refl

pub declaration_clear : is_clear declaration everything ≡ true
unfolding are_apart is_within
declaration_clear = refl

pub cdata_section_clear : is_clear cdata_section everything ≡ true
unfolding are_apart is_within
cdata_section_clear = refl

pub title_clear : is_clear title everything ≡ true
unfolding are_apart is_within
title_clear = refl

pub link_label_clear : is_clear link_label everything ≡ true
unfolding are_apart is_within
link_label_clear = refl

pub angle_destination_clear : is_clear angle_destination everything ≡ true
unfolding are_apart is_within
angle_destination_clear = refl

pub uri_autolink_clear : is_clear uri_autolink everything ≡ true
unfolding are_apart is_within
uri_autolink_clear = refl

pub email_autolink_clear : is_clear email_autolink everything ≡ true
unfolding are_apart is_within
email_autolink_clear = refl

pub entity_reference_clear : is_clear entity_reference everything ≡ true
unfolding are_apart is_within
entity_reference_clear = refl

pub decimal_reference_clear : is_clear decimal_reference everything ≡ true
unfolding are_apart is_within
decimal_reference_clear = refl

pub hexadecimal_reference_clear : is_clear hexadecimal_reference everything ≡ true
unfolding are_apart is_within
hexadecimal_reference_clear = refl

pub backslash_escape_clear : is_clear backslash_escape everything ≡ true
unfolding are_apart is_within
backslash_escape_clear = refl

pub backslash_break_clear : is_clear backslash_break everything ≡ true
unfolding are_apart is_within
backslash_break_clear = refl

pub task_mark_clear : is_clear task_mark everything ≡ true
unfolding are_apart is_within
task_mark_clear = refl

pub extended_autolink_start_clear : is_clear extended_autolink_start everything ≡ true
unfolding are_apart is_within
extended_autolink_start_clear = refl

pub setext_underline_clear : is_clear setext_underline everything ≡ true
unfolding are_apart is_within
setext_underline_clear = refl

pub atx_opening_clear : is_clear atx_opening everything ≡ true
unfolding are_apart is_within
atx_opening_clear = refl

pub code_fence_clear : is_clear code_fence everything ≡ true
unfolding are_apart is_within
code_fence_clear = refl

pub math_fence_clear : is_clear math_fence everything ≡ true
unfolding are_apart is_within
math_fence_clear = refl

pub list_marker_clear : is_clear list_marker everything ≡ true
unfolding are_apart is_within
list_marker_clear = refl

pub interrupting_list_marker_clear : is_clear interrupting_list_marker everything ≡ true
unfolding are_apart is_within
interrupting_list_marker_clear = refl

pub raw_start_clear : is_clear raw_start everything ≡ true
unfolding are_apart is_within
raw_start_clear = refl

pub basic_start_clear : is_clear basic_start everything ≡ true
unfolding are_apart is_within
basic_start_clear = refl

pub complete_closing_clear : is_clear complete_closing everything ≡ true
unfolding are_apart is_within
complete_closing_clear = refl

pub raw_end_clear : is_clear raw_end everything ≡ true
unfolding are_apart is_within
raw_end_clear = refl
