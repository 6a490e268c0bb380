-- Destinations, link reference definitions, resources and backtick strings by computation: texts that begin with one, and
-- texts that do not.
use Rattle.std.proofs.Common.{[], refl, lit<}
use Rattle.std.specs.Prelude.{codes}
use Rattle.commonmark_syntax.specs.Definitions.{IsNoDefinition, LeavesDefinition}
use Rattle.commonmark_syntax.specs.Parentheses.{IsNoDestination, LeavesDestination}
use Rattle.commonmark_syntax.specs.Resources.{IsNoResource, LeavesResource}
use Rattle.commonmark_syntax.specs.Strings.{FirstStringEnds, HasNoString}
use Rattle.commonmark_syntax.proofs.Computed.{definition_no, definition_yes, destination_no, destination_yes, resource_no, resource_yes, string_no, string_yes}

pub pair_of_parentheses : LeavesDestination (codes "a(b)c d") (codes " d")
pair_of_parentheses = destination_yes (codes "a(b)c d") (codes " d") refl refl

pub parenthesis_of_the_text_around : LeavesDestination (codes "a)b") (codes ")b")
parenthesis_of_the_text_around = destination_yes (codes "a)b") (codes ")b") refl refl

pub escaped_parenthesis : LeavesDestination (codes "a\\(b") []
escaped_parenthesis = destination_yes (codes "a\\(b") [] refl refl

pub space_between_angle_brackets : LeavesDestination (codes "<a b>c") (codes "c")
space_between_angle_brackets = destination_yes (codes "<a b>c") (codes "c") refl refl

pub nothing_between_angle_brackets : LeavesDestination (codes "<>") []
nothing_between_angle_brackets = destination_yes (codes "<>") [] refl refl

pub open_parenthesis : IsNoDestination (codes "a(b")
open_parenthesis = destination_no (codes "a(b") refl refl

pub no_text : IsNoDestination []
no_text = destination_no [] refl refl

pub space_first : IsNoDestination (codes " a")
space_first = destination_no (codes " a") refl refl

pub line_between_angle_brackets : IsNoDestination (codes "<a\nb>")
line_between_angle_brackets = destination_no (codes "<a\nb>") refl refl

pub open_angle_bracket : IsNoDestination (codes "<a")
open_angle_bracket = destination_no (codes "<a") refl refl

pub no_title : LeavesDefinition (codes "[a]: b\nc\n") (codes "c\n")
no_title = definition_yes (codes "[a]: b\nc\n") (codes "c\n") refl refl

pub title_in_the_next_line : LeavesDefinition (codes "[a]: b\n'c'\n") []
title_in_the_next_line = definition_yes (codes "[a]: b\n'c'\n") [] refl refl

pub text_after_a_title : LeavesDefinition (codes "[a]: b\n'c' d\n") (codes "'c' d\n")
text_after_a_title = definition_yes (codes "[a]: b\n'c' d\n") (codes "'c' d\n") refl refl

pub title_of_two_lines : LeavesDefinition (codes "[a]:b \"c\nd\" \t\n") []
title_of_two_lines = definition_yes (codes "[a]:b \"c\nd\" \t\n") [] refl refl

pub destination_in_the_next_line : LeavesDefinition (codes "[a]:\n <> \n") []
destination_in_the_next_line = definition_yes (codes "[a]:\n <> \n") [] refl refl

pub title_beside_a_destination : IsNoDefinition (codes "[a]: <b>'c'\n")
title_beside_a_destination = definition_no (codes "[a]: <b>'c'\n") refl refl

pub text_after_a_title_in_one_line : IsNoDefinition (codes "[a]: b 'c' d\n")
text_after_a_title_in_one_line = definition_no (codes "[a]: b 'c' d\n") refl refl

pub no_destination : IsNoDefinition (codes "[a]:\n\nb\n")
no_destination = definition_no (codes "[a]:\n\nb\n") refl refl

pub space_before_the_colon : IsNoDefinition (codes "[a] : b\n")
space_before_the_colon = definition_no (codes "[a] : b\n") refl refl

pub blank_label : IsNoDefinition (codes "[ ]: b\n")
blank_label = definition_no (codes "[ ]: b\n") refl refl

pub empty_resource : LeavesResource (codes "( )a") (codes "a")
empty_resource = resource_yes (codes "( )a") (codes "a") refl refl

pub destination_alone : LeavesResource (codes "( a\n)") []
destination_alone = resource_yes (codes "( a\n)") [] refl refl

pub destination_and_title : LeavesResource (codes "(a 'b')c") (codes "c")
destination_and_title = resource_yes (codes "(a 'b')c") (codes "c") refl refl

pub empty_destination_and_title : LeavesResource (codes "(<>\n(a) )") []
empty_destination_and_title = resource_yes (codes "(<>\n(a) )") [] refl refl

pub title_beside_its_destination : IsNoResource (codes "(<a>'b')")
title_beside_its_destination = resource_no (codes "(<a>'b')") refl refl

pub title_alone : LeavesResource (codes "(\"a\")") []
title_alone = resource_yes (codes "(\"a\")") [] refl refl

pub words_of_a_destination : IsNoResource (codes "(a b)")
words_of_a_destination = resource_no (codes "(a b)") refl refl

pub blank_line_before_the_end : IsNoResource (codes "(a\n\n)")
blank_line_before_the_end = resource_no (codes "(a\n\n)") refl refl

pub space_before_a_resource : IsNoResource (codes " (a)")
space_before_a_resource = resource_no (codes " (a)") refl refl

pub open_resource : IsNoResource (codes "(a")
open_resource = resource_no (codes "(a") refl refl

pub string_of_one : FirstStringEnds 96 (codes "a``b`c") 1 5
string_of_one = string_yes 96 1 (codes "a``b`c") 5 (lit< tt) refl

pub string_of_two_at_the_end : FirstStringEnds 96 (codes "a`b``") 2 5
string_of_two_at_the_end = string_yes 96 2 (codes "a`b``") 5 (lit< tt) refl

pub first_of_two_strings : FirstStringEnds 36 (codes "$a$") 1 1
first_of_two_strings = string_yes 36 1 (codes "$a$") 1 (lit< tt) refl

pub longer_strings : HasNoString 96 (codes "a``b```") 1
longer_strings = string_no 96 1 (codes "a``b```") (lit< tt) refl

pub shorter_strings : HasNoString 96 (codes "`a`") 2
shorter_strings = string_no 96 2 (codes "`a`") (lit< tt) refl

pub other_marks : HasNoString 96 (codes "a$$b") 2
other_marks = string_no 96 2 (codes "a$$b") (lit< tt) refl
