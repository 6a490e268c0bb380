-- The page of addresses read by computation: texts that begin with one, and texts that do not.
use Rattle.std.proofs.Common.{◌≡◌, Bool, List, None, Option, Some, false, refl, true, ℕ}
use Rattle.std.specs.Prelude.{codes}
use Rattle.markdown_attention.specs.ExtendedAddresses.{address, may_follow, segments}

-- of a text of ASCII, each byte of which is a character
abbrev address_in : Bool → List ℕ → Option (List ℕ)
address_in in_bracket text = address in_bracket text (segments text)

pub domain_and_path : address_in false (codes "a.b/c?d=e f") ≡ Some (codes "a.b/c?d=e")
domain_and_path = refl

pub mark_after_a_domain : address_in false (codes "a-b.c! d") ≡ Some (codes "a-b.c")
mark_after_a_domain = refl

pub underscore_in_an_early_segment : address_in false (codes "a_b.c.d") ≡ Some (codes "a_b.c.d")
underscore_in_an_early_segment = refl

pub underscores_at_the_end : address_in false (codes "a.b__ c") ≡ Some (codes "a.b")
underscores_at_the_end = refl

pub two_periods : address_in false (codes "a.b..c") ≡ Some (codes "a.b..c")
two_periods = refl

pub bracket_after_a_domain : address_in true (codes "a.b](c)") ≡ Some (codes "a.b")
bracket_after_a_domain = refl

pub no_period : address_in false (codes "ab:30/c.d") ≡ Some (codes "ab:30/c.d")
no_period = refl

pub underscore_in_the_last_segment : address_in false (codes "a.b_c/d") ≡ None
underscore_in_the_last_segment = refl

pub underscore_in_the_segment_before : address_in false (codes "a.b_c.d") ≡ None
underscore_in_the_segment_before = refl

pub period_first : address_in false (codes ".a.b") ≡ None
period_first = refl

pub at_the_start : may_follow 119 (codes "") ≡ true
at_the_start = refl

pub after_a_space : may_follow 119 (codes "a ") ≡ true
after_a_space = refl

pub after_an_asterisk : may_follow 119 (codes "a*") ≡ true
after_an_asterisk = refl

pub after_a_parenthesis : may_follow 119 (codes "a (") ≡ true
after_a_parenthesis = refl

pub after_a_letter : may_follow 119 (codes "( a") ≡ false
after_a_letter = refl

pub after_a_bracket : may_follow 119 (codes " [") ≡ false
after_a_bracket = refl

pub after_a_slash : may_follow 119 (codes "*/") ≡ false
after_a_slash = refl

pub scheme_after_a_quotation_mark : may_follow 104 (codes "a \"") ≡ true
scheme_after_a_quotation_mark = refl

pub scheme_after_a_digit : may_follow 72 (codes "1") ≡ true
scheme_after_a_digit = refl

pub scheme_after_a_letter : may_follow 102 (codes " a") ≡ false
scheme_after_a_letter = refl
