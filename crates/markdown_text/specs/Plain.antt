-- Where a construct may begin in a text.
use Rattle.std.specs.Prelude.{Bool, codes, ◌&&◌, ◌==◌, ◌||◌, ℕ}
use Rattle.commonmark_syntax.specs.Inlines.{is_in_any_case}
use Rattle.commonmark_syntax.specs.Syntax.{is_one_of}
use Rattle.markdown_attention.specs.ExtendedAddresses.{may_come_before}

-- the bytes that may begin a construct wherever they are
abbrev pub is_mark : ℕ → Bool
is_mark c = (c == 10) || is_one_of (codes "!$&*<[\\]_`~") c

-- the letters that may begin a scheme, and those that may begin an extended autolink
abbrev pub is_scheme_letter : ℕ → Bool
is_scheme_letter c = is_one_of (codes "FHfh") c

abbrev pub is_first_letter : ℕ → Bool
is_first_letter c = is_in_any_case 119 c || is_scheme_letter c

-- a construct may begin at a byte, after another byte; with literals, extended autolinks are among the constructs
abbrev pub may_begin : (literals : Bool) → (before byte : ℕ) → Bool
may_begin literals before byte = is_mark byte || (literals && (is_first_letter byte && may_come_before byte before))
