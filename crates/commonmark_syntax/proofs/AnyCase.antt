-- Words in letters of either case.
use Rattle.std.proofs.Common.{◌≡◌, ℕ, List, ◌∷◌, None, Some, ap, sym}
use Rattle.std.specs.Prelude.{option_and_then}
use Rattle.commonmark_syntax.specs.Inlines.{in_any_case, is_in_any_case}
use Rattle.commonmark_syntax.specs.Language.{one}
use Rattle.commonmark_syntax.specs.Reading.{read}

pub letter_read : (c : ℕ) (w s t : List ℕ) → read (one (is_in_any_case c)) s ≡ Some t → read (in_any_case w) t ≡ read (in_any_case (c ∷ w)) s
letter_read c w s t e = sym (ap (option_and_then (read (in_any_case w))) e)

pub letter_missing : (c : ℕ) (w s : List ℕ) → read (one (is_in_any_case c)) s ≡ None → read (in_any_case (c ∷ w)) s ≡ None
letter_missing c w s e = ap (option_and_then (read (in_any_case w))) e
