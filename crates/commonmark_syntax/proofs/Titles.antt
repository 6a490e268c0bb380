-- The marks of a title.
use Rattle.std.proofs.Common.{◌≡◌, ℕ, ◌-◌, List, length, Some, ap, refl, sym, ◌∙◌, inl, inr, lit<}
use Rattle.std.specs.Prelude.{slice_index}
use Rattle.commonmark_syntax.specs.Cuts.{IsCut, closing_mark}
use Rattle.commonmark_syntax.specs.Language.{Reads}
use Rattle.commonmark_syntax.specs.Syntax.{in_double_quotes, in_parentheses, in_single_quotes, title, title_text}
use Rattle.commonmark_syntax.proofs.Enclosed.{Encloses, encloses, inside_cuts}

marked : (a z : ℕ) (s t : List ℕ) → closing_mark a ≡ Some z → Encloses a z s t → closing_mark (slice_index s 0) ≡ Some (slice_index s (length s - length t - 1))
marked a z s t e it = ap closing_mark it.first ∙ e ∙ ap Some (sym it.last)

pub title_marks : (s t : List ℕ) → Reads title s t → closing_mark (slice_index s 0) ≡ Some (slice_index s (length s - length t - 1))
title_marks s t (inl r) = marked 34 34 s t refl (encloses 34 34 (title_text in_double_quotes) s t r)
title_marks s t (inr (inl r)) = marked 39 39 s t refl (encloses 39 39 (title_text in_single_quotes) s t r)
title_marks s t (inr (inr r)) = marked 40 41 s t refl (encloses 40 41 (title_text in_parentheses) s t r)

pub title_cuts : (s t : List ℕ) → Reads title s t → IsCut s 1 × IsCut s (length s - length t - 1)
title_cuts s t (inl r) = inside_cuts 34 34 s t (lit< tt) (lit< tt) (encloses 34 34 (title_text in_double_quotes) s t r)
title_cuts s t (inr (inl r)) = inside_cuts 39 39 s t (lit< tt) (lit< tt) (encloses 39 39 (title_text in_single_quotes) s t r)
title_cuts s t (inr (inr r)) = inside_cuts 40 41 s t (lit< tt) (lit< tt) (encloses 40 41 (title_text in_parentheses) s t r)
