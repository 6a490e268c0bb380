use Rattle.std.proofs.Common.{◌≡◌, ◌≤◌, ◌+◌, ◌∙◌, ◌⊎◌, List, [], ap, arith, drop, length, length-drop, subst, sym, take, ℕ}
use Rattle.std.proofs.Math.Seq.{get_or-drop}
use Rattle.std.specs.Prelude.{slice_index}
use Rattle.std.specs.Str.{IsAscii}
use Rattle.commonmark_syntax.specs.Cuts.{IsCut}
use Rattle.markdown_flow.proofs.Cuts.{last_spaces}
use Rattle.markdown_flow.proofs.Rows.{IsEnd, is_first}
use Rattle.markdown_flow.specs.Lines.{after_spaces}
use Rattle.markdown_flow.proofs.gfm_table_row.Cell.first.Goals as goal

pub returns-clause-first : goal.returns-clause-first
returns-clause-first c =
    let row = c.args.row.now in
    let size = c.cell_size-size.result in
    let d = c.divider_size-divider_size.result in
    let t = c.trimmed_size.result in
    let whole : c.after_spaces-text.result.now ≡ after_spaces (drop d (take size row)) = c.after_spaces-text.ensures.value ∙ ap after_spaces c.after.ensures.rest in
    let long = length-drop size row in
    let place : size + 0 ≡ size = omega arith in
    let end : IsEnd (drop size row) = λ some. get_or-drop size row 0 0 ∙ ap (slice_index row) place ∙ c.cell_size-size.ensures.divider (omega (arith, some, long)) in
    let order : d ≤ size = grind (arith, c.divider_size-divider_size.ensures.most, c.divider_size-divider_size.ensures.within, c.cell_size-size.ensures.least) in
    let next = subst (λ (xs : List ℕ). (c.next_cell.result.now ≡ xs) ⊎ ((c.next_cell.result.now ≡ []) × IsAscii (drop 1 xs))) c.after-2.ensures.rest c.next_cell.ensures.next in
    is_first row size t _ c.cell_size-size.ensures.most order end c.divider_size-divider_size.ensures.ascii
    (subst (λ (xs : List ℕ). t ≤ length xs) whole c.trimmed_size.ensures.within) (ap (take t) whole) (subst (λ (xs : List ℕ). IsCut xs t) whole c.trimmed_size.ensures.cut)
    (ap (λ (xs : List ℕ). after_spaces (drop t xs)) (sym whole) ∙ last_spaces c.after_spaces-text.result.now t c.trimmed_size.ensures.blank) next
