-- The footnotes of a page, one after the other.
use Rattle.std.proofs.Common.{◌≡◌, ℕ, ◌+◌, ◌-◌, ◌<◌, suc, Option, None, Some, arith, sym, ap, ◌∙◌, slice_get}
use Rattle.markdown_nodes.specs.Tree.{Tree}
use Rattle.markdown_html.specs.declared.place.Kind.TheVariants.{Note}
use Rattle.markdown_html.specs.Html.{Source, footnote_in, most_notes, notes_page, tree_page}
use Rattle.markdown_html.specs.Page.{Call, Page}
use Rattle.markdown_html.specs.Places.{place}

-- one may follow
below_most : (number : ℕ) → number < 18446744073709551615 → most_notes - number ≡ suc (most_notes - (number + 1))
unfolding most_notes
below_most number less = omega (arith, less)

-- a footnote is written
pub note_written : (it : Source) (number : ℕ) (page next : Page) (call : Call) (note : Tree) → number < 18446744073709551615 → slice_get page.calls number ≡ Some call → footnote_in it.tree call.identifier ≡ Some note → next ≡ tree_page it (place (Note number)) note page → notes_page it (most_notes - number) number page ≡ notes_page it (most_notes - (number + 1)) (number + 1) next
note_written it number page next call note less called defined written =
    let left = most_notes - (number + 1) in
    ap (λ (n : ℕ). notes_page it n number page) (below_most number less)
    ∙ ap (λ (o : Option Call). elim o [ None ↦ page | Some c ↦ elim (footnote_in it.tree c.identifier) [ None ↦ page | Some t ↦ notes_page it left (number + 1) (tree_page it (place (Note number)) t page) ] ]) called
    ∙ ap (λ (o : Option Tree). elim o [ None ↦ page | Some t ↦ notes_page it left (number + 1) (tree_page it (place (Note number)) t page) ]) defined
    ∙ ap (λ (p : Page). notes_page it left (number + 1) p) (sym written)
