use Rattle.std.proofs.Common.{List, ℕ, ◌≤◌, false, length, refl, subst, sym, ap, ◌∙◌}
use Rattle.html_text.specs.Safe.{IsSafe}
use Rattle.markdown_nodes.specs.Tree.{Tree}
use Rattle.markdown_nodes.specs.View.{view}
use Rattle.markdown_html.specs.declared.html.RawHtml.{RawHtml}
use Rattle.markdown_html.specs.declared.html.RawHtml.TheVariants.{Omit, Escape}
use Rattle.markdown_html.specs.declared.source.Raw.{Raw}
use Rattle.markdown_html.specs.Html.{html, raw_of}
use Rattle.markdown_html.specs.Bounds.{bound}
use Rattle.markdown_html.proofs.Bounded.{html_bounded}
use Rattle.markdown_html.proofs.Safety.{html_safe}
use Rattle.markdown_html.proofs.html.to_html.Goals as goal

-- a page is safe, whatever becomes of raw HTML that does not pass
safely : (raw_html : RawHtml) (prefix : List ℕ) (tree : Tree) → IsSafe (record { id_prefix = prefix; any_url = false }) (html (record { raw = raw_of raw_html; id_prefix = prefix; tree = tree }))
safely Omit prefix tree = html_safe (record { raw = raw_of Omit; id_prefix = prefix; tree = tree }) refl
safely Escape prefix tree = html_safe (record { raw = raw_of Escape; id_prefix = prefix; tree = tree }) refl

pub returns-clause-safe : goal.returns-clause-safe
returns-clause-safe c =
    let prefix = c.args.options.now.id_prefix.now in
    let tree = view c.args.tree.now in
    subst (λ (text : List ℕ). IsSafe (record { id_prefix = prefix; any_url = false }) text)
    (sym (c.in_ok-text.ensures ∙ ap (λ (how : Raw). html (record { raw = how; id_prefix = prefix; tree = tree })) c.raw.ensures))
    (safely c.args.options.now.raw_html prefix tree)

pub returns-clause-bounded : goal.returns-clause-bounded
returns-clause-bounded c =
    let prefix = c.args.options.now.id_prefix.now in
    let tree = view c.args.tree.now in
    subst (λ (text : List ℕ). length text ≤ bound prefix tree) (sym c.in_ok-text.ensures) (html_bounded (record { raw = c.raw.result; id_prefix = prefix; tree = tree }))
