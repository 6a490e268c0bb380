use Rattle.std.proofs.Common.{◌≡◌, ◌≤◌, Bool, List, length, ℕ, false, true, ap, ◌∙◌, subst, sym}
use Rattle.html_text.specs.Safe.{IsSafe}
use Rattle.markdown_nodes.specs.Tree.{Tree}
use Rattle.markdown_nodes.specs.View.{view}
use Rattle.markdown_html.specs.declared.source.Raw.{Raw}
use Rattle.markdown_html.specs.Html.{html, is_free_tree, raw_passing}
use Rattle.markdown_html.specs.Bounds.{bound}
use Rattle.markdown_html.proofs.Bounded.{html_bounded}
use Rattle.markdown_html.proofs.Safety.{html_safe}
use Rattle.markdown_html.proofs.html.to_unsafe_html.Goals as goal

-- a page without raw HTML has our markup alone, with the filter and without
freely : (tag_filter : Bool) (prefix : List ℕ) (tree : Tree) → is_free_tree tree ≡ true → IsSafe (record { id_prefix = prefix; any_url = true }) (html (record { raw = raw_passing tag_filter; id_prefix = prefix; tree = tree }))
freely true prefix tree = html_safe (record { raw = raw_passing true; id_prefix = prefix; tree = tree })
freely false prefix tree = html_safe (record { raw = raw_passing false; id_prefix = prefix; tree = tree })

pub returns-clause-markup : goal.returns-clause-markup
returns-clause-markup c =
    λ free.
    let prefix = c.args.options.now.id_prefix.now in
    let tree = view c.args.tree.now in
    subst (λ (text : List ℕ). IsSafe (record { id_prefix = prefix; any_url = true }) text)
    (sym (c.in_ok-text.ensures ∙ ap (λ (how : Raw). html (record { raw = how; id_prefix = prefix; tree = tree })) c.passing.ensures))
    (freely c.args.options.now.tag_filter prefix tree free)

pub returns-clause-bounded : goal.returns-clause-bounded
returns-clause-bounded c =
    let prefix = c.args.options.now.id_prefix.now in
    let tree = view c.args.tree.now in
    subst (λ (text : List ℕ). length text ≤ bound prefix tree) (sym c.in_ok-text.ensures) (html_bounded (record { raw = c.passing.result; id_prefix = prefix; tree = tree }))
