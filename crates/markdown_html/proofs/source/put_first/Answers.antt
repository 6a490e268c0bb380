use Rattle.std.proofs.Common.{◌≡◌, ℕ, List, Option, None, Bor, refl, sym, ap, ◌∙◌}
use Rattle.std.specs.Prelude.{option_map}
use Rattle.std.specs.Str.{bytes_eq}
use Rattle.std.proofs.lemmas.Slice.Eq.{bytes_eq-Decides}
use Rattle.markdown_nodes.specs.declared.mdast.Node.{Node}
use Rattle.markdown_nodes.specs.View.{view}
use Rattle.markdown_html.specs.Gathered.{found, held, with_first}
use Rattle.markdown_html.proofs.Maps.{first_cases, held-insert, held-none}
use Rattle.markdown_html.proofs.source.put_first.Goals as goal

pub returns-in_ok-insert : goal.returns-in_ok-insert
returns-in_ok-insert c = λ other.
    let key = c.in-Some.identifier in
    let was = held c.args.map.now other in
    let empty : held c.args.map.now key.now ≡ None = held-none c.args.map.now key.now (sym c.contains_key.ensures ∙ c.if-not-contains_key.true) in
    ap (λ (o : Option (Bor Node)). option_map (λ (n : Bor Node). view n.now) o) (held-insert key c.args.node c.args.map.now c.insert.new.self c.in_ok-insert.ensures.updates other)
    ∙ first_cases (bytes_eq key.now other) other key c.args.node was refl (λ same. ap (λ (t : List ℕ). held c.args.map.now t) (sym ((bytes_eq-Decides key.now other).0 same)) ∙ empty)
    ∙ ap (λ (o : Option (Bor (List ℕ))). with_first o (view c.args.node.now) other (found c.args.map.now other)) (sym c.in-Some.is)
