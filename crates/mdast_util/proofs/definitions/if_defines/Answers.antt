use Rattle.std.proofs.Common.{◌≡◌, ℕ, List, None, sym, ap, ◌∙◌, arith}
use Rattle.std.specs.Str.{bytes_eq}
use Rattle.std.proofs.lemmas.Grind.{common_steps}
use Rattle.markdown_nodes.specs.Access.{label_of}
use Rattle.mdast_check.specs.References.{definition_identifier_of}
use Rattle.mdast_util.proofs.Defining.{defines_another, defines_it, is_no_definition}
use Rattle.mdast_util.proofs.definitions.if_defines.Goals as goal

pub returns-in_default : goal.returns-in_default
returns-in_default c =
    let none : definition_identifier_of (label_of c.args.node.now) ≡ None = grind (arith, common_steps) in
    is_no_definition c.args.node.now c.args.identifier.now none

pub returns-then-eq : goal.returns-then-eq
returns-then-eq c =
    let test = ap (λ (text : List ℕ). bytes_eq text c.args.identifier.now) (sym c.as_str.ensures.value) ∙ sym c.eq.ensures ∙ c.if-eq.true in
    defines_it c.args.node.now c.in-Definition.definition c.args.identifier.now c.in-Definition.is test

pub returns-else-eq : goal.returns-else-eq
returns-else-eq c =
    let test = ap (λ (text : List ℕ). bytes_eq text c.args.identifier.now) (sym c.as_str.ensures.value) ∙ sym c.eq.ensures ∙ c.if-eq.false in
    defines_another c.args.node.now c.in-Definition.definition c.args.identifier.now c.in-Definition.is test
