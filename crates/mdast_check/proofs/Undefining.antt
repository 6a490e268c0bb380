-- The references that warnings call undefined are those that are open.
use Rattle.std.proofs.Common.{◌≡◌, ◌+◌, nat_lt, ℕ, Bool, true, false, not, cond, if◌then◌else◌, List, [], ◌∷◌, ◌++◌, Option, None, Some, map, refl, ap, ◌∙◌}
use Rattle.std.specs.Prelude.{option_map}
use Rattle.std.specs.List.{cons_option, filter_map}
use Rattle.std.proofs.lemmas.List.Elements.{filter_map-append}
use Rattle.markdown_events.specs.declared.unist.Position.{Position}
use Rattle.markdown_nodes.specs.Tree.{Label, Tree, Trees, definition, footnote_definition, footnote_reference, heading, image, image_reference, link, link_reference}
use Rattle.mdast_check.specs.Asking.{open_node, unless}
use Rattle.mdast_check.specs.References.{Reference, open_in, refers_to}
use Rattle.mdast_check.specs.Undefined.{undefined_in, undefined_of}
use Rattle.markdown_nodes.specs.Walk.{walk}
use Rattle.mdast_check.specs.Warnings.{Around, Finding, around, definition_duplicate, definition_unused, findings, footnote_unused, have_text, heading_jump, image_without_alt, is_empty, jump_from, link_without_address, link_without_text, reference_undefined, warnings_after, warnings_at, warnings_of, when}
use Rattle.mdast_check.specs.declared.references.OpenKind.{OpenKind}
use Rattle.mdast_check.specs.declared.references.OpenKind.TheVariants.{Link, Image, Footnote}
use Rattle.mdast_check.proofs.Asking.{all_asked}

module _ (position : Option Position) where
  -- what is undefined among findings at a position
  abbrev undefined_among : List Finding → List Reference
  undefined_among found = filter_map undefined_in (map (λ (finding : Finding). record { finding = finding; position = position }) found)

  abbrev at : OpenKind → List ℕ → Reference
  at kind identifier = record { kind = kind; identifier = identifier; position = position }

  -- an undefined reference, and perhaps something else
  defined_or : (is_defined other : Bool) (kind : OpenKind) (identifier : List ℕ) (finding : Finding) → undefined_of finding ≡ None → undefined_among (when (not is_defined) (reference_undefined kind identifier) ++ when other finding) ≡ cons_option (cond is_defined None (Some (at kind identifier))) []
  defined_or true true kind identifier finding none = ap (λ (o : Option (OpenKind × List ℕ)). cons_option (option_map (λ (to : OpenKind × List ℕ). at to.0 to.1) o) []) none
  defined_or true false kind identifier finding none = refl
  defined_or false true kind identifier finding none = ap (λ (o : Option (OpenKind × List ℕ)). at kind identifier ∷ cons_option (option_map (λ (to : OpenKind × List ℕ). at to.0 to.1) o) []) none
  defined_or false false kind identifier finding none = refl

  defined : (is_defined : Bool) (kind : OpenKind) (identifier : List ℕ) → undefined_among (when (not is_defined) (reference_undefined kind identifier)) ≡ cons_option (cond is_defined None (Some (at kind identifier))) []
  defined true kind identifier = refl
  defined false kind identifier = refl

  -- other things are no undefined references
  two_others : (one other : Bool) (first second : Finding) → undefined_of first ≡ None → undefined_of second ≡ None → undefined_among (when one first ++ when other second) ≡ []
  two_others true true first second none nothing = λ i. cons_option (option_map (λ (to : OpenKind × List ℕ). at to.0 to.1) (none i)) (cons_option (option_map (λ (to : OpenKind × List ℕ). at to.0 to.1) (nothing i)) [])
  two_others true false first second none nothing = λ i. cons_option (option_map (λ (to : OpenKind × List ℕ). at to.0 to.1) (none i)) []
  two_others false true first second none nothing = λ i. cons_option (option_map (λ (to : OpenKind × List ℕ). at to.0 to.1) (nothing i)) []
  two_others false false first second none nothing = refl

  one_other : (one : Bool) (finding : Finding) → undefined_of finding ≡ None → undefined_among (when one finding) ≡ []
  one_other true finding none = λ i. cons_option (option_map (λ (to : OpenKind × List ℕ). at to.0 to.1) (none i)) []
  one_other false finding none = refl

  jumps : (before : Option ℕ) (depth : ℕ) → undefined_among (jump_from before depth) ≡ []
  jumps None depth = refl
  jumps (Some before) depth = one_other (nat_lt (before + 1) depth) (heading_jump before depth) refl

  empties : (without_address without_text : Bool) → undefined_among (if without_address then link_without_address ∷ [] else when without_text link_without_text) ≡ []
  empties true without_text = refl
  empties false true = refl
  empties false false = refl

  by_label : (it : Around) (children : Trees) (label : Label) → undefined_among (findings it children label) ≡ cons_option (unless it.defined (option_map (λ (to : OpenKind × List ℕ). at to.0 to.1) (refers_to label))) []
  by_label it children (heading depth) = jumps it.depth depth
  by_label it children (link_reference _ identifier _) = defined_or (it.defined Link identifier) (not (have_text children)) Link identifier link_without_text refl
  by_label it children (image_reference alt _ identifier _) = defined_or (it.defined Image identifier) (is_empty alt) Image identifier image_without_alt refl
  by_label it children (footnote_reference identifier _) = defined (it.defined Footnote identifier) Footnote identifier
  by_label it children (definition _ _ identifier _) = two_others (not (it.used Link identifier)) (it.before Link identifier) (definition_unused identifier) (definition_duplicate identifier) refl refl
  by_label it children (footnote_definition identifier _) = two_others (not (it.used Footnote identifier)) (it.before Footnote identifier) (footnote_unused identifier) (definition_duplicate identifier) refl refl
  by_label it children (link url _) = empties (is_empty url) (not (have_text children))
  by_label it children (image alt _ _) = one_other (is_empty alt) image_without_alt refl
  by_label it children _ = refl

-- the warnings about one node, and those about the nodes after others
once : {X : Type 0} (o : Option X) (rest : List X) → cons_option o [] ++ rest ≡ cons_option o rest
once None rest = refl
once (Some x) rest = refl

after : (tree : Tree) (before nodes : List Tree) → filter_map undefined_in (warnings_after tree before nodes) ≡ filter_map (open_node (around tree []).defined) nodes
after tree before [] = refl
after tree before (node ∷ nodes) =
    let it = around tree before in
    let rest = filter_map (open_node (around tree []).defined) nodes in
    filter_map-append undefined_in (warnings_at it node) (warnings_after tree (node ∷ before) nodes)
    ∙ (λ i. by_label node.position it node.children node.label i ++ after tree (node ∷ before) nodes i)
    ∙ once (open_node it.defined node) rest

pub undefined-open : (tree : Tree) → filter_map undefined_in (warnings_of tree) ≡ open_in tree
undefined-open tree = after tree [] (walk tree) ∙ all_asked (around tree []).defined tree (walk tree) (λ kind text. refl)
