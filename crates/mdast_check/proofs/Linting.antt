-- The warnings that were found, and those that are to come.
use Rattle.std.proofs.Common.{◌≡◌, ◌<◌, ℕ, Bool, true, false, List, [], ◌∷◌, ◌++◌, length, Option, None, Some, is_some, map, reverse, sym, ap, ◌∙◌, append-nil, append_assoc, arith}
use Rattle.std.specs.Prelude.{OnOk, Result, Ok, Err}
use Rattle.std.specs.Option.{option_to_list, unwrap_or}
use Rattle.std.proofs.lemmas.List.{length-map, length-reverse, map-append, reverse-append}
use Rattle.markdown_events.specs.declared.unist.Position.{Position}
use Rattle.markdown_nodes.specs.declared.mdast.Node.{Node}
use Rattle.markdown_nodes.specs.Access.{label_of, nodes_in, position_of}
use Rattle.markdown_nodes.specs.Tree.{Tree}
use Rattle.markdown_nodes.specs.View.{view, views}
use Rattle.markdown_nodes.proofs.Views.{view-is}
use Rattle.mdast_check.specs.Surroundings.{StandAround, asked_of, finding_in, findings_in}
use Rattle.markdown_nodes.specs.Walk.{walk}
use Rattle.mdast_check.specs.Warnings.{Around, Finding, Warned, around, findings, warned, warnings_after, warnings_at, warnings_of}
use Rattle.mdast_check.specs.declared.warnings.Problem.{Problem}
use Rattle.mdast_check.specs.declared.warnings.Warning.{Warning}
use Rattle.mdast_check.specs.declared.warnings.around.Surroundings.{Surroundings}
use Rattle.mdast_check.proofs.Reading.{has_text}
use Rattle.mdast_check.proofs.Surrounding.{asked-is}

-- what is known between two nodes: those before, the nearest first, and the warnings about them
pub record WarnedSoFar (tree : Tree) (it : Surroundings) (texts : List Bool) (found : List Warning) (coming : List Tree) : Type 0 where
  pub before : List Tree
  pub stand : StandAround it tree before
  pub read : reverse texts ≡ map has_text coming
  pub whole : map warned found ++ warnings_after tree before coming ≡ warnings_of tree

-- the answer for the next node stands at the end
pub some_left : (texts : List Bool) (coming after : List Tree) (node : Tree) (len : ℕ) → reverse texts ≡ map has_text coming → coming ≡ node ∷ after → len ≡ length texts → 0 < len
some_left texts coming after node len read next is =
    let counts : len ≡ length (node ∷ after) =
    is
    ∙ sym (length-reverse texts)
    ∙ ap (λ (l : List Bool). length l) read
    ∙ length-map coming has_text
    ∙ ap (λ (l : List Tree). length l) next in
    grind arith

pub next_read : (texts left : List Bool) (popped : Option Bool) (answer : Bool) (coming after : List Tree) (node : Tree) → reverse texts ≡ map has_text coming → coming ≡ node ∷ after → texts ≡ left ++ option_to_list popped → is_some popped ≡ true → answer ≡ unwrap_or popped false → (answer ≡ has_text node) × (reverse left ≡ map has_text after)
next_read texts left None answer coming after node read next is some says = cc
next_read texts left (Some last) answer coming after node read next is some says =
    let both : last ∷ reverse left ≡ has_text node ∷ map has_text after =
    sym (ap (λ (l : List Bool). reverse l) is ∙ reverse-append left (last ∷ []))
    ∙ read
    ∙ ap (λ (l : List Tree). map has_text l) next in
    (cc, cc)

-- the warnings about a node are added, first and second
pub adds : (it : Around) (node : Node) (old between new : List Warned) (position : Option Position) (first second : Option Problem) → findings_in (first, second) ≡ findings it (views (nodes_in node)) (label_of node) → position ≡ position_of node → between ≡ old ++ map (λ (finding : Finding). record { finding = finding; position = position }) (finding_in first) → new ≡ between ++ map (λ (finding : Finding). record { finding = finding; position = position }) (finding_in second) → new ≡ old ++ warnings_at it (view node)
adds it node old between new position first second says stands adds_first adds_second =
    let at : Finding → Warned = λ finding. record { finding = finding; position = position } in
    adds_second
    ∙ ap (λ (l : List Warned). l ++ map at (finding_in second)) adds_first
    ∙ append_assoc old (map at (finding_in first)) (map at (finding_in second))
    ∙ ap (λ (l : List Warned). old ++ l) (sym (map-append at (finding_in first) (finding_in second))
    ∙ ap (λ (l : List Finding). map at l) says
    ∙ ap (λ (p : Option Position). map (λ (finding : Finding). record { finding = finding; position = p }) (findings it (views (nodes_in node)) (label_of node))) stands
    ∙ sym (ap (warnings_at it) (view-is node)))

-- what follows where a call gives a value
pub on_ok : {T E P Q : Type 0} (result : Result T E) → (P → Q) → OnOk result P → OnOk result Q
on_ok (Ok value) follows holds = follows holds
on_ok (Err error) follows holds = holds

-- one node more
pub warns : (tree : Tree) (it passed : Surroundings) (texts left : List Bool) (found added : List Warning) (coming after : List Tree) (node : Tree) → WarnedSoFar tree it texts found coming → coming ≡ node ∷ after → reverse left ≡ map has_text after → map warned added ≡ map warned found ++ warnings_at (asked_of it) node → ((whole : Tree) (before : List Tree) → StandAround it whole before → StandAround passed whole (node ∷ before)) → WarnedSoFar tree passed left added after
warns tree it passed texts left found added coming after node so_far next read adds passes =
    let here = warnings_at (around tree so_far.before) node in
    let rest = warnings_after tree (node ∷ so_far.before) after in
    record {
      before = node ∷ so_far.before;
      stand = passes tree so_far.before so_far.stand;
      read = read;
      whole =
          ap (λ (l : List Warned). l ++ rest) (adds ∙ ap (λ (a : Around). map warned found ++ warnings_at a node) (asked-is it tree so_far.before so_far.stand))
          ∙ append_assoc (map warned found) here rest
          ∙ sym (ap (λ (l : List Tree). map warned found ++ warnings_after tree so_far.before l) next)
          ∙ so_far.whole;
    }
