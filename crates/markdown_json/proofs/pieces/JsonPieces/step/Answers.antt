use Rattle.std.proofs.Common.{◌≡◌, ◌++◌, [], ap, append_assoc, true, refl, sym, ◌∙◌, rules, string_bytes}
use Rattle.std.proofs.lemmas.Bool.{eqb-true}
use Rattle.std.proofs.lemmas.List.{nil_from_length}
use Rattle.markdown_json.proofs.Left.{Closes, closes-past, closes-up, joins, left-down, shorter, some_start}
use Rattle.markdown_json.specs.Counting.{counted_as}
use Rattle.markdown_json.specs.Json.{closing}
use Rattle.markdown_json.specs.Left.{left}
use Rattle.markdown_nodes.specs.Access.{label_of, nodes_in, position_of}
use Rattle.markdown_json.proofs.pieces.JsonPieces.step.Goals.{in-Some+in_ok-begin-in-Some+else-not-is_empty, in-None+in-Some-pop}
use Rattle.markdown_json.proofs.pieces.JsonPieces.step.Goals as goal

pub returns-then-not-is_empty : goal.returns-then-not-is_empty
returns-then-not-is_empty c =
    let it = c.self.inside in
    let before = sym c.self.view_is ∙ left-down (counted_as it.points) it.later it.level.now c.in-Some.rest.now c.child_nodes-children.result.now c.in-Some.node.now it.frames.items c.push.new.self.items _ c.in-Some.ensures.cases.0 c.child_nodes-children.ensures c.in_ok-push-in-Some.ensures.items refl refl in record {
      text = joins (string_bytes c.args.out.now) _ _ _ _ c.in_ok-begin-in-Some.ensures before;
      end = search rules;
      more = λ _. shorter _ _ _ (some_start it.later (label_of c.in-Some.node.now)) before;
    }

pub returns : goal.returns
returns c =
    let it = c.self.inside in
    let join = c.match-split_first in
    let done = string_bytes c.args.out.now in
    let end = closing (counted_as join.self-inside.points) (label_of join.frame.node.now) (position_of join.frame.node.now) in
    let after = left (counted_as join.self-inside.points) true join.frame.rest.now join.self-inside.frames.items in
    let closes : Closes (counted_as join.self-inside.points) done c.args.self.now (string_bytes join.out) join.frame join.self-inside.frames.items = elim c.match-split_first.branch [
      | in-Some+in_ok-begin-in-Some+else-not-is_empty w ↦
          let none : nodes_in w.in-Some.node.now ≡ [] = sym w.child_nodes-children.ensures ∙ nil_from_length _ (eqb-true _ 0 (sym w.is_empty.ensures ∙ w.if-not-is_empty.false)) in
          rw (w.out-is, w.frame-is, w.self-inside-is) (closes-past (counted_as it.points) done c.args.self.now _ it.later it.level.now (record { node = w.in-Some.node; rest = w.in-Some.rest }) it.frames.items (sym c.self.view_is) w.in-Some.ensures.cases.0 none w.in_ok-begin-in-Some.ensures)
      | in-None+in-Some-pop w ↦
          rw (w.out-is, w.frame-is, w.self-inside-is) (closes-up (counted_as it.points) done c.args.self.now _ it.later it.level.now _ it.frames.items _ (sym c.self.view_is) (nil_from_length _ w.in-None.ensures.cases) w.in-Some-pop.ensures.items refl)
    ] in record {
      text = ap (λ s. s ++ after) c.in_ok-push_closing.ensures ∙ append_assoc (string_bytes join.out) end after ∙ closes.0;
      end = search rules;
      more = λ _. closes.1;
    }
