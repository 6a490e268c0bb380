use Rattle.std.proofs.Common.{[], ◌++◌, codes, if◌then◌else◌, nat_cmp, refl, sym, ◌∙◌, rules, arith}
use Rattle.std.specs.BTreeSet.{contains}
use Rattle.std.proofs.Output.{has_written_append, has_written_of_eq}
use Rattle.std.proofs.lemmas.List.{nil_from_length}
use Rattle.markdown_nodes.specs.Access.{label_of}
use Rattle.markdown_nodes.specs.Shown.{opening}
use Rattle.markdown_nodes.proofs.Levels.{walks_down, walks_up}
use Rattle.markdown_nodes.proofs.Showing.{showing}
use Rattle.markdown_nodes.proofs.WritingLevels.{close_of, writes_all, writes_down, writes_first, writes_up, written-is}
use Rattle.markdown_nodes.proofs.mdast.debug.write_tree.Goals as goal

pub walk-init : goal.walk-init
walk-init g c = λ plain. (
  opening (label_of c.args.node.now),
  c.in_ok-begin.ensures plain (search rules),
  writes_first (showing (contains nat_cmp c.args.escapes.now)) _ _ _ c.args.node.now refl c.child_nodes-level.ensures c.new-frames.ensures.items,
)

pub walk-smaller-in-Some : goal.walk-smaller-in-Some
walk-smaller-in-Some g c = walks_down (λ x. x.rest.now) c.walk.level.now c.in-Some.rest.now c.child_nodes-level-in-Some.result.now c.in-Some.first.now c.walk.frames.items c.push.new.self.items _ c.in-Some.ensures.cases.0 c.child_nodes-level-in-Some.ensures c.in-Ok.ensures.items refl

pub walk-preserved-in-Some : goal.walk-preserved-in-Some
walk-preserved-in-Some g c = λ plain.
    let so_far = c.walk.invariant plain in
    let lead = if c.walk.later then codes ", " else [] in (
      so_far.0 ++ (lead ++ opening (label_of c.in-Some.first.now)),
      has_written_append _ _ _ _ _ _ so_far.1 (c.in_ok-begin-2.ensures so_far.1.plain (search rules)),
      writes_down (showing (contains nat_cmp c.args.escapes.now)) so_far.0 lead _ c.walk.level.now c.in-Some.rest.now _ c.walk.parent.now c.in-Some.first.now c.walk.frames.items _ _ c.args.node.now so_far.2 c.in-Some.ensures.cases.0 c.child_nodes-level-in-Some.ensures c.in-Ok.ensures.items refl refl refl,
    )

pub walk-smaller : goal.walk-smaller
walk-smaller g c = walks_up (λ x. x.rest.now) c.walk.level.now _ c.walk.frames.items c.pop.new.self.items c.in-Some-pop.frame c.in-Some-pop.ensures.items refl

pub walk-preserved : goal.walk-preserved
walk-preserved g c = λ plain.
    let walk = showing (contains nat_cmp c.args.escapes.now) in
    let so_far = c.walk.invariant plain in (
      so_far.0 ++ close_of walk c.walk.parent.now,
      has_written_append _ _ _ _ _ _ so_far.1 (c.in_ok-close.ensures so_far.1.plain (search rules)),
      writes_up walk so_far.0 (if c.walk.later then codes ", " else []) _ c.walk.level.now c.walk.parent.now c.walk.frames.items _ c.in-Some-pop.frame c.args.node.now so_far.2 (nil_from_length _ c.in_default.ensures.cases) c.in-Some-pop.ensures.items refl,
    )

pub returns-in_default-pop : goal.returns-in_default-pop
returns-in_default-pop g c = λ plain ok.
    let walk = showing (contains nat_cmp c.args.escapes.now) in
    let so_far = c.walk.invariant plain in
    has_written_of_eq _ _ _ _ _
    (writes_all walk so_far.0 (if c.walk.later then codes ", " else []) _ c.walk.level.now c.walk.parent.now c.walk.frames.items c.args.node.now so_far.2 (nil_from_length _ c.in_default.ensures.cases) (nil_from_length _ (sym c.walk.frames.ok.0 ∙ c.in_default-pop.ensures.cases.0)) refl
    ∙ sym (written-is walk c.args.node.now))
    (has_written_append _ _ _ _ _ _ so_far.1 (c.in_ok-close.ensures so_far.1.plain (search rules)))
