use Rattle.std.proofs.Common.{◌≡◌, ◌≤◌, ◌++◌, ◌∷◌, arith, length, ap, subst, sym, ◌∙◌}
use Rattle.markdown_attention.specs.Costs.{reach}
use Rattle.markdown_attention.specs.Emphasis.{kept, opened}
use Rattle.markdown_attention.proofs.Costs.{class_below, kept_length, reach_lowered, reach_raised}
use Rattle.std.specs.Prelude.{slice_index}
use Rattle.markdown_attention.specs.Openers.{class_of}
use Rattle.markdown_attention.specs.Emphasis.{strength}
use Rattle.markdown_attention.specs.Openers.{AreOpeners, IsPaired, IsSound}
use Rattle.markdown_attention.specs.Runs.{view, views}
use Rattle.markdown_attention.proofs.Stack.{nearest_take, opener_left, sound_lowered, sound_raised, views_length}
use Rattle.markdown_attention.proofs.openers.Openers.close_nearest.Goals as goal

-- the pair that is made
pair_of : (c : goal.After-pair) → IsPaired c.in-Some.ensures.some.before c.in-Some.ensures.some.opener (view c.args.closer.now) (views c.pair.new.self.stack.items) (view c.pair.new.closer) c.args.delimiters.now.items c.pair.new.delimiters.items
pair_of c =
    let near = c.in-Some.ensures.some in
    c.pair.ensures.paired near.before near.opener
    (ap views c.truncate.ensures.items ∙ nearest_take c.args.self.now.stack.items near.before near.opener near.after c.in-Some.height near.runs_are near.height_is)
    (opener_left near.before near.opener near.after (subst AreOpeners near.runs_are c.requires.sound.openers)) c.requires.closer.some

pub returns-in_default-clause-sound : goal.returns-in_default-clause-sound
returns-in_default-clause-sound c =
    subst (λ runs. IsSound c.raise_bottom.new.self.bottoms (views runs)) (sym (ap (λ stack. stack.items) c.raise_bottom.ensures.stack))
    (sound_raised c.args.self.now.bottoms c.raise_bottom.new.self.bottoms (views c.args.self.now.stack.items) (view c.args.closer.now) (length c.args.self.now.stack.items)
    (sym (views_length c.args.self.now.stack.items)) c.requires.closer c.in_default.ensures.none c.raise_bottom.ensures.here c.raise_bottom.ensures.others c.requires.sound)

pub returns-clause-sound : goal.returns-clause-sound
returns-clause-sound c =
    let near = c.in-Some.ensures.some in
    let are = (pair_of c).runs_are in
    subst (IsSound c.pair.new.self.bottoms) (sym are)
    (sound_lowered c.args.self.now.bottoms c.pair.new.self.bottoms near.before (strength near.opener (view c.args.closer.now)) near.opener near.after _ (sym (views_length c.pair.new.self.stack.items) ∙ ap length are) c.pair.ensures.bottoms
    (subst (IsSound c.args.self.now.bottoms) near.runs_are c.requires.sound))

pub returns-clause-paired : goal.returns-clause-paired
returns-clause-paired c =
    λ _.
    let near = c.in-Some.ensures.some in
    record { before = near.before; opener = near.opener; after = near.after; runs_are = near.runs_are; fit = near.fit; none = near.none; paired = pair_of c }

pub returns-in_default-clause-linear_none : goal.returns-in_default-clause-linear_none
returns-in_default-clause-linear_none c =
    λ _.
    let stack = c.args.self.now.stack.items in
    let class = class_of (view c.args.closer.now) in
    let raised = reach_raised c.args.self.now.bottoms c.raise_bottom.new.self.bottoms (length stack) class (class_below (view c.args.closer.now)) c.raise_bottom.ensures.here c.raise_bottom.ensures.others in
    let within : slice_index c.args.self.now.bottoms class ≤ length stack = subst (λ n. slice_index c.args.self.now.bottoms class ≤ n) (views_length stack) (c.requires.sound.within class) in
    let same : length c.raise_bottom.new.self.stack.items ≡ length stack = ap (λ s. length s.items) c.raise_bottom.ensures.stack in
    omega (arith, raised, within, c.in_default.ensures.steps_none, ap (reach c.raise_bottom.new.self.bottoms) same)

pub returns-clause-linear : goal.returns-clause-linear
returns-clause-linear c =
    λ _.
    let near = c.in-Some.ensures.some in
    let stack = c.args.self.now.stack.items in
    let class = class_of (view c.args.closer.now) in
    let m = length c.pair.new.self.stack.items in
    let size : m ≡ length (near.before ++ kept (opened (strength near.opener (view c.args.closer.now)) near.opener)) = sym (views_length c.pair.new.self.stack.items) ∙ ap length (pair_of c).runs_are in
    let whole : length stack ≡ length (near.before ++ (near.opener ∷ near.after)) = sym (views_length stack) ∙ ap length near.runs_are in
    let lengths = kept_length near.before near.opener near.after (strength near.opener (view c.args.closer.now)) in
    let below : slice_index c.args.self.now.bottoms class ≤ length near.before = omega (arith, c.in-Some.ensures.steps_some.1, near.height_is) in
    let low : slice_index c.args.self.now.bottoms class ≤ m = omega (arith, below, size, lengths.0) in
    let le : m ≤ length stack = omega (arith, size, whole, lengths.1.0, lengths.1.1) in
    let lowered = reach_lowered c.args.self.now.bottoms c.pair.new.self.bottoms (length stack) m class (class_below (view c.args.closer.now)) le low c.pair.ensures.bottoms in
    omega (arith, lowered, c.pair.ensures.steps, c.in-Some.ensures.steps_some.0, near.height_is, size, lengths.1.0, le)
