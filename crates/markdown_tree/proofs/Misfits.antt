-- The first test of a container that an item does not pass.
use Rattle.std.proofs.Common.{◌≡◌, Bool, true, false, ◌||◌, ◌&&◌, not, is_some, List, [], ◌∷◌, Option, None, Some, refl, sym, ap, ◌∙◌, cond}
use Rattle.std.specs.Option.{option_or}
use Rattle.markdown_events.specs.declared.role.ItemKind.{ItemKind}
use Rattle.markdown_containers.specs.declared.container.Container.{Container}
use Rattle.markdown_grammar.specs.declared.error_kind.ErrorKind.{ErrorKind}
use Rattle.markdown_steps.specs.Compiler.{allows, enter_checks, fresh, rule_checks}
use Rattle.markdown_grammar.specs.Refusals.{rule_error}
use Rattle.markdown_grammar.specs.Grammar.{rules}
use Rattle.markdown_grammar.specs.Grammar.{ContentModel, leaf}
use Rattle.markdown_containers.specs.Containers.{misfit_of, part_of, initial_model_of}
use Rattle.markdown_parts.specs.PartsSoFar.{empty_but, first_failing}
use Rattle.markdown_grammar.specs.Items.{is_frontmatter, is_line_ending, is_table}
use Rattle.markdown_events.specs.declared.event.Point.{Point}
use Rattle.markdown_tree.specs.declared.context.Context.{Context}
use Rattle.markdown_grammar.specs.declared.error_kind.ErrorKind.TheVariants.{InvalidSlice, Misplaced, UnfinishedBreak}
use Rattle.markdown_grammar.specs.Document.{byte_at}
use Rattle.markdown_grammar.specs.Document.{Source}
use Rattle.markdown_parts.specs.Nest.{innermost}
use Rattle.markdown_tree.specs.States.{kept_top, leaf_place, top_of}
use Rattle.markdown_steps.specs.Summaries.{Summary}
use Rattle.markdown_steps.specs.Checks.{passes}
use Rattle.markdown_grammar.specs.Grammar.{Rule}

-- the tests after those of the rules come after them, and a rule looks at nothing but the parts
or_after : (b : Bool) (why : ErrorKind) (x y z : Option ErrorKind) → x ≡ option_or y z → cond b x (Some why) ≡ option_or (cond b y (Some why)) z
or_after true why x y z h = h
or_after false why x y z h = refl

rules_first : (h : ContentModel) (rs : List Rule) (i : Summary) (what : ItemKind) (others : List (Bool × ErrorKind))
    → first_failing (rule_checks h rs i what others) ≡ option_or (first_failing (rule_checks h rs (empty_but i.part) what [])) (first_failing others)
rules_first h [] i what others = refl
rules_first h (rule ∷ rs) i what others =
    or_after (allows rule i what) (rule_error h rule) (first_failing (rule_checks h rs i what others)) (first_failing (rule_checks h rs (empty_but i.part) what [])) (first_failing others)
    (rules_first h rs i what others)

-- the first misfit of a container, and else the first test after it
pub misfit_first : (h : Container) (i : Summary) (what : ItemKind) (others : List (Bool × ErrorKind)) → i.part ≡ part_of h
    → first_failing (rule_checks (initial_model_of h) (rules (initial_model_of h)) i what others) ≡ option_or (misfit_of h what) (first_failing others)
misfit_first h i what others same =
    rules_first (initial_model_of h) (rules (initial_model_of h)) i what others
    ∙ ap (λ k. option_or (first_failing (rule_checks (initial_model_of h) (rules (initial_model_of h)) (empty_but k) what [])) (first_failing others)) same

-- where all tests pass, none fails first
pub none_fails : (tests : List (Bool × ErrorKind)) → passes tests ≡ true → first_failing tests ≡ None
none_fails [] h = refl
none_fails (test ∷ tests) h = by-test test.0 (passes tests) (first_failing tests) (Some test.1) h (none_fails tests)
  where
    by-test : (b c : Bool) (x y : Option ErrorKind) → (b && c) ≡ true → (c ≡ true → x ≡ None) → cond b x y ≡ None
    by-test true c x y h below = below h
    by-test false c x y h below = let z : ⊥ = cc in absurd z

-- no first misfit where a first test is none
pub left_none : (x y : Option ErrorKind) → option_or x y ≡ None → x ≡ None
left_none None y h = refl
left_none (Some w) y h = let z : ⊥ = cc in absurd z

-- what does not fail, passes
not_not : (b : Bool) → b ≡ not (not b)
not_not true = refl
not_not false = refl

-- the tests of an item after those of its container
abbrev pub checks_after : Source → Bool → ItemKind → Point → List (Bool × ErrorKind)
checks_after s in_table what point = (not (in_table && is_table what), Misplaced) ∷ (not (is_frontmatter what) || is_some (byte_at s.bytes point), InvalidSlice) ∷ []

-- in a leaf nothing may stand
pub misfit_of_leaf : (s : Source) (c : Context) (what : ItemKind) (point : Point) → c.is_leaf ≡ true → Some Misplaced ≡ first_failing (enter_checks s (top_of c) what point)
misfit_of_leaf s c what point is_leaf = λ t. first_failing (enter_checks s (cond (sym is_leaf t) (fresh leaf (leaf_place c.in_table)) (kept_top c)) what point)

-- a break that is cut off comes first, then the container, and then what is around it
abbrev unless_cut : Source → Context → ItemKind → Point → Bool → Option ErrorKind
unless_cut s c what point cut = cond (not cut) (option_or (misfit_of (innermost c.containers).container what) (first_failing (checks_after s c.in_table what point))) (Some UnfinishedBreak)

-- where no leaf is open, that is the first test that fails
without_leaf : (s : Source) (c : Context) (what : ItemKind) (point : Point) (cut : Bool) → c.is_leaf ≡ false → cut ≡ not (not (is_some c.pending) || is_line_ending what)
    → first_failing (enter_checks s (top_of c) what point) ≡ unless_cut s c what point cut
without_leaf s c what point cut no_leaf is_cut =
    (λ t. first_failing (enter_checks s (cond (no_leaf t) (fresh leaf (leaf_place c.in_table)) (kept_top c)) what point))
    ∙ ap (λ (o : Option ErrorKind). cond (not (is_some c.pending) || is_line_ending what) o (Some UnfinishedBreak)) (misfit_first (innermost c.containers).container (kept_top c).inner what (checks_after s c.in_table what point) refl)
    ∙ ap (λ (b : Bool). cond b (option_or (misfit_of (innermost c.containers).container what) (first_failing (checks_after s c.in_table what point))) (Some UnfinishedBreak)) (not_not _ ∙ ap not (sym is_cut))

-- a break that is cut off comes first
pub misfit_of_break : (s : Source) (c : Context) (what : ItemKind) (point : Point) (cut : Bool)
    → c.is_leaf ≡ false → cut ≡ not (not (is_some c.pending) || is_line_ending what) → cut ≡ true → Some UnfinishedBreak ≡ first_failing (enter_checks s (top_of c) what point)
misfit_of_break s c what point cut no_leaf is_cut cuts =
    sym (without_leaf s c what point cut no_leaf is_cut ∙ ap (unless_cut s c what point) cuts)

-- else what the container says comes, and then the tests after it
pub misfit_of_context : (s : Source) (c : Context) (what : ItemKind) (point : Point) (cut : Bool) (found : Option ErrorKind)
    → c.is_leaf ≡ false → cut ≡ not (not (is_some c.pending) || is_line_ending what) → cut ≡ false → found ≡ misfit_of (innermost c.containers).container what
    → option_or found (first_failing (checks_after s c.in_table what point)) ≡ first_failing (enter_checks s (top_of c) what point)
misfit_of_context s c what point cut found no_leaf is_cut uncut same =
    ap (λ (o : Option ErrorKind). option_or o (first_failing (checks_after s c.in_table what point))) same
    ∙ sym (without_leaf s c what point cut no_leaf is_cut ∙ ap (unless_cut s c what point) uncut)

-- whether a span is frontmatter, and no byte of the document stands where it begins
abbrev pub lacks_first_byte : Source → ItemKind → Point → Bool
lacks_first_byte s what point = is_frontmatter what && not (is_some (byte_at s.bytes point))

-- what the last two tests come to
abbrev pub last_misfit : Bool → Bool → Option ErrorKind
last_misfit nests lacks = cond (not nests) (cond (not lacks) None (Some InvalidSlice)) (Some Misplaced)

one_or_other : (b c : Bool) → (not b || c) ≡ not (b && not c)
one_or_other true c = not_not c
one_or_other false c = refl

-- where the container says nothing, they decide
pub misfit_of_rest : (s : Source) (c : Context) (what : ItemKind) (point : Point) (cut nests lacks : Bool)
    → c.is_leaf ≡ false → cut ≡ not (not (is_some c.pending) || is_line_ending what) → cut ≡ false → None ≡ misfit_of (innermost c.containers).container what
    → nests ≡ (c.in_table && is_table what) → lacks ≡ lacks_first_byte s what point
    → last_misfit nests lacks ≡ first_failing (enter_checks s (top_of c) what point)
misfit_of_rest s c what point cut nests lacks no_leaf is_cut uncut fits does_nest does_lack =
    (λ t. last_misfit (does_nest t) (does_lack t))
    ∙ ap (λ (b : Bool). cond (not (c.in_table && is_table what)) (cond b None (Some InvalidSlice)) (Some Misplaced)) (sym (one_or_other (is_frontmatter what) (is_some (byte_at s.bytes point))))
    ∙ misfit_of_context s c what point cut None no_leaf is_cut uncut fits
