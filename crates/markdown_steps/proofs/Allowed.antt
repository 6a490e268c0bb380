-- One more item is taken exactly where what a container keeps allows it.
use Rattle.std.proofs.Common.{◌≡◌, Bool, true, false, cond, ◌&&◌, ◌||◌, List, [], ◌∷◌, ◌++◌, Option, Some, None, refl, sym, ◌∙◌, ap}
use Rattle.std.specs.Prelude.{is_some, option_map}
use Rattle.std.specs.List.{list_all}
use Rattle.markdown_events.specs.Forest.{Forest}
use Rattle.markdown_events.specs.declared.event.Point.{Point}
use Rattle.markdown_events.specs.declared.role.ItemKind.{ItemKind}
use Rattle.markdown_events.specs.declared.role.Part.{Part}
use Rattle.markdown_steps.proofs.SummaryLaws.{inner_at}
use Rattle.markdown_steps.proofs.ItemLists.{kinds-then}
use Rattle.markdown_steps.proofs.RuleLists.{keeps-snoc, lets}
use Rattle.markdown_steps.specs.Compiler.{all_stood, allows, allows_after, has_one_of, has_stood, part_with}
use Rattle.markdown_grammar.specs.Grammar.{has_part, has_required, rules, conforms}
use Rattle.markdown_grammar.specs.Grammar.{ContentModel, character_reference, code_fenced, heading_atx, heading_setext, list_ordered, math_flow}
use Rattle.markdown_grammar.specs.Items.{Items, item, kinds, none, same_part, ◌then◌}
use Rattle.markdown_grammar.specs.Items.{is_one_of, is_part}
use Rattle.markdown_steps.specs.SummaryNodes.{nodes}
use Rattle.markdown_steps.specs.Summaries.{Summary, FoundPart, PartSummary, PartPath, first_part, kept_at, kept_from, path_to}
use Rattle.markdown_grammar.specs.Attributes.{Place, inherited_after}
use Rattle.markdown_grammar.specs.Grammar.{Rule, any_item, keeps}
use Rattle.markdown_grammar.specs.Document.{Source}
use Rattle.markdown_events.specs.declared.role.Part.TheVariants as parts
use Rattle.markdown_events.specs.declared.role.ItemKind.TheVariants.{Content as content, Part as part}

-- ---- What is kept says whether a part has stood

any-or : (f g : ItemKind → Bool) (xs : List ItemKind) → any_item (λ w. f w || g w) xs ≡ (any_item f xs || any_item g xs)
any-or f g [] = refl
any-or f g (x ∷ xs) =
    elim (f x) as (λ b. ((b || g x) || any_item (λ w. f w || g w) xs) ≡ ((b || any_item f xs) || (g x || any_item g xs))) [
      | true ↦ refl
      | false ↦ elim (g x) as (λ b. (b || any_item (λ w. f w || g w) xs) ≡ (any_item f xs || (b || any_item g xs))) [ true ↦ sym (or-true (any_item f xs)) | false ↦ any-or f g xs ]
    ]
  where
    or-true : (b : Bool) → (b || true) ≡ true
    or-true true = refl
    or-true false = refl

any-of-none : (xs : List ItemKind) → any_item (is_one_of []) xs ≡ false
any-of-none [] = refl
any-of-none (x ∷ xs) = any-of-none xs

any-first : (q : Part) (p : Place) (xs : Items) → any_item (is_part q) (kinds xs) ≡ is_some (first_part q p xs)
any-first q p none = refl
any-first q p (item (content c) a b d i rest) = any-first q (inherited_after (content c) p) rest
any-first q p (item (part r) a b d i rest) =
    elim (same_part q r) as (λ t. (t || any_item (is_part q) (kinds rest)) ≡ is_some (cond {A = Option FoundPart} t (Some (record { start = a; end = b; place = p; inner = i })) (first_part q (inherited_after (part r) p) rest))) [
      | true ↦ refl
      | false ↦ any-first q (inherited_after (part r) p) rest
    ]

is_some-map : {A B : Type 0} (f : A → B) (o : Option A) → is_some (option_map f o) ≡ is_some o
is_some-map f None = refl
is_some-map f (Some x) = refl

-- a part stands among the items exactly where it is kept
pub stood-is : (q : Part) (s : Source) (p : Place) (xs : Items) → has_stood q (inner_at s p xs) ≡ has_part q xs
stood-is q s p xs = is_some-map (λ (x : FoundPart). kept_at s (path_to q) x (nodes s (path_to q) p xs)) (first_part q p xs) ∙ sym (any-first q p xs)

-- after one more item, a part has stood if it had, or if it is that item
picked : (old kept : Option PartSummary) (same : Bool) (x : PartSummary) → is_some kept ≡ is_some old → is_some (elim old [ Some k ↦ kept | None ↦ cond same (Some x) None ]) ≡ (is_some old || same)
picked None kept true x h = refl
picked None kept false x h = refl
picked (Some k) kept same x h = h

pub stood-with : (s : Source) (p : Place) (q : Part) (what : ItemKind) (a b : Point) (i : Summary) (old : PartPath → Option PartSummary) → is_some (part_with s p what a b i old (path_to q)) ≡ (is_some (old (path_to q)) || is_part q what)
stood-with s p q what a b i old = picked (old (path_to q)) (old (path_to q)) (is_part q what) (kept_from s p q a b i.nodes) refl

-- and what must stand does
pub complete-is : (h : ContentModel) (s : Source) (p : Place) (xs : Items) → all_stood h (inner_at s p xs) ≡ has_required s h xs
complete-is character_reference s p xs = stood-is parts.CharacterReferenceValue s p xs
complete-is heading_atx s p xs = stood-is parts.HeadingAtxSequence s p xs
complete-is heading_setext s p xs = stood-is parts.HeadingSetextUnderlineSequence s p xs
complete-is code_fenced s p xs = stood-is parts.CodeFencedFence s p xs
complete-is math_flow s p xs = stood-is parts.MathFlowFence s p xs
complete-is list_ordered s p xs = refl
complete-is h s p xs = refl

any-has : (ps : List Part) (s : Source) (p : Place) (xs : Items) → any_item (is_one_of ps) (kinds xs) ≡ has_one_of ps (inner_at s p xs)
any-has [] s p xs = any-of-none (kinds xs)
any-has (q ∷ ps) s p xs =
    any-or (is_part q) (is_one_of ps) (kinds xs)
    ∙ (λ t. sym (stood-is q s p xs) t || any-has ps s p xs t)

pub lets-is : (r : Rule) (s : Source) (p : Place) (xs : Items) (what : ItemKind) → lets r (kinds xs) what ≡ allows r (inner_at s p xs) what
lets-is r s p xs what = λ t. allows_after (λ ps. any-has ps s p xs t) r what

-- ---- All rules of a container

-- all rules allow one more item
abbrev pub all_allow : List Rule → Summary → ItemKind → Bool
all_allow rs i what = list_all (λ r. allows r i what) rs

kinds-snoc : (xs : Items) (what : ItemKind) (a b : Point) (d : Forest) (i : Items) → kinds (xs then item what a b d i none) ≡ kinds xs ++ what ∷ []
kinds-snoc xs what a b d i = kinds-then xs (item what a b d i none)

and-swap : (a b c d : Bool) → ((a && b) && (c && d)) ≡ ((a && c) && (b && d))
and-swap false b c d = refl
and-swap true true c d = refl
and-swap true false true d = refl
and-swap true false false d = refl

all-snoc : (rs : List Rule) (s : Source) (p : Place) (xs : Items) (what : ItemKind)
    → list_all (λ r. keeps r (kinds xs ++ what ∷ [])) rs ≡ (list_all (λ r. keeps r (kinds xs)) rs && all_allow rs (inner_at s p xs) what)
all-snoc [] s p xs what = refl
all-snoc (r ∷ rs) s p xs what =
    (λ t. (keeps-snoc r (kinds xs) what ∙ ap (λ b. keeps r (kinds xs) && b) (lets-is r s p xs what)) t && all-snoc rs s p xs what t)
    ∙ and-swap (keeps r (kinds xs)) (allows r (inner_at s p xs) what) (list_all (λ r'. keeps r' (kinds xs)) rs) (all_allow rs (inner_at s p xs) what)

pub takes-snoc : (h : ContentModel) (s : Source) (p : Place) (xs : Items) (what : ItemKind) (a b : Point) (d : Forest) (i : Items)
    → conforms h (kinds (xs then item what a b d i none)) ≡ (conforms h (kinds xs) && all_allow (rules h) (inner_at s p xs) what)
takes-snoc h s p xs what a b d i = ap (conforms h) (kinds-snoc xs what a b d i) ∙ all-snoc (rules h) s p xs what

all-keep-none : (rs : List Rule) → list_all (λ r. keeps r []) rs ≡ true
all-keep-none [] = refl
all-keep-none (r ∷ rs) = all-keep-none rs

pub takes-none : (h : ContentModel) → conforms h [] ≡ true
takes-none h = all-keep-none (rules h)
