-- A list of items keeps a rule where the items before the last keep it and the last one may follow them.
use Rattle.markdown_events.proofs.Booleans.{and-left, and-true}
use Rattle.std.proofs.Common.{◌≡◌, Bool, true, false, not, ◌&&◌, ◌||◌, List, [], ◌∷◌, ◌++◌, refl, sym, ◌∙◌, ap}
use Rattle.std.proofs.Common.{append_assoc}
use Rattle.std.proofs.lemmas.List.{append-nil}
use Rattle.std.specs.List.{list_all}
use Rattle.markdown_events.specs.declared.role.ItemKind.{ItemKind}
use Rattle.markdown_grammar.specs.Items.{is_one_of}
use Rattle.markdown_steps.specs.Compiler.{allows_after}
use Rattle.markdown_grammar.specs.Grammar.{Rule, any_item, keeps, none_of, at_most_one, only, only_before, only_after}

pub and-assoc : (a b c : Bool) → ((a && b) && c) ≡ (a && (b && c))
and-assoc true b c = refl
and-assoc false b c = refl

all-append : (p : ItemKind → Bool) (xs ys : List ItemKind) → list_all p (xs ++ ys) ≡ (list_all p xs && list_all p ys)
all-append p [] ys = refl
all-append p (x ∷ xs) ys = elim (p x) as (λ b. (b && list_all p (xs ++ ys)) ≡ ((b && list_all p xs) && list_all p ys)) [ true ↦ all-append p xs ys | false ↦ refl ]

some-append : (p : ItemKind → Bool) (xs ys : List ItemKind) → any_item p (xs ++ ys) ≡ (any_item p xs || any_item p ys)
some-append p [] ys = refl
some-append p (x ∷ xs) ys = elim (p x) as (λ b. (b || any_item p (xs ++ ys)) ≡ ((b || any_item p xs) || any_item p ys)) [ true ↦ refl | false ↦ some-append p xs ys ]

-- whether one more item keeps the rule after these
abbrev pub lets : Rule → List ItemKind → ItemKind → Bool
lets rule xs what = allows_after (λ ps. any_item (is_one_of ps) xs) rule what

once-bools : (a b c d : Bool) → ((not a || not (b || (c || false))) && (d && (not c || not b))) ≡ (((not a || not b) && d) && (not c || not (a || b)))
once-bools false b c d = refl
once-bools true true c d = refl
once-bools true false true true = refl
once-bools true false true false = refl
once-bools true false false true = refl
once-bools true false false false = refl

after-bools : (a b c d e : Bool) → ((not a || (b && (c && true))) && (d && (not e || c))) ≡ (((not a || b) && d) && (not (a || e) || c))
after-bools false b c d e = refl
after-bools true false c d e = refl
after-bools true true true true true = refl
after-bools true true true true false = refl
after-bools true true true false e = refl
after-bools true true false true e = refl
after-bools true true false false e = refl

or-and-true : (a b : Bool) → (a || (b && true)) ≡ (a || b)
or-and-true true b = refl
or-and-true false b = and-true b

pub keeps-snoc : (r : Rule) (xs : List ItemKind) (y : ItemKind) → keeps r (xs ++ y ∷ []) ≡ (keeps r xs && lets r xs y)
keeps-snoc (only p) [] y = and-true (p y)
keeps-snoc (only p) (x ∷ xs) y = ap (λ b. p x && b) (keeps-snoc (only p) xs y) ∙ sym (and-assoc (p x) (keeps (only p) xs) (p y))
keeps-snoc (none_of ps) [] y = and-true (not (is_one_of ps y))
keeps-snoc (none_of ps) (x ∷ xs) y = ap (λ b. not (is_one_of ps x) && b) (keeps-snoc (none_of ps) xs y) ∙ sym (and-assoc (not (is_one_of ps x)) (keeps (none_of ps) xs) (not (is_one_of ps y)))
keeps-snoc (at_most_one ps) [] y = and-true (not (is_one_of ps y) || true)
keeps-snoc (at_most_one ps) (x ∷ xs) y =
    (λ i. (not (is_one_of ps x) || not (some-append (is_one_of ps) xs (y ∷ []) i)) && keeps-snoc (at_most_one ps) xs y i) ∙ once-bools (is_one_of ps x) (any_item (is_one_of ps) xs) (is_one_of ps y) (keeps (at_most_one ps) xs)
keeps-snoc (only_after ps q) [] y = elim (is_one_of ps y) as (λ b. ((not b || true) && true) ≡ true) [ true ↦ refl | false ↦ refl ]
keeps-snoc (only_after ps q) (x ∷ xs) y =
    (λ i. (not (is_one_of ps x) || all-append q xs (y ∷ []) i) && keeps-snoc (only_after ps q) xs y i)
    ∙ after-bools (is_one_of ps x) (list_all q xs) (q y) (keeps (only_after ps q) xs) (any_item (is_one_of ps) xs)
keeps-snoc (only_before ps q) [] y = or-and-true (is_one_of ps y) (q y)
keeps-snoc (only_before ps q) (x ∷ xs) y =
    elim (is_one_of ps x) as (λ b. (b || (q x && keeps (only_before ps q) (xs ++ y ∷ []))) ≡ ((b || (q x && keeps (only_before ps q) xs)) && ((b || any_item (is_one_of ps) xs) || (is_one_of ps y || q y)))) [
      | true ↦ refl
      | false ↦ ap (λ b. q x && b) (keeps-snoc (only_before ps q) xs y) ∙ sym (and-assoc (q x) (keeps (only_before ps q) xs) (any_item (is_one_of ps) xs || (is_one_of ps y || q y)))
    ]

-- a rule that a list keeps, each prefix of the list keeps
pub keeps-prefix : (r : Rule) (xs ys : List ItemKind) → keeps r (xs ++ ys) ≡ true → keeps r xs ≡ true
keeps-prefix r xs [] h = ap (keeps r) (sym (append-nil xs)) ∙ h
keeps-prefix r xs (y ∷ ys) h = and-left (keeps r xs) (lets r xs y) (sym (keeps-snoc r xs y) ∙ keeps-prefix r (xs ++ y ∷ []) ys (ap (keeps r) (append_assoc xs (y ∷ []) ys) ∙ h))
