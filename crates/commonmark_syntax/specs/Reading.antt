-- Reading as a function: the first choice that works, and as many repetitions as there are.
use Rattle.std.specs.Prelude.{◌≡◌, ℕ, zero, suc, ◌-◌, take, Bool, true, false, cond, not, ◌&&◌, ◌||◌, List, [], ◌∷◌, length, Option, Some, None, option_and_then, nat_lt, ◌==◌}
use Rattle.std.specs.Option.{option_or}
use Rattle.commonmark_syntax.specs.Language.{Syntax, nothing, one, sequence, choice, at_most, many, through, all, tested, unless}

abbrev pub first_of_class : (ℕ → Bool) → List ℕ → Option (List ℕ)
first_of_class p [] = None
first_of_class p (c ∷ t) = cond (p c) (Some t) None

abbrev pub go_on : List ℕ → (List ℕ → List ℕ) → Option (List ℕ) → List ℕ
go_on s f None = s
go_on s f (Some t) = f t

-- as often as f succeeds, but at most k times
abbrev pub greedy : (List ℕ → Option (List ℕ)) → ℕ → List ℕ → List ℕ
greedy f zero s = s
greedy f (suc k) s = go_on s (greedy f k) (f s)

abbrev pub strip : List ℕ → List ℕ → Option (List ℕ)
strip [] s = Some s
strip (x ∷ w) [] = None
strip (x ∷ w) (c ∷ s) = cond (c == x) (strip w s) None

abbrev pub find : List ℕ → List ℕ → Option (List ℕ)
find w [] = strip w []
find w (c ∷ u) = option_or (strip w (c ∷ u)) (find w u)

abbrev pub behind_run : (ℕ → Bool) → List ℕ → List ℕ
behind_run p [] = []
behind_run p (c ∷ u) = cond (p c) (behind_run p u) (c ∷ u)

abbrev pub kept : (List ℕ → Bool) → List ℕ → List ℕ → Option (List ℕ)
kept test s t = cond (test (take (length s - length t) s)) (Some t) None

abbrev pub read : Syntax → List ℕ → Option (List ℕ)
read nothing s = Some s
read (one p) s = first_of_class p s
read (sequence a b) s = option_and_then (read b) (read a s)
read (choice a b) s = option_or (read a s) (read b s)
read (at_most k a) s = Some (greedy (read a) k s)
read (many a) s = Some (greedy (read a) (length s) s)
read (through w) s = find w s
read (all p) s = Some (behind_run p s)
read (tested test a) s = option_and_then (kept test s) (read a s)
read (unless test a) s = cond (test s) None (read a s)

abbrev pub is_nullable : Syntax → Bool
is_nullable nothing = true
is_nullable (one p) = false
is_nullable (sequence a b) = is_nullable a && is_nullable b
is_nullable (choice a b) = is_nullable a || is_nullable b
is_nullable (at_most k a) = true
is_nullable (many a) = true
is_nullable (through w) = true
is_nullable (all p) = true
is_nullable (tested test a) = is_nullable a
is_nullable (unless test a) = is_nullable a

-- A look ahead at a text: whether a space or a tab, or a line ending, comes first, and the first byte that is none of
-- them, or 256 at the end.
pub data Lead : Type 0 where
  solid : Lead
  gap : Lead
  ending : Lead

abbrev pub is_gap : ℕ → Bool
is_gap c = (c == 32) || (c == 9)

abbrev pub is_ending : ℕ → Bool
is_ending c = c == 10

abbrev pub lead_byte : ℕ → Lead
lead_byte c = cond (is_gap c) gap (cond (is_ending c) ending solid)

abbrev pub lead : List ℕ → Lead
lead [] = solid
lead (c ∷ u) = lead_byte c

abbrev pub solid_from : Lead → ℕ → ℕ → ℕ
solid_from solid c x = c
solid_from gap c x = x
solid_from ending c x = x

abbrev pub first_solid : List ℕ → ℕ
first_solid [] = 256
first_solid (c ∷ u) = solid_from (lead_byte c) c (first_solid u)

-- A set of what a look ahead may see.
abbrev pub View : Type 0
View = Lead → ℕ → Bool

abbrev pub everything : View
everything l c = true

abbrev pub the_end : View
the_end solid c = c == 256
the_end gap c = false
the_end ending c = false

abbrev pub union : View → View → View
union P Q l c = P l c || Q l c

abbrev pub none_below : (ℕ → Bool) → ℕ → Bool
none_below f zero = true
none_below f (suc n) = not (f n) && none_below f n

abbrev pub in_both : View → View → ℕ → Bool
in_both P Q c = (P solid c && Q solid c) || ((P gap c && Q gap c) || (P ending c && Q ending c))

abbrev pub in_first_only : View → View → ℕ → Bool
in_first_only P Q c = (P solid c && not (Q solid c)) || ((P gap c && not (Q gap c)) || (P ending c && not (Q ending c)))

unfoldable pub are_apart : View → View → Bool
are_apart P Q = none_below (in_both P Q) 257

unfoldable pub is_within : View → View → Bool
is_within P Q = none_below (in_first_only P Q) 257

abbrev pub any_lead : View → ℕ → Bool
any_lead F c = F solid c || (F gap c || F ending c)

abbrev pub class_view : (ℕ → Bool) → View → View
class_view p F solid c = (nat_lt c 256 && p c) && (not (is_gap c) && not (is_ending c))
class_view p F gap c = elim (p 32 || p 9) [ true ↦ any_lead F c | false ↦ false ]
class_view p F ending c = elim (p 10) [ true ↦ any_lead F c | false ↦ false ]

abbrev pub if_closed : Bool → View → View
if_closed true X = X
if_closed false X = everything

abbrev pub closing : (View → View) → View → View
closing step X = if_closed (is_within (step X) X) X

-- what a look ahead may see at a text of the syntax, where it may see F behind the text
abbrev pub views : Syntax → View → View
views nothing F = F
views (one p) F = class_view p F
views (sequence a b) F = views a (views b F)
views (choice a b) F = union (views a F) (views b F)
views (at_most k a) F = closing (views a) (union F (views a F))
views (many a) F = closing (views a) (union F (views a F))
views (through w) F = everything
views (all p) F = union F (class_view p everything)
views (tested test a) F = views a F
views (unless test a) F = views a F

-- A look ahead always decides how reading goes on, where it may see F behind the text.
abbrev pub is_clear : Syntax → View → Bool
is_clear nothing F = true
is_clear (one p) F = true
is_clear (sequence a b) F = is_clear b F && is_clear a (views b F)
is_clear (choice a b) F = (is_clear a F && is_clear b F) && are_apart (views a everything) (views b F)
is_clear (at_most k a) F = are_apart (views a everything) F && is_clear a (union F (views a everything))
is_clear (many a) F = not (is_nullable a) && (are_apart (views a everything) F && is_clear a (union F (views a everything)))
is_clear (through w) F = true
is_clear (all p) F = true
is_clear (tested test a) F = is_clear a F
is_clear (unless test a) F = is_clear a F

-- The result of a function is what reading leaves.
abbrev pub Reading : Syntax → List ℕ → {T : Type 0} → (T → List ℕ) → Option T → Type 0
Reading a s view None = read a s ≡ None
Reading a s view (Some t) = read a s ≡ Some (view t)
