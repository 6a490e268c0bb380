-- Link destinations without angle brackets. They are not a regular syntax, because parentheses come in pairs.
use Rattle.std.specs.Prelude.{◌≡◌, ◌≢◌, ◌⊎◌, ◌<◌, ℕ, zero, suc, Bool, true, false, ◌==◌, ◌||◌, List, [], ◌∷◌, Option, Some, None, if◌then◌else◌, length, nat_le, not}
use Rattle.commonmark_syntax.specs.Language.{Reads}
use Rattle.commonmark_syntax.specs.Syntax.{angle_destination, is_from, is_one_of}
use Rattle.commonmark_syntax.specs.declared.destination.Kind as kinds
use Rattle.commonmark_syntax.specs.declared.destination.Kind.TheVariants as kind_names

-- The kind of a byte in a destination. A space or an ASCII control character ends it. The null character does not,
-- because it is read as U+FFFD.
pub data Kind : Type 0 where
  plain : Kind
  escapes : Kind
  opens : Kind
  closes : Kind
  stops : Kind

abbrev pub is_stop : ℕ → Bool
is_stop c = (c == 32) || (is_from 1 31 c || (c == 127))

abbrev pub kind : ℕ → Kind
kind c = if is_stop c then stops else if c == 92 then escapes else if c == 40 then opens else if c == 41 then closes else plain

-- a byte that stands for itself
abbrev pub is_plain : ℕ → Bool
is_plain c = not (is_stop c || is_one_of (92 ∷ 40 ∷ 41 ∷ []) c)

-- a backslash takes the next byte with it, unless that byte ends a destination
abbrev pub IsTaken : Kind → Type 0
IsTaken stops = ⊥
IsTaken _ = Unit {0}

-- a backslash takes nothing of this text
abbrev pub IsUntaken : List ℕ → Type 0
IsUntaken [] = Unit {0}
IsUntaken (c ∷ u) = kind c ≡ stops

-- Parentheses come in pairs, or after a backslash: s is such a text, and then t. Pairs are nested at most n deep.
pub data Balanced : ℕ → List ℕ → List ℕ → Type 0 where
  done : (n : ℕ) (t : List ℕ) → Balanced n t t
  one_more : (n c : ℕ) (s t : List ℕ) → kind c ≡ plain → Balanced n s t → Balanced n (c ∷ s) t
  escaped : (n b c : ℕ) (s t : List ℕ) → kind b ≡ escapes → IsTaken (kind c) → Balanced n s t → Balanced n (b ∷ c ∷ s) t
  backslash : (n b : ℕ) (s t : List ℕ) → kind b ≡ escapes → IsUntaken s → Balanced n s t → Balanced n (b ∷ s) t
  pair : (n o c : ℕ) (s m t : List ℕ) → kind o ≡ opens → kind c ≡ closes → Balanced n s (c ∷ m) → Balanced (suc n) m t → Balanced (suc n) (o ∷ s) t

abbrev pub MayEnd : Kind → Type 0
MayEnd closes = Unit {0}
MayEnd stops = Unit {0}
MayEnd _ = ⊥

-- nothing of a destination is left
abbrev pub IsEnded : List ℕ → Type 0
IsEnded [] = Unit {0}
IsEnded (c ∷ u) = MayEnd (kind c)

-- A destination without angle brackets is not empty, and does not begin with <. It contains neither spaces nor control
-- characters, and parentheses only in pairs or after a backslash. Pairs are nested at most 32 deep, as in cmark and
-- micromark; CommonMark requires at least three levels. The destination goes as far as it can.
pub record IsRawDestination (s t : List ℕ) : Type 0 where
  pub some : length t < length s
  pub not_angle : (u : List ℕ) → s ≢ 60 ∷ u
  pub balanced : Balanced 32 s t
  pub ended : IsEnded t

-- A destination, of either kind.
abbrev pub IsDestination : List ℕ → List ℕ → Type 0
IsDestination s t = Reads angle_destination s t ⊎ IsRawDestination s t

abbrev pub IsNoDestination : List ℕ → Type 0
IsNoDestination s = (t : List ℕ) → IsDestination s t → ⊥

-- a destination is at the front, t is left, and nothing else can be left
pub record LeavesDestination (s t : List ℕ) : Type 0 where
  pub there : IsDestination s t
  pub only : (u : List ℕ) → IsDestination s u → u ≡ t

-- the kinds of the program, as these kinds
abbrev pub kind_in : kinds.Kind → Kind
kind_in kind_names.Plain = plain
kind_in kind_names.Escapes = escapes
kind_in kind_names.Opens = opens
kind_in kind_names.Closes = closes
kind_in kind_names.Stops = stops

-- The end of a destination as a function, given the number of open parentheses, and whether a backslash came last.
abbrev pub at_depth : List ℕ → ℕ → Option (List ℕ)
at_depth t zero = Some t
at_depth t (suc k) = None

abbrev pub deeper : ℕ → (ℕ → Option (List ℕ)) → Option (List ℕ)
deeper k rest = if nat_le 32 k then None else rest (suc k)

abbrev pub shallower : List ℕ → ℕ → (ℕ → Option (List ℕ)) → Option (List ℕ)
shallower s zero rest = Some s
shallower s (suc k) rest = rest k

abbrev pub ends_at : Kind → Bool → ℕ → List ℕ → (Bool → ℕ → Option (List ℕ)) → ℕ → Option (List ℕ)
ends_at stops taken c s rest k = at_depth (c ∷ s) k
ends_at plain taken c s rest k = rest false k
ends_at escapes true c s rest k = rest false k
ends_at escapes false c s rest k = rest true k
ends_at opens true c s rest k = rest false k
ends_at opens false c s rest k = deeper k (rest false)
ends_at closes true c s rest k = rest false k
ends_at closes false c s rest k = shallower (c ∷ s) k (rest false)

abbrev pub ends : List ℕ → Bool → ℕ → Option (List ℕ)
ends [] taken k = at_depth [] k
ends (c ∷ s) taken k = ends_at (kind c) taken c s (ends s) k
