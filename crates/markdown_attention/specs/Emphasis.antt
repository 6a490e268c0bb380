-- Emphasis, strong emphasis and strikethrough: the pairs that a list of delimiter runs makes.
use Rattle.std.specs.Prelude.{◌≡◌, ℕ, ◌+◌, ◌-◌, ◌%◌, Bool, true, false, not, ◌&&◌, ◌||◌, if◌then◌else◌, ◌==◌, nat_lt, List, [], ◌∷◌, ◌++◌}
use Rattle.markdown_attention.specs.declared.delimiter.AttentionKind.{AttentionKind}
use Rattle.markdown_attention.specs.declared.delimiter.AttentionKind.TheVariants.{Emphasis, Strong, Strikethrough, DoubleStrikethrough}

-- ---- Runs

-- A delimiter run: its marker, its original size, the offset of its first remaining marker, how many remain, and what it can do.
pub record DelimiterRun : Type 0 where
  pub marker : ℕ
  pub size : ℕ
  pub first : ℕ
  pub left : ℕ
  pub can_open : Bool
  pub can_close : Bool

-- Rules 9 and 10: if one of the two runs can both open and close, the sum of their sizes is not a multiple of 3, unless both sizes are.
abbrev pub keeps_rule_of_three : (opener closer : DelimiterRun) → Bool
keeps_rule_of_three opener closer =
    not (opener.can_close || closer.can_open)
    || (not ((opener.size + closer.size) % 3 == 0) || ((opener.size % 3 == 0) && (closer.size % 3 == 0)))

-- Two runs go together if they have the same marker. Tildes also need the same size (GFM), and other markers the rule of three.
abbrev pub goes_with : (opener closer : DelimiterRun) → Bool
goes_with opener closer = (opener.marker == closer.marker) && (if opener.marker == 126 then opener.size == closer.size else keeps_rule_of_three opener closer)

-- `opener` may open what `closer` closes.
abbrev pub is_opener_of : (opener closer : DelimiterRun) → Bool
is_opener_of opener closer = (opener.can_open && closer.can_close) && goes_with opener closer

-- No run of `runs` is an opener of `closer`.
abbrev pub NoneOpens : (runs : List DelimiterRun) (closer : DelimiterRun) → Type 0
NoneOpens [] closer = Unit {0}
NoneOpens (run ∷ runs) closer = (is_opener_of run closer ≡ false) × NoneOpens runs closer

-- No run of `runs` has an opener before it, in `runs` or in `earlier`.
abbrev pub AreUnpairedAfter : (earlier runs : List DelimiterRun) → Type 0
AreUnpairedAfter earlier [] = Unit {0}
AreUnpairedAfter earlier (run ∷ runs) = NoneOpens earlier run × AreUnpairedAfter (earlier ++ (run ∷ [])) runs

-- No run of `runs` has an opener before it.
abbrev pub AreUnpaired : (runs : List DelimiterRun) → Type 0
AreUnpaired runs = AreUnpairedAfter [] runs

-- ---- Pairs

-- A pair: its kind, and the offsets at which its sequences begin.
pub record Pair : Type 0 where
  pub kind : AttentionKind
  pub opening : ℕ
  pub closing : ℕ

-- A pair is strong if both runs have two markers left.
abbrev pub is_strong : (opener closer : DelimiterRun) → Bool
is_strong opener closer = nat_lt 1 opener.left && nat_lt 1 closer.left

-- A pair takes this many markers of each run.
abbrev pub strength : (opener closer : DelimiterRun) → ℕ
strength opener closer = if is_strong opener closer then 2 else 1

-- Tildes make strikethrough; asterisks and underscores make emphasis.
abbrev pub kind_with : (opener closer : DelimiterRun) → AttentionKind
kind_with opener closer =
    if opener.marker == 126 then (if is_strong opener closer then DoubleStrikethrough else Strikethrough)
    else (if is_strong opener closer then Strong else Emphasis)

-- The size of the sequences of a kind.
abbrev pub kind_size : AttentionKind → ℕ
kind_size Emphasis = 1
kind_size Strikethrough = 1
kind_size Strong = 2
kind_size DoubleStrikethrough = 2

-- A run opens with the last of its remaining markers, and closes with the first of them.
abbrev pub opened : (size : ℕ) → DelimiterRun → DelimiterRun
opened size run = record run { left = run.left - size }

abbrev pub closed : (size : ℕ) → DelimiterRun → DelimiterRun
closed size run = record run { first = run.first + size; left = run.left - size }

-- The pair that two runs make.
abbrev pub paired : (opener closer : DelimiterRun) → Pair
paired opener closer = record {
  kind = kind_with opener closer;
  opening = opener.first + (opener.left - strength opener closer);
  closing = closer.first;
}

-- A run without remaining markers is gone.
abbrev pub kept : DelimiterRun → List DelimiterRun
kept run = if run.left == 0 then [] else run ∷ []

-- ---- Emphasis

-- The first run that has an opener before it makes a pair with the nearest one. The runs between the two make nothing more, and what
-- remains of the two may make a pair again. If no run has an opener before it, no pair is made.
pub data Resolves : (runs : List DelimiterRun) (pairs : List Pair) → Type 0 where
  done : (runs : List DelimiterRun) → AreUnpaired runs → Resolves runs []
  pair : (before between rest : List DelimiterRun) (opener closer : DelimiterRun) (pairs : List Pair)
      → AreUnpaired (before ++ (opener ∷ between)) → is_opener_of opener closer ≡ true → NoneOpens between closer
      → Resolves (before ++ (kept (opened (strength opener closer) opener) ++ (kept (closed (strength opener closer) closer) ++ rest))) pairs
      → Resolves (before ++ (opener ∷ (between ++ (closer ∷ rest)))) (paired opener closer ∷ pairs)
