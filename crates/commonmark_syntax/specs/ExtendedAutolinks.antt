-- Extended autolinks (GFM), after their start: their paths, and where they end. Each rule is in our words.
use Rattle.std.specs.Prelude.{◌≡◌, ◌<◌, ◌++◌, ℕ, Bool, true, false, cond, if◌then◌else◌, ◌+◌, ◌-◌, ◌&&◌, ◌||◌, ◌==◌, nat_le, List, [], ◌∷◌, Option, Some, None, codes, filter, length}
use Rattle.commonmark_syntax.specs.Inlines.{is_gfm_white_space}
use Rattle.commonmark_syntax.specs.Language.{Syntax, all, are_all, many, one, ◌then◌, ◌or◌}
use Rattle.commonmark_syntax.specs.Reading.{read}
use Rattle.commonmark_syntax.specs.Syntax.{byte, is_alphanumeric, is_one_of}

-- A path: zero or more bytes other than white space and <. If a bracket is open before the autolink, a ] ends the path
-- too, unless it matches a [ of the path (micromark). So the path is read with the number of brackets that are open in it.
abbrev pub ends_path : (in_bracket : Bool) → (depth c : ℕ) → Bool
ends_path in_bracket depth c = is_gfm_white_space c || (c == 60) || (in_bracket && (c == 93) && (depth == 0))

abbrev pub depth_after : (depth c : ℕ) → ℕ
depth_after depth c = if c == 91 then depth + 1 else if c == 93 then depth - 1 else depth

abbrev pub path_at_depth : (in_bracket : Bool) → (depth : ℕ) → List ℕ → List ℕ
path_at_depth in_bracket depth [] = []
path_at_depth in_bracket depth (c ∷ u) = cond (ends_path in_bracket depth c) [] (c ∷ path_at_depth in_bracket (depth_after depth c) u)

abbrev pub path : (in_bracket : Bool) → List ℕ → List ℕ
path in_bracket text = path_at_depth in_bracket 0 text

-- The parts that an autolink may not end with: one of ?!.,:*_~, a quote or a semicolon (micromark and cmark-gfm), something
-- like an entity reference, which is & and some letters and digits and a semicolon, or a closing parenthesis, but see below.
abbrev pub is_trailing : ℕ → Bool
is_trailing c = is_one_of (codes "?!.,:*_~\"';") c

abbrev pub reference_like : Syntax
reference_like = byte 38 then one is_alphanumeric then all is_alphanumeric then byte 59

abbrev pub trail_piece : Syntax
trail_piece = one is_trailing or byte 41 or reference_like

abbrev pub trail : Syntax
trail = many trail_piece

-- whether there is a result, with nothing left
abbrev pub is_whole : Option (List ℕ) → Bool
is_whole None = false
is_whole (Some []) = true
is_whole (Some (c ∷ u)) = false

abbrev pub is_trail : List ℕ → Bool
is_trail w = is_whole (read trail w)

-- The text of an autolink ends at the first place from which on there is only such a trail. The trail may have at most as
-- many closing parentheses as the whole path has more than opening ones: the others are part of the text.
abbrev pub how_many : ℕ → List ℕ → ℕ
how_many c w = length (filter (λ x. x == c) w)

abbrev pub may_drop : (unmatched : ℕ) → List ℕ → Bool
may_drop unmatched w = is_trail w && nat_le (how_many 41 w) unmatched

abbrev pub without_trail : (unmatched : ℕ) → List ℕ → List ℕ
without_trail unmatched [] = []
without_trail unmatched (c ∷ u) = cond (may_drop unmatched (c ∷ u)) [] (c ∷ without_trail unmatched u)

abbrev pub trimmed : List ℕ → List ℕ
trimmed w = without_trail (how_many 41 w - how_many 40 w) w

-- A text ends with something like an entity reference without its semicolon.
abbrev pub EndsWithName : (text front : List ℕ) → Type 0
EndsWithName text front = (name : List ℕ) × (text ≡ front ++ 38 ∷ name) × (are_all is_alphanumeric name ≡ true) × (0 < length name)
