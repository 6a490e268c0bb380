-- The text of a point, put together from its last byte to its first, and that of a position.
use Rattle.std.proofs.Common.{◌≡◌, ◌+◌, ◌≤◌, ◌++◌, List, [], ℕ, codes, drop, take, length, refl, sym, ap, subst, ◌∙◌, arith, append_assoc, length-append}
use Rattle.std.proofs.lemmas.Grind.{common_steps}
use Rattle.std.proofs.lemmas.List.{drop-drop, drop-take, length-drop}
use Rattle.std.proofs.lemmas.Str.{IsCharBoundary-after_ascii, IsCharBoundary-at_seam, IsUtf8-drop, IsUtf8-from_ascii, IsUtf8-take}
use Rattle.std.proofs.lemmas.Str.Ascii.{IsAscii-cons, IsAscii-nil}
use Rattle.std.specs.Fmt.{decimal}
use Rattle.std.specs.Str.{IsUtf8}
use Rattle.markdown_events.specs.declared.unist.Point.{Point}
use Rattle.markdown_json.specs.Fields.{field, key, point, position_between, position_end}

point-is : (p : Point) (back t u v w x y z : List ℕ) → t ≡ codes "}" ++ back → u ≡ decimal p.offset ++ t → v ≡ codes ",\"offset\":" ++ u → w ≡ decimal p.column ++ v → x ≡ codes ",\"column\":" ++ w → y ≡ decimal p.line ++ x → z ≡ codes "{\"line\":" ++ y → z ≡ point p ++ back
unfolding point field key
point-is p back t u v w x y z t-is u-is v-is w-is x-is y-is z-is =
    let line : List ℕ = codes "{\"line\":" ++ decimal p.line in
    let column : List ℕ = field (codes "column") (decimal p.column) in
    let offset : List ℕ = field (codes "offset") (decimal p.offset) in
    let end : List ℕ = codes "}" ++ back in
    rw (z-is, y-is, x-is, w-is, v-is, u-is, t-is)
    (sym (append_assoc (line ++ column ++ offset) (codes "}") back ∙ append_assoc (line ++ column) offset end ∙ append_assoc line column (offset ++ end)))

-- the end of a position
pub end-is : (p : Point) (back t u v w x y z : List ℕ) → back ≡ [] → t ≡ codes "}}}" ++ back → u ≡ decimal p.offset ++ t → v ≡ codes ",\"offset\":" ++ u → w ≡ decimal p.column ++ v → x ≡ codes ",\"column\":" ++ w → y ≡ decimal p.line ++ x → z ≡ codes ",\"end\":{\"line\":" ++ y → z ≡ position_end p
end-is p back t u v w x y z none t-is u-is v-is w-is x-is y-is z-is =
    z-is ∙ ap (λ s. codes ",\"end\":" ++ s) (point-is p (codes "}}") t u v w x y (codes "{\"line\":" ++ y) (t-is ∙ ap (λ s. codes "}}}" ++ s) none) u-is v-is w-is x-is y-is refl)

-- what comes before a text is UTF-8 if both together are
front-IsUtf8 : (front back : List ℕ) → IsUtf8 (front ++ back) → IsUtf8 back → IsUtf8 front
front-IsUtf8 front back whole rest =
    let all : take (length front) (front ++ back) ≡ front = grind (arith, common_steps) in
    subst IsUtf8 all (IsUtf8-take (front ++ back) (length front) whole (IsCharBoundary-at_seam (front ++ back) front back refl rest))

-- the braces after the point, and so the point, are UTF-8
braces : IsUtf8 (codes "}}")
braces = IsUtf8-from_ascii (codes "}}") (IsAscii-cons 125 (codes "}") (omega arith) (IsAscii-cons 125 [] (omega arith) IsAscii-nil))

pub point-IsUtf8 : (p : Point) → IsUtf8 (position_end p) → IsUtf8 (point p)
point-IsUtf8 p whole =
    let cut = IsCharBoundary-after_ascii (position_end p) 6 whole (omega arith) (omega arith) in
    front-IsUtf8 (point p) (codes "}}") (IsUtf8-drop (position_end p) 7 whole cut) braces

-- the point in the end of a position
pub inner : (bytes : List ℕ) (first : ℕ) (p : Point) → length bytes ≡ 98 → first + 7 ≤ 96 → drop first bytes ≡ position_end p → drop (first + 7) (take 96 bytes) ≡ point p
inner bytes first p long within is =
    let after : drop (first + 7) bytes ≡ point p ++ codes "}}" = sym (drop-drop 7 first bytes) ∙ ap (λ (s : List ℕ). drop 7 s) is in
    let size : 96 ≡ (first + 7) + length (point p) = omega (arith, long, within, length-drop (first + 7) bytes, ap length after, length-append (point p) (codes "}}")) in
    let all : take (length (point p)) (point p ++ codes "}}") ≡ point p = grind (arith, common_steps) in
    ap (λ (n : ℕ). drop (first + 7) (take n bytes)) size ∙ drop-take (first + 7) (length (point p)) bytes ∙ ap (λ (s : List ℕ). take (length (point p)) s) after ∙ all

regroup : (before a b c d e f : List ℕ) → (before ++ a) ++ (b ++ (c ++ (d ++ (e ++ f)))) ≡ (before ++ (a ++ ((b ++ (c ++ d)) ++ e))) ++ f
regroup before a b c d e f = simp append_assoc refl

-- the field of a position, and the brace that closes its node
pub position-is : (start end : Point) (before : List ℕ) → (before ++ codes ",\"position\":{\"start\":") ++ (point start ++ position_end end) ≡ (before ++ field (codes "position") (position_between start end)) ++ codes "}"
unfolding field key position_between
position-is start end before = regroup before (codes ",\"position\":{\"start\":") (point start) (codes ",\"end\":") (point end) (codes "}") (codes "}")
