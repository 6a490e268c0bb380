-- The lines of an outline.
use Rattle.std.proofs.Common.{◌≡◌, ◌≢◌, ◌+◌, ◌<◌, ◌∷◌, ◌++◌, ◌==◌, ℕ, suc, zero, Bool, false, cond, List, [], Option, None, Some, eqb, length, get_or, map, refl, sym, ap, ◌∙◌, add-one, append-nil, append_assoc, arith}
use Rattle.std.specs.List.{repeat}
use Rattle.std.specs.Option.{option_map_or}
use Rattle.std.proofs.lemmas.Bool.Decides.{nat_tests}
use Rattle.markdown_nodes.specs.declared.mdast.Node.{Node}
use Rattle.markdown_events.specs.declared.unist.Position.{Position}
use Rattle.markdown_nodes.specs.Access.{label_of, position_of}
use Rattle.markdown_nodes.specs.Tree.{Tree, only, plain_text}
use Rattle.markdown_nodes.specs.View.{view}
use Rattle.markdown_nodes.proofs.Views.{view-is}
use Rattle.mdast_check.specs.Titles.{depth_of}
use Rattle.markdown_nodes.proofs.WalkSteps.{label-is}
use Rattle.mdast_util.specs.Outline.{heading_line, in_one_line, indent, line_of, place_text}

-- once more at the end is once more at the front
repeat-push : {X : Type 0} (n : ℕ) (xs : List X) → repeat n xs ++ xs ≡ repeat (suc n) xs
repeat-push zero xs = sym (append-nil xs)
repeat-push (suc n) xs = append_assoc xs (repeat n xs) xs ∙ ap (λ (ys : List _). xs ++ ys) (repeat-push n xs)

-- one more of a piece that is written again and again
pub once_more : (old text new piece : List ℕ) (n : ℕ) → text ≡ old ++ repeat n piece → new ≡ text ++ piece → new ≡ old ++ repeat (n + 1) piece
once_more old text new piece n so_far wrote =
    wrote
    ∙ ap (λ (bytes : List ℕ). bytes ++ piece) so_far
    ∙ append_assoc old (repeat n piece) piece
    ∙ ap (λ (bytes : List ℕ). old ++ bytes) (repeat-push n piece)
    ∙ ap (λ (k : ℕ). old ++ repeat k piece) (sym (add-one n))

-- ---- A text in one line

abbrev blank : ℕ → ℕ
blank byte = cond (byte == 10) 32 byte

kept : (line rest : List ℕ) → ((k : ℕ) → k < length line → get_or line k 0 ≢ 10) → map blank (line ++ rest) ≡ line ++ map blank rest
kept [] rest h = refl
kept (byte ∷ line) rest h =
    let other : eqb byte 10 ≡ false = grind (arith, nat_tests, h 0 (omega arith)) in
    ap (λ (b : Bool). cond b 32 byte ∷ map blank (line ++ rest)) other
    ∙ ap (λ (bytes : List ℕ). byte ∷ bytes) (kept line rest (λ k lt. h (suc k) (omega arith)))

-- a line, with a blank for the line feed after it
pub line_written : (whole old new next : List ℕ) (rest line after : List ℕ) → old ++ in_one_line rest ≡ whole → rest ≡ line ++ 10 ∷ after → ((k : ℕ) → k < length line → get_or line k 0 ≢ 10) → new ≡ old ++ line → next ≡ new ++ 32 ∷ [] → next ++ in_one_line after ≡ whole
line_written whole old new next rest line after so_far is plain wrote blanked =
    ap (λ (bytes : List ℕ). bytes ++ in_one_line after) (blanked ∙ ap (λ (bytes : List ℕ). bytes ++ 32 ∷ []) wrote)
    ∙ append_assoc (old ++ line) (32 ∷ []) (in_one_line after)
    ∙ append_assoc old line (32 ∷ in_one_line after)
    ∙ ap (λ (bytes : List ℕ). old ++ bytes) (sym (kept line (10 ∷ after) plain))
    ∙ ap (λ (bytes : List ℕ). old ++ in_one_line bytes) (sym is)
    ∙ so_far

-- and what has no line feed
pub last_written : (whole old rest : List ℕ) → old ++ in_one_line rest ≡ whole → ((k : ℕ) → k < length rest → get_or rest k 0 ≢ 10) → old ++ rest ≡ whole
last_written whole old rest so_far plain =
    ap (λ (bytes : List ℕ). old ++ bytes) (sym (ap (map blank) (sym (append-nil rest)) ∙ kept rest [] plain ∙ append-nil rest))
    ∙ so_far

-- ---- The line of a heading

line-is : (node : Node) (found depth : Option ℕ) → found ≡ depth_of (label_of node) → found ≡ depth → line_of (view node) ≡ option_map_or (heading_line (view node)) depth []
line-is node found depth is says = ap (λ (o : Option ℕ). option_map_or (heading_line (view node)) o []) (ap depth_of (label-is node) ∙ sym is ∙ says)

pub no_line : (node : Node) (depth : Option ℕ) (text : List ℕ) → depth ≡ depth_of (label_of node) → depth ≡ None → text ≡ text ++ line_of (view node)
no_line node depth text is none = sym (ap (λ (bytes : List ℕ). text ++ bytes) (line-is node depth None is none) ∙ append-nil text)

line_in_parts : (old indented text place : List ℕ) → (((old ++ indented) ++ text) ++ place) ++ 10 ∷ [] ≡ old ++ (((indented ++ text) ++ place) ++ 10 ∷ [])
line_in_parts old indented text place = simp append_assoc

-- the parts of a line, one after the other
pub a_line : (node : Node) (found : Option ℕ) (depth : ℕ) (old indented titled placed text place : List ℕ) (at : Option Position) → found ≡ depth_of (label_of node) → found ≡ Some depth
    → indented ≡ old ++ indent depth → text ≡ plain_text (only (view node)) → titled ≡ indented ++ in_one_line text → at ≡ position_of node → place ≡ place_text at → placed ≡ titled ++ place
    → placed ++ 10 ∷ [] ≡ old ++ line_of (view node)
a_line node found depth old indented titled placed text place at is some indents says titles stands tells places =
    let here : place ≡ place_text (view node).position = tells ∙ ap place_text (stands ∙ sym (ap (λ (t : Tree). t.position) (view-is node))) in
    ap (λ (bytes : List ℕ). bytes ++ 10 ∷ []) (places ∙ ap (λ (bytes : List ℕ). bytes ++ place) (titles ∙ ap (λ (bytes : List ℕ). bytes ++ in_one_line text) indents))
    ∙ line_in_parts old (indent depth) (in_one_line text) place
    ∙ ap (λ (bytes : List ℕ). old ++ (((indent depth ++ in_one_line bytes) ++ place) ++ 10 ∷ [])) says
    ∙ ap (λ (bytes : List ℕ). old ++ (((indent depth ++ in_one_line (plain_text (only (view node)))) ++ bytes) ++ 10 ∷ [])) here
    ∙ ap (λ (bytes : List ℕ). old ++ bytes) (sym (line-is node found (Some depth) is some))
