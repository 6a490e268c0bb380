-- The Text of a plain paragraph is the bytes of its span.
use Rattle.std.proofs.Common.{Bool, List, None, Option, Some, [], ap, append-nil, arith, cond, drop, drop-drop, eqb-true, false, is_some, leb-true, length, nat_le, nat_lt, not, refl, slice_range, suc, subst, sym, take, take-add, true, unwrap_or, zero, ℕ, ◌&&◌, ◌++◌, ◌+◌, ◌-◌, ◌==◌, ◌||◌, ◌≡◌, ◌≤◌, ◌∙◌, ◌∷◌}
use Rattle.std.specs.List.{list_all}
use Rattle.std.specs.Str.{is_utf8}
use Rattle.std.proofs.lemmas.List.Folds.{list_all-append}
use Rattle.markdown_events.specs.Texts.{starts_with_byte}
use Rattle.markdown_events.specs.Forest.{Forest, empty, is_empty, span}
use Rattle.markdown_events.specs.Slices.{between, edge, slice}
use Rattle.markdown_events.specs.declared.event.Name.TheVariants as names
use Rattle.markdown_events.specs.declared.event.Point.{Point}
use Rattle.markdown_events.specs.declared.role.Content.TheVariants as contents
use Rattle.markdown_events.specs.declared.role.ItemKind.TheVariants.{Content as content}
use Rattle.markdown_nodes.specs.Tree.{Trees, join, nothing, paragraph, root, text}
use Rattle.markdown_grammar.specs.Attributes.{Place, inherited_after, inherited_at_root, inherited_in}
use Rattle.markdown_grammar.specs.Decorated.{node_at, nodes_of}
use Rattle.markdown_grammar.specs.Document.{source_hiding, value_read}
use Rattle.markdown_grammar.specs.Hidden.{visible}
use Rattle.markdown_grammar.specs.Items.{items}
use Rattle.markdown_grammar.specs.LineEndings.{ending_read, is_empty_line, is_return}
use Rattle.markdown_grammar.specs.Meaning.{meaning}
use Rattle.markdown_grammar.specs.Nodes.{decorate}
use Rattle.markdown_grammar.specs.Whole.{whole, without_nul}
use Rattle.markdown.specs.Plain.{ArePlain, IsPlainSpan, StandForThemselves, is_verbatim, root_with_text}

-- ---- Tests and slices

-- what passes two tests passes each
both : (a b : Bool) → (a && b) ≡ true → (a ≡ true) × (b ≡ true)
both true b h = (refl, h)
both false b h = let wrong : ⊥ = cc in absurd wrong

-- a choice is its second value, if one test fails wherever the other holds
second : (t u : Bool) (v w : List ℕ) → (t ≡ true → u ≡ false) → cond (t && u) v w ≡ w
second true u v w h = ap (λ (x : Bool). cond x v w) (h refl)
second false u v w h = refl

-- an optional text that is there
there : (t : Bool) (v : List ℕ) → is_some (cond t (Some v) None) ≡ true → (t ≡ true) × (cond t (Some v) None ≡ Some v)
there true v h = (refl, refl)
there false v h = let wrong : ⊥ = cc in absurd wrong

-- slices that meet are one slice
meet : {X : Type 0} (xs : List X) (i j k : ℕ) → i ≤ j → j ≤ k → slice_range xs i k ≡ slice_range xs i j ++ slice_range xs j k
meet {X} xs i j k h m =
    let l : i + (j - i) ≡ j = omega arith in
    let n : k - i ≡ (j - i) + (k - j) = omega arith in
    ap (λ (x : ℕ). take x (drop i xs)) n
    ∙ take-add (j - i) (k - j) (drop i xs)
    ∙ ap (λ (x : List X). slice_range xs i j ++ take (k - j) x) (drop-drop (j - i) i xs ∙ ap (λ (x : ℕ). drop x xs) l)

-- nothing stands between an index and itself
none_between : (bytes : List ℕ) (i : ℕ) → slice_range bytes i i ≡ []
none_between bytes i = let z : i - i ≡ 0 = omega arith in ap (λ (n : ℕ). take n (drop i bytes)) z

-- ---- Bytes that a value has as they are

-- so are the last of them
verbatim_rest : (v w : List ℕ) → is_verbatim (v ++ w) ≡ true → is_verbatim w ≡ true
verbatim_rest [] w h = h
verbatim_rest (b ∷ v) w h = verbatim_rest v w (both _ _ h).1

-- a byte that is not replaced
same_byte : (is_nul : Bool) (b : ℕ) (others : List ℕ) → not is_nul ≡ true → cond is_nul others (b ∷ []) ≡ b ∷ []
same_byte true b others h = let wrong : ⊥ = cc in absurd wrong
same_byte false b others h = refl

-- the first of them have no NUL
no_nul : (v w : List ℕ) → is_verbatim (v ++ w) ≡ true → without_nul v ≡ v
no_nul [] w h = refl
no_nul (b ∷ v) w h =
    let k = both _ _ h in
    let here = same_byte (b == 0) b (239 ∷ 191 ∷ 189 ∷ []) (both _ _ k.0).0 in
    let after = no_nul v w k.1 in
    λ i. here i ++ after i

-- after a carriage return comes a line feed
feed_after : (v w : List ℕ) → is_verbatim (v ++ w) ≡ true → is_return v ≡ true → starts_with_byte 10 w ≡ true
feed_after [] w h r = let wrong : ⊥ = cc in absurd wrong
feed_after (b ∷ []) w h r = subst (λ (t : Bool). (not t || starts_with_byte 10 w) ≡ true) r (both _ _ (both _ _ h).0).1
feed_after (b ∷ c ∷ v) w h r = let wrong : ⊥ = cc in absurd wrong

-- where a line feed comes no empty line does, of which there is a byte
no_empty_line : (n : ℕ) (bytes : List ℕ) → starts_with_byte 10 (take n bytes) ≡ true → is_empty_line bytes ≡ false
no_empty_line n [] h = refl
no_empty_line zero (b ∷ bytes) h = let wrong : ⊥ = cc in absurd wrong
no_empty_line (suc n) (b ∷ bytes) h = subst (λ (x : ℕ). is_empty_line (x ∷ bytes) ≡ false) (sym (eqb-true b 10 h)) refl

-- without flags all bytes are visible
all_visible : (n : ℕ) (flags : List Bool) (bytes : List ℕ) → list_all not (take n flags) ≡ true → visible flags (take n bytes) ≡ take n bytes
all_visible zero flags bytes h = refl
all_visible (suc n) flags [] h = refl
all_visible (suc n) [] (b ∷ bytes) h = refl
all_visible (suc n) (true ∷ flags) (b ∷ bytes) h = let wrong : ⊥ = cc in absurd wrong
all_visible (suc n) (false ∷ flags) (b ∷ bytes) h = ap (λ (x : List ℕ). b ∷ x) (all_visible n flags bytes h)

-- ---- Points in no tab

-- a slice begins and ends at their indices
at_index : (p : Point) → p.vs ≡ 0 → edge p ≡ p.index
at_index p h = let e : edge p ≡ p.index + 0 = ap (λ (n : ℕ). p.index + cond (nat_lt 0 n) 1 0) h in omega (arith, e)

-- the slice of a span is the bytes between its indices, which are in order
record IsSlice (bytes : List ℕ) (start end : Point) : Type 0 where
  rises : start.index ≤ end.index
  is_slice : slice bytes start end ≡ Some (slice_range bytes start.index end.index)

-- so it is of a plain span
slice_of : (bytes : List ℕ) (start end : Point) → IsPlainSpan bytes start end → IsSlice bytes start end
unfolding slice
slice_of bytes start end h =
    let i = at_index start h.begins in
    let j = at_index end h.ends in
    let v : List ℕ = slice_range bytes (edge start) (edge end) in
    let k = there ((nat_le (edge start) (edge end) && nat_le (edge end) (length bytes)) && is_utf8 v) v h.is_text in
    let up : edge start ≤ edge end = leb-true _ _ (both _ _ (both _ _ k.0).0).0 in
    record { rises = omega (arith, up, i, j); is_slice = k.1 ∙ (λ n. Some (slice_range bytes (i n) (j n))) }

-- a point with no columns of a tab before it
outside : Point → Point
outside p = record { line = p.line; column = p.column; index = p.index; vs = 0 }

-- such is a point in no tab
is_outside : (p : Point) → p.vs ≡ 0 → p ≡ outside p
unfolding outside
is_outside p h = λ i. record { line = p.line; column = p.column; index = p.index; vs = h i }

-- between two of them a whole value is the bytes
whole_outside : (v w : List ℕ) (start end : Point) → is_verbatim (v ++ w) ≡ true → whole v (outside start) (outside end) ≡ v
unfolding outside
whole_outside [] w start end h = refl
whole_outside (b ∷ v) w start end h = no_nul (b ∷ v) w h

whole_is : (v w : List ℕ) (start end : Point) → start.vs ≡ 0 → end.vs ≡ 0 → is_verbatim (v ++ w) ≡ true → whole v start end ≡ v
whole_is v w start end s e h = (λ i. whole v (is_outside start s i) (is_outside end e i)) ∙ whole_outside v w start end h

-- ---- The nodes of plain spans

-- one Text
one_text : List ℕ → Point → Point → Trees
one_text value start end = node_at (text value) nothing start end

-- nothing where there is no span, and else one Text
text_unless : Bool → List ℕ → Point → Point → Trees
text_unless true value start end = nothing
text_unless false value start end = one_text value start end

module _ (hidden : List Bool) (bytes : List ℕ) (decode : List ℕ → ℕ → Option (List ℕ)) (to : Point) where
  -- the bytes up to a point are those of a span, and those that are left
  record IsSplit (start end : Point) : Type 0 where
    meets : slice_range bytes start.index to.index ≡ slice_range bytes start.index end.index ++ slice_range bytes end.index to.index
    verbatim : is_verbatim (slice_range bytes start.index end.index ++ slice_range bytes end.index to.index) ≡ true
    none_hidden : list_all not (slice_range hidden start.index end.index) ≡ true
    rest : StandForThemselves hidden bytes end to

  splits : (start end : Point) → start.index ≤ end.index → end.index ≤ to.index → StandForThemselves hidden bytes start to → IsSplit start end
  splits start end h k stand =
      let m = meet bytes start.index end.index to.index h k in
      let verbatim = subst (λ (v : List ℕ). is_verbatim v ≡ true) m stand.verbatim in
      let f = ap (list_all not) (meet hidden start.index end.index to.index h k) ∙ list_all-append not (slice_range hidden start.index end.index) (slice_range hidden end.index to.index) in
      let flags = both _ _ (sym f ∙ stand.none_hidden) in
      record {
        meets = m;
        verbatim = verbatim;
        none_hidden = flags.0;
        rest = record { verbatim = verbatim_rest (slice_range bytes start.index end.index) _ verbatim; none_hidden = flags.1 };
      }

  -- the value of a span is its bytes
  value_is : (start end : Point) → IsPlainSpan bytes start end → IsSplit start end → value_read (source_hiding hidden bytes decode) start end ≡ slice_range bytes start.index end.index
  value_is start end h x =
      let index = at_index start h.begins in
      let here = (slice_of bytes start end h).is_slice in
      (λ i. whole (visible (drop (index i) hidden) (unwrap_or (here i) [])) start end)
      ∙ ap (λ (v : List ℕ). whole v start end) (all_visible (end.index - start.index) (drop start.index hidden) (drop start.index bytes) x.none_hidden)
      ∙ whole_is (slice_range bytes start.index end.index) (slice_range bytes end.index to.index) start end h.begins h.ends x.verbatim

  -- so is the text of a line ending
  ending_is : (start end : Point) → IsPlainSpan bytes start end → IsSplit start end → ending_read (source_hiding hidden bytes decode) start end ≡ slice_range bytes start.index end.index
  ending_is start end h x =
      let v : List ℕ = slice_range bytes start.index end.index in
      let rest : List ℕ = drop end.index bytes in
      ap (λ (value : List ℕ). cond (is_return value && is_empty_line rest) (10 ∷ []) value) (value_is start end h x)
      ∙ second (is_return v) (is_empty_line rest) (10 ∷ []) v (λ r. no_empty_line (to.index - end.index) rest (feed_after v (slice_range bytes end.index to.index) x.verbatim r))

  -- plain spans go up
  up_to : (from start end : Point) → from ≡ start → IsPlainSpan bytes start end → end.index ≤ to.index → from.index ≤ to.index
  up_to from start end same here after =
      let i : from.index ≡ start.index = ap (λ (p : Point). p.index) same in
      let up = (slice_of bytes start end here).rises in
      omega (arith, i, up, after)

  rises : (from : Point) (inside : Forest) → ArePlain bytes from inside to → from.index ≤ to.index
  rises from empty h = let i : from.index ≡ to.index = ap (λ (p : Point). p.index) h in omega arith
  rises from (span names.Data start end empty rest) h = up_to from start end h.0 h.1 (rises end rest h.2)
  rises from (span names.LineEnding start end empty rest) h = up_to from start end h.0 h.1 (rises end rest h.2)
  rises from (span _ start end _ rest) h = absurd h

  -- so the first of them splits the bytes
  splits_at : (from start end : Point) (rest : Forest) → from ≡ start → IsPlainSpan bytes start end → ArePlain bytes end rest to → StandForThemselves hidden bytes from to → IsSplit start end
  splits_at from start end rest same here after stand =
      splits start end (slice_of bytes start end here).rises (rises end rest after) (subst (λ (p : Point). StandForThemselves hidden bytes p to) same stand)

  -- its Text and the Text of the others, if there are any, are one Text
  joins : (start end : Point) (rest : Forest) → ArePlain bytes end rest to → IsSplit start end
      → join (one_text (slice_range bytes start.index end.index) start end) (text_unless (is_empty rest) (slice_range bytes end.index to.index) end to) ≡ one_text (slice_range bytes start.index to.index) start to
  unfolding one_text text_unless
  joins start end empty h x =
      let v : List ℕ = slice_range bytes start.index end.index in
      let nothing_left = ap (λ (p : Point). slice_range bytes end.index p.index) (sym h) ∙ none_between bytes end.index in
      let same = sym (x.meets ∙ ap (λ (w : List ℕ). v ++ w) nothing_left ∙ append-nil v) in
      λ i. one_text (same i) start (h i)
  joins start end (span _ _ _ _ _) h x = ap (λ (v : List ℕ). one_text v start to) (sym x.meets)

  -- so the nodes of plain spans are one Text
  nodes_are : (place : Place) (from : Point) (inside : Forest) → place.line_endings ≡ true → ArePlain bytes from inside to → StandForThemselves hidden bytes from to
      → nodes_of (decorate (source_hiding hidden bytes decode) place (items inside)) ≡ text_unless (is_empty inside) (slice_range bytes from.index to.index) from to
  unfolding one_text text_unless
  nodes_are place from empty e h stand = refl
  nodes_are place from (span names.Data start end empty rest) e h stand =
      let x = splits_at from start end rest h.0 h.1 h.2 stand in
      let value = value_is start end h.1 x in
      let after = nodes_are (inherited_after (content contents.Data) place) end rest e h.2 x.rest in
      (λ i. join (one_text (value i) start end) (after i)) ∙ joins start end rest h.2 x ∙ (ap (λ (p : Point). one_text (slice_range bytes p.index to.index) p to) (sym h.0))
  nodes_are place from (span names.LineEnding start end empty rest) e h stand =
      let x = splits_at from start end rest h.0 h.1 h.2 stand in
      let value = ending_is start end h.1 x in
      let after = nodes_are (inherited_after (content contents.LineEnding) place) end rest e h.2 x.rest in
      (λ i. join (cond (e i) (one_text (value i) start end) nothing) (after i)) ∙ joins start end rest h.2 x ∙ (ap (λ (p : Point). one_text (slice_range bytes p.index to.index) p to) (sym h.0))
  nodes_are place from (span _ start end _ rest) e h stand = absurd h

-- plain spans where line endings are text
pub plain_nodes : (hidden : List Bool) (bytes : List ℕ) (decode : List ℕ → ℕ → Option (List ℕ)) (place : Place) (from to : Point) (inside : Forest)
    → ArePlain bytes from inside to → StandForThemselves hidden bytes from to → is_empty inside ≡ false → place.line_endings ≡ true
    → nodes_of (decorate (source_hiding hidden bytes decode) place (items inside)) ≡ node_at (text (slice_range bytes from.index to.index)) nothing from to
unfolding one_text text_unless
plain_nodes hidden bytes decode place from to inside plain stand some endings =
    nodes_are hidden bytes decode to place from inside endings plain stand ∙ ap (λ (none : Bool). text_unless none (slice_range bytes from.index to.index) from to) some

-- a paragraph of them alone
pub plain_tree : (hidden : List Bool) (bytes : List ℕ) (decode : List ℕ → ℕ → Option (List ℕ)) (from to : Point) (inside : Forest)
    → ArePlain bytes from inside to → StandForThemselves hidden bytes from to → is_empty inside ≡ false
    → meaning (source_hiding hidden bytes decode) (span names.Paragraph from to inside empty) ≡ root_with_text (slice_range bytes from.index to.index) from to
plain_tree hidden bytes decode from to inside plain stand some =
    let place : Place = inherited_in (content contents.Paragraph) inherited_at_root in
    let nodes = plain_nodes hidden bytes decode place from to inside plain stand some refl in
    λ i. record { label = root; children = node_at paragraph (nodes i) from to; position = Some (between from to) }
