-- Lemmas on the fields of a point.
use Rattle.std.proofs.Common.{◌≡◌, ◌≢◌, ℕ, suc, ◌+◌, ◌<◌, ◌≤◌, List, [], ◌∷◌, ◌++◌, Option, Some, None, true, eqb, ◌⊎◌, inl, inr, length, get_or, take, drop, unwrap_or, refl, sym, ◌∙◌, ap, arith, append-nil}
use Rattle.std.specs.Char.{digit_value}
use Rattle.std.specs.Str.Parse.{digits_value, AllDigits}
use Rattle.std.proofs.lemmas.Bool.Decides.{nat_tests}
use Rattle.std.proofs.lemmas.Grind.{common_steps}
use Rattle.std.proofs.lemmas.List.{get_or-drop}
use Rattle.std.proofs.Math.Seq.{drop-cons}
use Rattle.markdown_events.specs.declared.event.Point.{Point}
use Rattle.event_lines.specs.Lines.{before, after, number_of, spaces_of, point_of, ◌>>=◌}
use Rattle.event_lines.specs.Fronts.{rest_after, field_of, index_and_spaces_of, NoNumberBegins, NumberBegins, FieldBegins, IndexBegins, LastNumberBegins, PointBegins, AlwaysSays}
use Rattle.event_lines.proofs.CutLemmas.{from, drop_at, parts_of, step_before, rest_short, line_front, IsLine, before_front, after_front}
use Rattle.event_lines.proofs.NumberLemmas.{IsDigits, digits_of_number, value_of, ends_at, digits_no_colon, digits_before_colon, before_digits, after_digits, number_mixed}

-- ---- Fields

-- digits before a colon, in a line
record BeforeColon (ds zs : List ℕ) : Type 0 where
  line : before 10 (ds ++ (58 ∷ zs)) ≡ ds ++ (58 ∷ before 10 zs)
  front : before 58 (ds ++ (58 ∷ before 10 zs)) ≡ ds
  back : after 58 (ds ++ (58 ∷ before 10 zs)) ≡ Some (before 10 zs)
  value : number_of ds ≡ Some (digits_value 10 ds)

before_colon : (ds zs : List ℕ) → IsDigits ds → BeforeColon ds zs
before_colon ds zs d = record {
  line = before_digits 10 ds (58 ∷ zs) (omega arith) d.all;
  front = before_digits 58 ds (58 ∷ before 10 zs) (omega arith) d.all ∙ append-nil ds;
  back = after_digits 58 ds (58 ∷ before 10 zs) (omega arith) d.all;
  value = value_of ds d;
}

field_colon : (ds zs : List ℕ) → IsDigits ds → field_of (before 10 (ds ++ (58 ∷ zs))) ≡ Some (digits_value 10 ds, before 10 zs)
unfolding field_of
field_colon ds zs d =
    let c : BeforeColon ds zs = before_colon ds zs d in
    rw (c.line, c.back, c.front, c.value) refl

-- a number and a colon
pub field_some : (text : List ℕ) (v n : ℕ) → NumberBegins text v n → n < length text → get_or text n 0 ≡ 58 → FieldBegins text v (from text (n + 1))
field_some text v n r lt colon =
    let more = from text (n + 1) in
    let e : drop n text ≡ 58 ∷ more = drop_at text n 58 lt colon in
    let ds = take n text in
    let d : IsDigits ds = digits_of_number text v n r in
    let parts : text ≡ ds ++ (58 ∷ more) = parts_of text n (58 ∷ more) e in
    record {
      field = ap (λ t. field_of (before 10 t)) parts ∙ field_colon ds more d ∙ ap (λ u. Some (u, before 10 more)) (sym r.is);
      lines = ap (after 10) parts ∙ after_digits 10 ds (58 ∷ more) (omega arith) d.all;
    }

-- a step that fails, whatever came before
pub fails_after : {A B C : Type 0} (o : Option A) (p : Option B) (f : A → B → Option C) → p ≡ None → (o >>= λ a. p >>= λ b. f a b) ≡ None
fails_after None p f e = refl
fails_after (Some a) p f e = rw e refl

field_fails : (line : List ℕ) → number_of (before 58 line) ≡ None → field_of line ≡ None
unfolding field_of
field_fails line e = fails_after (after 58 line) (number_of (before 58 line)) (λ a b. Some (b, a)) e

field_alone : (line : List ℕ) → after 58 line ≡ None → field_of line ≡ None
unfolding field_of
field_alone line e = rw e refl

last_fails : (line : List ℕ) → number_of (before 58 line) ≡ None → index_and_spaces_of line ≡ None
unfolding index_and_spaces_of
last_fails line e = rw e refl

mixed_field : (ds zs : List ℕ) (y : ℕ) → AllDigits 10 ds → 10 ≤ digit_value y → y ≢ 58 → y ≢ 10 → number_of (before 58 (before 10 (ds ++ (y ∷ zs)))) ≡ None
mixed_field ds zs y all h colon feed =
    let a : before 10 (ds ++ (y ∷ zs)) ≡ ds ++ (y ∷ before 10 zs) = before_digits 10 ds (y ∷ zs) (omega arith) all ∙ ap (λ l. ds ++ l) (step_before 10 y zs feed) in
    let b : before 58 (ds ++ (y ∷ before 10 zs)) ≡ ds ++ (y ∷ before 58 (before 10 zs)) = before_digits 58 ds (y ∷ before 10 zs) (omega arith) all ∙ ap (λ l. ds ++ l) (step_before 58 y (before 10 zs) colon) in
    ap number_of (ap (before 58) a ∙ b) ∙ number_mixed ds (before 58 (before 10 zs)) y h

step_else : (ds zs : List ℕ) (y : ℕ) → AllDigits 10 ds → 10 ≤ digit_value y → y ≢ 58 → (y ≡ 10) ⊎ (y ≢ 10) → field_of (before 10 (ds ++ (y ∷ zs))) ≡ None
step_else ds zs y all h colon (inl feed) =
    let is : eqb y 10 ≡ true = grind (arith, nat_tests) in
    let none : before 10 (y ∷ zs) ≡ [] = rw is refl in
    let line : before 10 (ds ++ (y ∷ zs)) ≡ ds = ends_at ds (y ∷ zs) all none in
    ap field_of line ∙ field_alone ds (digits_no_colon ds all)
step_else ds zs y all h colon (inr feed) = field_fails (before 10 (ds ++ (y ∷ zs))) (mixed_field ds zs y all h colon feed)

ten_or_not : (y : ℕ) → (y ≡ 10) ⊎ (y ≢ 10)
ten_or_not y = grind (arith, nat_tests)

field_else : (ds ys : List ℕ) → AllDigits 10 ds → 10 ≤ digit_value (get_or ys 0 0) → get_or ys 0 0 ≢ 58 → field_of (before 10 (ds ++ ys)) ≡ None
field_else ds [] all h colon =
    let line : before 10 (ds ++ []) ≡ ds = ends_at ds [] all refl in
    ap field_of line ∙ field_alone ds (digits_no_colon ds all)
field_else ds (y ∷ zs) all h colon = step_else ds zs y all h colon (ten_or_not y)

-- a number and no colon
pub field_none : (text : List ℕ) (v n : ℕ) → NumberBegins text v n → get_or text n 0 ≢ 58 → field_of (before 10 text) ≡ None
field_none text v n r ne =
    let ds = take n text in
    let ys = drop n text in
    let first : get_or ys 0 0 ≡ get_or text n 0 = grind (arith, get_or-drop n text 0 0) in
    let parts : text ≡ ds ++ ys = parts_of text n ys refl in
    ap (λ t. field_of (before 10 t)) parts ∙ field_else ds ys r.digits (rw first r.ends) (rw first ne)

-- no number
pub field_no_number : (text : List ℕ) → NoNumberBegins text → field_of (before 10 text) ≡ None
field_no_number text bad = field_fails (before 10 text) bad.field

-- ---- An index and virtual spaces

-- no index
pub last_no_number : (text : List ℕ) → NoNumberBegins text → index_and_spaces_of (before 10 text) ≡ None
last_no_number text bad = last_fails (before 10 text) bad.field

last_colon : (ds zs : List ℕ) → IsDigits ds → index_and_spaces_of (before 10 (ds ++ (58 ∷ zs))) ≡ (number_of (before 10 zs) >>= λ vs. Some (digits_value 10 ds, vs))
unfolding index_and_spaces_of
last_colon ds zs d =
    let c : BeforeColon ds zs = before_colon ds zs d in
    rw (c.line, c.front, c.value, c.back) refl

-- virtual spaces that are a number
pub last_some : (text : List ℕ) (v n : ℕ) (rest : List ℕ) (vs : ℕ) → NumberBegins text v n → n < length text → get_or text n 0 ≡ 58 → LastNumberBegins (from text (n + 1)) vs rest → IndexBegins text v vs rest
last_some text v n rest vs r lt colon w =
    let more = from text (n + 1) in
    let e : drop n text ≡ 58 ∷ more = drop_at text n 58 lt colon in
    let ds = take n text in
    let d : IsDigits ds = digits_of_number text v n r in
    let parts : text ≡ ds ++ (58 ∷ more) = parts_of text n (58 ∷ more) e in
    let last : index_and_spaces_of (before 10 (ds ++ (58 ∷ more))) ≡ Some (digits_value 10 ds, vs) = last_colon ds more d ∙ ap (λ o. o >>= λ u. Some (digits_value 10 ds, u)) w.number in
    let lines : after 10 text ≡ after 10 more = ap (after 10) parts ∙ after_digits 10 ds (58 ∷ more) (omega arith) d.all in
    record {
      last = ap (λ t. index_and_spaces_of (before 10 t)) parts ∙ last ∙ ap (λ u. Some (u, vs)) (sym r.is);
      lines = w.lines ∙ ap (λ o. unwrap_or o []) (sym lines);
    }

-- virtual spaces that are none
pub last_wrong : (text : List ℕ) (v n : ℕ) → NumberBegins text v n → n < length text → get_or text n 0 ≡ 58 → number_of (before 10 (from text (n + 1))) ≡ None → index_and_spaces_of (before 10 text) ≡ None
last_wrong text v n r lt colon bad =
    let more = from text (n + 1) in
    let e : drop n text ≡ 58 ∷ more = drop_at text n 58 lt colon in
    let ds = take n text in
    let d : IsDigits ds = digits_of_number text v n r in
    let parts : text ≡ ds ++ (58 ∷ more) = parts_of text n (58 ∷ more) e in
    ap (λ t. index_and_spaces_of (before 10 t)) parts ∙ last_colon ds more d ∙ ap (λ o. o >>= λ u. Some (digits_value 10 ds, u)) bad

last_digits : (ds : List ℕ) → IsDigits ds → index_and_spaces_of ds ≡ Some (digits_value 10 ds, 0)
unfolding index_and_spaces_of
last_digits ds d =
    let a : before 58 ds ≡ ds = digits_before_colon ds d.all in
    let b : after 58 ds ≡ None = digits_no_colon ds d.all in
    let n : number_of ds ≡ Some (digits_value 10 ds) = value_of ds d in
    rw (b, a, n) refl

-- the end of the line after the digits
record IsEnd (ys rest : List ℕ) : Type 0 where
  none : before 10 ys ≡ []
  lines : rest ≡ rest_after 10 ys

end_feed : (rest : List ℕ) → IsEnd (10 ∷ rest) rest
end_feed rest = record { none = refl; lines = refl }

end_nothing : IsEnd [] []
end_nothing = record { none = refl; lines = refl }

last_ends : (text : List ℕ) (v n : ℕ) (ys rest : List ℕ) → NumberBegins text v n → drop n text ≡ ys → IsEnd ys rest → IndexBegins text v 0 rest
last_ends text v n ys rest r e end =
    let ds = take n text in
    let d : IsDigits ds = digits_of_number text v n r in
    let parts : text ≡ ds ++ ys = parts_of text n ys e in
    let lines : after 10 text ≡ after 10 ys = ap (after 10) parts ∙ after_digits 10 ds ys (omega arith) d.all in
    record {
      last = ap (λ t. index_and_spaces_of (before 10 t)) parts ∙ ap index_and_spaces_of (ends_at ds ys d.all end.none) ∙ last_digits ds d ∙ ap (λ u. Some (u, 0)) (sym r.is);
      lines = end.lines ∙ ap (λ o. unwrap_or o []) (sym lines);
    }

-- an index and a line feed
pub last_feed : (text : List ℕ) (v n : ℕ) → NumberBegins text v n → n < length text → get_or text n 0 ≡ 10 → IndexBegins text v 0 (from text (n + 1))
last_feed text v n r lt feed = last_ends text v n (10 ∷ from text (n + 1)) (from text (n + 1)) r (drop_at text n 10 lt feed) (end_feed (from text (n + 1)))

-- an index, and the end of the text
pub last_nothing : (text : List ℕ) (v n : ℕ) → NumberBegins text v n → n ≡ length text → IndexBegins text v 0 []
last_nothing text v n r all = last_ends text v n [] [] r (grind (arith, common_steps)) end_nothing

-- something else after the digits
pub last_none : (text : List ℕ) (v n : ℕ) → NumberBegins text v n → n < length text → get_or text n 0 ≢ 58 → get_or text n 0 ≢ 10 → index_and_spaces_of (before 10 text) ≡ None
last_none text v n r lt colon feed =
    let ds = take n text in
    let y = get_or text n 0 in
    let e : drop n text ≡ y ∷ drop (suc n) text = drop-cons text n 0 lt in
    let parts : text ≡ ds ++ (y ∷ drop (suc n) text) = parts_of text n (y ∷ drop (suc n) text) e in
    ap (λ t. index_and_spaces_of (before 10 t)) parts ∙ last_fails (before 10 (ds ++ (y ∷ drop (suc n) text))) (mixed_field ds (drop (suc n) text) y r.digits r.ends colon feed)

number_ends : (text : List ℕ) (v n : ℕ) (ys rest : List ℕ) → NumberBegins text v n → drop n text ≡ ys → IsEnd ys rest → LastNumberBegins text v rest
number_ends text v n ys rest r e end =
    let ds = take n text in
    let d : IsDigits ds = digits_of_number text v n r in
    let parts : text ≡ ds ++ ys = parts_of text n ys e in
    let lines : after 10 text ≡ after 10 ys = ap (after 10) parts ∙ after_digits 10 ds ys (omega arith) d.all in
    record {
      number = ap (λ t. number_of (before 10 t)) parts ∙ ap number_of (ends_at ds ys d.all end.none) ∙ value_of ds d ∙ ap (λ u. Some u) (sym r.is);
      lines = end.lines ∙ ap (λ o. unwrap_or o []) (sym lines);
    }

-- a number and a line feed
pub number_feed : (text : List ℕ) (v n : ℕ) → NumberBegins text v n → n < length text → get_or text n 0 ≡ 10 → LastNumberBegins text v (from text (n + 1))
number_feed text v n r lt feed = number_ends text v n (10 ∷ from text (n + 1)) (from text (n + 1)) r (drop_at text n 10 lt feed) (end_feed (from text (n + 1)))

-- a number, and the end of the text
pub number_nothing : (text : List ℕ) (v n : ℕ) → NumberBegins text v n → n ≡ length text → LastNumberBegins text v []
number_nothing text v n r all = number_ends text v n [] [] r (grind (arith, common_steps)) end_nothing

-- a number and something else
pub number_none : (text : List ℕ) (v n : ℕ) → NumberBegins text v n → n < length text → get_or text n 0 ≢ 10 → number_of (before 10 text) ≡ None
number_none text v n r lt feed =
    let ds = take n text in
    let zs = drop (suc n) text in
    let y = get_or text n 0 in
    let e : drop n text ≡ y ∷ zs = drop-cons text n 0 lt in
    let parts : text ≡ ds ++ (y ∷ zs) = parts_of text n (y ∷ zs) e in
    let line : before 10 (ds ++ (y ∷ zs)) ≡ ds ++ (y ∷ before 10 zs) = before_digits 10 ds (y ∷ zs) (omega arith) r.digits ∙ ap (λ l. ds ++ l) (step_before 10 y zs feed) in
    ap (λ t. number_of (before 10 t)) parts ∙ ap number_of line ∙ number_mixed ds (before 10 zs) y r.ends

-- ---- Points

abbrev two : ℕ → ℕ → Option (ℕ × ℕ)
two a b = Some (a, b)

abbrev found : ℕ → List ℕ → Option (ℕ × List ℕ)
found a b = Some (a, b)

abbrev the_point : ℕ → ℕ → ℕ → ℕ → Point
the_point line column index vs = record { line = line; column = column; index = index; vs = vs }

point_last : (line column : ℕ) (index vs : Option ℕ) → (index >>= λ i. vs >>= λ v. Some (the_point line column i v)) ≡ ((index >>= λ i. vs >>= λ v. two i v) >>= λ c. Some (the_point line column c.0 c.1))
point_last line column None vs = refl
point_last line column (Some i) None = refl
point_last line column (Some i) (Some v) = refl

-- what `point_of` does from the index on, by fields and as it is written
abbrev last_step : ℕ → ℕ → List ℕ → Option Point
last_step line column text = index_and_spaces_of text >>= λ c. Some (the_point line column c.0 c.1)

abbrev point_step : ℕ → ℕ → List ℕ → Option Point
point_step line column text = number_of (before 58 text) >>= λ index. spaces_of (after 58 text) >>= λ vs. Some (the_point line column index vs)

-- the two are the same
same_last : (line column : ℕ) (text : List ℕ) → point_step line column text ≡ last_step line column text
unfolding index_and_spaces_of
same_last line column text = point_last line column (number_of (before 58 text)) (spaces_of (after 58 text))

point_column : (line : ℕ) (more : Option (List ℕ)) (column : Option ℕ) → (more >>= λ a. column >>= λ c. point_step line c a) ≡ ((more >>= λ a. column >>= λ c. found c a) >>= λ b. last_step line b.0 b.1)
point_column line None column = refl
point_column line (Some a) None = refl
point_column line (Some a) (Some c) = same_last line c a

abbrev column_step : ℕ → List ℕ → Option Point
column_step line text = field_of text >>= λ b. last_step line b.0 b.1

-- and so from the column on
same_column : (line : ℕ) (text : List ℕ) → (after 58 text >>= λ a. number_of (before 58 text) >>= λ c. point_step line c a) ≡ column_step line text
unfolding field_of
same_column line text = point_column line (after 58 text) (number_of (before 58 text))

point_line : (more : Option (List ℕ)) (line : Option ℕ) →
    (more >>= λ al. after 58 al >>= λ ac. line >>= λ l. number_of (before 58 al) >>= λ c. point_step l c ac) ≡ ((more >>= λ al. line >>= λ l. found l al) >>= λ a. column_step a.0 a.1)
point_line None line = refl
point_line (Some al) None = fails_after (after 58 al) None (λ ac l. number_of (before 58 al) >>= λ c. point_step l c ac) refl
point_line (Some al) (Some l) = same_column l al

-- a point, field by field
point_steps : (text : List ℕ) → point_of text ≡ (field_of text >>= λ a. column_step a.0 a.1)
unfolding point_of field_of
point_steps text = point_line (after 58 text) (number_of (before 58 text))

-- no line
pub point_no_line : (text : List ℕ) → field_of (before 10 text) ≡ None → point_of (before 10 text) ≡ None
point_no_line text e = point_steps (before 10 text) ∙ ap (λ o. o >>= λ a. column_step a.0 a.1) e

-- a line and no column
pub point_no_column : (text after_line : List ℕ) (line : ℕ) → FieldBegins text line after_line → field_of (before 10 after_line) ≡ None → point_of (before 10 text) ≡ None
point_no_column text after_line line l e =
    point_steps (before 10 text) ∙ ap (λ o. o >>= λ a. column_step a.0 a.1) l.field ∙ ap (λ o. o >>= λ b. last_step line b.0 b.1) e

-- a line, a column, and no index
pub point_no_last : (text after_line after_column : List ℕ) (line column : ℕ) → FieldBegins text line after_line → FieldBegins after_line column after_column → index_and_spaces_of (before 10 after_column) ≡ None → point_of (before 10 text) ≡ None
point_no_last text after_line after_column line column l c e =
    point_steps (before 10 text) ∙ ap (λ o. o >>= λ a. column_step a.0 a.1) l.field ∙ ap (λ o. o >>= λ b. last_step line b.0 b.1) c.field ∙ ap (λ o. o >>= λ p. Some (the_point line column p.0 p.1)) e

-- a line, a column and an index
pub point_some : (text after_line after_column rest : List ℕ) (line column index vs : ℕ) → FieldBegins text line after_line → FieldBegins after_line column after_column → IndexBegins after_column index vs rest
    → PointBegins text (record { line = line; column = column; index = index; vs = vs }) rest
point_some text after_line after_column rest line column index vs l c p = record {
  says = point_steps (before 10 text) ∙ ap (λ o. o >>= λ a. column_step a.0 a.1) l.field ∙ ap (λ o. o >>= λ b. last_step line b.0 b.1) c.field ∙ ap (λ o. o >>= λ q. Some (the_point line column q.0 q.1)) p.last;
  lines = p.lines ∙ ap (λ o. unwrap_or o []) (sym (l.lines ∙ c.lines));
}

-- ---- The text of a point

-- a text of a point with its line feed
pub says_always : (front : List ℕ) (point : Point) → after 10 front ≡ Some [] → point_of (before 10 front) ≡ Some point → AlwaysSays front point
says_always front point a p = record {
  says = λ rest. ap point_of (before_front 10 front rest a) ∙ p;
  lines = λ rest. after_front 10 front rest a;
}

-- the text of a point, to be found again
pub line_says : (text : List ℕ) (point : Point) (rest : List ℕ) (n : ℕ) → PointBegins text point rest → n + length rest ≡ length text → 0 < length rest → AlwaysSays (take n text) point
line_says text point rest n p all some =
    let line : IsLine 10 (take n text) text = line_front 10 text n (rw p.lines at some) (rw p.lines at all) in
    says_always (take n text) point line.ends (ap point_of line.same ∙ p.says)

-- the lines after a point are no longer than it and they
pub point_short : (text : List ℕ) (point : Point) (rest : List ℕ) → PointBegins text point rest → length rest ≤ length text
point_short text point rest p = let h : length (rest_after 10 text) ≤ length text = rest_short 10 text in rw p.lines h
