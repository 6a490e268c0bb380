-- Where a writer stands, before and after its calls.
use Rattle.std.proofs.Common.{Bool, IfSome, List, None, Option, Some, [], ap, arith, false, if◌then◌else◌, inl, inr, is_some, length, not, refl, slice_range, subst, sym, true, ℕ, ◌&&◌, ◌+◌, ◌-◌, ◌<◌, ◌∷◌, ◌∙◌, ◌≡◌, ◌≤◌, ◌⊎◌}
use Rattle.std.specs.Prelude.{get_or, nat_le, nat_lt, unwrap_or}
use Rattle.std.specs.Str.{IsCharBoundary, is_utf8}
use Rattle.std.proofs.lemmas.Str.{IsCharBoundary-after_ascii, IsUtf8-between, IsUtf8-from_is_utf8, is_utf8-from_IsUtf8}
use Rattle.std.proofs.lemmas.Bool.{cases_lt}
use Rattle.std.proofs.lemmas.Bool.Decides.{nat_tests}
use Rattle.std.proofs.lemmas.Option.{get_or_from_slice_get, same_Some, slice_get-get_or, slice_get_within}
use Rattle.commonmark_syntax.proofs.Cuts.{cut_boundary}
use Rattle.commonmark_syntax.specs.Cuts.{IsCut}
use Rattle.event_writer.specs.Calls.{CanReach, EndsLine, IsLineStart}
use Rattle.event_writer.specs.Stages.{Enclosing, Stage, character_reference_value, entered, are_beside, exited, inlines, is_in_row, is_in_value, skips, takes_inlines, takes_line_endings, written}
use Rattle.event_writer.specs.Standing.{StandsAt, are_signs, is_decoded, is_readable}
use Rattle.event_writer.specs.Written.{Given, Written}
use Rattle.event_writer.proofs.Standing.{begun, broken, finished, may_begin, may_break, may_finish, may_mend, may_stand, mended, moved, moved_break, stood, weaker}
use Rattle.markdown_acceptance.specs.Calls.{AfterToken, Closed, Opened, may_close, may_open, may_write}
use Rattle.markdown_events.specs.Names.{role_of}
use Rattle.markdown_events.specs.Slices.{edge, slice, text_between}
use Rattle.markdown_events.specs.declared.event.Name.{Name}
use Rattle.markdown_events.specs.declared.event.Point.{Point}
use Rattle.markdown_events.specs.declared.role.Content.TheVariants as contents
use Rattle.markdown_events.specs.declared.role.ItemKind.TheVariants.{Content as content, Part as part}
use Rattle.markdown_events.specs.declared.role.Part.TheVariants as parts
use Rattle.markdown_events.specs.declared.role.Role.{Role}
use Rattle.markdown_events.specs.declared.role.Role.TheVariants.{Significant as significant}
use Rattle.markdown_grammar.specs.Document.{Source, byte_at, is_depth, is_item_number, length_between, source}
use Rattle.markdown_acceptance.specs.Stacks.{Stack}
use Rattle.markdown_pieces.specs.Tilings.{point}
use Rattle.markdown_pieces.specs.Walks.{inside}
use Rattle.markdown_text.specs.Contents.{spot}
use Rattle.markdown_text.specs.Standings.{BreaksAt, HasBegun, HasDepth, HasFront, HasValue, IsAt, IsKnown, MayBreak, MayEndLine, MayEnter, MayExit, MayWrite, StandsIn, after_line, ended, is_hard_break}

-- ---- Options

-- what is some is some value
pub some_value : {A : Type 0} (o : Option A) → is_some o ≡ true → (x : A) × (o ≡ Some x)
some_value None h = absurd (cc h)
some_value (Some x) h = (x, refl)

-- what follows of each value
pub if_some : {A : Type 0} (P : A → Type 0) (o : Option A) → ((x : A) → o ≡ Some x → P x) → IfSome o P
if_some P None h = tt
if_some P (Some x) h = h x refl

-- ---- Slices

le_so : (m n : ℕ) → m ≤ n → nat_le m n ≡ true
le_so m n h = grind (arith, nat_tests)

lt_so : (m n : ℕ) → m < n → nat_lt m n ≡ true
lt_so m n h = grind (arith, nat_tests)

lt_is : (m n : ℕ) → nat_lt m n ≡ true → m < n
lt_is m n h = grind (arith, nat_tests)

between_some : (bytes : List ℕ) (from to : ℕ) → nat_le from to ≡ true → nat_le to (length bytes) ≡ true → is_utf8 (slice_range bytes from to) ≡ true → text_between bytes from to ≡ Some (slice_range bytes from to)
between_some bytes from to a b c = (λ i. if (a i && b i) && c i then Some (slice_range bytes from to) else None)

-- between two ends of characters there is a text
pub slice_some : (bytes : List ℕ) (start end : Point) → is_utf8 bytes ≡ true → edge start ≤ edge end → IsCharBoundary bytes (edge start) → IsCharBoundary bytes (edge end) → slice bytes start end ≡ Some (slice_range bytes (edge start) (edge end))
unfolding slice
slice_some bytes start end valid order first last =
    between_some bytes (edge start) (edge end) (le_so (edge start) (edge end) order) (le_so (edge end) (length bytes) last.0) (is_utf8-from_IsUtf8 (slice_range bytes (edge start) (edge end)) (IsUtf8-between bytes (edge start) (edge end) (IsUtf8-from_is_utf8 bytes valid) order first last))

-- the same where a slice is asked for alone
has_slice : (bytes : List ℕ) (start end : Point) → is_utf8 bytes ≡ true → edge start ≤ edge end → IsCharBoundary bytes (edge start) → IsCharBoundary bytes (edge end) → is_some (slice bytes start end) ≡ true
has_slice bytes start end valid order first last = ap is_some (slice_some bytes start end valid order first last)

-- ---- What is read

pub signs : (s : Source) (a : Stage) (start end : Point) → edge start ≤ edge end → edge end ≤ length s.bytes → HasValue s.bytes s.text a (significant (part parts.HeadingAtxSequence)) start end → are_signs s a start end ≡ true
signs s (inlines h) start end order within value = refl
signs s _ start end order within value = (λ i. is_depth (counted i)) ∙ value
  where
    counted : length_between s.bytes start end ≡ Some (edge end - edge start)
    counted = (λ i. if le_so (edge start) (edge end) order i && le_so (edge end) (length s.bytes) within i then Some (edge end - edge start) else None)

decoded : (s : Source) (a : Stage) (start end : Point) → slice s.bytes start end ≡ Some (slice_range s.bytes (edge start) (edge end)) → HasValue s.bytes s.text a (significant (part parts.CharacterReferenceValue)) start end → is_decoded s a start end ≡ true
decoded s (character_reference_value m) start end text value = (λ i. is_some (text i) && is_some (s.text (unwrap_or (text i) []) m)) ∙ value
decoded s _ start end text value = refl

-- what is read of a token can be
pub readable : (s : Source) (a : Stage) (r : Role) (start end : Point) → is_utf8 s.bytes ≡ true → edge start ≤ edge end → IsCharBoundary s.bytes (edge start) → IsCharBoundary s.bytes (edge end)
    → HasValue s.bytes s.text a r start end → is_readable s a r start end ≡ true
readable s a (significant (content contents.Data)) start end valid order first last value = has_slice s.bytes start end valid order first last
readable s a (significant (content contents.AutolinkLiteralEmail)) start end valid order first last value = has_slice s.bytes start end valid order first last
readable s a (significant (content contents.AutolinkLiteralWww)) start end valid order first last value = has_slice s.bytes start end valid order first last
readable s a (significant (content contents.AutolinkLiteralWhole)) start end valid order first last value = has_slice s.bytes start end valid order first last
readable s a (significant (content contents.LineEnding)) start end valid order first last value = has_slice s.bytes start end valid order first last
readable s a (significant (part parts.AutolinkEmail)) start end valid order first last value = has_slice s.bytes start end valid order first last
readable s a (significant (part parts.AutolinkProtocol)) start end valid order first last value = has_slice s.bytes start end valid order first last
readable s a (significant (part parts.LabelText)) start end valid order first last value = has_slice s.bytes start end valid order first last
readable s a (significant (part parts.ReferenceString)) start end valid order first last value = has_slice s.bytes start end valid order first last
readable s a (significant (part parts.DefinitionLabelString)) start end valid order first last value = has_slice s.bytes start end valid order first last
readable s a (significant (part parts.FootnoteDefinitionLabelString)) start end valid order first last value = has_slice s.bytes start end valid order first last
readable s a (significant (part parts.ListItemValue)) start end valid order first last value = ap is_item_number (slice_some s.bytes start end valid order first last) ∙ value
readable s a (significant (part parts.HeadingAtxSequence)) start end valid order first last value = signs s a start end order last.0 value
readable s a (significant (part parts.HeadingSetextUnderlineSequence)) start end valid order first last value = ap is_some (slice_get-get_or s.bytes start.index 0 value)
readable s a (significant (part parts.CharacterReferenceValue)) start end valid order first last value = decoded s a start end (slice_some s.bytes start end valid order first last) value
readable s a _ start end valid order first last value = refl

-- the same up to a point at the same edge
same_value : (bytes : List ℕ) (decode : List ℕ → ℕ → Option (List ℕ)) (a : Stage) (r : Role) (start end now : Point) → edge end ≡ edge now → HasValue bytes decode a r start end → HasValue bytes decode a r start now
same_value bytes decode a (significant (part parts.HeadingAtxSequence)) start end now same value = subst (λ (n : ℕ). HasDepth a (edge start) n) same value
same_value bytes decode a (significant (part parts.HeadingSetextUnderlineSequence)) start end now same value = value
same_value bytes decode a (significant (part parts.ListItemValue)) start end now same value = subst (λ (n : ℕ). is_item_number (Some (slice_range bytes (edge start) n)) ≡ true) same value
same_value bytes decode a (significant (part parts.CharacterReferenceValue)) start end now same value = subst (λ (n : ℕ). IsKnown bytes decode a (edge start) n) same value
same_value bytes decode a _ start end now same value = value

-- ---- Places

edge_within : (b : Bool) (i : ℕ) → i ≤ i + (if b then 1 else 0)
edge_within true i = omega arith
edge_within false i = omega arith

-- an edge within no tab, and one within a tab
pub edge_whole : (p : Point) → p.vs ≡ 0 → edge p ≡ p.index
edge_whole p whole = (λ i. p.index + (if nat_lt 0 (whole i) then 1 else 0)) ∙ omega arith

edge_inside : (p : Point) → 0 < p.vs → edge p ≡ p.index + 1
edge_inside p inside = (λ i. p.index + (if lt_so 0 p.vs inside i then 1 else 0))

edge_most : (p : Point) → edge p ≤ p.index + 1
edge_most p = by (nat_lt 0 p.vs)
  where
    by : (b : Bool) → p.index + (if b then 1 else 0) ≤ p.index + 1
    by true = omega arith
    by false = omega arith

-- where a cursor can go, whatever its line and its column
pub reach_at : (bytes : List ℕ) (p : Point) (to vs : ℕ) → CanReach bytes (point (spot p)) to vs → CanReach bytes p to vs
reach_at bytes p to vs h = record { order = h.order; within = h.within; line = h.line; tab = h.tab }

-- a token goes on
pub reach_edges : (bytes : List ℕ) (from end : Point) (vs : ℕ) → CanReach bytes from end.index vs → end.vs ≡ vs → edge from ≤ edge end
reach_edges bytes from end vs reach same = by reach.order
  where
    further : (a b : Bool) → (a ≡ true → b ≡ true) → end.index + (if a then 1 else 0) ≤ end.index + (if b then 1 else 0)
    further true true h = omega arith
    further true false h = absurd (cc (h refl))
    further false true h = omega arith
    further false false h = omega arith

    by : (from.index < end.index) ⊎ ((from.index ≡ end.index) × (from.vs ≤ vs)) → edge from ≤ edge end
    by (inl less) = let a = edge_most from in let b = edge_within (nat_lt 0 end.vs) end.index in omega (arith, a, b, less)
    by (inr here) = subst (λ (n : ℕ). n + (if nat_lt 0 from.vs then 1 else 0) ≤ edge end) (sym here.0) (further (nat_lt 0 from.vs) (nat_lt 0 end.vs) (λ h. lt_so 0 end.vs (let l = lt_is 0 from.vs h in let m = here.1 in omega (arith, l, m, same))))

-- and ends where a character does, also within a tab
pub reach_boundary : (bytes : List ℕ) (from end : Point) (vs : ℕ) → CanReach bytes from end.index vs → end.vs ≡ vs → is_utf8 bytes ≡ true → IsCharBoundary bytes end.index → IsCharBoundary bytes (edge end)
reach_boundary bytes from end vs reach same valid here = by (cases_lt 0 end.vs)
  where
    ascii_tab : (b : ℕ) → b ≡ 9 → b < 128
    ascii_tab b is = omega (arith, is)

    by : (0 < end.vs) ⊎ (end.vs ≤ 0) → IsCharBoundary bytes (edge end)
    by (inr none) = subst (IsCharBoundary bytes) (sym (edge_whole end (omega (arith, none)))) here
    by (inl some) =
        let tab = (reach.tab (subst (λ (n : ℕ). 0 < n) same some)).0 in
        subst (IsCharBoundary bytes) (sym (edge_inside end some)) (IsCharBoundary-after_ascii bytes end.index (IsUtf8-from_is_utf8 bytes valid) (slice_get_within bytes end.index 9 tab) (ascii_tab (get_or bytes end.index 0) (get_or_from_slice_get bytes end.index 9 0 tab)))

-- where a text may be cut, a character ends
pub cut_is_boundary : (bytes : List ℕ) (i : ℕ) → is_utf8 bytes ≡ true → i ≤ length bytes → IsCut bytes i → IsCharBoundary bytes i
cut_is_boundary bytes i valid within cut = cut_boundary bytes i (IsUtf8-from_is_utf8 bytes valid) within cut

-- ---- A writer that goes on

gone : (from to : Point → Type 0) (waits : Bool) (spans : Stack) (a : Stage) (outer : List Enclosing) → ((p : Point) → from p → to p) → StandsAt waits from spans a outer → StandsAt waits to spans a outer
gone from to true spans a outer h s = moved_break from to spans a outer h s
gone from to false spans a outer h s = moved from to spans a outer h s

-- spans that began before a place began before a later one
pub went : {R : Type 0} (old new : Written R) (waits : Bool) (a : Stage) (outer : List Enclosing) → new.given ≡ old.given → edge old.cursor ≤ edge new.cursor → IsCharBoundary old.given.bytes (edge new.cursor) → is_utf8 old.given.bytes ≡ true
    → StandsAt waits (HasBegun old.given.bytes old.cursor) new.spans a outer → StandsIn waits new a outer
went {R} old new waits a outer given order here valid s =
    let bytes : old.given.bytes ≡ new.given.bytes = sym (ap (λ (g : Given R). g.bytes) given) in
    record {
      shows = subst (λ (bs : List ℕ). StandsAt waits (HasBegun bs new.cursor) new.spans a outer) bytes
          (gone (HasBegun old.given.bytes old.cursor) (HasBegun old.given.bytes new.cursor) waits new.spans a outer (λ p h. let first = h.order in record { order = omega (arith, first, order); boundary = h.boundary }) s);
      boundary = subst (λ (bs : List ℕ). IsCharBoundary bs (edge new.cursor)) bytes here;
      valid = subst (λ (bs : List ℕ). is_utf8 bs ≡ true) bytes valid;
    }

-- the same where the cursor stays
stayed : {R : Type 0} (old new : Written R) (a b : Stage) (outer outer' : List Enclosing) → IsAt old a outer → new.given ≡ old.given → new.cursor ≡ old.cursor → StandsAt false (HasBegun old.given.bytes old.cursor) new.spans b outer' → IsAt new b outer'
stayed old new a b outer outer' s given cursor shows =
    let same : edge new.cursor ≡ edge old.cursor = ap edge cursor in
    went old new false b outer' given (omega (arith, same)) (subst (λ (n : ℕ). IsCharBoundary old.given.bytes n) (sym same) s.boundary) s.valid shows

-- ---- Spans

front_byte : (bytes : List ℕ) (cursor : Point) (r : Role) → HasFront bytes cursor r → r ≡ significant (content contents.Frontmatter) → is_some (byte_at bytes cursor) ≡ true
front_byte bytes cursor r front is = subst (HasFront bytes cursor) is front

pub enter_allowed : {R : Type 0} (w : Written R) (name : Name) → MayEnter w name → may_open w.given.bytes w.spans name w.cursor ≡ true
enter_allowed w name m =
    let b = some_value (entered m.stage (role_of name)) m.may in
    may_begin w.given.bytes (HasBegun w.given.bytes w.cursor) w.spans name w.cursor m.stage b.0 m.outer (m.at).shows b.1 (front_byte w.given.bytes w.cursor (role_of name) m.front)

pub enter_at : {R : Type 0} (old new : Written R) (name : Name) (a : Stage) (outer : List Enclosing) → IsAt old a outer → new.given ≡ old.given → new.cursor ≡ old.cursor → Opened name old.cursor old.spans new.spans
    → IfSome (entered a (role_of name)) (λ b. IsAt new b (inside name a outer))
enter_at old new name a outer s given cursor opened =
    if_some (λ b. IsAt new b (inside name a outer)) (entered a (role_of name)) (λ b is.
    stayed old new a b outer (inside name a outer) s given cursor (begun (HasBegun old.given.bytes old.cursor) old.spans new.spans name old.cursor a b outer s.shows (record { order = omega arith; boundary = s.boundary }) is opened))

exit_allowed_in : {R : Type 0} (text : List ℕ → ℕ → Option (List ℕ)) (w : Written R) (own : Stage) (outer : List Enclosing) → IsAt w own outer → is_some (ended own outer) ≡ true → may_close (source w.given.bytes text) w.spans w.cursor ≡ true
exit_allowed_in text w own [] s may = absurd (cc may)
exit_allowed_in text w own (e ∷ es) s may =
    let b = some_value (exited own e.stage (role_of e.name)) may in
    may_finish (HasBegun w.given.bytes w.cursor) (source w.given.bytes text) w.spans e.name w.cursor own e.stage b.0 es s.shows b.1 (λ start h. has_slice w.given.bytes start w.cursor s.valid h.order h.boundary s.boundary)

pub exit_allowed : {R : Type 0} (text : List ℕ → ℕ → Option (List ℕ)) (w : Written R) → MayExit w → may_close (source w.given.bytes text) w.spans w.cursor ≡ true
exit_allowed text w m = exit_allowed_in text w m.stage m.outer m.at m.may

pub exit_at : {R : Type 0} (old new : Written R) (own a : Stage) (name : Name) (outer : List Enclosing) → IsAt old own (inside name a outer) → new.given ≡ old.given → new.cursor ≡ old.cursor → Closed old.spans new.spans
    → IfSome (exited own a (role_of name)) (λ b. IsAt new b outer)
exit_at old new own a name outer s given cursor closed =
    if_some (λ b. IsAt new b outer) (exited own a (role_of name)) (λ b is.
    stayed old new own b (inside name a outer) outer s given cursor (finished (HasBegun old.given.bytes old.cursor) old.spans new.spans name own a b outer s.shows is closed))

-- ---- Tokens

pub token_allowed : {R : Type 0} (text : List ℕ → ℕ → Option (List ℕ)) (w : Written R) (name : Name) (to vs : ℕ) (end : Point) → CanReach w.given.bytes w.cursor to vs → IsCharBoundary w.given.bytes to → MayWrite text w name (record { offset = to; virtual_spaces = vs })
    → end.index ≡ to → end.vs ≡ vs → may_write (source w.given.bytes text) w.spans name w.cursor end ≡ true
token_allowed text w name to vs end reach here m index same =
    let s = m.at in
    let b = some_value (written m.stage (role_of name)) m.may in
    let reach' : CanReach w.given.bytes w.cursor end.index vs = subst (λ (n : ℕ). CanReach w.given.bytes w.cursor n vs) (sym index) reach in
    let order = reach_edges w.given.bytes w.cursor end vs reach' same in
    let last = reach_boundary w.given.bytes w.cursor end vs reach' same s.valid (subst (IsCharBoundary w.given.bytes) (sym index) here) in
    let edges : edge (point (record { offset = to; virtual_spaces = vs })) ≡ edge end = (λ i. (sym index) i + (if nat_lt 0 ((sym same) i) then 1 else 0)) in
    may_stand (HasBegun w.given.bytes w.cursor) (source w.given.bytes text) w.spans name w.cursor end m.stage b.0 m.outer s.shows b.1
    (readable (source w.given.bytes text) m.stage (role_of name) w.cursor end s.valid order s.boundary last
    (same_value w.given.bytes text m.stage (role_of name) w.cursor (point (record { offset = to; virtual_spaces = vs })) end edges m.value))

pub token_at : {R : Type 0} (old new : Written R) (name : Name) (to vs : ℕ) (a : Stage) (outer : List Enclosing) → CanReach old.given.bytes old.cursor to vs → IsCharBoundary old.given.bytes to → IsAt old a outer
    → new.given ≡ old.given → new.cursor.index ≡ to → new.cursor.vs ≡ vs → AfterToken name old.spans new.spans → IfSome (written a (role_of name)) (λ b. IsAt new b outer)
token_at old new name to vs a outer reach here s given index same after =
    let reach' : CanReach old.given.bytes old.cursor new.cursor.index vs = subst (λ (n : ℕ). CanReach old.given.bytes old.cursor n vs) (sym index) reach in
    let order = reach_edges old.given.bytes old.cursor new.cursor vs reach' same in
    let last = reach_boundary old.given.bytes old.cursor new.cursor vs reach' same s.valid (subst (IsCharBoundary old.given.bytes) (sym index) here) in
    if_some (λ b. IsAt new b outer) (written a (role_of name)) (λ b is.
    went old new false b outer given order last s.valid (stood (HasBegun old.given.bytes old.cursor) old.spans new.spans name a b outer s.shows is after))

-- ---- Hard breaks

hard_break_role : (r : Role) → is_hard_break r ≡ true → r ≡ significant (content contents.HardBreak)
hard_break_role (significant (content contents.HardBreak)) is = refl
hard_break_role _ is = absurd (cc is)

pub break_allowed : {R : Type 0} (text : List ℕ → ℕ → Option (List ℕ)) (w : Written R) (name : Name) (end : Point) → MayBreak w name → may_write (source w.given.bytes text) w.spans name w.cursor end ≡ true
break_allowed text w name end m = may_break (HasBegun w.given.bytes w.cursor) (source w.given.bytes text) w.spans name w.cursor end m.stage m.outer (m.at).shows m.may (hard_break_role (role_of name) m.is_break)

pub break_at : {R : Type 0} (old new : Written R) (name : Name) (to : ℕ) (a : Stage) (outer : List Enclosing) → CanReach old.given.bytes old.cursor to 0 → IsCharBoundary old.given.bytes to → is_hard_break (role_of name) ≡ true → takes_inlines a ≡ true → IsAt old a outer
    → new.given ≡ old.given → new.cursor.index ≡ to → new.cursor.vs ≡ 0 → AfterToken name old.spans new.spans → BreaksAt new a outer
break_at old new name to a outer reach here is may s given index same after =
    let reach' : CanReach old.given.bytes old.cursor new.cursor.index 0 = subst (λ (n : ℕ). CanReach old.given.bytes old.cursor n 0) (sym index) reach in
    let order = reach_edges old.given.bytes old.cursor new.cursor 0 reach' same in
    let last = reach_boundary old.given.bytes old.cursor new.cursor 0 reach' same s.valid (subst (IsCharBoundary old.given.bytes) (sym index) here) in
    went old new true a outer given order last s.valid (broken (HasBegun old.given.bytes old.cursor) old.spans new.spans name a outer s.shows may (hard_break_role (role_of name) is) after)

-- ---- Line endings

-- the start of a line comes after the end of the one before it, where a character ends
line_edges : (bytes : List ℕ) (from to : Point) → IsLineStart bytes from to → edge from ≤ edge to
line_edges bytes from to line =
    let a = edge_most from in
    let b = edge_within (nat_lt 0 to.vs) to.index in
    let less = line.order in
    omega (arith, a, b, less)

feed_ascii : (b : ℕ) → (b ≡ 10) ⊎ (b ≡ 13) → b < 128
feed_ascii b (inl is) = omega (arith, is)
feed_ascii b (inr is) = omega (arith, is)

ending_byte : (bytes : List ℕ) (k : ℕ) → EndsLine bytes k → (k < length bytes) × (get_or bytes k 0 < 128)
ending_byte bytes k (inl feed) = (slice_get_within bytes k 10 feed, feed_ascii (get_or bytes k 0) (inl (get_or_from_slice_get bytes k 10 0 feed)))
ending_byte bytes k (inr return) = (slice_get_within bytes k 13 return, feed_ascii (get_or bytes k 0) (inr (get_or_from_slice_get bytes k 13 0 return)))

line_boundary : (bytes : List ℕ) (from to : Point) → is_utf8 bytes ≡ true → IsLineStart bytes from to → IsCharBoundary bytes (edge to)
line_boundary bytes from to valid line =
    let before = line.before in
    let byte = ending_byte bytes before.0 before.2 in
    let at : before.0 + 1 ≡ edge to = omega arith ∙ sym before.1 ∙ sym (edge_whole to line.whole) in
    subst (IsCharBoundary bytes) at (IsCharBoundary-after_ascii bytes before.0 (IsUtf8-from_is_utf8 bytes valid) byte.0 byte.1)

line_role : (a b : Stage) (r : Role) → after_line true a r ≡ Some b → (r ≡ significant (content contents.LineEnding)) × (takes_line_endings a ≡ true) × (a ≡ b)
line_role a b (significant (content contents.LineEnding)) is = by (takes_line_endings a) refl is
  where
    by : (t : Bool) → takes_line_endings a ≡ t → (if t then Some a else None) ≡ Some b → (significant (content contents.LineEnding) ≡ significant (content contents.LineEnding)) × (takes_line_endings a ≡ true) × (a ≡ b)
    by true same e = (refl, same, same_Some a b e)
    by false same e = absurd (cc e)
line_role a b _ is = absurd (cc is)

ending_allowed_in : {R : Type 0} (text : List ℕ → ℕ → Option (List ℕ)) (w : Written R) (name : Name) (end : Point) (waits : Bool) (a : Stage) (outer : List Enclosing) → IsLineStart w.given.bytes w.cursor end → StandsIn waits w a outer → is_some (after_line waits a (role_of name)) ≡ true
    → HasValue w.given.bytes text a (role_of name) w.cursor end → may_write (source w.given.bytes text) w.spans name w.cursor end ≡ true
ending_allowed_in text w name end true a outer line s may value =
    let b = some_value (after_line true a (role_of name)) may in
    let r = line_role a b.0 (role_of name) b.1 in
    may_mend (HasBegun w.given.bytes w.cursor) (source w.given.bytes text) w.spans name w.cursor end a outer s.shows r.1 r.0
ending_allowed_in text w name end false a outer line s may value =
    let b = some_value (written a (role_of name)) may in
    let last = line_boundary w.given.bytes w.cursor end s.valid line in
    may_stand (HasBegun w.given.bytes w.cursor) (source w.given.bytes text) w.spans name w.cursor end a b.0 outer s.shows b.1
    (readable (source w.given.bytes text) a (role_of name) w.cursor end s.valid (line_edges w.given.bytes w.cursor end line) s.boundary last value)

pub ending_allowed : {R : Type 0} (text : List ℕ → ℕ → Option (List ℕ)) (w : Written R) (name : Name) (end : Point) → IsLineStart w.given.bytes w.cursor end → MayEndLine text w name → may_write (source w.given.bytes text) w.spans name w.cursor end ≡ true
ending_allowed text w name end line m = ending_allowed_in text w name end m.waits m.stage m.outer line m.at m.may (m.value end)

ending_at_in : {R : Type 0} (old new : Written R) (name : Name) (waits : Bool) (a b : Stage) (outer : List Enclosing) → StandsIn waits old a outer → after_line waits a (role_of name) ≡ Some b → AfterToken name old.spans new.spans → StandsAt false (HasBegun old.given.bytes old.cursor) new.spans b outer
ending_at_in old new name true a b outer s is after =
    let r = line_role a b (role_of name) is in
    subst (λ (x : Stage). StandsAt false (HasBegun old.given.bytes old.cursor) new.spans x outer) r.2 (mended (HasBegun old.given.bytes old.cursor) old.spans new.spans name a outer s.shows r.1 r.0 after)
ending_at_in old new name false a b outer s is after = stood (HasBegun old.given.bytes old.cursor) old.spans new.spans name a b outer s.shows is after

pub ending_at : {R : Type 0} (old new : Written R) (name : Name) (waits : Bool) (a : Stage) (outer : List Enclosing) → StandsIn waits old a outer → new.given ≡ old.given → IsLineStart old.given.bytes old.cursor new.cursor → AfterToken name old.spans new.spans
    → IfSome (after_line waits a (role_of name)) (λ b. IsAt new b outer)
ending_at old new name waits a outer s given line after =
    if_some (λ b. IsAt new b outer) (after_line waits a (role_of name)) (λ b is.
    went old new false b outer given (line_edges old.given.bytes old.cursor new.cursor line) (line_boundary old.given.bytes old.cursor new.cursor s.valid line) s.valid (ending_at_in old new name waits a b outer s is after))

-- ---- What is true at a stage is true at another

-- at one that says less
pub weakened : {R : Type 0} (w : Written R) (a b : Stage) (outer : List Enclosing) → skips a b ≡ true → IsAt w a outer → IsAt w b outer
weakened w a b outer skip at = record { shows = weaker (HasBegun w.given.bytes w.cursor) w.spans a b outer at.shows (inr skip); boundary = at.boundary; valid = at.valid }

-- in the spans of which another one says something
pub shared : {R : Type 0} (w : Written R) (a b : Stage) (outer outer' : List Enclosing) → is_in_row a ≡ false → IsAt w a outer → IsAt w b outer' → IsAt w a outer'
shared w a b outer outer' row at other = record {
  shows = record { around = (at.shows).around; stage = (at.shows).stage; after_break = (at.shows).after_break; frames = (other.shows).frames; waits = λ h. absurd (cc (sym row ∙ h)) };
  boundary = at.boundary;
  valid = at.valid;
}

-- a stage is beside itself
beside_if : (b : Bool) → (if b then b else not b) ≡ true
beside_if true = refl
beside_if false = refl

pub beside : (a : Stage) → are_beside a a ≡ true
beside a = (λ i. beside_if (is_in_row a) i && beside_if (is_in_value a) i)
