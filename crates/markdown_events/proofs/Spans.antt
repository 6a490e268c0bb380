-- What a well-formed span does to the walk with a stack, and what the walk's end says.
use Rattle.std.proofs.Common.{◌≡◌, ℕ, suc, ◌+◌, List, [], ◌∷◌, ◌++◌, Bool, true, false, cond, ◌&&◌, ◌||◌, not, Option, Some, None, length, refl, sym, ap, ◌∙◌, append_assoc, length-append, subst, arith, rules, ◌↔◌, drop, IsTrue}
use Rattle.markdown_events.specs.Begins.{SpanAt}
use Rattle.markdown_events.specs.declared.event.Kind.{Kind}
use Rattle.markdown_events.specs.declared.event.Kind.TheVariants.{Enter, Exit}
use Rattle.markdown_events.specs.declared.event.Name.{Name}
use Rattle.markdown_events.specs.declared.event.Point.{Point}
use Rattle.markdown_events.specs.declared.event.Event.{Event}
use Rattle.markdown_events.specs.contracts.event.Name.{the_type}
use denote.Enum.Bare.{same_true, true_same}
use Rattle.markdown_events.specs.declared.role.Role.{Role}
use Rattle.markdown_events.specs.declared.role.Role.TheVariants.{Transparent as transparent, Significant as significant}
use Rattle.markdown_events.specs.declared.role.ItemKind.TheVariants.{Content as content}
use Rattle.markdown_events.specs.declared.role.Content.TheVariants as contents
use Rattle.markdown_events.specs.declared.role.TransparentKind.TheVariants as transparents
use Rattle.markdown_events.specs.Names.{is_same_name, role_of}
use Rattle.markdown_events.specs.Forest.{Forest, empty, span, events_of, enter, exit, is_empty, lacks, may_contain, is_well_formed, is_delimiter_row, is_delimiter_cell_value}
use Rattle.markdown_events.specs.Walks.{around_of, run, move, can_enter}
use Rattle.markdown_events.specs.Around.{is_sealed}
use Rattle.markdown_events.proofs.Booleans.{and-both, and-left, and-right}
use Rattle.markdown_events.proofs.Loose.{regroup}

abbrev row_of : Name → Bool
row_of n = is_delimiter_row (role_of n)

abbrev cell_of : Name → Bool
cell_of n = is_delimiter_cell_value (role_of n)

abbrev closed_of : Name → Bool
closed_of n = is_sealed (role_of n)

pub same_refl : (n : Name) → is_same_name n n ≡ true
same_refl n = true_same the_type n n refl

pub same_is : (m n : Name) → is_same_name m n ≡ true → m ≡ n
same_is m n h = same_true the_type (search rules) m n h

-- ---- Bools

or_true : (b : Bool) → (b || true) ≡ true
or_true true = refl
or_true false = refl

or_right : (a b : Bool) → b ≡ true → (a || b) ≡ true
or_right true b h = refl
or_right false b h = h

pub not_true : (b : Bool) → not b ≡ true → b ≡ false
not_true true h = absurd cc
not_true false h = refl

not_other : (a b : Bool) → not (a && b) ≡ true → a ≡ true → not b ≡ true
not_other true b h e = h
not_other false b h e = absurd cc

not_both : (a b : Bool) → (a ≡ true → not b ≡ true) → not (a && b) ≡ true
not_both true b h = h refl
not_both false b h = refl

either : (a b : Bool) (P : Type 0) → (a || b) ≡ true → (a ≡ true → P) → (b ≡ true → P) → P
either true b P h f g = f refl
either false b P h f g = g h

-- ---- The well-formedness, with what stands around a forest

abbrev pub fits : Bool → Bool → Forest → Bool
fits row cell empty = true
fits row cell (span n a b c r) =
    not (row && is_delimiter_row (role_of n)) && (not (cell && is_delimiter_cell_value (role_of n)) && ((not (is_sealed (role_of n)) || is_empty c)
    && (fits (row || is_delimiter_row (role_of n)) (cell || is_delimiter_cell_value (role_of n)) c && fits row cell r)))

pub record Fit (row : Bool) (cell : Bool) (f : Forest) : Type 0 where
  shape : is_well_formed f ≡ true
  rows : row ≡ true → lacks is_delimiter_row f ≡ true
  cells : cell ≡ true → lacks is_delimiter_cell_value f ≡ true

may_of : (r : Role) (c : Forest) → (not (is_sealed r) || is_empty c) ≡ true → (is_delimiter_row r ≡ true → lacks is_delimiter_row c ≡ true) → (is_delimiter_cell_value r ≡ true → lacks is_delimiter_cell_value c ≡ true) → may_contain r c ≡ true
may_of (significant (content contents.LineEnding)) c h f g = h
may_of (transparent transparents.BlankLineEnding) c h f g = h
may_of (transparent transparents.SpaceOrTab) c h f g = h
may_of (transparent transparents.DelimiterRow) c h f g = f refl
may_of (transparent transparents.DelimiterCellValue) c h f g = g refl
may_of r c h f g = refl

may_closed : (r : Role) (c : Forest) → may_contain r c ≡ true → (not (is_sealed r) || is_empty c) ≡ true
may_closed (significant (content contents.LineEnding)) c h = h
may_closed (transparent transparents.BlankLineEnding) c h = h
may_closed (transparent transparents.SpaceOrTab) c h = h
may_closed r c h = refl

pub may_row : (r : Role) (c : Forest) → may_contain r c ≡ true → is_delimiter_row r ≡ true → lacks is_delimiter_row c ≡ true
may_row (transparent transparents.DelimiterRow) c h e = h
may_row r c h e = let z : false ≡ true = e in absurd (let w : ⊥ = cc in w)

pub may_value : (r : Role) (c : Forest) → may_contain r c ≡ true → is_delimiter_cell_value r ≡ true → lacks is_delimiter_cell_value c ≡ true
may_value (transparent transparents.DelimiterCellValue) c h e = h
may_value r c h e = let z : false ≡ true = e in absurd (let w : ⊥ = cc in w)

pub from_fits : (row cell : Bool) (f : Forest) → fits row cell f ≡ true → Fit row cell f
from_fits row cell empty h = record { shape = refl; rows = λ e. refl; cells = λ e. refl }
from_fits row cell (span n a b c r) h =
    let x1 = and-left (not (row && row_of n)) _ h in
    let h2 = and-right (not (row && row_of n)) _ h in
    let x2 = and-left (not (cell && cell_of n)) _ h2 in
    let h3 = and-right (not (cell && cell_of n)) _ h2 in
    let x3 = and-left (not (closed_of n) || is_empty c) _ h3 in
    let h4 = and-right (not (closed_of n) || is_empty c) _ h3 in
    let fc = from_fits (row || row_of n) (cell || cell_of n) c (and-left _ (fits row cell r) h4) in
    let fr = from_fits row cell r (and-right (fits (row || row_of n) (cell || cell_of n) c) _ h4) in
    record {
      shape = and-both _ _ (and-both _ _ (may_of (role_of n) c x3 (λ e. fc.rows (or_right row _ e)) (λ e. fc.cells (or_right cell _ e))) fc.shape) fr.shape;
      rows = λ e. and-both _ _ (and-both _ _ (not_other row _ x1 e) (fc.rows (ap (λ x. x || row_of n) e))) (fr.rows e);
      cells = λ e. and-both _ _ (and-both _ _ (not_other cell _ x2 e) (fc.cells (ap (λ x. x || cell_of n) e))) (fr.cells e);
    }

pub to_fits : (row cell : Bool) (f : Forest) → Fit row cell f → fits row cell f ≡ true
to_fits row cell empty h = refl
to_fits row cell (span n a b c r) h =
    let front = and-left (may_contain (role_of n) c && is_well_formed c) (is_well_formed r) h.shape in
    let may = and-left (may_contain (role_of n) c) (is_well_formed c) front in
    let rows : row ≡ true → (not (row_of n) && lacks is_delimiter_row c) ≡ true = λ t. and-left (not (row_of n) && lacks is_delimiter_row c) (lacks is_delimiter_row r) (h.rows t) in
    let cells : cell ≡ true → (not (cell_of n) && lacks is_delimiter_cell_value c) ≡ true = λ t. and-left (not (cell_of n) && lacks is_delimiter_cell_value c) (lacks is_delimiter_cell_value r) (h.cells t) in
    let fc : Fit (row || row_of n) (cell || cell_of n) c = record {
      shape = and-right (may_contain (role_of n) c) (is_well_formed c) front;
      rows = λ e. either row (row_of n) (lacks is_delimiter_row c ≡ true) e (λ t. and-right (not (row_of n)) (lacks is_delimiter_row c) (rows t)) (λ t. may_row (role_of n) c may t);
      cells = λ e. either cell (cell_of n) (lacks is_delimiter_cell_value c ≡ true) e (λ t. and-right (not (cell_of n)) (lacks is_delimiter_cell_value c) (cells t)) (λ t. may_value (role_of n) c may t);
    } in
    let fr : Fit row cell r = record {
      shape = and-right (may_contain (role_of n) c && is_well_formed c) (is_well_formed r) h.shape;
      rows = λ t. and-right (not (row_of n) && lacks is_delimiter_row c) (lacks is_delimiter_row r) (h.rows t);
      cells = λ t. and-right (not (cell_of n) && lacks is_delimiter_cell_value c) (lacks is_delimiter_cell_value r) (h.cells t);
    } in
    and-both _ _ (not_both row _ (λ t. and-left (not (row_of n)) (lacks is_delimiter_row c) (rows t)))
    (and-both _ _ (not_both cell _ (λ t. and-left (not (cell_of n)) (lacks is_delimiter_cell_value c) (cells t)))
    (and-both _ _ (may_closed (role_of n) c may) (and-both _ _ (to_fits _ _ c fc) (to_fits _ _ r fr))))

-- ---- The walk over a spelling

opens : (n : Name) (c : Forest) → (not (is_sealed (role_of n)) || is_empty c) ≡ true → is_sealed (role_of n) ≡ true → c ≡ empty
opens n empty h e = refl
opens n (span m s t d r) h e = absurd (let g : (not true || false) ≡ true = rw e at h in let w : ⊥ = cc in w)

enters : (closed row cell a b : Bool) (x : Option ℕ) → closed ≡ false → not (row && a) ≡ true → not (cell && b) ≡ true
    → cond ((not closed && not (row && a)) && not (cell && b)) x None ≡ x
enters closed row cell a b x h i j = rw (h, i, j) refl

inner : (m : Name) (c : Forest) (st : List Name) (k : ℕ) (more : List Event) → (not (is_sealed (role_of m)) || is_empty c) ≡ true
    → (is_sealed (role_of m) ≡ false → run (events_of c ++ more) (m ∷ st) k ≡ run more (m ∷ st) (k + length (events_of c)))
    → (b : Bool) → is_sealed (role_of m) ≡ b → run (events_of c ++ more) (m ∷ st) k ≡ run more (m ∷ st) (k + length (events_of c))
inner m c st k more h rest true e =
    let P : Forest → Type 0 = λ f. run (events_of f ++ more) (m ∷ st) k ≡ run more (m ∷ st) (k + length (events_of f)) in
    let zero_more : k ≡ k + 0 = omega arith in
    subst P (sym (opens m c h e)) (ap (λ x. run more (m ∷ st) x) zero_more)
inner m c st k more h rest false e = rest e

exits : (m n : Name) (t : Point) (st : List Name) (k : ℕ) (more : List Event) → run (exit m t ∷ more) (m ∷ n ∷ st) k ≡ run more (n ∷ st) (k + 1)
exits m n t st k more = rw same_refl refl

counts : (k : ℕ) (c r : List Event) (x : Event) → ((k + 1) + length c) + 1 + length r ≡ k + suc (length (c ++ x ∷ r))
counts k c r x = omega (arith, length-append c (x ∷ r))

-- a well-formed forest under an open span is walked over
pub walks : (f : Forest) (n : Name) (st : List Name) (k : ℕ) (more : List Event) → is_sealed (role_of n) ≡ false → fits (around_of (n ∷ st)).in_row (around_of (n ∷ st)).in_value f ≡ true
    → run (events_of f ++ more) (n ∷ st) k ≡ run more (n ∷ st) (k + length (events_of f))
walks empty n st k more free h = let z : k ≡ k + 0 = omega arith in ap (λ x. run more (n ∷ st) x) z
walks (span m s t c r) n st k more free h =
    let row = (around_of (n ∷ st)).in_row in
    let cell = (around_of (n ∷ st)).in_value in
    let x1 = and-left (not (row && row_of m)) _ h in
    let h2 = and-right (not (row && row_of m)) _ h in
    let x2 = and-left (not (cell && cell_of m)) _ h2 in
    let h3 = and-right (not (cell && cell_of m)) _ h2 in
    let x3 = and-left (not (closed_of m) || is_empty c) _ h3 in
    let h4 = and-right (not (closed_of m) || is_empty c) _ h3 in
    let fc = and-left (fits (row || row_of m) (cell || cell_of m) c) (fits row cell r) h4 in
    let fr = and-right (fits (row || row_of m) (cell || cell_of m) c) _ h4 in
    let tail = exit m t ∷ (events_of r ++ more) in
    enters (closed_of n) row cell (row_of m) (cell_of m) (run ((events_of c ++ (exit m t ∷ events_of r)) ++ more) (m ∷ n ∷ st) (k + 1)) free x1 x2
    ∙ ap (λ es. run es (m ∷ n ∷ st) (k + 1)) (regroup m t (events_of c) (events_of r) more)
    ∙ inner m c (n ∷ st) (k + 1) tail x3 (λ e. walks c m (n ∷ st) (k + 1) tail e fc) (closed_of m) refl
    ∙ exits m n t st ((k + 1) + length (events_of c)) (events_of r ++ more)
    ∙ walks r n st (((k + 1) + length (events_of c)) + 1) more free fr
    ∙ ap (λ x. run more (n ∷ st) x) (counts k (events_of c) (events_of r) (exit m t))

-- one well-formed span, from an empty stack
pub walked : (n : Name) (a b : Point) (c : Forest) (more : List Event) → is_well_formed (span n a b c empty) ≡ true
    → run (enter n a ∷ (events_of c ++ (exit n b ∷ more))) [] 0 ≡ Some (1 + length (events_of c))
walked n a b c more h =
    let both = and-left (may_contain (role_of n) c && is_well_formed c) true h in
    let may = and-left (may_contain (role_of n) c) (is_well_formed c) both in
    let shape = and-right (may_contain (role_of n) c) (is_well_formed c) both in
    let fit : fits (false || row_of n) (false || cell_of n) c ≡ true = to_fits (row_of n) (cell_of n) c (record { shape = shape; rows = λ t. may_row (role_of n) c may t; cells = λ t. may_value (role_of n) c may t }) in
    inner n c [] 1 (exit n b ∷ more) (may_closed (role_of n) c may) (λ e. walks c n [] 1 (exit n b ∷ more) e fit) (closed_of n) refl
    ∙ ap (λ x. cond x (Some (1 + length (events_of c))) None) (same_refl n)

-- ---- What the walk's end says

abbrev pub Good : Name → List Name → Forest → Type 0
Good n st c = (fits (around_of (n ∷ st)).in_row (around_of (n ∷ st)).in_value c ≡ true) × ((not (is_sealed (role_of n)) || is_empty c) ≡ true)

-- the events begin with what closes the open spans, the innermost first, in that many events
abbrev pub Ends : List Name → List Event → ℕ → Type 0
Ends [] es m = m ≡ 0
Ends (n ∷ st) es m = (c : Forest) × (p : Point) × (tail : List Event) × (es ≡ events_of c ++ (exit n p ∷ tail)) × Good n st c × (after : ℕ) × (m ≡ length (events_of c) + suc after) × Ends st tail after

all_of : (a b c d : Bool) → a ≡ true → b ≡ true → c ≡ true → d ≡ true → (e : Bool) → e ≡ true → (a && (b && (c && (d && e)))) ≡ true
all_of a b c d h i j k e l = rw (h, i, j, k, l) refl

cond_some : (b : Bool) (x : Option ℕ) (k : ℕ) → cond b x None ≡ Some k → (b ≡ true) × (x ≡ Some k)
cond_some true x k h = (refl, h)
cond_some false x k h = absurd (let w : ⊥ = cc in w)

open_any : (n : Name) (c : Forest) → is_sealed (role_of n) ≡ false → (not (is_sealed (role_of n)) || is_empty c) ≡ true
open_any n c h = rw h refl

some_is : (j k : ℕ) → Some j ≡ Some k → j ≡ k
some_is j k h = cc

nested : (c1 c2 : List Event) (x : Event) (m m1 a1 a2 : ℕ) → m ≡ length c1 + suc a1 → a1 ≡ length c2 + suc a2 → suc m ≡ suc (length (c1 ++ x ∷ c2)) + suc a2
nested c1 c2 x m m1 a1 a2 e f = omega (arith, length-append c1 (x ∷ c2))

deeper : (m n : Name) (s : Point) (st : List Name) (es : List Event) (k : ℕ) → can_enter (n ∷ st) m ≡ true → Ends (m ∷ n ∷ st) es k → Ends (n ∷ st) (enter m s ∷ es) (suc k)
deeper m n s st es k can (c1, p1, tail1, e1, good1, a1, k1, (c2, p2, tail2, e2, good2, a2, k2, rest)) =
    let row = not ((around_of (n ∷ st)).in_row && row_of m) in
    let cell = not ((around_of (n ∷ st)).in_value && cell_of m) in
    let before = and-left (not (closed_of n) && row) cell can in
    let free : is_sealed (role_of n) ≡ false = not_true _ (and-left (not (closed_of n)) row before) in
    let spelled : enter m s ∷ es ≡ events_of (span m s p1 c1 c2) ++ (exit n p2 ∷ tail2) =
    ap (λ x. enter m s ∷ x) (e1 ∙ ap (λ x. events_of c1 ++ (exit m p1 ∷ x)) e2 ∙ sym (append_assoc (events_of c1) (exit m p1 ∷ events_of c2) (exit n p2 ∷ tail2))) in (
      span m s p1 c1 c2,
      p2,
      tail2,
      spelled,
      (all_of _ _ _ _ (and-right (not (closed_of n)) row before) (and-right (not (closed_of n) && row) cell can) good1.1 good1.0 _ good2.0, open_any n (span m s p1 c1 c2) free),
      a2,
      nested (events_of c1) (events_of c2) (exit m p1) k k a1 a2 k1 k2,
      rest,
    )

abbrev pub EndsBy : List Name → List Event → ℕ → ℕ → Type 0
EndsBy st es k j = (m : ℕ) × (k + m ≡ suc j) × Ends st es m

leaves : (m n : Name) (p : Point) (es : List Event) (st : List Name) (after : ℕ) → is_same_name n m ≡ true → Ends st es after → Ends (n ∷ st) (exit m p ∷ es) (suc after)
leaves m n p es st after e rest = (empty, p, es, ap (λ x. exit x p ∷ es) (sym (same_is n m e)), (refl, or_true _), after, omega arith, rest)

at_event : (kd : Kind) (m : Name) (p : Point) (es : List Event) (n : Name) (st : List Name) (k j : ℕ)
    → ((n' : Name) (st' : List Name) (k' : ℕ) → run es (n' ∷ st') k' ≡ Some j → EndsBy (n' ∷ st') es k' j)
    → move kd m (n ∷ st) k (run es) ≡ Some j → EndsBy (n ∷ st) (record { kind = kd; name = m; point = p } ∷ es) k j
at_event Enter m p es n st k j ih h =
    let a = cond_some (can_enter (n ∷ st) m) (run es (m ∷ n ∷ st) (k + 1)) j h in
    let b = ih m (n ∷ st) (k + 1) a.1 in
    (suc b.0, omega (arith, b.1), deeper m n p st es b.0 a.0 b.2)
at_event Exit m p es n [] k j ih h =
    let a = cond_some (is_same_name n m) (Some k) j h in
    let e = some_is k j a.1 in
    (1, omega (arith, e), leaves m n p es [] 0 a.0 refl)
at_event Exit m p es n (o ∷ st) k j ih h =
    let a = cond_some (is_same_name n m) (run es (o ∷ st) (k + 1)) j h in
    let b = ih o st (k + 1) a.1 in
    (suc b.0, omega (arith, b.1), leaves m n p es (o ∷ st) b.0 a.0 b.2)

-- where the walk ends, the events are those that close the open spans
pub sound : (es : List Event) (n : Name) (st : List Name) (k j : ℕ) → run es (n ∷ st) k ≡ Some j → EndsBy (n ∷ st) es k j
sound [] n st k j h = absurd (let w : ⊥ = cc in w)
sound (e ∷ es) n st k j h = at_event e.kind e.name e.point es n st k j (λ n' st' k' g. sound es n' st' k' j g) h

-- ---- One span from an index

abbrev OneSpan : List Event → ℕ → Type 0
OneSpan es j = (n : Name) × (a : Point) × (b : Point) × (c : Forest) × (more : List Event)
    × (es ≡ events_of (span n a b c empty) ++ more) × IsTrue (is_well_formed (span n a b c empty)) × (length (events_of (span n a b c empty)) ≡ suc j)

front : (kd : Kind) (n : Name) (a : Point) (es : List Event) (j : ℕ) → move kd n [] 0 (run es) ≡ Some j → OneSpan (record { kind = kd; name = n; point = a } ∷ es) j
front Enter n a es j h =
    let (m, count, (c, p, tail, spelled, good, after, long, none)) = sound es n [] 1 j h in
    let fit = from_fits (row_of n) (cell_of n) c good.0 in
    let may = may_of (role_of n) c good.1 fit.rows fit.cells in (
      n,
      a,
      p,
      c,
      tail,
      ap (λ x. enter n a ∷ x) (spelled ∙ sym (regroup n p (events_of c) [] tail)),
      and-both _ true (and-both _ _ may fit.shape) refl,
      omega (arith, length-append (events_of c) (exit n p ∷ []), none, long, count),
    )
front Exit n a es j h = absurd (let w : ⊥ = cc in w)

one_span : (es : List Event) (j : ℕ) → run es [] 0 ≡ Some j → OneSpan es j
one_span [] j h = absurd (let w : ⊥ = cc in w)
one_span (e ∷ es) j h = front e.kind e.name e.point es j h

pub begins : (events : List Event) (i j : ℕ) → run (drop i events) [] 0 ≡ Some j → SpanAt events i (i + j)
begins events i j h =
    let (n, a, b, c, more, spelled, shape, long) = one_span (drop i events) j h in
    (n, a, b, c, (more, spelled), shape, omega (arith, long))

pub found : (events : List Event) (i last : ℕ) → SpanAt events i last → (j : ℕ) × (run (drop i events) [] 0 ≡ Some j) × (i + j ≡ last)
found events i last (n, a, b, c, (more, spelled), shape, long) = (
  1 + length (events_of c),
  ap (λ es. run es [] 0) (spelled ∙ ap (λ x. enter n a ∷ x) (regroup n b (events_of c) [] more)) ∙ walked n a b c more shape,
  omega (arith, length-append (events_of c) (exit n b ∷ []), long),
)

pub found_some : (events : List Event) (i j : ℕ) → run (drop i events) [] 0 ≡ Some j → (last : ℕ) → (Some (i + j) ≡ Some last) ↔ SpanAt events i last
found_some events i j h last = (
  (λ e. subst (λ x. SpanAt events i x) (some_is (i + j) last e) (begins events i j h)),
  (λ s. let f = found events i last s in let e : j ≡ f.0 = some_is j f.0 (sym h ∙ f.1) in ap Some (omega (arith, e, f.2))),
)

pub found_none : (events : List Event) (i : ℕ) → run (drop i events) [] 0 ≡ None → (last : ℕ) → (None ≡ Some last) ↔ SpanAt events i last
found_none events i h last = (
  (λ e. absurd (let w : ⊥ = cc in w)),
  (λ s. let f = found events i last s in let e : None ≡ Some f.0 = sym h ∙ f.1 in absurd (let w : ⊥ = cc in w)),
)
