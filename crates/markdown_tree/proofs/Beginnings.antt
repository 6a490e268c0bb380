-- What the enter of a span makes of the state, in the program and in the steps.
use Rattle.std.proofs.Common.{◌≡◌, Bool, true, false, ◌||◌, not, is_some, List, [], ◌∷◌, ◌++◌, Option, None, Some, Result, Ok, Err, refl, sym, ap, ◌∙◌, cond, reverse, subst}
use Rattle.markdown_events.specs.Names.{role_of}
use Rattle.markdown_events.specs.declared.event.Name.{Name}
use Rattle.markdown_events.specs.declared.event.Point.{Point}
use Rattle.markdown_events.specs.declared.role.ItemKind.{ItemKind}
use Rattle.markdown_events.specs.declared.role.ItemKind.TheVariants.{Content as content, Part as part}
use Rattle.markdown_events.specs.declared.role.Content.TheVariants as contents
use Rattle.markdown_events.specs.declared.role.Part.TheVariants as parts
use Rattle.markdown_events.specs.declared.role.Role.{Role}
use Rattle.markdown_events.specs.declared.role.Role.TheVariants.{Significant as significant}
use Rattle.markdown_events.specs.declared.unist.Position.{Position}
use Rattle.markdown_nodes.specs.View.{views}
use Rattle.markdown_containers.specs.declared.container.Container.{Container}
use Rattle.markdown_containers.specs.declared.container.Container.TheVariants as containers
use Rattle.markdown_grammar.specs.declared.error_kind.ErrorKind.TheVariants.{Held, UnfinishedBreak}
use Rattle.markdown_grammar.specs.declared.error_kind.Stop.{Stop}
use Rattle.markdown_grammar.specs.declared.error_kind.Stop.TheVariants as stops
use Rattle.markdown_tree.specs.declared.context.Context.{Context}
use Rattle.markdown_tree.specs.declared.context.Frame.{Frame}
use Rattle.markdown_containers.specs.declared.open_container.OpenContainer.{OpenContainer}
use Rattle.markdown_grammar.specs.declared.error_kind.ErrorKind.{ErrorKind}
use Rattle.markdown_steps.specs.Compiler.{ContainerState, OpenSpan, State, enter_as, enter_checks, enter_step, entered, fresh, push}
use Rattle.markdown_grammar.specs.Grammar.{ContentModel, code_fenced, model_of, leaf, list_ordered, math_flow}
use Rattle.markdown_containers.specs.Containers.{IsFresh, current_model_of, initial_model_of}
use Rattle.markdown_parts.specs.PartsSoFar.{first_failing}
use Rattle.markdown_events.specs.Around.{may_begin, under}
use Rattle.markdown_steps.specs.Columns.{columns_entered, no_columns}
use Rattle.markdown_steps.specs.Siblings.{no_marks}
use Rattle.markdown_parts.specs.declared.marks.First.TheVariants as firsts
use Rattle.markdown_parts.specs.declared.marks.Marks.{Marks as OpenMarks}
use Rattle.markdown_parts.specs.declared.marks.Sibling.TheVariants as siblings
use Rattle.markdown_grammar.specs.Items.{is_line_ending, is_table}
use Rattle.markdown_grammar.specs.Attributes.{Place, line_ending_is_text}
use Rattle.markdown_grammar.specs.Refusals.{ErrorAt}
use Rattle.markdown_steps.specs.Checks.{checked, refused}
use Rattle.markdown_grammar.specs.Document.{Source}
use Rattle.markdown_parts.specs.Nest.{around_innermost, innermost}
use Rattle.markdown_parts.proofs.Nesting.{turned}
use Rattle.markdown_containers.specs.ContainerStates.{Stops, container_state_of, with_break}
use Rattle.markdown_tree.specs.States.{Begun, Opened, OpenedContainer, OpenedLeaf, containers_left, frame_of, kept_top, leaf_left, leaf_place, opens, outer_of, state_in, state_of, state_with, top_of}
use Rattle.markdown_blocks.specs.Columns.{columns_of}
use Rattle.markdown_parts.specs.Marks.{marks_of}

-- tests that all pass, and a first one that fails
pub checked_through : {A : Type 0} (tests : List (Bool × ErrorKind)) (p : Point) (r : Result A ErrorAt) → first_failing tests ≡ None → checked tests p r ≡ r
checked_through [] p r h = refl
checked_through (test ∷ tests) p r h = by-test test.0 (checked_through tests p r) h
  where
    by-test : (b : Bool) → (first_failing tests ≡ None → checked tests p r ≡ r) → cond b (first_failing tests) (Some test.1) ≡ None → cond b (checked tests p r) (refused test.1 p) ≡ r
    by-test true after h = after h
    by-test false after h = let z : ⊥ = cc in absurd z

some_same : (x y : ErrorKind) → Some x ≡ Some y → x ≡ y
some_same x y h = ap (λ (o : Option ErrorKind). elim o [ Some z ↦ z | None ↦ x ]) h

pub checked_fails : {A : Type 0} (tests : List (Bool × ErrorKind)) (p : Point) (r : Result A ErrorAt) (why : ErrorKind) → first_failing tests ≡ Some why → checked tests p r ≡ refused why p
checked_fails [] p r why h = let z : ⊥ = cc in absurd z
checked_fails (test ∷ tests) p r why h = by-test test.0 (checked_fails tests p r why) h
  where
    by-test : (b : Bool) → (first_failing tests ≡ Some why → checked tests p r ≡ refused why p) → cond b (first_failing tests) (Some test.1) ≡ Some why → cond b (checked tests p r) (refused test.1 p) ≡ refused why p
    by-test true after h = after h
    by-test false after h = ap (λ (x : ErrorKind). refused x p) (some_same test.1 why h)

-- where an item is taken, no leaf is open
pub no_leaf : (s : Source) (what : ItemKind) (point : Point) (p : Place) (kept : ContainerState) (b : Bool) → first_failing (enter_checks s (cond b (fresh leaf p) kept) what point) ≡ None → b ≡ false
no_leaf s what point p kept true h = let z : ⊥ = cc in absurd z
no_leaf s what point p kept false h = refl

-- what a leaf is
leaf_speaks : (h : ContentModel) (what : ItemKind) → model_of h what ≡ leaf → line_ending_is_text what ≡ true
leaf_speaks h (content contents.Table) e = let z : ⊥ = cc in absurd z
leaf_speaks h (content contents.BlockQuote) e = let z : ⊥ = cc in absurd z
leaf_speaks h (content contents.TableRow) e = let z : ⊥ = cc in absurd z
leaf_speaks h (content contents.TableCell) e = let z : ⊥ = cc in absurd z
leaf_speaks h (content contents.ListOrdered) e = let z : ⊥ = cc in absurd z
leaf_speaks h (content contents.ListUnordered) e = let z : ⊥ = cc in absurd z
leaf_speaks list_ordered (content contents.ListItem) e = let z : ⊥ = cc in absurd z
leaf_speaks h (content contents.ListItem) e = let z : ⊥ = cc in absurd z
leaf_speaks h (content contents.FootnoteDefinition) e = let z : ⊥ = cc in absurd z
leaf_speaks h (content contents.CodeFenced) e = let z : ⊥ = cc in absurd z
leaf_speaks h (content contents.MathFlow) e = let z : ⊥ = cc in absurd z
leaf_speaks h (content contents.Autolink) e = let z : ⊥ = cc in absurd z
leaf_speaks h (content contents.Link) e = let z : ⊥ = cc in absurd z
leaf_speaks h (content contents.Image) e = let z : ⊥ = cc in absurd z
leaf_speaks h (content contents.FootnoteCall) e = let z : ⊥ = cc in absurd z
leaf_speaks h (content contents.Definition) e = let z : ⊥ = cc in absurd z
leaf_speaks code_fenced (part parts.Resource) e = let z : ⊥ = cc in absurd z
leaf_speaks math_flow (part parts.Resource) e = let z : ⊥ = cc in absurd z
leaf_speaks h (part parts.Resource) e = let z : ⊥ = cc in absurd z
leaf_speaks code_fenced (part parts.Reference) e = let z : ⊥ = cc in absurd z
leaf_speaks math_flow (part parts.Reference) e = let z : ⊥ = cc in absurd z
leaf_speaks h (part parts.Reference) e = let z : ⊥ = cc in absurd z
leaf_speaks h (content c) e = refl
leaf_speaks h (part q) e = refl

pub leaf_no_table : (h : ContentModel) (what : ItemKind) → model_of h what ≡ leaf → is_table what ≡ false
leaf_no_table h (content contents.Table) e = let z : ⊥ = cc in absurd z
leaf_no_table h (content c) e = refl
leaf_no_table h (part q) e = refl

pub or_false : (b c : Bool) → c ≡ false → (b || c) ≡ b
or_false true c h = refl
or_false false c h = h

-- ---- Significant spans

-- after the enter of a significant span
significant_opened : (s : Source) (name : Name) (what : ItemKind) (point : Point) (old : Context) (z : State) → first_failing (enter_checks s (top_of old) what point) ≡ None
    → push name point (state_of old) (Some (what, top_of old)) (entered (top_of old) what) ≡ z → enter_as s (significant what) name point (state_of old) ≡ Ok z
significant_opened s name what point old z taken is =
    checked_through (enter_checks s (top_of old) what point) point (Ok (push name point (state_of old) (Some (what, top_of old)) (entered (top_of old) what))) taken ∙ ap Ok is

-- a significant span that may not begin
pub significant_refused : (s : Source) (name : Name) (what : ItemKind) (point : Point) (old : Context) (why : ErrorKind) → first_failing (enter_checks s (top_of old) what point) ≡ Some why
    → enter_as s (significant what) name point (state_of old) ≡ refused why point
significant_refused s name what point old why fails =
    checked_fails (enter_checks s (top_of old) what point) point (Ok (push name point (state_of old) (Some (what, top_of old)) (entered (top_of old) what))) why fails

-- the open spans with a leaf more
leaf_frames : (what : ItemKind) (f : Frame) (fs fs' : List Frame) (hs : List OpenContainer) (kept : ContainerState) → role_of f.name ≡ significant what → fs' ≡ fs ++ f ∷ []
    → opens (reverse fs') (Some kept) hs ≡ record { name = f.name; start = f.start; around = f.outside.around; before = marks_of f.outside.marks; outer = Some (what, kept) } ∷ opens (reverse fs) None hs
leaf_frames what f fs fs' hs kept is_significant is =
    ap (λ (x : List Frame). opens (reverse x) (Some kept) hs) is
    ∙ ap (λ (x : List Frame). opens x (Some kept) hs) (turned fs f)
    ∙ (λ t. record {
      name = f.name;
      start = f.start;
      around = f.outside.around;
      before = marks_of f.outside.marks;
      outer = outer_of (is_significant t) f.in_table (Some kept) hs;
    }
    ∷ opens (reverse fs) (leaf_left (is_significant t) (Some kept)) (containers_left (is_significant t) (Some kept) hs))

-- the open spans with a container more
container_frames : (what : ItemKind) (f : Frame) (fs fs' : List Frame) (h : OpenContainer) (hs hs' : List OpenContainer) → role_of f.name ≡ significant what → fs' ≡ fs ++ f ∷ [] → hs' ≡ h ∷ hs
    → opens (reverse fs') None hs'
    ≡ record { name = f.name; start = f.start; around = f.outside.around; before = marks_of f.outside.marks; outer = Some (what, container_state_of f.in_table None h) } ∷ opens (reverse fs) None hs
container_frames what f fs fs' h hs hs' is_significant is held =
    (λ t. opens (reverse (is t)) None (held t))
    ∙ (λ t. opens (turned fs f t) None (h ∷ hs))
    ∙ (λ t. record {
      name = f.name;
      start = f.start;
      around = f.outside.around;
      before = marks_of f.outside.marks;
      outer = outer_of (is_significant t) f.in_table None (h ∷ hs);
    }
    ∷ opens (reverse fs) (leaf_left (is_significant t) None) (containers_left (is_significant t) None (h ∷ hs)))

-- a leaf begins
pub leaf_entered : (s : Source) (name : Name) (what : ItemKind) (start : Point) (old mid new : Context) (in_table : Bool) → role_of name ≡ significant what → OpenedLeaf s what start old mid
    → Begun (significant what) true in_table mid new → in_table ≡ (mid.in_table || is_table what) → enter_as s (significant what) name start (state_of old) ≡ Ok (state_in (old.frames.items ++ frame_of name start old ∷ []) new)
leaf_entered s name what start old mid new in_table is_significant o b is =
    let begun : Begun (significant what) true in_table old new = subst (λ (m : Context). Begun (significant what) true in_table m new) o.same b in
    let flag : old.is_leaf ≡ false = no_leaf s what start (leaf_place old.in_table) (kept_top old) old.is_leaf o.taken in
    let inside : in_table ≡ (old.in_table || is_table what) = is ∙ ap (λ (m : Context). m.in_table || is_table what) o.same in
    let same : in_table ≡ old.in_table = inside ∙ or_false old.in_table (is_table what) (leaf_no_table (current_model_of (innermost old.containers).container) what o.leaf_row) in
    let f : Frame = frame_of name start old in
    let fs : List Frame = old.frames.items ++ f ∷ [] in
    let kept : ContainerState = container_state_of in_table old.pending (innermost old.containers) in
    let now_top : top_of old ≡ kept = (λ t. cond (flag t) (fresh leaf (leaf_place old.in_table)) (kept_top old)) ∙ sym (λ t. container_state_of (same t) old.pending (innermost old.containers)) in
    let spans : List OpenSpan = opens (reverse old.frames.items) None (around_innermost old.containers) in
    significant_opened s name what start old (state_in fs new) o.taken
    ((λ t. record {
      frames = ((λ u. record { name = name; start = start; around = old.interior.around; before = marks_of old.interior.marks; outer = Some (what, now_top u) }
          ∷ opens (reverse old.frames.items) (cond (flag u) (Some (kept_top old)) None) (around_innermost old.containers))
          ∙ sym (leaf_frames what f old.frames.items fs (around_innermost old.containers) kept is_significant refl)) t;
      around = under old.interior.around (is_significant t);
      marks = sym begun.marks t;
      columns = ((λ u. columns_entered (cond (flag u) (fresh leaf (leaf_place old.in_table)) (kept_top old)).place.in_table (is_significant u) (columns_of old.columns)) ∙ sym begun.columns) t;
      top = ((λ u. entered (cond (flag u) (fresh leaf (leaf_place old.in_table)) (kept_top old)) what)
          ∙ (λ u. fresh (o.leaf_row u) (record { line_endings = leaf_speaks (current_model_of (innermost old.containers).container) what o.leaf_row u; in_table = sym inside u; marker = None }))) t;
    }) ∙ sym (ap (state_in fs) begun.others))

-- ---- Any span

-- a span that may not begin, and one that may
pub enter_held : (s : Source) (name : Name) (role : Role) (point : Point) (allowed : Bool) (c : Context) → role ≡ role_of name → allowed ≡ may_begin c.interior.around role → allowed ≡ false
    → enter_step s name point (state_of c) ≡ refused Held point
unfolding enter_step
enter_held s name role point allowed c is is_allowed held = λ t. cond ((ap (may_begin c.interior.around) (sym is) ∙ sym is_allowed ∙ held) t) (enter_as s (role_of name) name point (state_of c)) (refused Held point)

pub enter_free : (s : Source) (name : Name) (role : Role) (point : Point) (allowed : Bool) (c : Context) → role ≡ role_of name → allowed ≡ may_begin c.interior.around role → allowed ≡ true
    → enter_step s name point (state_of c) ≡ enter_as s role name point (state_of c)
unfolding enter_step
enter_free s name role point allowed c is is_allowed free = λ t. cond ((ap (may_begin c.interior.around) (sym is) ∙ sym is_allowed ∙ free) t) (enter_as s (sym is t) name point (state_of c)) (refused Held point)

-- ---- Leaves

-- the context in a leaf that begins
abbrev pub in_leaf : ItemKind → Bool → OpenMarks → Context → Context
in_leaf what in_table inside c = record c { interior = record { around = under c.interior.around (significant what); marks = inside }; is_leaf = true; in_table = in_table }

-- what is known of no children
abbrev pub unmarked : OpenMarks
unmarked = record { last = siblings.Other; last_but_one = siblings.Other; first = firsts.Absent; is_loose_item = false; is_loose_list = false }

-- a leaf begins, whose frame is kept outside the stack
pub leaf_begins : (s : Source) (name : Name) (what : ItemKind) (start : Point) (old : Context) (inside : OpenMarks) (in_table : Bool) → role_of name ≡ significant what → may_begin old.interior.around (significant what) ≡ true → OpenedLeaf s what start old old
    → marks_of inside ≡ no_marks → in_table ≡ (old.in_table || is_table what) → enter_step s name start (state_of old) ≡ Ok (state_with (frame_of name start old) (in_leaf what in_table inside old))
leaf_begins s name what start old inside in_table is begins o none table =
    let begun : Begun (significant what) true in_table old (in_leaf what in_table inside old) = record {
      marks = none;
      columns = sym (ap (λ (b : Bool). cond b no_columns (columns_of old.columns)) (leaf_no_table (current_model_of (innermost old.containers).container) what o.leaf_row));
      others = refl;
    } in
    enter_free s name (significant what) start true old (sym is) (sym begins) refl ∙ leaf_entered s name what start old old (in_leaf what in_table inside old) in_table is o begun table

-- no container of the program is a leaf
pub no_leaf_row : (h : Container) → initial_model_of h ≡ leaf → ⊥
no_leaf_row containers.AnyContent e = cc
no_leaf_row (containers.Autolink x) e = cc
no_leaf_row (containers.Media x) e = cc
no_leaf_row (containers.FootnoteCall x) e = cc
no_leaf_row (containers.Resource x) e = cc
no_leaf_row (containers.Reference x) e = cc
no_leaf_row (containers.Definition x) e = cc
no_leaf_row (containers.CharacterReference x) e = cc
no_leaf_row (containers.CodeFence x) e = cc
no_leaf_row (containers.MathFence x) e = cc
no_leaf_row (containers.ListOrdered x) e = cc
no_leaf_row (containers.ListItem x) e = cc
no_leaf_row (containers.NumberedItem x) e = cc
no_leaf_row (containers.TaskParagraph x) e = cc
no_leaf_row containers.MarkedParagraph e = cc
no_leaf_row (containers.FootnoteDefinition x) e = cc
no_leaf_row (containers.HeadingAtx x) e = cc
no_leaf_row (containers.HeadingSetext x) e = cc
no_leaf_row (containers.CodeFenced x) e = cc
no_leaf_row (containers.MathFlow x) e = cc

-- what opens a container is no line ending
container_no_ending : (h : Container) (initial_model : ContentModel) (what : ItemKind) → initial_model_of h ≡ model_of initial_model what → is_line_ending what ≡ false
container_no_ending h initial_model (content contents.LineEnding) e = absurd (no_leaf_row h e)
container_no_ending h initial_model (content c) e = refl
container_no_ending h initial_model (part q) e = refl

-- where an item that is no line ending is taken, no break waits
first_passes : (b : Bool) (rest : Option ErrorKind) (why : ErrorKind) → cond b rest (Some why) ≡ None → b ≡ true
first_passes true rest why h = refl
first_passes false rest why h = let z : ⊥ = cc in absurd z

nothing_waits : (pending : Option Position) (ending : Bool) → (not (is_some pending) || ending) ≡ true → ending ≡ false → pending ≡ None
nothing_waits None ending h e = refl
nothing_waits (Some p) ending h e = let wrong : true ≡ false = sym h ∙ e in absurd cc

-- a container begins
pub container_entered : (s : Source) (name : Name) (what : ItemKind) (start : Point) (old mid new : Context) (in_table : Bool) → role_of name ≡ significant what → OpenedContainer s what start old mid
    → Begun (significant what) false in_table mid new → in_table ≡ (mid.in_table || is_table what) → enter_as s (significant what) name start (state_of old) ≡ Ok (state_in (old.frames.items ++ frame_of name start old ∷ []) new)
container_entered s name what start old mid new in_table is_significant o b is =
    let between : Context = record old { containers = mid.containers } in
    let begun : Begun (significant what) false in_table between new = subst (λ (m : Context). Begun (significant what) false in_table m new) o.others b in
    let flag : old.is_leaf ≡ false = no_leaf s what start (leaf_place old.in_table) (kept_top old) old.is_leaf o.taken in
    let inside : in_table ≡ (old.in_table || is_table what) = is ∙ ap (λ (m : Context). m.in_table || is_table what) o.others in
    let made : IsFresh (innermost mid.containers).container (model_of (current_model_of (innermost old.containers).container) what) = o.fresh_container in
    let kept_taken : first_failing (enter_checks s (kept_top old) what start) ≡ None =
    (λ t. first_failing (enter_checks s (cond (sym flag t) (fresh leaf (leaf_place old.in_table)) (kept_top old)) what start)) ∙ o.taken in
    let no_break : old.pending ≡ None = nothing_waits old.pending (is_line_ending what) (first_passes (not (is_some old.pending) || is_line_ending what) _ UnfinishedBreak kept_taken)
    (container_no_ending (innermost mid.containers).container (current_model_of (innermost old.containers).container) what made.initial_model) in
    let f : Frame = frame_of name start old in
    let fs : List Frame = old.frames.items ++ f ∷ [] in
    let now_top : top_of old ≡ container_state_of old.in_table None (innermost old.containers) =
    (λ t. cond (flag t) (fresh leaf (leaf_place old.in_table)) (kept_top old)) ∙ (λ t. container_state_of old.in_table (no_break t) (innermost old.containers)) in
    significant_opened s name what start old (state_in fs new) o.taken
    ((λ t. record {
      frames = ((λ u. record { name = name; start = start; around = old.interior.around; before = marks_of old.interior.marks; outer = Some (what, now_top u) }
          ∷ opens (reverse old.frames.items) (cond (flag u) (Some (kept_top old)) None) (around_innermost old.containers))
          ∙ sym (container_frames what f old.frames.items fs (innermost old.containers) (around_innermost old.containers) (around_innermost mid.containers) is_significant refl o.outer)) t;
      around = under old.interior.around (is_significant t);
      marks = sym begun.marks t;
      columns = ((λ u. columns_entered (cond (flag u) (fresh leaf (leaf_place old.in_table)) (kept_top old)).place.in_table (is_significant u) (columns_of old.columns)) ∙ sym begun.columns) t;
      top = ((λ u. entered (cond (flag u) (fresh leaf (leaf_place old.in_table)) (kept_top old)) what)
          ∙ (λ u. record {
            initial_model = sym made.initial_model u;
            model = sym made.current_model u;
            place = record { line_endings = sym o.line_endings u; in_table = sym inside u; marker = sym made.marker u };
            after_break = is_some (sym no_break u);
            inner = record {
              nodes = (sym (λ v. with_break (no_break v) (views (o.nodes v)))) u;
              label = sym made.label u;
              part = λ way. sym (made.parts way) u;
              mark = sym made.mark u;
              value = sym made.value u;
            };
          })) t;
    }) ∙ sym (ap (state_in fs) begun.others))

-- what a span that begins leaves as it was
same_outside : (s : Source) (what : ItemKind) (start : Point) (is_leaf : Bool) (old mid : Context) → Opened s what start old mid (Ok is_leaf) → mid ≡ record old { containers = mid.containers }
same_outside s what start true old mid o = o.same ∙ (λ t. record old { containers = (ap (λ (c : Context). c.containers) (sym o.same)) t })
same_outside s what start false old mid o = o.others

-- a leaf or a container begins
pub significant_entered : (s : Source) (name : Name) (what : ItemKind) (start : Point) (is_leaf : Bool) (old mid new : Context) (frame : Frame) (in_table : Bool) → role_of name ≡ significant what → Opened s what start old mid (Ok is_leaf)
    → Begun (significant what) is_leaf in_table mid new → frame ≡ frame_of name start mid → in_table ≡ (mid.in_table || is_table what) → enter_as s (significant what) name start (state_of old) ≡ Ok (state_with frame new)
significant_entered s name what start is_leaf old mid new frame in_table is_significant o b made is =
    let outside = same_outside s what start is_leaf old mid o in
    let same : old.frames.items ++ frame_of name start old ∷ [] ≡ new.frames.items ++ frame ∷ [] =
    sym ((λ t. (b.others t).frames.items ++ made t ∷ []) ∙ (λ t. (outside t).frames.items ++ frame_of name start (outside t) ∷ [])) in
    entered is_leaf o b ∙ ap (λ (fs : List Frame). Ok (state_in fs new)) same
  where
    entered : (is_leaf : Bool) → Opened s what start old mid (Ok is_leaf) → Begun (significant what) is_leaf in_table mid new → enter_as s (significant what) name start (state_of old) ≡ Ok (state_in (old.frames.items ++ frame_of name start old ∷ []) new)
    entered true o b = leaf_entered s name what start old mid new in_table is_significant o b is
    entered false o b = container_entered s name what start old mid new in_table is_significant o b is

-- a container begins, whose frame is kept outside the stack
pub container_begins : (s : Source) (name : Name) (what : ItemKind) (start : Point) (old mid new : Context) (frame : Frame) (in_table : Bool) → role_of name ≡ significant what → may_begin old.interior.around (significant what) ≡ true → OpenedContainer s what start old mid
    → Begun (significant what) false in_table mid new → frame ≡ frame_of name start mid → in_table ≡ (mid.in_table || is_table what) → enter_step s name start (state_of old) ≡ Ok (state_with frame new)
container_begins s name what start old mid new frame in_table is begins opened begun made table =
    enter_free s name (significant what) start true old (sym is) (sym begins) refl
    ∙ significant_entered s name what start false old mid new frame in_table is opened begun made table

-- or it stops there
pub significant_stops : (s : Source) (name : Name) (what : ItemKind) (point : Point) (stop : Stop) (old mid : Context) → Opened s what point old mid (Err stop) → Stops stop point (enter_as s (significant what) name point (state_of old))
significant_stops s name what point (stops.Refused why) old mid o = significant_refused s name what point old why o
significant_stops s name what point (stops.Memory error) old mid o = tt
