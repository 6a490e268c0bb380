-- What a builder keeps.
use Rattle.std.proofs.Common.{Bool, List, None, Option, Result, Some, Ok, Err, [], ap, arith, cond, false, is_some, length, refl, subst, sym, true, ◌++◌, ◌+◌, ◌-◌, ◌∙◌, ◌∷◌, ◌≡◌}
use Rattle.std.specs.Prelude.{slice_get, unwrap_or}
use Rattle.std.specs.Option.{option_or}
use Rattle.std.proofs.Math.Seq.{get_or-append_seam}
use Rattle.std.proofs.lemmas.List.{length-append}
use Rattle.std.proofs.lemmas.Option.{slice_get-get_or}
use Rattle.markdown_events.specs.Forest.{enter, exit}
use Rattle.markdown_events.specs.Names.{role_of}
use Rattle.markdown_events.specs.declared.event.Event.{Event}
use Rattle.markdown_events.specs.declared.event.Name.{Name}
use Rattle.markdown_events.specs.declared.role.Role.{Role}
use Rattle.markdown_blocks.specs.Columns.{columns_of}
use Rattle.markdown_parts.specs.Marks.{marks_of}
use Rattle.markdown_grammar.specs.Grammar.{leaf}
use Rattle.markdown_grammar.specs.declared.error_kind.ErrorKind.TheVariants.{Unbalanced}
use Rattle.markdown_steps.specs.Columns.{columns_entered, columns_left}
use Rattle.markdown_steps.specs.Siblings.{marks_with, no_marks}
use Rattle.markdown_steps.proofs.Outcomes.{same_name_refl}
use Rattle.markdown_events.specs.declared.event.Point.{Point}
use Rattle.markdown_events.specs.declared.message.Fault.{Fault}
use Rattle.markdown_events.specs.declared.message.Fault.TheVariants as faults
use Rattle.markdown_events.specs.declared.unist.Position.{Position}
use Rattle.markdown_grammar.specs.Document.{Source}
use Rattle.markdown_grammar.specs.Refusals.{ErrorAt, IsFaultOf}
use Rattle.markdown_grammar.specs.declared.error_kind.Stop.{Stop}
use Rattle.markdown_grammar.specs.declared.error_kind.Stop.TheVariants as stops
use Rattle.markdown_steps.proofs.Refused.{run-append}
use Rattle.markdown_steps.specs.Checks.{refused, ◌>>=◌}
use Rattle.markdown_steps.specs.Compiler.{State, enter_step, exit_step, fresh, opening, point_of, push, run, step}
use Rattle.markdown_steps.specs.Extents.{extent_between, extent_of, last_event}
use Rattle.markdown_events.specs.Slices.{between}
use Rattle.markdown_grammar.specs.Meaning.{nowhere}
use Rattle.markdown_tree.specs.Building.{ArePointsOf, HasState, IsBuilt, point_in}
use Rattle.markdown_tree.specs.ContainerStates.{Stops}
use Rattle.markdown_tree.specs.States.{Fails, Passed, kept_top, leaf_place, state_of, top_of}
use Rattle.markdown_tree.specs.declared.context.Context.{Context}

-- ---- Runs with one more event

run-one : (s : Source) (e : Event) (st : State) → run s (e ∷ []) st ≡ step s e st
unfolding run
run-one s e st = done (step s e st)
  where
    done : (r : Result State ErrorAt) → (r >>= run s []) ≡ r
    done (Ok x) = refl
    done (Err e) = refl

-- two events of which the first is taken
pub run-two : (s : Source) (first second : Event) (st mid : State) → step s first st ≡ Ok mid → run s (first ∷ second ∷ []) st ≡ step s second mid
unfolding run
run-two s first second st mid h = ap (λ (r : Result State ErrorAt). r >>= run s (second ∷ [])) h ∙ run-one s second mid

-- and of which one is refused
pub first-stops : (s : Source) (first second : Event) (st : State) (stop : Stop) (point : Point) → Stops stop point (step s first st) → Stops stop point (run s (first ∷ second ∷ []) st)
unfolding run
first-stops s first second st (stops.Memory error) point h = tt
first-stops s first second st (stops.Refused why) point h = ap (λ (r : Result State ErrorAt). r >>= run s (second ∷ [])) h

pub second-stops : (s : Source) (first second : Event) (st mid : State) (stop : Stop) (point : Point) → step s first st ≡ Ok mid → Stops stop point (step s second mid) → Stops stop point (run s (first ∷ second ∷ []) st)
second-stops s first second st mid stop point taken h = subst (λ (r : Result State ErrorAt). Stops stop point r) (sym (run-two s first second st mid taken)) h

-- more events, after events that no step refused
pub built-with : (s : Source) (es more added : List Event) (old new : Context) (fault : Option Fault) → added ≡ es ++ more → run s es opening ≡ Ok (state_of old) → HasState new fault (run s more (state_of old)) → IsBuilt s added new fault
built-with s es more added old new fault is h ran =
    let all : run s (es ++ more) opening ≡ run s more (state_of old) = run-append s es more opening ∙ ap (λ (r : Result State ErrorAt). r >>= run s more) h in
    subst (HasState new fault) (sym (ap (λ (xs : List Event). run s xs opening) is ∙ all)) ran

-- one more event, after events that no step refused
pub built-on : (s : Source) (es added : List Event) (e : Event) (old new : Context) (fault : Option Fault) → added ≡ es ++ e ∷ [] → run s es opening ≡ Ok (state_of old) → HasState new fault (step s e (state_of old)) → IsBuilt s added new fault
built-on s es added e old new fault is h stepped = built-with s es (e ∷ []) added old new fault is h (subst (HasState new fault) (sym (run-one s e (state_of old))) stepped)

fails-still : (s : Source) (es more added : List Event) (fault : Fault) → added ≡ es ++ more → Fails fault (run s es opening) → Fails fault (run s added opening)
fails-still s es more added (faults.Memory error) is h = tt
fails-still s es more added (faults.Message m) is h =
    (h.0, ap (λ (xs : List Event). run s xs opening) is ∙ run-append s es more opening ∙ ap (λ (r : Result State ErrorAt). r >>= run s more) h.1, h.2)

-- and after events one of which was refused
pub built-still : (s : Source) (es more added : List Event) (context : Context) (fault : Option Fault) → added ≡ es ++ more → is_some fault ≡ true → IsBuilt s es context fault → IsBuilt s added context fault
built-still s es more added context None is some h = absurd (cc some)
built-still s es more added context (Some fault) is some h = fails-still s es more added fault is h

-- where there is no fault, no step refused an event
pub built-state : (s : Source) (es : List Event) (context : Context) (fault : Option Fault) → is_some fault ≡ false → IsBuilt s es context fault → run s es opening ≡ Ok (state_of context)
built-state s es context None none h = h
built-state s es context (Some fault) none h = absurd (cc none)

-- a stop that is told
pub told : (stop : Stop) (fault : Fault) (point : Point) (expected : Result State ErrorAt) → Stops stop point expected → IsFaultOf stop point fault → Fails fault expected
told (stops.Memory error) fault point expected stopped says = subst (λ (f : Fault). Fails f expected) (sym says) tt
told (stops.Refused why) (faults.Message m) point expected stopped says = (record { error_kind = why; point = point }, stopped, says)
told (stops.Refused why) (faults.Memory error) point expected stopped says = absurd says

-- ---- The first event and the last

first-more : (es : List Event) (e : Event) → point_in (slice_get (es ++ e ∷ []) 0) ≡ option_or (point_in (slice_get es 0)) (Some e.point)
first-more [] e = refl
first-more (x ∷ es) e = refl

last-is : (es : List Event) (e : Event) → last_event (es ++ e ∷ []) ≡ Some e
last-is es e =
    let size : length (es ++ e ∷ []) ≡ length es + 1 = length-append es (e ∷ []) in
    let before : length (es ++ e ∷ []) - 1 ≡ length es = omega (arith, size) in
    ap (slice_get (es ++ e ∷ [])) before ∙ slice_get-get_or (es ++ e ∷ []) (length es) e (omega (arith, size)) ∙ ap Some (get_or-append_seam es e [] e)

pub points-after : (es added : List Event) (e : Event) (first last now : Option Point) → ArePointsOf es first last → added ≡ es ++ e ∷ [] → now ≡ option_or first (Some e.point) → ArePointsOf added now (Some e.point)
points-after es added e first last now points is k = record {
  first_is = k ∙ ap (λ (o : Option Point). option_or o (Some e.point)) points.first_is ∙ sym (first-more es e) ∙ ap (λ (xs : List Event). point_in (slice_get xs 0)) (sym is);
  last_is = ap point_in (sym (last-is es e)) ∙ ap (λ (xs : List Event). point_in (last_event xs)) (sym is);
}

pub no-points : (es : List Event) → es ≡ [] → ArePointsOf es None None
no-points es none = subst (λ (xs : List Event). ArePointsOf xs None None) (sym none) (record { first_is = refl; last_is = refl })

-- ---- Before the first event, and after the last

pub built-none : (s : Source) (events : List Event) (context : Context) → events ≡ [] → state_of context ≡ opening → IsBuilt s events context None
unfolding run
built-none s events context none new = subst (λ (es : List Event). IsBuilt s es context None) (sym none) (ap Ok (sym new))

-- the extent, by the points of the events
by-points : (a b : Option Event) (first last : Option Point) → first ≡ point_in a → last ≡ point_in b → (at : Position) → ((p q : Point) → first ≡ Some p → last ≡ Some q → at ≡ between p q) → (first ≡ None → at ≡ nowhere) → (last ≡ None → at ≡ nowhere) → at ≡ extent_between a b
by-points None b first last h k at both no_first no_last = no_first h
by-points (Some a) None first last h k at both no_first no_last = no_last k
by-points (Some a) (Some b) first last h k at both no_first no_last = both a.point b.point h k

pub extent-is : (es : List Event) (first last : Option Point) → ArePointsOf es first last → (at : Position) → ((p q : Point) → first ≡ Some p → last ≡ Some q → at ≡ between p q) → (first ≡ None → at ≡ nowhere) → (last ≡ None → at ≡ nowhere) → at ≡ extent_of es
extent-is es first last points at both no_first no_last = by-points (slice_get es 0) (last_event es) first last points.first_is points.last_is at both no_first no_last

end-by : (b : Option Event) → unwrap_or (point_in b) (record { line = 1; column = 1; index = 0; vs = 0 }) ≡ point_of b
end-by None = refl
end-by (Some b) = refl

pub end-is : (es : List Event) (first last : Option Point) → ArePointsOf es first last → unwrap_or last (record { line = 1; column = 1; index = 0; vs = 0 }) ≡ point_of (last_event es)
end-is es first last points = ap (λ (o : Option Point). unwrap_or o (record { line = 1; column = 1; index = 0; vs = 0 })) points.last_is ∙ end-by (last_event es)

-- ---- A transparent token

-- the span that was pushed last ends, and gives nothing
exit-pushed : (s : Source) (name : Name) (start end : Point) (st : State) → exit_step s name end (push name start st None st.top)
    ≡ Ok (record { frames = st.frames; around = st.around; marks = marks_with st.marks (role_of name) no_marks; columns = columns_left (role_of name) no_marks (columns_entered st.top.place.in_table (role_of name) st.columns); top = st.top })
unfolding exit_step
exit-pushed s name start end st =
    ap (λ (b : Bool). cond b (Ok (record { frames = st.frames; around = st.around; marks = marks_with st.marks (role_of name) no_marks; columns = columns_left (role_of name) no_marks (columns_entered st.top.place.in_table (role_of name) st.columns); top = st.top })) (refused Unbalanced end))
    (same_name_refl name)

-- a container is in a table if the context is
in-table : (c : Context) (leaves : Bool) → (cond leaves (fresh leaf (leaf_place c.in_table)) (kept_top c)).place.in_table ≡ c.in_table
in-table c true = refl
in-table c false = refl

pub token-passed : (s : Source) (name : Name) (role : Role) (start end : Point) (old new : Context) → role_of name ≡ role → enter_step s name start (state_of old) ≡ Ok (push name start (state_of old) None (top_of old)) → Passed role old new
    → run s (enter name start ∷ exit name end ∷ []) (state_of old) ≡ Ok (state_of new)
token-passed s name role start end old new is entered p =
    run-two s (enter name start) (exit name end) (state_of old) (push name start (state_of old) None (top_of old)) entered
    ∙ exit-pushed s name start end (state_of old)
    ∙ (λ t. Ok (record {
      frames = (state_of old).frames;
      around = old.interior.around;
      marks = ((λ u. marks_with (marks_of old.interior.marks) (is u) no_marks) ∙ sym p.marks) t;
      columns = ((λ u. columns_left (is u) no_marks (columns_entered (in-table old old.is_leaf u) (is u) (columns_of old.columns))) ∙ sym p.columns) t;
      top = top_of old;
    }))
    ∙ sym (ap (λ (c : Context). Ok (state_of c)) p.others)
