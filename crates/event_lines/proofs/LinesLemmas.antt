-- Lemmas on the lines of a text.
use Rattle.std.proofs.Common.{◌≡◌, ◌≢◌, ℕ, ◌+◌, ◌<◌, List, [], ◌∷◌, ◌++◌, Option, Some, None, true, false, eqb, length, get_or, unwrap_or, refl, sym, subst, ◌∙◌, ap, arith, append_assoc, append-nil}
use Rattle.std.specs.Option.{option_map}
use Rattle.std.proofs.lemmas.Bool.Decides.{nat_tests}
use Rattle.markdown_events.specs.declared.event.Event.{Event}
use Rattle.event_lines.specs.Lines.{before, after, pieces, events_of_lines, event_of, lines, first_unread, unread_line, IsFirstUnread}
use Rattle.event_lines.specs.Fronts.{EventBegins}
use Rattle.event_lines.proofs.CutLemmas.{from, drop_at, step_before, more_pieces, pieces_first}

-- the lines of a text so far gave these events, were so many, and could all be read; these are left
pub record Reads (bytes : List ℕ) (events : List Event) (number : ℕ) (left : List (List ℕ)) : Type 0 where
  pub lines_so_far : lines bytes ≡ option_map (λ es. events ++ es) (events_of_lines left)
  pub unread_so_far : unread_line bytes ≡ first_unread (number + 1) left

-- the first of the events left goes after those so far
map_push : (xs : List Event) (e : Event) (o : Option (List Event)) → option_map (λ es. xs ++ es) (option_map (λ es. e ∷ es) o) ≡ option_map (λ es. (xs ++ e ∷ []) ++ es) o
map_push xs e None = refl
map_push xs e (Some es) = ap Some (sym (append_assoc xs (e ∷ []) es))

-- after an event line
pub reads_event : (bytes : List ℕ) (events : List Event) (number : ℕ) (line : List ℕ) (left : List (List ℕ)) (event : Event) → Reads bytes events number (line ∷ left)
    → length line ≢ 0 → event_of line ≡ Some event → Reads bytes (events ++ event ∷ []) (number + 1) left
reads_event bytes events number line left event so_far h e =
    let is : eqb (length line) 0 ≡ false = grind (arith, nat_tests, h) in
    record {
      lines_so_far = so_far.lines_so_far ∙ rw (is, e) (map_push events event (events_of_lines left));
      unread_so_far = so_far.unread_so_far ∙ rw (is, e) refl;
    }

-- at a line that cannot be read
pub reads_none : (bytes : List ℕ) (events : List Event) (number : ℕ) (line : List ℕ) (left : List (List ℕ)) → Reads bytes events number (line ∷ left)
    → length line ≢ 0 → event_of line ≡ None → IsFirstUnread (number + 1) bytes
reads_none bytes events number line left so_far h e =
    let is : eqb (length line) 0 ≡ false = grind (arith, nat_tests, h) in
    record { no_events = so_far.lines_so_far ∙ rw (is, e) refl; first = so_far.unread_so_far ∙ rw (is, e) refl }

-- after the last line
pub reads_all : (bytes : List ℕ) (events : List Event) (number : ℕ) → Reads bytes events number [] → lines bytes ≡ Some events
reads_all bytes events number so_far = so_far.lines_so_far ∙ ap Some (append-nil events)

-- what is left after a line feed, or after the last line
step_next : (bytes : List ℕ) (events : List Event) (number : ℕ) (o : Option (List ℕ)) → Reads bytes events number (more_pieces 10 o) → Reads bytes events number (pieces 10 (unwrap_or o []))
step_next bytes events number None r = record { lines_so_far = r.lines_so_far; unread_so_far = r.unread_so_far }
step_next bytes events number (Some rest) r = r

-- an event line is not empty
said : (line : List ℕ) (event : Event) → event_of line ≡ Some event → length line ≢ 0
unfolding event_of
said [] event h = absurd (cc)
said (b ∷ bs) event h = λ e. omega (arith, e)

-- after a line that says an event
pub reads_next : (bytes : List ℕ) (events : List Event) (number : ℕ) (rest next : List ℕ) (event : Event) → Reads bytes events number (pieces 10 rest) → EventBegins rest event next → Reads bytes (events ++ event ∷ []) (number + 1) (pieces 10 next)
reads_next bytes events number rest next event r e =
    let now : Reads bytes events number (before 10 rest ∷ more_pieces 10 (after 10 rest)) = rw (pieces_first 10 rest) at r in
    rw e.lines (step_next bytes (events ++ event ∷ []) (number + 1) (after 10 rest) (reads_event bytes events number (before 10 rest) (more_pieces 10 (after 10 rest)) event now (said (before 10 rest) event e.says) e.says))

-- at a line that says nothing
some_line : (rest : List ℕ) → 0 < length rest → get_or rest 0 0 ≢ 10 → length (before 10 rest) ≢ 0
some_line [] some other = absurd (omega arith)
some_line (b ∷ bs) some other = let h : before 10 (b ∷ bs) ≡ b ∷ before 10 bs = step_before 10 b bs other in rw h (λ e. omega (arith, e))

pub reads_wrong : (bytes : List ℕ) (events : List Event) (number : ℕ) (rest : List ℕ) → Reads bytes events number (pieces 10 rest) → 0 < length rest → get_or rest 0 0 ≢ 10 → event_of (before 10 rest) ≡ None → IsFirstUnread (number + 1) bytes
reads_wrong bytes events number rest r some other none =
    let now : Reads bytes events number (before 10 rest ∷ more_pieces 10 (after 10 rest)) = rw (pieces_first 10 rest) at r in
    reads_none bytes events number (before 10 rest) (more_pieces 10 (after 10 rest)) now (some_line rest some other) none
