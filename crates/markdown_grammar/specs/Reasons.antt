-- Why a list of events is refused.
use Rattle.std.specs.Prelude.{Bool, List, [], false, true, ◌++◌, ◌∷◌, ◌≡◌, ◌≢◌, ◌⊎◌}
use Rattle.markdown_events.specs.Forest.{Forest, empty, is_delimiter_cell_value, is_delimiter_row, events_of}
use Rattle.markdown_events.specs.Names.{is_same_name, role_of}
use Rattle.markdown_events.specs.declared.event.Event.{Event}
use Rattle.markdown_events.specs.declared.event.Name.{Name}
use Rattle.markdown_events.specs.declared.event.Point.{Point}
use Rattle.markdown_events.specs.declared.role.ItemKind.{ItemKind}
use Rattle.markdown_events.specs.declared.role.Role.{Role}
use Rattle.markdown_grammar.specs.Accepted.{Accepted, Occurrence, ends_a_break, ends_with_break, has_its_byte, has_its_parts, has_its_value, contains_no_open_break, is_no_inner_table}
use Rattle.markdown_events.specs.Around.{is_sealed, may_begin}
use Rattle.markdown_grammar.specs.Refusals.{ErrorAt, rule_error, missing_error, value_error}
use Rattle.markdown_grammar.specs.Items.{items, kinds, none}
use Rattle.markdown_grammar.specs.Document.{Source}
use Rattle.markdown_grammar.specs.Grammar.{ContentModel, Rule, model_of, keeps, rules, conforms}
use Rattle.markdown_grammar.specs.Sites.{Ancestor, Site, around_of, occurrence, site_of, events_so_far}
use Rattle.markdown_grammar.specs.declared.error_kind.ErrorKind.{ErrorKind}
use Rattle.markdown_events.specs.declared.event.Kind.TheVariants.{Enter, Exit}
use Rattle.markdown_events.specs.declared.role.Role.TheVariants.{Significant as significant}
use Rattle.markdown_grammar.specs.declared.error_kind.ErrorKind.TheVariants.{Held, InvalidSlice, Misplaced, Unbalanced, UnfinishedBreak}

-- ---- Tests in order

-- the first of these tests that fails has this error
abbrev pub FailsFirst : List (Bool × ErrorKind) → ErrorKind → Type 0
FailsFirst [] why = ⊥
FailsFirst (test ∷ tests) why = ((test.0 ≡ false) × (why ≡ test.1)) ⊎ ((test.0 ≡ true) × FailsFirst tests why)

-- one test for each of these rules: whether the items keep it
abbrev pub rule_tests : ContentModel → List Rule → List ItemKind → List (Bool × ErrorKind)
rule_tests model [] items = []
rule_tests model (rule ∷ rules) items = (keeps rule items, rule_error model rule) ∷ rule_tests model rules items

-- an item that begins, before anything is known of its end and its items
abbrev pub beginning : Site → ItemKind → Point → Occurrence
beginning site what start = occurrence site what start start none

-- the tests of an item where it begins
abbrev pub enter_tests : Source → Site → ItemKind → Point → List (Bool × ErrorKind)
enter_tests s site what start =
    (ends_a_break (beginning site what start), UnfinishedBreak)
    ∷ (rule_tests site.initial_model (rules site.initial_model) (kinds site.before ++ what ∷ [])
    ++ ((is_no_inner_table (beginning site what start), Misplaced) ∷ (has_its_byte s (beginning site what start), InvalidSlice) ∷ []))

-- the tests of an item where it ends
abbrev pub exit_tests : Source → Occurrence → List (Bool × ErrorKind)
exit_tests s x =
    (contains_no_open_break x, UnfinishedBreak)
    ∷ (has_its_parts s x, missing_error (model_of x.model x.what))
    ∷ (has_its_value s x, value_error s x.what x.start x.end) ∷ []

-- something is wrong with an item where it begins
abbrev pub IsWrongAtEnter : Source → Site → ItemKind → Point → ErrorKind → Type 0
IsWrongAtEnter s site what start why = FailsFirst (enter_tests s site what start) why

-- something is wrong with an item where it ends
abbrev pub IsWrongAtExit : Source → Occurrence → ErrorKind → Type 0
IsWrongAtExit s x why = FailsFirst (exit_tests s x) why

-- ---- Events

-- an exit with this name ends the innermost open span
abbrev pub closes : List Ancestor → Name → Bool
closes [] name = false
closes (e ∷ path) name = is_same_name e.name name

-- something is wrong with an event, after closed spans and the open spans after them
pub data IsWrong (s : Source) (forest : Forest) (path : List Ancestor) (event : Event) (why : ErrorKind) : Type 0 where
  -- a span begins where it may not begin
  held : event.kind ≡ Enter → may_begin (around_of path) (role_of event.name) ≡ false → why ≡ Held → IsWrong s forest path event why
  enters : (what : ItemKind) → event.kind ≡ Enter → may_begin (around_of path) (role_of event.name) ≡ true → role_of event.name ≡ significant what
      → conforms (site_of forest path).initial_model (kinds (site_of forest path).before) ≡ true → IsWrongAtEnter s (site_of forest path) what event.point why
      → IsWrong s forest path event why
  -- a span ends that is not the innermost open one
  unmatched : event.kind ≡ Exit → closes path event.name ≡ false → why ≡ Unbalanced → IsWrong s forest path event why
  exits : (e : Ancestor) (outer : List Ancestor) (what : ItemKind) → event.kind ≡ Exit → path ≡ e ∷ outer → e.name ≡ event.name → role_of e.name ≡ significant what
      → IsWrongAtExit s (occurrence (site_of forest outer) what e.start event.point (items e.inside)) why → IsWrong s forest path event why

-- nothing is wrong at any of these events
abbrev pub NothingIsWrong : Source → List Event → Type 0
NothingIsWrong s events = (forest : Forest) (path : List Ancestor) (event : Event) (back : List Event) (why : ErrorKind) → events ≡ events_so_far forest path ++ (event ∷ back) → ¬ (IsWrong s forest path event why)

-- the error is at the first event where something is wrong, and no list that begins with the events up to it is accepted
pub record StopsAtFirstError (s : Source) (events : List Event) (m : ErrorAt) : Type 0 where
  pub forest : Forest
  pub path : List Ancestor
  pub event : Event
  pub back : List Event
  pub parts : events ≡ events_so_far forest path ++ (event ∷ back)
  pub named : m.point ≡ event.point
  pub wrong : IsWrong s forest path event m.error_kind
  pub fine_before : NothingIsWrong s (events_so_far forest path)
  pub none_accepted : (other : Forest) (others : List Event) → events_of other ≡ events_so_far forest path ++ (event ∷ others) → ¬ (Accepted s other)

-- no event is wrong, but the list ends with an open span, or with a break as the root's last item; the error is at the last event
pub record EndsOpen (s : Source) (events : List Event) (m : ErrorAt) : Type 0 where
  pub forest : Forest
  pub path : List Ancestor
  pub parts : events ≡ events_so_far forest path
  pub fine : NothingIsWrong s events
  pub prefix : List Event
  pub event : Event
  pub last : events ≡ prefix ++ (event ∷ [])
  pub named : m.point ≡ event.point
  pub wrong : ((path ≢ []) × (m.error_kind ≡ Unbalanced)) ⊎ ((path ≡ []) × (ends_with_break (items forest) ≡ true) × (m.error_kind ≡ UnfinishedBreak))
