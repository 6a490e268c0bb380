-- The invariant of the states of a compilation: the container around each open span accepted it.
use Rattle.std.specs.Prelude.{Bool, IsTrue, List, None, Option, Some, [], false, true, ◌∷◌, ◌≡◌}
use Rattle.markdown_events.specs.Names.{role_of}
use Rattle.markdown_events.specs.declared.role.ItemKind.{ItemKind}
use Rattle.markdown_events.specs.declared.role.Role.{Role}
use Rattle.markdown_steps.specs.Compiler.{ContainerState, OpenSpan, State, enter_checks}
use Rattle.markdown_grammar.specs.Grammar.{any_content, model_of}
use Rattle.markdown_steps.specs.Checks.{passes}
use Rattle.markdown_grammar.specs.Document.{Source}
use Rattle.markdown_events.specs.declared.role.Role.TheVariants.{Significant as significant, Transparent as transparent}

-- a transparent role
abbrev pub is_transparent : Role → Bool
is_transparent (transparent _) = true
is_transparent (significant _) = false

-- an open significant span: its name has this role, its items are in its content model, and it passed the tests of its container
pub record Taken (s : Source) (o : OpenSpan) (what : ItemKind) (own outer : ContainerState) : Type 0 where
  pub is_significant : role_of o.name ≡ significant what
  pub initial_model : own.initial_model ≡ model_of outer.model what
  pub passed : IsTrue (passes (enter_checks s outer what o.start))

-- an open span around the innermost container, from the container around it; a transparent span changes no container
abbrev pub Stands : Source → OpenSpan → ContainerState → (ContainerState → Type 0) → Option (ItemKind × ContainerState) → Type 0
Stands s o own Outside None = IsTrue (is_transparent (role_of o.name)) × Outside own
Stands s o own Outside (Some outer) = Taken s o outer.0 own outer.1 × Outside outer.1

-- the open spans around the innermost container; the outermost container accepts any content
abbrev pub AllStand : Source → List OpenSpan → ContainerState → Type 0
AllStand s [] own = own.initial_model ≡ any_content
AllStand s (o ∷ os) own = Stands s o own (AllStand s os) o.outer

-- the invariant of a state
abbrev pub Well : Source → State → Type 0
Well s st = AllStand s st.frames st.top
