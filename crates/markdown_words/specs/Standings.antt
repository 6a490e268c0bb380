-- What each event does to what is said.
use Rattle.std.specs.Prelude.{Bool, List, [], false, not, true, ◌++◌, ◌∷◌, ◌||◌}
use Rattle.markdown_events.specs.Names.{role_of}
use Rattle.markdown_events.specs.declared.event.Event.{Event}
use Rattle.markdown_events.specs.declared.event.Kind.{Kind}
use Rattle.markdown_events.specs.declared.event.Kind.TheVariants.{Enter, Exit}
use Rattle.markdown_events.specs.declared.event.Point.{Point}
use Rattle.markdown_events.specs.declared.role.ItemKind.{ItemKind}
use Rattle.markdown_events.specs.declared.role.Role.{Role}
use Rattle.markdown_events.specs.declared.role.Role.TheVariants.{Significant as significant, Transparent as transparent}
use Rattle.markdown_grammar.specs.Document.{Source}
use Rattle.markdown_words.specs.Saying.{Said, closed, opened, suits}
use Rattle.markdown_words.specs.Settings.{fits, setting_after, setting_inside, setting_of_root}
use Rattle.markdown_words.specs.declared.setting.Setting.{Setting}

-- an open item: the setting that it is in, and where it begins
pub record Open : Type 0 where
  pub setting : Setting
  pub start : Point

-- what is said so far, the setting of the next item, the open items with the innermost first, and whether an item came of which it is not known what is said
pub record Standing : Type 0 where
  pub said : Said
  pub setting : Setting
  pub outer : List Open
  pub strange : Bool

-- before the first event
abbrev pub at_first : Standing
at_first = record { said = record { text = []; mark = 0; last = 0 }; setting = setting_of_root; outer = []; strange = false }

-- after the enter of an item
abbrev pub entered : ItemKind → Point → Standing → Standing
entered what start st = record {
  said = opened st.setting.voice st.setting.in_label what st.said;
  setting = setting_inside st.setting what;
  outer = (record { setting = st.setting; start = start }) ∷ st.outer;
  strange = st.strange || not (fits st.setting.voice st.setting.in_label what);
}

-- after the exit of the innermost of these
abbrev pub left_of : Source → ItemKind → Point → Standing → List Open → Standing
left_of s what end st [] = record { said = st.said; setting = st.setting; outer = []; strange = true }
left_of s what end st (innermost ∷ outer) = record {
  said = closed s innermost.setting what innermost.start end st.said;
  setting = setting_after innermost.setting what;
  outer = outer;
  strange = st.strange || not (suits s innermost.setting.voice what innermost.start end);
}

-- after the exit of an item
abbrev pub left : Source → ItemKind → Point → Standing → Standing
left s what end st = left_of s what end st st.outer

-- after an event
abbrev pub moved_by : Source → Role → Kind → Point → Standing → Standing
moved_by s (transparent _) kind point st = st
moved_by s (significant what) Enter point st = entered what point st
moved_by s (significant what) Exit point st = left s what point st

abbrev pub moved : Source → Event → Standing → Standing
moved s event st = moved_by s (role_of event.name) event.kind event.point st

-- after events
abbrev pub after_events : Source → Standing → List Event → Standing
after_events s st [] = st
after_events s st (event ∷ events) = after_events s (moved s event st) events

-- the settings of open items, the innermost last
abbrev pub settings_of : List Open → List Setting
settings_of [] = []
settings_of (innermost ∷ outer) = settings_of outer ++ innermost.setting ∷ []
