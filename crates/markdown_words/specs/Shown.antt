-- What the words of events show of them.
use Rattle.std.specs.Prelude.{List, [], false, true, ◌++◌, ◌∷◌, ◌≡◌}
use Rattle.character_references.specs.Html.{html}
use Rattle.markdown_events.specs.declared.event.Event.{Event}
use Rattle.markdown_events.specs.declared.event.Point.{Point}
use Rattle.markdown_events.specs.declared.role.ItemKind.{ItemKind}
use Rattle.markdown_grammar.specs.Document.{Source, source_of}
use Rattle.markdown_grammar.specs.declared.values.Values.TheVariants.{Whole}
use Rattle.markdown_words.specs.Saying.{closed, is_marked, is_valued, opened, suits}
use Rattle.markdown_words.specs.Settings.{fits, setting_after, setting_inside}
use Rattle.markdown_words.specs.Standings.{Standing, after_events, at_first, settings_of}
use Rattle.markdown_words.specs.declared.setting.Setting.{Setting}
use Rattle.markdown_words.specs.declared.words.Words.{Words}

-- the document with the references of HTML
abbrev pub source_in : Words → Source
source_in words = source_of words.document html

-- the words stand where events have led, and nothing of these is strange
pub record Shows (words : Words) (st : Standing) : Type 0 where
  pub whole : words.document.values ≡ Whole
  pub said_is : words.speech ≡ st.said
  pub setting_is : words.setting ≡ st.setting
  pub outer_is : words.outer.items ≡ settings_of st.outer
  pub known : st.strange ≡ false

-- what events do: if nothing is strange after them, nothing was before, and the words go on as the definition says
pub record Goes (events : List Event) (old new : Words) : Type 0 where
  pub before : new.strange ≡ false → old.strange ≡ false
  pub goes : new.strange ≡ false → (st : Standing) → Shows old st → Shows new (after_events (source_in old) st events)

-- unless an event was strange, the words stand where these events lead
abbrev pub AreOf : List Event → Words → Type 0
AreOf events words = words.strange ≡ false → Shows words (after_events (source_in words) at_first events)

-- an item is entered, whose start is not read
pub record Enters (what : ItemKind) (old new : Words) : Type 0 where
  pub before : old.strange ≡ false
  pub fit : fits old.setting.voice old.setting.in_label what ≡ true
  pub unread : is_valued what ≡ false
  pub document_is : new.document ≡ old.document
  pub said_is : new.speech ≡ opened old.setting.voice old.setting.in_label what old.speech
  pub setting_is : new.setting ≡ setting_inside old.setting what
  pub outer_is : new.outer.items ≡ old.outer.items ++ old.setting ∷ []

-- an item ends in this setting, whose start is not read
pub record EndsIn (q : Setting) (what : ItemKind) (end : Point) (old new : Words) : Type 0 where
  pub before : old.strange ≡ false
  pub document_is : new.document ≡ old.document
  pub suit : is_marked q.voice ≡ false → suits (source_in old) q.voice what end end ≡ true
  pub said_is : is_valued what ≡ false → is_marked q.voice ≡ false → old.document.values ≡ Whole → new.speech ≡ closed (source_in old) q what end end old.speech
  pub setting_is : new.setting ≡ old.setting
  pub outer_is : new.outer.items ≡ old.outer.items

-- an item is left, in this setting, whose start is not read
pub record LeavesTo (what : ItemKind) (end : Point) (q : Setting) (old new : Words) : Type 0 where
  pub before : old.strange ≡ false
  pub unread : is_valued what ≡ false
  pub unmarked : is_marked q.voice ≡ false
  pub document_is : new.document ≡ old.document
  pub suit : suits (source_in old) q.voice what end end ≡ true
  pub said_is : old.document.values ≡ Whole → new.speech ≡ closed (source_in old) q what end end old.speech
  pub setting_is : new.setting ≡ setting_after q what
  pub outer_is : old.outer.items ≡ new.outer.items ++ q ∷ []

abbrev pub Leaves : ItemKind → Point → Words → Words → Type 0
Leaves what end old new = (q : Setting) × LeavesTo what end q old new

-- an item is passed, with nothing in it
pub record Passes (what : ItemKind) (start end : Point) (old new : Words) : Type 0 where
  pub before : old.strange ≡ false
  pub fit : fits old.setting.voice old.setting.in_label what ≡ true
  pub document_is : new.document ≡ old.document
  pub suit : suits (source_in old) old.setting.voice what start end ≡ true
  pub said_is : old.document.values ≡ Whole → new.speech ≡ closed (source_in old) old.setting what start end (opened old.setting.voice old.setting.in_label what old.speech)
  pub setting_is : new.setting ≡ setting_after old.setting what
  pub outer_is : new.outer.items ≡ old.outer.items
