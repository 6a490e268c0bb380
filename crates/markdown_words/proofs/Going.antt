-- How the words go on with events.
use Rattle.std.proofs.Common.{◌≡◌, ℕ, Bool, true, false, not, ◌||◌, List, [], ◌∷◌, ◌++◌, refl, sym, ◌∙◌, ap, subst}
use Rattle.markdown_events.specs.Forest.{enter, exit}
use Rattle.markdown_events.specs.Names.{role_of}
use Rattle.markdown_events.specs.declared.event.Kind.TheVariants.{Enter, Exit}
use Rattle.markdown_events.specs.declared.event.Name.{Name}
use Rattle.markdown_events.specs.declared.event.Point.{Point}
use Rattle.markdown_events.specs.declared.role.ItemKind.{ItemKind}
use Rattle.markdown_events.specs.declared.role.ItemKind.TheVariants.{Content as content, Part as part}
use Rattle.markdown_events.specs.declared.role.Content.TheVariants as contents
use Rattle.markdown_events.specs.declared.role.Part.TheVariants as parts
use Rattle.markdown_events.specs.declared.role.Role.{Role}
use Rattle.markdown_events.specs.declared.role.Role.TheVariants.{Significant as significant, Transparent as transparent}
use Rattle.markdown_events.specs.declared.role.TransparentKind.{TransparentKind}
use Rattle.markdown_grammar.specs.Document.{Given, Source}
use Rattle.markdown_words.specs.Saying.{Said, closed, closed_address, closed_code, closed_in, closed_reference, is_marked, is_valued, opened, says_at_end, suits}
use Rattle.markdown_words.specs.Settings.{fits, setting_after, setting_inside}
use Rattle.markdown_words.specs.Shown.{Enters, Goes, Leaves, LeavesTo, Passes, Shows, source_in}
use Rattle.markdown_words.specs.Standings.{Open, Standing, entered, left_of, moved_by, settings_of}
use Rattle.markdown_words.specs.declared.setting.Setting.{Setting}
use Rattle.markdown_words.specs.declared.setting.Voice.{Voice}
use Rattle.markdown_words.specs.declared.setting.Voice.TheVariants as voices
use Rattle.markdown_words.specs.declared.words.Words.{Words}

-- ---- Items whose start is not read

closed-in-anywhere : (s : Source) (e m t : Bool) (what : ItemKind) (a b end : Point) (said : Said) → is_valued what ≡ false → closed_in s e m t what a end said ≡ closed_in s e m t what b end said
closed-in-anywhere s e m t (content contents.Data) a b end said h = let z : ⊥ = cc in absurd z
closed-in-anywhere s e m t (content contents.LineEnding) a b end said h = let z : ⊥ = cc in absurd z
closed-in-anywhere s e m t (content contents.AutolinkLiteralEmail) a b end said h = let z : ⊥ = cc in absurd z
closed-in-anywhere s e m t (content contents.AutolinkLiteralWww) a b end said h = let z : ⊥ = cc in absurd z
closed-in-anywhere s e m t (content contents.AutolinkLiteralWhole) a b end said h = let z : ⊥ = cc in absurd z
closed-in-anywhere s e m t (content c) a b end said h = refl
closed-in-anywhere s e m t (part q) a b end said h = refl

address-silently : (s : Source) (what : ItemKind) (a end : Point) (said : Said) → is_valued what ≡ false → said ≡ closed_address s what a end said
address-silently s (part parts.AutolinkEmail) a end said h = let z : ⊥ = cc in absurd z
address-silently s (part parts.AutolinkProtocol) a end said h = let z : ⊥ = cc in absurd z
address-silently s (part q) a end said h = refl
address-silently s (content c) a end said h = refl

reference-silently : (s : Source) (marker : ℕ) (what : ItemKind) (a end : Point) (said : Said) → is_valued what ≡ false → said ≡ closed_reference s marker what a end said
reference-silently s marker (part parts.CharacterReferenceValue) a end said h = let z : ⊥ = cc in absurd z
reference-silently s marker (part q) a end said h = refl
reference-silently s marker (content c) a end said h = refl

code-silently : (s : Source) (what : ItemKind) (a end : Point) (said : Said) → is_valued what ≡ false → said ≡ closed_code s what a end said
code-silently s (content contents.Data) a end said h = let z : ⊥ = cc in absurd z
code-silently s (content contents.LineEnding) a end said h = let z : ⊥ = cc in absurd z
code-silently s (content c) a end said h = refl
code-silently s (part q) a end said h = refl

closed-anywhere : (s : Source) (v : Voice) (m t : Bool) (what : ItemKind) (a b end : Point) (said : Said) → is_valued what ≡ false → is_marked v ≡ false
    → closed s (record { voice = v; in_label = m; in_table = t }) what a end said ≡ closed s (record { voice = v; in_label = m; in_table = t }) what b end said
closed-anywhere s voices.Flow m t what a b end said h k = closed-in-anywhere s false m t what a b end said h
closed-anywhere s voices.Text m t what a b end said h k = closed-in-anywhere s true m t what a b end said h
closed-anywhere s voices.Item m t what a b end said h k = closed-in-anywhere s false m t what a b end said h
closed-anywhere s voices.First m t what a b end said h k = closed-in-anywhere s true m t what a b end said h
closed-anywhere s voices.Marked m t what a b end said h k = let z : ⊥ = cc in absurd z
closed-anywhere s voices.Autolink m t (part parts.AutolinkEmail) a b end said h k = let z : ⊥ = cc in absurd z
closed-anywhere s voices.Autolink m t (part parts.AutolinkProtocol) a b end said h k = let z : ⊥ = cc in absurd z
closed-anywhere s voices.Autolink m t (part q) a b end said h k = refl
closed-anywhere s voices.Autolink m t (content c) a b end said h k = refl
closed-anywhere s voices.Named m t (part parts.CharacterReferenceValue) a b end said h k = let z : ⊥ = cc in absurd z
closed-anywhere s voices.Named m t (part q) a b end said h k = refl
closed-anywhere s voices.Named m t (content c) a b end said h k = refl
closed-anywhere s voices.Numeric m t (part parts.CharacterReferenceValue) a b end said h k = let z : ⊥ = cc in absurd z
closed-anywhere s voices.Numeric m t (part q) a b end said h k = refl
closed-anywhere s voices.Numeric m t (content c) a b end said h k = refl
closed-anywhere s voices.Hexadecimal m t (part parts.CharacterReferenceValue) a b end said h k = let z : ⊥ = cc in absurd z
closed-anywhere s voices.Hexadecimal m t (part q) a b end said h k = refl
closed-anywhere s voices.Hexadecimal m t (content c) a b end said h k = refl
closed-anywhere s voices.Raw m t (content contents.Data) a b end said h k = let z : ⊥ = cc in absurd z
closed-anywhere s voices.Raw m t (content contents.LineEnding) a b end said h k = let z : ⊥ = cc in absurd z
closed-anywhere s voices.Raw m t (part q) a b end said h k = refl
closed-anywhere s voices.Raw m t (content c) a b end said h k = refl
closed-anywhere s voices.Silent m t what a b end said h k = refl
closed-anywhere s voices.Broken m t what a b end said h k = refl
closed-anywhere s voices.Media m t what a b end said h k = refl
closed-anywhere s voices.Reference m t what a b end said h k = refl
closed-anywhere s voices.Fenced m t what a b end said h k = refl
closed-anywhere s voices.Leaf m t what a b end said h k = refl

closed-in-silently : (s : Source) (e m t : Bool) (what : ItemKind) (a end : Point) (said : Said) → is_valued what ≡ false → says_at_end what ≡ false → said ≡ closed_in s e m t what a end said
closed-in-silently s e m t (content contents.Data) a end said h k = let z : ⊥ = cc in absurd z
closed-in-silently s e m t (content contents.LineEnding) a end said h k = let z : ⊥ = cc in absurd z
closed-in-silently s e m t (content contents.AutolinkLiteralEmail) a end said h k = let z : ⊥ = cc in absurd z
closed-in-silently s e m t (content contents.AutolinkLiteralWww) a end said h k = let z : ⊥ = cc in absurd z
closed-in-silently s e m t (content contents.AutolinkLiteralWhole) a end said h k = let z : ⊥ = cc in absurd z
closed-in-silently s e m t (content contents.HardBreak) a end said h k = let z : ⊥ = cc in absurd z
closed-in-silently s e m t (content contents.CodeText) a end said h k = let z : ⊥ = cc in absurd z
closed-in-silently s e m t (content contents.MathText) a end said h k = let z : ⊥ = cc in absurd z
closed-in-silently s e m t (content contents.CodeIndented) a end said h k = let z : ⊥ = cc in absurd z
closed-in-silently s e m t (content contents.CodeFenced) a end said h k = let z : ⊥ = cc in absurd z
closed-in-silently s e m t (content contents.MathFlow) a end said h k = let z : ⊥ = cc in absurd z
closed-in-silently s e m t (content c) a end said h k = refl
closed-in-silently s e m t (part q) a end said h k = refl

-- an item whose start is not read, and that says nothing where it ends
pub closed-silently : (s : Source) (q : Setting) (what : ItemKind) (a end : Point) (said : Said) → says_at_end what ≡ false → is_valued what ≡ false → is_marked q.voice ≡ false → said ≡ closed s q what a end said
closed-silently s q what a end said n h k = by-voice q.voice q.in_label q.in_table k
  where
    by-voice : (v : Voice) (m t : Bool) → is_marked v ≡ false → said ≡ closed s (record { voice = v; in_label = m; in_table = t }) what a end said
    by-voice voices.Flow m t k = closed-in-silently s false m t what a end said h n
    by-voice voices.Text m t k = closed-in-silently s true m t what a end said h n
    by-voice voices.Item m t k = closed-in-silently s false m t what a end said h n
    by-voice voices.First m t k = closed-in-silently s true m t what a end said h n
    by-voice voices.Marked m t k = let z : ⊥ = cc in absurd z
    by-voice voices.Autolink m t k = address-silently s what a end said h
    by-voice voices.Named m t k = reference-silently s 38 what a end said h
    by-voice voices.Numeric m t k = reference-silently s 35 what a end said h
    by-voice voices.Hexadecimal m t k = reference-silently s 120 what a end said h
    by-voice voices.Raw m t k = code-silently s what a end said h
    by-voice voices.Silent m t k = refl
    by-voice voices.Broken m t k = refl
    by-voice voices.Media m t k = refl
    by-voice voices.Reference m t k = refl
    by-voice voices.Fenced m t k = refl
    by-voice voices.Leaf m t k = refl

pub suits-unmarked : (s : Source) (v : Voice) (what : ItemKind) (a b : Point) → is_marked v ≡ false → suits s v what a b ≡ true
suits-unmarked s voices.Marked what a b h = let z : ⊥ = cc in absurd z
suits-unmarked s v what a b h = refl

-- ---- The open items

-- the last of two equal lists
pub record SameLast (xs ys : List Setting) (x y : Setting) : Type 0 where
  pub before_is : xs ≡ ys
  pub last_is : x ≡ y

abbrev last-or : Setting → List Setting → Setting
last-or x [] = x
last-or x (y ∷ ys) = last-or y ys

abbrev but-last : Setting → List Setting → List Setting
but-last x [] = []
but-last x (y ∷ ys) = x ∷ but-last y ys

last-added : (x : Setting) (xs : List Setting) (y : Setting) → last-or x (xs ++ y ∷ []) ≡ y
last-added x [] y = refl
last-added x (z ∷ xs) y = last-added z xs y

but-last-added : (x : Setting) (xs : List Setting) (y : Setting) → but-last x (xs ++ y ∷ []) ≡ x ∷ xs
but-last-added x [] y = refl
but-last-added x (z ∷ xs) y = ap (λ t. x ∷ t) (but-last-added z xs y)

abbrev all-but-last : Setting → List Setting → List Setting
all-but-last x [] = []
all-but-last x (y ∷ ys) = but-last y ys

all-added : (x : Setting) (xs : List Setting) (y : Setting) → all-but-last x (xs ++ y ∷ []) ≡ xs
all-added x [] y = refl
all-added x (z ∷ xs) y = but-last-added z xs y

same-last : (xs ys : List Setting) (x y : Setting) → xs ++ x ∷ [] ≡ ys ++ y ∷ [] → SameLast xs ys x y
same-last xs ys x y h = record {
  before_is = sym (all-added x xs x) ∙ ap (all-but-last x) h ∙ all-added x ys y;
  last_is = sym (last-added x xs x) ∙ ap (last-or x) h ∙ last-added x ys y;
}

not-empty : (xs : List Setting) (x : Setting) → [] ≡ xs ++ x ∷ [] → ⊥
not-empty [] x h = let z : ⊥ = cc in absurd z
not-empty (y ∷ xs) x h = let z : ⊥ = cc in absurd z

-- ---- Events

nothing-strange : (a b : Bool) → a ≡ false → b ≡ true → (a || not b) ≡ false
nothing-strange a b h k = (λ i. h i || not (k i))

-- an enter
entered-shows : (what : ItemKind) (at : Point) (old new : Words) (st : Standing) → Enters what old new → Shows old st → Shows new (entered what at st)
entered-shows what at old new st e h = record {
  whole = ap (λ (d : Given). d.values) e.document_is ∙ h.whole;
  said_is = e.said_is ∙ (λ i. opened (h.setting_is i).voice (h.setting_is i).in_label what (h.said_is i));
  setting_is = e.setting_is ∙ ap (λ (q : Setting). setting_inside q what) h.setting_is;
  outer_is = e.outer_is ∙ (λ i. h.outer_is i ++ h.setting_is i ∷ []);
  known = nothing-strange st.strange (fits st.setting.voice st.setting.in_label what) h.known (ap (λ (q : Setting). fits q.voice q.in_label what) (sym h.setting_is) ∙ e.fit);
}

-- an exit
left-shows : (what : ItemKind) (end : Point) (q : Setting) (old new : Words) (st : Standing) (o : List Open) → LeavesTo what end q old new → Shows old st → old.outer.items ≡ settings_of o → Shows new (left_of (source_in old) what end st o)
left-shows what end q old new st [] e h k = absurd (not-empty new.outer.items q (sym k ∙ e.outer_is))
left-shows what end q old new st (x ∷ o) e h k =
    let last : SameLast (settings_of o) new.outer.items x.setting q = same-last (settings_of o) new.outer.items x.setting q (sym k ∙ e.outer_is) in
    let unmarked : is_marked x.setting.voice ≡ false = ap (λ (r : Setting). is_marked r.voice) last.last_is ∙ e.unmarked in
    record {
      whole = ap (λ (d : Given). d.values) e.document_is ∙ h.whole;
      said_is = e.said_is h.whole ∙ (λ i. closed (source_in old) (sym last.last_is i) what end end (h.said_is i)) ∙ closed-anywhere (source_in old) x.setting.voice x.setting.in_label x.setting.in_table what end x.start end st.said e.unread unmarked;
      setting_is = e.setting_is ∙ ap (λ (r : Setting). setting_after r what) (sym last.last_is);
      outer_is = sym last.before_is;
      known = nothing-strange st.strange (suits (source_in old) x.setting.voice what x.start end) h.known (suits-unmarked (source_in old) x.setting.voice what x.start end unmarked);
    }

-- a token
passed-shows : (what : ItemKind) (start end : Point) (old new : Words) (st : Standing) → Passes what start end old new → Shows old st → Shows new (left_of (source_in old) what end (entered what start st) ((record { setting = st.setting; start = start }) ∷ st.outer))
passed-shows what start end old new st e h =
    let fit : fits st.setting.voice st.setting.in_label what ≡ true = ap (λ (q : Setting). fits q.voice q.in_label what) (sym h.setting_is) ∙ e.fit in
    let suit : suits (source_in old) st.setting.voice what start end ≡ true = ap (λ (q : Setting). suits (source_in old) q.voice what start end) (sym h.setting_is) ∙ e.suit in
    record {
      whole = ap (λ (d : Given). d.values) e.document_is ∙ h.whole;
      said_is = e.said_is h.whole ∙ (λ i. closed (source_in old) (h.setting_is i) what start end (opened (h.setting_is i).voice (h.setting_is i).in_label what (h.said_is i)));
      setting_is = e.setting_is ∙ ap (λ (q : Setting). setting_after q what) h.setting_is;
      outer_is = e.outer_is ∙ h.outer_is;
      known = nothing-strange (st.strange || not (fits st.setting.voice st.setting.in_label what)) (suits (source_in old) st.setting.voice what start end) (nothing-strange st.strange (fits st.setting.voice st.setting.in_label what) h.known fit) suit;
    }

-- ---- By name

pub goes_enter : (name : Name) (what : ItemKind) (old new : Words) → role_of name ≡ significant what → (new.strange ≡ false → Enters what old new) → (at : Point) → Goes (enter name at ∷ []) old new
goes_enter name what old new e h at = record {
  before = λ k. (h k).before;
  goes = λ k st shows. subst (λ (role : Role). Shows new (moved_by (source_in old) role Enter at st)) (sym e) (entered-shows what at old new st (h k) shows);
}

pub goes_exit : (name : Name) (what : ItemKind) (end : Point) (old new : Words) → role_of name ≡ significant what → (new.strange ≡ false → Leaves what end old new) → Goes (exit name end ∷ []) old new
goes_exit name what end old new e h = record {
  before = λ k. (h k).1.before;
  goes = λ k st shows. subst (λ (role : Role). Shows new (moved_by (source_in old) role Exit end st)) (sym e) (left-shows what end (h k).0 old new st st.outer (h k).1 shows shows.outer_is);
}

pub goes_token : (name : Name) (what : ItemKind) (start end : Point) (old new : Words) → role_of name ≡ significant what → (new.strange ≡ false → Passes what start end old new) → Goes (enter name start ∷ exit name end ∷ []) old new
goes_token name what start end old new e h = record {
  before = λ k. (h k).before;
  goes = λ k st shows. subst (λ (role : Role). Shows new (moved_by (source_in old) role Exit end (moved_by (source_in old) role Enter start st))) (sym e) (passed-shows what start end old new st (h k) shows);
}

-- a transparent span does nothing
pub goes_nowhere : (name : Name) (kind : TransparentKind) (start end : Point) (words : Words) → role_of name ≡ transparent kind
    → Goes (enter name start ∷ []) words words × Goes (exit name end ∷ []) words words × Goes (enter name start ∷ exit name end ∷ []) words words
goes_nowhere name kind start end words e = (
  record { before = λ k. k; goes = λ k st shows. subst (λ (role : Role). Shows words (moved_by (source_in words) role Enter start st)) (sym e) shows },
  record { before = λ k. k; goes = λ k st shows. subst (λ (role : Role). Shows words (moved_by (source_in words) role Exit end st)) (sym e) shows },
  record { before = λ k. k; goes = λ k st shows. subst (λ (role : Role). Shows words (moved_by (source_in words) role Exit end (moved_by (source_in words) role Enter start st))) (sym e) shows },
)
