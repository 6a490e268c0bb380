-- What is said of items is what their nodes say.
use Rattle.std.proofs.Common.{◌≡◌, ℕ, Bool, true, false, cond, not, ◌&&◌, ◌||◌, List, [], ◌++◌, Option, None, Some, refl, sym, ◌∙◌, ap, append-nil, append_assoc, subst}
use Rattle.std.specs.Option.{option_and_then, option_or}
use Rattle.std.specs.Prelude.{unwrap_or}
use Rattle.markdown_events.proofs.Booleans.{and-both}
use Rattle.markdown_events.specs.Forest.{Forest}
use Rattle.markdown_events.specs.declared.event.Point.{Point}
use Rattle.markdown_events.specs.declared.role.ItemKind.{ItemKind}
use Rattle.markdown_events.specs.declared.role.ItemKind.TheVariants.{Content as content, Part as part}
use Rattle.markdown_events.specs.declared.role.Content.TheVariants as contents
use Rattle.markdown_events.specs.declared.role.Part.TheVariants as parts
use Rattle.markdown_events.specs.Slices.{between}
use Rattle.markdown_grammar.specs.Attributes.{Place, decoded, inherited_after, inherited_in, mark, mark_given}
use Rattle.markdown_grammar.specs.Decorated.{Decorated, decorated, nodes_of, or_empty, undecorated, within}
use Rattle.markdown_grammar.specs.Document.{Source, text_read, value_read}
use Rattle.markdown_grammar.specs.Items.{Items, item, none}
use Rattle.markdown_grammar.specs.LineEndings.{ending_read}
use Rattle.markdown_grammar.specs.Nodes.{character, decorate}
use Rattle.markdown_grammar.specs.Tasks.{task_if}
use Rattle.markdown_nodes.specs.Tree.{Trees, join, node, nothing}
use Rattle.markdown_nodes.specs.Tree as tree
use Rattle.mdast_util.proofs.BareTexts.{Bare, bare-items, bare-own, own}
use Rattle.markdown_words.proofs.Heard.{AreHeard, Agrees, Heard, InPlace, IsCode, Known, address_of, at, cut_if, known, no_code, one_text, past_ending}
use Rattle.markdown_words.proofs.OwnWords.{no-table, own-says, own_said}
use Rattle.markdown_words.proofs.Cuts.{first-says, task-says}
use Rattle.markdown_words.proofs.Spoken.{spoken, spoken-join, with_node}
use Rattle.markdown_words.specs.Saying.{Said, are_known, cut, has_blank, opened_in, plain_read, suits, told}
use Rattle.markdown_words.specs.Settings.{after, after_text, fits, in_content, inside, is_image, is_odd, is_of_text, is_plain, is_table}
use Rattle.markdown_words.specs.declared.setting.Voice.{Voice}
use Rattle.markdown_words.specs.declared.setting.Voice.TheVariants as voices

-- ---- Tests of one item, before others

-- what is known of an item and of those after it
abbrev KnownItem : Source → Voice → Bool → Bool → ItemKind → Point → Point → Items → Items → Type 0
KnownItem s v m t what a b i rest =
    Known (fits v m what) (are_known s (at (inside v m what) (is_image what || m) (is_table what || t)) i) (suits s v what a b) (are_known s (at (after v what) m t) rest)

known-item : (s : Source) (v : Voice) (m t : Bool) (what : ItemKind) (a b : Point) (d : Forest) (i rest : Items) → are_known s (at v m t) (item what a b d i rest) ≡ true → KnownItem s v m t what a b i rest
known-item s v m t what a b d i rest h =
    known (fits v m what) (are_known s (at (inside v m what) (is_image what || m) (is_table what || t)) i) (suits s v what a b) (are_known s (at (after v what) m t) rest) h

not-true : (b : Bool) → not b ≡ true → b ≡ false
not-true true h = let z : ⊥ = cc in absurd z
not-true false h = refl

or-left : (a b : Bool) → (a || b) ≡ false → a ≡ false
or-left true b h = let z : ⊥ = cc in absurd z
or-left false b h = refl

or-right : (a b : Bool) → (a || b) ≡ false → b ≡ false
or-right true b h = let z : ⊥ = cc in absurd z
or-right false b h = h

all-four : (f i u r : Bool) → f ≡ true → i ≡ true → u ≡ true → r ≡ true → (f && i && u && r) ≡ true
all-four f i u r a b c d = and-both (f && i && u) r (and-both (f && i) u (and-both f i a b) c) d

-- ---- Task marks

-- a voice in which no task mark fits
abbrev is_unmarked : Voice → Bool
is_unmarked voices.Flow = true
is_unmarked voices.Text = true
is_unmarked voices.Broken = true
is_unmarked _ = false

-- an item that gives no mark, if the items in it give none
abbrev GivesNone : Source → Bool → Bool → Items → ItemKind → Type 0
GivesNone s m t i what = mark_given what (mark i) ≡ None

none-given : (v : Voice) (m : Bool) (what : ItemKind) (inner : Option Bool) → is_unmarked v ≡ true → fits v m what ≡ true → (inside v m what ≡ voices.Text → inner ≡ None) → mark_given what inner ≡ None
none-given voices.Flow m (part parts.TaskMarkChecked) inner u f h = let z : ⊥ = cc in absurd z
none-given voices.Flow m (part parts.TaskMarkUnchecked) inner u f h = let z : ⊥ = cc in absurd z
none-given voices.Flow m (content contents.Paragraph) inner u f h = h refl
none-given voices.Flow m what inner u f h = refl
none-given voices.Text m (part parts.TaskMarkChecked) inner u f h = let z : ⊥ = cc in absurd z
none-given voices.Text m (part parts.TaskMarkUnchecked) inner u f h = let z : ⊥ = cc in absurd z
none-given voices.Text m (content contents.Paragraph) inner u f h = h refl
none-given voices.Text m what inner u f h = refl
none-given voices.Broken m (content contents.LineEnding) inner u f h = refl
none-given voices.Broken m what inner u f h = let z : ⊥ = cc in absurd z
none-given v m what inner u f h = let z : ⊥ = cc in absurd z

after-unmarked : (v : Voice) (m : Bool) (what : ItemKind) → is_unmarked v ≡ true → fits v m what ≡ true → is_unmarked (after v what) ≡ true
after-unmarked voices.Flow m what u f = refl
after-unmarked voices.Text m (part parts.TaskMarkChecked) u f = let z : ⊥ = cc in absurd z
after-unmarked voices.Text m (part parts.TaskMarkUnchecked) u f = let z : ⊥ = cc in absurd z
after-unmarked voices.Text m (part parts.HeadingSetextText) u f = refl
after-unmarked voices.Text m (part q) u f = refl
after-unmarked voices.Text m (content contents.HardBreak) u f = refl
after-unmarked voices.Text m (content c) u f = refl
after-unmarked voices.Broken m what u f = refl
after-unmarked v m what u f = let z : ⊥ = cc in absurd z

both-none : {A : Type 0} (x y : Option A) → x ≡ None → y ≡ None → option_or x y ≡ None
both-none x y h k = (λ i. option_or (h i) (k i))

-- where no task mark fits, there is no mark
no-mark : (s : Source) (v : Voice) (m t : Bool) (xs : Items) → is_unmarked v ≡ true → are_known s (at v m t) xs ≡ true → mark xs ≡ None
no-mark s v m t none u h = refl
no-mark s v m t (item what a b d i rest) u h =
    let k : KnownItem s v m t what a b i rest = known-item s v m t what a b d i rest h in
    both-none (mark_given what (mark i)) (mark rest)
    (none-given v m what (mark i) u k.fits_is (λ e. no-mark s (inside v m what) (is_image what || m) (is_table what || t) i (ap is_unmarked e) k.inner_is))
    (no-mark s (after v what) m t rest (after-unmarked v m what u k.fits_is) k.rest_is)

-- ---- Among blocks or inlines

-- the place after an item
after-place : (endings t : Bool) (p : Place) (what : ItemKind) (m : Bool) → InPlace endings t p → is_odd m what ≡ false → is_of_text what ≡ false → InPlace endings t (inherited_after what p)
after-place endings t p (part parts.CodeFencedFence) m g o f = let z : ⊥ = cc in absurd z
after-place endings t p (part parts.MathFlowFence) m g o f = let z : ⊥ = cc in absurd z
after-place endings t p (part parts.HeadingSetextText) m g o f = let z : ⊥ = cc in absurd z
after-place endings t p what m g o f = record { endings_are = g.endings_are; table_is = g.table_is }

-- an item, and then the others
go-on : (s : Source) (m : Bool) (p : Place) (what : ItemKind) (a b : Point) (d : Forest) (i rest : Items) (said : List ℕ) (here end : Said) → here.text ≡ spoken m said (own s p what a b d i)
    → end.text ≡ spoken m here.text (nodes_of (decorate s (inherited_after what p) rest))
    → end.text ≡ spoken m said (join (own s p what a b d i) (nodes_of (decorate s (inherited_after what p) rest)))
go-on s m p what a b d i rest said here end e f =
    let more : Bare s (inherited_after what p) rest = bare-items s (inherited_after what p) rest in
    f ∙ ap (λ x. spoken m x (nodes_of (decorate s (inherited_after what p) rest))) e
    ∙ sym (spoken-join m said (own s p what a b d i) (nodes_of (decorate s (inherited_after what p) rest)) (bare-own s p what a b d i (bare-items s (inherited_in what p) i)) more.nodes)

-- a break, and then the others, of which a first line ending says nothing
break-on : (m : Bool) (said : List ℕ) (a b : Point) (p : Place) (inner rest : Decorated)
    → spoken m (with_node m said tree.«break») (nodes_of (past_ending rest)) ≡ spoken m said (nodes_of (decorated (content contents.HardBreak) a b p (node tree.«break» nothing (Some (between a b)) nothing) inner rest))
break-on m said a b p inner undecorated = refl
break-on m said a b p inner (decorated (content contents.LineEnding) a' b' p' own' inner' rest) = refl
break-on m said a b p inner (decorated what a' b' p' own' inner' rest) = refl

-- inlines
text-says : (s : Source) (i rest : Items) → AreHeard s i → AreHeard s rest → (m t : Bool) (p : Place) (what : ItemKind) (a b : Point) (d : Forest) (said : Said) → InPlace true t p → is_odd m what ≡ false
    → are_known s (at (in_content m what) (is_image what || m) (is_table what || t)) i ≡ true → are_known s (at (after_text what) m t) rest ≡ true
    → (told s (at (after_text what) m t) rest (own_said s true m t what a b i said)).text ≡ spoken m said.text (nodes_of (decorate s p (item what a b d i rest)))
text-says s i rest hi hr m t p (part parts.TaskMarkChecked) a b d said g o ki kr = let z : ⊥ = cc in absurd z
text-says s i rest hi hr m t p (part parts.TaskMarkUnchecked) a b d said g o ki kr = let z : ⊥ = cc in absurd z
text-says s i rest hi hr m t p (part parts.CodeFencedFence) a b d said g o ki kr = let z : ⊥ = cc in absurd z
text-says s i rest hi hr m t p (part parts.MathFlowFence) a b d said g o ki kr = let z : ⊥ = cc in absurd z
text-says s i rest hi hr m t p (content contents.HardBreak) a b d said g o ki kr =
    let after_it : Place = inherited_after (content contents.HardBreak) p in
    let here : Said = own_said s true m t (content contents.HardBreak) a b i said in
    hr voices.Broken m t after_it here (record { endings_are = g.endings_are; table_is = g.table_is }) kr
    ∙ ap (λ x. spoken m x (nodes_of (past_ending (decorate s after_it rest)))) (own-says s i hi true m t p (content contents.HardBreak) a b d said g o ki)
    ∙ break-on m said.text a b p (decorate s (inherited_in (content contents.HardBreak) p) i) (decorate s after_it rest)
text-says s i rest hi hr m t p (part parts.HeadingSetextText) a b d said g o ki kr =
    let here : Said = own_said s true m t (part parts.HeadingSetextText) a b i said in
    go-on s m p (part parts.HeadingSetextText) a b d i rest said.text here (told s (at voices.Flow m t) rest here) (own-says s i hi true m t p (part parts.HeadingSetextText) a b d said g o ki)
    (hr voices.Flow m t (inherited_after (part parts.HeadingSetextText) p) here (record { endings_are = refl; table_is = g.table_is }) kr)
text-says s i rest hi hr m t p (part q) a b d said g o ki kr =
    let here : Said = own_said s true m t (part q) a b i said in
    go-on s m p (part q) a b d i rest said.text here (told s (at voices.Text m t) rest here) (own-says s i hi true m t p (part q) a b d said g o ki)
    (hr voices.Text m t (inherited_after (part q) p) here (record { endings_are = g.endings_are; table_is = g.table_is }) kr)
text-says s i rest hi hr m t p (content c) a b d said g o ki kr =
    let here : Said = own_said s true m t (content c) a b i said in
    go-on s m p (content c) a b d i rest said.text here (told s (at voices.Text m t) rest here) (own-says s i hi true m t p (content c) a b d said g o ki)
    (hr voices.Text m t (inherited_after (content c) p) here (record { endings_are = g.endings_are; table_is = g.table_is }) kr)

-- blocks
flow-says : (s : Source) (i rest : Items) → AreHeard s i → AreHeard s rest → (m t : Bool) (p : Place) (what : ItemKind) (a b : Point) (d : Forest) (said : Said) → InPlace false t p
    → is_odd m what ≡ false → is_of_text what ≡ false
    → are_known s (at (in_content m what) (is_image what || m) (is_table what || t)) i ≡ true → are_known s (at voices.Flow m t) rest ≡ true
    → (told s (at voices.Flow m t) rest (own_said s false m t what a b i said)).text ≡ spoken m said.text (nodes_of (decorate s p (item what a b d i rest)))
flow-says s i rest hi hr m t p (content contents.HardBreak) a b d said g o f ki kr = let z : ⊥ = cc in absurd z
flow-says s i rest hi hr m t p what a b d said g o f ki kr =
    let here : Said = own_said s false m t what a b i said in
    go-on s m p what a b d i rest said.text here (told s (at voices.Flow m t) rest here) (own-says s i hi false m t p what a b d said g o ki)
    (hr voices.Flow m t (inherited_after what p) here (after-place false t p what m g o f) kr)

-- ---- Each voice

-- what is heard of an item and of those after it
abbrev HeardItem : Source → Voice → Items → Items → Type 0
HeardItem s v i rest = AreHeard s i → AreHeard s rest → (m t : Bool) (p : Place) (what : ItemKind) (a b : Point) (d : Forest) (said : Said) → Agrees v t p → KnownItem s v m t what a b i rest
    → Heard s v m p (item what a b d i rest) said (told s (at v m t) (item what a b d i rest) said)

silent-item : (s : Source) (i rest : Items) → HeardItem s voices.Silent i rest
silent-item s i rest hi hr m t p what a b d said g k =
    hr voices.Silent m t p (told s (at voices.Silent (is_image what || m) (is_table what || t)) i said) tt k.rest_is
    ∙ hi voices.Silent (is_image what || m) (is_table what || t) p said tt k.inner_is

flow-item : (s : Source) (i rest : Items) → HeardItem s voices.Flow i rest
flow-item s i rest hi hr m t p what a b d said g k =
    let none_of : (is_odd m what || is_of_text what) ≡ false = not-true (is_odd m what || is_of_text what) k.fits_is in
    flow-says s i rest hi hr m t p what a b d said g (or-left (is_odd m what) (is_of_text what) none_of) (or-right (is_odd m what) (is_of_text what) none_of) k.inner_is k.rest_is

text-item : (s : Source) (i rest : Items) → HeardItem s voices.Text i rest
text-item s i rest hi hr m t p what a b d said g k = text-says s i rest hi hr m t p what a b d said g (not-true (is_odd m what) k.fits_is) k.inner_is k.rest_is

broken-item : (s : Source) (i rest : Items) → HeardItem s voices.Broken i rest
broken-item s i rest hi hr m t p (content contents.LineEnding) a b d said g k =
    hr voices.Text m t (inherited_after (content contents.LineEnding) p) (told s (at voices.Leaf m t) i said) (record { endings_are = g.endings_are; table_is = g.table_is }) k.rest_is
    ∙ ap (λ (x : Said). spoken m x.text (nodes_of (decorate s (inherited_after (content contents.LineEnding) p) rest))) (hi voices.Leaf m t p said tt k.inner_is)
broken-item s i rest hi hr m t p (content c) a b d said g k = let z : false ≡ true = k.fits_is in absurd cc
broken-item s i rest hi hr m t p (part q) a b d said g k = let z : false ≡ true = k.fits_is in absurd cc

-- what is known in the first paragraph is known among inlines
known-again : (s : Source) (m t : Bool) (what : ItemKind) (a b : Point) (d : Forest) (i rest : Items) → is_odd m what ≡ false → KnownItem s voices.First m t what a b i rest → are_known s (at voices.Text m t) (item what a b d i rest) ≡ true
known-again s m t what a b d i rest o k =
    all-four (not (is_odd m what)) (are_known s (at (in_content m what) (is_image what || m) (is_table what || t)) i) true (are_known s (at (after_text what) m t) rest) (ap not o) k.inner_is refl k.rest_is

-- the first paragraph of an item
first-item : (s : Source) (i rest : Items) → HeardItem s voices.First i rest
first-item s i rest hi hr m t p (part parts.TaskMarkChecked) a b d said g k =
    hr voices.Marked m t (inherited_after (part parts.TaskMarkChecked) p) (told s (at voices.Silent m t) i (opened_in m (part parts.TaskMarkChecked) said)) (record { endings_are = g.endings_are; table_is = g.table_is }) k.rest_is
    ∙ ap (λ (x : Said). spoken m x.text (cut_if (Some true) (nodes_of (decorate s (inherited_after (part parts.TaskMarkChecked) p) rest)))) (hi voices.Silent m t p (opened_in m (part parts.TaskMarkChecked) said) tt k.inner_is)
first-item s i rest hi hr m t p (part parts.TaskMarkUnchecked) a b d said g k =
    hr voices.Marked m t (inherited_after (part parts.TaskMarkUnchecked) p) (told s (at voices.Silent m t) i (opened_in m (part parts.TaskMarkUnchecked) said)) (record { endings_are = g.endings_are; table_is = g.table_is }) k.rest_is
    ∙ ap (λ (x : Said). spoken m x.text (cut_if (Some false) (nodes_of (decorate s (inherited_after (part parts.TaskMarkUnchecked) p) rest)))) (hi voices.Silent m t p (opened_in m (part parts.TaskMarkUnchecked) said) tt k.inner_is)
first-item s i rest hi hr m t p (part q) a b d said g k =
    let odd : is_odd m (part q) ≡ false = not-true (is_odd m (part q)) k.fits_is in
    text-says s i rest hi hr m t p (part q) a b d said g odd k.inner_is k.rest_is
    ∙ ap (λ x. spoken m said.text (cut_if x (nodes_of (decorate s p (item (part q) a b d i rest)))))
    (sym (no-mark s voices.Text m t (item (part q) a b d i rest) refl (known-again s m t (part q) a b d i rest odd k)))
first-item s i rest hi hr m t p (content c) a b d said g k =
    let odd : is_odd m (content c) ≡ false = not-true (is_odd m (content c)) k.fits_is in
    text-says s i rest hi hr m t p (content c) a b d said g odd k.inner_is k.rest_is
    ∙ ap (λ x. spoken m said.text (cut_if x (nodes_of (decorate s p (item (content c) a b d i rest)))))
    (sym (no-mark s voices.Text m t (item (content c) a b d i rest) refl (known-again s m t (content c) a b d i rest odd k)))

-- ---- After a task mark

-- the node of data or of a line ending is a text
plain-says : (s : Source) (m : Bool) (p : Place) (what : ItemKind) (a b : Point) (d : Forest) (i rest : Items) (said : List ℕ) → p.line_endings ≡ true → is_plain what ≡ true → has_blank (plain_read s what a b) ≡ true
    → spoken m said (cut_if (Some true) (nodes_of (decorate s p (item what a b d i rest)))) ≡ spoken m (said ++ cut (plain_read s what a b)) (nodes_of (decorate s (inherited_after what p) rest))
plain-says s m p (content contents.Data) a b d i rest said e f h =
    first-says m said (value_read s a b) (between a b) (nodes_of (decorate s (inherited_after (content contents.Data) p) rest)) h (bare-items s (inherited_after (content contents.Data) p) rest).nodes
plain-says s m p (content contents.LineEnding) a b d i rest said e f h =
    ap (λ x. spoken m said (cut_if (Some true) (join (cond x (node (tree.text (ending_read s a b)) nothing (Some (between a b)) nothing) nothing) (nodes_of (decorate s (inherited_after (content contents.LineEnding) p) rest))))) e
    ∙ first-says m said (ending_read s a b) (between a b) (nodes_of (decorate s (inherited_after (content contents.LineEnding) p) rest)) h (bare-items s (inherited_after (content contents.LineEnding) p) rest).nodes
plain-says s m p (content c) a b d i rest said e f h = let z : ⊥ = cc in absurd z
plain-says s m p (part q) a b d i rest said e f h = let z : ⊥ = cc in absurd z

-- the place after data or a line ending is the same
after-plain : (p : Place) (what : ItemKind) → is_plain what ≡ true → inherited_after what p ≡ p
after-plain p (content c) e = refl
after-plain p (part q) e = let z : ⊥ = cc in absurd z

marked-item : (s : Source) (i rest : Items) → HeardItem s voices.Marked i rest
marked-item s i rest hi hr m t p what a b d said g k =
    let here : Said = told s (at voices.Leaf (is_image what || m) (is_table what || t)) i said in
    hr voices.Text m t (inherited_after what p) (record { text = here.text ++ cut (plain_read s what a b); mark = here.mark; last = here.last })
    (subst (λ x. InPlace true t x) (sym (after-plain p what k.fits_is)) g) k.rest_is
    ∙ ap (λ (x : Said). spoken m (x.text ++ cut (plain_read s what a b)) (nodes_of (decorate s (inherited_after what p) rest))) (hi voices.Leaf (is_image what || m) (is_table what || t) p said tt k.inner_is)
    ∙ sym (plain-says s m p what a b d i rest said.text g.endings_are k.fits_is k.suits_is)

-- ---- List items

none-last : (x y : Option Bool) → y ≡ None → option_or x y ≡ x
none-last None y h = h
none-last (Some b) y h = refl

-- the first paragraph of a list item
paragraph-item : (s : Source) (i rest : Items) → AreHeard s i → AreHeard s rest → (m t : Bool) (p : Place) (a b : Point) (d : Forest) (said : Said) → InPlace false t p → KnownItem s voices.Item m t (content contents.Paragraph) a b i rest
    → Heard s voices.Item m p (item (content contents.Paragraph) a b d i rest) said (told s (at voices.Item m t) (item (content contents.Paragraph) a b d i rest) said)
paragraph-item s i rest hi hr m t p a b d said g k =
    let inner_place : Place = inherited_in (content contents.Paragraph) p in
    let after_it : Place = inherited_after (content contents.Paragraph) p in
    let begun : Said = opened_in m (content contents.Paragraph) said in
    let here : Said = told s (at voices.First m t) i begun in
    let more : Trees = nodes_of (decorate s after_it rest) in
    let within_it : Trees = nodes_of (decorate s inner_place i) in
    hr voices.Flow m t after_it here (record { endings_are = g.endings_are; table_is = g.table_is }) k.rest_is
    ∙ ap (λ x. spoken m x more) (hi voices.First m t inner_place begun (record { endings_are = refl; table_is = no-table t p g.table_is }) k.inner_is)
    ∙ ap (λ x. spoken m (spoken m x (cut_if (mark i) within_it)) more) (sym (append-nil begun.text))
    ∙ sym (task-says m said.text within_it (Some (between a b)) more (mark i))
    ∙ ap (λ x. spoken m said.text (task_if x (node tree.paragraph within_it (Some (between a b)) more))) (sym (none-last (mark i) (mark rest) (no-mark s voices.Flow m t rest refl k.rest_is)))

-- an item without a node
nodeless : (s : Source) (i rest : Items) → AreHeard s i → AreHeard s rest → (m t : Bool) (p q : Place) (what : ItemKind) (said here : Said) → here.text ≡ said.text → InPlace false t q → are_known s (at voices.Item m t) rest ≡ true
    → (told s (at voices.Item m t) rest here).text ≡ spoken m said.text (task_if (mark rest) (nodes_of (decorate s q rest)))
nodeless s i rest hi hr m t p q what said here e g k = hr voices.Item m t q here g k ∙ ap (λ x. spoken m x (task_if (mark rest) (nodes_of (decorate s q rest)))) e

odd-break : (m : Bool) → not (is_odd m (content contents.HardBreak) || true) ≡ true → ⊥
odd-break m h = let z : false ≡ true = h in absurd cc

item-item : (s : Source) (i rest : Items) → HeardItem s voices.Item i rest
item-item s i rest hi hr m t p (content contents.HardBreak) a b d said g k = let z : ⊥ = odd-break m k.fits_is in absurd z
item-item s i rest hi hr m t p (part parts.TaskMarkChecked) a b d said g k = let z : false ≡ true = k.fits_is in absurd cc
item-item s i rest hi hr m t p (part parts.TaskMarkUnchecked) a b d said g k = let z : false ≡ true = k.fits_is in absurd cc
item-item s i rest hi hr m t p (part parts.CodeFencedFence) a b d said g k = let z : false ≡ true = k.fits_is in absurd cc
item-item s i rest hi hr m t p (part parts.MathFlowFence) a b d said g k = let z : false ≡ true = k.fits_is in absurd cc
item-item s i rest hi hr m t p (part parts.HeadingSetextText) a b d said g k = let z : false ≡ true = k.fits_is in absurd cc
item-item s i rest hi hr m t p (part q) a b d said g k =
    nodeless s i rest hi hr m t p (inherited_after (part q) p) (part q) said (told s (at voices.Silent m t) i (opened_in m (part q) said)) (ap (λ (x : Said). x.text) (hi voices.Silent m t p (opened_in m (part q) said) tt k.inner_is))
    (record { endings_are = g.endings_are; table_is = g.table_is }) k.rest_is
item-item s i rest hi hr m t p (content contents.LineEnding) a b d said g k =
    nodeless s i rest hi hr m t p (inherited_after (content contents.LineEnding) p) (content contents.LineEnding) said (told s (at voices.Leaf m t) i (opened_in m (content contents.LineEnding) said))
    (ap (λ (x : Said). x.text) (hi voices.Leaf m t p (opened_in m (content contents.LineEnding) said) tt k.inner_is))
    (record { endings_are = g.endings_are; table_is = g.table_is }) k.rest_is
    ∙ ap (λ x. spoken m said.text (task_if (mark rest) (join (cond x (node (tree.text (ending_read s a b)) nothing (Some (between a b)) nothing) nothing) (nodes_of (decorate s (inherited_after (content contents.LineEnding) p) rest))))) (sym g.endings_are)
item-item s i rest hi hr m t p (content contents.Paragraph) a b d said g k = paragraph-item s i rest hi hr m t p a b d said g k
item-item s i rest hi hr m t p (content c) a b d said g k =
    let none_of : (is_odd m (content c) || is_of_text (content c)) ≡ false = not-true (is_odd m (content c) || is_of_text (content c)) k.fits_is in
    flow-says s i rest hi hr m t p (content c) a b d said g (or-left (is_odd m (content c)) (is_of_text (content c)) none_of) (or-right (is_odd m (content c)) (is_of_text (content c)) none_of) k.inner_is k.rest_is
    ∙ ap (λ x. spoken m said.text (task_if x (nodes_of (decorate s p (item (content c) a b d i rest))))) (sym (no-mark s voices.Flow m t rest refl k.rest_is))

-- ---- Links, images, autolinks and references

media-item : (s : Source) (i rest : Items) → HeardItem s voices.Media i rest
media-item s i rest hi hr m t p (part parts.LabelText) a b d said g k =
    let here : Said = told s (at voices.Text m t) i said in
    ap (λ (x : Said). x.text) (hr voices.Silent m t p here tt k.rest_is)
    ∙ hi voices.Text m t (inherited_in (part parts.LabelText) p) said (record { endings_are = refl; table_is = no-table t p g }) k.inner_is
media-item s i rest hi hr m t p (part q) a b d said g k =
    let here : Said = told s (at voices.Silent m t) i said in
    hr voices.Media m t (inherited_after (part q) p) here g k.rest_is
    ∙ ap (λ (x : Said). spoken m x.text (nodes_of (within parts.LabelText (decorate s (inherited_after (part q) p) rest)))) (hi voices.Silent m t p said tt k.inner_is)
media-item s i rest hi hr m t p (content c) a b d said g k =
    let here : Said = told s (at voices.Silent (is_image (content c) || m) (is_table (content c) || t)) i said in
    hr voices.Media m t (inherited_after (content c) p) here g k.rest_is
    ∙ ap (λ (x : Said). spoken m x.text (nodes_of (within parts.LabelText (decorate s (inherited_after (content c) p) rest)))) (hi voices.Silent (is_image (content c) || m) (is_table (content c) || t) p said tt k.inner_is)

-- no item is known in a leaf
none-known : (s : Source) (m t : Bool) (xs : Items) → are_known s (at voices.Leaf m t) xs ≡ true → xs ≡ none
none-known s m t none h = refl
none-known s m t (item what a b d i rest) h = let z : false ≡ true = (known-item s voices.Leaf m t what a b d i rest h).fits_is in absurd cc

autolink-item : (s : Source) (i rest : Items) → HeardItem s voices.Autolink i rest
autolink-item s i rest hi hr m t p (part parts.AutolinkEmail) a b d said g k =
    ap (λ (x : Said). x.text) (hr voices.Leaf m t p _ tt k.rest_is)
    ∙ ap (λ (x : Said). x.text ++ value_read s a b) (hi voices.Leaf m t p said tt k.inner_is)
autolink-item s i rest hi hr m t p (part parts.AutolinkProtocol) a b d said g k =
    ap (λ (x : Said). x.text) (hr voices.Leaf m t p _ tt k.rest_is)
    ∙ ap (λ (x : Said). x.text ++ value_read s a b) (hi voices.Leaf m t p said tt k.inner_is)
    ∙ ap (λ xs. said.text ++ address_of s (decorate s p (item (part parts.AutolinkProtocol) a b d i xs))) (sym (none-known s m t rest k.rest_is))
autolink-item s i rest hi hr m t p (part q) a b d said g k = let z : false ≡ true = k.fits_is in absurd cc
autolink-item s i rest hi hr m t p (content c) a b d said g k = let z : false ≡ true = k.fits_is in absurd cc

-- what a value stands for after a marker
decoded-is : (s : Source) (p : Place) (a b : Point) (marker : ℕ) → p.marker ≡ Some marker → unwrap_or (s.text (text_read s a b) marker) [] ≡ unwrap_or (decoded s p a b) []
decoded-is s p a b marker h = ap (λ (x : Option ℕ). unwrap_or (option_and_then (λ y. s.text (text_read s a b) y) x) []) (sym h)

undecoded : (s : Source) (p : Place) (a b : Point) → p.marker ≡ None → unwrap_or (decoded s p a b) [] ≡ []
undecoded s p a b h = ap (λ (x : Option ℕ). unwrap_or (option_and_then (λ y. s.text (text_read s a b) y) x) []) h

-- the last part of a character reference, or one of its markers
value-item : (s : Source) (m t : Bool) (p : Place) (a b : Point) (words : List ℕ) (old here : Said) (rest : Items) → here.text ≡ old.text ++ words → words ≡ unwrap_or (decoded s p a b) [] → AreHeard s rest → are_known s (at voices.Leaf m t) rest ≡ true
    → (told s (at voices.Leaf m t) rest here).text ≡ old.text ++ unwrap_or (decoded s p a b) []
value-item s m t p a b words old here rest e f hr k = ap (λ (x : Said). x.text) (hr voices.Leaf m t p here tt k) ∙ e ∙ ap (λ x. old.text ++ x) f

reference-item : (s : Source) (i rest : Items) → HeardItem s voices.Reference i rest
reference-item s i rest hi hr m t p (part parts.CharacterReferenceMarker) a b d said g k =
    hr voices.Named m t (inherited_after (part parts.CharacterReferenceMarker) p) (told s (at voices.Leaf m t) i said) refl k.rest_is
    ∙ ap (λ (x : Said). x.text ++ or_empty (character s (decorate s (inherited_after (part parts.CharacterReferenceMarker) p) rest))) (hi voices.Leaf m t p said tt k.inner_is)
reference-item s i rest hi hr m t p (part parts.CharacterReferenceMarkerNumeric) a b d said g k =
    hr voices.Numeric m t (inherited_after (part parts.CharacterReferenceMarkerNumeric) p) (told s (at voices.Leaf m t) i said) refl k.rest_is
    ∙ ap (λ (x : Said). x.text ++ or_empty (character s (decorate s (inherited_after (part parts.CharacterReferenceMarkerNumeric) p) rest))) (hi voices.Leaf m t p said tt k.inner_is)
reference-item s i rest hi hr m t p (part parts.CharacterReferenceMarkerHexadecimal) a b d said g k =
    hr voices.Hexadecimal m t (inherited_after (part parts.CharacterReferenceMarkerHexadecimal) p) (told s (at voices.Leaf m t) i said) refl k.rest_is
    ∙ ap (λ (x : Said). x.text ++ or_empty (character s (decorate s (inherited_after (part parts.CharacterReferenceMarkerHexadecimal) p) rest))) (hi voices.Leaf m t p said tt k.inner_is)
reference-item s i rest hi hr m t p (part parts.CharacterReferenceValue) a b d said g k =
    value-item s m t p a b [] said (told s (at voices.Leaf m t) i said) rest (ap (λ (x : Said). x.text) (hi voices.Leaf m t p said tt k.inner_is) ∙ sym (append-nil said.text)) (sym (undecoded s p a b g)) hr k.rest_is
reference-item s i rest hi hr m t p (part q) a b d said g k = let z : false ≡ true = k.fits_is in absurd cc
reference-item s i rest hi hr m t p (content c) a b d said g k = let z : false ≡ true = k.fits_is in absurd cc

named-item : (s : Source) (i rest : Items) → HeardItem s voices.Named i rest
named-item s i rest hi hr m t p (part parts.CharacterReferenceMarker) a b d said g k =
    hr voices.Named m t (inherited_after (part parts.CharacterReferenceMarker) p) (told s (at voices.Leaf m t) i said) refl k.rest_is
    ∙ ap (λ (x : Said). x.text ++ or_empty (character s (decorate s (inherited_after (part parts.CharacterReferenceMarker) p) rest))) (hi voices.Leaf m t p said tt k.inner_is)
named-item s i rest hi hr m t p (part parts.CharacterReferenceMarkerNumeric) a b d said g k =
    hr voices.Numeric m t (inherited_after (part parts.CharacterReferenceMarkerNumeric) p) (told s (at voices.Leaf m t) i said) refl k.rest_is
    ∙ ap (λ (x : Said). x.text ++ or_empty (character s (decorate s (inherited_after (part parts.CharacterReferenceMarkerNumeric) p) rest))) (hi voices.Leaf m t p said tt k.inner_is)
named-item s i rest hi hr m t p (part parts.CharacterReferenceMarkerHexadecimal) a b d said g k =
    hr voices.Hexadecimal m t (inherited_after (part parts.CharacterReferenceMarkerHexadecimal) p) (told s (at voices.Leaf m t) i said) refl k.rest_is
    ∙ ap (λ (x : Said). x.text ++ or_empty (character s (decorate s (inherited_after (part parts.CharacterReferenceMarkerHexadecimal) p) rest))) (hi voices.Leaf m t p said tt k.inner_is)
named-item s i rest hi hr m t p (part parts.CharacterReferenceValue) a b d said g k =
    let words : List ℕ = unwrap_or (s.text (text_read s a b) 38) [] in
    let inside_it : Said = told s (at voices.Leaf m t) i said in
    value-item s m t p a b words said (record { text = inside_it.text ++ words; mark = inside_it.mark; last = inside_it.last }) rest (ap (λ (x : Said). x.text ++ words) (hi voices.Leaf m t p said tt k.inner_is)) (decoded-is s p a b 38 g) hr k.rest_is
named-item s i rest hi hr m t p (part q) a b d said g k = let z : false ≡ true = k.fits_is in absurd cc
named-item s i rest hi hr m t p (content c) a b d said g k = let z : false ≡ true = k.fits_is in absurd cc

numeric-item : (s : Source) (i rest : Items) → HeardItem s voices.Numeric i rest
numeric-item s i rest hi hr m t p (part parts.CharacterReferenceMarker) a b d said g k =
    hr voices.Named m t (inherited_after (part parts.CharacterReferenceMarker) p) (told s (at voices.Leaf m t) i said) refl k.rest_is
    ∙ ap (λ (x : Said). x.text ++ or_empty (character s (decorate s (inherited_after (part parts.CharacterReferenceMarker) p) rest))) (hi voices.Leaf m t p said tt k.inner_is)
numeric-item s i rest hi hr m t p (part parts.CharacterReferenceMarkerNumeric) a b d said g k =
    hr voices.Numeric m t (inherited_after (part parts.CharacterReferenceMarkerNumeric) p) (told s (at voices.Leaf m t) i said) refl k.rest_is
    ∙ ap (λ (x : Said). x.text ++ or_empty (character s (decorate s (inherited_after (part parts.CharacterReferenceMarkerNumeric) p) rest))) (hi voices.Leaf m t p said tt k.inner_is)
numeric-item s i rest hi hr m t p (part parts.CharacterReferenceMarkerHexadecimal) a b d said g k =
    hr voices.Hexadecimal m t (inherited_after (part parts.CharacterReferenceMarkerHexadecimal) p) (told s (at voices.Leaf m t) i said) refl k.rest_is
    ∙ ap (λ (x : Said). x.text ++ or_empty (character s (decorate s (inherited_after (part parts.CharacterReferenceMarkerHexadecimal) p) rest))) (hi voices.Leaf m t p said tt k.inner_is)
numeric-item s i rest hi hr m t p (part parts.CharacterReferenceValue) a b d said g k =
    let words : List ℕ = unwrap_or (s.text (text_read s a b) 35) [] in
    let inside_it : Said = told s (at voices.Leaf m t) i said in
    value-item s m t p a b words said (record { text = inside_it.text ++ words; mark = inside_it.mark; last = inside_it.last }) rest (ap (λ (x : Said). x.text ++ words) (hi voices.Leaf m t p said tt k.inner_is)) (decoded-is s p a b 35 g) hr k.rest_is
numeric-item s i rest hi hr m t p (part q) a b d said g k = let z : false ≡ true = k.fits_is in absurd cc
numeric-item s i rest hi hr m t p (content c) a b d said g k = let z : false ≡ true = k.fits_is in absurd cc

hexadecimal-item : (s : Source) (i rest : Items) → HeardItem s voices.Hexadecimal i rest
hexadecimal-item s i rest hi hr m t p (part parts.CharacterReferenceMarker) a b d said g k =
    hr voices.Named m t (inherited_after (part parts.CharacterReferenceMarker) p) (told s (at voices.Leaf m t) i said) refl k.rest_is
    ∙ ap (λ (x : Said). x.text ++ or_empty (character s (decorate s (inherited_after (part parts.CharacterReferenceMarker) p) rest))) (hi voices.Leaf m t p said tt k.inner_is)
hexadecimal-item s i rest hi hr m t p (part parts.CharacterReferenceMarkerNumeric) a b d said g k =
    hr voices.Numeric m t (inherited_after (part parts.CharacterReferenceMarkerNumeric) p) (told s (at voices.Leaf m t) i said) refl k.rest_is
    ∙ ap (λ (x : Said). x.text ++ or_empty (character s (decorate s (inherited_after (part parts.CharacterReferenceMarkerNumeric) p) rest))) (hi voices.Leaf m t p said tt k.inner_is)
hexadecimal-item s i rest hi hr m t p (part parts.CharacterReferenceMarkerHexadecimal) a b d said g k =
    hr voices.Hexadecimal m t (inherited_after (part parts.CharacterReferenceMarkerHexadecimal) p) (told s (at voices.Leaf m t) i said) refl k.rest_is
    ∙ ap (λ (x : Said). x.text ++ or_empty (character s (decorate s (inherited_after (part parts.CharacterReferenceMarkerHexadecimal) p) rest))) (hi voices.Leaf m t p said tt k.inner_is)
hexadecimal-item s i rest hi hr m t p (part parts.CharacterReferenceValue) a b d said g k =
    let words : List ℕ = unwrap_or (s.text (text_read s a b) 120) [] in
    let inside_it : Said = told s (at voices.Leaf m t) i said in
    value-item s m t p a b words said (record { text = inside_it.text ++ words; mark = inside_it.mark; last = inside_it.last }) rest (ap (λ (x : Said). x.text ++ words) (hi voices.Leaf m t p said tt k.inner_is)) (decoded-is s p a b 120 g) hr k.rest_is
hexadecimal-item s i rest hi hr m t p (part q) a b d said g k = let z : false ≡ true = k.fits_is in absurd cc
hexadecimal-item s i rest hi hr m t p (content c) a b d said g k = let z : false ≡ true = k.fits_is in absurd cc

-- ---- Code

-- the text of data or a line ending, before the others
code-text : (a b : Point) (words : List ℕ) (more : Trees) (old here new : Said) → here.text ≡ old.text ++ words → here.mark ≡ old.mark → here.last ≡ b.index → IsCode more here new
    → IsCode (join (node (tree.text words) nothing (Some (between a b)) nothing) more) old new
code-text a b words more old here new e f l (no_code x t k n) =
    one_text words (between a b) (ap (λ y. join (node (tree.text words) nothing (Some (between a b)) nothing) y) x) (t ∙ e) (k ∙ f) (sym l ∙ sym n)
code-text a b words more old here new e f l (one_text v place x t k n) =
    one_text (words ++ v) (record { start = (between a b).start; end = place.end }) (ap (λ y. join (node (tree.text words) nothing (Some (between a b)) nothing) y) x)
    (t ∙ ap (λ y. y ++ v) e ∙ append_assoc old.text words v) (k ∙ f) n

-- a fence
code-fence : (more : Trees) (old here new : Said) → here ≡ old → IsCode more here new → IsCode more old new
code-fence more old here new e (no_code x t k n) = no_code x (t ∙ ap (λ (y : Said). y.text) e) (k ∙ ap (λ (y : Said). y.mark) e) (n ∙ ap (λ (y : Said). y.last) e)
code-fence more old here new e (one_text v place x t k n) = one_text v place x (t ∙ ap (λ (y : Said). y.text ++ v) e) (k ∙ ap (λ (y : Said). y.mark) e) n

raw-item : (s : Source) (i rest : Items) → HeardItem s voices.Raw i rest
raw-item s i rest hi hr m t p (content contents.Data) a b d said g k =
    let inside_it : Said = told s (at voices.Leaf m t) i said in
    let same : inside_it ≡ said = hi voices.Leaf m t p said tt k.inner_is in
    let here : Said = record { text = inside_it.text ++ value_read s a b; mark = inside_it.mark; last = b.index } in
    code-text a b (value_read s a b) (nodes_of (decorate s (inherited_after (content contents.Data) p) rest)) said here (told s (at voices.Raw m t) rest here)
    (ap (λ (x : Said). x.text ++ value_read s a b) same) (ap (λ (x : Said). x.mark) same) refl
    (hr voices.Raw m t (inherited_after (content contents.Data) p) here g k.rest_is)
raw-item s i rest hi hr m t p (content contents.LineEnding) a b d said g k =
    let inside_it : Said = told s (at voices.Leaf m t) i said in
    let same : inside_it ≡ said = hi voices.Leaf m t p said tt k.inner_is in
    let here : Said = record { text = inside_it.text ++ ending_read s a b; mark = inside_it.mark; last = b.index } in
    let more : Trees = nodes_of (decorate s (inherited_after (content contents.LineEnding) p) rest) in
    subst (λ x. IsCode (join (cond x (node (tree.text (ending_read s a b)) nothing (Some (between a b)) nothing) nothing) more) said (told s (at voices.Raw m t) rest here)) (sym g)
    (code-text a b (ending_read s a b) more said here (told s (at voices.Raw m t) rest here)
    (ap (λ (x : Said). x.text ++ ending_read s a b) same) (ap (λ (x : Said). x.mark) same) refl
    (hr voices.Raw m t (inherited_after (content contents.LineEnding) p) here g k.rest_is))
raw-item s i rest hi hr m t p (part parts.CodeFencedFence) a b d said g k =
    code-fence (nodes_of (decorate s (inherited_after (part parts.CodeFencedFence) p) rest)) said (told s (at voices.Silent m t) i said) _ (hi voices.Silent m t p said tt k.inner_is)
    (hr voices.Raw m t (inherited_after (part parts.CodeFencedFence) p) (told s (at voices.Silent m t) i said) refl k.rest_is)
raw-item s i rest hi hr m t p (part parts.MathFlowFence) a b d said g k =
    code-fence (nodes_of (decorate s (inherited_after (part parts.MathFlowFence) p) rest)) said (told s (at voices.Silent m t) i said) _ (hi voices.Silent m t p said tt k.inner_is)
    (hr voices.Raw m t (inherited_after (part parts.MathFlowFence) p) (told s (at voices.Silent m t) i said) refl k.rest_is)
raw-item s i rest hi hr m t p (part q) a b d said g k = let z : false ≡ true = k.fits_is in absurd cc
raw-item s i rest hi hr m t p (content c) a b d said g k = let z : false ≡ true = k.fits_is in absurd cc

fenced-item : (s : Source) (i rest : Items) → HeardItem s voices.Fenced i rest
fenced-item s i rest hi hr m t p (part parts.CodeFencedFence) a b d said g k =
    code-fence (nodes_of (decorate s (inherited_after (part parts.CodeFencedFence) p) rest)) said (told s (at voices.Silent m t) i said) _ (hi voices.Silent m t p said tt k.inner_is)
    (hr voices.Raw m t (inherited_after (part parts.CodeFencedFence) p) (told s (at voices.Silent m t) i said) refl k.rest_is)
fenced-item s i rest hi hr m t p (part parts.MathFlowFence) a b d said g k =
    code-fence (nodes_of (decorate s (inherited_after (part parts.MathFlowFence) p) rest)) said (told s (at voices.Silent m t) i said) _ (hi voices.Silent m t p said tt k.inner_is)
    (hr voices.Raw m t (inherited_after (part parts.MathFlowFence) p) (told s (at voices.Silent m t) i said) refl k.rest_is)
fenced-item s i rest hi hr m t p (part q) a b d said g k = let z : false ≡ true = k.fits_is in absurd cc
fenced-item s i rest hi hr m t p (content c) a b d said g k = let z : false ≡ true = k.fits_is in absurd cc

leaf-item : (s : Source) (i rest : Items) → HeardItem s voices.Leaf i rest
leaf-item s i rest hi hr m t p what a b d said g k = let z : false ≡ true = k.fits_is in absurd cc

-- ---- All items

any-item : (s : Source) (v : Voice) (i rest : Items) → HeardItem s v i rest
any-item s voices.Silent i rest = silent-item s i rest
any-item s voices.Flow i rest = flow-item s i rest
any-item s voices.Text i rest = text-item s i rest
any-item s voices.Broken i rest = broken-item s i rest
any-item s voices.Item i rest = item-item s i rest
any-item s voices.First i rest = first-item s i rest
any-item s voices.Marked i rest = marked-item s i rest
any-item s voices.Media i rest = media-item s i rest
any-item s voices.Autolink i rest = autolink-item s i rest
any-item s voices.Reference i rest = reference-item s i rest
any-item s voices.Named i rest = named-item s i rest
any-item s voices.Numeric i rest = numeric-item s i rest
any-item s voices.Hexadecimal i rest = hexadecimal-item s i rest
any-item s voices.Fenced i rest = fenced-item s i rest
any-item s voices.Raw i rest = raw-item s i rest
any-item s voices.Leaf i rest = leaf-item s i rest

no-items : (s : Source) (v : Voice) (m t : Bool) (p : Place) (said : Said) → Heard s v m p none said said
no-items s voices.Silent m t p said = refl
no-items s voices.Flow m t p said = refl
no-items s voices.Text m t p said = refl
no-items s voices.Broken m t p said = refl
no-items s voices.Item m t p said = refl
no-items s voices.First m t p said = refl
no-items s voices.Marked m t p said = refl
no-items s voices.Media m t p said = refl
no-items s voices.Autolink m t p said = sym (append-nil said.text)
no-items s voices.Reference m t p said = sym (append-nil said.text)
no-items s voices.Named m t p said = sym (append-nil said.text)
no-items s voices.Numeric m t p said = sym (append-nil said.text)
no-items s voices.Hexadecimal m t p said = sym (append-nil said.text)
no-items s voices.Fenced m t p said = no_code refl refl refl refl
no-items s voices.Raw m t p said = no_code refl refl refl refl
no-items s voices.Leaf m t p said = refl

-- what is said of items is what their nodes say
pub heard : (s : Source) (xs : Items) → AreHeard s xs
heard s none v m t p said g h = no-items s v m t p said
heard s (item what a b d i rest) v m t p said g h = any-item s v i rest (heard s i) (heard s rest) m t p what a b d said g (known-item s v m t what a b d i rest h)
