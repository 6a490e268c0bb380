-- What is said of the items of a span, by the voice in which they are said.
use Rattle.std.proofs.Common.{◌≡◌, ℕ, Bool, true, false, cond, ◌&&◌, ◌||◌, List, [], ◌∷◌, ◌++◌, Option, None, Some, option_map, refl, ap}
use Rattle.std.specs.Prelude.{⊤}
use Rattle.markdown_events.proofs.Booleans.{and-left, and-right}
use Rattle.markdown_events.specs.declared.role.ItemKind.TheVariants.{Content as content}
use Rattle.markdown_events.specs.declared.role.Content.TheVariants as contents
use Rattle.markdown_events.specs.declared.role.Part.TheVariants as parts
use Rattle.markdown_events.specs.declared.unist.Position.{Position}
use Rattle.markdown_grammar.specs.Attributes.{Place, mark}
use Rattle.markdown_grammar.specs.Decorated.{Decorated, Found, decorated, first, label_text, nodes_of, or_empty, undecorated, within}
use Rattle.markdown_grammar.specs.Document.{Source, value_read}
use Rattle.markdown_grammar.specs.Items.{Items, is_part}
use Rattle.markdown_grammar.specs.Nodes.{character, decorate}
use Rattle.markdown_grammar.specs.Tasks.{after_blank, task_if, trimmed_text}
use Rattle.markdown_nodes.specs.Tree.{Trees, node, nothing, plain_label, plain_text}
use Rattle.markdown_nodes.specs.Tree as tree
use Rattle.markdown_words.proofs.Spoken.{spoken}
use Rattle.markdown_words.specs.Saying.{Said, are_known, told}
use Rattle.markdown_words.specs.declared.setting.Setting.{Setting}
use Rattle.markdown_words.specs.declared.setting.Voice.{Voice}
use Rattle.markdown_words.specs.declared.setting.Voice.TheVariants as voices

-- a setting
abbrev pub at : Voice → Bool → Bool → Setting
at v m t = record { voice = v; in_label = m; in_table = t }

-- ---- What a setting knows of the place

-- whether line endings are text, and whether a table is around
pub record InPlace (endings table : Bool) (p : Place) : Type 0 where
  pub endings_are : p.line_endings ≡ endings
  pub table_is : table ≡ p.in_table

abbrev pub Agrees : Voice → Bool → Place → Type 0
Agrees voices.Flow t p = InPlace false t p
Agrees voices.Text t p = InPlace true t p
Agrees voices.Broken t p = InPlace true t p
Agrees voices.Item t p = InPlace false t p
Agrees voices.First t p = InPlace true t p
Agrees voices.Marked t p = InPlace true t p
Agrees voices.Media t p = t ≡ p.in_table
Agrees voices.Reference t p = p.marker ≡ None
Agrees voices.Named t p = p.marker ≡ Some 38
Agrees voices.Numeric t p = p.marker ≡ Some 35
Agrees voices.Hexadecimal t p = p.marker ≡ Some 120
Agrees voices.Raw t p = p.line_endings ≡ true
Agrees _ t p = ⊤

-- ---- What is said

-- the items after a break, without its line ending
abbrev pub past_ending : Decorated → Decorated
past_ending (decorated (content contents.LineEnding) _ _ _ _ _ rest) = rest
past_ending xs = xs

-- the nodes in the first paragraph of an item with a mark: the first text loses one blank
abbrev pub cut_first : Trees → Trees
cut_first (node (tree.text (b ∷ bs)) _ (Some here) others) = trimmed_text (after_blank (b ∷ bs) here.start) (Some here) others
cut_first nodes = nodes

abbrev pub cut_if : Option Bool → Trees → Trees
cut_if None nodes = nodes
cut_if (Some b) nodes = cut_first nodes

-- the address of an autolink
abbrev pub address_in : Source → Option Found → Option Found → List ℕ
address_in s (Some email) _ = value_read s email.start email.end
address_in s None (Some address) = value_read s address.start address.end
address_in s None None = []

abbrev pub address_of : Source → Decorated → List ℕ
address_of s xs = address_in s (first parts.AutolinkEmail xs) (first parts.AutolinkProtocol xs)

-- the nodes in code: none, or one text, whose end is known
pub data IsCode (trees : Trees) (old new : Said) : Type 0 where
  no_code : trees ≡ nothing → new.text ≡ old.text → new.mark ≡ old.mark → new.last ≡ old.last → IsCode trees old new
  one_text : (value : List ℕ) (here : Position) → trees ≡ node (tree.text value) nothing (Some here) nothing → new.text ≡ old.text ++ value → new.mark ≡ old.mark → here.end.offset ≡ new.last → IsCode trees old new

abbrev pub Heard : Source → Voice → Bool → Place → Items → Said → Said → Type 0
Heard s voices.Silent m p xs old new = new ≡ old
Heard s voices.Flow m p xs old new = new.text ≡ spoken m old.text (nodes_of (decorate s p xs))
Heard s voices.Text m p xs old new = new.text ≡ spoken m old.text (nodes_of (decorate s p xs))
Heard s voices.Broken m p xs old new = new.text ≡ spoken m old.text (nodes_of (past_ending (decorate s p xs)))
Heard s voices.Item m p xs old new = new.text ≡ spoken m old.text (task_if (mark xs) (nodes_of (decorate s p xs)))
Heard s voices.First m p xs old new = new.text ≡ spoken m old.text (cut_if (mark xs) (nodes_of (decorate s p xs)))
Heard s voices.Marked m p xs old new = new.text ≡ spoken m old.text (cut_first (nodes_of (decorate s p xs)))
Heard s voices.Media m p xs old new = new.text ≡ spoken m old.text (nodes_of (within parts.LabelText (decorate s p xs)))
Heard s voices.Autolink m p xs old new = new.text ≡ old.text ++ address_of s (decorate s p xs)
Heard s voices.Reference m p xs old new = new.text ≡ old.text ++ or_empty (character s (decorate s p xs))
Heard s voices.Named m p xs old new = new.text ≡ old.text ++ or_empty (character s (decorate s p xs))
Heard s voices.Numeric m p xs old new = new.text ≡ old.text ++ or_empty (character s (decorate s p xs))
Heard s voices.Hexadecimal m p xs old new = new.text ≡ old.text ++ or_empty (character s (decorate s p xs))
Heard s voices.Fenced m p xs old new = IsCode (nodes_of (decorate s p xs)) old new
Heard s voices.Raw m p xs old new = IsCode (nodes_of (decorate s p xs)) old new
Heard s voices.Leaf m p xs old new = new ≡ old

-- what is said of these items is what their nodes say, in each setting
abbrev pub AreHeard : Source → Items → Type 0
AreHeard s xs = (v : Voice) (m t : Bool) (p : Place) (said : Said) → Agrees v t p → are_known s (at v m t) xs ≡ true → Heard s v m p xs said (told s (at v m t) xs said)

-- ---- Tests that pass

pub record Known (fits inner suits rest : Bool) : Type 0 where
  pub fits_is : fits ≡ true
  pub inner_is : inner ≡ true
  pub suits_is : suits ≡ true
  pub rest_is : rest ≡ true

pub known : (f i u r : Bool) → (f && i && u && r) ≡ true → Known f i u r
known f i u r h =
    let three : (f && i && u) ≡ true = and-left (f && i && u) r h in
    let two : (f && i) ≡ true = and-left (f && i) u three in
    record { fits_is = and-left f i two; inner_is = and-right f i two; suits_is = and-right (f && i) u three; rest_is = and-right (f && i && u) r h }

pub or-false : (b : Bool) → (b || false) ≡ b
or-false true = refl
or-false false = refl

pub or-true : (b : Bool) → (b || true) ≡ true
or-true true = refl
or-true false = refl

-- ---- Labels

label-choice : (t : Bool) (inner after : Decorated) (found : Found) (more : Option Found) → found.inner ≡ inner → or_empty (option_map (λ (x : Found). plain_label (nodes_of x.inner)) more) ≡ plain_label (nodes_of after)
    → or_empty (option_map (λ (x : Found). plain_label (nodes_of x.inner)) (cond t (Some found) more)) ≡ plain_label (nodes_of (cond t inner after))
label-choice true inner after found more e h = ap (λ x. plain_label (nodes_of x)) e
label-choice false inner after found more e h = h

-- the text of a label is that of the nodes in it
pub label-is : (xs : Decorated) → or_empty (label_text xs) ≡ plain_label (nodes_of (within parts.LabelText xs))
label-is undecorated = refl
label-is (decorated what a b p own inner rest) =
    label-choice (is_part parts.LabelText what) inner (within parts.LabelText rest) (record { start = a; end = b; place = p; inner = inner }) (first parts.LabelText rest) refl (label-is rest)
