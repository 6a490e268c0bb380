-- The text of a tree is what its nodes say.
use Rattle.std.proofs.Common.{◌≡◌, ℕ, Bool, true, false, cond, List, [], ◌∷◌, ◌++◌, fold, refl, sym, ◌∙◌, ap}
use Rattle.markdown_events.specs.Forest.{Forest}
use Rattle.markdown_grammar.specs.Attributes.{inherited_at_root}
use Rattle.markdown_grammar.specs.Decorated.{nodes_of}
use Rattle.markdown_grammar.specs.Document.{Source}
use Rattle.markdown_grammar.specs.Items.{items}
use Rattle.markdown_grammar.specs.Meaning.{meaning}
use Rattle.markdown_grammar.specs.Nodes.{decorate}
use Rattle.markdown_nodes.specs.Tree.{Label, Tree, Trees, node, nothing}
use Rattle.markdown_nodes.specs.Tree as tree
use Rattle.markdown_nodes.specs.Walk.{walks}
use Rattle.mdast_util.specs.PlainText.{begins_line, ended, text_in_lines, with_words, words}
use Rattle.markdown_words.proofs.Spoken.{spoken, voiced}
use Rattle.markdown_words.proofs.Told.{heard}
use Rattle.markdown_words.specs.Saying.{Said, are_known, lined, told}
use Rattle.markdown_words.specs.Settings.{setting_of_root}
use Rattle.markdown_words.specs.declared.setting.Voice.TheVariants as voices

fold-append : {A B : Type 0} (f : A → B → A) (start : A) (xs ys : List B) → fold f start (xs ++ ys) ≡ fold f (fold f start xs) ys
fold-append f start [] ys = refl
fold-append f start (x ∷ xs) ys = fold-append f (f start x) xs ys

same-words : (l : Label) → voiced false l ≡ words l
same-words (tree.heading _) = refl
same-words l = refl

same-line : (begins : Bool) (said : List ℕ) → lined begins false said ≡ cond begins (ended said) said
same-line true said = refl
same-line false said = refl

-- the words of the nodes in the order of a walk
walk-says : (said : List ℕ) (t : Trees) → fold with_words said (walks t) ≡ spoken false said t
walk-says said nothing = refl
walk-says said (node l c h r) =
    fold-append with_words (with_words said (record { label = l; children = c; position = h })) (walks c) (walks r)
    ∙ walk-says (fold with_words (with_words said (record { label = l; children = c; position = h })) (walks c)) r
    ∙ ap (λ x. spoken false x r) (walk-says (with_words said (record { label = l; children = c; position = h })) c)
    ∙ ap (λ x. spoken false (spoken false x c) r) (λ i. sym (same-line (begins_line l) said) i ++ sym (same-words l) i)

-- the text of a meaning is what is said of its items
pub text-is : (s : Source) (f : Forest) (said : Said) → said.text ≡ [] → are_known s setting_of_root (items f) ≡ true → ended (told s setting_of_root (items f) said).text ≡ text_in_lines (meaning s f)
text-is s f said e h =
    ap ended
    (heard s (items f) voices.Flow false false inherited_at_root said (record { endings_are = refl; table_is = refl }) h
    ∙ ap (λ x. spoken false x (nodes_of (decorate s inherited_at_root (items f)))) e
    ∙ sym (walk-says [] (nodes_of (decorate s inherited_at_root (items f)))))
