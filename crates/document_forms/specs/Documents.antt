-- The forms of a document, as programs print them.
use Rattle.std.specs.Prelude.{◌≡◌, ◌≢◌, ◌↔◌, ℕ, Bool, IsFalse, List, [], Some, true}
use Rattle.character_references.specs.Html.{html}
use Rattle.event_lines.specs.Written.{written}
use Rattle.event_writer.specs.Finished.{IsFinished}
use Rattle.markdown.specs.Documents.{IsReadAsOutline, IsReadAsText, IsReadAsTree}
use Rattle.markdown.specs.Hidden.{hidden}
use Rattle.markdown.specs.Roots.{whole_document}
use Rattle.markdown_events.specs.declared.event.Event.{Event}
use Rattle.markdown_grammar.specs.Document.{Source, source, source_hiding}
use Rattle.markdown_grammar.specs.Ordered.{IsOrdered}
use Rattle.markdown_nodes.specs.declared.mdast.Node.{Node}
use Rattle.markdown_nodes.specs.Tree.{only}
use Rattle.markdown_nodes.specs.View.{view}
use Rattle.markdown_options.specs.declared.Constructs.{Constructs}
use Rattle.markdown_options.specs.Spans.{AreOn}
use Rattle.mdast_check.specs.Warnings.{warnings_of}
use Rattle.tree_forms.specs.declared.form.TreeForm.{TreeForm}
use Rattle.tree_forms.specs.declared.form.TreeForm.TheVariants.{Outline, PlainText, Warnings}
use Rattle.tree_forms.specs.Forms.{IsForm}

-- the document without the bytes that its events hide
abbrev pub shown : List ℕ → List Event → Source
shown document events = source_hiding (hidden document events) document html

-- the events of a document that is read with these constructs: they are finished, and none of them is of a construct that is off
abbrev pub AreOf : List Event → List ℕ → Constructs → Type 0
AreOf events document constructs = IsFinished (source document html) events × AreOn constructs events

-- a text is the lines of such events
abbrev pub AreEventsOf : List ℕ → List ℕ → Constructs → Type 0
AreEventsOf text document constructs = (events : List Event) × AreOf events document constructs × (text ≡ written events)

-- a tree of a document, as it is read. Its root covers the whole document, and its nodes are in order
pub record IsTreeOf (tree : Node) (document : List ℕ) (constructs : Constructs) : Type 0 where
  pub read : IsReadAsTree constructs document tree
  pub root : (view tree).position ≡ Some (whole_document document)
  pub ordered : IsOrdered (only (view tree))

-- a text is a form of a tree, and only warnings say that something is wrong
abbrev pub IsFormOf : List ℕ → Bool → TreeForm → List ℕ → List ℕ → Node → Type 0
IsFormOf text is_clean form name document tree =
    IsForm text form name document (view tree) × (IsFalse is_clean ↔ ((form ≡ Warnings) × (warnings_of (view tree) ≢ [])))

-- the same for a tree of a document
abbrev pub IsPrintedTree : List ℕ → Bool → TreeForm → List ℕ → List ℕ → Constructs → Type 0
IsPrintedTree text is_clean form name document constructs =
    (tree : Node) × IsTreeOf tree document constructs × IsFormOf text is_clean form name document tree

-- a text is a form of a document: of its tree, or, without a tree, the outline or the text of its events
abbrev pub IsPrinted : List ℕ → Bool → TreeForm → List ℕ → List ℕ → Constructs → Type 0
IsPrinted text is_clean Outline name document constructs =
    IsReadAsOutline constructs document text × (is_clean ≡ true)
IsPrinted text is_clean PlainText name document constructs =
    IsReadAsText constructs document text × (is_clean ≡ true)
IsPrinted text is_clean form name document constructs = IsPrintedTree text is_clean form name document constructs
