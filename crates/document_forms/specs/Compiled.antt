-- The forms of a document and of events that another tokenizer wrote.
use Rattle.std.specs.Prelude.{ℕ, Bool, List, IsSomeAnd}
use Rattle.document_forms.specs.Documents.{IsFormOf, shown}
use Rattle.document_forms.specs.Errors.{IsNotUtf8, IsOfWriting}
use Rattle.document_forms.specs.declared.error.PrintError.{PrintError}
use Rattle.document_forms.specs.declared.error.PrintError.TheVariants.{EventLine, Refused}
use Rattle.event_lines.specs.Lines.{lines, IsFirstUnread}
use Rattle.markdown_grammar.specs.Correct.{IsMeaning, Refuses}
use Rattle.markdown_nodes.specs.declared.mdast.Node.{Node}
use Rattle.tree_forms.specs.declared.form.TreeForm.{TreeForm}

-- a tree is the meaning of the events that the lines say
abbrev pub Means : List ℕ → List ℕ → Node → Type 0
Means event_lines document tree = IsSomeAnd (lines event_lines) (λ events. IsMeaning tree events (shown document events))

-- a text is a form of such a tree
abbrev pub IsCompiledForm : List ℕ → Bool → TreeForm → List ℕ → List ℕ → List ℕ → Type 0
IsCompiledForm text is_clean form name document event_lines =
    (tree : Node) × Means event_lines document tree × IsFormOf text is_clean form name document tree

-- the number is that of the first line that is neither empty nor an event; or memory ran out, or the output cannot be written
abbrev pub IsUnread : List ℕ → PrintError → Type 0
IsUnread event_lines (EventLine number) = IsFirstUnread number event_lines
IsUnread event_lines error = IsOfWriting error

-- the same; or the events have no tree, and the message says why; or the document is not UTF-8
abbrev pub IsWhyNot : List ℕ → List ℕ → PrintError → Type 0
IsWhyNot document event_lines (EventLine number) = IsFirstUnread number event_lines
IsWhyNot document event_lines (Refused message) = IsSomeAnd (lines event_lines) (λ events. Refuses message events (shown document events))
IsWhyNot document event_lines error = IsNotUtf8 document error
