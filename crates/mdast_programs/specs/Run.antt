-- The output of a run.
use Rattle.std.specs.Prelude.{◌≡◌, ℕ, Bool, List, ◌++◌, Option, IfSome, IsSomeAnd, codes, ⊤}
use Rattle.std.specs.Fmt.{decimal}
use Rattle.std.specs.Io.KnownBytes.{IsAtEnd}
use Rattle.markdown_events.specs.declared.event.Event.{Event}
use Rattle.markdown_events.specs.declared.message.Message.{Message}
use Rattle.markdown_events.specs.Messages.{message_text}
use Rattle.markdown_nodes.specs.declared.mdast.Node.{Node}
use Rattle.markdown_nodes.specs.Shown.{shown}
use Rattle.markdown_nodes.specs.Tree.{Tree}
use Rattle.markdown_nodes.specs.View.{view}
use Rattle.markdown_grammar.specs.Correct.{IsMeaning, Refuses}
use Rattle.markdown_grammar.specs.Document.{Source, source}
use Rattle.mdast_programs.specs.declared.run.Answer.{Answer}
use Rattle.mdast_programs.specs.declared.run.Answer.TheVariants as answers
use Rattle.character_references.specs.Decoder.{decoded}
use Rattle.event_lines.specs.Lines.{lines, IsFirstUnread}

-- the document, with what the program's decoder knows
abbrev pub over : List ℕ → Source
over doc = source doc decoded

-- an answer of the compiler is right for events: their tree, or a message that refuses them
abbrev pub IsCompiled : Answer → List Event → List ℕ → Type 0
IsCompiled (answers.Tree tree) events doc = IsMeaning tree events (over doc)
IsCompiled (answers.Refused message) events doc = Refuses message events (over doc)
IsCompiled (answers.UnreadLine number) events doc = ⊥
IsCompiled answers.UnreadEvents events doc = ⊥

-- a tree is the meaning of the events that the known bytes say
abbrev pub Means : Option (List ℕ) → List ℕ → Node → Type 0
Means known doc tree = IfSome known (λ all. IsSomeAnd (lines all) (λ events. IsMeaning tree events (over doc)))

-- an answer is right for an input with these known bytes, of which these are left
abbrev pub IsAnswer : Answer → Option (List ℕ) → Option (List ℕ) → List ℕ → Type 0
IsAnswer (answers.Tree tree) known left doc = IsAtEnd left × Means known doc tree
IsAnswer (answers.Refused message) known left doc = IsAtEnd left × IfSome known (λ all. IsSomeAnd (lines all) (λ events. Refuses message events (over doc)))
IsAnswer (answers.UnreadLine number) known left doc = IsAtEnd left × IfSome known (IsFirstUnread number)
IsAnswer answers.UnreadEvents known left doc = ⊤

-- ---- The lines that are written

-- `line:column (offset): reason (rule_id)`, and an LF
abbrev pub message_line : Message → List ℕ
message_line m = message_text m ++ codes "\n"

-- the events that the known bytes say are refused, and `Said` holds of the line of a message that says why
abbrev pub IsRefusedWith : Option (List ℕ) → List ℕ → (List ℕ → Type 0) → Type 0
IsRefusedWith known doc Said =
    IfSome known (λ all. IsSomeAnd (lines all) (λ events.
    (message : Message) × Refuses message events (over doc) × Said (message_line message)))

-- the line of a tree: its text as Debug writes it, and an LF; it is left open which characters beyond ASCII are written
-- as Unicode escapes
abbrev pub IsLineOf : Tree → List ℕ → Type 0
IsLineOf tree line = (escapes : ℕ → Bool) × (line ≡ shown escapes tree ++ codes "\n")

-- the line of an answer
abbrev pub Prints : Answer → List ℕ → Type 0
Prints (answers.Tree tree) text = IsLineOf (view tree) text
Prints (answers.Refused message) text = text ≡ message_line message
Prints (answers.UnreadLine number) text = text ≡ codes "mdast_show: event line " ++ decimal number ++ codes " cannot be read\n"
Prints answers.UnreadEvents text = text ≡ codes "mdast_show: cannot read the events\n"

-- the exit status of an answer
abbrev pub status_of : Answer → ℕ
status_of (answers.Tree tree) = 0
status_of (answers.Refused message) = 1
status_of (answers.UnreadLine number) = 2
status_of answers.UnreadEvents = 2
