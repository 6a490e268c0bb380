-- What is written of a document, and why not all is.
use Rattle.std.proofs.Common.{◌≡◌, ◌≢◌, ℕ, Bool, List, Option, Result, Ok, Err, IfErr, IfOk, refl, subst}
use Rattle.std.specs.Io.KnownBytes.{Appends}
use Rattle.document_forms.specs.Documents.{IsPrinted, IsPrintedTree}
use Rattle.document_forms.specs.Errors.{IsNotUtf8, IsOfWriting}
use Rattle.document_forms.specs.declared.error.PrintError.{PrintError}
use Rattle.document_forms.specs.declared.error.PrintError.TheVariants.{NotUtf8, EventLine, Refused, Memory, Output}
use Rattle.document_forms.specs.declared.outcome.Printed.{Printed}
use Rattle.markdown_options.specs.declared.Constructs.{Constructs}
use Rattle.tree_forms.specs.declared.form.TreeForm.{TreeForm}
use Rattle.tree_forms.specs.declared.form.TreeForm.TheVariants.{Json, JsonUtf16, Drawn, Debug, Outline, PlainText, Html, UnsafeHtml, FilteredHtml, Warnings}

-- a form of a tree is that form of its document, but for the two forms that need no tree
printed_tree : (text : List ℕ) (is_clean : Bool) (form : TreeForm) (name document : List ℕ) (constructs : Constructs) → form ≢ Outline → form ≢ PlainText
    → IsPrintedTree text is_clean form name document constructs → IsPrinted text is_clean form name document constructs
printed_tree text is_clean Json name document constructs not_outline not_text is = is
printed_tree text is_clean JsonUtf16 name document constructs not_outline not_text is = is
printed_tree text is_clean Drawn name document constructs not_outline not_text is = is
printed_tree text is_clean Debug name document constructs not_outline not_text is = is
printed_tree text is_clean Outline name document constructs not_outline not_text is = absurd (not_outline refl)
printed_tree text is_clean PlainText name document constructs not_outline not_text is = absurd (not_text refl)
printed_tree text is_clean Html name document constructs not_outline not_text is = is
printed_tree text is_clean UnsafeHtml name document constructs not_outline not_text is = is
printed_tree text is_clean FilteredHtml name document constructs not_outline not_text is = is
printed_tree text is_clean Warnings name document constructs not_outline not_text is = is

-- a text is written, and is such a form
abbrev Writes : (List ℕ → Type 0) → (first after : Option (List ℕ)) → Type 0
Writes Is first after = (text : List ℕ) × Is text × Appends first after text

pub tree_is_printed : (result : Result Printed PrintError) (form : TreeForm) (name : List ℕ) {read document : List ℕ} (constructs : Constructs) (first after : Option (List ℕ))
    → read ≡ document → form ≢ Outline → form ≢ PlainText
    → IfOk result (λ printed. Writes (λ text. IsPrintedTree text printed.is_clean form name read constructs) first after)
    → IfOk result (λ printed. Writes (λ text. IsPrinted text printed.is_clean form name document constructs) first after)
tree_is_printed (Ok printed) form name {read} constructs first after same not_outline not_text (text, is, wrote) = (
  text,
  subst (λ (d : List ℕ). IsPrinted text printed.is_clean form name d constructs) same (printed_tree text printed.is_clean form name read constructs not_outline not_text is),
  wrote,
)
tree_is_printed (Err error) form name constructs first after same not_outline not_text is = tt

-- an error of writing says nothing of the document
of_writing : (document : List ℕ) (error : PrintError) → IsOfWriting error → IsNotUtf8 document error
of_writing document (NotUtf8 offset) is = absurd is
of_writing document (EventLine number) is = is
of_writing document (Refused message) is = is
of_writing document Memory is = is
of_writing document (Output error) is = is

pub writing_fails : (result : Result Printed PrintError) (document : List ℕ) → IfErr result IsOfWriting → IfErr result (IsNotUtf8 document)
writing_fails (Ok printed) document is = tt
writing_fails (Err error) document is = of_writing document error is
