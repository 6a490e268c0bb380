use Rattle.std.proofs.Common.{◌≡◌, ◌≤◌, List, ℕ, length, subst, ap, ◌∙◌}
use Rattle.std.specs.Prelude.{IfSome, slice_range}
use Rattle.std.specs.Str.{IsUtf8}
use Rattle.markdown_grammar.specs.Document.{Given}
use Rattle.markdown_parts.proofs.SliceReads.{part_is}
use Rattle.markdown_parts.proofs.slice.Document.text_part.Goals as goal

pub returns : goal.returns
returns c =
    let text : c.in_ok-self.field-0.now ≡ c.self.inside.bytes.now = subst (λ o. IfSome o (λ text. text.now ≡ c.self.inside.bytes.now)) c.in_ok-self.was c.self.invariant.0 in
    let whole : c.in_ok-self.field-0.now ≡ c.args.self.now.bytes = text ∙ ap (λ (given : Given). given.bytes) c.self.view_is in
    part_is c.args.self.now.bytes c.args.from c.args.to c.in_ok-part.part.now
    (c.in_ok-part.ensures.cases.0 ∙ ap (λ (b : List ℕ). slice_range b c.args.from c.args.to) whole)
    c.in_ok-part.ensures.cases.1
    (subst (λ (b : List ℕ). c.args.to ≤ length b) whole c.in_ok-part.ensures.cases.2)
    (subst IsUtf8 c.as_bytes.ensures.value c.as_bytes.ensures.utf8)
