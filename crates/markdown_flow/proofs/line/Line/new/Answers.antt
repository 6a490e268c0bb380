use Rattle.std.proofs.Common.{arith, ap, drop, length, subst, sym, take, List, ◌∙◌, ◌+◌, ◌-◌, ◌<◌, ◌≡◌, ◌≤◌, ℕ}
use Rattle.std.proofs.lemmas.Bool.Decides.{nat_tests}
use Rattle.std.proofs.lemmas.List.{drop-drop}
use Rattle.event_writer.specs.Calls.{EndsLine, line_ending_length}
use Rattle.markdown_flow.specs.Lines.{IsInLine, IsRest}
use Rattle.markdown_flow.proofs.Tails.{tail_is}
use Rattle.markdown_flow.proofs.Lines.{Begins, Stands, begins, ends-drop, line_ending-drop}
use Rattle.markdown_flow.proofs.line.Line.new.Goals as goal
use Rattle.markdown_flow.proofs.line.Line.new.Goals.{After-after_line_ending}

pub indent_before-requires-clause-fits : goal.indent_before-requires-clause-fits
indent_before-requires-clause-fits c =
    let s = c.args.source.short in
    omega (arith, c.after-rest.ensures.length, c.split_at.ensures.front_len)

pub after_line_ending-requires : goal.after_line_ending-requires
after_line_ending-requires c some =
    let ends = c.line_size.ensures.ending (omega (arith, c.split_at.ensures.back_len)) in
    subst (λ (text : List ℕ). EndsLine text 0) (sym c.split_at.ensures.back) (ends-drop c.after-rest.result.now c.line_size.result ends)

-- the line begins where it is to
begun : (c : After-after_line_ending) → Begins c.args.source.document.now c.args.start (c.args.start + c.line_size.result)
    (c.args.start + c.line_size.result + line_ending_length c.args.source.document.now (c.args.start + c.line_size.result)) (take c.line_size.result (drop c.args.start c.args.source.document.now)) 0
begun c =
    let is = c.after-rest.ensures.rest in
    let some : 0 < length c.after-rest.result.now = grind (arith, nat_tests) in
    begins c.args.source.document.now c.args.start c.line_size.result 0 (c.requires (omega (arith, some, c.after-rest.ensures.length)))
    (subst (λ (text : List ℕ). 0 < length text) is some)
    (subst (λ (text : List ℕ). c.line_size.result ≤ length text) is c.line_size.ensures.within)
    (subst (λ (text : List ℕ). IsInLine text 0 c.line_size.result) is c.line_size.ensures.in_line)
    (subst (λ (text : List ℕ). c.line_size.result < length text → EndsLine text c.line_size.result) is c.line_size.ensures.ending)

pub invariant_of-result : goal.invariant_of-result
invariant_of-result c =
    let bytes = c.args.source.document.now in
    let at = begun c in
    let some : 0 < length c.after-rest.result.now = grind (arith, nat_tests) in
    let text : c.split_at.result.0.now ≡ take c.line_size.result (drop c.args.start bytes) = c.split_at.ensures.front ∙ ap (take c.line_size.result) c.after-rest.ensures.rest in
    let ending : c.split_at.result.1.now ≡ drop (c.args.start + c.line_size.result) bytes = c.split_at.ensures.back ∙ ap (drop c.line_size.result) c.after-rest.ensures.rest ∙ drop-drop c.line_size.result c.args.start bytes in
    let size : line_ending_length c.split_at.result.1.now 0 ≡ line_ending_length bytes (c.args.start + c.line_size.result) = ap (λ (xs : List ℕ). line_ending_length xs 0) ending ∙ line_ending-drop bytes (c.args.start + c.line_size.result) in
    let end : c.args.start + c.line_size.result ≡ length bytes - length c.split_at.result.1.now = omega (arith, c.after-rest.ensures.length, c.split_at.ensures.back_len) in
    let next : c.args.start + c.line_size.result + line_ending_length bytes (c.args.start + c.line_size.result) ≡ length bytes - length c.after_line_ending.result.now = omega (arith, size, at.whole.within, c.after-rest.ensures.length, c.split_at.ensures.back_len, c.after_line_ending.ensures) in
    let stands : Stands bytes c.args.start (length bytes - length c.split_at.result.1.now) c.split_at.result.0.now 0 0 = subst (λ (n : ℕ). Stands bytes c.args.start n c.split_at.result.0.now 0 0) end
    (subst (λ (xs : List ℕ). Stands bytes c.args.start (c.args.start + c.line_size.result) xs 0 0) (sym text) at.stands) in
    record {
      whole = subst (λ (n : ℕ). IsRest bytes c.args.start n (length bytes - length c.after_line_ending.result.now)) end
          (subst (λ (n : ℕ). IsRest bytes c.args.start (c.args.start + c.line_size.result) n) next at.whole);
      later = subst (λ (n : ℕ). c.args.start < n) next at.later;
      rest_fits = stands.fits;
      rest_stands = stands.before;
      text_rests = c.after_spaces-text.ensures.value;
      has_columns = stands.place;
      has_indent = c.indent_before.ensures;
      tail_exact = tail_is bytes c.split_at.result.0.now c.args.start (length bytes - length c.split_at.result.1.now) c.tail_size.result stands.before (omega (arith, stands.fits)) (omega (arith, end, c.split_at.ensures.front_len)) c.tail_size.ensures;
    }
