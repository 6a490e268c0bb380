use Rattle.std.proofs.Common.{List, false, ap, arith, drop, slice_range, subst, sym, ℕ, ◌+◌, ◌∙◌, ◌≡◌}
use Rattle.markdown_text.proofs.Outputs.{goes_on_then, string_cut}
use Rattle.markdown_text.proofs.Parts.{cut_in}
use Rattle.markdown_text.proofs.Ranges.{drop_slice}
use Rattle.markdown_text.proofs.Tokens.{found_in}
use Rattle.markdown_text.specs.Contents.{IsRange}
use Rattle.markdown_text.specs.Outputs.{bytes_of, references_of}
use Rattle.markdown_text.specs.Texts.{text_of}
use Rattle.markdown_text.specs.Tokens.{IsFound}
use Rattle.markdown_text.proofs.string.write.Goals as goal

pub write_found-requires-clause-found : goal.write_found-requires-clause-found
write_found-requires-clause-found g c =
    let i = c.tokens.invariant in
    let most = c.in_ok-found.ensures.most in
    let rest = c.after-rest.ensures.length in
    let size = i.size in
    let text = g.R.References.text in
    let found : IsFound (text_of c.tokens.rest.now (text (references_of c.tokens.output)) false) c.in_ok-found.found.kind 0 c.in_ok-found.found.size =
    subst (λ r. IsFound (text_of c.tokens.rest.now (text r) false) c.in_ok-found.found.kind 0 c.in_ok-found.found.size) (ap (λ s. s.reading.now.references.now) c.source-source.ensures ∙ sym i.goes_on.references) c.in_ok-found.ensures.found in
    found_in (bytes_of c.tokens.output) c.tokens.rest.now (text (references_of c.tokens.output)) false c.tokens.output.data c.args.end c.in_ok-found.found.kind 0 c.in_ok-found.found.size _ _
    (i.rest ∙ ap (λ (bs : List ℕ). slice_range bs c.tokens.output.data c.args.end) (sym i.goes_on.bytes)) (subst (λ (bs : List ℕ). IsRange bs c.tokens.output.data c.args.end) (sym i.goes_on.bytes) i.range)
    (omega arith) (omega (arith, size, rest, most)) found

pub write_found-requires-clause-inlines : goal.write_found-requires-clause-inlines
write_found-requires-clause-inlines g c =
    let i = c.requires.inlines in
    record { in_heading = i.in_heading; outer = i.outer; at = c.tokens.invariant.at i.in_heading i.outer i.at }

pub tokens-preserved : goal.tokens-preserved
tokens-preserved g c =
    let i = c.tokens.invariant in
    let most = c.in_ok-found.ensures.most in
    let rest = c.after-rest.ensures.length in
    let size = i.size in
    let wrote = c.in_ok-write_found.ensures in
    let at : c.write_found.new.output.data ≡ c.tokens.output.data + c.in_ok-found.found.size = wrote.data_end ∙ omega (arith, size, rest, most) in
    let order = i.range.order in
    let within = i.range.within in
    record {
      given = c.write_found.ensures.given ∙ i.given;
      goes_on = goes_on_then c.args.output.now c.tokens.output c.write_found.new.output i.goes_on wrote.goes_on;
      rest = c.after-rest.ensures.rest ∙ ap (λ (bs : List ℕ). drop c.in_ok-found.found.size bs) i.rest ∙ drop_slice (bytes_of c.args.output.now) c.tokens.output.data c.args.end c.in_ok-found.found.size (omega (arith, size, most))
          ∙ ap (λ (n : ℕ). slice_range (bytes_of c.args.output.now) n c.args.end) (sym at);
      size = omega (arith, at, size, rest, most);
      range = record {
        order = omega (arith, at, size, most);
        within = within;
        start = cut_in (bytes_of c.args.output.now) c.tokens.rest.now c.tokens.output.data c.args.end c.in_ok-found.found.size c.write_found.new.output.data i.rest i.range at most (string_cut (text_of c.tokens.rest.now (g.R.References.text c.source-source.result.now.reading.now.references.now) false) c.in_ok-found.found.kind 0 c.in_ok-found.found.size c.in_ok-found.ensures.kind c.in_ok-found.ensures.found);
        end = i.range.end;
      };
      at = λ h outer before. wrote.at h outer (i.at h outer before);
    }
