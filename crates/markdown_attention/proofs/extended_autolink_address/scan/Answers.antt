use Rattle.std.proofs.Common.{List, None, Some, ap, arith, drop, length, refl, slice_index, subst, sym, take, true, ℕ, ◌+◌, ◌<◌, ◌∙◌, ◌≡◌, ◌≤◌}
use Rattle.std.specs.Str.{encode_utf8_all}
use Rattle.commonmark_syntax.specs.Blocks.{has}
use Rattle.commonmark_syntax.specs.Cuts.{IsInLine}
use Rattle.commonmark_syntax.specs.ExtendedAutolinks.{path, trimmed}
use Rattle.commonmark_syntax.proofs.Cuts.{line_drop}
use Rattle.markdown_attention.specs.ExtendedAddresses.{address, domain, last_two_segments, segments}
use Rattle.markdown_attention.proofs.Barred.{TextFrom, kept, no_address, no_domain, text_from}
use Rattle.markdown_attention.proofs.Domains.{address_of, line_less}
use Rattle.markdown_attention.proofs.extended_autolink_address.scan.Goals as goal

pub returns-clause-exact : goal.returns-clause-exact
returns-clause-exact c = λ valid characters ok e.
    let b = c.args.in_bracket in
    let text = c.after-text.result.now in
    let n = c.domain_size-size.result in
    let r = c.scan.result in
    let whole : List ℕ = encode_utf8_all (segments characters) in
    let segs : take c.size-whole.result text ≡ whole = c.size-whole.ensures.exact characters ok (c.after-text.ensures.rest ∙ e) in
    let is : take n text ≡ domain b text whole = c.domain_size-size.ensures.exact ∙ ap (domain b text) segs in
    let w_most = c.size-whole.ensures.most in
    let n_most = c.domain_size-size.ensures.most in
    let rest = c.after.ensures.rest in
    let behind = ap (take r) (sym rest) ∙ c.scan.ensures.exact ∙ ap (λ x. trimmed (path b x)) rest in
    subst (λ t. address b t whole ≡ Some (take (n + r) t)) c.after-text.ensures.rest
    (address_of b text whole n r (omega (arith, w_most, n_most)) is c.in_default.ensures c.if-size-eq0.false behind)

pub returns-clause-in_line : goal.returns-clause-in_line
returns-clause-in_line c =
    let text = c.after-text.result.now in
    let n = c.domain_size-size.result in
    let r = c.scan.result in
    let first : IsInLine text n = line_less text c.size-whole.result n c.domain_size-size.ensures.most c.size-whole.ensures.in_line in
    let later : IsInLine (drop n text) r = subst (λ (x : List ℕ). IsInLine x r) c.after.ensures.rest c.scan.ensures.in_line in
    subst (λ (x : List ℕ). IsInLine x (n + r)) c.after-text.ensures.rest (line_drop text n r (n + r) refl first later)

pub returns-then-covers-clause-exact : goal.returns-then-covers-clause-exact
returns-then-covers-clause-exact c = λ valid characters ok e.
    let known = c.covers.ensures in
    let is = c.if-covers.true in
    subst (λ b. address b (drop c.args.at c.args.content.now) (encode_utf8_all (segments characters)) ≡ None) (known.bracket is) (c.requires.refused valid c.args.at characters (known.start is) (known.end is) ok e)

pub returns-in-Some-clause-exact : goal.returns-in-Some-clause-exact
returns-in-Some-clause-exact c = λ valid characters ok e.
    let b = c.args.in_bracket in
    let text = c.after-text.result.now in
    let n = c.domain_size-size.result in
    let whole : List ℕ = encode_utf8_all (segments characters) in
    let segs : take c.size-whole.result text ≡ whole = c.size-whole.ensures.exact characters ok (c.after-text.ensures.rest ∙ e) in
    let is : take n text ≡ domain b text whole = c.domain_size-size.ensures.exact ∙ ap (domain b text) segs in
    subst (λ t. address b t whole ≡ None) c.after-text.ensures.rest
    (no_address b text whole (no_domain (domain b text whole) (ap (λ (x : List ℕ). has 95 (last_two_segments x)) (sym is) ∙ c.in-Some.ensures.2)))

pub returns-in-Some-clause-refused : goal.returns-in-Some-clause-refused
returns-in-Some-clause-refused c = λ cut valid.
    let b = c.args.in_bracket in
    let text = c.after-text.result.now in
    let n = c.domain_size-size.result in
    let p = c.in-Some.place in
    let there = c.after-text.ensures.rest in
    let from : TextFrom c.args.content.now c.args.at = text_from c.args.content.now c.args.at valid c.requires.within cut in
    let characters = from.0 in
    let whole : List ℕ = encode_utf8_all (segments characters) in
    let segs : take c.size-whole.result text ≡ whole = c.size-whole.ensures.exact characters from.1 (there ∙ from.2) in
    let is : take n text ≡ domain b text whole = c.domain_size-size.ensures.exact ∙ ap (domain b text) segs in
    let w_most = c.size-whole.ensures.most in
    let n_most = c.domain_size-size.ensures.most in
    let most : n ≤ length text = omega (arith, w_most, n_most) in
    let found = c.in-Some.ensures in
    kept b c.args.content.now characters c.args.at n p from.1 from.2 (subst (λ (x : List ℕ). take n x ≡ domain b x whole) there is) (subst (λ (x : List ℕ). n ≤ length x) there most)
    (subst (λ (x : List ℕ). p < length (take n x)) there found.0) (subst (λ (x : List ℕ). slice_index (take n x) p ≡ 95) there found.1) (subst (λ (x : List ℕ). has 95 (last_two_segments (take n x)) ≡ true) there found.2)
