use Rattle.std.proofs.Common.{◌≡◌, ◌-◌, ◌∙◌, List, ap, arith, drop, length, subst, sym, ℕ}
use Rattle.commonmark_syntax.specs.Cuts.{IsCut}
use Rattle.markdown_flow.proofs.Cuts.{after_spaces-drop, spaces_cut}
use Rattle.markdown_flow.proofs.Outputs.{whole_at_black}
use Rattle.markdown_flow.specs.Lines.{after_spaces}
use Rattle.markdown_flow.specs.Outputs.{rest_of}
use Rattle.markdown_flow.proofs.output.Output.white_space.Goals as goal

pub token-requires-clause-cut : goal.token-requires-clause-cut
token-requires-clause-cut c =
    let rest = rest_of c.args.self.now in
    let bytes = c.rest-rest.ensures.bytes in
    let all : length c.rest-rest.result.now ≡ length rest = ap (λ (xs : List ℕ). length xs) bytes in
    let left : length c.after_spaces.result.now ≡ length (after_spaces rest) = ap (λ (xs : List ℕ). length xs) (c.after_spaces.ensures.value ∙ ap after_spaces bytes) in
    let size : length rest - length (after_spaces rest) ≡ length c.rest-rest.result.now - length c.after_spaces.result.now = omega (arith, all, left) in
    subst (IsCut rest) size (spaces_cut rest)

pub returns-clause-rest : goal.returns-clause-rest
returns-clause-rest c =
    let rest = rest_of c.args.self.now in
    let bytes = c.rest-rest.ensures.bytes in
    let all : length c.rest-rest.result.now ≡ length rest = ap (λ (xs : List ℕ). length xs) bytes in
    let left : length c.after_spaces.result.now ≡ length (after_spaces rest) = ap (λ (xs : List ℕ). length xs) (c.after_spaces.ensures.value ∙ ap after_spaces bytes) in
    let size : length c.rest-rest.result.now - length c.after_spaces.result.now ≡ length rest - length (after_spaces rest) = omega (arith, all, left) in
    c.in_ok-token.ensures.rest ∙ ap (λ (n : ℕ). drop n rest) size ∙ sym (after_spaces-drop rest)

pub returns-clause-whole : goal.returns-clause-whole
returns-clause-whole c = whole_at_black c.token.new.self (rest_of c.args.self.now) c.in_ok-token.ensures.writes.place (returns-clause-rest c)
