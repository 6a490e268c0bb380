use Rattle.std.proofs.Common.{◌≡◌, ◌++◌, List, ℕ, OnOk, ap, sym, subst, string_bytes, ◌∙◌}
use Rattle.std.specs.Str.{IsUtf8}
use Rattle.markdown_json.proofs.PointTexts.{inner, point-IsUtf8}
use Rattle.markdown_json.specs.Fields.{point}
use Rattle.markdown_json.proofs.positions.PointText.push.Goals as goal

pub text-requires-clause-text : goal.text-requires-clause-text
text-requires-clause-text c =
    let it = c.self.inside in
    subst IsUtf8 (sym (inner it.buffer it.first it.place c.self.told c.self.invariant.0 c.self.invariant.1)) (point-IsUtf8 it.place (subst IsUtf8 c.self.invariant.1 c.self.invariant.2))

pub returns : goal.returns
returns c =
    let it = c.self.inside in
    let is = c.text.ensures ∙ inner it.buffer it.first it.place c.self.told c.self.invariant.0 c.self.invariant.1 ∙ ap point c.self.view_is in
    subst (λ (t : List ℕ). OnOk c.push.result (string_bytes c.push.new.out ≡ string_bytes c.args.out.now ++ t)) is c.push.ensures
