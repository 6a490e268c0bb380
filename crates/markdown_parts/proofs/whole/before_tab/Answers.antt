use Rattle.std.proofs.Common.{Bool, None, cond, ap, sym, ◌∙◌, lit<}
use Rattle.std.proofs.lemmas.Bool.{lt-ltb}
use Rattle.std.proofs.lemmas.Str.Pattern.{strip_suffix_char}
use Rattle.markdown_events.specs.TextWalks.{before_last}
use Rattle.markdown_events.proofs.Cuts.{before_last_is}
use Rattle.markdown_parts.proofs.whole.before_tab.Goals as goal

pub returns-then-end-gt0 : goal.returns-then-end-gt0
returns-then-end-gt0 c =
    before_last_is _ _ _ (strip_suffix_char 9 c.args.text.now _ c.strip_suffix.ensures.cases (lit< tt))
    ∙ sym (ap (λ (t : Bool). cond t (before_last 9 c.args.text.now) None) (lt-ltb 0 c.args.end.vs c.if-end-gt0.true))
