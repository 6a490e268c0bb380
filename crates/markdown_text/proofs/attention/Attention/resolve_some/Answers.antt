use Rattle.std.proofs.Common.{subst, sym}
use Rattle.markdown_text.proofs.Switches.{front_on, resolved_on}
use Rattle.markdown_text.specs.Runs.{AreRunsOn}
use Rattle.markdown_text.proofs.attention.Attention.resolve_some.Goals as goal

pub returns-in_err-resolve-clause-on : goal.returns-in_err-resolve-clause-on
returns-in_err-resolve-clause-on c =
    λ cs on.
    let runs = subst (λ runs. AreRunsOn cs runs.items) (sym c.begin.ensures.runs) on.runs in
    record {
      runs = runs;
      delimiters = resolved_on cs c.args.from _ c.deref.result.now _ _ _ c.deref.ensures.value runs c.resolve.ensures.marked (c.begin.ensures.on cs on.delimiters);
    }

pub returns-clause-on : goal.returns-clause-on
returns-clause-on c =
    λ cs on.
    let runs = subst (λ runs. AreRunsOn cs runs.items) (sym c.begin.ensures.runs) on.runs in
    record {
      runs = subst (AreRunsOn cs) (sym c.truncate.ensures.items) (front_on cs c.args.from c.begin.new.self.runs.items runs);
      delimiters = resolved_on cs c.args.from _ c.deref.result.now _ _ _ c.deref.ensures.value runs c.resolve.ensures.marked (c.begin.ensures.on cs on.delimiters);
    }
