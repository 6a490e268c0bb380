use Rattle.std.proofs.Common.{rules, subst}
use Rattle.markdown_events.specs.declared.message.Fault.{Fault}
use Rattle.markdown_grammar.specs.Correct.{FailsRightly}
use Rattle.mdast_programs.specs.Outcomes.{over}
use Rattle.mdast_programs.proofs.OutcomeLemmas.{refusal_said, tree_said}
use Rattle.mdast_programs.proofs.outcomes.outcome_of.Goals as goal

pub returns-in-Ok-compile : goal.returns-in-Ok-compile
returns-in-Ok-compile c = record {
  status = search rules;
  tree = λ zero.
      tree_said c.compiled.result c.in-Ok-compile.tree c.args.event_lines.now c.args.document.now c.in-Ok.table.now
      c.in-Ok-events.ensures.ok c.deref.ensures.value c.in-Ok.ensures.cases.0
      c.in-Ok-compile.ensures.found c.in-Ok-compile.ensures.ordered (c.compiled.ensures.tree zero);
  refused = search rules;
  unread = search rules;
  table = search rules;
  utf8 = search rules;
  text = c.compiled.ensures.text;
  only_refusals = λ other. c.compiled.ensures.refusal;
  only_lines = λ other unread. c.compiled.ensures.line;
}

pub returns-in-Err-Message : goal.returns-in-Err-Message
returns-in-Err-Message c = record {
  status = search rules;
  tree = search rules;
  refused = λ one.
      let Fails : Fault → Type 0 = λ fault. FailsRightly fault c.deref.result.now (over c.args.document.now c.in-Ok.table.now) in
      refusal_said c.refused.result c.in-Err-Message.message c.args.event_lines.now c.args.document.now c.in-Ok.table.now
      c.in-Ok-events.ensures.ok c.deref.ensures.value c.in-Ok.ensures.cases.0
      (subst Fails c.in-Err-Message.field-0-is c.in-Err-Message.ensures.refused)
      (rw c.in-Err-Message.message-is at c.refused.ensures.rule)
      (rw c.in-Err-Message.message-is at c.refused.ensures.reason)
      (rw c.in-Err-Message.message-is at c.refused.ensures.point);
  unread = search rules;
  table = search rules;
  utf8 = search rules;
  text = λ other. c.refused.ensures.text;
  only_refusals = search rules;
  only_lines = search rules;
}

pub returns-in-Err-Unread : goal.returns-in-Err-Unread
returns-in-Err-Unread c = record {
  status = search rules;
  tree = search rules;
  refused = search rules;
  unread = search rules;
  table = search rules;
  utf8 = search rules;
  text = search rules;
  only_refusals = search rules;
  only_lines = search rules;
}

pub returns : goal.returns
returns c = record {
  status = search rules;
  tree = search rules;
  refused = search rules;
  unread = search rules;
  table = search rules;
  utf8 = search rules;
  text = search rules;
  only_refusals = search rules;
  only_lines = search rules;
}
