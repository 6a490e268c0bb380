use Rattle.commonmark_syntax.proofs.Strings.{set_kept}
use Rattle.commonmark_syntax.proofs.code_span.LastStrings.keep.Goals as goal

pub returns : goal.returns
returns c = set_kept c.args.size c.args.end c.args.self.now.ends.items c.reach.new.self.ends.items c.if-size-eq0.false c.in_ok-reach.ensures.room c.in_ok-reach.ensures.same
