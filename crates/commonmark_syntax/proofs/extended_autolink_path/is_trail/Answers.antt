use Rattle.commonmark_syntax.proofs.TrailsAhead.{ahead_none, ahead_some}
use Rattle.commonmark_syntax.proofs.extended_autolink_path.is_trail.Goals as goal

pub returns-in-empty : goal.returns-in-empty
returns-in-empty c = ahead_none c.args.in_bracket c.args.text.now c.past_trail.result.now c.past_trail.ensures c.in-empty.len_below

pub returns-in-len1-up : goal.returns-in-len1-up
returns-in-len1-up c = ahead_some c.args.in_bracket c.args.text.now c.past_trail.result.now c.ends_path.result c.past_trail.ensures c.in-len1-up.len_at_least c.ends_path.ensures.exact
