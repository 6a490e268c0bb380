use Rattle.std.proofs.Common.{◌+◌}
use Rattle.commonmark_syntax.proofs.Searches.{most_of_rest}
use Rattle.commonmark_syntax.proofs.Strings.{ends_at, next_run, run_stops, searched_all, searched_on}
use Rattle.commonmark_syntax.proofs.code_span.length_through_string.Goals as goal

pub returns-then-run-size-clause-exact : goal.returns-then-run-size-clause-exact
returns-then-run-size-clause-exact c =
    let text = c.args.text.now in
    let start = c.loop-at.at + c.find_byte.result in
    let here = next_run c.args.mark text c.args.size c.loop-at.at c.find_byte.result c.run_length-run.result c.loop-at.invariant.searched c.requires c.loop-at-test.true c.find_byte.ensures.before c.find_byte.ensures.at c.run_length-run.ensures.run in
    ends_at c.args.mark text c.args.size (start + c.run_length-run.result) c.run_length-run.result here c.if-run-size.true (most_of_rest text start _ c.run_length-run.ensures.most (most_of_rest text c.loop-at.at _ c.find_byte.ensures.most c.loop-at.invariant.within))
    (run_stops c.args.mark text start c.run_length-run.result c.run_length-run.ensures.next)

pub loop-at-preserved : goal.loop-at-preserved
loop-at-preserved c =
    let text = c.args.text.now in
    let start = c.loop-at.at + c.find_byte.result in
    let here = next_run c.args.mark text c.args.size c.loop-at.at c.find_byte.result c.run_length-run.result c.loop-at.invariant.searched c.requires c.loop-at-test.true c.find_byte.ensures.before c.find_byte.ensures.at c.run_length-run.ensures.run in
    let fits = most_of_rest text start _ c.run_length-run.ensures.most (most_of_rest text c.loop-at.at _ c.find_byte.ensures.most c.loop-at.invariant.within) in record {
      within = fits;
      searched = searched_on c.args.mark text c.args.size (start + c.run_length-run.result) c.run_length-run.result here (run_stops c.args.mark text start c.run_length-run.result c.run_length-run.ensures.next) fits c.if-run-size.false c.requires;
    }

pub returns-clause-exact : goal.returns-clause-exact
returns-clause-exact c = searched_all _ _ _ _ c.loop-at.invariant.searched c.loop-at-test.false c.requires
