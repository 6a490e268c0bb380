use Rattle.std.proofs.Common.{ap, arith, false, refl, ◌∙◌}
use Rattle.event_writer.specs.Stages.{inlines, task}
use Rattle.markdown_events.specs.declared.event.Name.TheVariants.{GfmTaskListItemCheck}
use Rattle.markdown_pieces.specs.Walks.{inside}
use Rattle.markdown_text.proofs.Constructs.{part_as}
use Rattle.markdown_text.proofs.Outputs.{goes_on_then, moved_at}
use Rattle.markdown_text.specs.AttentionEvents.{attention_events}
use Rattle.markdown_text.specs.Outputs.{bytes_of}
use Rattle.markdown_text.proofs.gfm_task_list_item_check.write.Goals as goal

pub token-requires-clause-may : goal.token-requires-clause-may
token-requires-clause-may g c =
    let outer = c.requires.at.outer in
    let inner = inside GfmTaskListItemCheck task outer in
    let begun = c.in_ok-enter.ensures.stage task outer c.requires.at.at in
    record { stage = task; outer = inner; at = begun; may = refl }

pub write_value-requires-clause-at : goal.write_value-requires-clause-at
write_value-requires-clause-at g c =
    let outer = c.requires.at.outer in
    let inner = inside GfmTaskListItemCheck task outer in
    let begun = c.in_ok-enter.ensures.stage task outer c.requires.at.at in
    let put = c.in_ok-token.ensures.stage task inner begun in
    record { outer = inner; at = put }

pub token-requires-2-clause-may : goal.token-requires-2-clause-may
token-requires-2-clause-may g c =
    let outer = c.requires.at.outer in
    let inner = inside GfmTaskListItemCheck task outer in
    let begun = c.in_ok-enter.ensures.stage task outer c.requires.at.at in
    let put = c.in_ok-token.ensures.stage task inner begun in
    let valued = c.in_ok-write_value.ensures.at inner put in
    record { stage = inlines false; outer = inner; at = valued; may = refl }

pub exit-requires-clause-may : goal.exit-requires-clause-may
exit-requires-clause-may g c =
    let outer = c.requires.at.outer in
    let inner = inside GfmTaskListItemCheck task outer in
    let begun = c.in_ok-enter.ensures.stage task outer c.requires.at.at in
    let put = c.in_ok-token.ensures.stage task inner begun in
    let valued = c.in_ok-write_value.ensures.at inner put in
    let put2 = c.in_ok-token-2.ensures.stage (inlines false) inner valued in
    record { stage = inlines false; outer = inner; at = put2; may = refl }

pub returns-clause-at : goal.returns-clause-at
returns-clause-at g c = λ outer at.
    let inner = inside GfmTaskListItemCheck task outer in
    let begun = c.in_ok-enter.ensures.stage task outer at in
    let put = c.in_ok-token.ensures.stage task inner begun in
    let valued = c.in_ok-write_value.ensures.at inner put in
    let put2 = c.in_ok-token-2.ensures.stage (inlines false) inner valued in
    moved_at c.exit.new.self.writer.value c.begin_task.new.self.writer.value (inlines false) outer c.begin_task.ensures.writer (c.in_ok-exit.ensures.stage (inlines false) task GfmTaskListItemCheck outer put2)

pub token-requires-2-clause-part : goal.token-requires-2-clause-part
token-requires-2-clause-part g c =
    let start = c.requires.start in
    let en = c.in_ok-enter.ensures.writes in
    let to = c.in_ok-token.ensures.writes in
    let wv = c.in_ok-write_value.ensures.writes in
    part_as (bytes_of c.args.output.now) (bytes_of c.write_value.new.output) 2 3 _ _ c.requires.enclosed.closing (wv.goes_on.bytes ∙ to.goes_on.bytes ∙ en.goes_on.bytes) (omega (arith, start, en.at, to.at, wv.at)) (omega (arith, start, en.at, to.at, wv.at))

pub returns-clause-attention : goal.returns-clause-attention
returns-clause-attention g c =
    let outer = c.requires.at.outer in
    let inner = inside GfmTaskListItemCheck task outer in
    let begun = c.in_ok-enter.ensures.stage task outer c.requires.at.at in
    let put = c.in_ok-token.ensures.stage task inner begun in
    let valued = c.in_ok-write_value.ensures.at inner put in
    let put2 = c.in_ok-token-2.ensures.stage (inlines false) inner valued in
    let before = c.in_ok-token-2.ensures.attention refl ∙ c.in_ok-write_value.ensures.attention ∙ c.in_ok-token.ensures.attention refl ∙ c.in_ok-enter.ensures.others refl in
    ap (λ w. attention_events w.events) c.begin_task.ensures.writer ∙ c.in_ok-exit.ensures.others (inlines false) task GfmTaskListItemCheck outer put2 refl ∙ before

pub returns-clause-writes : goal.returns-clause-writes
returns-clause-writes g c =
    let o = c.args.output.now in
    let b = c.begin_task.ensures in
    let e = c.in_ok-exit.ensures.writes in
    let p = c.in_ok-token-2.ensures.writes in
    let v = c.in_ok-write_value.ensures.writes in
    let t = c.in_ok-token.ensures.writes in
    let n = c.in_ok-enter.ensures.writes in
    let start = c.requires.start in
    let goes = goes_on_then o c.exit.new.self c.begin_task.new.self (goes_on_then o c.token-2.new.self c.exit.new.self (goes_on_then o c.write_value.new.output c.token-2.new.self (goes_on_then o c.token.new.self c.write_value.new.output (goes_on_then o c.enter.new.self c.token.new.self n.goes_on t.goes_on) v.goes_on) p.goes_on) e.goes_on) b.goes_on in
    record {
      goes_on = goes;
      at = omega (arith, b.at, e.at, p.at, v.at, t.at, n.at, start);
      data_end = omega (arith, b.data_end, e.data_end, p.at, v.at, t.at, n.at, start);
    }
