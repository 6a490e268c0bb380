use Rattle.std.proofs.Common.{List, ap, refl, subst, sym, ℕ}
use Rattle.std.specs.Str.{IsCharBoundary}
use Rattle.event_writer.specs.Stages.{inlines}
use Rattle.event_writer.specs.Written.{Given}
use Rattle.markdown_text.proofs.Standings.{cut_is_boundary}
use Rattle.markdown_text.proofs.blank.write.Goals as goal

pub token-requires-clause-cut : goal.token-requires-clause-cut
token-requires-clause-cut g c =
    subst (λ (bs : List ℕ). IsCharBoundary bs c.args.to) (sym (ap (λ (x : Given _). x.bytes) c.write_to_last_column.ensures.given))
    (cut_is_boundary c.args.writer.now.given.bytes c.args.to c.requires.at.at.valid c.requires.reach.within c.requires.cut)

pub token-requires-clause-may : goal.token-requires-clause-may
token-requires-clause-may g c =
    let m = c.requires.at in
    record { stage = inlines m.in_heading; outer = m.outer; at = c.in_ok-write_to_last_column.ensures.at (inlines m.in_heading) m.outer m.at; may = refl; value = tt }

pub returns-clause-at : goal.returns-clause-at
returns-clause-at g c = λ h outer at. c.token.ensures.at (inlines h) outer (c.in_ok-write_to_last_column.ensures.at (inlines h) outer at)

pub returns-clause-within : goal.returns-clause-within
returns-clause-within g c = λ constructs h. c.token.ensures.within constructs (c.in_ok-write_to_last_column.ensures.within constructs h) refl
