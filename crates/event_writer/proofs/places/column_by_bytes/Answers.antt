use Rattle.std.proofs.Common.{◌≡◌, ◌+◌, ℕ, arith, ◌∙◌, sym, ap, add-one, cond, nat_eq, get_or}
use Rattle.event_writer.specs.Places.{after_tab, column_at, line_at}
use Rattle.event_writer.proofs.Walks.{column-below, plain}
use Rattle.event_writer.proofs.places.column_by_bytes.Goals as goal

pub loop-index-init : goal.loop-index-init
loop-index-init c = let p = c.requires.place.column in record { column = omega (arith, p); line = c.requires.place.line }

pub column_after-requires : goal.column_after-requires
column_after-requires c = let b = column-below c.args.bytes.now c.loop-index.index (omega arith) c.requires.short in let i = c.loop-index.invariant.column in omega (arith, b, i)

pub loop-index-preserved : goal.loop-index-preserved
loop-index-preserved c =
    let e = plain c.args.bytes.now c.loop-index.index (omega arith) c.in_ok-column.ensures.no_feed c.in_ok-column.ensures.no_return in
    record {
      column = c.in_ok-column.ensures.value ∙ ap (λ (n : ℕ). cond (nat_eq (get_or c.args.bytes.now c.loop-index.index 0) 9) (after_tab n) (n + 1)) c.loop-index.invariant.column ∙ sym e.1 ∙ ap (column_at c.args.bytes.now) (sym (add-one c.loop-index.index));
      line = c.loop-index.invariant.line ∙ sym e.0 ∙ ap (line_at c.args.bytes.now) (sym (add-one c.loop-index.index));
    }

pub returns-clause-column : goal.returns-clause-column
returns-clause-column c = let is : c.loop-index.index ≡ c.args.to = omega arith in c.loop-index.invariant.column ∙ ap (column_at c.args.bytes.now) is

pub returns-clause-line : goal.returns-clause-line
returns-clause-line c = let is : c.loop-index.index ≡ c.args.to = omega arith in c.loop-index.invariant.line ∙ ap (line_at c.args.bytes.now) is

pub returns-clause-bound : goal.returns-clause-bound
returns-clause-bound c = let b = column-below c.args.bytes.now c.loop-index.index (omega arith) c.requires.short in let i = c.loop-index.invariant.column in omega (arith, b, i)
