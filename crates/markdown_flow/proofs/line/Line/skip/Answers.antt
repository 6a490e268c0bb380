use Rattle.std.proofs.Common.{arith, ap, drop, length, subst, sym, ◌∙◌, ◌-◌, ℕ}
use Rattle.std.proofs.lemmas.List.{drop_min}
use Rattle.markdown_flow.specs.Lines.{HasColumns}
use Rattle.markdown_flow.proofs.Cuts.{skipped_cut}
use Rattle.markdown_flow.proofs.Cursors.{bytes-over, columns-below, order-on, stands}
use Rattle.markdown_flow.proofs.line.Line.skip.Goals as goal

pub columns_after-self-requires : goal.columns_after-self-requires
columns_after-self-requires c =
    let line = c.skip_white_space.new.self in
    let b = columns-below line line.rest.now line.virtual_spaces line.columns (stands line) in
    let n = c.split_at.ensures.front_len in
    omega arith

pub indent_of-self-requires : goal.indent_of-self-requires
indent_of-self-requires c =
    let line = c.skip_white_space.new.self in
    let at = bytes-over line c.split_at.result.0.now c.split_at.result.1.now c.split_at.ensures.by_index.0 c.skip_white_space.ensures.whole in
    let b = columns-below line c.split_at.result.1.now 0 _ at in
    let e = c.columns_after-self.ensures in
    omega arith

pub invariant_of-self : goal.invariant_of-self
invariant_of-self c =
    let line = c.skip_white_space.new.self in
    let at = bytes-over line c.split_at.result.0.now c.split_at.result.1.now c.split_at.ensures.by_index.0 c.skip_white_space.ensures.whole in
    let place : HasColumns line.source.document.now (line.end - length c.split_at.result.1.now) 0 c.columns_after-self.result = subst (λ (n : ℕ). HasColumns line.source.document.now (line.end - length c.split_at.result.1.now) 0 n) (sym c.columns_after-self.ensures) at.place in
    record {
      whole = line.whole;
      later = line.later;
      rest_fits = at.fits;
      rest_stands = at.before;
      text_rests = c.after_spaces-self.ensures.value;
      has_columns = subst (λ (n : ℕ). HasColumns line.source.document.now (line.end - length c.split_at.result.1.now) n c.columns_after-self.result) (sym c.skip_white_space.ensures.whole) place;
      has_indent = c.indent_of-self.ensures;
      tail_exact = line.tail_exact;
    }

pub returns-clause-moved : goal.returns-clause-moved
returns-clause-moved c =
    let moved = c.skip_white_space.ensures.moved in
    let line = c.skip_white_space.new.self in
    let n = c.split_at.ensures.back_len in
    record {
      source = moved.source;
      start = moved.start;
      end = moved.end;
      next = moved.next;
      order = order-on (length c.args.self.now.rest.now) (length line.rest.now) (length c.split_at.result.1.now) c.args.self.now.virtual_spaces line.virtual_spaces moved.order (omega arith);
    }

pub returns-clause-rest : goal.returns-clause-rest
returns-clause-rest c =
    c.split_at.ensures.back ∙ ap (λ (n : ℕ). drop n c.skip_white_space.new.self.rest.now) c.min.ensures ∙ drop_min c.args.size c.skip_white_space.new.self.rest.now
    ∙ ap (drop c.args.size) c.skip_white_space.ensures.rest

pub returns-clause-cut : goal.returns-clause-cut
returns-clause-cut c = λ cut. skipped_cut c.args.self.now _ c.args.size (returns-clause-moved c) (returns-clause-rest c) cut
