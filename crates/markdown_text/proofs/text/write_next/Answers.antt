use Rattle.std.proofs.Common.{ap, arith, length, refl, subst, sym, ◌∷◌}
use Rattle.std.proofs.lemmas.List.Elements.{All-head, All-rest}
use Rattle.event_writer.specs.Stages.{inlines}
use Rattle.markdown_text.proofs.AttentionWalk.{walked_data, walked_on}
use Rattle.markdown_text.proofs.Outputs.{goes_on_then, moved_at}
use Rattle.markdown_text.proofs.Switches.{later_on}
use Rattle.markdown_text.specs.AttentionEvents.{attention_events}
use Rattle.markdown_text.specs.AttentionWaiting.{IsNoLabel}
use Rattle.markdown_text.specs.AttentionWalk.{HasWalked, StandInTokens}
use Rattle.markdown_text.specs.Opens.{flag_of, outer_of}
use Rattle.markdown_text.specs.Outputs.{constructs_of}
use Rattle.markdown_text.specs.declared.token.Token.{Token}
use Rattle.markdown_text.proofs.text.write_next.Goals as goal

pub returns-clause-at : goal.returns-clause-at
returns-clause-at g c = λ in_heading around at.
    let os = c.args.«open».now.items in
    let h = flag_of os in_heading in
    let outer = outer_of os in_heading around in
    c.in_ok-write_empty_label.ensures.at h outer (moved_at c.args.output.now.writer.value c.data.new.self.writer.value (inlines h) outer c.data.ensures.writer at)

pub returns-clause-goes_on : goal.returns-clause-goes_on
returns-clause-goes_on g c = goes_on_then c.args.output.now c.data.new.self c.write_empty_label.new.output c.data.ensures.goes_on c.in_ok-write_empty_label.ensures.goes_on

pub returns-clause-on : goal.returns-clause-on
returns-clause-on g c = later_on (constructs_of c.args.output.now) c.args.later.now c.in-Some.last.now c.in-Some.end.now c.in-Some.ensures.cases.0 c.requires.later_on

pub returns-clause-walks : goal.returns-clause-walks
returns-clause-walks g c walk is walks =
    let none = All-head (λ (t : Token). IsNoLabel t.kind) c.args.token.now c.args.later.now walks.no_labels in
    absurd (subst IsNoLabel c.in-Some-empty_label.ensures.start none)

pub returns-2-clause-walks : goal.returns-2-clause-walks
returns-2-clause-walks g c walk is walks =
    let old = c.args.output.now in
    let mid = c.data.new.self in
    let new = c.write_token.new.output in
    let os = c.args.«open».now.items in
    let t = c.args.token.now in
    let before = c.requires.before in
    let within = before.within in
    let size = is.size in
    let long = ap length walks.walked.content in
    let here = walked_data walk old os old.«data» t.start before.order (omega (arith, within, size, long)) walks.stand.0 walks.walked in
    let moved = walked_on walk old mid os t.start c.data.ensures.goes_on (ap (λ w. attention_events w.events) c.data.ensures.writer) here in
    let none = All-head (λ (u : Token). IsNoLabel u.kind) t c.args.later.now walks.no_labels in
    let wrote = c.in_ok-write_token.ensures in
    let walked = wrote.walks walk is walks.stand.1 none (subst (HasWalked walk mid os) (sym c.data.ensures.data_end) moved) in
    record {
      walked = subst (HasWalked walk new c.write_token.new.«open».items) (sym wrote.data_end) walked;
      no_labels = All-rest (λ (u : Token). IsNoLabel u.kind) t c.args.later.now (t ∷ c.args.later.now) refl walks.no_labels;
      stand = subst (λ n. StandInTokens walk.delimiters n c.args.later.now) (sym wrote.data_end) walks.stand.2;
    }
