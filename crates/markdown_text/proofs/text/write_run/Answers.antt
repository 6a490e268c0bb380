use Rattle.std.proofs.Common.{List, ap, arith, get_or, rules, subst, sym, ℕ, ◌+◌, ◌-◌, ◌∙◌, ◌≡◌, ◌≤◌}
use Rattle.markdown_attention.specs.Emphasis.{kind_size}
use Rattle.markdown_attention.specs.Sequences.{IsSequence}
use Rattle.markdown_attention.specs.declared.delimiter.AttentionKind.{AttentionKind}
use Rattle.markdown_attention.specs.declared.delimiter.Delimiter.TheVariants.{Data}
use Rattle.event_writer.specs.Stages.{inlines}
use Rattle.event_writer.specs.Written.{Written}
use Rattle.markdown_text.proofs.AttentionWalk.{walked_on}
use Rattle.markdown_text.proofs.Outputs.{goes_on_then, moved_at}
use Rattle.markdown_text.proofs.Ranges.{ascii_of}
use Rattle.markdown_text.specs.AttentionEvents.{attention_events}
use Rattle.markdown_text.specs.AttentionWalk.{HasWalked}
use Rattle.markdown_text.specs.Contents.{IsAsciiPart}
use Rattle.markdown_text.specs.Opens.{flag_of, outer_of}
use Rattle.markdown_text.specs.Outputs.{bytes_of}
use Rattle.markdown_text.proofs.text.write_run.Goals as goal

pub markers-preserved : goal.markers-preserved
markers-preserved g c =
    let i = c.markers.invariant in
    let wrote = c.in_ok-size.ensures in
    let o = c.write_delimiter.new.output in
    record {
      given = ap (λ (w : Written _). w.given) c.data.ensures.writer ∙ c.write_delimiter.ensures.given ∙ i.given;
      goes_on = goes_on_then c.args.output.now o c.data.new.self (goes_on_then c.args.output.now c.markers.output o i.goes_on wrote.goes_on) c.data.ensures.goes_on;
      at = c.data.ensures.data_end;
      ascii = subst (λ (bs : List ℕ). IsAsciiPart bs (c.markers.at + c.in_ok-size.size) c.args.token.now.end) (sym (c.data.ensures.goes_on.bytes ∙ wrote.goes_on.bytes))
          (ascii_of (bytes_of c.markers.output) c.markers.at c.args.token.now.end (c.markers.at + c.in_ok-size.size) c.args.token.now.end i.ascii (omega arith) (omega (arith, wrote.most, c.markers-test.true)) (omega arith));
      least = omega (arith, i.least);
      walks = λ walk is fits walked.
          let mid = c.markers.output in
          let now = c.markers.at in
          let os = c.write_delimiter.new.«open».items in
          let size = c.in_ok-size.size in
          let value : c.unwrap_or-delimiter.result ≡ get_or c.args.delimiters.now now Data = search rules in
          let begins = value ∙ is.same now in
          let fitting : (kind : AttentionKind) → IsSequence c.unwrap_or-delimiter.result kind → kind_size kind ≤ c.args.token.now.end - now = λ kind sequence. (let fit = fits now kind i.least c.markers-test.true (subst (λ d. IsSequence d kind) begins sequence) in omega (arith, fit)) in
          let there = wrote.walks walk is.apart is.size (begins ∙ ap (λ n. get_or walk.delimiters n Data) (sym i.at)) fitting (subst (HasWalked walk mid c.markers.«open».items) (sym i.at) (i.walks walk is fits walked)) in
          subst (HasWalked walk c.data.new.self os) (ap (λ n. n + size) i.at) (walked_on walk o c.data.new.self os (mid.«data» + size) c.data.ensures.goes_on (ap (λ w. attention_events w.events) c.data.ensures.writer) there);
      stage = λ in_heading around at.
          let os = c.write_delimiter.new.«open».items in
          moved_at o.writer.value c.data.new.self.writer.value (inlines (flag_of os in_heading)) (outer_of os in_heading around) c.data.ensures.writer (wrote.at in_heading around (i.stage in_heading around at));
    }
