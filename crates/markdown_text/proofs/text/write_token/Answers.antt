use Rattle.std.proofs.Common.{List, ap, false, refl, subst, sym}
use Rattle.markdown_text.proofs.AttentionWalk.{no_label, plain_token}
use Rattle.markdown_text.proofs.Steps.{on_ok}
use Rattle.markdown_text.specs.AttentionRuns.{is_delimiters}
use Rattle.markdown_text.specs.AttentionWaiting.{IsNoLabel}
use Rattle.markdown_text.specs.AttentionWalk.{HasWalked}
use Rattle.markdown_text.specs.Outputs.{as_text, references_of}
use Rattle.markdown_text.specs.declared.text.Open.{Open}
use Rattle.markdown_text.proofs.text.write_token.Goals as goal

pub returns-in-LineEnding-clause-walks : goal.returns-in-LineEnding-clause-walks
returns-in-LineEnding-clause-walks g c walk is holds label walked =
    let old = c.args.output.now in
    plain_token walk old c.line_ending.new.self c.line_ending.result c.args.«open».now.items (as_text old (g.R.References.text (references_of old)) false) c.args.token.now c.args.delimiters.now is holds (ap is_delimiters c.in-LineEnding.is) refl c.requires.start c.requires.token walked (on_ok c.line_ending.result (λ w. w.goes_on) c.line_ending.ensures.writes) c.line_ending.ensures.attention

pub returns-in-HardBreakEscape-clause-walks : goal.returns-in-HardBreakEscape-clause-walks
returns-in-HardBreakEscape-clause-walks g c walk is holds label walked =
    let old = c.args.output.now in
    plain_token walk old c.write.new.output c.write.result c.args.«open».now.items (as_text old (g.R.References.text (references_of old)) false) c.args.token.now c.args.delimiters.now is holds (ap is_delimiters c.in-HardBreakEscape.is) refl c.requires.start c.requires.token walked (on_ok c.write.result (λ w. w.goes_on) c.write.ensures.writes) c.write.ensures.attention

pub returns-in-CharacterEscape-clause-walks : goal.returns-in-CharacterEscape-clause-walks
returns-in-CharacterEscape-clause-walks g c walk is holds label walked =
    let old = c.args.output.now in
    plain_token walk old c.write-in-CharacterEscape.new.output c.write-in-CharacterEscape.result c.args.«open».now.items (as_text old (g.R.References.text (references_of old)) false) c.args.token.now c.args.delimiters.now is holds (ap is_delimiters c.in-CharacterEscape.is) refl c.requires.start c.requires.token walked (on_ok c.write-in-CharacterEscape.result (λ w. w.goes_on) c.write-in-CharacterEscape.ensures.writes) c.write-in-CharacterEscape.ensures.attention

pub returns-in-CharacterReference-clause-walks : goal.returns-in-CharacterReference-clause-walks
returns-in-CharacterReference-clause-walks g c walk is holds label walked =
    let old = c.args.output.now in
    plain_token walk old c.write-in-CharacterReference.new.output c.write-in-CharacterReference.result c.args.«open».now.items (as_text old (g.R.References.text (references_of old)) false) c.args.token.now c.args.delimiters.now is holds (ap is_delimiters c.in-CharacterReference.is) refl c.requires.start c.requires.token walked (on_ok c.write-in-CharacterReference.result (λ w. w.goes_on) c.write-in-CharacterReference.ensures.writes) c.write-in-CharacterReference.ensures.attention

pub returns-in-CodeText-clause-walks : goal.returns-in-CodeText-clause-walks
returns-in-CodeText-clause-walks g c walk is holds label walked =
    let old = c.args.output.now in
    plain_token walk old c.write-in-CodeText.new.output c.write-in-CodeText.result c.args.«open».now.items (as_text old (g.R.References.text (references_of old)) false) c.args.token.now c.args.delimiters.now is holds (ap is_delimiters c.in-CodeText.is) refl c.requires.start c.requires.token walked (on_ok c.write-in-CodeText.result (λ w. w.goes_on) c.write-in-CodeText.ensures.writes) c.write-in-CodeText.ensures.attention

pub returns-in-MathText-clause-walks : goal.returns-in-MathText-clause-walks
returns-in-MathText-clause-walks g c walk is holds label walked =
    let old = c.args.output.now in
    plain_token walk old c.write-in-MathText.new.output c.write-in-MathText.result c.args.«open».now.items (as_text old (g.R.References.text (references_of old)) false) c.args.token.now c.args.delimiters.now is holds (ap is_delimiters c.in-MathText.is) refl c.requires.start c.requires.token walked (on_ok c.write-in-MathText.result (λ w. w.goes_on) c.write-in-MathText.ensures.writes) c.write-in-MathText.ensures.attention

pub returns-in-Autolink-clause-walks : goal.returns-in-Autolink-clause-walks
returns-in-Autolink-clause-walks g c walk is holds label walked =
    let old = c.args.output.now in
    plain_token walk old c.write-in-Autolink.new.output c.write-in-Autolink.result c.args.«open».now.items (as_text old (g.R.References.text (references_of old)) false) c.args.token.now c.args.delimiters.now is holds (ap is_delimiters c.in-Autolink.is) refl c.requires.start c.requires.token walked (on_ok c.write-in-Autolink.result (λ w. w.goes_on) c.write-in-Autolink.ensures.writes) c.write-in-Autolink.ensures.attention

pub returns-in-HtmlText-clause-walks : goal.returns-in-HtmlText-clause-walks
returns-in-HtmlText-clause-walks g c walk is holds label walked =
    let old = c.args.output.now in
    plain_token walk old c.write-in-HtmlText.new.output c.write-in-HtmlText.result c.args.«open».now.items (as_text old (g.R.References.text (references_of old)) false) c.args.token.now c.args.delimiters.now is holds (ap is_delimiters c.in-HtmlText.is) refl c.requires.start c.requires.token walked (on_ok c.write-in-HtmlText.result (λ w. w.goes_on) c.write-in-HtmlText.ensures.writes) c.write-in-HtmlText.ensures.attention

pub returns-in-AutolinkLiteral-clause-walks : goal.returns-in-AutolinkLiteral-clause-walks
returns-in-AutolinkLiteral-clause-walks g c walk is holds label walked =
    let old = c.args.output.now in
    plain_token walk old c.write_autolink_literal.new.output c.write_autolink_literal.result c.args.«open».now.items (as_text old (g.R.References.text (references_of old)) false) c.args.token.now c.args.delimiters.now is holds (ap is_delimiters c.in-AutolinkLiteral.is) refl c.requires.start c.requires.token walked c.write_autolink_literal.ensures.goes_on c.write_autolink_literal.ensures.attention

pub returns-in-LabelStart-clause-walks : goal.returns-in-LabelStart-clause-walks
returns-in-LabelStart-clause-walks g c walk is holds label walked =
    let old = c.args.output.now in
    let new = c.write_label_start.new in
    let none = c.write_label_start.ensures.none (no_label c.in-LabelStart.labelled (subst IsNoLabel c.in-LabelStart.is label)) in
    on_ok c.write_label_start.result (subst (λ os. HasWalked walk new.output os c.args.token.now.end) (sym {A = List Open} none.1))
    (plain_token walk old new.output c.write_label_start.result c.args.«open».now.items (as_text old (g.R.References.text (references_of old)) false) c.args.token.now c.args.delimiters.now is holds (ap is_delimiters c.in-LabelStart.is) refl c.requires.start c.requires.token walked c.write_label_start.ensures.goes_on none.0)
