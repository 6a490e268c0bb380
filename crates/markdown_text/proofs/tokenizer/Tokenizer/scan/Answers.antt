use Rattle.std.proofs.Common.{ap, false, rules, subst, sym, ◌+◌}
use Rattle.std.proofs.lemmas.Result.{IfOk-weaker}
use Rattle.markdown_text.proofs.AttentionRuns.{wait_label, wait_other}
use Rattle.markdown_text.proofs.Reached.{open_kept, open_with}
use Rattle.markdown_text.proofs.Steps.{both_on_ok}
use Rattle.markdown_text.specs.AttentionWaiting.{Wait}
use Rattle.markdown_text.specs.Reached.{AreOpen, AreOpenWith}
use Rattle.markdown_text.specs.Texts.{bare, text_of}
use Rattle.markdown_text.specs.Tokens.{IsFound}
use Rattle.markdown_text.specs.declared.token.Found.{Found}
use Rattle.markdown_text.proofs.tokenizer.Tokenizer.scan.Goals as goal

pub returns-in-93-clause-opened : goal.returns-in-93-clause-opened
returns-in-93-clause-opened g c =
    let at = c.args.cursor.at in
    let ts = c.label_end.new.self.tokens.items in
    let bs = c.label_end.new.self.brackets.stack.items in
    IfOk-weaker c.label_end.result (λ (found : Found). AreOpen ts bs) (λ (found : Found). AreOpenWith ts at found bs) (λ found opened us with. open_with ts us found.kind at (at + found.size) bs with opened) c.label_end.ensures.opened

pub returns-in_default-clause-opened : goal.returns-in_default-clause-opened
returns-in_default-clause-opened g c =
    let cursor = c.args.cursor in
    let self = c.args.self.now in
    let new = c.construct.new.self in
    let text = text_of cursor.content.now (g.R.References.text self.source.now.reading.now.references.now) false in
    IfOk-weaker c.construct.result (λ (found : Found). IsFound text found.kind cursor.at (cursor.at + found.size)) (λ (found : Found). AreOpenWith new.tokens.items cursor.at found new.brackets.stack.items)
    (λ found says. open_kept new.tokens.items self.tokens.items new.brackets.stack.items self.brackets.stack.items cursor.at found (ap (λ tokens. tokens.items) c.construct.ensures.tokens) (ap (λ brackets. brackets.stack.items) c.construct.ensures.brackets) c.requires.opened)
    c.construct.ensures.found

pub returns-in-42-clause-opened : goal.returns-in-42-clause-opened
returns-in-42-clause-opened g c =
    let cursor = c.args.cursor in
    let self = c.args.self.now in
    let new = c.attention.new.self in
    IfOk-weaker c.attention.result (λ (found : Found). IsFound (bare cursor.content.now) found.kind cursor.at (cursor.at + found.size)) (λ (found : Found). AreOpenWith new.tokens.items cursor.at found new.brackets.stack.items)
    (λ found says. open_kept new.tokens.items self.tokens.items new.brackets.stack.items self.brackets.stack.items cursor.at found (ap (λ tokens. tokens.items) c.attention.ensures.tokens) (ap (λ brackets. brackets.stack.items) c.attention.ensures.brackets) c.requires.opened)
    c.attention.ensures.found

pub returns-in-33-clause-wait : goal.returns-in-33-clause-wait
returns-in-33-clause-wait g c =
    let cursor = c.args.cursor in
    let self = c.args.self.now in
    let options = self.source.now.reading.now.options in
    let new = c.label_start.new.self in
    let wait = subst (λ tokens. Wait options cursor.content.now tokens.items cursor.at self.attention) (sym c.label_start.ensures.tokens) c.requires.wait in
    both_on_ok c.label_start.result (λ found says later. wait_label options cursor.content.now new.tokens.items cursor.at found self.attention new.attention wait c.label_start.ensures.attention says (λ marker. search rules) later) c.label_start.ensures.kind c.label_start.ensures.later

pub returns-in_default-clause-wait : goal.returns-in_default-clause-wait
returns-in_default-clause-wait g c =
    let cursor = c.args.cursor in
    let self = c.args.self.now in
    let options = self.source.now.reading.now.options in
    let new = c.construct.new.self in
    let text = text_of cursor.content.now (g.R.References.text self.source.now.reading.now.references.now) false in
    let wait = subst (λ tokens. Wait options cursor.content.now tokens.items cursor.at self.attention) (sym c.construct.ensures.tokens) c.requires.wait in
    both_on_ok c.construct.result (λ found says later. wait_other options text new.tokens.items cursor.at found self.attention new.attention wait c.construct.ensures.attention says (λ marker. search rules) (λ label. search rules) later) c.construct.ensures.found c.construct.ensures.later
