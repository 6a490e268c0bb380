use Rattle.std.proofs.Common.{subst, ◌≡◌, [], ◌++◌, ◌∷◌, string_bytes, encode_utf8_all, chars, ◌∙◌, ap, sym, map-id}
use Rattle.std.proofs.lemmas.List.{append-nil}
use Rattle.std.proofs.lemmas.Iterator.{YieldsList-from_chars}
use Rattle.std.proofs.lemmas.Iterator.Consumers.{YieldsList-end}
use Rattle.markdown_events.specs.TextWalks.{collapsed_part, blanks_after}
use Rattle.std.specs.Prelude.{IfOk}
use Rattle.markdown_events.proofs.Collapsing.{before_all, carried, collapse_walk, collapsed_word, collapses}
use Rattle.markdown_events.proofs.text.collapsed.Goals as goal

pub returns : goal.returns
returns c =
    let done = YieldsList-end (YieldsList-from_chars c.args.value.now c.utf8.value cc) c.loop-c.yielded _ c.loop-c.yielded_by _ _ c.in-None.is c.next.ensures.steps in
    sym (append-nil (string_bytes c.loop-c.text)) ∙ c.loop-c.invariant []
    ∙ ap (λ cs. encode_utf8_all (collapse_walk cs before_all)) (append-nil c.loop-c.yielded ∙ sym (map-id c.loop-c.yielded) ∙ done.0)
    ∙ ap encode_utf8_all (collapses (chars c.args.value.now))

pub loop-c-preserved : goal.loop-c-preserved
loop-c-preserved c = λ rest.
    let d = c.in-Some.c in
    let before = c.loop-c.blanks in
    ap (λ s. string_bytes c.push_collapsed.new.text ++ encode_utf8_all (collapse_walk rest s)) c.in_ok-blanks.ensures.state
    ∙ carried (λ x. collapse_walk x before_all) (string_bytes c.loop-c.text) (string_bytes c.push_collapsed.new.text) (collapsed_part before d) c.loop-c.yielded rest (collapse_walk rest (blanks_after before d)) d c.in_ok-blanks.ensures.bytes (c.loop-c.invariant (d ∷ rest))

pub returns-then-not-has_blank : goal.returns-then-not-has_blank
returns-then-not-has_blank c =
    let same = collapsed_word c.args.value.now c.if-is_ascii.ensures.cases (sym c.if-not-has_blank.ensures) in
    subst (λ bytes. IfOk c.from_str.result (λ text. string_bytes text ≡ bytes)) (sym same) c.from_str.ensures.ok
