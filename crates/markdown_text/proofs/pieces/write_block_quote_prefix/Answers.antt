use Rattle.std.proofs.Common.{List, ap, is_some, refl, subst, sym, ℕ, ◌+◌, ◌∙◌, ◌≡◌}
use Rattle.std.specs.Str.{IsCharBoundary}
use Rattle.event_writer.specs.Written.{Given}
use Rattle.markdown_events.specs.declared.event.Name.TheVariants.{BlockQuotePrefix}
use Rattle.markdown_events.specs.declared.event.Point.{Point}
use Rattle.markdown_pieces.specs.Walks.{inside}
use Rattle.markdown_text.proofs.Standings.{cut_is_boundary}
use Rattle.markdown_text.proofs.Steps.{at_some, transparent_exit}
use Rattle.markdown_text.specs.Standings.{IsAt}
use Rattle.markdown_text.proofs.pieces.write_block_quote_prefix.Goals as goal

pub token-requires-clause-cut : goal.token-requires-clause-cut
token-requires-clause-cut g c =
    let start = c.args.writer.now.cursor.index in
    let here : start + 1 ≡ c.cursor-marker_end.result.index + 1 = ap (λ (p : Point). p.index + 1) (sym c.in_ok-enter.ensures.cursor ∙ sym c.cursor-marker_end.ensures.here) in
    subst (λ (n : ℕ). IsCharBoundary c.enter.new.writer.given.bytes n) here (subst (λ (bs : List ℕ). IsCharBoundary bs (start + 1)) (sym (ap (λ (x : Given _). x.bytes) c.enter.ensures.given))
    (cut_is_boundary c.args.writer.now.given.bytes (start + 1) c.requires.at.at.valid c.requires.goes.marker.within c.requires.goes.marker_cut))

pub token-requires-clause-may : goal.token-requires-clause-may
token-requires-clause-may g c =
    let at = c.requires.at in
    record { stage = at.stage; outer = inside BlockQuotePrefix at.stage at.outer; at = c.in_ok-enter.ensures.at at.stage at.outer at.at; may = refl; value = tt }

pub write_space-requires-clause-cut : goal.write_space-requires-clause-cut
write_space-requires-clause-cut g c =
    subst (λ (bs : List ℕ). IsCharBoundary bs c.args.end) (sym (ap (λ (x : Given _). x.bytes) (c.token.ensures.given ∙ c.enter.ensures.given)))
    (cut_is_boundary c.args.writer.now.given.bytes c.args.end c.requires.at.at.valid c.requires.goes.reaches.within c.requires.goes.cut)

pub write_space-requires-clause-at : goal.write_space-requires-clause-at
write_space-requires-clause-at g c =
    let at = c.requires.at in
    let around = inside BlockQuotePrefix at.stage at.outer in
    record { stage = at.stage; outer = around; at = c.in_ok-token.ensures.at at.stage around (c.in_ok-enter.ensures.at at.stage at.outer at.at) }

pub exit-requires : goal.exit-requires
exit-requires g c =
    let at = c.requires.at in
    let around = inside BlockQuotePrefix at.stage at.outer in
    record { stage = at.stage; outer = around; at = c.in_ok-write_space.ensures.at at.stage around (c.in_ok-token.ensures.at at.stage around (c.in_ok-enter.ensures.at at.stage at.outer at.at)); may = ap is_some (transparent_exit at.stage) }

pub returns-clause-at : goal.returns-clause-at
returns-clause-at g c = λ a outer at.
    let around = inside BlockQuotePrefix a outer in
    at_some (λ b. IsAt c.exit.new.writer b outer) _ a (transparent_exit a) (c.in_ok-exit.ensures.at a a BlockQuotePrefix outer (c.in_ok-write_space.ensures.at a around (c.in_ok-token.ensures.at a around (c.in_ok-enter.ensures.at a outer at))))

pub returns-clause-within : goal.returns-clause-within
returns-clause-within g c = λ constructs h.
    c.in_ok-exit.ensures.within constructs (c.in_ok-write_space.ensures.within constructs (c.in_ok-token.ensures.within constructs (c.in_ok-enter.ensures.within constructs h refl) refl))

pub returns-clause-attention : goal.returns-clause-attention
returns-clause-attention g c =
    let at = c.requires.at in
    let around = inside BlockQuotePrefix at.stage at.outer in
    let ended = c.in_ok-write_space.ensures.at at.stage around (c.in_ok-token.ensures.at at.stage around (c.in_ok-enter.ensures.at at.stage at.outer at.at)) in
    c.in_ok-exit.ensures.others at.stage at.stage BlockQuotePrefix at.outer ended refl ∙ c.in_ok-write_space.ensures.attention ∙ c.in_ok-token.ensures.attention refl ∙ c.in_ok-enter.ensures.others refl
