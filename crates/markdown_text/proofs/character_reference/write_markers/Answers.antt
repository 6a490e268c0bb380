use Rattle.std.proofs.Common.{OnOk, refl, subst, sym}
use Rattle.event_writer.specs.Stages.{character_reference, character_reference_value}
use Rattle.markdown_text.specs.Standings.{IsAt}
use Rattle.markdown_text.specs.Tokens.{marker}
use Rattle.markdown_text.specs.declared.character_reference.ReferenceKind.{ReferenceKind}
use Rattle.markdown_text.proofs.character_reference.write_markers.Goals as goal

pub token-requires-in-Decimal-clause-may : goal.token-requires-in-Decimal-clause-may
token-requires-in-Decimal-clause-may g c =
    let outer = c.requires.at.outer in
    record { stage = character_reference_value 38; outer = outer; at = c.in_ok-token.ensures.stage character_reference outer c.requires.at.at; may = refl }

pub token-requires-in-Hexadecimal-clause-may : goal.token-requires-in-Hexadecimal-clause-may
token-requires-in-Hexadecimal-clause-may g c =
    let outer = c.requires.at.outer in
    record { stage = character_reference_value 38; outer = outer; at = c.in_ok-token.ensures.stage character_reference outer c.requires.at.at; may = refl }

pub token-requires-in-Hexadecimal-2-clause-may : goal.token-requires-in-Hexadecimal-2-clause-may
token-requires-in-Hexadecimal-2-clause-may g c =
    let outer = c.requires.at.outer in
    let put = c.in_ok-token.ensures.stage character_reference outer c.requires.at.at in
    record { stage = character_reference_value 35; outer = outer; at = c.in_ok-token-in-Hexadecimal.ensures.stage (character_reference_value 38) outer put; may = refl }

pub returns-in-Named-clause-at : goal.returns-in-Named-clause-at
returns-in-Named-clause-at g c = λ outer at. subst (λ (k : ReferenceKind). IsAt c.token.new.self.writer.value (character_reference_value (marker k)) outer) (sym c.in-Named.is) (c.in_ok-token.ensures.stage character_reference outer at)

pub returns-in-Decimal-clause-at : goal.returns-in-Decimal-clause-at
returns-in-Decimal-clause-at g c = λ outer at.
    let put = c.in_ok-token.ensures.stage character_reference outer at in
    subst (λ (k : ReferenceKind). OnOk c.token-in-Decimal.result (IsAt c.token-in-Decimal.new.self.writer.value (character_reference_value (marker k)) outer)) (sym c.in-Decimal.is) (c.token-in-Decimal.ensures.stage (character_reference_value 38) outer put)

pub returns-in_ok-token-in-Hexadecimal-clause-at : goal.returns-in_ok-token-in-Hexadecimal-clause-at
returns-in_ok-token-in-Hexadecimal-clause-at g c = λ outer at.
    let put = c.in_ok-token.ensures.stage character_reference outer at in
    let put2 = c.in_ok-token-in-Hexadecimal.ensures.stage (character_reference_value 38) outer put in
    subst (λ (k : ReferenceKind). OnOk c.token-in-Hexadecimal-2.result (IsAt c.token-in-Hexadecimal-2.new.self.writer.value (character_reference_value (marker k)) outer)) (sym c.in-Hexadecimal.is) (c.token-in-Hexadecimal-2.ensures.stage (character_reference_value 35) outer put2)
