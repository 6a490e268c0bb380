use Rattle.std.proofs.Common.{[], ◌++◌, ◌∷◌, codes, flat_map, ◌∙◌, ap, sym, map-id, append-nil, append_assoc, rules}
use Rattle.std.proofs.lemmas.Grind.{flat_map-append}
use Rattle.std.proofs.lemmas.Iterator.{YieldsList-from_chars}
use Rattle.std.proofs.lemmas.Iterator.Consumers.{YieldsList-end}
use Rattle.std.proofs.Output.{has_written_append, has_written_of_eq}
use Rattle.mdast_check.specs.WarningLines.{on_line}
use Rattle.mdast_check.proofs.warnings.printing.write_named.Goals as goal

pub loop-c-preserved : goal.loop-c-preserved
loop-c-preserved g c = λ plain.
    let so_far = c.loop-c.invariant plain in
    has_written_of_eq _ _ _ _ _
    (append_assoc (codes "\"") (flat_map on_line c.loop-c.yielded) (on_line c.in-Some.c) ∙ ap (λ s. codes "\"" ++ s) (ap (λ s. flat_map on_line c.loop-c.yielded ++ s) (sym (append-nil (on_line c.in-Some.c))) ∙ sym (flat_map-append on_line c.loop-c.yielded (c.in-Some.c ∷ []))))
    (has_written_append _ _ _ _ _ _ so_far (search rules))

pub returns : goal.returns
returns g c = λ plain ok.
    let done = YieldsList-end (YieldsList-from_chars c.args.identifier.now c.utf8.identifier cc) c.loop-c.yielded _ c.loop-c.yielded_by _ _ c.in-None.is c.next.ensures.steps in
    let so_far = c.loop-c.invariant plain in
    has_written_of_eq _ _ _ _ _
    (append_assoc (codes "\"") (flat_map on_line c.loop-c.yielded) (codes "\"") ∙ ap (λ cs. codes "\"" ++ flat_map on_line cs ++ codes "\"") (sym (map-id c.loop-c.yielded) ∙ done.0))
    (has_written_append _ _ _ _ _ _ so_far (c.write_str-2.ensures.writes so_far.plain ok))
