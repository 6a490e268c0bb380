use Rattle.std.proofs.Common.{[], ◌++◌, ◌∷◌, codes, flat_map, ◌∙◌, ap, sym, map-id, append-nil, append_assoc, nat_cmp, rules, arith}
use Rattle.std.specs.BTreeSet.{contains}
use Rattle.std.proofs.lemmas.Grind.{flat_map-append, common_steps}
use Rattle.std.proofs.lemmas.Iterator.{YieldsList-from_chars}
use Rattle.std.proofs.lemmas.Iterator.Consumers.{YieldsList-end}
use Rattle.std.proofs.Output.{has_written_append, has_written_of_eq}
use Rattle.markdown_kinds.specs.Quoted.{escaped}
use Rattle.markdown_kinds.proofs.Quoting.{quoted_ascii, quoted_plain}
use Rattle.markdown_kinds.proofs.quoted.write_quoted.Goals as goal

pub returns-then-is_plain : goal.returns-then-is_plain
returns-then-is_plain g c = rw (quoted_plain (contains nat_cmp c.args.escapes.now) c.args.text.now (sym c.is_plain.ensures ∙ c.if-is_plain.true)) at c.write_plain.ensures

pub returns-then-is_ascii : goal.returns-then-is_ascii
returns-then-is_ascii g c = rw (quoted_ascii (contains nat_cmp c.args.escapes.now) c.args.text.now c.if-is_ascii.ensures.cases) at c.write.ensures.writes

pub loop-c-preserved : goal.loop-c-preserved
loop-c-preserved g c = λ plain.
    let set = contains nat_cmp c.args.escapes.now in
    let so_far = c.loop-c.invariant plain in
    has_written_of_eq _ _ _ _ _
    (append_assoc (codes "\"") (flat_map (escaped set) c.loop-c.yielded) (escaped set c.in-Some.c) ∙ ap (λ s. codes "\"" ++ s) (ap (λ s. flat_map (escaped set) c.loop-c.yielded ++ s) (sym (append-nil (escaped set c.in-Some.c))) ∙ sym (flat_map-append (escaped set) c.loop-c.yielded (c.in-Some.c ∷ []))))
    (has_written_append _ _ _ _ _ _ so_far (search rules))

pub returns : goal.returns
returns g c = λ plain ok.
    let done = YieldsList-end (YieldsList-from_chars c.args.text.now c.utf8.text cc) c.loop-c.yielded _ c.loop-c.yielded_by _ _ c.in-None.is c.next.ensures.steps in
    let set = contains nat_cmp c.args.escapes.now in
    let so_far = c.loop-c.invariant plain in
    has_written_of_eq _ _ _ _ _
    (append_assoc (codes "\"") (flat_map (escaped set) c.loop-c.yielded) (codes "\"") ∙ ap (λ cs. codes "\"" ++ flat_map (escaped set) cs ++ codes "\"") (sym (map-id c.loop-c.yielded) ∙ done.0))
    (has_written_append _ _ _ _ _ _ so_far (c.write_str-2.ensures.writes so_far.plain ok))
