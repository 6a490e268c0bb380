use Rattle.std.proofs.Common.{List, Some, ap, arith, drop, lit<, refl, slice_index, subst, sym, ℕ, ◌+◌, ◌-◌, ◌∙◌, ◌≡◌}
use Rattle.std.proofs.lemmas.List.{drop-drop}
use Rattle.commonmark_syntax.specs.Cuts.{IsCut}
use Rattle.commonmark_syntax.specs.Definitions as page
use Rattle.commonmark_syntax.specs.Reading.{read}
use Rattle.commonmark_syntax.proofs.Cuts.{cut_drop, cut_later}
use Rattle.commonmark_syntax.proofs.Definitions.{bare_leaves, cut_after_byte, cut_at_byte, destination_none, end_none, first_at, line_there, start_at, start_fails, titled_leaves, unlabeled}
use Rattle.commonmark_syntax.proofs.Fronts.{AreBytes, bytes_of}
use Rattle.commonmark_syntax.proofs.Resources.{byte_read, bytes_dropped, no_match}
use Rattle.markdown_flow.proofs.definition.scan.Goals.{in-Some+in_ok-end-in-Some, in-None+in_ok-end-in-None}
use Rattle.markdown_flow.proofs.definition.scan.Goals as goal

pub returns-in_err-size-clause-exact : goal.returns-in_err-size-clause-exact
returns-in_err-size-clause-exact c =
    let s = c.after.result.now in
    let bytes : AreBytes s = subst AreBytes (sym c.after.ensures.rest) (bytes_dropped c.args.start c.args.text.now (bytes_of _ (λ i. omega (arith, c.type_inv.text i)))) in
    no_match _ _ _ c.from_residual.ensures (subst page.IsNoDefinition c.after.ensures.rest (unlabeled s bytes c.in_err-size.ensures.exact))

pub returns-in_err-rest-clause-exact : goal.returns-in_err-rest-clause-exact
returns-in_err-rest-clause-exact c =
    let text = c.args.text.now in
    let s = c.after.result.now in
    let label = c.marked-label.result in
    let bytes : AreBytes s = subst AreBytes (sym c.after.ensures.rest) (bytes_dropped c.args.start text (bytes_of _ (λ i. omega (arith, c.type_inv.text i)))) in
    no_match _ _ _ c.from_residual-in_err-rest.ensures (subst page.IsNoDefinition c.after.ensures.rest
    (start_fails text s c.after-2.result.now c.args.start c.in_ok-size.size label.end bytes c.after.ensures.rest c.marked-label.ensures.end c.in_ok-size.ensures.exact c.after-2.ensures.rest c.in_err-rest.ensures))

pub returns-in_err-destination-clause-exact : goal.returns-in_err-destination-clause-exact
returns-in_err-destination-clause-exact c =
    let text = c.args.text.now in
    let s = c.after.result.now in
    let l = c.after-2.result.now in
    let m = c.in_ok-rest.rest.now in
    let label = c.marked-label.result in
    let space = c.white_space_length-space.result in
    let a : List ℕ = drop (label.end + 1 + space) text in
    let bytes : AreBytes s = subst AreBytes (sym c.after.ensures.rest) (bytes_dropped c.args.start text (bytes_of _ (λ i. omega (arith, c.type_inv.text i)))) in
    let start : read page.definition_start s ≡ Some a = start_at text s l m c.args.start c.in_ok-size.size label.end space bytes c.after.ensures.rest c.marked-label.ensures.end c.in_ok-size.ensures.exact c.after-2.ensures.rest c.in_ok-rest.ensures c.white_space_length-space.ensures.exact in
    no_match _ _ _ c.from_residual-in_err-destination.ensures (subst page.IsNoDefinition c.after.ensures.rest (destination_none s a bytes start c.in_err-destination.ensures.exact))

pub returns-in_err-end-in-Some-clause-exact : goal.returns-in_err-end-in-Some-clause-exact
returns-in_err-end-in-Some-clause-exact c =
    let rest : List ℕ = drop c.in-Some.title.end c.args.text.now in
    let bytes : AreBytes rest = bytes_dropped c.in-Some.title.end c.args.text.now (bytes_of _ (λ i. omega (arith, c.type_inv.text i))) in
    absurd (line_there rest bytes c.in-Some.ensures.closed c.in_err-end-in-Some.ensures.exact)

pub returns-in_err-end-in-None-clause-exact : goal.returns-in_err-end-in-None-clause-exact
returns-in_err-end-in-None-clause-exact c =
    let text = c.args.text.now in
    let s = c.after.result.now in
    let l = c.after-2.result.now in
    let m = c.in_ok-rest.rest.now in
    let label = c.marked-label.result in
    let space = c.white_space_length-space.result in
    let a : List ℕ = drop (label.end + 1 + space) text in
    let b : List ℕ = drop c.in_ok-destination.destination.end text in
    let whole : AreBytes text = bytes_of _ (λ i. omega (arith, c.type_inv.text i)) in
    let bytes : AreBytes s = subst AreBytes (sym c.after.ensures.rest) (bytes_dropped c.args.start text whole) in
    let tail : AreBytes b = bytes_dropped c.in_ok-destination.destination.end text whole in
    let start : read page.definition_start s ≡ Some a = start_at text s l m c.args.start c.in_ok-size.size label.end space bytes c.after.ensures.rest c.marked-label.ensures.end c.in_ok-size.ensures.exact c.after-2.ensures.rest c.in_ok-rest.ensures c.white_space_length-space.ensures.exact in
    no_match _ _ _ c.from_residual-in_err-end-in-None.ensures (subst page.IsNoDefinition c.after.ensures.rest
    (end_none s a b bytes tail start c.in_ok-destination.ensures.exact c.in-None.ensures.exact c.in_err-end-in-None.ensures.exact))

pub returns-clause-exact : goal.returns-clause-exact
returns-clause-exact c =
    let text = c.args.text.now in
    let s = c.after.result.now in
    let l = c.after-2.result.now in
    let m = c.in_ok-rest.rest.now in
    let label = c.marked-label.result in
    let space = c.white_space_length-space.result in
    let a : List ℕ = drop (label.end + 1 + space) text in
    let b : List ℕ = drop c.in_ok-destination.destination.end text in
    let t : List ℕ = drop (c.match-title.end + 1) text in
    let whole : AreBytes text = bytes_of _ (λ i. omega (arith, c.type_inv.text i)) in
    let bytes : AreBytes s = subst AreBytes (sym c.after.ensures.rest) (bytes_dropped c.args.start text whole) in
    let tail : AreBytes b = bytes_dropped c.in_ok-destination.destination.end text whole in
    let start : read page.definition_start s ≡ Some a = start_at text s l m c.args.start c.in_ok-size.size label.end space bytes c.after.ensures.rest c.marked-label.ensures.end c.in_ok-size.ensures.exact c.after-2.ensures.rest c.in_ok-rest.ensures c.white_space_length-space.ensures.exact in
    subst (λ x. page.LeavesDefinition x t) c.after.ensures.rest (elim c.match-title.branch [
      | in-Some+in_ok-end-in-Some w ↦ titled_leaves s a b t bytes tail start c.in_ok-destination.ensures.exact (w.in-Some.ensures.exact ∙ w.in_ok-end-in-Some.ensures.exact ∙ ap (λ n. Some (drop (n + 1) text)) (sym w.end-is))
      | in-None+in_ok-end-in-None w ↦ bare_leaves s a b t bytes tail start c.in_ok-destination.ensures.exact w.in-None.ensures.exact (w.in_ok-end-in-None.ensures.exact ∙ ap (λ n. Some (drop (n + 1) text)) (sym w.end-is))
    ])

pub scan_destination-requires : goal.scan_destination-requires
scan_destination-requires c =
    let text = c.args.text.now in
    let l = c.after-2.result.now in
    let at = c.marked-label.result.end in
    let space = c.white_space_length-space.result in
    let colon = byte_read 58 l c.in_ok-rest.rest.now c.in_ok-rest.ensures in
    let here : slice_index text at ≡ 58 = sym (first_at text at) ∙ ap (λ x. slice_index x 0) (sym c.after-2.ensures.rest) ∙ colon.1 in
    let rest : c.in_ok-rest.rest.now ≡ drop (at + 1) text = colon.0 ∙ ap (drop 1) c.after-2.ensures.rest ∙ drop-drop 1 at text in
    cut_drop text (at + 1) space (at + 1 + space) refl (cut_after_byte text at (at + 1) 58 refl here (lit< tt)) (subst (λ x. IsCut x space) rest c.white_space_length-space.ensures.cut)

pub returns-clause-label_cuts : goal.returns-clause-label_cuts
returns-clause-label_cuts c =
    let text = c.args.text.now in
    let s = c.after.result.now in
    let start = c.args.start in
    let size = c.in_ok-size.size in
    let label = c.marked-label.ensures in
    let least = c.in_ok-size.ensures.least in
    let here : slice_index text start ≡ 91 = sym (first_at text start) ∙ ap (λ x. slice_index x 0) (sym c.after.ensures.rest) ∙ c.in_ok-size.ensures.first refl in
    record {
      start_cut = subst (IsCut text) (sym label.start) (cut_at_byte text start 91 here (lit< tt));
      string_start_cut = cut_after_byte text start _ 91 label.string_start here (lit< tt);
      string_end_cut = cut_later text start (size - 1) _ (omega (arith, label.string_end, least)) (omega (arith, least)) (subst (λ x. IsCut x (size - 1)) c.after.ensures.rest c.in_ok-size.ensures.inside.1);
      end_cut = cut_later text start size _ label.end (omega (arith, least)) (subst (λ x. IsCut x size) c.after.ensures.rest c.in_ok-size.ensures.cut);
    }
