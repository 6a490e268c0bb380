use Rattle.std.proofs.Common.{List, Some, ap, arith, drop, length, length-drop, refl, subst, sym, ◌+◌, ◌≡◌, ◌∙◌, ℕ}
use Rattle.std.proofs.lemmas.List.{drop-drop}
use Rattle.commonmark_syntax.specs.Cuts.{IsCut}
use Rattle.commonmark_syntax.specs.Reading.{read}
use Rattle.commonmark_syntax.specs.Resources.{LeavesResource}
use Rattle.commonmark_syntax.specs.Syntax.{blanks}
use Rattle.commonmark_syntax.proofs.Cuts.{cut_drop}
use Rattle.commonmark_syntax.proofs.Fronts.{AreBytes, bytes_of}
use Rattle.commonmark_syntax.proofs.Resources.{Parts, byte_read, bytes_dropped, destination_none, left_of, no_match, parts_leave, parts_none, started, title_failed}
use Rattle.markdown_text.proofs.Parts.{cut_after}
use Rattle.markdown_text.proofs.Resources.{resource_is}
use Rattle.markdown_text.proofs.resource.scan.Goals as goal

pub returns-in_err-destination-clause-exact : goal.returns-in_err-destination-clause-exact
returns-in_err-destination-clause-exact c =
    let text = c.args.text.now in
    let inside = c.in_ok-inside.inside.now in
    let a = c.after-rest.result.now in
    let bytes : AreBytes text = bytes_of _ (λ i. omega (arith, c.type_inv.text i)) in
    let start = started text inside a c.in_ok-inside.ensures (c.white_space_length-before.ensures.exact ∙ ap Some (sym c.after-rest.ensures.rest)) in
    let none = c.in_err-destination.ensures.exact in
    no_match _ _ _ c.from_residual-in_err-destination.ensures (destination_none text a bytes start none.0 none.1)

pub returns-in_err-title-clause-exact : goal.returns-in_err-title-clause-exact
returns-in_err-title-clause-exact c =
    let text = c.args.text.now in
    let inside = c.in_ok-inside.inside.now in
    let before = c.white_space_length-before.result in
    let destination = c.in_ok-destination.destination in
    let between = c.white_space_length-between.result in
    let a = c.after-rest.result.now in
    let b = c.after-rest-2.result.now in
    let e = c.after-rest-3.result.now in
    let bytes : AreBytes text = bytes_of _ (λ i. omega (arith, c.type_inv.text i)) in
    let opened = byte_read 40 text inside c.in_ok-inside.ensures in
    let is2 : b ≡ drop (1 + before + destination) text = c.after-rest-2.ensures.rest ∙ ap (drop destination) (c.after-rest.ensures.rest ∙ ap (drop before) opened.0 ∙ drop-drop before 1 text) ∙ drop-drop destination (1 + before) text in
    let tail : AreBytes b = subst AreBytes (sym is2) (bytes_dropped (1 + before + destination) text bytes) in
    let start = started text inside a c.in_ok-inside.ensures (c.white_space_length-before.ensures.exact ∙ ap Some (sym c.after-rest.ensures.rest)) in
    let first : read blanks b ≡ Some e = c.white_space_length-between.ensures.exact ∙ ap Some (sym c.after-rest-3.ensures.rest) in
    no_match _ _ _ c.from_residual-in_err-title.ensures
    (title_failed text a b e destination between bytes tail start c.in_ok-destination.ensures.exact c.after-rest-2.ensures.rest first c.in_err-title.ensures.exact
    (λ none. (let k = c.in_err-title.ensures.closed none in cc)) (λ none. (let k = c.in_err-title.ensures.close none in cc)))

pub returns-in_err-rest-clause-exact : goal.returns-in_err-rest-clause-exact
returns-in_err-rest-clause-exact c =
    let text = c.args.text.now in
    let inside = c.in_ok-inside.inside.now in
    let before = c.white_space_length-before.result in
    let destination = c.in_ok-destination.destination in
    let between = c.white_space_length-between.result in
    let title = c.in_ok-title.title in
    let space = c.space_length-space.result in
    let a = c.after-rest.result.now in
    let b = c.after-rest-2.result.now in
    let e = c.after-rest-3.result.now in
    let g = c.after-rest-4.result.now in
    let f = c.after.result.now in
    let opened = byte_read 40 text inside c.in_ok-inside.ensures in
    let is1 : a ≡ drop (1 + before) text = c.after-rest.ensures.rest ∙ ap (drop before) opened.0 ∙ drop-drop before 1 text in
    let is2 : b ≡ drop (1 + before + destination) text = c.after-rest-2.ensures.rest ∙ ap (drop destination) is1 ∙ drop-drop destination (1 + before) text in
    let is3 : e ≡ drop (1 + before + destination + between) text = c.after-rest-3.ensures.rest ∙ ap (drop between) is2 ∙ drop-drop between (1 + before + destination) text in
    let bytes : AreBytes text = bytes_of _ (λ i. omega (arith, c.type_inv.text i)) in
    let parts : Parts text a b e g f destination between title = record {
      bytes = bytes;
      bytes_rest = subst AreBytes (sym is2) (bytes_dropped (1 + before + destination) text bytes);
      bytes_title = subst AreBytes (sym is3) (bytes_dropped (1 + before + destination + between) text bytes);
      start = started text inside a c.in_ok-inside.ensures (c.white_space_length-before.ensures.exact ∙ ap Some (sym c.after-rest.ensures.rest));
      begins = c.in_ok-destination.ensures.exact;
      rest = c.after-rest-2.ensures.rest;
      first = c.white_space_length-between.ensures.exact ∙ ap Some (sym c.after-rest-3.ensures.rest);
      behind = c.after-rest-3.ensures.rest;
      most = c.white_space_length-between.ensures.most;
      titled = c.in_ok-title.ensures.exact;
      closed = c.in_ok-title.ensures.closed;
      close = c.in_ok-title.ensures.close;
      last = c.after-rest-4.ensures.rest;
      bare = λ none. c.after.ensures.rest ∙ ap (λ n. drop n g) (c.space_length-space.ensures.bare none);
      second = λ some. c.space_length-space.ensures.exact some ∙ ap Some (sym c.after.ensures.rest);
    } in
    no_match _ _ _ c.from_residual-in_err-rest.ensures (parts_none text a b e g f destination between title parts c.in_err-rest.ensures)

pub overflow_sub-result : goal.overflow_sub-result
overflow_sub-result c =
    let text = c.args.text.now in
    let inside = c.in_ok-inside.inside.now in
    let before = c.white_space_length-before.result in
    let destination = c.in_ok-destination.destination in
    let between = c.white_space_length-between.result in
    let title = c.in_ok-title.title in
    let space = c.space_length-space.result in
    let a = c.after-rest.result.now in
    let b = c.after-rest-2.result.now in
    let e = c.after-rest-3.result.now in
    let g = c.after-rest-4.result.now in
    let f = c.after.result.now in
    let opened = byte_read 40 text inside c.in_ok-inside.ensures in
    let is1 : a ≡ drop (1 + before) text = c.after-rest.ensures.rest ∙ ap (drop before) opened.0 ∙ drop-drop before 1 text in
    let is2 : b ≡ drop (1 + before + destination) text = c.after-rest-2.ensures.rest ∙ ap (drop destination) is1 ∙ drop-drop destination (1 + before) text in
    let is3 : e ≡ drop (1 + before + destination + between) text = c.after-rest-3.ensures.rest ∙ ap (drop between) is2 ∙ drop-drop between (1 + before + destination) text in
    let is4 : g ≡ drop (1 + before + destination + between + title) text = c.after-rest-4.ensures.rest ∙ ap (drop title) is3 ∙ drop-drop title (1 + before + destination + between) text in
    let is5 : f ≡ drop (1 + before + destination + between + title + space) text = c.after.ensures.rest ∙ ap (drop space) is4 ∙ drop-drop space (1 + before + destination + between + title) text in
    let closed = byte_read 41 f c.in_ok-rest.rest.now c.in_ok-rest.ensures in
    let long = ap (λ (xs : List ℕ). length xs) is5 ∙ length-drop (1 + before + destination + between + title + space) text in
    let size = closed.2 in
    omega (arith, long, size)

pub returns-clause-exact : goal.returns-clause-exact
returns-clause-exact c =
    let text = c.args.text.now in
    let inside = c.in_ok-inside.inside.now in
    let before = c.white_space_length-before.result in
    let destination = c.in_ok-destination.destination in
    let between = c.white_space_length-between.result in
    let title = c.in_ok-title.title in
    let space = c.space_length-space.result in
    let a = c.after-rest.result.now in
    let b = c.after-rest-2.result.now in
    let e = c.after-rest-3.result.now in
    let g = c.after-rest-4.result.now in
    let f = c.after.result.now in
    let opened = byte_read 40 text inside c.in_ok-inside.ensures in
    let is1 : a ≡ drop (1 + before) text = c.after-rest.ensures.rest ∙ ap (drop before) opened.0 ∙ drop-drop before 1 text in
    let is2 : b ≡ drop (1 + before + destination) text = c.after-rest-2.ensures.rest ∙ ap (drop destination) is1 ∙ drop-drop destination (1 + before) text in
    let is3 : e ≡ drop (1 + before + destination + between) text = c.after-rest-3.ensures.rest ∙ ap (drop between) is2 ∙ drop-drop between (1 + before + destination) text in
    let is4 : g ≡ drop (1 + before + destination + between + title) text = c.after-rest-4.ensures.rest ∙ ap (drop title) is3 ∙ drop-drop title (1 + before + destination + between) text in
    let is5 : f ≡ drop (1 + before + destination + between + title + space) text = c.after.ensures.rest ∙ ap (drop space) is4 ∙ drop-drop space (1 + before + destination + between + title) text in
    let closed = byte_read 41 f c.in_ok-rest.rest.now c.in_ok-rest.ensures in
    let long = ap (λ (xs : List ℕ). length xs) is5 ∙ length-drop (1 + before + destination + between + title + space) text in
    let size = closed.2 in
    let bytes : AreBytes text = bytes_of _ (λ i. omega (arith, c.type_inv.text i)) in
    let parts : Parts text a b e g f destination between title = record {
      bytes = bytes;
      bytes_rest = subst AreBytes (sym is2) (bytes_dropped (1 + before + destination) text bytes);
      bytes_title = subst AreBytes (sym is3) (bytes_dropped (1 + before + destination + between) text bytes);
      start = started text inside a c.in_ok-inside.ensures (c.white_space_length-before.ensures.exact ∙ ap Some (sym c.after-rest.ensures.rest));
      begins = c.in_ok-destination.ensures.exact;
      rest = c.after-rest-2.ensures.rest;
      first = c.white_space_length-between.ensures.exact ∙ ap Some (sym c.after-rest-3.ensures.rest);
      behind = c.after-rest-3.ensures.rest;
      most = c.white_space_length-between.ensures.most;
      titled = c.in_ok-title.ensures.exact;
      closed = c.in_ok-title.ensures.closed;
      close = c.in_ok-title.ensures.close;
      last = c.after-rest-4.ensures.rest;
      bare = λ none. c.after.ensures.rest ∙ ap (λ n. drop n g) (c.space_length-space.ensures.bare none);
      second = λ some. c.space_length-space.ensures.exact some ∙ ap Some (sym c.after.ensures.rest);
    } in
    let rest : c.in_ok-rest.rest.now ≡ drop (1 + before + destination + between + title + space + 1) text = closed.0 ∙ ap (drop 1) is5 ∙ drop-drop 1 (1 + before + destination + between + title + space) text in
    subst (LeavesResource text) (sym (left_of text c.in_ok-rest.rest.now (1 + before + destination + between + title + space + 1) (omega (arith, long, size)) rest))
    (parts_leave text a b e g f c.in_ok-rest.rest.now destination between title parts c.in_ok-rest.ensures)

pub returns-clause-parts : goal.returns-clause-parts
returns-clause-parts c =
    let text = c.args.text.now in
    let inside = c.in_ok-inside.inside.now in
    let before = c.white_space_length-before.result in
    let destination = c.in_ok-destination.destination in
    let between = c.white_space_length-between.result in
    let title = c.in_ok-title.title in
    let space = c.space_length-space.result in
    let a = c.after-rest.result.now in
    let b = c.after-rest-2.result.now in
    let e = c.after-rest-3.result.now in
    let g = c.after-rest-4.result.now in
    let f = c.after.result.now in
    let opened = byte_read 40 text inside c.in_ok-inside.ensures in
    let is1 : a ≡ drop (1 + before) text = c.after-rest.ensures.rest ∙ ap (drop before) opened.0 ∙ drop-drop before 1 text in
    let is2 : b ≡ drop (1 + before + destination) text = c.after-rest-2.ensures.rest ∙ ap (drop destination) is1 ∙ drop-drop destination (1 + before) text in
    let is3 : e ≡ drop (1 + before + destination + between) text = c.after-rest-3.ensures.rest ∙ ap (drop between) is2 ∙ drop-drop between (1 + before + destination) text in
    let is4 : g ≡ drop (1 + before + destination + between + title) text = c.after-rest-4.ensures.rest ∙ ap (drop title) is3 ∙ drop-drop title (1 + before + destination + between) text in
    let is5 : f ≡ drop (1 + before + destination + between + title + space) text = c.after.ensures.rest ∙ ap (drop space) is4 ∙ drop-drop space (1 + before + destination + between + title) text in
    let closed = byte_read 41 f c.in_ok-rest.rest.now c.in_ok-rest.ensures in
    let long = ap (λ (xs : List ℕ). length xs) is5 ∙ length-drop (1 + before + destination + between + title + space) text in
    let size = closed.2 in
    let cut : IsCut text (1 + before) = cut_drop text 1 before (1 + before) refl (cut_after text 0 (omega (arith, opened.1))) (subst (λ (xs : List ℕ). IsCut xs before) opened.0 c.white_space_length-before.ensures.cut) in
    resource_is text a b e f _ opened.1 is1 is2 is3 is5 (omega (arith, size)) closed.1 cut c.in_ok-destination.ensures.part c.white_space_length-between.ensures.cut c.in_ok-title.ensures.enclosed (omega (arith, long, size))
