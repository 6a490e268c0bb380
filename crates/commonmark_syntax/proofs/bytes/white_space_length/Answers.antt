use Rattle.std.proofs.Common.{Some, ap, drop, rules, sym, true, ◌+◌, ◌∙◌, ◌≡◌, ◌≢◌, ◌||◌, ◌==◌}
use Rattle.std.proofs.lemmas.List.{get_or-drop}
use Rattle.commonmark_syntax.specs.Language.{many, one}
use Rattle.commonmark_syntax.specs.Reading.{read}
use Rattle.commonmark_syntax.specs.Syntax.{is_blank}
use Rattle.commonmark_syntax.proofs.Blanks.{blanks_long, blanks_short}
use Rattle.commonmark_syntax.proofs.Counts.{many_counted}
use Rattle.std.specs.Prelude.{slice_index}
use Rattle.commonmark_syntax.specs.Cuts.{is_white_space}
use Rattle.commonmark_syntax.proofs.Cuts.{all_parted, one_feed}
use Rattle.commonmark_syntax.proofs.bytes.white_space_length.Goals as goal

pub returns-clause-feeds : goal.returns-clause-feeds
returns-clause-feeds c =
    let first = c.count_while-size.ensures.in_line (search rules) in
    let later = c.count_while.ensures.in_line (search rules) in
    one_feed c.args.text.now c.after.result.now c.count_while-size.result c.count_while.result c.after.ensures.byte first later

pub returns-clause-white : goal.returns-clause-white
returns-clause-white c =
    let here : is_white_space (slice_index c.args.text.now c.count_while-size.result) ≡ true = search rules in
    all_parted (λ b. is_white_space b ≡ true) c.args.text.now c.after.result.now c.count_while-size.result c.count_while.result c.after.ensures.byte
    (λ k h. ap (λ x. x || (slice_index c.args.text.now k == 10)) (sym (c.count_while-size.ensures.counted k h)))
    here
    (λ k h. ap (λ x. x || (slice_index c.after.result.now k == 10)) (sym (c.count_while.ensures.counted k h)))

pub returns-then-ne-clause-exact : goal.returns-then-ne-clause-exact
returns-then-ne-clause-exact c =
    let text = c.args.text.now in
    let n = c.count_while-size.result in
    let first : read (many (one is_blank)) text ≡ Some (drop n text) = many_counted is_blank text n (λ k h. sym (c.count_while-size.ensures.counted k h)) (λ less. sym (c.count_while-size.ensures.next less)) c.count_while-size.ensures.most in
    let other : slice_index text (n + 0) ≢ 10 = search rules in
    blanks_short text n first (λ feed. other (sym (get_or-drop n text 0 0) ∙ feed))

pub returns-clause-exact : goal.returns-clause-exact
returns-clause-exact c =
    let text = c.args.text.now in
    let n = c.count_while-size.result in
    let k = c.count_while.result in
    let first : read (many (one is_blank)) text ≡ Some (drop n text) = many_counted is_blank text n (λ j h. sym (c.count_while-size.ensures.counted j h)) (λ less. sym (c.count_while-size.ensures.next less)) c.count_while-size.ensures.most in
    let feed : slice_index text (n + 0) ≡ 10 = search rules in
    let later : read (many (one is_blank)) c.after.result.now ≡ Some (drop k c.after.result.now) = many_counted is_blank c.after.result.now k (λ j h. sym (c.count_while.ensures.counted j h)) (λ less. sym (c.count_while.ensures.next less)) c.count_while.ensures.most in
    blanks_long text n k first (get_or-drop n text 0 0 ∙ feed) (ap (read (many (one is_blank))) (sym c.after.ensures.rest) ∙ later ∙ ap Some (ap (drop k) c.after.ensures.rest))
