-- What is found in a text, and the tokens so far.
use Rattle.std.proofs.Common.{◌≡◌, ◌+◌, ◌++◌, ◌∷◌, Bool, List, None, Option, Some, [], arith, false, length, slice_get, slice_index, subst, sym, true, ℕ}
use Rattle.std.proofs.lemmas.Option.{get_or_from_slice_get, slice_get_within}
use Rattle.commonmark_syntax.specs.Cuts.{IsCut}
use Rattle.markdown_text.proofs.Parts.{cut_after, cut_before, part_join, part_none, range_join, range_of}
use Rattle.markdown_text.specs.Reached.{IsWith, Reach}
use Rattle.markdown_text.specs.Contents.{IsPart, IsRange}
use Rattle.markdown_text.specs.Texts.{text_of}
use Rattle.markdown_text.specs.Tokens.{AreTokens, IsEnclosed, IsFound, IsToken, Text}
use Rattle.markdown_text.specs.declared.token.Token.{Token}
use Rattle.markdown_text.specs.declared.token.TokenKind.{TokenKind}
use Rattle.markdown_text.specs.declared.token.TokenKind.TheVariants.{Attention, Autolink, AutolinkLiteral, CharacterEscape, CharacterReference, CodeText, HardBreakEscape, HtmlText, LabelEnd, LabelStart, LineEnding, MathText, TaskListItemCheck}

-- ---- In other texts of the same bytes

-- with the mark of a task
pub plain_found : (bytes : List ℕ) (decode : List ℕ → ℕ → Option (List ℕ)) (task : Bool) (kind : Option TokenKind) (from to : ℕ) → IsFound (text_of bytes decode false) kind from to → IsFound (text_of bytes decode task) kind from to
plain_found bytes decode true kind from to found = with_task kind found
  where
    with_task : (kind : Option TokenKind) → IsFound (text_of bytes decode false) kind from to → IsFound (text_of bytes decode true) kind from to
    with_task None found = found
    with_task (Some LineEnding) t = t
    with_task (Some HardBreakEscape) t = t
    with_task (Some CharacterEscape) t = t
    with_task (Some (CharacterReference kind)) t = record { ascii = t.ascii; filled = t.filled; known = t.known }
    with_task (Some (CodeText size)) t = t
    with_task (Some (MathText size)) t = t
    with_task (Some (Autolink name)) t = t
    with_task (Some HtmlText) t = t
    with_task (Some (AutolinkLiteral name)) t = t
    with_task (Some Attention) t = t
    with_task (Some (LabelStart label)) t = t
    with_task (Some (LabelEnd label target)) t = t
    with_task (Some (TaskListItemCheck checked)) t = let marked = t.0 in absurd (cc marked)
plain_found bytes decode false kind from to found = found

-- what is found, by a kind and a size that are the same
pub found_as : (text : Text) (kind same : Option TokenKind) (from to end : ℕ) → kind ≡ same → to ≡ end → IsFound text same from end → IsFound text kind from to
found_as text kind same from to end k e found = subst (λ (o : Option TokenKind). IsFound text o from to) (sym k) (subst (λ (n : ℕ). IsFound text same from n) (sym e) found)

-- ---- Ranges

-- the range of what is enclosed
pub enclosed_range : (bytes : List ℕ) (size from to : ℕ) → IsEnclosed bytes size from to → IsRange bytes from to
enclosed_range bytes size from to marks =
    let order = marks.order in
    let first = (marks.opening).order in
    let last = (marks.closing).order in
    record { order = omega (arith, order, first, last); within = (marks.closing).within; start = (marks.opening).start; end = (marks.closing).end }

-- a line ending
line_range : (bytes : List ℕ) (at to : ℕ) → to ≡ at + 1 → slice_get bytes at ≡ Some 10 → IsRange bytes at to
line_range bytes at to is feed =
    let within = slice_get_within bytes at 10 feed in
    let byte : slice_index bytes at ≡ 10 = get_or_from_slice_get bytes at 10 0 feed in
    record {
      order = omega (arith, is);
      within = omega (arith, is, within);
      start = cut_before bytes at (omega (arith, byte));
      end = subst (IsCut bytes) (sym is) (cut_after bytes at (omega (arith, byte)));
    }

-- the range of a token
pub token_range : (text : Text) (kind : TokenKind) (from to : ℕ) → IsToken text kind from to → IsRange text.bytes from to
token_range text LineEnding from to t = line_range text.bytes from to t.0 t.1
token_range text HardBreakEscape from to t =
    let is = t.1 in
    range_join text.bytes from (from + 1) to (range_of text.bytes from (from + 1) (t.0).part) (line_range text.bytes (from + 1) to (omega (arith, is)) t.2)
token_range text CharacterEscape from to t = range_of text.bytes from to (t.0).part
token_range text (CharacterReference kind) from to t = range_of text.bytes from to (t.ascii).part
token_range text (CodeText size) from to t = enclosed_range text.bytes size from to t.1
token_range text (MathText size) from to t = enclosed_range text.bytes size from to t.1
token_range text (Autolink name) from to t = range_of text.bytes from to t.part
token_range text HtmlText from to t = t
token_range text (AutolinkLiteral name) from to t = range_of text.bytes from to t.0
token_range text Attention from to t = range_of text.bytes from to (t.0).part
token_range text (LabelStart label) from to t = range_of text.bytes from to (t.0).part
token_range text (LabelEnd label target) from to t = range_join text.bytes from (from + 1) to (range_of text.bytes from (from + 1) t.0) t.2
token_range text (TaskListItemCheck checked) from to t =
    let first : from ≡ 0 = t.1 in
    let last : to ≡ 3 = t.2 in
    subst (λ (n : ℕ). IsRange text.bytes n to) (sym first) (subst (λ (n : ℕ). IsRange text.bytes 0 n) (sym last) t.3)

-- the range of what is found
pub found_range : (text : Text) (kind : Option TokenKind) (from to : ℕ) → IsFound text kind from to → IsRange text.bytes from to
found_range text None from to found = range_of text.bytes from to found
found_range text (Some kind) from to found = token_range text kind from to found

-- ---- The tokens so far

-- data after them
pub reach_part : (text : Text) (from : ℕ) (ts : List Token) (at to : ℕ) → Reach text from ts at → IsPart text.bytes at to → Reach text from ts to
reach_part text from [] at to reach part = part_join text.bytes from at to reach part
reach_part text from (t ∷ ts) at to reach part = (reach.0, reach.1, reach_part text t.end ts at to reach.2 part)

-- a token after them
pub reach_token : (text : Text) (from : ℕ) (ts : List Token) (t : Token) → Reach text from ts t.start → IsToken text t.kind t.start t.end → Reach text from (ts ++ t ∷ []) t.end
reach_token text from [] t reach token =
    let range = token_range text t.kind t.start t.end token in
    (reach, token, part_none text.bytes t.end range.within range.end)
reach_token text from (u ∷ ts) t reach token = (reach.0, reach.1, reach_token text u.end ts t reach.2 token)

-- what is found after them
pub reach_with : (text : Text) (from : ℕ) (ts us : List Token) (kind : Option TokenKind) (at to : ℕ) → Reach text from ts at → IsFound text kind at to → IsWith ts at kind to us → Reach text from us to
reach_with text from ts us None at to reach found same = subst (λ (vs : List Token). Reach text from vs to) (sym same) (reach_part text from ts at to reach found)
reach_with text from ts us (Some kind) at to reach found (t, of, first, last, same) =
    let before = subst (λ (n : ℕ). Reach text from ts n) (sym first) reach in
    let token = subst (λ (k : TokenKind). IsToken text k t.start t.end) (sym of) (subst (λ (n : ℕ). IsToken text kind n t.end) (sym first) (subst (λ (n : ℕ). IsToken text kind at n) (sym last) found)) in
    subst (λ (vs : List Token). Reach text from vs to) (sym same) (subst (λ (n : ℕ). Reach text from (ts ++ t ∷ []) n) last (reach_token text from ts t before token))

-- where they reach, no character goes over it
pub reach_cut : (text : Text) (from : ℕ) (ts : List Token) (to : ℕ) → Reach text from ts to → IsCut text.bytes to
reach_cut text from [] to reach = reach.end
reach_cut text from (t ∷ ts) to reach = reach_cut text t.end ts to reach.2

-- where they reach the end, they are the tokens of the text
pub are_tokens : (text : Text) (from : ℕ) (ts : List Token) (to : ℕ) → to ≡ length text.bytes → Reach text from ts to → AreTokens text from ts
are_tokens text from [] to end reach = subst (IsPart text.bytes from) end reach
are_tokens text from (t ∷ ts) to end reach = (reach.0, reach.1, are_tokens text t.end ts to end reach.2)
