-- Extended autolinks: what their parts say of the whole.
use Rattle.std.proofs.Common.{◌≡◌, ℕ, ◌+◌, ◌-◌, ◌<◌, ◌≤◌, Bool, true, false, List, [], ◌∷◌, ◌++◌, drop, take, length, slice_index, Some, None, inl, inr, sym, ◌∙◌, ap, subst, arith, length-append, length-drop, ◌==◌}
use Rattle.std.specs.Str.{IsUtf8, all_scalars, encode_utf8_all}
use Rattle.std.proofs.Math.Seq.{get_or-drop}
use Rattle.std.proofs.lemmas.Bool.Decides.{nat_tests}
use Rattle.std.proofs.lemmas.List.{append_assoc, drop-drop, get_or-append-add, length-take-le}
use Rattle.commonmark_syntax.specs.Cuts.{IsCut}
use Rattle.commonmark_syntax.specs.Inlines.{extended_autolink_start, extended_scheme, is_in_any_case}
use Rattle.commonmark_syntax.specs.Language.{IsNotAt, Leaves, Reads, Syntax, one}
use Rattle.commonmark_syntax.specs.Syntax.{byte}
use Rattle.commonmark_syntax.proofs.DomainLabels.{last_at}
use Rattle.commonmark_syntax.proofs.Fronts.{Ends, ends}
use Rattle.markdown_attention.specs.ExtendedAddresses.{HasNoExtendedAutolink, IsExtendedAutolink, address, may_come_before, may_follow, segments}
use Rattle.markdown_attention.proofs.Barred.{TextFrom, text_from}

-- ---- What stands before one

pub follows_last : (first : ℕ) (w : List ℕ) → 0 < length w → may_come_before first (slice_index w (length w - 1)) ≡ may_follow first w
follows_last first [] some = absurd (omega (arith, some))
follows_last first (c ∷ w) some = sym (last_at (may_come_before first) (c ∷ w) some)

pub none_follows : (b : Bool) (content : List ℕ) (at : ℕ) → may_follow (slice_index content at) (take at content) ≡ false → HasNoExtendedAutolink b content at
none_follows b content at other size it = (let k : true ≡ false = sym it.follows ∙ other in cc)

-- ---- Its beginning

pub none_begins : (b : Bool) (content : List ℕ) (at : ℕ) → IsNotAt extended_autolink_start (drop at content) → HasNoExtendedAutolink b content at
none_begins b content at missing size it = missing (drop (at + it.start) content) it.begins.there

-- what comes before a text ends with a byte of ASCII
abbrev EndsLow : List ℕ → List ℕ → Type 0
EndsLow s t = (w : List ℕ) × (c : ℕ) × (s ≡ w ++ (c ∷ t)) × (c < 128)

low_one : (p : ℕ → Bool) (s m t : List ℕ) → ((c : ℕ) → p c ≡ true → c < 128) → Reads (one p) s m → m ≡ t → EndsLow s t
low_one p s m t low r e = ([], r.0, r.2 ∙ ap (λ (x : List ℕ). r.0 ∷ x) e, low r.0 r.1)

low_later : (a : Syntax) (s m t : List ℕ) → Reads a s m → EndsLow m t → EndsLow s t
low_later a s m t r low =
    let front : Ends s m = ends a s m r in
    (front.0 ++ low.0, low.1, front.1 ∙ ap (λ (x : List ℕ). front.0 ++ x) low.2 ∙ sym (append_assoc front.0 low.0 (low.1 ∷ t)), low.3)

period_low : (c : ℕ) → is_in_any_case 46 c ≡ true → c < 128
period_low c e = grind (arith, nat_tests)

slash_low : (c : ℕ) → (c == 47) ≡ true → c < 128
slash_low c e = grind (arith, nat_tests)

start_low : (s t : List ℕ) → Reads extended_autolink_start s t → EndsLow s t
start_low s t (inl r) =
    low_later (one (is_in_any_case 119)) s _ t r.1
    (low_later (one (is_in_any_case 119)) _ _ t r.2.1 (low_later (one (is_in_any_case 119)) _ _ t r.2.2.1 (low_one (is_in_any_case 46) _ _ t period_low r.2.2.2.1 r.2.2.2.2)))
start_low s t (inr r) =
    low_later extended_scheme s _ t r.1
    (low_later (byte 58) _ _ t r.2.1 (low_later (byte 47) _ _ t r.2.2.1 (low_one (λ x. x == 47) _ _ t slash_low r.2.2.2.1 r.2.2.2.2)))

last_low : (s t : List ℕ) → EndsLow s t → slice_index s (length s - length t - 1) < 128
last_low s t low =
    let size : length s - length t - 1 ≡ length low.0 + 0 = omega (arith, ap length low.2, length-append low.0 (low.1 ∷ t)) in
    let same : slice_index s (length s - length t - 1) ≡ low.1 = ap (slice_index s) size ∙ ap (λ (x : List ℕ). slice_index x (length low.0 + 0)) low.2 ∙ get_or-append-add low.0 (low.1 ∷ t) 0 0 in
    omega (arith, same, low.3)

-- no character goes over its end
pub cut_behind : (content : List ℕ) (at start : ℕ) → start ≤ length (drop at content) → 0 < start → Leaves extended_autolink_start (drop at content) (drop start (drop at content)) → IsCut content (at + start)
cut_behind content at start most some begins = λ positive inside high.
    let text : List ℕ = drop at content in
    let low : slice_index text (length text - length (drop start text) - 1) < 128 = last_low text (drop start text) (start_low text (drop start text) begins.there) in
    let size : length text - length (drop start text) - 1 ≡ start - 1 = omega (arith, length-drop start text, most) in
    let same : slice_index text (start - 1) ≡ slice_index content (at + (start - 1)) = get_or-drop at content (start - 1) 0 in
    let place : slice_index content (at + start - 1) ≡ slice_index content (at + (start - 1)) = ap (slice_index content) (omega (arith, some)) in
    absurd (omega (arith, high, place, same, low, ap (slice_index text) size))

-- ---- Its address

abbrev pub HasNoAddress : Bool → List ℕ → Type 0
HasNoAddress b text = (characters : List ℕ) → all_scalars characters ≡ true → text ≡ encode_utf8_all characters → address b text (encode_utf8_all (segments characters)) ≡ None

abbrev pub HasAddress : Bool → List ℕ → ℕ → Type 0
HasAddress b text size = (characters : List ℕ) → all_scalars characters ≡ true → text ≡ encode_utf8_all characters → address b text (encode_utf8_all (segments characters)) ≡ Some (take size text)

pub none_there : (b : Bool) (content : List ℕ) (at start : ℕ) → Leaves extended_autolink_start (drop at content) (drop start (drop at content)) → HasNoAddress b (drop (at + start) content) → HasNoExtendedAutolink b content at
none_there b content at start begins none size it =
    let same : drop (at + it.start) content ≡ drop (at + start) content = begins.only (drop (at + it.start) content) it.begins.there ∙ drop-drop start at content in
    let text : drop (at + start) content ≡ encode_utf8_all it.characters = sym same ∙ it.encoded in
    let none_here : address b (encode_utf8_all it.characters) (encode_utf8_all (segments it.characters)) ≡ None =
    ap (λ t. address b t (encode_utf8_all (segments it.characters))) (sym text) ∙ none it.characters it.scalars text in
    let k : Some it.domain_and_path ≡ None = sym it.there ∙ none_here in cc

pub there : (b : Bool) (content : List ℕ) (at start size : ℕ) → IsUtf8 content → may_follow (slice_index content at) (take at content) ≡ true → Leaves extended_autolink_start (drop at content) (drop start (drop at content)) → at + start ≤ length content → IsCut content (at + start)
    → size ≤ length content - (at + start) → HasAddress b (drop (at + start) content) size → IsExtendedAutolink b content at (start + size)
there b content at start size valid follows begins within cut most has =
    let text : List ℕ = drop (at + start) content in
    let from : TextFrom content (at + start) = text_from content (at + start) valid within cut in
    record {
      follows = follows;
      start = start;
      begins = subst (Leaves extended_autolink_start (drop at content)) (drop-drop start at content) begins;
      characters = from.0;
      scalars = from.1;
      encoded = from.2;
      domain_and_path = take size text;
      there = ap (λ t. address b t (encode_utf8_all (segments from.0))) (sym from.2) ∙ has from.0 from.1 from.2;
      whole = ap (λ n. start + n) (sym (length-take-le size text (omega (arith, most, length-drop (at + start) content))));
    }
