-- Protocols before local parts.
use Rattle.std.proofs.Common.{◌≡◌, ℕ, ◌+◌, ◌-◌, Bool, true, false, List, [], ◌∷◌, ◌++◌, drop, take, length, Some, None, refl, sym, ◌∙◌, ap, subst, arith, length-append, ◌==◌}
use Rattle.std.specs.Prelude.{codes, option_and_then}
use Rattle.std.proofs.lemmas.Bool.Decides.{nat_tests}
use Rattle.std.proofs.lemmas.List.{append_assoc}
use Rattle.std.proofs.Math.Seq.{drop-append_seam, take-append_seam}
use Rattle.commonmark_syntax.specs.EmailLiterals.{BeginsAfter, HasProtocol}
use Rattle.commonmark_syntax.specs.Inlines.{ends_with, in_any_case, is_in_any_case}
use Rattle.commonmark_syntax.specs.Language.{Matches, Reads}
use Rattle.commonmark_syntax.specs.Reading.{read}
use Rattle.commonmark_syntax.specs.Syntax.{is_alphanumeric}
use Rattle.commonmark_syntax.specs.declared.email_literal.Kind.{Kind}
use Rattle.commonmark_syntax.specs.declared.email_literal.Kind.TheVariants.{Email, Mailto, Xmpp}
use Rattle.commonmark_syntax.proofs.Exact.{class_exact, empty_length, length_empty}
use Rattle.commonmark_syntax.proofs.Sound.{sound}

-- words in any case
word_exact : (w s t : List ℕ) → Reads (in_any_case w) s t → read (in_any_case w) s ≡ Some t
word_exact [] s t reads = ap Some reads
word_exact (c ∷ w) s t reads =
    ap (option_and_then (read (in_any_case w))) (class_exact (is_in_any_case c) s reads.0 reads.1.0 reads.1.1 reads.1.2) ∙ word_exact w reads.0 t reads.2

word_size : (w s t : List ℕ) → Reads (in_any_case w) s t → length s ≡ length w + length t
word_size [] s t reads = omega (arith, ap length reads)
word_size (c ∷ w) s t reads = omega (arith, ap length reads.1.2, word_size w reads.0 t reads.2)

pub word_matches : (w s t : List ℕ) (b : Bool) → read (in_any_case w) s ≡ Some t → b ≡ (length t == 0) → b ≡ true → Matches (in_any_case w) s
word_matches w s t b e same is = sound (in_any_case w) s [] (e ∙ ap Some (empty_length t (sym same ∙ is)))

pub word_goes_on : (w s t : List ℕ) (b : Bool) → read (in_any_case w) s ≡ Some t → b ≡ (length t == 0) → b ≡ false → Matches (in_any_case w) s → ⊥
word_goes_on w s t b e same more reads =
    let k : Some t ≡ Some [] = sym e ∙ word_exact w s [] reads in
    let l : t ≡ [] = cc in
    let m : b ≡ true = same ∙ length_empty t l in cc

pub word_missing : (w s : List ℕ) → read (in_any_case w) s ≡ None → Matches (in_any_case w) s → ⊥
word_missing w s e reads = (let k : read (in_any_case w) s ≡ Some [] = word_exact w s [] reads in cc)

-- a protocol has its place at the end
pub protocol_size : (p front before : List ℕ) → HasProtocol p front before → length front ≡ length before + length p
protocol_size p front before it =
    omega (arith, ap length it.whole, length-append before it.part, word_size p it.part [] it.word)

pub protocol_place : (p front before : List ℕ) → HasProtocol p front before → before ≡ take (length front - length p) front
protocol_place p front before it =
    let size : length front - length p ≡ length before = omega (arith, protocol_size p front before it) in
    sym (ap (λ n. take n front) size ∙ ap (take (length before)) it.whole ∙ take-append_seam before it.part)

pub protocol_word : (p front before : List ℕ) → HasProtocol p front before → Matches (in_any_case p) (drop (length front - length p) front)
protocol_word p front before it =
    let size : length front - length p ≡ length before = omega (arith, protocol_size p front before it) in
    subst (Matches (in_any_case p)) (sym (ap (λ n. drop n front) size ∙ ap (drop (length before)) it.whole ∙ drop-append_seam before it.part)) it.word

protocol_unique : (p front x y : List ℕ) → HasProtocol p front x → HasProtocol p front y → x ≡ y
protocol_unique p front x y a b = protocol_place p front x a ∙ sym (protocol_place p front y b)

-- mailto: does not end with xmpp:, before which there is no letter
last_pushed : (p : ℕ → Bool) (y : List ℕ) (c : ℕ) → ends_with p (y ++ c ∷ []) ≡ p c
last_pushed p [] c = refl
last_pushed p (d ∷ []) c = refl
last_pushed p (d ∷ e ∷ y) c = last_pushed p (e ∷ y) c

letter_a : (c : ℕ) → is_in_any_case 97 c ≡ true → is_alphanumeric c ≡ true
letter_a c e = grind (arith, nat_tests)

not_both : (front x y : List ℕ) → HasProtocol (codes "mailto:") front x → HasProtocol (codes "xmpp:") front y → ⊥
not_both front x y a b =
    let m = a.word.1 in
    let l = a.word.2.1 in
    let rest = a.word.2.2 in
    let tail : List ℕ = a.word.2.0 in
    let size : length tail ≡ 5 = omega (arith, word_size (codes "ilto:") tail [] rest) in
    let part : a.part ≡ m.0 ∷ (l.0 ∷ tail) = m.2 ∙ ap (λ z. m.0 ∷ z) l.2 in
    let joined : front ≡ ((x ++ m.0 ∷ []) ++ l.0 ∷ []) ++ tail =
    a.whole ∙ ap (λ z. x ++ z) part ∙ sym (append_assoc x (m.0 ∷ []) (l.0 ∷ tail)) ∙ sym (append_assoc (x ++ m.0 ∷ []) (l.0 ∷ []) tail) in
    let front_size : length front ≡ length ((x ++ m.0 ∷ []) ++ l.0 ∷ []) + 5 = omega (arith, ap length joined, length-append ((x ++ m.0 ∷ []) ++ l.0 ∷ []) tail, size) in
    let place : length front - 5 ≡ length ((x ++ m.0 ∷ []) ++ l.0 ∷ []) = omega (arith, front_size) in
    let same : y ≡ (x ++ m.0 ∷ []) ++ l.0 ∷ [] =
    protocol_place (codes "xmpp:") front y b ∙ ap (λ n. take n front) place ∙ ap (take (length ((x ++ m.0 ∷ []) ++ l.0 ∷ []))) joined ∙ take-append_seam ((x ++ m.0 ∷ []) ++ l.0 ∷ []) tail in
    let ended : ends_with is_alphanumeric y ≡ true = ap (ends_with is_alphanumeric) same ∙ last_pushed is_alphanumeric (x ++ m.0 ∷ []) l.0 ∙ letter_a l.0 l.1 in
    let k : true ≡ false = sym ended ∙ b.ended in cc

-- so it is one alone
pub begins_unique : (front x y : List ℕ) (k j : Kind) → BeginsAfter front x k → BeginsAfter front y j → (k ≡ j) × (x ≡ y)
begins_unique front x y Mailto Mailto a b = (refl, protocol_unique (codes "mailto:") front x y a b)
begins_unique front x y Mailto Xmpp a b = absurd (not_both front x y a b)
begins_unique front x y Mailto Email a b = absurd (b.1 x a)
begins_unique front x y Xmpp Mailto a b = absurd (not_both front y x b a)
begins_unique front x y Xmpp Xmpp a b = (refl, protocol_unique (codes "xmpp:") front x y a b)
begins_unique front x y Xmpp Email a b = absurd (b.2 x a)
begins_unique front x y Email Mailto a b = absurd (a.1 y b)
begins_unique front x y Email Xmpp a b = absurd (a.2 y b)
begins_unique front x y Email Email a b = (refl, a.0 ∙ sym b.0)
