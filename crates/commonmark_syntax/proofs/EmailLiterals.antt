-- Email literals in a text: around an at sign there is one at most.
use Rattle.std.proofs.Common.{◌≡◌, ℕ, suc, ◌+◌, ◌<◌, ◌≤◌, true, ◌⊎◌, List, [], ◌∷◌, ◌++◌, drop, take, length, get_or, slice_index, refl, inl, inr, sym, ◌∙◌, ap, subst, arith, length-append, length-drop}
use Rattle.std.proofs.lemmas.Bool.Decides.{nat_tests}
use Rattle.std.proofs.lemmas.List.{get_or-drop, get_or-take, get_or_append_left, length-take-le, take-append-le, take-take}
use Rattle.commonmark_syntax.specs.EmailLiterals.{BeginsAfter, IsLiteralAt, IsLocalPart, IsWholeDomain, domain_class, is_of_literal_local}
use Rattle.commonmark_syntax.specs.Inlines.{is_in_any_case}
use Rattle.commonmark_syntax.specs.Language.{are_all}
use Rattle.commonmark_syntax.specs.declared.email_literal.EmailLiteral.{EmailLiteral}
use Rattle.commonmark_syntax.specs.declared.email_literal.Kind.{Kind}
use Rattle.commonmark_syntax.specs.declared.email_literal.Kind.TheVariants.{Email, Mailto, Xmpp}
use Rattle.commonmark_syntax.proofs.Fronts.{AreBytes, bytes_of}
use Rattle.commonmark_syntax.proofs.LiteralDomains.{domain_unique}
use Rattle.commonmark_syntax.proofs.LocalParts.{local_unique}
use Rattle.commonmark_syntax.proofs.Protocols.{begins_unique}
use Rattle.commonmark_syntax.proofs.Tests.{and_parts}

-- the bytes after an offset
pub bytes_after : (s : List ℕ) (n : ℕ) → ((i : ℕ) → get_or s i 0 < 256) → AreBytes (drop n s)
bytes_after s n each = bytes_of (drop n s) (λ i. subst (λ x. x < 256) (sym (get_or-drop n s i 0)) (each (n + i)))

take_size : (s : List ℕ) (a b : ℕ) → a ≤ length s → b ≤ length s → take a s ≡ take b s → a ≡ b
take_size s a b in_a in_b e = sym (length-take-le a s in_a) ∙ ap length e ∙ length-take-le b s in_b

drop_size : (s : List ℕ) (a b : ℕ) → a ≤ length s → b ≤ length s → drop a s ≡ drop b s → a ≡ b
drop_size s a b in_a in_b e = omega (arith, length-drop a s, length-drop b s, ap length e)

abbrev made : Kind → (start end : ℕ) → EmailLiteral
made kind start end = record { kind = kind; start = start; end = end }

same_literal : (x y : EmailLiteral) → x.kind ≡ y.kind → x.start ≡ y.start → x.end ≡ y.end → x ≡ y
same_literal x y k s e =
    ap (λ a. made a x.start x.end) k ∙ ap (λ a. made y.kind a x.end) s ∙ ap (λ a. made y.kind y.start a) e

pub literal_unique : (text : List ℕ) (at : ℕ) (x y : EmailLiteral) → ((i : ℕ) → get_or text i 0 < 256) → IsLiteralAt text at x → IsLiteralAt text at y → x ≡ y
literal_unique text at x y each a b =
    let fronts : a.front ≡ b.front = local_unique (take at text) a.front b.front a.local_part b.local_part in
    let begins : BeginsAfter b.front (take x.start text) x.kind = subst (λ f. BeginsAfter f (take x.start text) x.kind) fronts a.begins in
    let both = begins_unique b.front (take x.start text) (take y.start text) x.kind y.kind begins b.begins in
    let starts : x.start ≡ y.start = take_size text x.start y.start (let p = a.within in let q = a.order in let r = a.most in omega arith) (let p = b.within in let q = b.order in let r = b.most in omega arith) both.1 in
    let domain : IsWholeDomain (domain_class y.kind) (drop (at + 1) text) (drop x.end text) = subst (λ k. IsWholeDomain (domain_class k) (drop (at + 1) text) (drop x.end text)) both.0 a.domain in
    let rests : drop x.end text ≡ drop y.end text = domain_unique y.kind (drop (at + 1) text) (drop x.end text) (drop y.end text) (bytes_after text (at + 1) each) domain b.domain in
    same_literal x y both.0 starts (drop_size text x.end y.end a.most b.most rests)

-- where it begins
pub begins_in : (text front : List ℕ) (at start : ℕ) → at ≤ length text → IsLocalPart (take at text) front → start ≤ length front → take start front ≡ take start text
begins_in text front at start within it less =
    let size : length (take at text) ≡ at = length-take-le at text within in
    let reach : start ≤ at = omega (arith, size, ap length it.whole, length-append front it.part, less) in
    sym (ap (take start) it.whole ∙ take-append-le start front it.part less) ∙ take-take start at text reach

pub begins_before : (text front : List ℕ) (at start : ℕ) → at ≤ length text → IsLocalPart (take at text) front → start ≤ length front → start < at
begins_before text front at start within it less =
    omega (arith, length-take-le at text within, ap length it.whole, length-append front it.part, it.some, less)

local_ascii : (c : ℕ) → is_of_literal_local c ≡ true → c < 128
local_ascii c e = grind (arith, nat_tests)

m_ascii : (c : ℕ) → is_in_any_case 109 c ≡ true → c < 128
m_ascii c e = grind (arith, nat_tests)

x_ascii : (c : ℕ) → is_in_any_case 120 c ≡ true → c < 128
x_ascii c e = grind (arith, nat_tests)

first_local : (part : List ℕ) → 0 < length part → are_all is_of_literal_local part ≡ true → slice_index part 0 < 128
first_local [] some every = absurd (omega arith)
first_local (c ∷ part) some every = local_ascii c (and_parts _ _ every).0

byte_here : (s front w : List ℕ) (i c : ℕ) → s ≡ front ++ w → i ≡ length front → slice_index w 0 ≡ c → slice_index s i ≡ c
byte_here s [] w i c e same is = ap (slice_index s) same ∙ ap (λ x. slice_index x 0) e ∙ is
byte_here s (d ∷ front) w i c e same is = ap (slice_index s) same ∙ ap (λ x. slice_index x (suc (length front))) e ∙ byte_here (front ++ w) front w (length front) c refl refl is

first_of : (kind : Kind) (s front : List ℕ) (start : ℕ) → IsLocalPart s front → start ≤ length front → BeginsAfter front (take start front) kind → slice_index s start < 128
first_of Email s front start it less begins =
    let size : start ≡ length front = sym (length-take-le start front less) ∙ ap length begins.0 in
    let k = byte_here s front it.part start (slice_index it.part 0) it.whole size refl in
    omega (arith, k, first_local it.part it.some it.every)
first_of Mailto s front start it less begins =
    let m = begins.word.1 in
    let size : start ≡ length (take start front) = sym (length-take-le start front less) in
    let k = byte_here front (take start front) begins.part start m.0 begins.whole size (ap (λ x. slice_index x 0) m.2) in
    let some : start < length front = omega (arith, ap length begins.whole, length-append (take start front) begins.part, ap length m.2, size) in
    let l : slice_index s start ≡ slice_index front start = ap (λ x. slice_index x start) it.whole ∙ get_or_append_left front it.part 0 start some in
    omega (arith, k, l, m_ascii m.0 m.1)
first_of Xmpp s front start it less begins =
    let m = begins.word.1 in
    let size : start ≡ length (take start front) = sym (length-take-le start front less) in
    let k = byte_here front (take start front) begins.part start m.0 begins.whole size (ap (λ x. slice_index x 0) m.2) in
    let some : start < length front = omega (arith, ap length begins.whole, length-append (take start front) begins.part, ap length m.2, size) in
    let l : slice_index s start ≡ slice_index front start = ap (λ x. slice_index x start) it.whole ∙ get_or_append_left front it.part 0 start some in
    omega (arith, k, l, x_ascii m.0 m.1)

pub begins_ascii : (kind : Kind) (text front : List ℕ) (at start : ℕ) → at ≤ length text → IsLocalPart (take at text) front → start ≤ length front → BeginsAfter front (take start front) kind → slice_index text start < 128
begins_ascii kind text front at start within it less begins =
    let reach : start < at = begins_before text front at start within it less in
    let k : slice_index (take at text) start ≡ slice_index text start = get_or-take at text start 0 reach in
    let l = first_of kind (take at text) front start it less begins in
    omega (arith, k, l)

-- one at sign more
pub one_more : (text : List ℕ) (at : ℕ) → ((k : ℕ) (it : EmailLiteral) → k < at → IsLiteralAt text k it → ⊥) → ((it : EmailLiteral) → IsLiteralAt text at it → ⊥) → (k : ℕ) (it : EmailLiteral) → k < at + 1 → IsLiteralAt text k it → ⊥
one_more text at before here k it less literal =
    let cases : (k < at) ⊎ (k ≡ at) = grind arith in
    elim cases [ inl more ↦ before k it more literal | inr same ↦ here it (subst (λ n. IsLiteralAt text n it) same literal) ]

pub sign_within : (text : List ℕ) (at : ℕ) (it : EmailLiteral) → IsLiteralAt text at it → at < length text
sign_within text at it literal = (let order = literal.order in let most = literal.most in omega arith)
