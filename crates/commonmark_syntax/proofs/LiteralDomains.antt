-- Domains of email literals: they go as far as they can.
use Rattle.std.proofs.Common.{◌≡◌, ℕ, Bool, true, false, cond, List, length, Some, None, refl, inl, inr, sym, ◌∙◌, ap, arith}
use Rattle.std.specs.Prelude.{option_and_then}
use Rattle.commonmark_syntax.specs.EmailLiterals.{IsWholeDomain, domain_class, domain_step, is_literal_domain, is_of_resource, is_of_segment, literal_domain}
use Rattle.commonmark_syntax.specs.Language.{IsNotAt, Reads, many, one, ◌then◌}
use Rattle.commonmark_syntax.specs.Reading.{are_apart, everything, greedy, is_clear, is_within, kept, read}
use Rattle.commonmark_syntax.specs.declared.email_literal.Kind.{Kind}
use Rattle.commonmark_syntax.specs.declared.email_literal.Kind.TheVariants.{Email, Mailto, Xmpp}
use Rattle.commonmark_syntax.proofs.Exact.{Exact, class_exact, exact, exact_many, exact_sequence, is_not_at}
use Rattle.commonmark_syntax.proofs.Fronts.{AreBytes, bytes_kept}
use Rattle.commonmark_syntax.proofs.Sizes.{ends_tidy}
use Rattle.commonmark_syntax.proofs.Sound.{kept_exact, sound, then_parts}
use Rattle.commonmark_syntax.proofs.Tests.{cases_option}
use Rattle.commonmark_syntax.proofs.TrailsAhead.{ended_of}

segment_clear : is_clear (domain_step is_of_segment) everything ≡ true
unfolding are_apart is_within
segment_clear = refl

resource_clear : is_clear (domain_step is_of_resource) everything ≡ true
unfolding are_apart is_within
resource_clear = refl

step_clear : (k : Kind) → is_clear (domain_step (domain_class k)) everything ≡ true
step_clear Email = segment_clear
step_clear Mailto = segment_clear
step_clear Xmpp = resource_clear

-- nothing more of a domain is there
abbrev IsEnded : (ℕ → Bool) → List ℕ → Type 0
IsEnded p t = IsNotAt (domain_step p) t

no_step : (p : ℕ → Bool) (t : List ℕ) → AreBytes t → IsEnded p t → read (domain_step p) t ≡ None
no_step p t bytes ended = elim (cases_option (read (domain_step p) t)) [
  | inl e ↦ e
  | inr x ↦ absurd (ended x.0 (sound (domain_step p) t x.0 x.1))
]

abbrev IsAny : List ℕ → Type 0
IsAny t = Unit {0}

bytes_exact : (p : ℕ → Bool) → is_clear (domain_step p) everything ≡ true → Exact (one p then many (domain_step p)) (IsEnded p)
bytes_exact p clear =
    exact_sequence (one p) (many (domain_step p)) IsAny (IsEnded p) (λ s t bytes r h. class_exact p s t r.0 r.1 r.2)
    (exact_many (domain_step p) (IsEnded p) refl (no_step p) (λ s t bytes r h. exact (domain_step p) everything clear s t bytes r refl))
    (λ m t bytes r h. tt)

domain_exact : (p : ℕ → Bool) → is_clear (domain_step p) everything ≡ true → Exact (literal_domain p) (IsEnded p)
domain_exact p clear s t bytes r h =
    ap (option_and_then (kept is_literal_domain s)) (bytes_exact p clear s t bytes r.1 h) ∙ kept_exact is_literal_domain s t r.0

-- what reading leaves begins with nothing of the domain
kept_same : (b : Bool) (m t : List ℕ) → cond b (Some m) None ≡ Some t → m ≡ t
kept_same true m t e = cc
kept_same false m t e = cc

read_ended : (p : ℕ → Bool) (s t : List ℕ) → read (literal_domain p) s ≡ Some t → read (domain_step p) t ≡ None
read_ended p s t e =
    let x = then_parts (kept is_literal_domain s) (read (one p then many (domain_step p)) s) t e in
    let same : x.0 ≡ t = kept_same _ x.0 t x.2 in
    let y = then_parts (read (many (domain_step p))) (read (one p) s) x.0 x.1 in
    let last : greedy (read (domain_step p)) (length y.0) y.0 ≡ t = (let k = y.2 in cc) in
    ap (read (domain_step p)) (sym last) ∙ ended_of (domain_step p) refl (length y.0) y.0 (omega arith)

pub domain_there : (k : Kind) (s t : List ℕ) → AreBytes s → read (literal_domain (domain_class k)) s ≡ Some t → IsWholeDomain (domain_class k) s t
domain_there k s t bytes e =
    let reads : Reads (literal_domain (domain_class k)) s t = sound (literal_domain (domain_class k)) s t e in
    record {
      there = reads;
      ended = is_not_at (domain_step (domain_class k)) t (step_clear k) (bytes_kept (literal_domain (domain_class k)) s t reads bytes) (read_ended (domain_class k) s t e);
    }

pub domain_read : (k : Kind) (s t : List ℕ) → AreBytes s → IsWholeDomain (domain_class k) s t → read (literal_domain (domain_class k)) s ≡ Some t
domain_read k s t bytes it = domain_exact (domain_class k) (step_clear k) s t bytes it.there it.ended

pub domain_missing : (k : Kind) (s t : List ℕ) → AreBytes s → read (literal_domain (domain_class k)) s ≡ None → IsWholeDomain (domain_class k) s t → ⊥
domain_missing k s t bytes e it =
    let f : read (literal_domain (domain_class k)) s ≡ Some t = domain_read k s t bytes it in cc

pub domain_unique : (k : Kind) (s t u : List ℕ) → AreBytes s → IsWholeDomain (domain_class k) s t → IsWholeDomain (domain_class k) s u → t ≡ u
domain_unique k s t u bytes x y =
    let e : Some t ≡ Some u = sym (domain_read k s t bytes x) ∙ domain_read k s u bytes y in cc

pub domain_tidy : (k : Kind) → ends_tidy (literal_domain (domain_class k)) ≡ true
domain_tidy Email = refl
domain_tidy Mailto = refl
domain_tidy Xmpp = refl
