-- Reading as a function loses nothing: where there is a way to u, the function's step is on a way to u.
use Rattle.std.proofs.Common.{◌≡◌, ℕ, zero, suc, ◌≤◌, Bool, true, false, cond, List, [], ◌∷◌, length, Option, Some, None, refl, inl, inr, sym, ◌∙◌, ap, subst, arith, MatchOption}
use Rattle.std.specs.Prelude.{option_and_then}
use Rattle.commonmark_syntax.specs.Language.{Syntax, one, sequence, choice, at_most, many, Reads, Times, IsNotAt, Leaves}
use Rattle.commonmark_syntax.specs.Reading.{first_of_class, greedy, read, is_nullable, Reading}
use Rattle.commonmark_syntax.proofs.Tests.{cases_bool}
use Rattle.commonmark_syntax.proofs.Fronts.{AreBytes, bytes_kept, progress_strict}
use Rattle.commonmark_syntax.proofs.Sound.{greedy_go, greedy_stop, sound}
use Rattle.commonmark_syntax.proofs.Exact.{Exact, left_exact, right_exact, class_exact, times_count}

abbrev pub Way : Type 1
Way = List ℕ → List ℕ → Type 0

-- a way by b, and then one by K
abbrev pub Then : Syntax → Way → Way
Then b K m u = (t : List ℕ) × Reads b m t × K t u

abbrev pub Same : Way
Same m u = m ≡ u

abbrev pub Goes : Syntax → Way → Type 0
Goes a K = (s m u : List ℕ) → AreBytes s → Reads a s m → K m u → (x : List ℕ) × (read a s ≡ Some x) × K x u

pub goes_exact : (a : Syntax) (P : List ℕ → Type 0) (K : Way) → Exact a P → ((m u : List ℕ) → AreBytes m → K m u → P m) → Goes a K
goes_exact a P K exact_a ahead s m u bytes r k = (m, exact_a s m bytes r (ahead m u (bytes_kept a s m r bytes) k), k)

pub goes_sequence : (a b : Syntax) (K : Way) → Goes a (Then b K) → Goes b K → Goes (sequence a b) K
goes_sequence a b K first second s m u bytes r k =
    let x : (x : List ℕ) × (read a s ≡ Some x) × Then b K x u = first s r.0 u bytes r.1 (m, r.2, k) in
    let y : (y : List ℕ) × (read b x.0 ≡ Some y) × K y u = second x.0 x.2.0 u (bytes_kept a s x.0 (sound a s x.0 x.1) bytes) x.2.1 x.2.2 in
    (y.0, ap (option_and_then (read b)) x.1 ∙ y.1, y.2)

pub goes_choice : (a b : Syntax) (K : Way) → Goes a K → Goes b K → ((s t : List ℕ) → AreBytes s → Reads b s t → read a s ≡ None) → Goes (choice a b) K
goes_choice a b K first second none s m u bytes (inl r) k =
    let x : (x : List ℕ) × (read a s ≡ Some x) × K x u = first s m u bytes r k in
    (x.0, left_exact _ (read b s) x.0 x.1, x.2)
goes_choice a b K first second none s m u bytes (inr r) k =
    let x : (x : List ℕ) × (read b s ≡ Some x) × K x u = second s m u bytes r k in
    (x.0, right_exact (read a s) _ x.0 (none s m bytes r) x.1, x.2)

optional_goes : (a : Syntax) (K : Way) → Goes a K → ((m u : List ℕ) → AreBytes m → K m u → read a m ≡ None) → (n : ℕ) (s m u : List ℕ) → n ≤ 1 → AreBytes s → Times (Reads a) n s m → K m u → (x : List ℕ) × (read (at_most 1 a) s ≡ Some x) × K x u
optional_goes a K each none zero s m u le bytes r k =
    let h : K s u = subst (λ y. K y u) (sym r) k in
    (s, ap Some (greedy_stop (read a) 1 s (none s u bytes h)), h)
optional_goes a K each none (suc zero) s m u le bytes r k =
    let x : (x : List ℕ) × (read a s ≡ Some x) × K x u = each s r.0 u bytes r.1 (subst (λ y. K y u) (sym r.2) k) in
    (x.0, ap Some (greedy_go (read a) 0 s x.0 x.1), x.2)
optional_goes a K each none (suc (suc n)) s m u le bytes r k = absurd (omega arith)

pub goes_optional : (a : Syntax) (K : Way) → Goes a K → ((m u : List ℕ) → AreBytes m → K m u → read a m ≡ None) → Goes (at_most 1 a) K
goes_optional a K each none s m u bytes r k = optional_goes a K each none r.0 s m u r.1 bytes r.2 k

-- Bytes of a class that a way can leave out.
abbrev pub Swallows : (ℕ → Bool) → Way → Type 0
Swallows p K = (c : ℕ) (v u : List ℕ) → AreBytes (c ∷ v) → p c ≡ true → K (c ∷ v) u → K v u

absorb : (p : ℕ → Bool) (K : Way) → Swallows p K → (k : ℕ) (s u : List ℕ) → AreBytes s → K s u → K (greedy (first_of_class p) k s) u
absorb p K swallow zero s u bytes h = h
absorb p K swallow (suc k) [] u bytes h = h
absorb p K swallow (suc k) (c ∷ v) u bytes h = elim (cases_bool (p c)) [
  | inl e ↦ subst (λ y. K y u) (sym (greedy_go (first_of_class p) k (c ∷ v) v (ap (λ b. cond b (Some v) None) e)))
      (absorb p K swallow k v u bytes.1 (swallow c v u bytes e h))
  | inr e ↦ subst (λ y. K y u) (sym (greedy_stop (first_of_class p) (suc k) (c ∷ v) (ap (λ b. cond b (Some v) None) e))) h
]

swallow_times : (p : ℕ → Bool) (K : Way) → Swallows p K → (n k : ℕ) (s m u : List ℕ) → n ≤ k → AreBytes s → Times (Reads (one p)) n s m → K m u → K (greedy (first_of_class p) k s) u
swallow_times p K swallow zero k s m u le bytes r h = absorb p K swallow k s u bytes (subst (λ y. K y u) (sym r) h)
swallow_times p K swallow (suc n) zero s m u le bytes r h = absurd (omega arith)
swallow_times p K swallow (suc n) (suc k) s m u le bytes r h =
    subst (λ y. K y u) (sym (greedy_go (first_of_class p) k s r.0 (class_exact p s r.0 r.1.0 r.1.1 r.1.2)))
    (swallow_times p K swallow n k r.0 m u (omega arith) (bytes_kept (one p) s r.0 r.1 bytes) r.2 h)

pub goes_swallow : (p : ℕ → Bool) (K : Way) → Swallows p K → Goes (many (one p)) K
goes_swallow p K swallow s m u bytes r k =
    (greedy (first_of_class p) (length s) s, refl, swallow_times p K swallow r.0 (length s) s m u (times_count (one p) refl r.0 s m r.1) bytes r.1 k)

-- Any number of a.
many_none : (a : Syntax) (K : Way) → is_nullable a ≡ false → (n : ℕ) (s v u : List ℕ) → length s ≤ 0 → Times (Reads a) n s v → K v u → K s u
many_none a K strict zero s v u le r k = subst (λ y. K y u) (sym r) k
many_none a K strict (suc n) s v u le r k = absurd (omega (arith, progress_strict a s r.0 strict r.1))

many_goes : (a : Syntax) (K : Way) → is_nullable a ≡ false → Goes a (Then (many a) K) → ((m u : List ℕ) → AreBytes m → K m u → read a m ≡ None)
    → (k n : ℕ) (s v u : List ℕ) → length s ≤ k → AreBytes s → Times (Reads a) n s v → K v u → K (greedy (read a) k s) u
many_goes a K strict each none zero n s v u le bytes r k = many_none a K strict n s v u le r k
many_goes a K strict each none (suc j) zero s v u le bytes r k =
    let h : K s u = subst (λ y. K y u) (sym r) k in
    subst (λ y. K y u) (sym (greedy_stop (read a) (suc j) s (none s u bytes h))) h
many_goes a K strict each none (suc j) (suc n) s v u le bytes r k =
    let x : (x : List ℕ) × (read a s ≡ Some x) × Then (many a) K x u = each s r.0 u bytes r.1 (v, (n, r.2), k) in
    let reads : Reads a s x.0 = sound a s x.0 x.1 in
    subst (λ y. K y u) (sym (greedy_go (read a) j s x.0 x.1))
    (many_goes a K strict each none j x.2.1.0 x.0 x.2.0 u (omega (arith, progress_strict a s x.0 strict reads)) (bytes_kept a s x.0 reads bytes) x.2.1.1 x.2.2)

pub goes_many : (a : Syntax) (K : Way) → is_nullable a ≡ false → Goes a (Then (many a) K) → ((m u : List ℕ) → AreBytes m → K m u → read a m ≡ None) → Goes (many a) K
goes_many a K strict each none s m u bytes r k =
    (greedy (read a) (length s) s, refl, many_goes a K strict each none (length s) r.0 s m u (omega arith) bytes r.1 k)

-- For the functions.
pub goes_read : (r : Syntax) → Goes r Same → (s u : List ℕ) → AreBytes s → Reads r s u → read r s ≡ Some u
goes_read r goes s u bytes h =
    let x : (x : List ℕ) × (read r s ≡ Some x) × (x ≡ u) = goes s u u bytes h refl in x.1 ∙ ap Some x.2
