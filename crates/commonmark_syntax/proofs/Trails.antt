-- What extended autolinks do not end with: it is taken from the end of a path, piece by piece.
use Rattle.std.proofs.Common.{◌≡◌, ℕ, zero, suc, ◌+◌, ◌-◌, ◌<◌, ◌≤◌, Bool, true, false, cond, ◌⊎◌, List, [], ◌∷◌, ◌++◌, drop, take, length, slice_index, Option, Some, None, refl, inl, inr, sym, ◌∙◌, ap, subst, arith, length-append, length-drop, ◌==◌}
use Rattle.std.specs.Prelude.{filter, nat_le, ◌&&◌}
use Rattle.std.specs.Option.{option_or}
use Rattle.std.specs.Prelude.{option_and_then}
use Rattle.std.proofs.Math.Seq.{take-append_seam}
use Rattle.std.proofs.lemmas.Bool.Decides.{nat_tests}
use Rattle.std.proofs.lemmas.List.{append_assoc, append-nil, get_or-append-add, get_or-drop, take-append-drop}
use Rattle.commonmark_syntax.specs.ExtendedAutolinks.{EndsWithName, how_many, is_trail, is_trailing, is_whole, may_drop, reference_like, trail, trail_piece, trimmed, without_trail}
use Rattle.commonmark_syntax.specs.Language.{Reads, Times, all, are_all, one, ◌then◌, ◌or◌}
use Rattle.commonmark_syntax.specs.Reading.{behind_run, read}
use Rattle.commonmark_syntax.specs.Syntax.{byte, is_alphanumeric}
use Rattle.commonmark_syntax.proofs.Loops.{many_done, many_on}
use Rattle.commonmark_syntax.proofs.Sound.{run_split, sound}
use Rattle.commonmark_syntax.proofs.Tests.{and_both, and_parts, cases_bool, same_number}

-- ---- Pieces

pub trail_on : (s u : List ℕ) → read trail_piece s ≡ Some u → is_trail s ≡ is_trail u
trail_on s u e = ap (λ x. is_whole (Some x)) (sym (many_on trail_piece s u refl e))

pub mark_read : (c : ℕ) (u : List ℕ) → is_trailing c ≡ true → read trail_piece (c ∷ u) ≡ Some u
mark_read c u e = ap (λ b. option_or (cond b (Some u) None) (read (byte 41 or reference_like) (c ∷ u))) e

behind_name : (name u : List ℕ) → are_all is_alphanumeric name ≡ true → behind_run is_alphanumeric (name ++ 59 ∷ u) ≡ 59 ∷ u
behind_name name u every = run_split is_alphanumeric name (59 ∷ u) every refl

pub reference_read : (name u : List ℕ) → 0 < length name → are_all is_alphanumeric name ≡ true → read trail_piece (38 ∷ (name ++ 59 ∷ u)) ≡ Some u
reference_read [] u some every = absurd (omega arith)
reference_read (c ∷ name) u some every =
    let parts : (is_alphanumeric c ≡ true) × (are_all is_alphanumeric name ≡ true) = and_parts _ _ every in
    ap (λ b. option_and_then (read (all is_alphanumeric then byte 59)) (cond b (Some (name ++ 59 ∷ u)) None)) parts.0
    ∙ ap (read (byte 59)) (behind_name name u parts.1)

-- no letter and no digit begins a piece
no_mark : (c : ℕ) → is_alphanumeric c ≡ true → is_trailing c ≡ false
no_mark c e = grind (arith, nat_tests)

no_parenthesis : (c : ℕ) → is_alphanumeric c ≡ true → (c == 41) ≡ false
no_parenthesis c e = grind (arith, nat_tests)

no_ampersand : (c : ℕ) → is_alphanumeric c ≡ true → (c == 38) ≡ false
no_ampersand c e = grind (arith, nat_tests)

none_read : (c : ℕ) (u : List ℕ) → is_alphanumeric c ≡ true → read trail_piece (c ∷ u) ≡ None
none_read c u e =
    ap (λ b. option_or (cond b (Some u) None) (read (byte 41 or reference_like) (c ∷ u))) (no_mark c e)
    ∙ (ap (λ b. option_or (cond b (Some u) None) (read reference_like (c ∷ u))) (no_parenthesis c e)
    ∙ ap (λ b. option_and_then (read (one is_alphanumeric then all is_alphanumeric then byte 59)) (cond b (Some u) None)) (no_ampersand c e))

-- nor is the rest of a name a trail
no_trail : (c : ℕ) (name u : List ℕ) → are_all is_alphanumeric (c ∷ name) ≡ true → is_trail ((c ∷ name) ++ 59 ∷ u) ≡ false
no_trail c name u every =
    let parts : (is_alphanumeric c ≡ true) × (are_all is_alphanumeric name ≡ true) = and_parts _ _ every in
    ap (λ x. is_whole (Some x)) (many_done trail_piece (c ∷ (name ++ 59 ∷ u)) (none_read c (name ++ 59 ∷ u) parts.0))

-- ---- Numbers of parentheses

pub counted : (c x : ℕ) (u : List ℕ) (b : Bool) → (x == c) ≡ b → how_many c (x ∷ u) ≡ cond b (suc (how_many c u)) (how_many c u)
counted c x u true e = ap (λ b. length (cond b (x ∷ filter (λ y. y == c) u) (filter (λ y. y == c) u))) e
counted c x u false e = ap (λ b. length (cond b (x ∷ filter (λ y. y == c) u) (filter (λ y. y == c) u))) e

pub more_counted : (c x : ℕ) (u : List ℕ) → how_many c u ≤ how_many c (x ∷ u)
more_counted c x u = elim (cases_bool (x == c)) [
  | inl e ↦ omega (arith, counted c x u true e)
  | inr e ↦ omega (arith, counted c x u false e)
]

pub longer_counted : (c : ℕ) (w u : List ℕ) → how_many c u ≤ how_many c (w ++ u)
longer_counted c [] u = omega arith
longer_counted c (x ∷ w) u = omega (arith, longer_counted c w u, more_counted c x (w ++ u))

name_uncounted : (name u : List ℕ) → are_all is_alphanumeric name ≡ true → how_many 41 (name ++ 59 ∷ u) ≡ how_many 41 u
name_uncounted [] u every = refl
name_uncounted (c ∷ name) u every =
    let parts : (is_alphanumeric c ≡ true) × (are_all is_alphanumeric name ≡ true) = and_parts _ _ every in
    counted 41 c (name ++ 59 ∷ u) false (no_parenthesis c parts.0) ∙ name_uncounted name u parts.1

-- ---- The end of a text from which nothing is taken

-- no reference goes on from one part into the other, which is a semicolon and more
abbrev pub IsApart : (r u : List ℕ) → Type 0
IsApart r u = (t front : List ℕ) → u ≡ 59 ∷ t → EndsWithName r front → ⊥

pub record IsDone (unmatched : ℕ) (r u : List ℕ) : Type 0 where
  pub mark : (front : List ℕ) (c : ℕ) → r ≡ front ++ c ∷ [] → is_trailing c ≡ false
  pub parenthesis : (front : List ℕ) → r ≡ front ++ 41 ∷ [] → unmatched ≡ 0
  pub reference : (front name : List ℕ) → r ≡ front ++ (38 ∷ (name ++ 59 ∷ [])) → 0 < length name → are_all is_alphanumeric name ≡ true → ⊥
  pub semicolon : IsApart r u

done_behind : (n : ℕ) (w r u : List ℕ) → IsDone n (w ++ r) u → IsDone n r u
done_behind n w r u it = record {
  mark = λ front c e. it.mark (w ++ front) c (ap (λ (x : List ℕ). w ++ x) e ∙ sym (append_assoc w front (c ∷ [])));
  parenthesis = λ front e. it.parenthesis (w ++ front) (ap (λ (x : List ℕ). w ++ x) e ∙ sym (append_assoc w front (41 ∷ [])));
  reference = λ front name e some every. it.reference (w ++ front) name (ap (λ (x : List ℕ). w ++ x) e ∙ sym (append_assoc w front (38 ∷ (name ++ 59 ∷ [])))) some every;
  semicolon = λ t front is named. it.semicolon t (w ++ front) is (named.0, ap (λ (x : List ℕ). w ++ x) named.1 ∙ sym (append_assoc w front (38 ∷ named.0)), named.2, named.3);
}

-- where a name and a semicolon end: in the first part, or in the second
abbrev EndsIn : (name r u t : List ℕ) → Type 0
EndsIn name r u t = ((v : List ℕ) × (r ≡ name ++ 59 ∷ v) × (t ≡ v ++ u)) ⊎ ((rest : List ℕ) × (u ≡ rest ++ 59 ∷ t) × (are_all is_alphanumeric rest ≡ true) × (name ≡ r ++ rest))

one_longer : (c : ℕ) (name r u t : List ℕ) → EndsIn name r u t → EndsIn (c ∷ name) (c ∷ r) u t
one_longer c name r u t (inl x) = inl (x.0, ap (λ (y : List ℕ). c ∷ y) x.1, x.2)
one_longer c name r u t (inr x) = inr (x.0, x.1, x.2, ap (λ (y : List ℕ). c ∷ y) x.3)

ends_in : (name r u t : List ℕ) → are_all is_alphanumeric name ≡ true → r ++ u ≡ name ++ 59 ∷ t → EndsIn name r u t
ends_in name [] u t every e = inr (name, e, every, refl)
ends_in [] (y ∷ r) u t every e = (let first : y ≡ 59 = cc in let rest : r ++ u ≡ t = cc in inl (r, ap (λ z. z ∷ r) first, sym rest))
ends_in (c ∷ name) (y ∷ r) u t every e =
    let parts : (is_alphanumeric c ≡ true) × (are_all is_alphanumeric name ≡ true) = and_parts _ _ every in
    let first : y ≡ c = cc in
    let rest : r ++ u ≡ name ++ 59 ∷ t = cc in
    subst (λ z. EndsIn (c ∷ name) (z ∷ r) u t) (sym first) (one_longer c name r u t (ends_in name r u t parts.1 rest))

-- No trail goes on beyond there, but with a parenthesis that is not to be taken.
abbrev IsOver : (n : ℕ) (r u : List ℕ) → Type 0
IsOver n r u = n + how_many 41 u < how_many 41 (r ++ u)

over_more : (n c : ℕ) (r u : List ℕ) → IsOver n r u → IsOver n (c ∷ r) u
over_more n c r u h = omega (arith, h, more_counted 41 c (r ++ u))

over_longer : (n : ℕ) (w r u : List ℕ) → IsOver n r u → IsOver n (w ++ r) u
over_longer n w r u h = (let same = ap (how_many 41) (append_assoc w r u) in omega (arith, h, longer_counted 41 w (r ++ u), same))

-- the same of fewer pieces
abbrev Fewer : (m n : ℕ) (u : List ℕ) → Type 0
Fewer m n u = (r : List ℕ) → 0 < length r → IsDone n r u → Times (Reads trail_piece) m (r ++ u) [] → IsOver n r u

over_behind : (m n c : ℕ) (r u t : List ℕ) → Fewer m n u → IsDone n (c ∷ r) u → t ≡ r ++ u → Times (Reads trail_piece) m t [] → (r ≡ [] → IsOver n (c ∷ r) u) → IsOver n (c ∷ r) u
over_behind m n c [] u t fewer done same more last = last refl
over_behind m n c (d ∷ r) u t fewer done same more last =
    over_more n c (d ∷ r) u (fewer (d ∷ r) (omega arith) (done_behind n (c ∷ []) (d ∷ r) u done) (subst (λ x. Times (Reads trail_piece) m x []) same more))

over_mark : (m n c : ℕ) (r u t : List ℕ) → Fewer m n u → IsDone n (c ∷ r) u → Reads (one is_trailing) (c ∷ (r ++ u)) t → Times (Reads trail_piece) m t [] → IsOver n (c ∷ r) u
over_mark m n c r u t fewer done reads more =
    let first : c ≡ reads.0 = (let e = reads.2 in cc) in
    let rest : t ≡ r ++ u = (let e = reads.2 in cc) in
    let is : is_trailing c ≡ true = ap is_trailing first ∙ reads.1 in
    over_behind m n c r u t fewer done rest more (λ e. (let k : is_trailing c ≡ false = done.mark [] c (ap (λ x. c ∷ x) e) in cc))

over_parenthesis : (m n c : ℕ) (r u t : List ℕ) → Fewer m n u → IsDone n (c ∷ r) u → Reads (byte 41) (c ∷ (r ++ u)) t → Times (Reads trail_piece) m t [] → IsOver n (c ∷ r) u
over_parenthesis m n c r u t fewer done reads more =
    let first : c ≡ reads.0 = (let e = reads.2 in cc) in
    let rest : t ≡ r ++ u = (let e = reads.2 in cc) in
    let is : c ≡ 41 = first ∙ same_number reads.0 41 reads.1 in
    over_behind m n c r u t fewer done rest more (λ e.
    (let none : n ≡ 0 = done.parenthesis [] (ap (λ x. c ∷ x) e ∙ ap (λ x. x ∷ []) is) in
    let k : how_many 41 (c ∷ (r ++ u)) ≡ suc (how_many 41 (r ++ u)) = counted 41 c (r ++ u) true (ap (λ x. x == 41) is) in
    let l : how_many 41 (r ++ u) ≡ how_many 41 u = ap (λ (x : List ℕ). how_many 41 (x ++ u)) e in
    omega (arith, none, k, l)))

over_name : (m n : ℕ) (name v u t : List ℕ) → Fewer m n u → 0 < length name → are_all is_alphanumeric name ≡ true → IsDone n (38 ∷ (name ++ 59 ∷ v)) u → t ≡ v ++ u → Times (Reads trail_piece) m t [] → IsOver n (38 ∷ (name ++ 59 ∷ v)) u
over_name m n name [] u t fewer some every done same more = absurd (done.reference [] name refl some every)
over_name m n name (d ∷ v) u t fewer some every done same more =
    let parts : (38 ∷ (name ++ 59 ∷ [])) ++ (d ∷ v) ≡ 38 ∷ (name ++ 59 ∷ (d ∷ v)) = ap (λ (x : List ℕ). 38 ∷ x) (append_assoc name (59 ∷ []) (d ∷ v)) in
    let behind : IsDone n (d ∷ v) u = done_behind n (38 ∷ (name ++ 59 ∷ [])) (d ∷ v) u (subst (λ x. IsDone n x u) (sym parts) done) in
    subst (λ x. IsOver n x u) parts
    (over_longer n (38 ∷ (name ++ 59 ∷ [])) (d ∷ v) u (fewer (d ∷ v) (omega arith) behind (subst (λ x. Times (Reads trail_piece) m x []) same more)))

-- a name that would go on into the other part
between : (n : ℕ) (r u t name rest : List ℕ) → is_trail u ≡ true → IsDone n (38 ∷ r) u → u ≡ rest ++ 59 ∷ t → are_all is_alphanumeric rest ≡ true → name ≡ r ++ rest → 0 < length name → are_all is_alphanumeric name ≡ true → ⊥
between n r u t name [] trails done is every same some letters = done.semicolon t [] is (name, ap (λ (x : List ℕ). 38 ∷ x) (sym (same ∙ append-nil r)), letters, some)
between n r u t name (c ∷ rest) trails done is every same some letters =
    let k : is_trail u ≡ false = ap is_trail is ∙ no_trail c rest t every in
    let l : true ≡ false = sym trails ∙ k in cc

over_reference : (m n c : ℕ) (r u t : List ℕ) → Fewer m n u → is_trail u ≡ true → IsDone n (c ∷ r) u → Reads reference_like (c ∷ (r ++ u)) t → Times (Reads trail_piece) m t [] → IsOver n (c ∷ r) u
over_reference m n c r u t fewer trails done reads more =
    let sign = reads.1 in
    let letter = reads.2.1 in
    let letters = reads.2.2.1 in
    let closing = reads.2.2.2 in
    let is : c ≡ 38 = (let e = sign.2 in let k : c ≡ sign.0 = cc in k ∙ same_number sign.0 38 sign.1) in
    let name : List ℕ = letter.0 ∷ letters.0 in
    let semicolon : closing.0 ≡ 59 = same_number closing.0 59 closing.1 in
    let every : are_all is_alphanumeric name ≡ true = and_both _ _ letter.1 letters.2 in
    let rest : r ++ u ≡ reads.0 = (let e = sign.2 in cc) in
    let whole : r ++ u ≡ name ++ 59 ∷ t =
    rest ∙ letter.2 ∙ ap (λ x. letter.0 ∷ x) (letters.1 ∙ ap (λ (x : List ℕ). letters.0 ++ x) (closing.2 ∙ ap (λ x. x ∷ t) semicolon)) in
    elim (ends_in name r u t every whole) [
      | inl x ↦ (let same : c ∷ r ≡ 38 ∷ (name ++ 59 ∷ x.0) = ap (λ y. y ∷ r) is ∙ ap (λ (y : List ℕ). 38 ∷ y) x.1 in
          subst (λ y. IsOver n y u) (sym same) (over_name m n name x.0 u t fewer (omega arith) every (subst (λ y. IsDone n y u) same done) x.2 more))
      | inr x ↦ absurd (between n r u t name x.0 trails (subst (λ y. IsDone n (y ∷ r) u) is done) x.1 x.2 x.3 (omega arith) every)
    ]

over_piece : (m n c : ℕ) (r u t : List ℕ) → Fewer m n u → is_trail u ≡ true → IsDone n (c ∷ r) u → Reads trail_piece (c ∷ (r ++ u)) t → Times (Reads trail_piece) m t [] → IsOver n (c ∷ r) u
over_piece m n c r u t fewer trails done (inl x) more = over_mark m n c r u t fewer done x more
over_piece m n c r u t fewer trails done (inr (inl x)) more = over_parenthesis m n c r u t fewer done x more
over_piece m n c r u t fewer trails done (inr (inr x)) more = over_reference m n c r u t fewer trails done x more

is_over : (m n : ℕ) (r u : List ℕ) → is_trail u ≡ true → 0 < length r → IsDone n r u → Times (Reads trail_piece) m (r ++ u) [] → IsOver n r u
is_over zero n [] u trails some done e = absurd (omega arith)
is_over zero n (c ∷ r) u trails some done e = (let k : c ∷ (r ++ u) ≡ [] = e in cc)
is_over (suc m) n [] u trails some done reads = absurd (omega arith)
is_over (suc m) n (c ∷ r) u trails some done reads =
    over_piece m n c r u reads.0 (λ x more_than it times. is_over m n x u trails more_than it times) trails done reads.1 reads.2

whole_none : (o : Option (List ℕ)) → is_whole o ≡ true → o ≡ Some []
whole_none None e = cc
whole_none (Some []) e = refl
whole_none (Some (c ∷ u)) e = cc

pub le_false : (a b : ℕ) → b < a → nat_le a b ≡ false
le_false a b less = grind (arith, nat_tests)

pub le_true : (a b : ℕ) → a ≤ b → nat_le a b ≡ true
le_true a b le = grind (arith, nat_tests)

and_second : (a b : Bool) → b ≡ false → (a && b) ≡ false
and_second true b e = e
and_second false b e = refl

and_first : (a b : Bool) → a ≡ false → (a && b) ≡ false
and_first true b e = cc
and_first false b e = refl

stays : (k n : ℕ) (r u : List ℕ) → 0 < length r → IsDone k r u → is_trail u ≡ true → k + how_many 41 u ≡ n → may_drop n (r ++ u) ≡ false
stays k n r u some done trails sum = elim (cases_bool (is_trail (r ++ u))) [
  | inl e ↦ (let reads : Reads trail (r ++ u) [] = sound trail (r ++ u) [] (whole_none (read trail (r ++ u)) e) in
      let over : IsOver k r u = is_over reads.0 k r u trails some done reads.1 in
      and_second _ _ (le_false (how_many 41 (r ++ u)) n (omega (arith, over, sum))))
  | inr e ↦ and_first _ _ e
]

-- ---- What is left of a path

drops_all : (n : ℕ) (u : List ℕ) → is_trail u ≡ true → how_many 41 u ≤ n → without_trail n u ≡ []
drops_all n [] trails few = refl
drops_all n (c ∷ u) trails few =
    ap (λ b. cond b [] (c ∷ without_trail n u)) (and_both _ _ trails (le_true (how_many 41 (c ∷ u)) n few))

left_of : (k n : ℕ) (r u : List ℕ) → IsDone k r u → is_trail u ≡ true → k + how_many 41 u ≡ n → without_trail n (r ++ u) ≡ r
left_of k n [] u done trails sum = drops_all n u trails (omega (arith, sum))
left_of k n (c ∷ r) u done trails sum =
    ap (λ b. cond b [] (c ∷ without_trail n (r ++ u))) (stays k n (c ∷ r) u (omega arith) done trails sum)
    ∙ ap (λ x. c ∷ x) (left_of k n r u (done_behind k (c ∷ []) r u done) trails sum)

-- what is left of a path, from which a trail has been taken, with so many parentheses still to be taken
pub record TrimsTo (path rest : List ℕ) (unmatched : ℕ) : Type 0 where
  pub taken : List ℕ
  pub whole : path ≡ rest ++ taken
  pub trails : is_trail taken ≡ true
  pub apart : IsApart rest taken
  pub counted : unmatched + how_many 41 taken ≡ how_many 41 path - how_many 40 path
  pub next : length rest < length path → slice_index path (length rest) < 128

byte_behind : (front w path : List ℕ) (c : ℕ) → path ≡ front ++ c ∷ w → slice_index path (length front) ≡ c
byte_behind [] w path c e = ap (λ x. slice_index x 0) e
byte_behind (d ∷ front) w path c e = ap (λ x. slice_index x (suc (length front))) e ∙ byte_behind front w (front ++ c ∷ w) c refl

-- one piece more
piece_taken : (path rest front piece : List ℕ) (c n k : ℕ) → TrimsTo path rest n → rest ≡ front ++ c ∷ piece → c < 128 → (c ≡ 59 → (f : List ℕ) → EndsWithName front f → ⊥)
    → ((u : List ℕ) → read trail_piece ((c ∷ piece) ++ u) ≡ Some u) → ((u : List ℕ) → k + how_many 41 ((c ∷ piece) ++ u) ≡ n + how_many 41 u) → TrimsTo path front k
piece_taken path rest front piece c n k it parts ascii unnamed reads counts =
    let u : List ℕ = it.taken in
    let whole : path ≡ front ++ ((c ∷ piece) ++ u) = it.whole ∙ ap (λ (x : List ℕ). x ++ u) parts ∙ append_assoc front (c ∷ piece) u in
    record {
      taken = (c ∷ piece) ++ u;
      whole = whole;
      trails = trail_on ((c ∷ piece) ++ u) u (reads u) ∙ it.trails;
      apart = λ t f is named. unnamed (let k : c ≡ 59 = cc in k) f named;
      counted = counts u ∙ it.counted;
      next = λ less. (let k = byte_behind front (piece ++ u) path c whole in omega (arith, k, ascii));
    }

pub reference_taken : (path rest front before name : List ℕ) (c n : ℕ) → TrimsTo path rest n → rest ≡ front ++ c ∷ [] → c ≡ 59 → front ≡ before ++ 38 ∷ name → are_all is_alphanumeric name ≡ true → 0 < length name → TrimsTo path before n
reference_taken path rest front before name c n it parts is named every some =
    let whole : rest ≡ before ++ 38 ∷ (name ++ 59 ∷ []) =
    parts ∙ ap (λ x. front ++ x ∷ []) is ∙ ap (λ (x : List ℕ). x ++ 59 ∷ []) named ∙ append_assoc before (38 ∷ name) (59 ∷ []) in
    let join = λ (u : List ℕ). append_assoc name (59 ∷ []) u in
    piece_taken path rest before (name ++ 59 ∷ []) 38 n n it whole (omega arith) (λ is. absurd (omega (arith, is)))
    (λ u. ap (λ (x : List ℕ). read trail_piece (38 ∷ x)) (join u) ∙ reference_read name u some every)
    (λ u. ap (λ (x : List ℕ). n + how_many 41 (38 ∷ x)) (join u) ∙ ap (λ x. n + x) (name_uncounted name u every))

trailing_ascii : (c : ℕ) → is_trailing c ≡ true → c < 128
trailing_ascii c e = grind (arith, nat_tests)

trailing_other : (c : ℕ) → is_trailing c ≡ true → (c == 41) ≡ false
trailing_other c e = grind (arith, nat_tests)

pub mark_taken : (path rest front : List ℕ) (c n : ℕ) → TrimsTo path rest n → rest ≡ front ++ c ∷ [] → is_trailing c ≡ true → (c ≡ 59 → (f : List ℕ) → EndsWithName front f → ⊥) → TrimsTo path front n
mark_taken path rest front c n it parts mark unnamed =
    piece_taken path rest front [] c n n it parts (trailing_ascii c mark) unnamed (λ u. mark_read c u mark)
    (λ u. ap (λ k. n + k) (counted 41 c u false (trailing_other c mark)))

-- no piece more
pub trims_to : (path rest : List ℕ) (n : ℕ) → (it : TrimsTo path rest n) → IsDone n rest it.taken → take (length rest) path ≡ trimmed path
trims_to path rest n it done =
    ap (take (length rest)) it.whole ∙ take-append_seam rest it.taken
    ∙ sym (ap (without_trail (how_many 41 path - how_many 40 path)) it.whole ∙ left_of n _ rest it.taken done it.trails it.counted)

-- ---- Names before a semicolon

pub all_at : (p : ℕ → Bool) (s : List ℕ) → ((k : ℕ) → k < length s → p (slice_index s k) ≡ true) → are_all p s ≡ true
all_at p [] each = refl
all_at p (c ∷ u) each = and_both _ _ (each 0 (omega arith)) (all_at p u (λ k less. each (suc k) (omega (arith, less))))

pub at_all : (p : ℕ → Bool) (s : List ℕ) (k : ℕ) → are_all p s ≡ true → k < length s → p (slice_index s k) ≡ true
at_all p [] k every less = absurd (omega (arith, less))
at_all p (c ∷ u) zero every less = (and_parts _ _ every).0
at_all p (c ∷ u) (suc k) every less = at_all p u k (and_parts _ _ every).1 (omega (arith, less))

-- the letters and digits at the end of a text are so many
pub record EndsInLetters (s : List ℕ) (n : ℕ) : Type 0 where
  pub most : n ≤ length s
  pub letters : (k : ℕ) → length s - n ≤ k → k < length s → is_alphanumeric (slice_index s k) ≡ true
  pub other : n < length s → is_alphanumeric (slice_index s (length s - n - 1)) ≡ false

pub name_there : (s front : List ℕ) (n c : ℕ) → EndsInLetters s n → take (length s - n) s ≡ front ++ c ∷ [] → 0 < n → c ≡ 38 → EndsWithName s front
name_there s front n c it parts some is =
    let i : ℕ = length s - n in
    let size : length (drop i s) ≡ n = omega (arith, length-drop i s, it.most) in
    let whole : s ≡ front ++ 38 ∷ drop i s =
    sym (take-append-drop i s) ∙ ap (λ x. x ++ drop i s) parts ∙ append_assoc front (c ∷ []) (drop i s) ∙ ap (λ x. front ++ x ∷ drop i s) is in
    (drop i s, whole, all_at is_alphanumeric (drop i s) (λ k less. ap is_alphanumeric (get_or-drop i s k 0) ∙ it.letters (i + k) (omega arith) (omega (arith, less, size, it.most))), omega (arith, size, some))

-- a name that ends a text is all these
name_size : (s front name : List ℕ) (n : ℕ) → EndsInLetters s n → s ≡ front ++ 38 ∷ name → are_all is_alphanumeric name ≡ true → n ≡ length name
name_size s front name n it whole every =
    let size : length s ≡ length front + suc (length name) = ap length whole ∙ length-append front (38 ∷ name) in
    let cases : (n < length name) ⊎ ((length name < n) ⊎ (n ≡ length name)) = grind arith in
    elim cases [
      | inl less ↦
          (let j : ℕ = length name - n - 1 in
          let place : length s - n - 1 ≡ length front + suc j = omega (arith, size, less) in
          let byte : slice_index s (length s - n - 1) ≡ slice_index name j =
          ap (λ x. slice_index x (length s - n - 1)) whole ∙ ap (slice_index (front ++ 38 ∷ name)) place ∙ get_or-append-add front (38 ∷ name) (suc j) 0 in
          let k : is_alphanumeric (slice_index s (length s - n - 1)) ≡ true = ap is_alphanumeric byte ∙ at_all is_alphanumeric name j every (omega (arith, less)) in
          let l : true ≡ false = sym k ∙ it.other (omega (arith, size, less)) in cc)
      | inr (inl more) ↦
          (let byte : slice_index s (length front) ≡ 38 = byte_behind front name s 38 whole in
          let k : is_alphanumeric (slice_index s (length front)) ≡ false = ap is_alphanumeric byte in
          let l : true ≡ false = sym (it.letters (length front) (omega (arith, size, more)) (omega (arith, size))) ∙ k in cc)
      | inr (inr same) ↦ same
    ]

pub name_front : (s front name : List ℕ) (n : ℕ) → EndsInLetters s n → s ≡ front ++ 38 ∷ name → are_all is_alphanumeric name ≡ true → (n ≡ length name) × (take (length s - n) s ≡ front ++ 38 ∷ [])
name_front s front name n it whole every =
    let same : n ≡ length name = name_size s front name n it whole every in
    let joined : s ≡ (front ++ 38 ∷ []) ++ name = whole ∙ sym (append_assoc front (38 ∷ []) name) in
    let place : length s - n ≡ length (front ++ 38 ∷ []) = omega (arith, same, ap length joined, length-append (front ++ 38 ∷ []) name) in
    (same, ap (λ x. take x s) place ∙ ap (take (length (front ++ 38 ∷ []))) joined ∙ take-append_seam (front ++ 38 ∷ []) name)

last_same : (f g : List ℕ) (c d : ℕ) → f ++ c ∷ [] ≡ g ++ d ∷ [] → c ≡ d
last_same [] [] c d e = cc
last_same [] (x ∷ []) c d e = (let k : [] ≡ d ∷ [] = cc in cc)
last_same [] (x ∷ y ∷ g) c d e = (let k : [] ≡ y ∷ (g ++ d ∷ []) = cc in cc)
last_same (x ∷ []) [] c d e = (let k : c ∷ [] ≡ [] = cc in cc)
last_same (x ∷ y ∷ f) [] c d e = (let k : y ∷ (f ++ c ∷ []) ≡ [] = cc in cc)
last_same (x ∷ f) (y ∷ g) c d e = last_same f g c d (let k : f ++ c ∷ [] ≡ g ++ d ∷ [] = cc in k)

pub front_same : (f g : List ℕ) (c d : ℕ) → f ++ c ∷ [] ≡ g ++ d ∷ [] → f ≡ g
front_same [] [] c d e = refl
front_same [] (x ∷ []) c d e = (let k : [] ≡ d ∷ [] = cc in cc)
front_same [] (x ∷ y ∷ g) c d e = (let k : [] ≡ y ∷ (g ++ d ∷ []) = cc in cc)
front_same (x ∷ []) [] c d e = (let k : c ∷ [] ≡ [] = cc in cc)
front_same (x ∷ y ∷ f) [] c d e = (let k : y ∷ (f ++ c ∷ []) ≡ [] = cc in cc)
front_same (x ∷ f) (y ∷ g) c d e =
    let k : f ++ c ∷ [] ≡ g ++ d ∷ [] = cc in
    let l : x ≡ y = cc in
    ap (λ z. z ∷ f) l ∙ ap (λ z. y ∷ z) (front_same f g c d k)

pub name_missing : (s front last : List ℕ) (n c : ℕ) → EndsInLetters s n → take (length s - n) s ≡ last ++ c ∷ [] → ((0 < n) → c ≡ 38 → ⊥) → EndsWithName s front → ⊥
name_missing s front last n c it parts missing named =
    let both = name_front s front named.0 n it named.1 named.2 in
    let some : 0 < n = omega (arith, both.0, named.3) in
    missing some (last_same last front c 38 (sym parts ∙ both.1))

pub name_nowhere : (s front : List ℕ) (n : ℕ) → EndsInLetters s n → length (take (length s - n) s) ≡ 0 → EndsWithName s front → ⊥
name_nowhere s front n it empty named =
    let both = name_front s front named.0 n it named.1 named.2 in
    omega (arith, empty, ap length both.1, length-append front (38 ∷ []))

-- ---- Where the loop ends

-- by the last byte
pub done_last : (n c : ℕ) (rest front taken : List ℕ) → rest ≡ front ++ c ∷ [] → is_trailing c ≡ false → (c ≡ 41 → n ≡ 0) → IsApart rest taken → IsDone n rest taken
done_last n c rest front taken parts mark parenthesis apart = record {
  mark = λ f d e. ap is_trailing (sym (last_same front f c d (sym parts ∙ e))) ∙ mark;
  parenthesis = λ f e. parenthesis (last_same front f c 41 (sym parts ∙ e));
  reference = λ f name e some every.
      (let joined : front ++ c ∷ [] ≡ (f ++ 38 ∷ name) ++ 59 ∷ [] = sym parts ∙ e ∙ sym (append_assoc f (38 ∷ name) (59 ∷ [])) in
      let semicolon : c ≡ 59 = last_same front (f ++ 38 ∷ name) c 59 joined in
      let k : is_trailing c ≡ true = ap is_trailing semicolon in
      let l : true ≡ false = sym k ∙ mark in cc);
  semicolon = apart;
}
