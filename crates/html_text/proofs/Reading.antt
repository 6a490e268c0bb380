-- What the tokenizer reads in pieces of a page: texts, values and numbers.
use Rattle.std.proofs.Common.{◌≡◌, ℕ, ◌+◌, ◌<◌, ◌≤◌, ◌^◌, ◌==◌, ◌%◌, Bool, true, false, List, [], ◌∷◌, ◌++◌, Option, None, Some, if◌then◌else◌, codes, refl, sym, ap, ◌∙◌, arith, append-nil, append_assoc}
use Rattle.std.proofs.lemmas.Bool.{cond_both, eqb-true, ne_eqb, le-leb, and_parts, and_from}
use Rattle.std.proofs.lemmas.Fmt.{decimal_by_steps}
use Rattle.std.specs.Fmt.{decimal}
use Rattle.std.specs.List.{list_all}
use Rattle.html_text.specs.Escapes.{escape, escaped}
use Rattle.html_text.specs.Safe.{Allowed, State, after_front, after_value, begins_with, content, in_value, may_be, run, step}
use Rattle.html_text.specs.Urls.{between}

-- a text takes the tokenizer from one state to another
pub record Reads (allowed : Allowed) (from : State) (piece : List ℕ) (to : State) : Type 0 where
  pub is : run allowed from piece ≡ to

module _ (allowed : Allowed) where
  run-append : (state : State) (a b : List ℕ) → run allowed state (a ++ b) ≡ run allowed (run allowed state a) b
  run-append state [] b = refl
  run-append state (c ∷ a) b = run-append (step allowed state c) a b

  pub both : {s m e : State} {a b : List ℕ} → Reads allowed s a m → Reads allowed m b e → Reads allowed s (a ++ b) e
  both {s} {m} {e} {a} {b} p q = record { is = run-append s a b ∙ ap (λ (t : State). run allowed t b) p.is ∙ q.is }

  pub fixed : (s : State) (a : List ℕ) → Reads allowed s a (run allowed s a)
  fixed s a = record { is = refl }

  -- texts between tags

  plain_in_content : (up : List (List ℕ)) (b : ℕ) → (b == 60) ≡ false → (b == 38) ≡ false → (b == 62) ≡ false → run allowed (content up) (b ∷ []) ≡ content up
  plain_in_content up b lt amp gt = rw (lt, amp, gt) refl

  escape_in_content : (up : List (List ℕ)) (b : ℕ) → run allowed (content up) (escape b) ≡ content up
  unfolding escape
  escape_in_content up b =
      let P : List ℕ → Type 0 = λ e. run allowed (content up) e ≡ content up in
      cond_both (b == 38) _ _ P (λ _. refl) (λ amp.
      cond_both (b == 60) _ _ P (λ _. refl) (λ lt.
      cond_both (b == 62) _ _ P (λ _. refl) (λ gt.
      cond_both (b == 34) _ _ P (λ _. refl) (λ _. plain_in_content up b lt amp gt))))

  escaped_in_content : (up : List (List ℕ)) (value : List ℕ) → run allowed (content up) (escaped value) ≡ content up
  escaped_in_content up [] = refl
  escaped_in_content up (b ∷ value) = run-append (content up) (escape b) (escaped value) ∙ ap (λ (s : State). run allowed s (escaped value)) (escape_in_content up b) ∙ escaped_in_content up value

  pub text_reads : (up : List (List ℕ)) (value : List ℕ) → Reads allowed (content up) (escaped value) (content up)
  text_reads up value = record { is = escaped_in_content up value }

  -- values of attributes

  module _ (up : List (List ℕ)) (name attr : List ℕ) where
    plain_in_value : (value : List ℕ) (b : ℕ) → (b == 34) ≡ false → (b == 38) ≡ false → run allowed (in_value up name attr value) (b ∷ []) ≡ in_value up name attr (value ++ (b ∷ []))
    plain_in_value value b quote amp = rw (quote, amp) refl

    as_read : (value : List ℕ) (b c : ℕ) (bytes : List ℕ) → (b == c) ≡ true → run allowed (in_value up name attr value) bytes ≡ in_value up name attr (value ++ (c ∷ [])) → run allowed (in_value up name attr value) bytes ≡ in_value up name attr (value ++ (b ∷ []))
    as_read value b c bytes is reads = reads ∙ ap (λ (n : ℕ). in_value up name attr (value ++ (n ∷ []))) (sym (eqb-true b c is))

    escape_in_value : (value : List ℕ) (b : ℕ) → run allowed (in_value up name attr value) (escape b) ≡ in_value up name attr (value ++ (b ∷ []))
    unfolding escape
    escape_in_value value b =
        let P : List ℕ → Type 0 = λ e. run allowed (in_value up name attr value) e ≡ in_value up name attr (value ++ (b ∷ [])) in
        cond_both (b == 38) _ _ P (λ is. as_read value b 38 (codes "&amp;") is refl) (λ amp.
        cond_both (b == 60) _ _ P (λ is. as_read value b 60 (codes "&lt;") is refl) (λ _.
        cond_both (b == 62) _ _ P (λ is. as_read value b 62 (codes "&gt;") is refl) (λ _.
        cond_both (b == 34) _ _ P (λ is. as_read value b 34 (codes "&quot;") is refl) (λ quote. plain_in_value value b quote amp))))

    escaped_in_value : (value more : List ℕ) → run allowed (in_value up name attr value) (escaped more) ≡ in_value up name attr (value ++ more)
    escaped_in_value value [] = ap (λ (v : List ℕ). in_value up name attr v) (sym (append-nil value))
    escaped_in_value value (b ∷ more) =
        run-append (in_value up name attr value) (escape b) (escaped more)
        ∙ ap (λ (s : State). run allowed s (escaped more)) (escape_in_value value b)
        ∙ escaped_in_value (value ++ (b ∷ [])) more
        ∙ ap (λ (v : List ℕ). in_value up name attr v) (append_assoc value (b ∷ []) more)

    pub value_reads : (value : List ℕ) → Reads allowed (in_value up name attr []) (escaped value) (in_value up name attr value)
    value_reads value = record { is = escaped_in_value [] value }

    pub value_ends : (value : List ℕ) → may_be allowed attr value ≡ true → Reads allowed (in_value up name attr value) (codes "\"") (after_value up name)
    value_ends value fits = record { is = rw fits refl }

  -- numbers between tags

  digit_in_content : (up : List (List ℕ)) (b : ℕ) → 48 ≤ b → b ≤ 57 → run allowed (content up) (b ∷ []) ≡ content up
  digit_in_content up b low high = plain_in_content up b (ne_eqb b 60 (λ e. omega (arith, e, high))) (ne_eqb b 38 (λ e. omega (arith, e, low))) (ne_eqb b 62 (λ e. omega (arith, e, high)))

  digits_in_content : (up : List (List ℕ)) (n : ℕ) → n < 2 ^ 64 → run allowed (content up) (decimal n) ≡ content up
  digits_in_content up =
      decimal_by_steps (λ n digits. run allowed (content up) digits ≡ content up)
      (λ n low. digit_in_content up (48 + n) (omega (arith, low)) (omega (arith, low)))
      (λ n digits high so_far.
      run-append (content up) digits ((48 + n % 10) ∷ [])
      ∙ ap (λ (s : State). run allowed s ((48 + n % 10) ∷ [])) so_far
      ∙ digit_in_content up (48 + n % 10) (omega arith) (omega arith))

  pub number_reads : (up : List (List ℕ)) (n : ℕ) → n < 2 ^ 64 → Reads allowed (content up) (decimal n) (content up)
  number_reads up n low = record { is = digits_in_content up n low }

-- the digits of a number

is_digit : (b : ℕ) → 48 ≤ b → b ≤ 57 → between 48 57 b ≡ true
is_digit b low high = rw (le-leb 48 b low, le-leb b 57 high) refl

all-append : (p : ℕ → Bool) (xs ys : List ℕ) → list_all p xs ≡ true → list_all p ys ≡ true → list_all p (xs ++ ys) ≡ true
all-append p [] ys _ second = second
all-append p (x ∷ xs) ys first second = let parts = and_parts (p x) (list_all p xs) first in and_from (p x) (list_all p (xs ++ ys)) parts.0 (all-append p xs ys parts.1 second)

pub digits_are : (n : ℕ) → n < 2 ^ 64 → list_all (between 48 57) (decimal n) ≡ true
digits_are =
    decimal_by_steps (λ n digits. list_all (between 48 57) digits ≡ true)
    (λ n low. rw (is_digit (48 + n) (omega (arith, low)) (omega (arith, low))) refl)
    (λ n digits high so_far. all-append (between 48 57) digits ((48 + n % 10) ∷ []) so_far (rw (is_digit (48 + n % 10) (omega arith) (omega arith)) refl))

-- texts that begin with another

same_byte : (b : ℕ) → (b == b) ≡ true
same_byte b = grind (arith)

after_front-append : (front text : List ℕ) → after_front front (front ++ text) ≡ Some text
after_front-append [] text = refl
after_front-append (b ∷ front) text = ap (λ (same : Bool). if same then after_front front (front ++ text) else None) (same_byte b) ∙ after_front-append front text

pub begins-append : (front text : List ℕ) → begins_with front (front ++ text) ≡ true
begins-append front text = ap (λ (o : Option (List ℕ)). elim o [ None ↦ false | Some _ ↦ true ]) (after_front-append front text)
