-- What a scanner says of the text of a line.
use Rattle.std.proofs.Common.{◌≡◌, Bool, List, MatchOption, None, Option, Some, drop, false, subst, sym, ℕ}
use Rattle.std.specs.Option.{is_some}
use Rattle.commonmark_syntax.specs.Language.{IsNotAt, Leaves, Syntax}

pub same_text : (a : Syntax) (found : Option ℕ) (s t : List ℕ) → s ≡ t → MatchOption found (IsNotAt a s) (λ size. Leaves a s (drop size s)) → MatchOption found (IsNotAt a t) (λ size. Leaves a t (drop size t))
same_text a found s t same exact = subst (λ x. MatchOption found (IsNotAt a x) (λ size. Leaves a x (drop size x))) same exact

pub none_found : {T : Type 0} (a : Syntax) (o : Option T) (size_of : T → ℕ) (s t : List ℕ) → s ≡ t → o ≡ None → IsNotAt a s → MatchOption o (IsNotAt a t) (λ x. Leaves a t (drop (size_of x) t))
none_found a o size_of s t same none missing = subst (λ x. MatchOption x (IsNotAt a t) (λ y. Leaves a t (drop (size_of y) t))) (sym none) (subst (IsNotAt a) same missing)

pub not_there : (a : Syntax) (found : Option ℕ) (b : Bool) (s t : List ℕ) → s ≡ t → b ≡ is_some found → MatchOption found (IsNotAt a s) (λ size. Leaves a s (drop size s)) → b ≡ false → IsNotAt a t
not_there a None b s t same is exact missing = subst (IsNotAt a) same exact
not_there a (Some size) b s t same is exact missing = cc
