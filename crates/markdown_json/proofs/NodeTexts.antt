-- The text of a node, put together from the parts that are appended.
use Rattle.std.proofs.Common.{◌≡◌, ◌++◌, List, ℕ, refl, append_assoc}

pub two : (old a b x : List ℕ) → x ≡ old ++ a → x ++ b ≡ old ++ (a ++ b)
two old a b x x-is = rw x-is (append_assoc old a b)

pub three : (old a b c x y : List ℕ) → x ≡ old ++ a → y ≡ x ++ b → y ++ c ≡ old ++ (a ++ b ++ c)
three old a b c x y x-is y-is = rw (y-is, x-is) (simp append_assoc refl)

pub four : (old a b c d x y z : List ℕ) → x ≡ old ++ a → y ≡ x ++ b → z ≡ y ++ c → z ++ d ≡ old ++ (a ++ b ++ c ++ d)
four old a b c d x y z x-is y-is z-is = rw (z-is, y-is, x-is) (simp append_assoc refl)
