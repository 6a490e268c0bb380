-- Case folding of a text in ASCII.
use Rattle.std.proofs.Common.{◌≡◌, ◌<◌, ◌++◌, ℕ, List, [], ◌∷◌, suc, map, chars, encode_utf8_all, IsAscii, refl, sym, ap, ap₂, ◌∙◌, arith}
use Rattle.std.proofs.lemmas.Bool.Decides.{nat_tests}
use Rattle.std.specs.Char.{to_ascii_lowercase}
use Rattle.std.proofs.lemmas.Str.{chars-IsAscii, encode_ascii}
use Rattle.std.proofs.lemmas.Str.Ascii.{All-from_ascii}
use Rattle.caseless.specs.Caseless.{default_case_fold}
use Rattle.caseless.proofs.CaselessLemmas.{default_case_fold-ascii}

-- a letter of ASCII is one in lower case, too
lower : (c : ℕ) → c < 128 → to_ascii_lowercase c < 128
lower c is = grind (arith, nat_tests)

-- characters of ASCII are their own bytes
own_bytes : (bs : List ℕ) → IsAscii bs → encode_utf8_all (map to_ascii_lowercase bs) ≡ map to_ascii_lowercase bs
own_bytes [] ascii = refl
own_bytes (b ∷ bs) ascii = ap₂ (λ (s t : List ℕ). s ++ t) (encode_ascii (to_ascii_lowercase b) (lower b (ascii 0))) (own_bytes bs (λ i. ascii (suc i)))

pub folded_ascii : (bs : List ℕ) → IsAscii bs → encode_utf8_all (default_case_fold (chars bs)) ≡ map to_ascii_lowercase bs
folded_ascii bs ascii =
    let all = All-from_ascii bs ascii in
    ap (λ cs. encode_utf8_all (default_case_fold cs)) (chars-IsAscii bs ascii) ∙ ap encode_utf8_all (default_case_fold-ascii bs all) ∙ own_bytes bs ascii
