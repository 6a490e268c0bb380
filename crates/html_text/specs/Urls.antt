-- Addresses: how they are written in a page, which scheme a browser reads in one (URL Standard), and which schemes are allowed.
use Rattle.std.specs.Prelude.{ℕ, ◌+◌, ◌/◌, ◌%◌, Bool, true, ◌&&◌, ◌||◌, List, [], ◌∷◌, ◌++◌, Option, Some, None, if◌then◌else◌, ◌==◌, nat_le, codes}
use Rattle.std.specs.List.{flat_map, list_any}
use Rattle.std.specs.Str.{bytes_eq}

-- a text is one of these
abbrev pub one_of : List (List ℕ) → List ℕ → Bool
one_of texts text = list_any (bytes_eq text) texts

-- a byte in this range
abbrev pub between : ℕ → ℕ → ℕ → Bool
between low high b = nat_le low b && nat_le b high

-- an ASCII letter in lower case, and any other byte as it is
abbrev pub lower : ℕ → ℕ
lower b = if between 65 90 b then b + 32 else b

-- an ASCII letter
abbrev pub is_letter : ℕ → Bool
is_letter b = between 65 90 b || between 97 122 b

-- a byte of a scheme, after its first: a letter, a digit, `+`, `-` or `.`
abbrev pub is_scheme_byte : ℕ → Bool
is_scheme_byte b = is_letter b || between 48 57 b || b == 43 || b == 45 || b == 46

-- a byte that browsers remove from an address, wherever it is: a tab, an LF or a CR
abbrev pub is_taken_out : ℕ → Bool
is_taken_out b = b == 9 || b == 10 || b == 13

-- the scheme of an address, in lower case, of which some has been read; none if the address is relative
abbrev pub scheme_from : List ℕ → List ℕ → Option (List ℕ)
scheme_from read [] = None
scheme_from read (b ∷ rest) =
    if is_taken_out b then scheme_from read rest
    else (if is_scheme_byte b then scheme_from (read ++ (lower b ∷ [])) rest
    else (if b == 58 then Some read
    else None))

-- the scheme of an address: control characters and spaces before it are skipped, and its first byte is a letter
abbrev pub scheme : List ℕ → Option (List ℕ)
scheme [] = None
scheme (b ∷ rest) =
    if nat_le b 32 then scheme rest
    else (if is_letter b then scheme_from (lower b ∷ []) rest
    else None)

-- no scheme, or one of these
abbrev pub has_none_or : List (List ℕ) → Option (List ℕ) → Bool
has_none_or schemes None = true
has_none_or schemes (Some read) = one_of schemes read

-- the schemes of links, and those of images
abbrev pub link_schemes : List (List ℕ)
link_schemes = codes "http" ∷ codes "https" ∷ codes "mailto" ∷ codes "irc" ∷ codes "ircs" ∷ codes "xmpp" ∷ []

abbrev pub image_schemes : List (List ℕ)
image_schemes = codes "http" ∷ codes "https" ∷ []

-- an address that is allowed in a link, or in an image
unfoldable pub is_safe_link : List ℕ → Bool
is_safe_link url = has_none_or link_schemes (scheme url)

unfoldable pub is_safe_source : List ℕ → Bool
is_safe_source url = has_none_or image_schemes (scheme url)

-- a byte that is written in an address as it is
abbrev pub is_url_byte : ℕ → Bool
is_url_byte b = b == 33 || between 35 59 b || b == 61 || between 63 90 b || b == 95 || between 97 122 b || b == 126

-- a hexadecimal digit, in upper case
abbrev pub upper_digit : ℕ → ℕ
upper_digit d = if nat_le d 9 then 48 + d else 55 + d

-- a byte of an address, encoded
unfoldable pub percent : ℕ → List ℕ
percent b = if is_url_byte b then b ∷ [] else 37 ∷ upper_digit (b / 16) ∷ upper_digit (b % 16) ∷ []

-- an address, encoded
abbrev pub encoded : List ℕ → List ℕ
encoded url = flat_map percent url
