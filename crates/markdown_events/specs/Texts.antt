-- Changes to values: line endings trimmed or turned into spaces, raw text unpadded, identifiers folded.
use Rattle.std.specs.Prelude.{ℕ, ◌-◌, ◌==◌, Bool, true, false, not, ◌&&◌, ◌||◌, List, [], ◌∷◌, reverse, length, take, drop, if◌then◌else◌, nat_lt, chars, encode_utf8_all}
use Rattle.std.specs.List.{list_all}
use Rattle.caseless.specs.Caseless.{default_case_fold}

-- CR or LF
abbrev pub is_line_ending : ℕ → Bool
is_line_ending b = b == 13 || b == 10

-- a space
abbrev pub is_space : ℕ → Bool
is_space b = b == 32

-- whether the first byte is this one
abbrev pub starts_with_byte : ℕ → List ℕ → Bool
starts_with_byte c [] = false
starts_with_byte c (b ∷ bs) = b == c

-- without one CRLF, CR or LF at the start
abbrev pub without_first_line_ending : List ℕ → List ℕ
without_first_line_ending [] = []
without_first_line_ending (b ∷ []) = if is_line_ending b then [] else b ∷ []
without_first_line_ending (b ∷ c ∷ bs) = if b == 13 && c == 10 then bs else (if is_line_ending b then c ∷ bs else b ∷ c ∷ bs)

-- a reversed text, last byte first, without one CRLF, CR or LF at the end of the text
abbrev pub without_line_ending_reversed : List ℕ → List ℕ
without_line_ending_reversed [] = []
without_line_ending_reversed (b ∷ []) = if is_line_ending b then [] else b ∷ []
without_line_ending_reversed (b ∷ c ∷ bs) = if b == 10 && c == 13 then bs else (if is_line_ending b then c ∷ bs else b ∷ c ∷ bs)

-- without one CRLF, CR or LF at the end
abbrev pub without_last_line_ending : List ℕ → List ℕ
without_last_line_ending bs = reverse (without_line_ending_reversed (reverse bs))

-- without one line ending at the start if the first flag is set, and then without one at the end if the second flag is set
abbrev pub trim : List ℕ → Bool → Bool → List ℕ
trim bs true true = without_last_line_ending (without_first_line_ending bs)
trim bs true false = without_first_line_ending bs
trim bs false true = without_last_line_ending bs
trim bs false false = bs

-- without each backslash whose next byte is a pipe
abbrev pub without_escapes : List ℕ → List ℕ
without_escapes [] = []
without_escapes (b ∷ bs) = if b == 92 && starts_with_byte 124 bs then without_escapes bs else b ∷ without_escapes bs

-- whether a text has more than two bytes, a space at each end, and not only spaces
abbrev pub is_padded : List ℕ → Bool
is_padded bs = nat_lt 2 (length bs) && starts_with_byte 32 bs && starts_with_byte 32 (reverse bs) && not (list_all is_space bs)

-- without the first and the last byte, if the text is padded
abbrev pub without_padding : List ℕ → List ℕ
without_padding bs = if is_padded bs then take (length bs - 2) (drop 1 bs) else bs

-- the value of inline code or math: without padding, and if the flag is set without backslashes before pipes
abbrev pub raw : List ℕ → Bool → List ℕ
raw bs true = without_padding (without_escapes bs)
raw bs false = without_padding bs

-- each CRLF, LF and CR becomes a space
abbrev pub spaces : List ℕ → List ℕ
spaces [] = []
spaces (b ∷ bs) = if b == 13 && starts_with_byte 10 bs then spaces bs else (if is_line_ending b then 32 else b) ∷ spaces bs

-- a tab, LF, CR or space
abbrev pub is_blank : ℕ → Bool
is_blank c = c == 9 || c == 10 || c == 13 || c == 32

-- whether a blank or nothing comes next
abbrev pub starts_with_blank : List ℕ → Bool
starts_with_blank [] = true
starts_with_blank (c ∷ cs) = is_blank c

-- without the blanks before another blank or the end, and with spaces for the other blanks
abbrev pub without_trailing_blanks : List ℕ → List ℕ
without_trailing_blanks [] = []
without_trailing_blanks (c ∷ cs) = if is_blank c then (if starts_with_blank cs then without_trailing_blanks cs else 32 ∷ without_trailing_blanks cs) else c ∷ without_trailing_blanks cs

-- without one space at the start
abbrev pub without_first_space : List ℕ → List ℕ
without_first_space [] = []
without_first_space (c ∷ cs) = if is_space c then cs else c ∷ cs

-- each run of tabs, LFs, CRs and spaces becomes one space, and there is none at either end
abbrev pub collapsed : List ℕ → List ℕ
collapsed cs = without_first_space (without_trailing_blanks cs)

-- the identifier that a text spells: its characters collapsed, and then folded
unfoldable pub fold : List ℕ → List ℕ
fold bs = encode_utf8_all (default_case_fold (collapsed (chars bs)))
