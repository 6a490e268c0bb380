-- A page that is being written.
use Rattle.std.specs.Prelude.{ℕ, ◌+◌, ◌-◌, ◌^◌, Bool, true, List, [], ◌∷◌, ◌++◌, Option, None, Some, codes, length, slice_get, if◌then◌else◌, ◌==◌, min, nat_le, option_map, suc, unwrap_or, zero}
use Rattle.std.specs.Str.{bytes_eq}

-- a footnote that is called, and the number of its calls
pub record Call : Type 0 where
  pub identifier : List ℕ
  pub count : ℕ

-- a page so far: its text, the footnotes that are called in it, in the order of their first calls, and its budget: how
-- many bytes it may still copy
pub record Page : Type 0 where
  pub text : List ℕ
  pub calls : List Call
  pub budget : ℕ

-- an empty page with a budget
abbrev pub blank : ℕ → Page
blank budget = record { text = []; calls = []; budget = budget }

-- a page with another text
abbrev pub put : Page → List ℕ → Page
put page text = record page { text = text }

-- a page with a text added at its end
abbrev pub say : Page → List ℕ → Page
say page text = put page (page.text ++ text)

-- whether a page may still copy this many bytes
abbrev pub affords : Page → ℕ → Bool
affords page cost = nat_le cost page.budget

-- a page with a text added at its end that copies this many bytes
abbrev pub copy : Page → List ℕ → (cost : ℕ) → Page
copy page text cost = record (say page text) { budget = page.budget - cost }

-- whether a text is empty or ends with an LF
abbrev pub is_fresh : List ℕ → Bool
is_fresh text = elim (slice_get text (length text - 1)) [ None ↦ true | Some last ↦ last == 10 ]

-- a new line, unless one has just begun: for a text, for a page, and for a page before a text
unfoldable pub fresh_line : List ℕ → List ℕ
fresh_line text = if is_fresh text then text else text ++ codes "\n"

abbrev pub on_new_line : Page → Page
on_new_line page = put page (fresh_line page.text)

abbrev pub block : Page → List ℕ → Page
block page text = put page (fresh_line page.text ++ text)

-- one more, at most the largest 64-bit number
abbrev pub more : ℕ → ℕ
more count = min (count + 1) (2 ^ 64 - 1)

-- the index of the call with this identifier, counted from 0
abbrev pub index_of : List ℕ → List Call → Option ℕ
index_of identifier [] = None
index_of identifier (call ∷ calls) = if bytes_eq identifier call.identifier then Some 0 else option_map (λ index. index + 1) (index_of identifier calls)

-- the number of a footnote: its place among those that are called, counted from 1, or the next number if it is not called
abbrev pub number_of : List ℕ → List Call → ℕ
number_of identifier calls = unwrap_or (index_of identifier calls) (length calls) + 1

-- the number of calls of the footnote with this index
abbrev pub count_at : List Call → ℕ → ℕ
count_at [] index = 0
count_at (call ∷ calls) zero = call.count
count_at (call ∷ calls) (suc index) = count_at calls index

-- the number of calls of a footnote
abbrev pub count_of : List ℕ → List Call → ℕ
count_of identifier calls = elim (index_of identifier calls) [ None ↦ 0 | Some index ↦ count_at calls index ]

-- one more call of the footnote with this index
abbrev pub again : List Call → ℕ → List Call
again [] index = []
again (call ∷ calls) zero = (record { identifier = call.identifier; count = more call.count }) ∷ calls
again (call ∷ calls) (suc index) = call ∷ again calls index

-- one more call of a footnote
abbrev pub with_call : List ℕ → List Call → List Call
with_call identifier calls = elim (index_of identifier calls) [
  | None ↦ calls ++ (record { identifier = identifier; count = 1 }) ∷ []
  | Some index ↦ again calls index
]
