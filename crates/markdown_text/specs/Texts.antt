-- Texts that are read.
use Rattle.std.specs.Prelude.{Bool, List, None, Option, false, ℕ}
use Rattle.markdown_text.specs.Tokens.{Text}

-- a text of these bytes
abbrev pub text_of : List ℕ → (List ℕ → ℕ → Option (List ℕ)) → Bool → Text
text_of bytes decode may_be_task = record { bytes = bytes; decode = decode; may_be_task = may_be_task }

-- a decoder that knows no value
abbrev pub no_values : List ℕ → ℕ → Option (List ℕ)
no_values value marker = None

-- a text without character references or a task mark; what is found in it is found in any text with these bytes
abbrev pub bare : List ℕ → Text
bare bytes = text_of bytes no_values false
