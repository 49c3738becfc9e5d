-- What a contract sees of texts: the bytes that a script can store as a value.
use Rattle.std.specs.Prelude.{ℕ, Bool, ◌||◌, ◌&&◌, ◌==◌, nat_lt, nat_le, List, length, IsTrue}
use Rattle.std.specs.Char.{is_ascii_alphanumeric}
use Rattle.std.specs.List.{list_all}
use Rattle.moka_grammar.specs.declared.text.TheConstants.{LONGEST_TEXT}

-- a letter, a digit or a dash
abbrev pub is_text_byte : ℕ → Bool
is_text_byte byte = is_ascii_alphanumeric byte || byte == 45

-- whether there is at least one such byte, no more than the longest text has, and nothing else
abbrev pub is_text : List ℕ → Bool
is_text bytes = (nat_lt 0 (length bytes) && nat_le (length bytes) LONGEST_TEXT) && list_all is_text_byte bytes

-- the bytes can stand as a text
abbrev pub IsText : List ℕ → Type 0
IsText bytes = IsTrue (is_text bytes)
