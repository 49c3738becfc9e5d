-- What a contract sees of a line: its words with one space between two, and a line feed at its end.
use Rattle.std.specs.Prelude.{ℕ, List, [], ◌∷◌, ◌++◌}
use Rattle.std.specs.List.{join_with_byte}

-- the byte that ends a line
abbrev pub line_feed : ℕ
line_feed = 10

-- the byte between two words
abbrev pub space : ℕ
space = 32

-- the one spelling of the line of these words, with its end
abbrev pub line_of : List (List ℕ) → List ℕ
line_of words = join_with_byte space words ++ line_feed ∷ []
