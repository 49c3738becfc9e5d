-- What a contract sees of streams that refuse a call.
use Rattle.std.specs.Prelude.{◌≡◌, List, ℕ, ◌++◌, Bool, true, false, Option, Result, Ok, Err}
use Rattle.std.specs.Io.KnownBytes.{Appends}
use Rattle.moka_grammar.specs.declared.streams.ReadError.{ReadError}
use Rattle.moka_grammar.specs.declared.streams.ReadError.TheVariants.{Read, OutOfMemory}

-- whether a read failed because the source refused a call
abbrev pub is_refused : {X : Type 0} → Result X ReadError → Bool
is_refused (Ok x) = false
is_refused (Err Read) = true
is_refused (Err OutOfMemory) = false

-- known bytes grow by a beginning of these
abbrev pub AppendsBeginning : Option (List ℕ) → Option (List ℕ) → List ℕ → Type 0
AppendsBeginning old new bytes = (front rest : List ℕ) × (bytes ≡ front ++ rest) × Appends old new front

-- a fact for each error
abbrev pub MatchRead : ReadError → Type 0 → Type 0 → Type 0
MatchRead Read P Q = P
MatchRead OutOfMemory P Q = Q
