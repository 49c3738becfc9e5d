-- What a weigher has to answer so that a script's cache has the weights of its lines. No public clause cites this module.
use Rattle.std.specs.Prelude.{ℕ, List}
use Rattle.moka_grammar.specs.declared.line.Line.{Line}
use Rattle.moka_grammar.specs.declared.line.Request.{Request}
use Rattle.moka_grammar.specs.declared.line.Request.TheVariants.{Insert, Modify}
use Rattle.moka_script.specs.declared.stored.Stored.{Stored}
use Rattle.moka_script.specs.Stored.{stored_text, stored_weighs}

module _ {W : Type 0} (weighs : W → ℕ → Stored (List ℕ) → ℕ → W → Type 0) where
  -- the weigher answers the weight that is stored, and stays as it is
  abbrev pub AnswersStored : ℕ → Stored (List ℕ) → Type 0
  AnswersStored key value = (old new : W) (weight : ℕ) → weighs old key value weight new → stored_weighs old key value weight new

  -- it does so for what the request stores
  abbrev pub AnswersRequest : Request (List ℕ) → Type 0
  AnswersRequest (Insert key text weight live) = AnswersStored key (stored_text text weight)
  AnswersRequest (Modify key text weight) = AnswersStored key (stored_text text weight)
  AnswersRequest request = Unit {0}

  -- it does so for what the line stores
  abbrev pub AnswersLine : Line (List ℕ) → Type 0
  AnswersLine line = AnswersRequest line.request
