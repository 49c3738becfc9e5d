-- What a contract sees of a script of the cache with locks that was read and is still to be run.
use Rattle.std.specs.Prelude.{ℕ, List}
use Rattle.moka_grammar.specs.declared.line.CacheOptions.{CacheOptions}
use Rattle.moka_grammar.specs.declared.line.Line.{Line}
use Rattle.moka_grammar.specs.declared.line.Mode.TheVariants as mode
use Rattle.moka_grammar.specs.Grammar.{Script, CacheScript}

-- its settings, and its lines
pub record LockedScript : Type 0 where
  pub options : CacheOptions
  pub lines : List (Line (List ℕ))

-- the script of the grammar that it is
abbrev pub script_of : LockedScript → Script
script_of script = CacheScript (record { mode = mode.Sync; options = script.options }) script.lines
