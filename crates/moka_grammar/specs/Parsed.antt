-- What a contract sees of a script that was parsed.
use Rattle.moka_grammar.specs.Grammar.{Script, CacheScript, CoreScript, SketchScript}
use Rattle.moka_grammar.specs.declared.line.Script.{Script as Parsed}
use Rattle.moka_grammar.specs.declared.line.Script.TheVariants.{Cache, Core, Sketch}

-- the script, with no word on where its lines are held
abbrev pub script_of : {A : Type 0} → Parsed A → Script
script_of (Cache header lines) = CacheScript header lines.items
script_of (Core options lines) = CoreScript options lines.items
script_of (Sketch cap lines) = SketchScript cap lines.items
