-- A run is of the bytes that were read.
use Rattle.std.proofs.Common.{◌≡◌, ℕ, List, Option, Some, None, IfSome, subst}
use Rattle.std.specs.Io.KnownBytes.{Appends}
use Rattle.moka_grammar.specs.Streams.{AppendsBeginning}
use Rattle.mini_moka.specs.declared.script.runner.End.{End}
use Rattle.mini_moka.specs.ScriptRun.{IsRunOf}

-- where all of a known input was read, what was written is the text of its run
pub run_ends : (A : Type 0) (input old new : Option (List ℕ)) (read text : List ℕ) (end : End A)
    → IfSome input (λ bytes. read ≡ bytes) → IsRunOf A read end text → Appends old new text
    → IfSome input (λ bytes. (text : List ℕ) × IsRunOf A bytes end text × Appends old new text)
run_ends A None old new read text end is run written = tt
run_ends A (Some bytes) old new read text end is run written = (text, subst (λ b. IsRunOf A b end text) is run, written)

-- where all of a known input was read and the sink refused a call, what was written is a beginning of the text of its run
pub run_breaks : (A : Type 0) (input old new : Option (List ℕ)) (read text : List ℕ) (end : End A)
    → IfSome input (λ bytes. read ≡ bytes) → IsRunOf A read end text → AppendsBeginning old new text
    → IfSome input (λ bytes. (end : End A) × (text : List ℕ) × IsRunOf A bytes end text × AppendsBeginning old new text)
run_breaks A None old new read text end is run written = tt
run_breaks A (Some bytes) old new read text end is run written =
    (end, text, subst (λ b. IsRunOf A b end text) is run, written)
