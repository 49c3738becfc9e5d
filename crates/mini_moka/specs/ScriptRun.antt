-- What a run of a script writes, and how it ends.
use Rattle.std.specs.Prelude.{◌≡◌, ℕ, List, [], Option, Result, Ok, Err, IfSome, codes}
use Rattle.std.specs.Io.KnownBytes.{Keeps, Appends}
use Rattle.mini_moka.specs.declared.script.runner.End.{End}
use Rattle.mini_moka.specs.declared.script.runner.End.TheVariants.{Done, BadLine, Locked}
use Rattle.mini_moka.specs.declared.script.runner.ScriptError.{ScriptError}
use Rattle.mini_moka.specs.declared.script.runner.ScriptError.TheVariants.{Read, Write, OutOfMemory}
use Rattle.moka_grammar.specs.declared.line.CacheHeader.{CacheHeader}
use Rattle.moka_grammar.specs.declared.line.Line.{Line}
use Rattle.moka_grammar.specs.declared.line.Mode.{Mode}
use Rattle.moka_grammar.specs.declared.line.Mode.TheVariants.{Recorded, Sync, Unsync}
use Rattle.moka_grammar.specs.Grammar.{Script, CacheScript, CoreScript, SketchScript, IsScript, IsBadAt}
use Rattle.moka_grammar.specs.Streams.{AppendsBeginning}
use Rattle.mini_moka.specs.LockedScript.{script_of}
use Rattle.moka_script.specs.Reply.{bad_line}
use Rattle.moka_script.specs.CoreRun.{AreCoreReplyLines}
use Rattle.moka_script.specs.RecordedRun.{AreRecordedReplyLines}
use Rattle.moka_script.specs.SketchRun.{AreSketchReplyLines}
use Rattle.moka_script.specs.UnsyncRun.{AreUnsyncReplyLines}

module _ (A : Type 0) where
  -- the reply lines of a script of calls to a cache, by its mode: a run writes none of one with locks, which is still to be run then
  abbrev pub AreCacheReplyLines : Mode → CacheHeader → List (Line (List ℕ)) → List ℕ → Type 0
  AreCacheReplyLines Recorded header lines text = AreRecordedReplyLines A header.options lines text
  AreCacheReplyLines Sync header lines text = ⊥
  AreCacheReplyLines Unsync header lines text = AreUnsyncReplyLines header.options lines text

  -- the reply lines of a script
  abbrev pub AreReplyLines : Script → List ℕ → Type 0
  AreReplyLines (CacheScript header lines) text = AreCacheReplyLines header.mode header lines text
  AreReplyLines (CoreScript options lines) text = AreCoreReplyLines options lines text
  AreReplyLines (SketchScript cap lines) text = AreSketchReplyLines cap lines text

  -- a whole run of the bytes ends so, and this is the text that it writes
  abbrev pub IsRunOf : List ℕ → End A → List ℕ → Type 0
  IsRunOf bytes Done text = (script : Script) × IsScript bytes script × AreReplyLines script text
  IsRunOf bytes (BadLine number) text = IsBadAt bytes number × (text ≡ bad_line number)
  IsRunOf bytes (Locked script) text = IsScript bytes (script_of script) × (text ≡ [])

  -- what was written when the run ended, where the input and the output are known: all of its text; nothing where it could not
  -- be read, or memory ran out; and a beginning of its text where it could not be written
  abbrev pub EndsSo : Option (List ℕ) → Result (End A) ScriptError → Option (List ℕ) → Option (List ℕ) → Type 0
  EndsSo input (Ok end) old new = IfSome input (λ bytes. (text : List ℕ) × IsRunOf bytes end text × Appends old new text)
  EndsSo input (Err Write) old new =
      IfSome input (λ bytes. (end : End A) × (text : List ℕ) × IsRunOf bytes end text × AppendsBeginning old new text)
  EndsSo input (Err Read) old new = Keeps old new
  EndsSo input (Err OutOfMemory) old new = Keeps old new

-- why a run is broken off, in words
abbrev pub script_error_text : ScriptError → List ℕ
script_error_text Read = codes "read fault"
script_error_text Write = codes "write fault"
script_error_text OutOfMemory = codes "out of memory"

-- the exit status of a program whose run ends so: a script that is still to be run has no replies
abbrev pub status_of : {A : Type 0} → Result (End A) ScriptError → ℕ
status_of (Ok Done) = 0
status_of (Ok (BadLine number)) = 2
status_of (Ok (Locked script)) = 1
status_of (Err error) = 1
