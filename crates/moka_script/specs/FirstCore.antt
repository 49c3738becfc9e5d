-- What a script of the mode recorded or core begins with: a new core of its settings.
use Rattle.std.specs.Prelude.{◌≡◌, ℕ, Bool, true, false, List, ◌++◌, Option, Some, None, unwrap_or}
use Rattle.moka_common.specs.Weight.{unit_weighs}
use Rattle.moka_common.specs.declared.error.BuildError.{BuildError}
use Rattle.moka_sync_model.specs.CoreState.{CoreState, new_core}
use Rattle.moka_grammar.specs.declared.line.CacheOptions.{CacheOptions}
use Rattle.moka_script.specs.declared.keys.KeyState.{KeyState}
use Rattle.moka_script.specs.declared.stored.Stored.{Stored}
use Rattle.moka_script.specs.Reply.{Ready, Refused, reply_line}
use Rattle.moka_script.specs.UnsyncRun.{HasLimits, options_fault}

-- a core of numbers and texts, each text with its weight
abbrev pub ScriptCore : Type 0
ScriptCore = CoreState ℕ (Stored (List ℕ)) KeyState

-- what the weigher answers, by whether the script is weighed: what is stored says its weight, or each entry weighs 1
abbrev pub weighs_of : Bool → ℕ → Stored (List ℕ) → ℕ → Type 0
weighs_of true key value weight = weight ≡ value.weight
weighs_of false key value weight = unit_weighs key value weight

-- the core is a new one with these settings
pub record IsFirstCore (options : CacheOptions) (core : ScriptCore) : Type 0 where
  pub limits : HasLimits core.settings.policy options
  pub new : core ≡ new_core (record { hash_state = record {}; policy = core.settings.policy; is_weighed = options.weighed })
      (unwrap_or options.tickets 0)

-- the lines of the script are answered so by a first core
module _ (Answers : ScriptCore → List ℕ → Type 0) where
  -- what is written where the settings have this fault or none: that they are refused, and nothing more; or the reply lines
  abbrev pub AreRepliesUnder : Option BuildError → CacheOptions → List ℕ → Type 0
  AreRepliesUnder (Some fault) options text = text ≡ reply_line (Refused fault)
  AreRepliesUnder None options text =
      (core : ScriptCore) × (replies : List ℕ)
      × IsFirstCore options core × Answers core replies × (text ≡ reply_line Ready ++ replies)

  -- the reply lines of a script with these settings
  abbrev pub AreRepliesOf : CacheOptions → List ℕ → Type 0
  AreRepliesOf options text = AreRepliesUnder (options_fault options) options text
