-- A script of the mode recorded or core begins with a new core of its settings.
use Rattle.std.proofs.Common.{◌≡◌, ℕ, Bool, List, ◌++◌, None, Result, IfOk, sym, ap, ◌∙◌, subst}
use Rattle.moka_common.specs.Settings.{Settings}
use Rattle.moka_grammar.specs.declared.line.CacheOptions.{CacheOptions}
use Rattle.moka_sync_model.specs.CoreState.{CoreState, IsNew, new_core}
use Rattle.moka_script.specs.FirstCore.{ScriptCore, IsFirstCore, AreRepliesUnder, AreRepliesOf}
use Rattle.moka_script.specs.Reply.{Ready, reply_line}
use Rattle.moka_script.specs.UnsyncRun.{options_fault}
use Rattle.moka_script.proofs.UnsyncRunLemmas.{IfOk-map}

-- a core as it is built is new
pub built_is_new : {K V S : Type 0} (core : CoreState K V S) (settings : Settings S) (first : ℕ) → core ≡ new_core settings first
    → IsNew core
built_is_new core settings first built = (first, built ∙ ap (λ s. new_core s first) (sym (ap (λ c. c.settings) built)))

-- a first core is new
pub first_is_new : (options : CacheOptions) (core : ScriptCore) → IsFirstCore options core → IsNew core
first_is_new options core first = built_is_new core _ _ first.new

-- the lines of the script are answered so by a first core, where the script is weighed so
module _ (options : CacheOptions) (Answers : Bool → ScriptCore → List ℕ → Type 0) where
  -- the reply lines are those of the core
  abbrev AreOf : Bool → ScriptCore → List ℕ → Type 0
  AreOf weighed core text = (replies : List ℕ) × Answers weighed core replies × (text ≡ reply_line Ready ++ replies)

  answers_of : (weighed : Bool) (core : ScriptCore) (text : List ℕ) → weighed ≡ options.weighed → options_fault options ≡ None
      → IsFirstCore options core → AreOf weighed core text → AreRepliesOf (Answers options.weighed) options text
  answers_of weighed core text is fine first (replies, answered, text_is) =
      subst (λ f. AreRepliesUnder (Answers options.weighed) f options text) (sym fine)
      (core, replies, first, subst (λ w. Answers w core replies) is answered, text_is)

  -- the lines that a first core answers are those of the script
  pub first_answers : {T E : Type 0} (text_of : T → List ℕ) (result : Result T E) (weighed : Bool) (core : ScriptCore)
      → weighed ≡ options.weighed → options_fault options ≡ None → IsFirstCore options core
      → IfOk result (λ t. AreOf weighed core (text_of t)) → IfOk result (λ t. AreRepliesOf (Answers options.weighed) options (text_of t))
  first_answers text_of result weighed core is fine first answers =
      IfOk-map result (λ t of. answers_of weighed core (text_of t) is fine first of) answers
