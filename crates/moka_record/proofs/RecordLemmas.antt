-- A record that has one call more.
use Rattle.std.proofs.Common.{◌≡◌, ℕ, List, [], ◌∷◌, ◌++◌, refl, sym, ap, ◌∙◌, subst}
use Rattle.std.specs.Prelude.{slice_index}
use Rattle.moka_common.specs.Keys.{Keys}
use Rattle.moka_sync_model.specs.declared.call.Call.{Call}
use Rattle.moka_sync_model.specs.Reply.{Reply}
use Rattle.moka_sync_model.specs.CoreState.{CoreState, IsNew, new_core}
use Rattle.moka_sync_model.specs.CoreCall.{IsAtRest, IsCall}
use Rattle.moka_sync_model.specs.CoreCall as core_calls
use Rattle.moka_record.specs.declared.record.Made.{Made}
use Rattle.moka_record.specs.Record.{RecordState, Makes}
use Rattle.moka_record.specs.Replay.{Replays, exchanges}
use Rattle.moka_record.proofs.CallLemmas.{IsCall-settings}

-- nothing is under way in a new core
pub new_rests : {K V S : Type 0} (core : CoreState K V S) → IsNew core → IsAtRest core
new_rests {K} {V} {S} core (first, built) = record {
  pending = ap (λ (c : CoreState K V S). c.pending) built;
  phase = ap (λ (c : CoreState K V S). c.maintenance.phase) built;
}

module _ {K V S A : Type 0} (keys : Keys K S) (weighs : K → V → ℕ → Type 0) where
  -- a record of a new core without calls replays
  pub Replays-new : (core : CoreState K V S) (first : ℕ) (calls : List (Made K V A)) → IsNew core
      → first ≡ slice_index core.next_numbers 0 → calls ≡ []
      → Replays keys weighs (record { core = core; first_ticket = first; calls = calls })
  Replays-new core first calls (number, built) first_is none =
      let given : first ≡ number = first_is ∙ ap (λ c. slice_index c.next_numbers 0) built in
      subst (λ made. core_calls.Replays keys weighs (new_core core.settings first) (exchanges made) core) (sym none)
      (built ∙ ap (new_core core.settings) (sym given))

  -- calls that were made, and one more
  made_push : (old mid new : CoreState K V S) (calls : List (Made K V A)) (made : Made K V A)
      → core_calls.Replays keys weighs old (exchanges calls) mid
      → IsCall keys weighs mid made.call made.reply new → core_calls.Replays keys weighs old (exchanges (calls ++ made ∷ [])) new
  made_push old mid new [] made before last = (new, subst (λ c. IsCall keys weighs c made.call made.reply new) before last, refl)
  made_push old mid new (first ∷ calls) made before last =
      (before.0, before.1, made_push before.0 mid new calls made before.2 last)

  -- a record that replays does so with a call more
  pub Replays-push : (old new : RecordState K V S A) (call : Call K V) (reply : Reply K V) → Replays keys weighs old
      → Makes keys weighs old call reply new → Replays keys weighs new
  Replays-push old new call reply replays makes =
      let made : Made K V A = record { call = call; reply = reply } in
      let settings : new.core.settings ≡ old.core.settings = IsCall-settings keys weighs old.core new.core call reply makes.made in
      let start = new_core old.core.settings old.first_ticket in
      let pushed : core_calls.Replays keys weighs start (exchanges new.calls) new.core =
      rw makes.calls (made_push start old.core new.core old.calls made replays makes.made) in
      rw makes.first_ticket
      (subst (λ s. core_calls.Replays keys weighs (new_core s old.first_ticket) (exchanges new.calls) new.core) (sym settings) pushed)
