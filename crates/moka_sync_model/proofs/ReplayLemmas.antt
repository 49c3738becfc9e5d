-- The laws of whole calls, and lists of them.
use Rattle.std.proofs.Common.{◌≡◌, ◌⊎◌, ℕ, List, [], ◌∷◌, ◌++◌, refl, sym, ◌∙◌, ap, subst, inl, inr}
use Rattle.std.specs.List.{flat_map}
use Rattle.std.specs.Cmp.{IsEquivalence}
use Rattle.moka_common.specs.Keys.{Keys}
use Rattle.moka_sync_model.specs.declared.constants.TheConstants.{SHARDS, CALLER}
use Rattle.moka_sync_model.specs.CoreState.{CoreState}
use Rattle.moka_sync_model.specs.declared.event.Event.TheVariants as event
use Rattle.moka_sync_model.specs.Reply.{Reply}
use Rattle.moka_sync_model.specs.MapStep.{IsCopy, pairs_of, OnlyReplies}
use Rattle.moka_sync_model.specs.declared.event.Reply.TheVariants.{NotPossible, Rows, OutOfMemory}
use Rattle.moka_sync_model.specs.Consistent.{IsTrimmed}
use Rattle.moka_sync_model.specs.Run.{Happens}
use Rattle.moka_sync_model.specs.WholeCall.{CallsIter, with_pairs}
use Rattle.moka_sync_model.specs.declared.call.Call.{Call}
use Rattle.moka_sync_model.specs.CoreCall.{numbers_from, Decides, has_pending, IsCall, Replays}
use Rattle.moka_sync_model.specs.CallLaws.{CallsRest, IterationsCopy, CallsReturn, SyncsEmpty}
use Rattle.moka_sync_model.specs.CallLaws.{ListsRest, ReplaysOneMore, ReplaysRest, RunsAreHappenings}
use Rattle.moka_sync_model.proofs.ConsistentLemmas.{stays_consistent}
use Rattle.moka_sync_model.proofs.StepForms.{by_Bool}
use Rattle.moka_sync_model.proofs.CallLemmas.{Rests, call_rests, maintained, maintained_evicts}
use Rattle.moka_sync_model.proofs.ReturnLemmas.{call_returns}

module _ {K V S : Type 0} (keys : Keys K S) (weighs : K → V → ℕ → Type 0) where
  -- each step with what the weigher and memory said to it
  pub runs_are_happenings : RunsAreHappenings keys weighs
  runs_are_happenings old new [] [] is = ([], is, tt, refl, refl)
  runs_are_happenings old new (event ∷ events) (reply ∷ replies) (next, step, runs) =
      let rest = runs_are_happenings next new events replies runs in (
        record { event = event; weight = step.weight; refused = step.refused; reply = reply } ∷ rest.0,
        (next, step.step, rest.1),
        (step.weighed, rest.2),
        ap (λ es. event ∷ es) rest.3,
        ap (λ rs. reply ∷ rs) rest.4,
      )
  runs_are_happenings old new [] (reply ∷ replies) none = absurd none
  runs_are_happenings old new (event ∷ events) [] none = absurd none

  module _ (laws : IsEquivalence keys.eq) where
    pub calls_rest : CallsRest keys weighs
    calls_rest old new call reply good rest h = let rests =
        call_rests keys laws weighs old (record { good = good; rest = rest }) call reply new h in (rests.good, rests.rest)

    pub calls_return : CallsReturn keys weighs
    calls_return answers old call good rest = call_returns keys laws weighs answers old (record { good = good; rest = rest }) call

    pub syncs_empty : SyncsEmpty keys weighs
    syncs_empty old new now reply good rest h =
        let all = maintained keys laws weighs now old new good h.1 in (
          record { read_log = all.read_log; write_log = all.write_log; pending = all.pending ∙ rest.pending; phase = all.phase },
          subst (IsTrimmed new.settings.policy.max_capacity new.maintenance.orders)
              (sym (maintained_evicts keys laws weighs now old new good rest.pending h.1)) all.trimmed,
        )

    replay_rests : (old new : CoreState K V S) (calls : List (Call K V × Reply K V)) → Rests keys laws weighs old
        → Replays keys weighs old calls new → Rests keys laws weighs new
    replay_rests old new [] rests h = subst (Rests keys laws weighs) (sym h) rests
    replay_rests old new (c ∷ cs) rests h = replay_rests h.0 new cs (call_rests keys laws weighs old rests c.0 c.1 h.0 h.1) h.2

    pub lists_rest : ListsRest keys weighs
    lists_rest old new calls good rest h = let rests = replay_rests old new calls (record { good = good; rest = rest }) h in
        (rests.good, rests.rest)

    pub replays_rest : ReplaysRest keys weighs
    replays_rest settings first calls core h =
        let rests =
        replay_rests _ core calls
        (record { good = stays_consistent keys laws settings first [] _ refl; rest = record { pending = refl; phase = refl } }) h in
        (rests.good, rests.rest)

  -- a copy changes nothing
  copy_same : (old new : CoreState K V S) (shard now : ℕ) (reply : Reply K V) → Happens keys weighs old (event.Copy shard now) reply new
      → new ≡ old
  copy_same old new shard now reply h =
      by_Bool _ (IsCopy keys old (pairs_of keys old shard now) h.refused reply new) (OnlyReplies keys old NotPossible reply new)
      (λ b. by (pairs_of keys old shard now)) (λ b r. r.1) h.step
    where
      by : (pairs : List (K × V)) → IsCopy keys old pairs h.refused reply new → new ≡ old
      by [] r = r.1
      by (pair ∷ pairs) c =
          by_Bool h.refused (OnlyReplies keys old OutOfMemory reply new) (OnlyReplies keys old (Rows (pair ∷ pairs)) reply new) (λ b r. r.1)
          (λ b r. r.1) c

  copy_pairs : (old new : CoreState K V S) (shard now : ℕ) (pairs : List (K × V))
      → Happens keys weighs old (event.Copy shard now) (Rows pairs) new → pairs ≡ pairs_of keys old shard now
  copy_pairs old new shard now pairs h =
      by_Bool _ (IsCopy keys old (pairs_of keys old shard now) h.refused (Rows pairs) new)
      (OnlyReplies keys old NotPossible (Rows pairs) new)
      (λ b. by (pairs_of keys old shard now)) (λ b r. let word = r.0 in absurd (cc)) h.step
    where
      by : (there : List (K × V)) → IsCopy keys old there h.refused (Rows pairs) new → pairs ≡ there
      by [] r = let word = r.0 in let one : pairs ≡ [] = cc in one
      by (pair ∷ there) c =
          by_Bool h.refused (OnlyReplies keys old OutOfMemory (Rows pairs) new)
          (OnlyReplies keys old (Rows (pair ∷ there)) (Rows pairs) new)
          (λ b r. let word = r.0 in absurd (cc)) (λ b r. let word = r.0 in let one : pairs ≡ pair ∷ there = cc in one) c

  abbrev Copied : CoreState K V S → List ℕ → ℕ → Reply K V → Type 0
  Copied old shards now reply = (reply ≡ OutOfMemory) ⊎ (reply ≡ Rows (flat_map (λ shard. pairs_of keys old shard now) shards))

  copied_more : (old : CoreState K V S) (shard : ℕ) (shards : List ℕ) (now : ℕ) (reply others : Reply K V) (pairs : List (K × V))
      → pairs ≡ pairs_of keys old shard now → reply ≡ with_pairs pairs others
      → Copied old shards now others → Copied old (shard ∷ shards) now reply
  copied_more old shard shards now reply others pairs are word (inl none) = inl (word ∙ ap (with_pairs pairs) none)
  copied_more old shard shards now reply others pairs are word (inr rest) =
      inr (word ∙ ap (with_pairs pairs) rest ∙ ap (λ ps. Rows (ps ++ flat_map (λ s. pairs_of keys old s now) shards)) are)

  iter_copies : (shards : List ℕ) (old new : CoreState K V S) (now : ℕ) (reply : Reply K V)
      → CallsIter (Happens keys weighs) Decides has_pending CALLER shards now reply old new → (new ≡ old) × Copied old shards now reply
  iter_copies [] old new now reply h = (h.1, inr h.0)
  iter_copies (shard ∷ shards) old new now reply (inl h) = (copy_same old new shard now OutOfMemory h.0, inl h.1)
  iter_copies (shard ∷ shards) old new now reply (inr (pairs, others, word, call)) =
      let same = copy_same old call.next shard now (Rows pairs) call.first in
      let rest = iter_copies shards call.next new now others call.follows in (
        rest.0 ∙ same,
        copied_more old shard shards now reply others pairs (copy_pairs old call.next shard now pairs call.first) word
            (subst (λ c. Copied c shards now others) same rest.1),
      )

  pub iterations_copy : IterationsCopy keys weighs
  iterations_copy old new now reply h = iter_copies (numbers_from 0 SHARDS) old new now reply h

  pub replays_one_more : ReplaysOneMore keys weighs
  replays_one_more old next new [] call reply h one = (new, subst (λ c. IsCall keys weighs c call reply new) h one, refl)
  replays_one_more old next new (c ∷ cs) call reply h one = (h.0, h.1, replays_one_more h.0 next new cs call reply h.2 one)
