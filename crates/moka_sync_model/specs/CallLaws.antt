-- What a contract sees of the laws of whole calls, which `src/laws.rt` promises.
use Rattle.std.specs.Prelude.{◌≡◌, ◌⊎◌, ℕ, Bool, List, [], ◌∷◌, ◌++◌, map, Option, Some, option_map}
use Rattle.std.specs.List.{flat_map}
use Rattle.moka_common.specs.Keys.{Keys}
use Rattle.moka_sync_model.specs.declared.constants.TheConstants.{SHARDS, CALLER}
use Rattle.moka_sync_model.specs.CoreState.{CoreState, new_core}
use Rattle.moka_common.specs.Settings.{Settings}
use Rattle.moka_sync_model.specs.declared.event.Event.{Event}
use Rattle.moka_sync_model.specs.declared.event.Event.TheVariants as event
use Rattle.moka_sync_model.specs.Reply.{Reply}
use Rattle.moka_sync_model.specs.Run.{AreWeighed, Happening, Runs, RunsTo}
use Rattle.moka_sync_model.specs.MapStep.{pairs_of}
use Rattle.moka_sync_model.specs.declared.event.Reply.TheVariants.{Found, Rows, OutOfMemory}
use Rattle.moka_sync_model.specs.Consistent.{IsConsistent, IsTrimmed}
use Rattle.moka_sync_model.specs.Quiescent.{IsQuiescent}
use Rattle.moka_sync_model.specs.LastWritten.{written_by, value_at, live_at}
use Rattle.moka_sync_model.specs.declared.call.Call.{Call}
use Rattle.moka_sync_model.specs.declared.call.Call.TheVariants.{Insert, Get, Remove, Sync}
use Rattle.moka_sync_model.specs.CoreCall.{numbers_from, IsAtRest, IsCall, IsIteration, Replays, entries_evicted}

module _ {K V : Type 0} (eq : K → K → Bool) where
  -- the value last written at a key, once a whole call has got a reply
  abbrev pub called_by : K → Call K V → Reply K V → Option V → Option V
  called_by key (Insert k value now) reply last = written_by eq key (event.Insert CALLER k value now) reply last
  called_by key call reply last = last

  -- the same over a list of calls
  abbrev pub last_called : K → List (Call K V × Reply K V) → Option V → Option V
  last_called key [] last = last
  last_called key (c ∷ cs) last = last_called key cs (called_by key c.0 c.1 last)

module _ {K V S : Type 0} (keys : Keys K S) (weighs : K → V → ℕ → Type 0) where
  -- steps with their replies are a list of happenings, whose weights the weigher answered
  abbrev pub RunsAreHappenings : Type 0
  RunsAreHappenings =
      (old new : CoreState K V S) (events : List (Event K V)) (replies : List (Reply K V)) → RunsTo keys weighs old events replies new →
      (hs : List (Happening K V)) × Runs keys old hs new × AreWeighed weighs hs × (map (λ h. h.event) hs ≡ events)
      × (map (λ h. h.reply) hs ≡ replies)

  -- a whole call leaves nothing under way
  abbrev pub CallsRest : Type 0
  CallsRest =
      (old new : CoreState K V S) (call : Call K V) (reply : Reply K V) →
      IsConsistent keys old → IsAtRest old → IsCall keys weighs old call reply new → IsConsistent keys new × IsAtRest new

  -- the copies of all shards change nothing, and are the unexpired pairs of each shard, or memory was refused
  abbrev pub IterationsCopy : Type 0
  IterationsCopy =
      (old new : CoreState K V S) (now : ℕ) (reply : Reply K V) → IsIteration keys weighs old now reply new →
      (new ≡ old) × ((reply ≡ OutOfMemory) ⊎ (reply ≡ Rows (flat_map (λ shard. pairs_of keys old shard now) (numbers_from 0 SHARDS))))

  -- a whole call returns, where the weigher has an answer for each pair
  abbrev pub CallsReturn : Type 0
  CallsReturn =
      ((key : K) (value : V) → (weight : ℕ) × weighs key value weight) →
      (old : CoreState K V S) (call : Call K V) → IsConsistent keys old → IsAtRest old →
      (reply : Reply K V) × (new : CoreState K V S) × IsCall keys weighs old call reply new

  -- a sync empties both logs; then the charged weight is within the limit, or as many entries were evicted as a maintenance evicts at most
  abbrev pub SyncsEmpty : Type 0
  SyncsEmpty =
      (old new : CoreState K V S) (now : ℕ) (reply : Reply K V) →
      IsConsistent keys old → IsAtRest old → (sync : IsCall keys weighs old (Sync now) reply new) →
      IsQuiescent new
      × IsTrimmed new.settings.policy.max_capacity new.maintenance.orders (entries_evicted keys weighs sync.1.begun new sync.1.turns)

  -- a list with one more call leads on from where the list leads
  abbrev pub ReplaysOneMore : Type 0
  ReplaysOneMore =
      (old next new : CoreState K V S) (calls : List (Call K V × Reply K V)) (call : Call K V) (reply : Reply K V) →
      Replays keys weighs old calls next → IsCall keys weighs next call reply new →
      Replays keys weighs old (calls ++ (call, reply) ∷ []) new

  -- a list of calls leaves nothing under way
  abbrev pub ListsRest : Type 0
  ListsRest =
      (old new : CoreState K V S) (calls : List (Call K V × Reply K V)) →
      IsConsistent keys old → IsAtRest old → Replays keys weighs old calls new → IsConsistent keys new × IsAtRest new

  -- nor does one on a core that was built
  abbrev pub ReplaysRest : Type 0
  ReplaysRest =
      (settings : Settings S) (first : ℕ) (calls : List (Call K V × Reply K V)) (core : CoreState K V S) →
      Replays keys weighs (new_core settings first) calls core → IsConsistent keys core × IsAtRest core

  -- what stands at a key is the value that a call last wrote there, or what stood there at the start if none did
  abbrev pub CallsKeepLastWritten : Type 0
  CallsKeepLastWritten =
      (old new : CoreState K V S) (calls : List (Call K V × Reply K V)) (key : K) (value : V) →
      IsConsistent keys old → Replays keys weighs old calls new → value_at keys.eq key new ≡ Some value →
      last_called keys.eq key calls (value_at keys.eq key old) ≡ Some value

  -- a call of get answers the value that stands unexpired
  abbrev pub CallsGetLive : Type 0
  CallsGetLive =
      (old new : CoreState K V S) (key : K) (now : ℕ) (found : Option V) →
      IsCall keys weighs old (Get key now) (Found found) new → found ≡ option_map (λ e. e.value) (live_at keys.eq key now old)

  -- so does a call of remove
  abbrev pub CallsRemoveLive : Type 0
  CallsRemoveLive =
      (old new : CoreState K V S) (key : K) (now : ℕ) (found : Option V) →
      IsCall keys weighs old (Remove key now) (Found found) new → found ≡ option_map (λ e. e.value) (live_at keys.eq key now old)
