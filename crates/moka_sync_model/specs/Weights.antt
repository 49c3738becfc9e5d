-- What a contract sees of the laws of weights, which `src/laws.rt` promises: an entry weighs what the weigher has answered.
use Rattle.std.specs.Prelude.{◌≡◌, ℕ, true, List, Some}
use Rattle.moka_common.specs.Keys.{Keys}
use Rattle.moka_sync_model.specs.declared.event.Event.{Event}
use Rattle.moka_sync_model.specs.declared.event.Event.TheVariants as event
use Rattle.moka_sync_model.specs.declared.event.Reply.TheVariants.{Done}
use Rattle.moka_sync_model.specs.CoreState.{CoreState}
use Rattle.moka_sync_model.specs.Entry.{Entry, entry_at}
use Rattle.moka_sync_model.specs.Reply.{Reply}
use Rattle.moka_sync_model.specs.Consistent.{IsConsistent}
use Rattle.moka_sync_model.specs.Run.{AreWeighed, Happening, Happens, Runs}

module _ {K V S : Type 0} (keys : Keys K S) (weighs : K → V → ℕ → Type 0) where
  -- where an insert is accepted, its value stands at its key, with a weight that the weigher answered
  abbrev pub AcceptsWeighed : Type 0
  AcceptsWeighed =
      (old new : CoreState K V S) (caller : ℕ) (key : K) (value : V) (now : ℕ) →
      Happens keys weighs old (event.Insert caller key value now) Done new →
      (e : Entry K V) × (entry_at keys.eq key new.entries ≡ Some e) × (e.value ≡ value) × weighs key value e.weight

  -- each entry that stands has a weight that the weigher answered, for an equal key and its value
  abbrev pub AreEntriesWeighed : CoreState K V S → Type 0
  AreEntriesWeighed core =
      (key : K) (e : Entry K V) → entry_at keys.eq key core.entries ≡ Some e →
      (asked : K) × (keys.eq key asked ≡ true) × weighs asked e.value e.weight

  -- each step keeps them so
  abbrev pub KeepsWeighed : Type 0
  KeepsWeighed =
      (old new : CoreState K V S) (event : Event K V) (reply : Reply K V) → IsConsistent keys old → AreEntriesWeighed old →
      Happens keys weighs old event reply new → AreEntriesWeighed new

  -- so does every list of steps whose accepted inserts were weighed
  abbrev pub RunsKeepWeighed : Type 0
  RunsKeepWeighed =
      (old new : CoreState K V S) (happenings : List (Happening K V)) → IsConsistent keys old → AreEntriesWeighed old →
      AreWeighed weighs happenings → Runs keys old happenings new → AreEntriesWeighed new
