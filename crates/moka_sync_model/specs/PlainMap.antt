-- What a contract sees of the law by which a core without limits is a plain map, which `src/laws.rt` promises.
use Rattle.std.specs.Prelude.{◌≡◌, Bool, false, List, [], ◌∷◌, None, IsSome}
use Rattle.moka_common.specs.Keys.{Keys}
use Rattle.moka_sync_model.specs.declared.event.Event.{Event}
use Rattle.moka_sync_model.specs.declared.event.Event.TheVariants.{InvalidateAll, Turn}
use Rattle.moka_sync_model.specs.declared.operation.Write.TheVariants.{Upsert}
use Rattle.moka_sync_model.specs.Entry.{entry_of}
use Rattle.moka_sync_model.specs.Orders.{charge_of}
use Rattle.moka_sync_model.specs.Phase.{Phase, Apply}
use Rattle.moka_sync_model.specs.CoreState.{CoreState}
use Rattle.moka_sync_model.specs.Event.{IsStep}
use Rattle.moka_sync_model.specs.Run.{Happening}
use Rattle.moka_sync_model.specs.Consistent.{IsConsistent}
use Rattle.moka_sync_model.specs.LastWritten.{value_at, mapped}

module _ {K V S : Type 0} where
  -- the upsert of an entry without a node is applied, so that memory is asked for one
  abbrev pub AsksForNode : CoreState K V S → Phase → Type 0
  AsksForNode core (Apply work (Upsert t)) = IsSome (entry_of t core.entries) × (charge_of t core.maintenance.orders ≡ None)
  AsksForNode core other = ⊥

  -- a step that a plain map knows: it invalidates not all at once, and is refused no node
  abbrev pub IsPlain : CoreState K V S → Bool → Event K V → Type 0
  IsPlain core refused (InvalidateAll now) = ⊥
  IsPlain core refused Turn = AsksForNode core core.maintenance.phase → refused ≡ false
  IsPlain core refused other = Unit {0}

module _ (V : Type 0) {K S : Type 0} (keys : Keys K S) where
  -- nothing limits the core, and nothing was invalidated as a whole
  pub record IsUnlimited (core : CoreState K V S) : Type 0 where
    pub max_capacity : core.settings.policy.max_capacity ≡ None
    pub time_to_live : core.settings.policy.time_to_live ≡ None
    pub time_to_idle : core.settings.policy.time_to_idle ≡ None
    pub valid_after : core.valid_after ≡ 0

  -- such steps lead from one core to another
  abbrev pub RunsPlainly : CoreState K V S → List (Happening K V) → CoreState K V S → Type 0
  RunsPlainly old [] new = new ≡ old
  RunsPlainly old (h ∷ hs) new =
      (next : CoreState K V S) × IsStep keys old h.event h.weight h.refused h.reply next × IsPlain old h.refused h.event
      × RunsPlainly next hs new

  -- without limits the contents are those of a plain map under the accepted inserts, the invalidations and the removals
  abbrev pub IsPlainMap : Type 0
  IsPlainMap =
      (old new : CoreState K V S) (happenings : List (Happening K V)) (key : K) →
      IsConsistent keys old → IsUnlimited old → RunsPlainly old happenings new →
      value_at keys.eq key new ≡ mapped keys.eq key happenings (value_at keys.eq key old)
