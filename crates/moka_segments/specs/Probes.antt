-- What calls by probes make and tell: a probe stands for keys that are equal, and hashes as they do.
use Rattle.std.specs.Prelude.{◌≡◌, ◌⊎◌, ℕ, Bool, false, IsTrue, [], Option, Some, None, Result, Ok}
use Rattle.moka_common.specs.declared.error.OutOfMemory as error
use Rattle.moka_common.specs.Keys.{Keys}
use Rattle.moka_unsync_model.specs.declared.listener.Cause.{Cause}
use Rattle.moka_unsync_model.specs.Step.{Invalidate, Miss, Done, Found}
use Rattle.moka_row.specs.Visits.{at}
use Rattle.moka_segments.specs.declared.plan.Plan.{Plan}
use Rattle.moka_segments.specs.Plan.{place_of, segment_of}
use Rattle.moka_segments.specs.Rules.{Rules}
use Rattle.moka_segments.specs.History.{Knows}
use Rattle.moka_segments.specs.Calls.{Makes, Visits}
use Rattle.moka_segments.specs.Notifying.{TellsLast}
use Rattle.moka_segments.specs.Tells.{Gets, Lacks, Looks, Peeks, Removes}

-- the visit that stands last in the history of a hash's segment tells
abbrev pub TellsAtHash : {L K V S W : Type 0} → (L → K → V → Cause → L → Type 0) → Keys K S → Plan S → ℕ → Knows K V S W → L → L → Type 0
TellsAtHash hears keys plan hash knows before after = TellsLast hears keys (at knows.seen (segment_of hash plan.count)) before after

module _ {K V S W : Type 0} (keys : Keys K S) (weighs : W → K → V → ℕ → W → Type 0) (rules : Rules K V) (plan : Plan S) where
  -- in this segment nothing is found, and this hash counted or none: each key that the probe stands for is missing for a reason, or its last write is over
  pub record MissesBy (old : Knows K V S W) (i : ℕ) (stands_for : K → Bool) (counted : Option ℕ) (now : ℕ) (new : Knows K V S W) : Type 0 where
    pub made : Makes keys weighs rules plan old i (Miss counted now) (Found None) new
    pub lacks : (key : K) → IsTrue (stands_for key) → Lacks keys weighs plan.policy key now (at new.seen i)

  -- what a get by a probe makes and tells: it is a get of a key that the probe stands for, or finds nothing, and counts the hash
  abbrev pub GetsBy : (V → V → Type 0) → Knows K V S W → (K → Bool) → ℕ → ℕ → Result (Option V) error.OutOfMemory → Knows K V S W → Type 0
  GetsBy is_clone old stands_for hash now result new =
      ((key : K) × IsTrue (stands_for key) × Gets keys weighs rules plan is_clone old key now result new)
      ⊎ ((result ≡ Ok None) × MissesBy old (segment_of hash plan.count) stands_for (Some hash) now new)

  -- a peek by a probe is a peek of such a key, or a visit without a call
  abbrev pub PeeksBy : (V → V → Type 0) → Knows K V S W → (K → Bool) → ℕ → ℕ → Result (Option V) error.OutOfMemory → Knows K V S W → Type 0
  PeeksBy is_clone old stands_for hash now result new =
      ((key : K) × IsTrue (stands_for key) × Peeks keys weighs rules plan is_clone old key now result new)
      ⊎ ((result ≡ Ok None) × Visits keys weighs rules plan old (segment_of hash plan.count) [] new)

  -- a look by a probe is a look for such a key, or finds nothing
  abbrev pub LooksBy : Knows K V S W → (K → Bool) → ℕ → ℕ → Bool → Knows K V S W → Type 0
  LooksBy old stands_for hash now there new =
      ((key : K) × IsTrue (stands_for key) × Looks keys weighs rules plan old key now there new)
      ⊎ ((there ≡ false) × MissesBy old (segment_of hash plan.count) stands_for None now new)

  -- an invalidation by a probe is one of such a key, or finds nothing
  abbrev pub InvalidatesBy : Knows K V S W → (K → Bool) → ℕ → ℕ → Knows K V S W → Type 0
  InvalidatesBy old stands_for hash now new =
      ((key : K) × IsTrue (stands_for key) × Makes keys weighs rules plan old (place_of plan keys key) (Invalidate key now) Done new)
      ⊎ MissesBy old (segment_of hash plan.count) stands_for None now new

  -- a removal by a probe is one of such a key, or finds nothing
  abbrev pub RemovesBy : Knows K V S W → (K → Bool) → ℕ → ℕ → Option V → Knows K V S W → Type 0
  RemovesBy old stands_for hash now found new =
      ((key : K) × IsTrue (stands_for key) × Removes keys weighs rules plan old key now found new)
      ⊎ ((found ≡ None) × MissesBy old (segment_of hash plan.count) stands_for None now new)
