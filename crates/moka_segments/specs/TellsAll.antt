-- What calls of all segments tell: an invalidation by a predicate, and a snapshot.
use Rattle.std.specs.Prelude.{◌≡◌, ◌<◌, ◌≤◌, ℕ, Bool, not, is_some, List, [], map, slice_index_or}
use Rattle.std.specs.Borrow.{Bor}
use Rattle.std.specs.List.{AllZip, IsDistinct}
use Rattle.moka_common.specs.Keys.{Keys}
use Rattle.moka_unsync_model.specs.declared.entry.Entry.{Entry}
use Rattle.moka_unsync_model.specs.Contents.{entry_at}
use Rattle.moka_unsync_model.specs.Invalidate.{AnswersInTurn, after_invalidate_if, after_remove_expired}
use Rattle.moka_unsync_model.specs.Step.{InvalidateEntriesIf, Done}
use Rattle.moka_unsync_model.specs.History.{IsCurrent, exchanges}
use Rattle.moka_row.specs.Visits.{at}
use Rattle.moka_segments.specs.declared.plan.Plan.{Plan}
use Rattle.moka_segments.specs.Plan.{place_of}
use Rattle.moka_segments.specs.Rules.{Rules}
use Rattle.moka_segments.specs.History.{Every, Knows, calls, rest}
use Rattle.moka_segments.specs.Calls.{Copies, MakesIn, SameIn}

-- which entries left, one answer an entry: those whose key has none after
abbrev pub leavers : {K V : Type 0} → (K → K → Bool) → List (Entry K V) → List (Entry K V) → List Bool
leavers eq before after = map (λ e. not (is_some (entry_at eq e.key after))) before

-- one pair is a clone of another, key and value each
abbrev pub IsPairClone : {K V : Type 0} → (K → K → Type 0) → (V → V → Type 0) → K × V → K × V → Type 0
IsPairClone key_clone value_clone pair copy = key_clone pair.0 copy.0 × value_clone pair.1 copy.1

module _ {K V S W : Type 0} (keys : Keys K S) (weighs : W → K → V → ℕ → W → Type 0) (rules : Rules K V) (plan : Plan S) where
  -- what an invalidation by a predicate makes and tells in a segment: the predicate is called once at each entry, and those at which it answers true leave
  pub record InvalidatesIf {F : Type 0} (asks : F → Bor K → Bor V → Bool → F → Type 0)
      (predicate : F) (old : Knows K V S W) (i : ℕ) (new : Knows K V S W) : Type 0 where
    pub answers : List Bool
    pub made : MakesIn keys weighs rules plan old i (InvalidateEntriesIf answers) Done new
    pub told : List Bool
    pub asked : AnswersInTurn asks predicate made.call.before.contents.entries told
    pub left : made.call.after ≡ after_invalidate_if keys made.call.before told

  -- and in each segment, one after another
  pub record InvalidatesAllIf {F : Type 0} (asks : F → Bor K → Bor V → Bool → F → Type 0)
      (predicate : F) (old : Knows K V S W) (count : ℕ) (new : Knows K V S W) : Type 0 where
    pub made : (i : ℕ) → i < count → InvalidatesIf asks predicate old i new
    pub later : (i : ℕ) → count ≤ i → SameIn old i new
    pub same : new.by ≡ old.by

  -- what a removal of expired entries makes and tells in a segment: it is an invalidation, after which the entries that were expired have left
  pub record Sweeps (now : ℕ) (old : Knows K V S W) (i : ℕ) (new : Knows K V S W) : Type 0 where
    pub answers : List Bool
    pub made : MakesIn keys weighs rules plan old i (InvalidateEntriesIf answers) Done new
    pub left : made.call.after ≡ after_remove_expired keys made.call.before now

  -- and in each segment, one after another
  pub record SweepsAll (now : ℕ) (old : Knows K V S W) (count : ℕ) (new : Knows K V S W) : Type 0 where
    pub made : (i : ℕ) → i < count → Sweeps now old i new
    pub later : (i : ℕ) → count ≤ i → SameIn old i new
    pub same : new.by ≡ old.by

  -- the pairs of all segments, each segment's as they stand at one moment: each is current there, and each key is there once
  pub record Snapshots (old : Knows K V S W) (count : ℕ) (now : ℕ) (pairs : List (K × V)) (new : Knows K V S W) : Type 0 where
    pub copies : Copies keys weighs rules plan old count now pairs new
    pub placed : Every (λ p. place_of plan keys p.0 < count) pairs
    pub once : IsDistinct keys.eq (map (λ p. p.0) pairs)
    pub current : (i : ℕ) → i < count
        → Every (λ p. IsCurrent keys plan.policy now (exchanges (calls (rest (at new.seen i)))) p.0 p.1) (slice_index_or copies.parts i [])

  -- what a snapshot tells: clones of such pairs
  abbrev pub TellsSnapshot : (K → K → Type 0) → (V → V → Type 0) → Knows K V S W → ℕ → ℕ → List (K × V) → Knows K V S W → Type 0
  TellsSnapshot key_clone value_clone old count now pairs new =
      (found : List (K × V)) × AllZip (IsPairClone key_clone value_clone) found pairs × Snapshots old count now found new
