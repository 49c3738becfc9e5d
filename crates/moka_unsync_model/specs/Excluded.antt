-- What the laws of hits and misses exclude: a check that their words are no excuse. `src/history.rt` promises it.
use Rattle.std.specs.Prelude.{◌≡◌, ◌≢◌, ◌⊎◌, ◌≤◌, ◌+◌, ℕ, false, List, [], ◌∷◌, Option, Some, None}
use Rattle.moka_common.specs.Keys.{Keys}
use Rattle.moka_common.specs.Policy.{Policy}
use Rattle.moka_common.specs.Settings.{live_nanos}
use Rattle.moka_unsync_model.specs.declared.entry.Entry.{Entry}
use Rattle.moka_unsync_model.specs.CacheState.{CacheState}
use Rattle.moka_unsync_model.specs.Cleanup.{is_expired}
use Rattle.moka_unsync_model.specs.Deadline.{end_of}
use Rattle.moka_unsync_model.specs.Step.{Request, Insert, Done}
use Rattle.moka_unsync_model.specs.History.{Exchange, IsCurrent, chosen_keys, is_invalidated}
use Rattle.moka_unsync_model.specs.Removal.{RemovalCause, cleanup_moment}

-- an accepted insert with its own time to live, if it has one, and the deadline of its entry
abbrev pub inserted : {K V : Type 0} → K → V → Option ℕ → ℕ → ℕ → Exchange K V
inserted key value own deadline now = record { request = Insert key value own now; answer = Done; chosen = []; deadline = deadline }

-- a value that an insert has replaced is not current
abbrev pub ReplacedValuesAreNotCurrent : {K S : Type 0} → Keys K S → Type 0 → Type 0
ReplacedValuesAreNotCurrent {K = K} keys V =
    (policy : Policy) (past : List (Exchange K V)) (key : K) (old new : V) (own : Option ℕ) (deadline put now : ℕ) → old ≢ new →
    IsCurrent keys policy now (inserted key new own deadline put ∷ past) key old → ⊥

-- nor is one whose time to live, its own or the cache's, has passed since its insert
abbrev pub ExpiredValuesAreNotCurrent : {K S : Type 0} → Keys K S → Type 0 → Type 0
ExpiredValuesAreNotCurrent {K = K} keys V =
    (policy : Policy) (past : List (Exchange K V)) (key : K) (value : V) (own : Option ℕ) (put now nanos lived : ℕ) →
    live_nanos policy ≡ Some nanos → (lived ≡ nanos) ⊎ (own ≡ Some lived) → put + lived ≤ now →
    IsCurrent keys policy now (inserted key value own (end_of (live_nanos policy) own put) put ∷ past) key value → ⊥

-- without a limit an entry that is neither invalidated nor removed nor expired has no cause to leave
abbrev pub EntriesWithoutCauseStay : {K S : Type 0} → Keys K S → Type 0 → Type 0 → Type 0
EntriesWithoutCauseStay {K = K} {S = S} keys V W =
    (old new : CacheState K V S W) (request : Request K V) (e : Entry K V) → old.settings.policy.max_capacity ≡ None →
    is_invalidated keys request (chosen_keys request old.contents.entries) e.key ≡ false →
    ((now : ℕ) → cleanup_moment request ≡ Some now → is_expired old.settings.policy now e ≡ false) →
    RemovalCause keys old request new e → ⊥
