-- What leaves the cache before a call acts: expired entries, and entries above the limit, in batches.
use Rattle.std.specs.Prelude.{ℕ, ◌-◌, Bool, ◌||◌, List, map, take, take_while, Option, Some, None, unwrap_or, if◌then◌else◌}
use Rattle.moka_common.specs.Moment.{idle_expired, is_past}
use Rattle.moka_common.specs.Policy.{Policy}
use Rattle.moka_common.specs.Prefix.{shortest_prefix}
use Rattle.moka_common.specs.Settings.{live_nanos, idle_nanos}
use Rattle.moka_unsync_model.specs.declared.constants.TheConstants.{EVICTION_BATCH_SIZE}
use Rattle.moka_unsync_model.specs.Deadline.{expiry_of}
use Rattle.moka_unsync_model.specs.declared.entry.Entry.{Entry}
use Rattle.moka_unsync_model.specs.Contents.{Contents, Write, total_weight, probation_of, protected_of, window_of, entry_keys, after_leaving}

-- whether a key's deadline has come
abbrev pub is_past_ttl : {K : Type 0} → Policy → ℕ → Write K → Bool
is_past_ttl policy now write = is_past (live_nanos policy) write.deadline now

-- whether an entry was idle too long
abbrev pub is_idle : {K V : Type 0} → Policy → ℕ → Entry K V → Bool
is_idle policy now entry = idle_expired (idle_nanos policy) entry.accessed now

-- whether an entry is expired at a moment, for either reason
abbrev pub is_expired : {K V : Type 0} → Policy → ℕ → Entry K V → Bool
is_expired policy now entry = is_past (live_nanos policy) (expiry_of entry) now || idle_expired (idle_nanos policy) entry.accessed now

-- the entry, if there is one and it is not expired
abbrev pub unexpired : {K V : Type 0} → Policy → ℕ → Option (Entry K V) → Option (Entry K V)
unexpired policy now None = None
unexpired policy now (Some e) = if is_expired policy now e then None else Some e

-- the first of these entries that weigh so much together, or all
abbrev pub least_recent : {K V : Type 0} → ℕ → List (Entry K V) → List (Entry K V)
least_recent enough entries = unwrap_or (shortest_prefix (λ e. e.weight) enough entries) entries

module _ {K V : Type 0} (eq : K → K → Bool) where
  -- the longest beginning of the order of writing that has lived too long leaves, but at most so many
  abbrev pub after_live_expiry : Policy → ℕ → ℕ → Contents K V → Contents K V
  after_live_expiry policy now most contents =
      after_leaving eq (map (λ w. w.key) (take most (take_while (is_past_ttl policy now) contents.written))) contents

  -- the longest beginning of these entries that was idle too long leaves, but at most so many
  abbrev pub after_idle : Policy → ℕ → ℕ → List (Entry K V) → Contents K V → Contents K V
  after_idle policy now most entries contents =
      after_leaving eq (entry_keys (take most (take_while (is_idle policy now) entries))) contents

  -- such a batch of the window leaves, then one of probation, and then one of protected
  abbrev pub after_idle_expiry : Policy → ℕ → ℕ → Contents K V → Contents K V
  after_idle_expiry policy now most contents =
      after_idle policy now most (protected_of contents.entries)
      (after_idle policy now most (probation_of contents.entries) (after_idle policy now most (window_of contents.entries) contents))

  -- the first entries, probation's, then protected's, then the window's, that weigh as much as the weight above the limit leave, but at most so many
  abbrev pub after_eviction : ℕ → ℕ → Contents K V → Contents K V
  after_eviction limit most contents =
      after_leaving eq (entry_keys (take most (least_recent (total_weight contents.entries - limit) contents.entries))) contents

  -- a batch leaves by time to live, then a batch by time to idle
  abbrev pub after_expiry : Policy → ℕ → Contents K V → Contents K V
  after_expiry policy now contents =
      after_idle_expiry policy now EVICTION_BATCH_SIZE (after_live_expiry policy now EVICTION_BATCH_SIZE contents)

  -- a batch leaves where the weight is above a limit
  abbrev pub after_trim : Option ℕ → Contents K V → Contents K V
  after_trim None contents = contents
  after_trim (Some limit) contents = after_eviction limit EVICTION_BATCH_SIZE contents

  -- what a call finds when it acts
  abbrev pub after_cleanup : Policy → ℕ → Contents K V → Contents K V
  after_cleanup policy now contents = after_trim policy.max_capacity (after_expiry policy now contents)
