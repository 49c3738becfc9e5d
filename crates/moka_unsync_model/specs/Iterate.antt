-- What an iterator gives.
use Rattle.std.specs.Prelude.{ℕ, Bool, not, List, [], ◌∷◌, map, filter, Option, option_map, if◌then◌else◌}
use Rattle.std.specs.List.{find}
use Rattle.moka_common.specs.Keys.{Keys}
use Rattle.moka_common.specs.Policy.{Policy}
use Rattle.moka_unsync_model.specs.declared.entry.Entry.{Entry}
use Rattle.moka_unsync_model.specs.CacheState.{CacheState}
use Rattle.moka_unsync_model.specs.Cleanup.{is_expired}

-- the pairs of these entries, in their order
abbrev pub pairs_of : {K V : Type 0} → List (Entry K V) → List (K × V)
pairs_of entries = map (λ e. (e.key, e.value)) entries

-- the pairs of those that are not expired
abbrev pub unexpired_pairs : {K V : Type 0} → Policy → ℕ → List (Entry K V) → List (K × V)
unexpired_pairs policy now entries = pairs_of (filter (λ e. not (is_expired policy now e)) entries)

-- what an iterator gives: the unexpired entries as pairs, in order of use, those of main first
abbrev pub pairs_at : {K V S W : Type 0} → CacheState K V S W → ℕ → List (K × V)
pairs_at cache now = unexpired_pairs cache.settings.policy now cache.contents.entries

-- the entries behind that of a key, if it has one
abbrev pub entries_behind : {K V : Type 0} → (K → K → Bool) → K → List (Entry K V) → List (Entry K V)
entries_behind eq key [] = []
entries_behind eq key (e ∷ entries) = if eq key e.key then entries else entries_behind eq key entries

-- the first of these entries that is not expired
abbrev pub first_unexpired : {K V : Type 0} → Policy → ℕ → List (Entry K V) → Option (Entry K V)
first_unexpired policy now entries = find (λ e. not (is_expired policy now e)) entries

-- the pair that an iterator gives behind that of a key
abbrev pub pair_behind : {K V S W : Type 0} → Keys K S → CacheState K V S W → K → ℕ → Option (K × V)
pair_behind keys cache key now =
    option_map (λ e. (e.key, e.value)) (first_unexpired cache.settings.policy now (entries_behind keys.eq key cache.contents.entries))
