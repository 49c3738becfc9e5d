-- How ids lie in the table of an index. No public clause cites this module.
use Rattle.std.specs.Prelude.{◌≡◌, ◌≢◌, ℕ, zero, suc, ◌+◌, ◌-◌, ◌*◌, ◌/◌, ◌%◌, ◌<◌, ◌≤◌, Bool, true, false, nat_eq, nat_lt, nat_le, if◌then◌else◌, min}
use Rattle.std.specs.Int.{bit_at}
use Rattle.std.specs.List.{list_any}
use Rattle.std.specs.Prelude.{List, ◌^◌, length, replicate, slice_index_or, slice_set}
use Rattle.moka_list.specs.declared.constants.TheConstants.{FAR, SLOTS, SHARE}
use Rattle.moka_list.specs.declared.group.Group.{Group}
use Rattle.moka_list.specs.HashIndex.{chosen, group_at, home_group, slots_of, tag_of}

-- a group without ids
abbrev pub FREE : Group
FREE = record { marks = replicate 20 0; passed = 0; ids = replicate 10 0 }

-- the id stands at one of some slots of a group, as bits
abbrev pub is_among : ℕ → ℕ → List ℕ → Bool
is_among id bits ids = list_any (nat_eq id) (chosen bits ids)

-- the id stands at a slot of a group, with this tag and this distance
pub record HasAt (group : Group) (tag distance id slot : ℕ) : Type 0 where
  pub within : slot < SLOTS
  pub set : bit_at (slots_of group tag distance) slot ≡ 1
  pub is : slice_index_or group.ids slot 0 ≡ id

-- a group with an id at a slot
abbrev pub with_id : Group → ℕ → ℕ → ℕ → ℕ → Group
with_id group slot tag distance id =
    record { marks = slice_set (slice_set group.marks slot tag) (SLOTS + slot) distance; passed = group.passed; ids = slice_set group.ids slot id }

-- a group with a slot freed
abbrev pub without : Group → ℕ → Group
without group slot = record { marks = slice_set group.marks slot 0; passed = group.passed; ids = group.ids }

-- slots are numbered through: slot k of group q is q * SLOTS + k
abbrev pub tag_at : List Group → ℕ → ℕ
tag_at groups cell = slice_index_or (group_at groups (cell / SLOTS)).marks (cell % SLOTS) 0

-- the distance of the id at a slot: how many groups lead from its home to where it stands, or FAR
abbrev pub distance_at : List Group → ℕ → ℕ
distance_at groups cell = slice_index_or (group_at groups (cell / SLOTS)).marks (SLOTS + cell % SLOTS) 0

abbrev pub id_at : List Group → ℕ → ℕ
id_at groups cell = slice_index_or (group_at groups (cell / SLOTS)).ids (cell % SLOTS) 0

-- no id stands at the slot
abbrev pub is_free : List Group → ℕ → Bool
is_free groups cell = nat_eq (tag_at groups cell) 0

-- how many steps lead from one group on to another, of so many
abbrev pub steps : ℕ → ℕ → ℕ → ℕ
steps count from to = if nat_le from to then to - from else count + to - from

-- an id with this tag and this distance has passed the group from which so many steps lead to it, and is counted there
abbrev pub passing : ℕ → ℕ → ℕ → Bool
passing tag distance way =
    if nat_eq tag 0 then false else if nat_eq distance FAR then false else if nat_lt 0 way then nat_le way distance else false

-- the id at a slot has passed a group, and is counted there
abbrev pub passes : List Group → ℕ → ℕ → Bool
passes groups at cell = passing (tag_at groups cell) (distance_at groups cell) (steps (length groups) at (cell / SLOTS))

-- how many of the first numbers pass a test
abbrev pub tally : (ℕ → Bool) → ℕ → ℕ
tally test zero = zero
tally test (suc n) = (if test n then 1 else 0) + tally test n

-- an id of a hash stands at a slot, with the hash's tag and its distance from the hash's home
pub record IsUnder (groups : List Group) (hash cell : ℕ) : Type 0 where
  pub inside : cell < SLOTS * length groups
  pub taken : is_free groups cell ≡ false
  pub is_tag : tag_at groups cell ≡ tag_of (length groups) hash
  pub is_distance : distance_at groups cell ≡ min (steps (length groups) (home_group (length groups) hash) (cell / SLOTS)) FAR

-- each group has as many marks and ids as the type of its arrays says
abbrev pub AreShaped : List Group → Type 0
AreShaped groups = (at : ℕ) → at < length groups → (length (group_at groups at).marks ≡ 20) × (length (group_at groups at).ids ≡ SLOTS)

-- each id stands once, where an id of some hash may, and each group that it has passed counts it, unless it is FAR from its home
pub record IsProbed (groups : List Group) (ids : ℕ) (far : Bool) : Type 0 where
  pub room : ids ≤ SHARE * length groups
  pub most : SLOTS * length groups < 2 ^ 32
  pub shaped : AreShaped groups
  pub once : (cell other : ℕ) → is_free groups cell ≡ false → is_free groups other ≡ false → id_at groups cell ≡ id_at groups other → cell ≡ other
  pub below : (cell : ℕ) → is_free groups cell ≡ false → id_at groups cell < ids
  pub hashed : (cell : ℕ) → is_free groups cell ≡ false → (hash : ℕ) × IsUnder groups hash cell
  pub counted : (at : ℕ) → at < length groups → (group_at groups at).passed ≡ tally (passes groups at) (SLOTS * length groups)
  pub says_far : (cell : ℕ) → is_free groups cell ≡ false → distance_at groups cell ≡ FAR → far ≡ true

-- all slots but one have what they had
pub record SameBut (old : List Group) (cell : ℕ) (new : List Group) : Type 0 where
  pub len : length new ≡ length old
  pub tags : (other : ℕ) → other ≢ cell → tag_at new other ≡ tag_at old other
  pub distances : (other : ℕ) → other ≢ cell → distance_at new other ≡ distance_at old other
  pub ids : (other : ℕ) → other ≢ cell → id_at new other ≡ id_at old other

-- each of so many groups, from a home on, counts one more
pub record CountsWay (old : List Group) (home distance : ℕ) (new : List Group) : Type 0 where
  pub len : length new ≡ length old
  pub marks : (at : ℕ) → (group_at new at).marks ≡ (group_at old at).marks
  pub ids : (at : ℕ) → (group_at new at).ids ≡ (group_at old at).ids
  pub passed : (at : ℕ) → at < length old
      → (group_at new at).passed ≡ (group_at old at).passed + (if nat_lt (steps (length old) home at) distance then 1 else 0)
