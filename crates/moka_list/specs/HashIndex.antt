-- What a contract sees of a `HashIndex`.
use Rattle.std.specs.Prelude.{◌≡◌, ℕ, zero, suc, ◌+◌, ◌*◌, ◌/◌, ◌%◌, ◌^◌, Bool, true, false, nat_eq, if◌then◌else◌, max, min}
use Rattle.std.specs.Prelude.{List, [], ◌∷◌, ◌++◌, length, map, slice_index_or, Option, None, Some, ◌⊎◌}
use Rattle.std.specs.List.{list_any}
use Rattle.std.specs.Prelude.{bit_and}
use Rattle.std.specs.Simd.Lanes.{chunk, mask_l}
use Rattle.moka_list.specs.declared.constants.TheConstants.{FAR, SHARE, SPREAD}
use Rattle.moka_list.specs.declared.group.Group.{Group}

-- the groups of the table, the number below which ids can be added, and whether some id may be FAR from its home
pub record HashIndex : Type 0 where
  pub groups : List Group
  pub ids : ℕ
  pub far : Bool

-- the number of groups of a table with room for so many ids
abbrev pub groups_of : ℕ → ℕ
groups_of ids = ids / SHARE + 1

-- the group at which a search for a hash starts, in a table of so many groups
unfoldable pub home_group : ℕ → ℕ → ℕ
home_group groups hash = hash * SPREAD % 2 ^ 64 * groups / 2 ^ 64

-- the tag of a hash, which is never 0: the eight bits that follow those of its home
unfoldable pub tag_of : ℕ → ℕ → ℕ
tag_of groups hash = max (hash * SPREAD % 2 ^ 64 * groups / 2 ^ 56 % 256) 1

-- the group after another, round and round
abbrev pub after : ℕ → ℕ → ℕ
after groups at = if nat_eq (at + 1) groups then 0 else at + 1

-- the group at a position; past the table's end there are none
abbrev pub group_at : List Group → ℕ → Group
group_at groups at = slice_index_or groups at (record { marks = []; passed = 0; ids = [] })

-- which slots of a group have a tag, as bits
unfoldable pub slots_with : Group → ℕ → ℕ
slots_with group tag = mask_l (map (λ mark. nat_eq mark tag) (chunk 0 16 group.marks)) % 1024

-- which slots of a group have a distance, as bits
unfoldable pub slots_at : Group → ℕ → ℕ
slots_at group distance = mask_l (map (λ mark. nat_eq mark distance) (chunk 0 16 (chunk 4 16 group.marks))) / 2 ^ 6

-- which have both
unfoldable pub slots_of : Group → ℕ → ℕ → ℕ
slots_of group tag distance = bit_and (slots_with group tag) (slots_at group distance)

-- those of the ids whose bits are set
abbrev pub chosen : ℕ → List ℕ → List ℕ
chosen bits [] = []
chosen bits (id ∷ ids) = if nat_eq (bits % 2) 1 then id ∷ chosen (bits / 2) ids else chosen (bits / 2) ids

-- a search ends at the group: it may go on only where an id has passed it, or where some id is FAR from its home
abbrev pub ends_at : Group → Bool → Bool
ends_at group far = if far then false else nat_eq group.passed 0

-- what a search yields in so many groups, from one on that has this distance from the home, up to the first at which it ends
abbrev pub tagged : List Group → ℕ → Bool → ℕ → ℕ → ℕ → List ℕ
tagged groups tag far zero distance at = []
tagged groups tag far (suc left) distance at =
    chosen (slots_of (group_at groups at) tag (min distance FAR)) (group_at groups at).ids
    ++ (if ends_at (group_at groups at) far then [] else tagged groups tag far left (distance + 1) (after (length groups) at))

-- the same if these slots of the first group are left, as bits, and so many groups after it
abbrev pub rest_of : List Group → ℕ → Bool → ℕ → ℕ → ℕ → ℕ → List ℕ
rest_of groups tag far left distance at bits =
    chosen bits (group_at groups at).ids
    ++ (if ends_at (group_at groups at) far then [] else tagged groups tag far left (distance + 1) (after (length groups) at))

-- the ids that may have this hash
abbrev pub candidates : HashIndex → ℕ → List ℕ
candidates index hash =
    tagged index.groups (tag_of (length index.groups) hash) index.far (length index.groups) 0 (home_group (length index.groups) hash)

-- the id is one of them
abbrev pub is_candidate : HashIndex → ℕ → ℕ → Bool
is_candidate index hash id = list_any (nat_eq id) (candidates index hash)

-- a search answers the first of the ids that passes its test
abbrev pub FindsFirst : (ℕ → Bool → Type 0) → List ℕ → Option ℕ → Type 0
FindsFirst test [] result = result ≡ None
FindsFirst test (id ∷ ids) result = (test id true × (result ≡ Some id)) ⊎ (test id false × FindsFirst test ids result)

-- all ids but this one are candidates of what they were candidates of
abbrev pub KeepsOthers : HashIndex → ℕ → HashIndex → Type 0
KeepsOthers old id new = (hash other : ℕ) → nat_eq id other ≡ false → is_candidate new hash other ≡ is_candidate old hash other

-- the id is a candidate of its hash, and perhaps of others, and all else is as it was
pub record Adds (old : HashIndex) (id hash : ℕ) (new : HashIndex) : Type 0 where
  pub under : is_candidate new hash id ≡ true
  pub others : KeepsOthers old id new
  pub ids : new.ids ≡ old.ids

-- the id is a candidate of no hash, and all else is as it was
pub record Removes (old : HashIndex) (id : ℕ) (new : HashIndex) : Type 0 where
  pub gone : (hash : ℕ) → is_candidate new hash id ≡ false
  pub others : KeepsOthers old id new
  pub ids : new.ids ≡ old.ids
