-- How many entries fit with no allocation. No public clause cites this module.
use Rattle.std.specs.Prelude.{◌≡◌, ◌<◌, ◌≤◌, ◌-◌, ◌^◌, ℕ, Bool, true, length}
use Rattle.moka_list.specs.Chain.{Chain}
use Rattle.moka_list.specs.IdList.{IdList}
use Rattle.moka_list.specs.GrowingIndex.{GrowingIndex}
use Rattle.moka_unsync_model.specs.declared.entry.Entry.{Entry}

module _ {K V : Type 0} where
  -- so many entries fit with no allocation: in the chain, in the index, and in the order of writing, if that is kept
  pub record HasRoom (keeps : Bool) (ready : ℕ) (entries : Chain (Entry K V)) (writes : IdList) (index : GrowingIndex) : Type 0 where
    pub fits : ready ≤ entries.capacity
    pub few : ready < 2 ^ 32
    pub room : 0 < ready → entries.room ≡ entries.capacity - length entries.items
    pub indexed : 0 < ready → entries.capacity ≤ index.ids
    pub written : keeps ≡ true → 0 < ready → entries.capacity ≤ writes.capacity
