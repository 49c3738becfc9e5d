-- When a cache turns its sketch on, and for how many entries.
use Rattle.std.specs.Prelude.{ℕ, ◌*◌, ◌/◌, ◌-◌, ◌^◌, ◌==◌, min, Bool, true, false, nat_le, Option, Some, None, if◌then◌else◌}
use Rattle.moka_common.specs.Sketch.{Table}
use Rattle.moka_common.specs.SketchCapacity.{after_ensure_capacity, sketch_capacity}
use Rattle.moka_common.specs.declared.frequency_sketch.enabling.Load.{Load}

-- whether a cache of this weight asks for a table: it has a limit, no table yet, and at least half of the limit, rounded down
abbrev pub enables_sketch : Option ℕ → Option Table → ℕ → Bool
enables_sketch None sketch weight = false
enables_sketch (Some limit) None weight = nat_le (limit / 2) weight
enables_sketch (Some limit) (Some table) weight = false

-- how many entries the cache has room for: the limit, or with a weigher as many as make up the limit at the present mean weight
abbrev pub expected_entries : Bool → ℕ → ℕ → ℕ → ℕ
expected_entries false limit count weight = limit
expected_entries true limit count weight = if limit == 0 then 0 else count * min weight (2 ^ 64 - 1) / limit

-- the capacity that is asked of the sketch
abbrev pub capacity_asked : Bool → ℕ → ℕ → ℕ → ℕ
capacity_asked is_weighed limit count weight = sketch_capacity (expected_entries is_weighed limit count weight)

-- the sketch of a cache of this limit and load, once it has asked whether to turn it on, and whether memory refuses the table
abbrev pub after_enabling : Option ℕ → Load → Bool → Option Table → Option Table
after_enabling None load refused sketch = sketch
after_enabling (Some limit) load true sketch = sketch
after_enabling (Some limit) load false sketch =
    if enables_sketch (Some limit) sketch load.weight
    then after_ensure_capacity sketch (capacity_asked load.is_weighed limit load.entries load.weight)
    else sketch
