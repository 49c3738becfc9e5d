-- The passes of a recording cache.
use Rattle.std.specs.Prelude.{ℕ, List, map, sum_by}
use Rattle.std.specs.List.{range_with_len}
use Rattle.moka_record.specs.declared.pass.CallPass.{CallPass}

-- those of a cache that was opened for so many callers
abbrev pub new_passes : ℕ → List CallPass
new_passes places = map (λ place. record { place = place; made = 0 }) (range_with_len 0 places)

-- how many calls they have made together
abbrev pub made_by : List CallPass → ℕ
made_by passes = sum_by (λ pass. pass.made) passes
