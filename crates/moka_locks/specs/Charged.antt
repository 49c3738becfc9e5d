-- What is published of a maintenance that has ended. No public clause cites this module.
use Rattle.std.specs.Prelude.{◌≡◌, ◌-◌, ◌^◌, List, [], ◌∷◌, length, min, Option, option_map, if◌then◌else◌}
use Rattle.atomic_table.specs.Seated.{TableId}
use Rattle.moka_sync_model.specs.CoreState.{Maintenance}
use Rattle.moka_sync_model.specs.Orders.{charged_weight}
use Rattle.moka_sync_model.specs.Phase.{is_idle}
use Rattle.moka_sync_model.specs.Turn.Turn.{next_published}
use Rattle.moka_guards.specs.Counts.{Publisher}
use Rattle.moka_sync_model.specs.declared.published.Published.{Published}

-- the newest is what is charged: how many nodes there are, and their weight, as far as 64 bits tell
abbrev pub IsCharged : Maintenance → List Published → Type 0
IsCharged m [] = ⊥
IsCharged m (newest ∷ older) = (newest.count ≡ length m.orders.access) × (newest.weight ≡ min (charged_weight m.orders) (2 ^ 64 - 1))

-- the newest is what a maintenance has published last
abbrev pub IsNewest : Maintenance → List Published → Type 0
IsNewest m [] = ⊥
IsNewest m (newest ∷ older) = m.published ≡ newest

-- what a maintenance that began after a publication has published last: that, and once it has ended its own
abbrev pub published_after : Published → Maintenance → Published
published_after before m = if is_idle m.phase then next_published (record m { published = before }) else before

-- it has published that, after these
abbrev pub IsAccounted : Maintenance → List Published → Type 0
IsAccounted m [] = ⊥
IsAccounted m (newest ∷ older) = m.published ≡ published_after newest m

-- the counts of a publisher, if there is one
abbrev pub counts_of : Option Publisher → Option TableId
counts_of publisher = option_map (λ p. p.counts) publisher
