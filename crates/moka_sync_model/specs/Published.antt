-- The counts that a maintenance publishes when it ends.
use Rattle.moka_sync_model.specs.declared.published.Published.{Published}

-- what stands before anything is published
abbrev pub opening : Published
opening = record { number = 0; count = 0; weight = 0 }
