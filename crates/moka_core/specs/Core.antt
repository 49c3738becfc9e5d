-- What a contract sees of a core.
use Rattle.std.specs.Prelude.{false, None}
use Rattle.moka_common.specs.Settings.{Settings}
use Rattle.moka_sync_model.specs.CoreState.{CoreState}

-- its state and its weigher
pub record Core (K V S W : Type 0) : Type 0 where
  pub state : CoreState K V S
  pub weigher : W

-- no limit, no durations and no weigher
abbrev pub unlimited : {S : Type 0} → S → Settings S
unlimited state =
    record { hash_state = state; policy = record { max_capacity = None; time_to_live = None; time_to_idle = None }; is_weighed = false }
