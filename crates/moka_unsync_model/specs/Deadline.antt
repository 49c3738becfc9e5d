-- When an entry expires by its time to live.
use Rattle.std.specs.Prelude.{ℕ, ◌+◌, ◌-◌, ◌^◌, min, Bool, false, nat_lt, Option, Some, None, if◌then◌else◌}
use Rattle.moka_common.specs.Moment.{deadline_of}
use Rattle.moka_unsync_model.specs.declared.entry.Entry.{Entry}

-- whether the time to live of an entry that is written at a moment ends after the last moment: its own, or the cache's where that is shorter
abbrev pub is_beyond : Option ℕ → Option ℕ → ℕ → Bool
is_beyond None own written = false
is_beyond (Some time_to_live) None written = nat_lt (2 ^ 64 - 1) (written + time_to_live)
is_beyond (Some time_to_live) (Some own) written = nat_lt (2 ^ 64 - 1) (written + min time_to_live own)

-- when it ends; 2^64, which no moment reaches, stands for all that is after the last moment
abbrev pub end_of : Option ℕ → Option ℕ → ℕ → ℕ
end_of time_to_live own written =
    let deadline = deadline_of time_to_live own written in
    if is_beyond time_to_live own written then deadline + 1 else deadline

-- when an entry expires, if it isn't idle before
abbrev pub expiry_of : {K V : Type 0} → Entry K V → ℕ
expiry_of entry = if entry.outlasts then entry.deadline + 1 else entry.deadline
