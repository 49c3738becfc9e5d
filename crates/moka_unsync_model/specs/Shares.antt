-- What a contract sees of how a limit is shared out among the parts of a cache.
use Rattle.std.specs.Prelude.{ℕ, ◌+◌, ◌-◌, ◌*◌, ◌/◌, nat_lt, true, false, Option, Some, None, if◌then◌else◌}
use Rattle.moka_unsync_model.specs.declared.constants.TheConstants.{ADAPTIVE_PROTECTED_SHARE, PROTECTED_SHARE, WINDOW_SHARE}
use Rattle.moka_unsync_model.specs.declared.shares.PartLimits.{PartLimits}
use Rattle.moka_unsync_model.specs.declared.shares.Shares.{Shares}

-- the shares where none are set
abbrev pub default_shares : Shares
default_shares = record { window = WINDOW_SHARE; protected = PROTECTED_SHARE; adapts = false; extra = 0 }

-- the shares with which a window that adapts begins
abbrev pub adaptive : Shares → Shares
adaptive shares = record shares { window = WINDOW_SHARE; protected = ADAPTIVE_PROTECTED_SHARE; adapts = true }

-- so many hundredths of a weight, rounded down
abbrev pub hundredths : ℕ → ℕ → ℕ
hundredths share weight = weight * share / 100

-- the limits of the parts: the window's share is of the whole, with what it has beyond that, and protected's is of what the window leaves to main
abbrev pub limits_of : Shares → ℕ → PartLimits
limits_of shares limit =
    let window = hundredths shares.window limit + shares.extra in
    record { all = limit; window = window; protected = hundredths shares.protected (limit - window) }

-- how much main may weigh
abbrev pub main_limit : PartLimits → ℕ
main_limit limits = limits.all - limits.window

-- the limits, where new entries first enter a window: one whose share is any weight
abbrev pub windowed_limits : Shares → Option ℕ → Option PartLimits
windowed_limits shares None = None
windowed_limits shares (Some limit) = if nat_lt 0 (hundredths shares.window limit) then Some (limits_of shares limit) else None

-- how much protected may weigh: nothing where there is no limit
abbrev pub protected_room : Shares → Option ℕ → ℕ
protected_room shares None = 0
protected_room shares (Some limit) = (limits_of shares limit).protected
