-- The answer of an insert.
use Rattle.std.specs.Prelude.{ℕ, Bool, true, false}
use Rattle.moka_unsync_model.specs.declared.listener.Cause.{Cause}
use Rattle.moka_unsync_model.specs.declared.listener.Cause.TheVariants as cause
use Rattle.mini_moka_c.specs.declared.constants.TheConstants.{DONE, REJECTED}
use Rattle.mini_moka_c.specs.declared.inserted.Inserted.{Inserted}
use Rattle.mini_moka_c.specs.declared.inserted.Inserted.TheVariants.{Rejected, Stored}

-- the answer once an entry left for a cause, or was rejected
abbrev pub heard : Cause → Inserted → Inserted
heard cause.Size inserted = inserted
heard cause.Expired inserted = inserted
heard cause.Explicit inserted = inserted
heard cause.Replaced inserted = inserted
heard cause.Rejected inserted = Rejected

-- the answer, if the key has an entry after the insert or has none
abbrev pub inserted_of : Bool → Inserted
inserted_of true = Stored
inserted_of false = Rejected

-- the status of an answer
abbrev pub status_of : Inserted → ℕ
status_of Stored = DONE
status_of Rejected = REJECTED
