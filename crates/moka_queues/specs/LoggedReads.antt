-- What a contract sees of logged reads.
use Rattle.std.specs.Prelude.{List, map}
use Rattle.moka_sync_model.specs.declared.operation.Read.{Read}
use Rattle.moka_queues.specs.declared.logs.LoggedRead.{LoggedRead}

-- the reads among what is logged of them
abbrev pub reads_of : List LoggedRead → List Read
reads_of logged = map (λ l. l.read) logged
