-- What a turn makes of an entry, by the name that the code has for it.
use Rattle.moka_sync_model.specs.declared.entry.EntryChange.{EntryChange}
use Rattle.moka_sync_model.specs.declared.entry.EntryChange.TheVariants as name
use Rattle.moka_sync_model.specs.Entry.{touched, with_upsert_done}
use Rattle.moka_sync_model.specs.Turn.Plan.{Change, Stays, Becomes, Leaves}

-- the change of this name
abbrev pub change_of : {K V : Type 0} → EntryChange → Change K V
change_of name.Stays = Stays
change_of (name.Touched moment) = Becomes (touched moment)
change_of name.UpsertDone = Becomes with_upsert_done
change_of name.Leaves = Leaves
