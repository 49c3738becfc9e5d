use Rattle.std.proofs.Common.{◌∙◌, ◌∷◌, [], ap, refl}
use Rattle.moka_common.specs.Keys.{Keys, keys_by}
use Rattle.moka_history.specs.Steps.{Turns}
use Rattle.moka_maintenance.specs.Taken.{having_taken_write}
use Rattle.moka_sync_model.specs.declared.operation.Write.TheVariants.{Upsert}
use Rattle.moka_locks.proofs.VisitLemmas.{Did, Entered, enters, first_held, hides_none, kept, step_of}
use Rattle.moka_locks.proofs.shards.Shards.apply_upsert.Given.{Over}
use Rattle.moka_locks.proofs.shards.Shards.apply_upsert.Goals.{After-of-after}
use Rattle.moka_locks.proofs.shards.Shards.apply_upsert.Goals as goal

abbrev keys_of : (g : Over) → Keys g.row.K.Denot g.row.S.Denot
keys_of g = keys_by (record { eq = g.K.PartialEq.eq; hash_input = g.K.Hash.hash_input }) g.S.BuildHasher g.S.Hasher.Hasher

pub slot_mut-kept-requires : goal.slot_mut-kept-requires
slot_mut-kept-requires g c = (c.lock.ensures.same ∙ c.new_seat.ensures.table, first_held c.lock.ensures.got)

-- the shard that was found
its_shard : (g : Over) (c : After-of-after g) → Entered (keys_of g) c.args.self.now.table.shared.key c.place-i.result c.new_seat.result.me.0 c.lock.new.me.me
    c.slot_mut-kept.result.now
its_shard g c =
    enters (keys_of g) c.args.self.now.table.shared.key c.place-i.result c.new_seat.result.me c.lock.new.me.me c.slot_mut-kept.result.now c.lock.ensures.got
    (ap
    (λ m. m.0.plan) c.new_seat.ensures.new.1)
    c.slot_mut-kept.ensures.value

-- what the visit did, and how it is noted
its_step : (g : Over) (c : After-of-after g) → Did (keys_of g) c.args.self.now.table.shared.key c.place-i.result c.new_seat.result.me.0 c.lock.new.me.me
    c.slot_mut-kept.result.now
    (record { shard = c.apply_upsert.new.self; witness = c.slot_mut-kept.result.now.witness }) (Turns (having_taken_write
    (Upsert c.args.ticket) c.args.maintenance.now) 0 c.args.ticket) (step_of c.of-found.result.value (Turns
    (having_taken_write (Upsert c.args.ticket) c.of-stood.result.value) 0 c.args.ticket) c.of-after.result.value ∷ [])
its_step g c = record {
  entered = its_shard g c;
  is = (c.apply_upsert.ensures.shard.0, c.apply_upsert.new.maintenance, rw c.args.self.now.planned (c.apply_upsert.ensures.shard.1 0));
  valid = c.apply_upsert.ensures.valid;
  hides = hides_none _ c.apply_upsert.new.self (its_shard g c) refl;
  own = tt;
  noted = λ j. step_of (c.of-found.ensures j) (Turns (having_taken_write (Upsert c.args.ticket) (c.of-stood.ensures j)) 0 c.args.ticket)
      (c.of-after.ensures j) ∷ [];
}

pub leave-requires-clause-kept : goal.leave-requires-clause-kept
leave-requires-clause-kept g c = kept (its_step g (goal.at.leave-requires-clause-kept g c).After-of-after)
