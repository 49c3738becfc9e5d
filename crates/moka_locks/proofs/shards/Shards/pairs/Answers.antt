use Rattle.std.proofs.Common.{◌≡◌, ◌∙◌, ◌∷◌, [], ap, refl, subst, sym}
use Rattle.std.specs.List.{All}
use Rattle.moka_common.specs.Keys.{Keys, keys_by}
use Rattle.moka_locks.specs.Cache.{Plan}
use Rattle.moka_sync_model.specs.Parts.{IsValidShard}
use Rattle.moka_history.specs.Steps.{Act, Copies}
use Rattle.moka_shard.specs.Shard.{state_of}
use Rattle.moka_shard.specs.ShardStep.{pairs_at}
use Rattle.moka_locks.specs.History.{Makes, place_of}
use Rattle.moka_locks.proofs.VisitLemmas.{Did, Entered, enters, first_held, hides_latest, kept, makes, own_pairs, step_of, unvisited}
use Rattle.moka_locks.proofs.shards.Shards.pairs.Given.{Over}
use Rattle.moka_locks.proofs.shards.Shards.pairs.Goals.{After-load-valid_after}
use Rattle.moka_locks.proofs.shards.Shards.pairs.Goals as goal

abbrev keys_of : (g : Over) → Keys g.row.K.Denot g.row.S.Denot
keys_of g = keys_by (record { eq = g.K.PartialEq.eq; hash_input = g.K.Hash.hash_input }) g.S.BuildHasher g.S.Hasher.Hasher

pub slot_mut-kept-requires : goal.slot_mut-kept-requires
slot_mut-kept-requires g c = (c.lock.ensures.same ∙ c.requires.table, first_held c.lock.ensures.got)

pub load-valid_after-requires : goal.load-valid_after-requires
load-valid_after-requires g c =
    let here = enters (keys_of g) c.args.self.now.table.shared.key c.args.i c.args.me.now.me c.lock.new.me.me c.slot_mut-kept.result.now c.lock.ensures.got
    c.requires.idle.3 c.slot_mut-kept.ensures.value in
    record { table = here.account.seat.0 ∙ ap (λ (p : Plan g.row.S.Denot). p.moments) c.args.self.now.planned }

-- the shard that was found
its_shard : (g : Over) (c : After-load-valid_after g) → Entered (keys_of g) c.args.self.now.table.shared.key c.args.i c.args.me.now.me.0
    c.lock.new.me.me c.slot_mut-kept.result.now
its_shard g c =
    enters (keys_of g) c.args.self.now.table.shared.key c.args.i c.args.me.now.me c.lock.new.me.me c.slot_mut-kept.result.now c.lock.ensures.got
    c.requires.idle.3 c.slot_mut-kept.ensures.value

-- the shard's seat at the moments, once it was loaded by
its_seat : (g : Over) (c : After-load-valid_after g) → (c.load-valid_after.new.me.table_id ≡ c.slot_mut-kept.result.now.witness.table_id)
    × (c.load-valid_after.new.me.me.1 ≡ [])
its_seat g c = (c.load-valid_after.ensures.same.0, c.load-valid_after.ensures.same.1 ∙ (its_shard g c).account.seat.1)

-- what is copied
abbrev its_copies : (g : Over) (c : After-load-valid_after g) → Act g.row.K.Denot g.row.V.Denot
its_copies g c =
    Copies c.args.now c.load-valid_after.result
    (pairs_at c.args.self.now.table.shared.key.settings c.load-valid_after.result c.args.now (state_of c.slot_mut-kept.result.now.shard))

-- what the visit did, and how it is noted
its_step : (g : Over) (c : After-load-valid_after g) → IsValidShard (keys_of g) (state_of c.slot_mut-kept.result.now.shard)
    → Did (keys_of g) c.args.self.now.table.shared.key c.args.i c.args.me.now.me.0 c.lock.new.me.me c.slot_mut-kept.result.now
    (record { shard = c.slot_mut-kept.result.now.shard; witness = c.load-valid_after.new.me }) (its_copies g c) (step_of c.of-before.result.value
    (Copies c.args.now c.load-valid_after.result
    (pairs_at c.args.self.now.table.shared.key.settings c.load-valid_after.result c.args.now (state_of c.of-before.result.value)))
    c.of-before.result.value ∷ [])
its_step g c valid = record {
  entered = its_shard g c;
  is = (refl, refl);
  valid = valid;
  hides = hides_latest _ _ _ _ refl (its_seat g c) c.load-valid_after.ensures.goes_on c.load-valid_after.ensures.latest;
  own = tt;
  noted = λ j. step_of (c.of-before.ensures j) (Copies c.args.now c.load-valid_after.result
      (pairs_at c.args.self.now.table.shared.key.settings c.load-valid_after.result c.args.now (state_of (c.of-before.ensures j))))
      (c.of-before.ensures j) ∷ [];
}

pub leave-requires-clause-kept : goal.leave-requires-clause-kept
leave-requires-clause-kept g c =
    kept (its_step g (goal.at.leave-requires-clause-kept g c).After-load-valid_after c.pairs.ensures.permitted.valid)

pub leave_unsaid-requires-clause-kept : goal.leave_unsaid-requires-clause-kept
leave_unsaid-requires-clause-kept g c =
    let d = (goal.at.leave_unsaid-requires-clause-kept g c).After-load-valid_after in
    unvisited (its_shard g d) (record { shard = c.slot_mut-kept.result.now.shard; witness = c.load-valid_after.new.me }) refl (its_seat g d)
    c.load-valid_after.ensures.goes_on

pub returns-in-Ok-clause-own : goal.returns-in-Ok-clause-own
returns-in-Ok-clause-own g c =
    let d = (goal.at.returns-in-Ok-clause-own g c).After-load-valid_after in
    subst (All (λ p. place_of (keys_of g) c.args.self.now.table.shared.key.settings p.0 ≡ c.args.i)) (sym (c.in-Ok.ensures.value
    ∙ ap (λ (p : Plan g.row.S.Denot). pairs_at p.settings c.load-valid_after.result c.args.now (state_of c.slot_mut-kept.result.now.shard))
    (sym c.args.self.now.planned)))
    (own_pairs g.met.K.Eq.laws c.args.now c.load-valid_after.result (its_shard g d) c.pairs.ensures.permitted.valid)

pub returns-in-Ok-clause-made : goal.returns-in-Ok-clause-made
returns-in-Ok-clause-made g c =
    let d = (goal.at.returns-in-Ok-clause-made g c).After-load-valid_after in (
      c.load-valid_after.result,
      subst (λ ps. Makes (keys_of g) c.args.self.now.table.shared.key.settings c.args.me.now.me.0 c.args.i (Copies c.args.now c.load-valid_after.result ps)
          c.leave.new.me.me.0) (sym (c.in-Ok.ensures.value
          ∙ ap (λ (p : Plan g.row.S.Denot). pairs_at p.settings c.load-valid_after.result c.args.now (state_of c.slot_mut-kept.result.now.shard))
          (sym c.args.self.now.planned)))
          (makes c.leave.new.me.me c.args.i refl (its_step g d c.pairs.ensures.permitted.valid) c.leave.ensures.left),
    )
