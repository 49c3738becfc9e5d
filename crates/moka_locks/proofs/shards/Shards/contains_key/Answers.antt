use Rattle.std.proofs.Common.{◌≡◌, ◌∙◌, ◌∷◌, [], ap, refl, sym}
use Rattle.moka_common.specs.Keys.{Keys, keys_by}
use Rattle.std.proofs.Common.{is_some, subst}
use Rattle.moka_locks.specs.Cache.{Plan}
use Rattle.moka_sync_model.specs.Entry.{entry_at}
use Rattle.moka_history.specs.Steps.{Looks}
use Rattle.moka_sync_model.specs.Ticket.{shard_of}
use Rattle.moka_shard.specs.Shard.{entries_in, unexpired}
use Rattle.moka_locks.specs.History.{Makes, place_of}
use Rattle.moka_locks.proofs.VisitLemmas.{Did, Entered, enters, first_held, hides_latest, its_hash, kept, makes, step_of}
use Rattle.moka_locks.proofs.shards.Shards.contains_key.Given.{Over}
use Rattle.moka_locks.proofs.shards.Shards.contains_key.Goals.{After-contains_key-found}
use Rattle.moka_locks.proofs.shards.Shards.contains_key.Goals as goal

abbrev keys_of : (g : Over) → Keys g.row.K.Denot g.row.S.Denot
keys_of g = keys_by (record { eq = g.K.PartialEq.eq; hash_input = g.K.Hash.hash_input }) g.S.BuildHasher g.S.Hasher.Hasher

pub slot_mut-kept-requires : goal.slot_mut-kept-requires
slot_mut-kept-requires g c = (c.lock.ensures.same ∙ c.requires.table, first_held c.lock.ensures.got)

pub load_both-valid_after-requires-clause-kept : goal.load_both-valid_after-requires-clause-kept
load_both-valid_after-requires-clause-kept g c =
    let here = enters (keys_of g) c.args.self.now.table.shared.key c.place-i.result c.args.me.now.me c.lock.new.me.me c.slot_mut-kept.result.now
    c.lock.ensures.got
    c.requires.idle.3 c.slot_mut-kept.ensures.value in
    (here.account.seat.0 ∙ ap (λ (p : Plan g.row.S.Denot). p.moments) c.args.self.now.planned, here.account.seat.1)

-- the key's hash
its_key : (g : Over) (c : After-contains_key-found g) → c.hash_of-hash.result ≡
    (keys_of g).hash_of c.args.self.now.table.shared.key.settings.hash_state c.args.key.now
its_key g c = c.hash_of-hash.ensures ∙ ap (λ (p : Plan g.row.S.Denot). (keys_of g).hash_of p.settings.hash_state c.args.key.now) (sym c.args.self.now.planned)

-- the shard of the key is this one
its_place : (g : Over) (c : After-contains_key-found g) → place_of (keys_of g) c.args.self.now.table.shared.key.settings c.args.key.now ≡ c.place-i.result
its_place g c = ap shard_of (sym (its_key g c)) ∙ sym c.place-i.ensures.value

-- the shard that was found
its_shard : (g : Over) (c : After-contains_key-found g) → Entered (keys_of g) c.args.self.now.table.shared.key c.place-i.result c.args.me.now.me.0
    c.lock.new.me.me c.slot_mut-kept.result.now
its_shard g c =
    enters (keys_of g) c.args.self.now.table.shared.key c.place-i.result c.args.me.now.me c.lock.new.me.me c.slot_mut-kept.result.now c.lock.ensures.got
    c.requires.idle.3
    c.slot_mut-kept.ensures.value

-- what the visit did, and how it is noted
its_step : (g : Over) (c : After-contains_key-found g) → Did (keys_of g) c.args.self.now.table.shared.key c.place-i.result c.args.me.now.me.0 c.lock.new.me.me
    c.slot_mut-kept.result.now
    (record { shard = c.slot_mut-kept.result.now.shard; witness = c.load_both-valid_after.new.kept })
    (Looks c.args.key.now c.args.now c.load_both-valid_after.result c.contains_key-found.result)
    (step_of c.of-before.result.value (Looks c.args.key.now c.args.now c.load_both-valid_after.result c.contains_key-found.result)
    c.of-before.result.value ∷ [])
its_step g c = record {
  entered = its_shard g c;
  is = (
    subst (λ (p : Plan g.row.S.Denot). c.contains_key-found.result ≡ is_some (unexpired p.settings c.load_both-valid_after.result c.args.now (entry_at
        (keys_of g).eq c.args.key.now (entries_in c.slot_mut-kept.result.now.shard.slots)))) (sym c.args.self.now.planned) (c.contains_key-found.ensures.value
        (its_hash g.met.K.Eq.laws c.hash_of-hash.result c.args.key.now (its_shard g c) (its_key g c))),
    refl,
  );
  valid = c.contains_key-found.ensures.permitted.valid;
  hides = hides_latest _ _ _ _ refl c.load_both-valid_after.ensures.kept c.load_both-valid_after.ensures.learns c.load_both-valid_after.ensures.told;
  own = its_place g c;
  noted = λ j. step_of (c.of-before.ensures j) (Looks c.args.key.now c.args.now c.load_both-valid_after.result c.contains_key-found.result)
      (c.of-before.ensures j) ∷ [];
}

pub leave-requires-clause-kept : goal.leave-requires-clause-kept
leave-requires-clause-kept g c = kept (its_step g (goal.at.leave-requires-clause-kept g c).After-contains_key-found)

pub returns-clause-made : goal.returns-clause-made
returns-clause-made g c =
    let d = its_step g (goal.at.returns-clause-made g c).After-contains_key-found in
    subst (λ m. Makes (keys_of g) c.args.self.now.table.shared.key.settings c.args.me.now.me.0 (place_of
    (keys_of g) c.args.self.now.table.shared.key.settings c.args.key.now)
    (Looks c.args.key.now c.args.now m c.contains_key-found.result) c.leave.new.me.me.0) c.load_both-valid_after.ensures.latest
    (makes c.leave.new.me.me (place_of (keys_of g) c.args.self.now.table.shared.key.settings c.args.key.now) d.own d c.leave.ensures.left)
