use Rattle.std.proofs.Common.{◌≡◌, ◌∙◌, ◌∷◌, [], ap, refl, sym}
use Rattle.moka_common.specs.Keys.{Keys, keys_by}
use Rattle.moka_locks.specs.Cache.{Plan}
use Rattle.moka_history.specs.Steps.{Inserts}
use Rattle.moka_sync_model.specs.Ticket.{shard_of}
use Rattle.moka_locks.specs.History.{place_of}
use Rattle.moka_locks.proofs.VisitLemmas.{Did, Entered, enters, first_held, hides_none, insert_act, its_hash, its_number, puts, kept, step_of}
use Rattle.moka_locks.proofs.shards.Shards.insert.Given.{Over}
use Rattle.moka_locks.proofs.shards.Shards.insert.Goals.{After-of-after}
use Rattle.moka_locks.proofs.shards.Shards.insert.Goals as goal

abbrev keys_of : (g : Over) → Keys g.row.K.Denot g.row.S.Denot
keys_of g = keys_by (record { eq = g.K.PartialEq.eq; hash_input = g.K.Hash.hash_input }) g.S.BuildHasher g.S.Hasher.Hasher

pub slot_mut-kept-requires : goal.slot_mut-kept-requires
slot_mut-kept-requires g c = (c.lock.ensures.same ∙ c.requires.table, first_held c.lock.ensures.got)

-- the key's hash
its_key : (g : Over) (c : After-of-after g) → c.hash_of-hash.result ≡ (keys_of g).hash_of c.args.self.now.table.shared.key.settings.hash_state c.args.key
its_key g c = c.hash_of-hash.ensures ∙ ap (λ k. (keys_of g).hash_of c.args.self.now.settings.hash_state k) c.get.ensures
    ∙ ap (λ (p : Plan g.row.S.Denot). (keys_of g).hash_of p.settings.hash_state c.args.key) (sym c.args.self.now.planned)

-- the shard of the key is this one
its_place : (g : Over) (c : After-of-after g) → place_of (keys_of g) c.args.self.now.table.shared.key.settings c.args.key ≡ c.place-i.result
its_place g c = ap shard_of (sym (its_key g c)) ∙ sym c.place-i.ensures.value

-- the shard that was found
its_shard : (g : Over) (c : After-of-after g) → Entered (keys_of g) c.args.self.now.table.shared.key c.place-i.result c.args.me.now.me.0 c.lock.new.me.me
    c.slot_mut-kept.result.now
its_shard g c =
    enters (keys_of g) c.args.self.now.table.shared.key c.place-i.result c.args.me.now.me c.lock.new.me.me c.slot_mut-kept.result.now c.lock.ensures.got
    c.requires.idle.3
    c.slot_mut-kept.ensures.value

pub insert-answer-requires-clause-hashed : goal.insert-answer-requires-clause-hashed
insert-answer-requires-clause-hashed g c =
    its_hash g.met.K.Eq.laws c.hash_of-hash.result c.args.key
    (enters (keys_of g) c.args.self.now.table.shared.key c.place-i.result c.args.me.now.me c.lock.new.me.me c.slot_mut-kept.result.now c.lock.ensures.got
    c.requires.idle.3 c.slot_mut-kept.ensures.value)
    (c.hash_of-hash.ensures ∙ ap (λ k. (keys_of g).hash_of c.args.self.now.settings.hash_state k) c.get.ensures
    ∙ ap (λ (p : Plan g.row.S.Denot). (keys_of g).hash_of p.settings.hash_state c.args.key) (sym c.args.self.now.planned))

pub insert-answer-requires-clause-here : goal.insert-answer-requires-clause-here
insert-answer-requires-clause-here g c =
    let is = c.hash_of-hash.ensures ∙ ap (λ k. (keys_of g).hash_of c.args.self.now.settings.hash_state k) c.get.ensures
    ∙ ap (λ (p : Plan g.row.S.Denot). (keys_of g).hash_of p.settings.hash_state c.args.key) (sym c.args.self.now.planned) in
    its_number g.met.K.Eq.laws c.hash_of-hash.result c.args.key
    (enters (keys_of g) c.args.self.now.table.shared.key c.place-i.result c.args.me.now.me c.lock.new.me.me c.slot_mut-kept.result.now c.lock.ensures.got
    c.requires.idle.3 c.slot_mut-kept.ensures.value) is
    (ap shard_of (sym is) ∙ sym c.place-i.ensures.value)

-- what the visit did, and how it is noted
its_step : (g : Over) (c : After-of-after g) → Did (keys_of g) c.args.self.now.table.shared.key c.place-i.result c.args.me.now.me.0 c.lock.new.me.me
    c.slot_mut-kept.result.now
    (record { shard = c.insert-answer.new.self; witness = c.slot_mut-kept.result.now.witness })
    (Inserts c.args.key c.args.value c.args.now c.insert-answer.result) (step_of c.of-before.result.value
    (Inserts c.of-asked.result.value c.of-given.result.value c.args.now c.of-told.result.value) c.of-after.result.value ∷ [])
its_step g c = record {
  entered = its_shard g c;
  is = insert_act g.met.K.Eq.laws c.slot_mut-kept.result.now
      (record { shard = c.insert-answer.new.self; witness = c.slot_mut-kept.result.now.witness }) (g.W.WeighShared.weighs c.args.weigher.now) _ _ _ _ _
      (its_shard g c)
      (its_key g c) c.insert-answer.ensures.step;
  valid = c.insert-answer.ensures.valid;
  hides = hides_none _ c.insert-answer.new.self (its_shard g c) refl;
  own = its_place g c;
  noted = λ j. step_of (c.of-before.ensures j) (Inserts (c.of-asked.ensures j) (c.of-given.ensures j) c.args.now (c.of-told.ensures j))
      (c.of-after.ensures j) ∷ [];
}

pub leave-requires-clause-kept : goal.leave-requires-clause-kept
leave-requires-clause-kept g c = kept (its_step g (goal.at.leave-requires-clause-kept g c).After-of-after)

pub returns-clause-made : goal.returns-clause-made
returns-clause-made g c =
    let d = its_step g (goal.at.returns-clause-made g c).After-of-after in
    puts c.slot_mut-kept.result.now (record { shard = c.insert-answer.new.self; witness = c.slot_mut-kept.result.now.witness })
    (g.W.WeighShared.weighs c.args.weigher.now) _ _ _ _ _ c.leave.new.me.me (its_key g
    (goal.at.returns-clause-made g c).After-of-after) d c.insert-answer.ensures.step c.leave.ensures.left
