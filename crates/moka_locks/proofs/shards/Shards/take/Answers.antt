use Rattle.std.proofs.Common.{◌≡◌, ◌∙◌, ◌∷◌, [], ap, sym}
use Rattle.moka_common.specs.Keys.{Keys, keys_by}
use Rattle.std.proofs.Common.{IfOk, OnErr, Option, Some, subst}
use Rattle.moka_locks.specs.Cache.{Plan}
use Rattle.moka_sync_model.specs.Ticket.{shard_of}
use Rattle.moka_shard.specs.Shard.{Shard, entries_in, state_of}
use Rattle.moka_sync_model.specs.Entry.{entry_at}
use Rattle.moka_shard.specs.ShardTake.{IsTakeBy, counted_value}
use Rattle.moka_sync_model.specs.declared.ticket.Ticket.{Ticket}
use Rattle.moka_history.specs.Steps.{Act}
use Rattle.moka_locks.specs.History.{Makes, found_at, place_of, take_act}
use Rattle.moka_locks.specs.Moments.{latest}
use Rattle.moka_locks.proofs.TakeLemmas.{TookBy, both_err, on_err, take_by, take_moment, take_of_shard, take_tells}
use Rattle.moka_locks.proofs.VisitLemmas.{Did, Entered, enters, first_held, hides_latest, idle_again, its_hash, kept, makes, step_of}
use Rattle.moka_locks.proofs.shards.Shards.take.Given.{Over}
use Rattle.moka_locks.proofs.shards.Shards.take.Goals.{After-of-after}
use Rattle.moka_locks.proofs.shards.Shards.take.Goals as goal

abbrev keys_of : (g : Over) → Keys g.row.K.Denot g.row.S.Denot
keys_of g = keys_by (record { eq = g.K.PartialEq.eq; hash_input = g.K.Hash.hash_input }) g.S.BuildHasher g.S.Hasher.Hasher

pub slot_mut-kept-requires : goal.slot_mut-kept-requires
slot_mut-kept-requires g c = (c.lock.ensures.same ∙ c.requires.table, first_held c.lock.ensures.got)

pub load_both-valid_after-requires-clause-kept : goal.load_both-valid_after-requires-clause-kept
load_both-valid_after-requires-clause-kept g c =
    let here = enters (keys_of g) c.args.self.now.table.shared.key c.place-i.result c.args.me.now.me c.lock.new.me.me c.slot_mut-kept.result.now
    c.lock.ensures.got
    c.requires.idle.3 c.slot_mut-kept.ensures.value in
    (here.account.seat.0 ∙ ap (λ (p : Plan g.row.S.Denot). p.moments) c.args.self.now.planned, here.account.seat.1)

-- the key's hash
its_key : (g : Over) (c : After-of-after g) → c.hash_of-hash.result ≡ (keys_of g).hash_of c.args.self.now.table.shared.key.settings.hash_state c.args.key.now
its_key g c = c.hash_of-hash.ensures ∙ ap (λ (p : Plan g.row.S.Denot). (keys_of g).hash_of p.settings.hash_state c.args.key.now) (sym c.args.self.now.planned)

-- the shard of the key is this one
its_place : (g : Over) (c : After-of-after g) → place_of (keys_of g) c.args.self.now.table.shared.key.settings c.args.key.now ≡ c.place-i.result
its_place g c = ap shard_of (sym (its_key g c)) ∙ sym c.place-i.ensures.value

-- the shard that was found
its_shard : (g : Over) (c : After-of-after g) → Entered (keys_of g) c.args.self.now.table.shared.key c.place-i.result c.args.me.now.me.0 c.lock.new.me.me
    c.slot_mut-kept.result.now
its_shard g c =
    enters (keys_of g) c.args.self.now.table.shared.key c.place-i.result c.args.me.now.me c.lock.new.me.me c.slot_mut-kept.result.now c.lock.ensures.got
    c.requires.idle.3
    c.slot_mut-kept.ensures.value

-- what was handed back, and the step that was made
abbrev found : (g : Over) (c : After-of-after g) → Shard g.row.K.Denot g.row.V.Denot g.row.S.Denot → Option (g.row.V.Denot × Ticket)
found g c shard = found_at (keys_of g).eq c.args.self.now.table.shared.key.settings (state_of shard) c.args.key.now c.args.now c.load_both-valid_after.result

its_refusal : (g : Over) (c : After-of-after g) → OnErr c.take_clone-taken.result
    ((state_of c.take_clone-taken.new.self ≡ state_of c.slot_mut-kept.result.now.shard)
    × ((value : g.row.V.Denot) × (counted_value c.args.self.now.table.shared.key.settings c.load_both-valid_after.result c.args.now (entry_at
    (keys_of g).eq c.args.key.now (entries_in c.slot_mut-kept.result.now.shard.slots)) ≡ Some value)))
its_refusal g c =
    on_err c.take_clone-taken.result
    (subst (λ (p : Plan g.row.S.Denot). OnErr c.take_clone-taken.result ((c.take_clone-taken.new.self ≡ c.slot_mut-kept.result.now.shard)
    × ((value : g.row.V.Denot) × (¬ (g.V.Clone.is_infallible value)) × (counted_value p.settings c.load_both-valid_after.result c.args.now (entry_at
    (keys_of g).eq c.args.key.now (entries_in c.slot_mut-kept.result.now.shard.slots)) ≡ Some value)))) (sym c.args.self.now.planned)
    (c.take_clone-taken.ensures.refused))
    (λ r. (ap state_of r.0, (r.1.0, r.1.2)))

its_take : (g : Over) (c : After-of-after g) → TookBy (keys_of g) g.P.PairRule.holds g.V.Clone.is_clone c.args.self.now.table.shared.key.settings
    (state_of c.slot_mut-kept.result.now.shard) c.args.key.now c.args.now c.load_both-valid_after.result c.take_clone-taken.result
    (state_of c.take_clone-taken.new.self)
its_take g c =
    take_by (keys_of g) g.P.PairRule.holds g.V.Clone.is_clone c.args.self.now.table.shared.key.settings (state_of c.slot_mut-kept.result.now.shard)
    (state_of c.take_clone-taken.new.self) c.hash_of-hash.result c.args.key.now c.args.now c.load_both-valid_after.result
    (its_hash g.met.K.Eq.laws c.hash_of-hash.result c.args.key.now (its_shard g c) (its_key g c)) c.take_clone-taken.result
    (subst (λ (p : Plan g.row.S.Denot). IfOk c.take_clone-taken.result (λ taken. IsTakeBy
    (keys_of g) g.P.PairRule.holds g.V.Clone.is_clone p.settings c.load_both-valid_after.result
    (state_of c.slot_mut-kept.result.now.shard) c.hash_of-hash.result c.args.key.now c.args.now taken.0 taken.1 (state_of c.take_clone-taken.new.self)))
    (sym c.args.self.now.planned) (c.take_clone-taken.ensures.step))
    (its_refusal g c)

-- what the visit did, and how it is noted
its_step : (g : Over) (c : After-of-after g) → Did (keys_of g) c.args.self.now.table.shared.key c.place-i.result c.args.me.now.me.0 c.lock.new.me.me
    c.slot_mut-kept.result.now
    (record { shard = c.take_clone-taken.new.self; witness = c.load_both-valid_after.new.kept })
    (take_act c.args.key.now c.args.now c.load_both-valid_after.result
    (found g c c.slot_mut-kept.result.now.shard) c.take_clone-taken.result) (step_of c.of-before.result.value
    (take_act c.args.key.now c.args.now c.load_both-valid_after.result
    (found g c c.of-before.result.value) c.of-told.result.value) c.of-after.result.value ∷ [])
its_step g c = record {
  entered = its_shard g c;
  is = (its_take g c).did;
  valid = c.take_clone-taken.ensures.valid;
  hides = hides_latest _ _ _ _
      (take_moment c.args.key.now c.args.now c.load_both-valid_after.result (found g c c.slot_mut-kept.result.now.shard) c.take_clone-taken.result)
      c.load_both-valid_after.ensures.kept c.load_both-valid_after.ensures.learns c.load_both-valid_after.ensures.told;
  own = take_of_shard (keys_of g) c.args.self.now.table.shared.key.settings c.place-i.result c.args.key.now c.args.now c.load_both-valid_after.result
      (found g c c.slot_mut-kept.result.now.shard) c.take_clone-taken.result (its_place g c);
  noted = λ j. step_of (c.of-before.ensures j) (take_act c.args.key.now c.args.now c.load_both-valid_after.result (found g c (c.of-before.ensures j))
      (c.of-told.ensures j)) (c.of-after.ensures j) ∷ [];
}

pub leave-requires-clause-kept : goal.leave-requires-clause-kept
leave-requires-clause-kept g c = kept (its_step g (goal.at.leave-requires-clause-kept g c).After-of-after)

pub returns : goal.returns
returns g c =
    let e = (goal.at.returns g c).After-of-after in
    let d = its_step g e in
    let took = its_take g e in
    let noted : Act g.row.K.Denot g.row.V.Denot → Type 0 =
    λ act. Makes (keys_of g) c.args.self.now.table.shared.key.settings c.args.me.now.me.0 (place_of
    (keys_of g) c.args.self.now.table.shared.key.settings c.args.key.now) act
    c.leave.new.me.me.0 in
    let tells = take_tells (g.P.PairRule.holds c.args.key.now) g.V.Clone.is_clone noted c.args.key.now c.args.now
    (latest c.load_both-valid_after.new.me.me.0.seen)
    (found g e c.slot_mut-kept.result.now.shard) c.take_clone-taken.result took.handed took.ruled took.refused
    (subst (λ m. noted (take_act c.args.key.now c.args.now m (found g e c.slot_mut-kept.result.now.shard) c.take_clone-taken.result))
    c.load_both-valid_after.ensures.latest
    (makes c.leave.new.me.me (place_of (keys_of g) c.args.self.now.table.shared.key.settings c.args.key.now) (its_place g e) d c.leave.ensures.left)) in
    record {
      same = c.leave.ensures.same ∙ c.lock.ensures.same;
      seat = c.load_both-valid_after.ensures.same;
      moments = c.load_both-valid_after.ensures.goes_on;
      idle = idle_again c.leave.new.me.me d c.requires.idle.2 c.requires.idle.3 c.leave.ensures.left;
      made = tells.0;
      refused =
          both_err _ _ c.take_clone-taken.result tells.1 (on_err c.take_clone-taken.result c.take_clone-taken.ensures.refused (λ r. (r.1.0, r.1.1)));
    }
