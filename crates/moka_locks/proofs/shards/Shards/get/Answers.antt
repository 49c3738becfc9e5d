use Rattle.std.proofs.Common.{◌≡◌, ◌∙◌, ◌∷◌, [], ap, refl, sym}
use Rattle.moka_common.specs.Keys.{Keys, keys_by}
use Rattle.std.proofs.Common.{ℕ, IfOk, IsErr, IsSome, Option, subst}
use Rattle.moka_locks.specs.Cache.{Plan}
use Rattle.moka_history.specs.Steps.{Act, Gets}
use Rattle.moka_sync_model.specs.Ticket.{shard_of}
use Rattle.moka_sync_model.specs.declared.ticket.Ticket.{Ticket}
use Rattle.moka_shard.specs.Shard.{Shard, state_of}
use Rattle.moka_locks.specs.History.{Makes, found_at, place_of}
use Rattle.moka_locks.specs.Moments.{latest}
use Rattle.moka_locks.proofs.VisitLemmas.{Did, Entered, enters, first_held, idle_again, found_tells, hides_latest, its_hash, some_mapped, kept, makes, step_of}
use Rattle.moka_locks.proofs.shards.Shards.get.Given.{Over}
use Rattle.moka_locks.proofs.shards.Shards.get.Goals.{After-get-found}
use Rattle.moka_locks.proofs.shards.Shards.get.Goals as goal

abbrev keys_of : (g : Over) → Keys g.row.K.Denot g.row.S.Denot
keys_of g = keys_by (record { eq = g.K.PartialEq.eq; hash_input = g.K.Hash.hash_input }) g.S.BuildHasher g.S.Hasher.Hasher

pub slot_mut-kept-requires : goal.slot_mut-kept-requires
slot_mut-kept-requires g c = (c.lock.ensures.same ∙ c.requires.table, first_held c.lock.ensures.got)

pub load_both-valid_after-requires-clause-kept : goal.load_both-valid_after-requires-clause-kept
load_both-valid_after-requires-clause-kept g c =
    let here = enters (keys_of g) c.args.self.now.table.shared.key c.place-place.result c.args.me.now.me c.lock.new.me.me c.slot_mut-kept.result.now
    c.lock.ensures.got
    c.requires.idle.3 c.slot_mut-kept.ensures.value in
    (here.account.seat.0 ∙ ap (λ (p : Plan g.row.S.Denot). p.moments) c.args.self.now.planned, here.account.seat.1)

-- what a get finds at a shard, and that as a step
abbrev found : (g : Over) (c : After-get-found g) → Shard g.row.K.Denot g.row.V.Denot g.row.S.Denot → Option (g.row.V.Denot × Ticket)
found g c shard = found_at (keys_of g).eq c.args.self.now.table.shared.key.settings (state_of shard) c.args.key.now c.args.now c.load_both-valid_after.result

abbrev act : (g : Over) (c : After-get-found g) → Shard g.row.K.Denot g.row.V.Denot g.row.S.Denot → Act g.row.K.Denot g.row.V.Denot
act g c shard = Gets c.args.key.now c.args.now c.load_both-valid_after.result (found g c shard)

-- the shard that was found
its_shard : (g : Over) (c : After-get-found g) → Entered (keys_of g) c.args.self.now.table.shared.key c.place-place.result c.args.me.now.me.0 c.lock.new.me.me
    c.slot_mut-kept.result.now
its_shard g c =
    enters (keys_of g) c.args.self.now.table.shared.key c.place-place.result c.args.me.now.me c.lock.new.me.me c.slot_mut-kept.result.now c.lock.ensures.got
    c.requires.idle.3
    c.slot_mut-kept.ensures.value

-- what the visit did, and how it is noted
its_step : (g : Over) (c : After-get-found g) → Did (keys_of g) c.args.self.now.table.shared.key c.place-place.result c.args.me.now.me.0 c.lock.new.me.me
    c.slot_mut-kept.result.now
    (record { shard = c.slot_mut-kept.result.now.shard; witness = c.load_both-valid_after.new.kept }) (act g c c.slot_mut-kept.result.now.shard)
    (step_of c.of-before.result.value
    (act g c c.of-before.result.value) c.of-before.result.value ∷ [])
its_step g c = record {
  entered = its_shard g c;
  is = (refl, refl);
  valid = c.get-found.ensures.permitted.valid;
  hides = hides_latest _ _ _ _ refl c.load_both-valid_after.ensures.kept c.load_both-valid_after.ensures.learns c.load_both-valid_after.ensures.told;
  own = ap shard_of (sym c.requires.hashed) ∙ sym c.place-place.ensures.value;
  noted = λ j. step_of (c.of-before.ensures j) (act g c (c.of-before.ensures j)) (c.of-before.ensures j) ∷ [];
}

pub leave-requires-clause-kept : goal.leave-requires-clause-kept
leave-requires-clause-kept g c = kept (its_step g (goal.at.leave-requires-clause-kept g c).After-get-found)

pub returns : goal.returns
returns g c =
    let e = (goal.at.returns g c).After-get-found in
    let d = its_step g e in
    let noted : ℕ → Option (g.row.V.Denot × Ticket) → Type 0 =
    λ valid_after found. Makes (keys_of g) c.args.self.now.table.shared.key.settings c.args.me.now.me.0 (place_of
    (keys_of g) c.args.self.now.table.shared.key.settings c.args.key.now)
    (Gets c.args.key.now c.args.now valid_after found) c.leave.new.me.me.0 in
    let tells = found_tells (noted (latest c.load_both-valid_after.new.me.me.0.seen)) (found g e c.slot_mut-kept.result.now.shard) c.get-found.result
    (subst (λ (p : Plan g.row.S.Denot). IfOk c.get-found.result (λ answer. answer.0 ≡ found_at (keys_of g).eq p.settings
    (state_of c.slot_mut-kept.result.now.shard) c.args.key.now c.args.now c.load_both-valid_after.result)) (sym c.args.self.now.planned)
    (c.get-found.ensures.value (its_hash g.met.K.Eq.laws c.args.hash c.args.key.now d.entered c.requires.hashed)))
    (subst (λ (p : Plan g.row.S.Denot). IsErr c.get-found.result → IsSome (found_at (keys_of g).eq p.settings
    (state_of c.slot_mut-kept.result.now.shard) c.args.key.now c.args.now c.load_both-valid_after.result)) (sym c.args.self.now.planned)
    (λ e. some_mapped _ _ (c.get-found.ensures.refused e)))
    (subst (λ m. noted m (found g e c.slot_mut-kept.result.now.shard)) c.load_both-valid_after.ensures.latest
    (makes c.leave.new.me.me (place_of (keys_of g) c.args.self.now.table.shared.key.settings c.args.key.now) d.own d c.leave.ensures.left)) in
    record {
      same = c.leave.ensures.same ∙ c.lock.ensures.same;
      seat = c.load_both-valid_after.ensures.same;
      moments = c.load_both-valid_after.ensures.goes_on;
      idle = idle_again c.leave.new.me.me d c.requires.idle.2 c.requires.idle.3 c.leave.ensures.left;
      ruled = c.get-found.ensures.ruled;
      made = tells.0;
      refused = tells.1;
    }
