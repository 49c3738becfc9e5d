use Rattle.std.proofs.Common.{arith, refl}
use Rattle.moka_unsync_model.specs.Contents.{write_of}
use Rattle.moka_store.proofs.SameLemmas.{same-bare}
use Rattle.moka_store.proofs.StoreLemmas.{length-balanced, parted, room-balanced, stored-balanced}
use Rattle.moka_store.proofs.WriteLemmas.{under-same}
use Rattle.moka_store.proofs.store.Store.limit_protected.Goals as goal

pub balance-requires : goal.balance-requires
balance-requires g c = parted g.met.K.Eq.laws c.self.invariant.0

pub invariant_of-self : goal.invariant_of-self
invariant_of-self g c =
    let step = c.balance.ensures.step in (
      stored-balanced g.met.K.Eq.laws c.self.invariant.0 c.balance.new.entries.items c.balance.new.marks c.balance.new.weights step
          c.balance.ensures.parted,
      room-balanced c.self.invariant.1 c.self.inside.entries c.balance.new.entries c.self.inside.writes refl refl c.balance.ensures.unchanged step refl,
    )

pub returns-clause-step : goal.returns-clause-step
returns-clause-step g c =
    let step = c.balance.ensures.step in
    let old = c.self.inside.entries.items in
    let new = c.balance.new.entries.items in
    rw (← c.self.view_is)
    (λ i. record {
      entries = step.entries i;
      written = under-same old new (same-bare write_of (λ e. refl) old new step.same) c.self.inside.writes.ids i;
    })

pub returns-clause-kept : goal.returns-clause-kept
returns-clause-kept g c =
    let step = c.balance.ensures.step in
    rw (← c.self.view_is)
    (record {
      settings = record { keeps = refl; limit = refl; capacity = refl };
      fewer = omega (arith, length-balanced c.self.inside.entries.items c.balance.new.entries.items step);
    })
