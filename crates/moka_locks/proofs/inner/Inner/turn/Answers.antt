use Rattle.std.proofs.Common.{◌≡◌, ◌≤◌, ◌↔◌, Bool, false, IsTrue, arith}
use Rattle.moka_maintenance.specs.Taken.{writes_left}
use Rattle.moka_locks.proofs.TurnLemmas.{keeping_all}
use Rattle.moka_locks.proofs.WritesLeftLemmas.{keeps_left}
use Rattle.moka_locks.proofs.inner.Inner.turn.Goals as goal

-- it takes none, where it was asked and said so
no_write : {Takes : Type 0} → {said : Bool} → IsTrue said ↔ Takes → said ≡ false → Takes → ⊥
no_write asked not takes = let is = asked.1 takes in absurd (cc)

pub returns-clause-turns : goal.returns-clause-turns
returns-clause-turns g c =
    keeping_all g.row.K.Denot g.row.V.Denot c.args.self.now.settings c.args.taken.now c.args.maintenance.now c.turn_by_need.new.maintenance
    (no_write c.takes_write.ensures c.if-takes_write.false) c.requires c.turn_by_need.ensures

pub returns-clause-left : goal.returns-clause-left
returns-clause-left g c =
    let old = c.args.maintenance.now in
    let new = c.turn_by_need.new.maintenance in
    let kept : writes_left old.phase ≤ writes_left new.phase =
    keeps_left g.row.K.Denot g.row.V.Denot c.args.self.now.settings old new
    (no_write c.takes_write.ensures c.if-takes_write.false) c.turn_by_need.ensures in
    omega (arith, c.requires, kept)
