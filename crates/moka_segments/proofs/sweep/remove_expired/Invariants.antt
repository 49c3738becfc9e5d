use Rattle.std.proofs.Common.{◌≡◌}
use Rattle.moka_common.specs.Keys.{Keys, keys_by}
use Rattle.moka_segments.specs.Notifying.{TellsEachSwept}
use Rattle.moka_row.specs.Visits.{IsIdle}
use Rattle.moka_segments.specs.TellsAll.{SweepsAll}
use Rattle.moka_segments.proofs.sweep.remove_expired.Given.{Over}
use Rattle.moka_segments.proofs.sweep.remove_expired.Given as goal

abbrev keys_of : (g : Over) → Keys g.row.K.Denot g.row.S.Denot
keys_of g = keys_by (record { eq = g.K.PartialEq.eq; hash_input = g.K.Hash.hash_input }) g.S.BuildHasher g.S.Hasher.Hasher

abbrev pub invariant-loop-i : goal.invariant-loop-i
invariant-loop-i g l =
    (l.me.table_id ≡ l.fn.me.table_id) × (l.me.me.0.by ≡ l.fn.me.me.0.by) × IsIdle l.shared.table.shared.key l.me.me
    × SweepsAll (keys_of g) g.W.Weighing.weighs g.P.Rule.rules l.shared.table.shared.key l.now l.fn.me.me.0 l.i l.me.me.0
    × TellsEachSwept g.L.Listener.hears (keys_of g) l.now l.me.me.0.seen l.i l.fn.listener l.listener
