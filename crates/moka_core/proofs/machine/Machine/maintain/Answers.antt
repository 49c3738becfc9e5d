use Rattle.std.proofs.Common.{subst}
use Rattle.moka_common.specs.Keys.{Keys, keys_by}
use Rattle.moka_sync_model.specs.declared.event.Event.TheVariants.{Begin}
use Rattle.moka_sync_model.specs.CoreCall.{CoreTurns}
use Rattle.moka_sync_model.specs.Run.{Happens}
use Rattle.moka_sync_model.proofs.CallLemmas.{consistent_step}
use Rattle.moka_core.proofs.MaintenanceLemmas.{begins, begun_busy}
use Rattle.moka_core.proofs.machine.Machine.maintain.Given.{Over}
use Rattle.moka_core.proofs.machine.Machine.maintain.Goals as goal

-- the keys of the core
abbrev keys : (g : Over) → Keys g.row.K.Denot g.row.S.Denot
keys g = keys_by (record { eq = g.K.PartialEq.eq; hash_input = g.K.Hash.hash_input }) g.S.BuildHasher g.S.Hasher.Hasher

pub finish-requires-clause-good : goal.finish-requires-clause-good
finish-requires-clause-good g c =
    consistent_step (keys g) g.met.K.Eq.laws (g.W.WeighShared.weighs c.args.self.now.weigher) c.args.self.now.state c.begin.new.self.state
    (Begin c.args.now) c.begin.result c.requires.good c.begin.ensures.step

pub finish-requires-clause-busy : goal.finish-requires-clause-busy
finish-requires-clause-busy g c =
    let weighs = g.W.WeighShared.weighs c.args.self.now.weigher in
    let old = c.args.self.now.state in
    begun_busy (keys g) g.met.K.Eq.laws weighs c.args.now old c.begin.new.self.state c.requires.idle
    (begins (keys g) g.met.K.Eq.laws weighs c.args.now old c.requires.idle c.begin.result c.begin.new.self.state c.begin.ensures.step).1

pub returns-clause-step : goal.returns-clause-step
returns-clause-step g c =
    let weighs = g.W.WeighShared.weighs c.args.self.now.weigher in
    let old = c.args.self.now.state in
    let begun = c.begin.new.self.state in
    let word =
    (begins (keys g) g.met.K.Eq.laws weighs c.args.now old c.requires.idle c.begin.result begun c.begin.ensures.step).0 in
    record {
      begun = begun;
      begins = subst (λ reply. Happens (keys g) weighs old (Begin c.args.now) reply begun) word c.begin.ensures.step;
      turns = subst (λ w. CoreTurns (keys g) (g.W.WeighShared.weighs w) begun c.finish.new.self.state) c.begin.ensures.kept.weigher
          c.finish.ensures.turns;
    }
