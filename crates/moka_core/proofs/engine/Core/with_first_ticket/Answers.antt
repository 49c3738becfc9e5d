use Rattle.std.proofs.Common.{ap, subst, sym, ◌∙◌}
use Rattle.moka_common.specs.Keys.{keys_by}
use Rattle.moka_sync_model.specs.Consistent.{IsConsistent}
use Rattle.moka_sync_model.specs.CoreState.{IsNew}
use Rattle.moka_sync_model.proofs.ConsistentLemmas.{new_is_consistent}
use Rattle.moka_core.proofs.MachineNewLemmas.{new-started}
use Rattle.moka_core.proofs.engine.Core.with_first_ticket.Goals as goal

pub invariant_of-self : goal.invariant_of-self
invariant_of-self g c =
    let keys = keys_by (record { eq = g.K.PartialEq.eq; hash_input = g.K.Hash.hash_input }) g.S.BuildHasher g.S.Hasher.Hasher in
    let old = c.self.inside.machine.state in
    let new : IsNew old = rw (← c.self.view_is) at c.requires.new in
    subst (IsConsistent keys) (sym (ap (λ machine. machine.state) c.start_at.ensures ∙ new-started old c.args.first new))
    (new_is_consistent keys g.met.K.Eq.laws old.settings c.args.first)
