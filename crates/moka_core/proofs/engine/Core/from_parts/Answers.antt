use Rattle.std.proofs.Common.{subst, sym}
use Rattle.moka_common.specs.Keys.{keys_by}
use Rattle.moka_sync_model.specs.Consistent.{IsConsistent}
use Rattle.moka_sync_model.proofs.ConsistentLemmas.{new_is_consistent}
use Rattle.moka_core.proofs.engine.Core.from_parts.Goals as goal

pub invariant_of-result : goal.invariant_of-result
invariant_of-result g c =
    let keys = keys_by (record { eq = g.K.PartialEq.eq; hash_input = g.K.Hash.hash_input }) g.S.BuildHasher g.S.Hasher.Hasher in
    subst (IsConsistent keys) (sym c.in_ok-from_parts.ensures.state)
    (new_is_consistent keys g.met.K.Eq.laws
    (record { hash_state = c.args.parts.hash_state; policy = c.args.parts.policy; is_weighed = c.args.parts.is_weighed }) 0)
