use Rattle.std.proofs.Common.{Err, IsSome, Some, rules, subst}
use Rattle.std.specs.Duration.{as_nanos}
use Rattle.moka_common.specs.Keys.{keys_by}
use Rattle.moka_segments.specs.Tells.{Inserts}
use Rattle.moka_segments.proofs.call.insert_with_time_to_live.Goals as goal

pub returns-in-Err-clause-made : goal.returns-in-Err-clause-made
returns-in-Err-clause-made g c =
    let keys = keys_by (record { eq = g.K.PartialEq.eq; hash_input = g.K.Hash.hash_input }) g.S.BuildHasher g.S.Hasher.Hasher in
    let plan = c.args.shared.now.table.shared.key in
    let lives : IsSome plan.policy.time_to_live = search rules in
    let made =
    subst (λ r. Inserts keys g.W.Weighing.weighs g.P.Rule.rules plan c.args.me.now.me.0 c.args.key c.args.value (Some (as_nanos c.args.time_to_live)) c.args.now
    r c.insert.new.me.me.0) c.in-Err.is c.insert.ensures.made in
    (lives, record { made = made.made; enters = made.enters })
