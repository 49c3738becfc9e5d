use Rattle.std.proofs.Common.{◌*◌, ◌≡◌, length, rules}
use Rattle.moka_row.proofs.Rules.{begins}
use Rattle.moka_row.proofs.row.open.Goals as goal

pub new-requires : goal.new-requires
new-requires g c =
    let sized : length c.as_slice.result.now ≡ length c.args.values.items * 16 = search rules in
    begins g.P.Account.holds c.args.plan.now c.as_slice.result.now c.args.values.items sized c.requires.begins
