use Rattle.std.proofs.Common.{◌≡◌, ◌%◌, nat_eq, take, length, ap, arith, rules}
use Rattle.std.proofs.lemmas.Simd.{bitmask_splat}
use mir.Syntax.{w8}
use Rattle.moka_list.specs.HashIndex.{slots_with}
use Rattle.moka_list.proofs.group.Group.free_slots.Goals as goal

pub returns-clause-slots : goal.returns-clause-slots
unfolding slots_with
returns-clause-slots c =
    let len : length (take 16 c.args.self.now.marks) ≡ 16 = search rules in
    ap (λ n. n % 1024) (bitmask_splat w8 nat_eq (take 16 c.args.self.now.marks) 16 0 len (omega arith))
