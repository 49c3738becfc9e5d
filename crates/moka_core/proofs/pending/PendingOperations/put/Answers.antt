use Rattle.std.proofs.Common.{◌<◌, ◌≤◌, ◌+◌, ◌-◌, arith}
use Rattle.std.specs.Vec.{vec_capacity, vec_len}
use Rattle.moka_core.proofs.RoomLemmas.{spare_after_put}
use Rattle.moka_core.proofs.pending.PendingOperations.put.Goals as goal

pub invariant_of-self : goal.invariant_of-self
invariant_of-self g c =
    let old = c.self.inside.operations in
    let new = c.push_reserved.new.self in
    let another = rw (← c.self.view_is) at c.requires.room in
    let room : vec_capacity old - vec_len old ≤ vec_capacity new - vec_len new + 1 =
    omega (arith, c.push_reserved.ensures.len, c.push_reserved.ensures.capacity) in
    rw c.push_reserved.ensures.items
    (λ none.
    let left : 0 < vec_capacity new - vec_len new =
    spare_after_put c.args.caller old.items c.args.operation (vec_capacity old - vec_len old) (vec_capacity new - vec_len new) another
    room none in
    omega (arith, left))
