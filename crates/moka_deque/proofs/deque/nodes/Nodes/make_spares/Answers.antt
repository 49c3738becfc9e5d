use Rattle.std.proofs.Common.{ap, ◌∙◌, refl, arith}
use Rattle.moka_deque.specs.Slots.{room_of}
use Rattle.moka_deque.proofs.deque.nodes.Nodes.make_spares.Goals as goal

pub loop-init : goal.loop-init
loop-init g c = (c.requires.tied, refl, omega arith, omega arith, refl)

pub make_spare-requires-clause-tied : goal.make_spare-requires-clause-tied
make_spare-requires-clause-tied g c = c.loop.invariant.0

pub make_spare-requires-clause-slots : goal.make_spare-requires-clause-slots
make_spare-requires-clause-slots g c =
    let inv = c.loop.invariant in let len = inv.3 in let cap = inv.4 in let room = c.requires.slots in let more = c.loop-test.true in
    omega arith

pub returns-in_err-make_spare-clause-items : goal.returns-in_err-make_spare-clause-items
returns-in_err-make_spare-clause-items g c = c.in_err-make_spare.ensures.items ∙ c.loop.invariant.1

pub returns-in_err-make_spare-clause-room : goal.returns-in_err-make_spare-clause-room
returns-in_err-make_spare-clause-room g c =
    let stays = ap room_of c.in_err-make_spare.ensures.err in let inv = c.loop.invariant.2 in
    omega arith

pub loop-preserved : goal.loop-preserved
loop-preserved g c =
    let made = c.in_ok-make_spare.ensures in let inv = c.loop.invariant in
    let room = made.ok in let len = made.len in let room_was = inv.2 in let len_was = inv.3 in
    (made.tied, made.items ∙ inv.1, omega arith, omega arith, made.capacity ∙ inv.4)

pub returns-clause-tied : goal.returns-clause-tied
returns-clause-tied g c = c.loop.invariant.0

pub returns-clause-items : goal.returns-clause-items
returns-clause-items g c = c.loop.invariant.1

pub returns-clause-ok : goal.returns-clause-ok
returns-clause-ok g c =
    let inv = c.loop.invariant.2 in let past = c.loop-test.false in let within = c.loop.auto.counter-end in
    omega arith

pub returns-clause-room : goal.returns-clause-room
returns-clause-room g c = let inv = c.loop.invariant.2 in omega arith
