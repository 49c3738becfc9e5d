use Rattle.std.proofs.Common.{◌≡◌, ◌∙◌, ◌+◌, ◌*◌, ◌%◌, ◌<◌, ◌^◌, ℕ, List, get_or, length, nat_lt, ap, sym, arith, rules}
use Rattle.std.specs.Int.{from_bool}
use Rattle.moka_common.specs.Cells.{counters_of, counters_of_group, slot_count}
use Rattle.moka_common.specs.Sketch.{cell, grown_at, position_of}
use Rattle.moka_common.proofs.CellLemmas.{counter_read, get_or-counters_of, raised, raised_room}
use Rattle.moka_common.proofs.SketchLemmas.{cell_at}
use Rattle.moka_common.proofs.frequency_sketch.cells.grow.Goals.{After-from}
use Rattle.moka_common.proofs.frequency_sketch.cells.grow.Goals as goal

-- the group that has the hash's counter at the depth
abbrev index : After-from → ℕ
index c = 4 * c.index_of-word.result + c.args.hash % 4

within : (c : After-from) → index c < length c.args.groups.now
within c = omega (arith, c.index_of-word.ensures.within)

at : (c : After-from) → 4 * index c + c.args.depth ≡ position_of (cell (slot_count c.args.groups.now) c.args.hash c.args.depth)
at c =
    cell_at (slot_count c.args.groups.now) c.args.hash c.args.depth (index c)
    (ap (λ word. 4 * word + c.args.hash % 4) c.index_of-word.ensures.value)

-- what is added to the counter is one where it is below the most
added : (c : After-from) → c.from.result ≡ from_bool (nat_lt (get_or (counters_of_group (get_or c.args.groups.now (index c) 0)) c.args.depth 0) 15)
added c =
    c.from.ensures
    ∙ ap (λ v. from_bool (nat_lt v 15)) (counter_read (get_or c.args.groups.now (index c) 0) c.args.depth c.requires.depth)

pub overflow_add-groups : goal.overflow_add-groups
overflow_add-groups c =
    let before = (goal.at.overflow_add-groups c).After-from in
    let group : ℕ = get_or c.args.groups.now (index before) 0 in
    let fits : group < 2 ^ 16 = search rules in
    let room = raised_room group c.args.depth c.from.result c.requires.depth fits (added before) in
    search (rules, room)

pub returns-clause-counters : goal.returns-clause-counters
returns-clause-counters c =
    let groups : List ℕ = c.args.groups.now in
    let before = (goal.at.returns-clause-counters c).After-from in
    raised groups (index before) c.args.depth c.from.result (within before) c.requires.depth (added before)
    ∙ ap (grown_at (counters_of groups)) (at before)

pub returns-clause-grew : goal.returns-clause-grew
returns-clause-grew c =
    let groups : List ℕ = c.args.groups.now in
    let before = (goal.at.returns-clause-grew c).After-from in
    ap (λ v. nat_lt v 15)
    (counter_read (get_or groups (index before) 0) c.args.depth c.requires.depth
    ∙ sym (get_or-counters_of groups (index before) c.args.depth (within before) c.requires.depth))
    ∙ ap (λ k. nat_lt (get_or (counters_of groups) k 0) 15) (at before)
