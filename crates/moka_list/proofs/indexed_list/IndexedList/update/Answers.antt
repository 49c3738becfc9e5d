use Rattle.std.proofs.Common.{ap, nat_eq, refl}
use Rattle.std.proofs.lemmas.Map.{length-set_value}
use Rattle.std.specs.Fn.{FnOnceReturnsAtMut}
use Rattle.std.specs.Map.{set_value}
use Rattle.moka_list.specs.Indexed.{room_beside}
use Rattle.moka_list.proofs.IndexedListLemmas.{sound-set}
use Rattle.moka_list.proofs.indexed_list.IndexedList.update.Goals as goal

pub invariant_of-self : goal.invariant_of-self
invariant_of-self g c =
    let call : FnOnceReturnsAtMut g.F.FnOnce c.args.change c.get_mut.result.now tt c.change.new.arg2 =
    record { shown = _; shows = refl; left = _; met = c.change.ensures; leaves = refl } in
    sound-set g.T.Hashed.hash_of c.self.invariant c.args.id c.get_mut.result.now c.change.new.arg2 c.get_mut.ensures.value
    (c.requires.keeps_hash c.get_mut.result.now c.change.new.arg2 call)

pub returns : goal.returns
returns g c =
    let old = c.self.inside in
    let items = old.list.items in
    let new = c.change.new.arg2 in
    let call : FnOnceReturnsAtMut g.F.FnOnce c.args.change c.get_mut.result.now tt new =
    record { shown = _; shows = refl; left = _; met = c.change.ensures; leaves = refl } in
    rw (← c.self.view_is) (
      c.get_mut.result.now,
      new,
      c.get_mut.ensures.value,
      call,
      ap (λ n. record { items = set_value (nat_eq c.args.id) items new; room = room_beside n old.list.room old.index.ids; ids = old.index.ids })
          (length-set_value (nat_eq c.args.id) items new),
    )
