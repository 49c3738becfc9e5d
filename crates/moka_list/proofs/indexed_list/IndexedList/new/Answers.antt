use Rattle.moka_list.proofs.IndexedListLemmas.{sound-none}
use Rattle.moka_list.proofs.indexed_list.IndexedList.new.Goals as goal

pub invariant_of-result : goal.invariant_of-result
invariant_of-result g c = rw c.new.ensures.items (sound-none g.T.Hashed.hash_of c.new-2.result c.new-2.ensures.empty)
