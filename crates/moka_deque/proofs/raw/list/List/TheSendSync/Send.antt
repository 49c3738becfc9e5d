use denote.RattleType.{RattleType}
use denote.Param.Send.{IsSend, Frees}
use Rattle.core.specs.declared.alloc.Allocator.{Ghosts}
use Rattle.moka_deque.proofs.RawCrosses.{List-send}
use Rattle.moka_deque.specs.contracts.raw.list.List.{the_row}

pub send : (K V A : RattleType) (g : Ghosts A.Denot) → IsSend K → IsSend V → IsSend A → Frees g g.dealloc_token → IsSend (the_row K V A g)
send K V A g k v a = List-send K V A g k v
