use denote.RattleType.{RattleType}
use denote.Param.Send.{IsSync}
use Rattle.core.specs.declared.alloc.Allocator.{Ghosts}
use Rattle.moka_deque.proofs.RawCrosses.{List-sync}
use Rattle.moka_deque.specs.contracts.raw.list.List.{the_row}

pub sync : (K V A : RattleType) (g : Ghosts A.Denot) → IsSync K → IsSync V → IsSync (the_row K V A g)
sync = List-sync
