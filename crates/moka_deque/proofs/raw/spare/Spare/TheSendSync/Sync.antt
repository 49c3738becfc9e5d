use denote.RattleType.{RattleType}
use denote.Param.Send.{IsSync}
use Rattle.core.specs.declared.alloc.Allocator.{Ghosts}
use Rattle.moka_deque.proofs.RawCrosses.{Spare-sync}
use Rattle.moka_deque.specs.contracts.raw.spare.Spare.{the_row}

pub sync : (K V A : RattleType) (g : Ghosts A.Denot) → IsSync (the_row K V A g)
sync = Spare-sync
