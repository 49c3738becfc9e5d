-- A `&` to the spare nodes reaches none of them. Assumes `Logic`.
use denote.RattleType.{RattleType}
use denote.Param.Laws.{Laws}
use denote.Param.Shared.{copy_shared}
use denote.SharingLaws.{nothing_shr_laws}
use denote.Struct.Field.{RawPtr-field}
use denote.Struct.Laws.{RawPtr-copy}
use denote.Struct.Lending.{of_Lends, Lends-nothing}
use Rattle.core.specs.declared.alloc.Allocator.{Ghosts}
use Rattle.moka_deque.specs.contracts.raw.spare.Spare as C
use Rattle.moka_deque.proofs.raw.spare.Spare.TheLaw.Statement.{statement}

pub shares : (K V A : RattleType) (g : Ghosts A.Denot) (L : Laws K) (N : Laws V) (P : Laws A) → statement K V A g L N P
shares K V A g L N P =
    of_Lends (C.struct K V A g) (C.the_codes K.Denot V.Denot A.Denot K.coded V.coded A.coded) (C.the_heap K V A g) (C.the_lent K V A g)
    (λ d p. nothing_shr_laws)
    (copy_shared RawPtr-field RawPtr-copy, tt) (λ M 𝓤 𝓛 d p. Lends-nothing 𝓛 (C.the_heap K V A g d) (C.the_row K V A g).lives)
