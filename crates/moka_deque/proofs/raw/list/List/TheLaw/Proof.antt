-- A `&` to the list reaches each link, id and element. Assumes `Logic`.
use mathlib.Core.List.{[], ◌++◌}
use base.Fml.{Incl-trans}
use contract.BorrowLft.{meet_⊑_left, meet_⊑_right}
use denote.RattleType.{RattleType}
use base.Fml.{Lft}
use denote.RawPtr.{Ptr, RawPtr}
use denote.Param.Laws.{Laws}
use denote.Param.Shared.{copy_shared}
use denote.Struct.Laws.{field_copy}
use denote.Struct.Lending.{of_Lends}
use Rattle.core.specs.declared.alloc.Allocator.{Ghosts}
use Rattle.core.specs.contracts.marker.PhantomData as PhantomData
use Rattle.moka_deque.specs.contracts.raw.list.List as TheList
use Rattle.moka_deque.proofs.raw.list.List.TheLaw.Statement.{statement}
use Rattle.moka_deque.proofs.RawSharing.{Shows, list_shows}

pub shares : (K V A : RattleType) (g : Ghosts A.Denot) (L : Laws K) (N : Laws V) (P : Laws A) → statement K V A g L N P
shares K V A g L N P =
    let life : Lft = (TheList.the_row K V A g).lives in
    -- it lives for no longer than ids do, nor than elements
    let all = meet_⊑_left (K.lives ++ (V.lives ++ (A.lives ++ []))) (PhantomData.the_row RawPtr).lives in
    let ids = meet_⊑_left K.lives (V.lives ++ (A.lives ++ [])) in
    let elements = Incl-trans (meet_⊑_right K.lives (V.lives ++ (A.lives ++ []))) (meet_⊑_left V.lives (A.lives ++ [])) in
    let shown : (d : (TheList.the_row K V A g).Denot) (p : Ptr) → Shows life (TheList.the_heap K V A g d) (TheList.the_lent K V A g d p) =
    λ d p. list_shows life K V (g.dealloc_token d.alloc) L N (Incl-trans all ids) (Incl-trans all elements) d.head d.nodes d.tail in
    of_Lends (TheList.struct K V A g) (TheList.the_codes K.Denot V.Denot A.Denot K.coded V.coded A.coded (PhantomData.the_row RawPtr).coded)
    (TheList.the_heap K V A g) (TheList.the_lent K V A g)
    (λ d p. (shown d p).laws) (copy_shared (PhantomData.the_field RawPtr) (field_copy (PhantomData.the_type RawPtr) tt), tt) (λ M 𝓤 𝓛 d p. (shown d p).lends 𝓛)
