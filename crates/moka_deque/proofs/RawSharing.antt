-- A `&` to a list is made where one to an id and one to an element are. Assumes `Logic`.
--     Shows P s        what owns P can be lent for as long as ids and elements live, and s is what a `&` to it then has
use mathlib.Core.List.{List, [], ◌∷◌, ◌++◌}
use seplogic.Ra.Ura.{Ura}
use base.Fraction.{full_share}
use base.Fml.{Lft, Fml, Incl, ftrue, fsep}
use contract.BorrowLft.{⊑_static}
use types.Logic.{Logic}
use mir.Syntax.{Ty}
use denote.RattleType.{RattleType, RowLaws}
use denote.Param.Laws.{Laws}
use denote.Param.Shared.{copy_shared}
use denote.RawPtr.{Ptr, RawPtr, lies_at, ptr_row_laws}
use denote.Sharing.{ShrLaws, nothing, beside}
use denote.SharingLaws.{beside_shr_laws, nothing_shr_laws}
use denote.Shares.{SharesAt, Shares-less}
use denote.Memory.{shared_of}
use denote.Struct.Field.{RawPtr-field}
use denote.Struct.Laws.{RawPtr-copy}
use denote.Struct.Lending.{Lends, lent_at, lent_at_shr_laws, Lends-lies, Lends-first, Lends-both, Lends-nothing}
use Rattle.lru.specs.Ownership.{prev_of, next_of, path, path_lent}
use Rattle.moka_deque.specs.RawNodes.{Linked, places}
use Rattle.moka_deque.specs.RawOwnership.{id_of, element_of, pairs_own, ends_own, list_owns, freeing_owns, pairs_lent, list_lent}

module _ (life : Lft) where
  pub record Shows (P : Fml) (s : Lft → Fml) : Type 2 where
    pub laws : ShrLaws s
    pub lends : {M : Type 1} {𝓤 : Ura M} (𝓛 : Logic 𝓤) → Lends 𝓛 P s life

  none : Shows ftrue nothing
  none = record { laws = nothing_shr_laws; lends = λ 𝓛. Lends-nothing 𝓛 ftrue life }

  both : {P Q : Fml} {s t : Lft → Fml} → Shows P s → Shows Q t → Shows (fsep P Q) (beside s t)
  both {P} {Q} {s} {t} x y = record { laws = beside_shr_laws s t x.laws y.laws; lends = λ 𝓛. Lends-both 𝓛 P Q s t life (x.lends 𝓛) (y.lends 𝓛) }

  -- of two, the second is in no `&`
  first : {P : Fml} {s : Lft → Fml} (Q : Fml) → Shows P s → Shows (fsep P Q) s
  first {P} {s} Q x = record { laws = x.laws; lends = λ 𝓛. Lends-first 𝓛 P Q s life (x.lends 𝓛) }

  value : (R : RattleType) → RowLaws R → ((M : Type 1) (𝓤 : Ura M) (𝓛 : Logic 𝓤) (x : R.Denot) → SharesAt 𝓛 R x (shared_of R x) life) → (p : Ptr) (x : R.Denot)
      → Shows (lies_at R full_share p x) (lent_at R p x)
  value R shown shares p x = record { laws = lent_at_shr_laws R shown p x; lends = λ {M} {𝓤} 𝓛. Lends-lies 𝓛 R life p x (shares M 𝓤 𝓛 x) }

  link : (p x : Ptr) → Shows (lies_at RawPtr full_share p x) (lent_at RawPtr p x)
  link = value RawPtr ptr_row_laws (λ M 𝓤 𝓛. Shares-less 𝓛 RawPtr [] life (⊑_static life) ((copy_shared RawPtr-field RawPtr-copy).shares M 𝓤 𝓛))

  links : (a : Ptr) (ps : List Ptr) → Shows (path a ps) (path_lent a ps)
  links a [] = none
  links a (p ∷ ps) = both (both (link (next_of a) p) (link (prev_of p) a)) (links p ps)

  module _ (K V : RattleType) (token : Ty → Ptr → Fml) (LK : Laws K) (LV : Laws V) (of_ids : Incl life K.lives) (of_elements : Incl life V.lives) where
    nodes : (ns : List (Linked K.Denot V.Denot)) → Shows (pairs_own K V token ns) (pairs_lent K V ns)
    nodes [] = none
    nodes (n ∷ ns) =
        both (first (freeing_owns K V token n.at) (both
        (value K LK.shr_laws (λ M 𝓤 𝓛. Shares-less 𝓛 K K.lives life of_ids (LK.shares 𝓛)) (id_of K V n.at) n.id)
        (value V LV.shr_laws (λ M 𝓤 𝓛. Shares-less 𝓛 V V.lives life of_elements (LV.shares 𝓛)) (element_of K V n.at) n.element))) (nodes ns)

    pub list_shows : (head : Ptr) (ns : List (Linked K.Denot V.Denot)) (tail : Ptr) → Shows (list_owns K V token head ns tail) (list_lent K V head ns tail)
    list_shows head ns tail = both (links head (places ns ++ tail ∷ [])) (first (ends_own K V token head tail) (nodes ns))
