-- What the proofs of the functions over raw pointers share, beside the lemmas of `lru` on pointers, links and paths. Assumes `Logic`.
--     Two, args                    the rows of ids, elements and allocator, and what a call passes for them
--     mark_made                    the list's own value, of no bytes
--     pointer_out, pointer_in      the cell of a pointer
--     pairs_cut, pairs_glue        a node is taken out of the list's, and put in
use mathlib.Core.Path.{◌≡◌, refl, ap}
use Prim.Native.Nat.{ℕ}
use mathlib.Core.List.{List, [], ◌∷◌, ◌++◌}
use seplogic.Ra.Ura.{Ura}
use base.Fraction.{full_share}
use mir.Syntax.{Ty, Args, a_type, ty_ptr, dcons, dnil}
use mir.Val.{Val, vstruct, vnil}
use base.Logic.{ent, emp, via, mono_r, id⊢}
use base.Fml.{Fml, Lft, fsep, feq, fat}
use types.Logic.{Logic, sem}
use types.Kit.{Item, Goal, Step, step, ‵, some, ◌⊛◌, ◌$◌, ◌∵◌, !, qed, by, move, drop, use1, use2, pick, split, fsplit, fjoin, feq_i, feq_l, rewrite, done}
use denote.RattleType.{RattleType}
use denote.Param.{param, bounded}
use denote.Param.Laws.{Laws}
use denote.Memory.{part_at}
use denote.RawPtr.{Ptr, RawPtr, ptr_val}
use denote.Shadow.{makes_shadow}
use denote.Steps.{only}
use denote.Struct.Struct.{Struct}
use denote.Struct.Owning.{shape}
use borrow.Table.OneValue.{part_in, part_out}
use Rattle.moka_deque.specs.RawNodes.{Linked}
use Rattle.moka_deque.specs.RawOwnership.{id_offset, element_offset, pair_owns, pairs_own, pair_lent, pairs_lent}
use Rattle.moka_deque.specs.contracts.raw.list.List as L-type
use Rattle.moka_deque.specs.contracts.raw.block.NodePtr as N-type
use Rattle.moka_deque.specs.contracts.raw.block.SpareNode as R-type
use Rattle.moka_deque.specs.contracts.raw.block.Detached as D-type
use Rattle.moka_deque.specs.contracts.raw.block.Blank as B-type
use Rattle.moka_deque.specs.contracts.raw.spare.Spare as S-type
use Rattle.core.proofs.alloc.Calls.{Al, token}
use Rattle.lru.proofs.Memory.{mark, pointer}

pub record Two : Type 2 where
  pub id : RattleType
  pub id_laws : Laws id
  pub element : RattleType
  pub element_laws : Laws element
  pub al : Al

module _ (E : Two) where
  abbrev pub args : Args
  args = bounded (a_type ∷ a_type ∷ a_type ∷ []) (E.id, (E.element, (E.al.row, tt))) (dcons E.al.d (dcons E.al.drops dnil))

  abbrev pub RK : RattleType
  RK = param 0 E.id

  abbrev pub RV : RattleType
  RV = param 1 E.element

  abbrev pub RA : RattleType
  RA = param 2 E.al.row

  -- the allocator's tokens
  abbrev pub Tk : E.al.row.Denot → Ty → Ptr → Fml
  Tk = token E.al

  abbrev pub ko : ℕ
  ko = id_offset RK RV

  abbrev pub vo : ℕ
  vo = element_offset RK RV

  abbrev pub Node : Type 0
  Node = Linked E.id.Denot E.element.Denot

  abbrev pub Lr : RattleType
  Lr = L-type.the_row RK RV RA E.al.g

  abbrev pub Np : RattleType
  Np = N-type.the_row RK RV RA

  abbrev pub Rm : RattleType
  Rm = R-type.the_row RK RV RA E.al.g

  abbrev pub Dt : RattleType
  Dt = D-type.the_row RK RV RA E.al.g

  abbrev pub Bl : RattleType
  Bl = B-type.the_row RK RV RA E.al.g

  abbrev pub Sp : RattleType
  Sp = S-type.the_row RK RV RA E.al.g

  -- the list's own field, which takes no bytes
  abbrev pub Mark : RattleType
  Mark = Struct (shape (L-type.the_type RK RV RA E.al.g))

  abbrev pub One : E.al.row.Denot → Node → Fml
  One a n = pair_owns RK RV (Tk a) n.at n.id n.element

pub mark_made : (E : Two) {M : Type 1} {𝓤 : Ura M} (𝓛 : Logic 𝓤) → ent 𝓤 (emp 𝓤) (sem 𝓛 ((Mark E).own_val (tt, tt) (mark ∷ [])))
mark_made E 𝓛 = makes_shadow 𝓛 ((Mark E).own_val (tt, tt) (mark ∷ [])) (λ vss. (tt, ((λ uss. (tt, tt)), tt)))
    ((vstruct vnil ∷ [], tt), (refl, ((tt, (refl, tt)), tt)))

module _ {M : Type 1} {𝓤 : Ura M} {𝓛 : Logic 𝓤} {K : Type 0} {Γ : List (Item 𝓤)} {G : Goal 𝓤 𝓛.H} where
  pub pointer_out : K → (held : Ptr) (b o : ℕ) → Step K 𝓛 (‵ (pointer b o held) ∷ Γ) G (‵ (part_at RawPtr full_share held b o) ∷ Γ) G
  pointer_out t held b o = step (λ s.
      use1 𝓛 (some (λ (v : Val). ‵ (fat full_share ty_ptr b o v) ⊛ ‵ (feq (List Val) (v ∷ []) (ptr_val held ∷ []))))
      (part_out 𝓛 RawPtr refl full_share held b o) $
      pick t (λ v. split t $ move t (1 ∷ []) $ feq_l t (λ (is : v ∷ [] ≡ ptr_val held ∷ []). rewrite t 0 (λ (w : Val). ‵ (fat full_share ty_ptr b o w))
      (ap only is) refl $ s)))

  pub pointer_in : K → (held : Ptr) (b o : ℕ) → Step K 𝓛 (‵ (part_at RawPtr full_share held b o) ∷ Γ) G (‵ (pointer b o held) ∷ Γ) G
  pointer_in t held b o = step (λ s.
      feq_i t (List Val) (ptr_val held ∷ []) _ refl $ move t (1 ∷ []) $
      use2 𝓛 (‵ (part_at RawPtr full_share held b o)) (part_in 𝓛 RawPtr refl full_share held b o (ptr_val held)) $ s)

module _ {M : Type 1} {𝓤 : Ura M} (𝓛 : Logic 𝓤) (E : Two) where
  past : (x y z : Fml) → ent 𝓤 (sem 𝓛 (fsep x (fsep y z))) (sem 𝓛 (fsep y (fsep x z)))
  past x y z = qed 𝓛 (‵ (fsep x (fsep y z)) ∷ []) ∵ fsplit ! $ move ! (1 ∷ []) $ fsplit ! $ move ! (2 ∷ 1 ∷ []) $ fjoin ! $ move ! (1 ∷ 0 ∷ []) $ fjoin ! $
      done !

  module _ (a : E.al.row.Denot) where
    abbrev All : List (Node E) → Fml
    All = pairs_own (RK E) (RV E) (Tk E a)

    pub pairs_cut : (ahead : List (Node E)) (n : Node E) (behind : List (Node E))
        → ent 𝓤 (sem 𝓛 (All (ahead ++ n ∷ behind))) (sem 𝓛 (fsep (One E a n) (All (ahead ++ behind))))
    pairs_cut [] n behind = id⊢ 𝓤 _
    pairs_cut (x ∷ ahead) n behind =
        via 𝓤 (sem 𝓛 (fsep (One E a x) (fsep (One E a n) (All (ahead ++ behind))))) (mono_r 𝓤 (sem 𝓛 (One E a x)) (pairs_cut ahead n behind))
        (past (One E a x) (One E a n) (All (ahead ++ behind)))

    pub pairs_glue : (ahead : List (Node E)) (n : Node E) (behind : List (Node E))
        → ent 𝓤 (sem 𝓛 (fsep (One E a n) (All (ahead ++ behind)))) (sem 𝓛 (All (ahead ++ n ∷ behind)))
    pairs_glue [] n behind = id⊢ 𝓤 _
    pairs_glue (x ∷ ahead) n behind =
        via 𝓤 (sem 𝓛 (fsep (One E a x) (fsep (One E a n) (All (ahead ++ behind))))) (past (One E a n) (One E a x) (All (ahead ++ behind)))
        (mono_r 𝓤 (sem 𝓛 (One E a x)) (pairs_glue ahead n behind))

  -- of the nodes that are lent, one
  pub pair_seen : (κ : Lft) (ahead : List (Node E)) (n : Node E) (behind : List (Node E))
      → ent 𝓤 (sem 𝓛 (pairs_lent (RK E) (RV E) (ahead ++ n ∷ behind) κ)) (sem 𝓛 (pair_lent (RK E) (RV E) n κ))
  pair_seen κ [] n behind = qed 𝓛 (‵ (pairs_lent (RK E) (RV E) (n ∷ behind) κ) ∷ []) ∵ fsplit ! $ move ! (1 ∷ []) $ drop ! $ done !
  pair_seen κ (x ∷ ahead) n behind = qed 𝓛 (‵ (pairs_lent (RK E) (RV E) (x ∷ ahead ++ n ∷ behind) κ) ∷ []) ∵ fsplit ! $ drop ! $
      by ! (pair_seen κ ahead n behind)
