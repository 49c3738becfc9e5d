-- A node's block, from the allocator and back to it. Assumes `Logic`.
--     blank_of_block, block_of_blank      a whole block with the allocator's token is an empty node, and back
--     emptied          a spare node's id is forgotten, so that the node is empty.        comes_whole     an empty node is a whole block
--     asks, hands_back      what a call of the allocator is given
--     in_its_block, from_its_block       the part of a node beside its links, at the block that it lies in, and back
use mathlib.Core.List.{List, [], ◌∷◌}
use mathlib.Core.Path.{◌≡◌, refl, sym, ap}
use Prim.Native.Nat.{ℕ, ◌+◌}
use seplogic.Ra.Ura.{Ura}
use base.Fraction.{full_share}
use mir.Syntax.{Ty, Tys, Sym, ty_ptr, ty_struct, tcons, tnil}
use mir.Val.{Val}
use base.Logic.{SProp, ent, sep, wand, apply∗}
use base.Fml.{Fml, Lft, Share, ftrue, fsep, fat, fwand, froom, flft}
use contract.BorrowLft.{◌⊑◌}
use contract.Monad.{Fun}
use prog.Capped.{capped_fits}
use prog.Memory.{Memory, size, align, capped}
use prog.Model.{rooms_at}
use prog.RawLaws.{size-raw, align-raw}
use prog.Routine.{Routine}
use types.Logic.{Logic, sem}
use types.Kit.{Item, Goal, Seq, Step, step, ⋆, ‵, raw, ◌⊛◌, some, given, learn, pick, ◌$◌, ◌∵◌, !, qed, by, move, keep, drop, use1, use2, group}
use types.Kit.{split, split3, assume, fsplit, fjoin, rewrite, done}
use denote.Memory.{hidden_shr}
use denote.Param.{layout}
use denote.RawPtr.{Ptr, block_ptr, null_ptr, in_a_block, room_for}
use denote.Steps.{nothing}
use Rattle.core.proofs.alloc.Calls.{Takes, at_takes, Takes-goes, Gives, at_gives, Gives-goes}
use Rattle.lru.specs.Ownership.{link_room}
use Rattle.lru.proofs.Memory.{no_room, value_out}
use Rattle.std_alloc.proofs.RcSteps.{Good}
use Rattle.std_alloc.proofs.RawLayout.{as_raw, as_written}
use Rattle.moka_deque.specs.RawOwnership.{entry_type, fields_room, blank_owns, spare_owns}
use Rattle.moka_deque.specs.contracts.raw.block.Node as TheNode
use Rattle.moka_deque.proofs.RawMemory.{Two, RK, RV, RA, Tk, ko, vo}

module _ (E : Two) where
  -- the type of a node as the code writes it, and as the allocator is asked for it
  abbrev pub coded_type : Ty
  coded_type = layout (TheNode.the_row (RK E) (RV E) (RA E))

  abbrev pub asked_type : Ty
  asked_type = entry_type (RK E) (RV E)

  abbrev pub bytes : ℕ
  bytes = capped (size coded_type)

  abbrev pub alignment : ℕ
  alignment = capped (align coded_type)

  abbrev pub Blank : E.al.row.Denot → Ptr → Fml
  Blank a = blank_owns (RK E) (RV E) (Tk E a)

  abbrev pub Spare : E.al.row.Denot → E.id.Denot → Ptr → Fml
  Spare a id p = spare_owns (RK E) (RV E) (Tk E a) p id

module _ (E : Two) {M : Type 1} {𝓤 : Ura M} (𝓛 : Logic 𝓤) (a : E.al.row.Denot) (b o : ℕ) where
  open 𝓛 use {H}

  abbrev node_name : Sym
  node_name = (TheNode.the_type (RK E) (RV E) (RA E)).name

  abbrev node_fields : Tys
  node_fields = tcons ty_ptr (tcons ty_ptr (tcons (layout E.id) (tcons (layout E.element) tnil)))

  abbrev Whole : SProp 𝓤
  Whole = wand 𝓤 (rooms_at 𝓤 H node_fields 0 b o) (H.room (ty_struct node_name node_fields) b o)

  abbrev Fields : Fml
  Fields = fields_room (RK E) (RV E) (block_ptr b o)

  whole_again : ent 𝓤 Whole (sem 𝓛 (fwand Fields (room_for (asked_type E) (block_ptr b o))))
  whole_again =
      qed 𝓛 (raw Whole ∷ []) ∵ assume ! (‵ Fields) $ fsplit ! $ move ! (1 ∷ []) $ fsplit ! $ as_written ! (layout E.id) b (o + ko E) $ move ! (1 ∷ []) $
      as_written ! (layout E.element) b (o + vo E) $
      nothing ! $ move ! (3 ∷ []) $ fsplit ! $ move ! (0 ∷ 1 ∷ 4 ∷ 3 ∷ 2 ∷ []) $ group ! 5 $
      use2 𝓛 (‵ (froom (ty_struct node_name node_fields) b o)) (apply∗ 𝓤 (rooms_at 𝓤 H node_fields 0 b o) (H.room (ty_struct node_name node_fields) b o)) $
      by ! (𝓛.laws.room-raw (ty_struct node_name node_fields) b o)

  pub blank_of_block : ent 𝓤 (sep 𝓤 (H.room (asked_type E) b o) (sem 𝓛 (Tk E a (asked_type E) (block_ptr b o)))) (sem 𝓛 (Blank E a (block_ptr b o)))
  blank_of_block =
      qed 𝓛 (‵ (froom (asked_type E) b o) ∷ ‵ (Tk E a (asked_type E) (block_ptr b o)) ∷ []) ∵ as_written ! (ty_struct node_name node_fields) b o $
      use1 𝓛 ((‵ (froom ty_ptr b (o + 0)) ⊛ ‵ (froom ty_ptr b (o + 8)) ⊛ ‵ (froom (layout E.id) b (o + ko E)) ⊛ ‵ (froom (layout E.element) b (o + vo E))
      ⊛ ‵ ftrue) ⊛ raw Whole)
      (𝓛.laws.room_fields node_name node_fields b o) $ split ! $ move ! (1 ∷ []) $
      -- [what joins them; the fields; the token]
      use1 𝓛 (‵ (fwand Fields (room_for (asked_type E) (block_ptr b o)))) whole_again $ move ! (2 ∷ 0 ∷ []) $ fjoin ! $ move ! (1 ∷ []) $ split3 ! $
      fjoin ! $ move ! (1 ∷ []) $ split3 ! $ move ! (2 ∷ []) $ drop ! $
      as_raw ! (layout E.id) b (o + ko E) $ move ! (1 ∷ []) $ as_raw ! (layout E.element) b (o + vo E) $ move ! (1 ∷ 0 ∷ []) $ fjoin ! $
      move ! (0 ∷ 2 ∷ []) $ fjoin ! $ move ! (1 ∷ 0 ∷ []) $ fjoin ! $ done !

  pub block_of_blank : ent 𝓤 (sem 𝓛 (Blank E a (block_ptr b o))) (sep 𝓤 (H.room (asked_type E) b o) (sem 𝓛 (Tk E a (asked_type E) (block_ptr b o))))
  block_of_blank =
      qed 𝓛 (‵ (Blank E a (block_ptr b o)) ∷ []) ∵ fsplit ! $ move ! (1 ∷ []) $ fsplit ! $ move ! (2 ∷ 0 ∷ []) $ fjoin ! $ move ! (1 ∷ []) $ fsplit ! $
      move ! (2 ∷ 1 ∷ []) $
      use2 𝓛 (‵ (froom (asked_type E) b o)) (apply∗ 𝓤 (sem 𝓛 Fields) (H.room (asked_type E) b o)) $ done !

  -- the id's bytes are room, whatever they hold
  pub emptied : (id : E.id.Denot) → ent 𝓤 (sem 𝓛 (Spare E a id (block_ptr b o))) (sem 𝓛 (Blank E a (block_ptr b o)))
  emptied id =
      qed 𝓛 (‵ (Spare E a id (block_ptr b o)) ∷ []) ∵ fsplit ! $ move ! (1 ∷ []) $ fsplit ! $ fsplit ! $
      use1 𝓛 (some (λ (v : Val). given (Good (layout E.id) v) (‵ (fat full_share (layout E.id) b (o + ko E) v) ⊛ ‵ (E.id.own_val id (v ∷ [])))))
      (value_out 0 E.id E.id_laws 𝓛 id b (o + ko E)) $
      pick ! (λ v. learn ! (λ typed. split ! $ move ! (1 ∷ []) $ drop ! $
      use1 𝓛 (‵ (froom (layout E.id) b (o + ko E))) (𝓛.laws.at_room (layout E.id) b (o + ko E) v) $ as_raw ! (layout E.id) b (o + ko E) $
      fjoin ! $ fjoin ! $ move ! (1 ∷ 0 ∷ []) $ fjoin ! $ done !))

module _ (E : Two) {M : Type 1} {𝓤 : Ura M} (𝓛 : Logic 𝓤) (at_mem : Memory → SProp 𝓤) (run : Routine
    → Fun 𝓤) (κ : Lft) (q : Share) (at : ℕ × ℕ) (a : E.al.row.Denot) where
  abbrev pub asking : (Takes E.al 𝓛 at_mem run).Ghost
  asking = at_takes E.al 𝓛 at_mem run κ q at a (bytes E) (alignment E) (asked_type E)

  pub asks : κ ⊑ E.al.row.lives → ent 𝓤 (⋆ 𝓛 (‵ (hidden_shr (RA E) κ a at.0 at.1) ∷ ‵ (flft κ q) ∷ [])) ((Takes E.al 𝓛 at_mem run).pre asking)
  asks lives =
      Takes-goes E.al 𝓛 at_mem run κ q at a lives (bytes E) (alignment E) (asked_type E)
      (ap capped (size-raw (coded_type E))) (ap capped (align-raw (coded_type E))) (capped_fits (size (coded_type E))) (capped_fits (align (coded_type E)))

  module _ (b o : ℕ) where
    abbrev pub handing : (Gives E.al 𝓛 at_mem run).Ghost
    handing = at_gives E.al 𝓛 at_mem run κ q at a b o (bytes E) (alignment E) (asked_type E)

    pub hands_back : κ ⊑ E.al.row.lives
        → ent 𝓤 (⋆ 𝓛 (‵ (froom (asked_type E) b o) ∷ ‵ (Tk E a (asked_type E) (block_ptr b o)) ∷ ‵ (hidden_shr (RA E) κ a at.0 at.1) ∷ ‵ (flft κ q) ∷ []))
        ((Gives E.al 𝓛 at_mem run).pre handing)
    hands_back lives =
        Gives-goes E.al 𝓛 at_mem run κ q at a lives b o (bytes E) (alignment E) (asked_type E)
        (ap capped (size-raw (coded_type E))) (ap capped (align-raw (coded_type E))) (capped_fits (size (coded_type E))) (capped_fits (align (coded_type E)))

module _ {M : Type 1} {𝓤 : Ura M} {𝓛 : Logic 𝓤} {K : Type 0} {Γ : List (Item 𝓤)} {G : Goal 𝓤 𝓛.H} where
  pub comes_whole : K → (E : Two) (a : E.al.row.Denot) (p : Ptr)
      → ((b o : ℕ) → p ≡ block_ptr b o → Seq K 𝓛 (‵ (froom (asked_type E) b o) ∷ ‵ (Tk E a (asked_type E) (block_ptr b o)) ∷ Γ) G)
      → Seq K 𝓛 (‵ (Blank E a p) ∷ Γ) G
  comes_whole t E a p k =
      in_a_block t p (Blank E a) (qed 𝓛 (‵ (Blank E a null_ptr) ∷ []) ∵ fsplit ! $ keep ! (0 ∷ []) $ by ! (no_room 𝓛)) (λ b o is_p.
      use1 𝓛 (‵ (froom (asked_type E) b o) ⊛ ‵ (Tk E a (asked_type E) (block_ptr b o))) (block_of_blank E 𝓛 a b o) $ split t $ k b o is_p)

  pub empties : K → (E : Two) (a : E.al.row.Denot) (id : E.id.Denot) (p : Ptr) → Step K 𝓛 (‵ (Blank E a p) ∷ Γ) G (‵ (Spare E a id p) ∷ Γ) G
  empties t E a id p = step (λ s. in_a_block t p (Spare E a id) (qed 𝓛 (‵ (Spare E a id null_ptr) ∷ []) ∵ fsplit ! $ keep ! (0 ∷ []) $
      by ! (no_room 𝓛)) (λ b o is_p.
      use1 𝓛 (‵ (Blank E a (block_ptr b o))) (emptied E 𝓛 a b o id) $ rewrite t 0 (λ (r : Ptr). ‵ (Blank E a r)) (sym is_p) refl $ s))

  pub in_its_block : K → (p : Ptr) (F : Ptr → Fml)
      → ((b o : ℕ) → p ≡ block_ptr b o → Seq K 𝓛 (‵ (F (block_ptr b o)) ∷ ‵ (link_room p) ∷ Γ) G) → Seq K 𝓛 (‵ (fsep (link_room p) (F p)) ∷ Γ) G
  in_its_block t p F k = fsplit t $ in_a_block t p link_room (no_room 𝓛) (λ b o is_p.
      rewrite t 0 (λ (r : Ptr). ‵ (link_room r)) (sym is_p) refl $ move t (1 ∷ []) $ rewrite t 0 (λ (r : Ptr). ‵ (F r)) is_p refl $ k b o is_p)

  pub from_its_block : K → {p : Ptr} {b o : ℕ} → p ≡ block_ptr b o → (F : Ptr → Fml)
      → Step K 𝓛 (‵ (fsep (link_room p) (F p)) ∷ Γ) G (‵ (F (block_ptr b o)) ∷ ‵ (link_room p) ∷ Γ) G
  from_its_block t is_p F = step (λ s. rewrite t 0 (λ (r : Ptr). ‵ (F r)) (sym is_p) refl $ move t (1 ∷ 0 ∷ []) $ fjoin t $ s)
