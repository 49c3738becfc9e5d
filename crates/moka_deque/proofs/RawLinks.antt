-- The links of a list as cells that code writes, and back. Assumes `Logic`.
--     edge_cells, edge_from      both ends of an edge lie in blocks, and its two links are cells there.
--         edge_made      two cells that name one another are an edge
--     link_room_cells            room for both links of a node is room for two cells.        no_link, no_links      a cell, whatever it holds, is room
--     opens_list                 behind a `&mut`, the list's path, nodes, ends and mark.        closes_list      they are put back.
--         packs_list      they make up the list in memory
use mathlib.Core.Path.{◌≡◌, refl, sym}
use mathlib.Core.List.{List, [], ◌∷◌, ◌++◌}
use Prim.Native.Nat.{ℕ, ◌+◌}
use seplogic.Ra.Ura.{Ura}
use base.Fraction.{full_share}
use base.Fml.{Lft, GName, Share, Fml, froom, flft, fobs, fbor, fobor, fauth, fsep}
use mir.Syntax.{ty_ptr}
use mir.Val.{Val}
use types.Logic.{Logic}
use types.SemTy.{Body as Borrowed}
use types.Kit.{Item, Goal, Soaks, Seq, Step, step, ‵, ◌$◌, move, fsplit, fsplit3, fjoin, fjoin3, fpack, rewrite}
use denote.Memory.{mem, cell_at, part_at, part_of}
use denote.RawPtr.{Ptr, block_ptr, in_a_block, room_for, ◌+ₚ◌}
use denote.Steps.{opens, closes}
use base.Stored.{Gv}
use Rattle.lru.specs.Ownership.{link_room, edge, path}
use Rattle.lru.proofs.Memory.{pointer, edge_in, edge_out, no_source, no_target, no_room, stale}
use Rattle.moka_deque.specs.RawNodes.{places}
use Rattle.moka_deque.specs.RawOwnership.{pairs_own, ends_own}
use Rattle.moka_deque.proofs.RawMemory.{Two, RK, RV, Tk, Lr, Mark}

module _ (E : Two) where
  abbrev pub Path : (Lr E).Denot → Fml
  Path l = path l.head (places l.nodes ++ l.tail ∷ [])

  abbrev pub Nodes : (Lr E).Denot → Fml
  Nodes l = pairs_own (RK E) (RV E) (Tk E l.alloc) l.nodes

  abbrev pub Ends : (Lr E).Denot → Fml
  Ends l = ends_own (RK E) (RV E) (Tk E l.alloc) l.head l.tail

module _ {M : Type 1} {𝓤 : Ura M} {𝓛 : Logic 𝓤} {K : Type 0} {Γ : List (Item 𝓤)} {G : Goal 𝓤 𝓛.H} where
  pub edge_from : K → {p : Ptr} {a i : ℕ} → p ≡ block_ptr a i → (q : Ptr)
      → ((b j : ℕ) → q ≡ block_ptr b j → Seq K 𝓛 (‵ (pointer a (i + 8) (block_ptr b j)) ∷ ‵ (pointer b (j + 0) (block_ptr a i)) ∷ Γ) G)
      → Seq K 𝓛 (‵ (edge p q) ∷ Γ) G
  edge_from t {a = a} {i} is_p q k =
      rewrite t 0 (λ (r : Ptr). ‵ (edge r q)) is_p refl $
      in_a_block t q (edge (block_ptr a i)) (no_target 𝓛 (block_ptr a i)) (λ b j is_q. edge_out t a i b j $ k b j is_q)

  pub edge_cells : K → (p q : Ptr)
      → ((a i b j : ℕ) → p ≡ block_ptr a i → q ≡ block_ptr b j → Seq K 𝓛 (‵ (pointer a (i + 8) (block_ptr b j)) ∷ ‵ (pointer b (j + 0) (block_ptr a i)) ∷ Γ) G)
      → Seq K 𝓛 (‵ (edge p q) ∷ Γ) G
  edge_cells t p q k = in_a_block t p (λ r. edge r q) (no_source 𝓛 q) (λ a i is_p. edge_from t refl q (λ b j. k a i b j is_p))

  pub edge_made : K → {p q : Ptr} {a i b j : ℕ} → p ≡ block_ptr a i → q ≡ block_ptr b j
      → Step K 𝓛 (‵ (edge p q) ∷ Γ) G (‵ (pointer a (i + 8) (block_ptr b j)) ∷ ‵ (pointer b (j + 0) (block_ptr a i)) ∷ Γ) G
  edge_made t {a = a} {i} {b} {j} is_p is_q = step (λ s.
      edge_in t a i b j $ rewrite t 0 (λ (ends : Ptr × Ptr). ‵ (edge ends.0 ends.1)) (λ x. (sym is_p x, sym is_q x)) refl $ s)

  pub no_link : K → (at : ℕ) {p : Ptr} {b o : ℕ} → p ≡ block_ptr b o → (held : Ptr)
      → Step K 𝓛 (‵ (room_for ty_ptr (p +ₚ at)) ∷ Γ) G (‵ (pointer b (o + at) held) ∷ Γ) G
  no_link t at {b = b} {o} is_p held = step (λ s. stale t held b (o + at) $ rewrite t 0 (λ (r : Ptr). ‵ (room_for ty_ptr (r +ₚ at))) (sym is_p) refl $ s)

  pub link_room_cells : K → (p : Ptr)
      → ((b o : ℕ) → p ≡ block_ptr b o → Seq K 𝓛 (‵ (froom ty_ptr b (o + 0)) ∷ ‵ (froom ty_ptr b (o + 8)) ∷ Γ) G) → Seq K 𝓛 (‵ (link_room p) ∷ Γ) G
  link_room_cells t p k = in_a_block t p link_room (no_room 𝓛) (λ b o is_p. fsplit t $ k b o is_p)

module _ {M : Type 1} {𝓤 : Ura M} {𝓛 : Logic 𝓤} {K : Type 0} {Γ : List (Item 𝓤)} {G : Goal 𝓤 𝓛.H} where
  pub no_links : K → {p : Ptr} {b o : ℕ} → p ≡ block_ptr b o → (back forth : Ptr)
      → Step K 𝓛 (‵ (link_room p) ∷ Γ) G (‵ (pointer b (o + 0) back) ∷ ‵ (pointer b (o + 8) forth) ∷ Γ) G
  no_links t is_p back forth = step (λ s. no_link t 0 is_p back $ move t (1 ∷ []) $ no_link t 8 is_p forth $ move t (1 ∷ []) $ fjoin t $ s)

module _ {M : Type 1} {𝓤 : Ura M} {𝓛 : Logic 𝓤} {K : Type 0} {Γ : List (Item 𝓤)} {G : Goal 𝓤 𝓛.H} (E : Two) {κ : Lft} {q : Share} {γ : GName} (b o : ℕ) where
  pub opens_list : K → Soaks G → (l : (Lr E).Denot)
      → ((vs : List Val) → Seq K 𝓛 (‵ (Path E l) ∷ ‵ (Nodes E l) ∷ ‵ (Ends E l) ∷ ‵ ((Mark E).own_val (tt, tt) vs) ∷ ‵ (cell_at full_share (Lr E).mir vs b o)
      ∷ ‵ (fobor κ q (Borrowed (mem (Lr E)) b o γ)) ∷ ‵ (fobs γ ((Lr E).coded.code l)) ∷ ‵ (fauth γ ((Lr E).coded.code l)) ∷ Γ) G)
      → Seq K 𝓛 (‵ (fobs γ ((Lr E).coded.code l)) ∷ ‵ (fbor κ (Borrowed (mem (Lr E)) b o γ)) ∷ ‵ (flft κ q) ∷ Γ) G
  opens_list t z l k = opens t z (Lr E) {h = l} b o (λ vs. move t (1 ∷ []) $ fsplit t $ move t (1 ∷ []) $ fsplit3 t $ k vs)

  pub closes_list : K → Soaks G → {u v : Gv} (l : (Lr E).Denot) (vs : List Val)
      → Step K 𝓛 (‵ (fobs γ ((Lr E).coded.code l)) ∷ ‵ (fbor κ (Borrowed (mem (Lr E)) b o γ)) ∷ ‵ (flft κ q) ∷ Γ) G
      (‵ (Path E l) ∷ ‵ (Nodes E l) ∷ ‵ (Ends E l) ∷ ‵ ((Mark E).own_val (tt, tt) vs) ∷ ‵ (cell_at full_share (Lr E).mir vs b o)
      ∷ ‵ (fobor κ q (Borrowed (mem (Lr E)) b o γ)) ∷ ‵ (fobs γ u) ∷ ‵ (fauth γ v) ∷ Γ) G
  closes_list t z l vs = step (λ s. fjoin3 t $ move t (1 ∷ 0 ∷ []) $ fjoin t $ move t (1 ∷ 0 ∷ []) $ closes t z (Lr E) l vs b o $ s)

module _ {M : Type 1} {𝓤 : Ura M} {𝓛 : Logic 𝓤} {K : Type 0} {Γ : List (Item 𝓤)} {G : Goal 𝓤 𝓛.H} (E : Two) (b o : ℕ) where
  pub packs_list : K → (l : (Lr E).Denot) (vs : List Val)
      → Step K 𝓛 (‵ (part_at (Lr E) full_share l b o) ∷ Γ) G
      (‵ (Path E l) ∷ ‵ (Nodes E l) ∷ ‵ (Ends E l) ∷ ‵ ((Mark E).own_val (tt, tt) vs) ∷ ‵ (cell_at full_share (Lr E).mir vs b o) ∷ Γ) G
  unfolding part_of
  packs_list t l vs = step (λ s.
      fjoin3 t $ move t (1 ∷ 0 ∷ []) $ fjoin t $ move t (1 ∷ 0 ∷ []) $ fjoin t $
      fpack t (List Val) (λ us. fsep (cell_at full_share (Lr E).mir us b o) ((Lr E).own_val l us)) vs $ s)
