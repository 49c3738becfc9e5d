-- What the list lends of one node, and where it lies. Assumes `Logic`.
--     link_lent      of two places in a row, both ends of the link between them
--     node_lent      of a node in the list, its id and its element
--     at_link        a lent link lies in a block, so that code can read it there.        at_pair       so do an id and an element
--     of_the_node    what holds of the node found at a place holds of every node there, since there is one
use mathlib.Core.Path.{refl, sym, subst, ◌∙◌}
use mathlib.Core.List.{List, [], ◌∷◌, ◌++◌}
use Prim.Native.Nat.{ℕ, ◌+◌}
use seplogic.Ra.Ura.{Ura}
use base.Logic.{SProp, ent, never, fst∗}
use base.Fml.{Lft, Fml}
use types.Logic.{Logic, sem}
use types.Kit.{Item, prop, Seq, ‵, ◌$◌, ◌∵◌, !, qed, done, by, move, keep, drop, fsplit, rewrite, regoal}
use denote.Memory.{hidden_shr, shared_of}
use denote.Opens.{hide, unhide}
use denote.RawPtr.{Ptr, RawPtr, block_ptr, null_ptr, in_a_block, ◌+ₚ◌}
use denote.Struct.Lending.{lent_at}
use Rattle.lru.specs.Linked.{HasNext}
use Rattle.lru.specs.Ownership.{edge_lent}
use Rattle.lru.proofs.Memory.{edge_seen}
use Rattle.moka_deque.specs.RawNodes.{places, ring, linked, IsAt, AtNode}
use Rattle.moka_deque.specs.RawOwnership.{pair_lent, pairs_lent}
use Rattle.moka_deque.proofs.RawApart.{apart_places, same_node}
use Rattle.moka_deque.proofs.RawMemory.{Two, Node, Lr, RK, RV, ko, vo, pair_seen}

module _ (E : Two) (l : (Lr E).Denot) {p : Ptr} (found : IsAt l.nodes p) where
  pub of_the_node : (Holds : List (Node E) → Node E → List (Node E) → Type 0) → Holds found.0 found.1 found.2 → AtNode l.nodes p Holds
  of_the_node Holds holds before other behind cut lies =
      let same = same_node l.nodes found.0 found.1 found.2 before other behind (apart_places l.head l.nodes l.tail l.apart) found.3 cut (found.4 ∙ sym lies) in
      subst (λ (at : List (Node E) × (Node E × List (Node E))). Holds at.0 at.1.0 at.1.1) (λ i. (same.0 i, (same.1 i, same.2 i))) holds

module _ (E : Two) {M : Type 1} {𝓤 : Ura M} (𝓛 : Logic 𝓤) (κ : Lft) (l : (Lr E).Denot) (b o : ℕ) where
  pub link_lent : {p q : Ptr} → HasNext (ring l.head l.nodes l.tail) p q → ent 𝓤 (sem 𝓛 (hidden_shr (Lr E) κ l b o)) (sem 𝓛 (edge_lent p q κ))
  link_lent {p} {q} in_a_row =
      qed 𝓛 (‵ (hidden_shr (Lr E) κ l b o) ∷ []) ∵ unhide ! $ fsplit ! $ drop ! $ fsplit ! $ keep ! (0 ∷ []) $
      by ! (edge_seen 𝓛 κ l.head (places l.nodes ++ l.tail ∷ []) in_a_row.0 p q in_a_row.1 in_a_row.2)

  pub node_lent : {p : Ptr} (found : IsAt l.nodes p)
      → ent 𝓤 (sem 𝓛 (hidden_shr (Lr E) κ l b o)) (sem 𝓛 (pair_lent (RK E) (RV E) (linked p found.1.id found.1.element) κ))
  node_lent {p} found =
      let Lent : List (Node E) → Fml = λ ns. pairs_lent (RK E) (RV E) ns κ in
      subst (λ (r : Ptr). ent 𝓤 (sem 𝓛 (hidden_shr (Lr E) κ l b o)) (sem 𝓛 (pair_lent (RK E) (RV E) (linked r found.1.id found.1.element) κ))) found.4
      (qed 𝓛 (‵ (hidden_shr (Lr E) κ l b o) ∷ []) ∵ unhide ! $ fsplit ! $ drop ! $ fsplit ! $ drop ! $
      rewrite ! 0 (λ (ns : List (Node E)). ‵ (Lent ns)) found.3 refl $
      by ! (pair_seen 𝓛 E κ found.0 found.1 found.2))

module _ {M : Type 1} {𝓤 : Ura M} {𝓛 : Logic 𝓤} {K : Type 0} {Γ : List (Item 𝓤)} where
  pub at_link : K → (offset : ℕ) (p q : Ptr) (κ : Lft) (F : Ptr → SProp 𝓤)
      → ((b o : ℕ) → Seq K 𝓛 (‵ (hidden_shr RawPtr κ q b (o + offset)) ∷ Γ) (prop (F (block_ptr b o))))
      → Seq K 𝓛 (‵ (lent_at RawPtr (p +ₚ offset) q κ) ∷ Γ) (prop (F p))
  at_link t offset p q κ F k =
      in_a_block t p (λ r. lent_at RawPtr (r +ₚ offset) q κ) (fst∗ 𝓤 (never 𝓤) (sem 𝓛 (shared_of RawPtr q 0 0 κ))) (λ b o where_it_lies.
      regoal t (λ r. prop (F r)) where_it_lies refl $ fsplit t $ drop t $ hide t $ k b o)

  pub at_pair : K → (E : Two) (p : Ptr) (id : E.id.Denot) (element : E.element.Denot) (κ : Lft) (F : Ptr → SProp 𝓤)
      → ((b o : ℕ) → Seq K 𝓛 (‵ (hidden_shr (RV E) κ element b (o + vo E)) ∷ ‵ (hidden_shr (RK E) κ id b (o + ko E)) ∷ Γ) (prop (F (block_ptr b o))))
      → Seq K 𝓛 (‵ (pair_lent (RK E) (RV E) (linked p id element) κ) ∷ Γ) (prop (F p))
  at_pair t E p id element κ F k =
      let Lent : Ptr → Fml = λ r. pair_lent (RK E) (RV E) (linked r id element) κ in
      in_a_block t p Lent (qed 𝓛 (‵ (Lent null_ptr) ∷ []) ∵ fsplit ! $ fsplit ! $ keep ! (0 ∷ []) $ done !) (λ b o where_they_lie.
      regoal t (λ r. prop (F r)) where_they_lie refl $ fsplit t $ fsplit t $ drop t $ hide t $ move t (1 ∷ []) $ fsplit t $ drop t $ hide t $ k b o)
