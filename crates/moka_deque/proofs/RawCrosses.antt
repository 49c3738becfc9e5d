-- A list and a chain of spare nodes may cross threads where ids, elements and the allocator may.
use Rattle.std.specs.Prelude.{List, [], ◌∷◌}
use mir.Syntax.{Ty, ty_ptr}
use base.Fraction.{full_share}
use base.Fml.{fsep}
use denote.Struct.Lending.{lent_at}
use base.Shift.{Keyless}
use denote.RattleType.{RattleType}
use denote.RawPtr.{Ptr, block_ptr, null_ptr, room_for, lies_at}
use denote.Builtin.{RawPtr}
use denote.Struct.Struct.{exits_of}
use denote.Struct.Owning.{shape, fields, to}
use denote.Param.Send.{IsSend, IsSync, Common, AllSend, owning_send, struct_send, struct_sync, sendable}
use Rattle.core.specs.declared.alloc.Allocator.{Ghosts}
use Rattle.std_alloc.proofs.SendSync.{FreesAnywhere, quiet, lies, seen}
use Rattle.moka_deque.specs.RawNodes.{Linked}
use Rattle.lru.specs.Ownership.{path, path_lent}
use Rattle.moka_deque.specs.RawOwnership.{pairs_own, pairs_lent, freeing_owns, bare_owns, chain_owns}
use Rattle.moka_deque.specs.contracts.raw.spare.Spare as Chain
use Rattle.moka_deque.specs.contracts.raw.list.List as Nodes

-- a link's pointer crosses threads, where it lies and where it is lent
link_lies : (p x : Ptr) → Keyless (lies_at RawPtr full_share p x)
link_lies p x = lies RawPtr (search sendable) p x

link_seen : (p x : Ptr) → Common (lent_at RawPtr p x)
link_seen p x κ = seen RawPtr (search sendable) p x κ

empty : (τ : Ty) (p : Ptr) → Keyless (room_for τ p)
empty τ null_ptr = tt
empty τ (block_ptr b o) = tt

links_cross : (from : Ptr) (ps : List Ptr) → Keyless (path from ps) × Common (path_lent from ps)
links_cross from [] = (tt, λ κ. tt)
links_cross from (p ∷ ps) =
    let rest = links_cross p ps in
    (((link_lies _ p, link_lies _ from), rest.0), λ κ. ((link_seen _ p κ, link_seen _ from κ), rest.1 κ))

module _ (K V A : RattleType) (g : Ghosts A.Denot) where
  nodes_seen : IsSync K → IsSync V → (ns : List (Linked K.Denot V.Denot)) → Common (pairs_lent K V ns)
  nodes_seen ids elements [] κ = tt
  nodes_seen ids elements (n ∷ ns) κ = ((seen K ids _ n.id κ, seen V elements _ n.element κ), nodes_seen ids elements ns κ)

  -- what the struct's own field shows, and beside it what the nodes do
  pub List-sync : IsSync K → IsSync V → IsSync (Nodes.the_row K V A g)
  List-sync ids elements =
      let O = Nodes.the_type K V A g in
      record {
        shared = λ l b o κ. (
          (struct_sync (shape O) (search sendable, tt)).shared (to O l) b o κ,
          ((links_cross l.head _).1 κ, nodes_seen ids elements l.nodes κ),
        );
      }

  pub Spare-sync : IsSync (Chain.the_row K V A g)
  Spare-sync = let O = Chain.the_type K V A g in record { shared = λ s b o κ. ((struct_sync (shape O) (search sendable, tt)).shared (to O s) b o κ, tt) }

  module _ (ids : IsSend K) (elements : IsSend V) (anywhere : FreesAnywhere A.Denot g) where
    can_free : (a : A.Denot) (p : Ptr) → Keyless (freeing_owns K V (g.dealloc_token a) p)
    can_free a p = (anywhere.frees a _ p, (((empty _ _, empty _ _), (empty _ _, empty _ _)), empty _ p))

    an_end : (a : A.Denot) (link p : Ptr) → Keyless (fsep (room_for ty_ptr link) (bare_owns K V (g.dealloc_token a) p))
    an_end a link p = (empty _ link, ((empty _ _, empty _ _), can_free a p))

    nodes_cross : (a : A.Denot) (ns : List (Linked K.Denot V.Denot)) → Keyless (pairs_own K V (g.dealloc_token a) ns)
    nodes_cross a [] = tt
    nodes_cross a (n ∷ ns) = (((lies K ids _ n.id, lies V elements _ n.element), can_free a n.at), nodes_cross a ns)

    spares_cross : (a : A.Denot) (p : Ptr) (rs : List (K.Denot × Ptr)) → Keyless (chain_owns K V (g.dealloc_token a) p rs)
    spares_cross a p [] = tt
    spares_cross a p (r ∷ rs) = (((empty _ _, link_lies _ r.1), ((lies K ids _ r.0, empty _ _), can_free a p)), spares_cross a r.1 rs)

    pub List-send : IsSend (Nodes.the_row K V A g)
    List-send =
        let O = Nodes.the_type K V A g in let fields_cross : AllSend (fields O) = (search sendable, tt) in
        owning_send O fields_cross (λ l. ((links_cross l.head _).0, (nodes_cross l.alloc l.nodes, (an_end l.alloc _ l.head, an_end l.alloc _ l.tail))))
        (λ kept. quiet (to O) (exits_of kept (fields O)) ((struct_send (shape O) fields_cross).leaving kept))

    pub Spare-send : IsSend (Chain.the_row K V A g)
    Spare-send =
        let O = Chain.the_type K V A g in let fields_cross : AllSend (fields O) = (search sendable, tt) in
        owning_send O fields_cross (λ s. spares_cross s.alloc s.first s.rest)
        (λ kept. quiet (to O) (exits_of kept (fields O)) ((struct_send (shape O) fields_cross).leaving kept))
