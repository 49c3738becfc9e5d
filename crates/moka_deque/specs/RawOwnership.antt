-- What each part of a list owns and lends, at ids of the row K and elements of the row V. No public clause cites this module.
use Rattle.std.specs.Prelude.{ℕ, ◌+◌, List, [], ◌∷◌, ◌++◌}
use base.Fraction.{full_share}
use base.Fml.{Lft, Fml, ftrue, fsep, fwand}
use mir.Syntax.{Ty, ty_ptr, ty_struct, tcons, tnil}
use mir.Raw.{raw}
use prog.Memory.{size, align, up}
use denote.RattleType.{RattleType}
use denote.Memory.{lone}
use denote.Sharing.{nothing, beside}
use denote.RawPtr.{Ptr, RawPtr, lies_at, room_for, ◌+ₚ◌}
use denote.Struct.Lending.{lent_at}
use Rattle.lru.specs.Ownership.{prev_of, next_of, link_room, path, path_lent}
use Rattle.moka_deque.specs.RawNodes.{Linked, places}

module _ (K V : RattleType) where
  -- the type of `Node`, as the machine sees it
  abbrev pub entry_type : Ty
  entry_type = ty_struct [] (tcons ty_ptr (tcons ty_ptr (tcons (raw (lone K.mir)) (tcons (raw (lone V.mir)) tnil))))

  abbrev pub id_offset : ℕ
  id_offset = up (align (lone K.mir)) 16

  abbrev pub element_offset : ℕ
  element_offset = up (align (lone V.mir)) (id_offset + size (lone K.mir))

  abbrev pub id_of : Ptr → Ptr
  id_of p = p +ₚ id_offset

  abbrev pub element_of : Ptr → Ptr
  element_of p = p +ₚ element_offset

  abbrev pub id_room : Ptr → Fml
  id_room p = room_for (raw (lone K.mir)) (id_of p)

  abbrev pub element_room : Ptr → Fml
  element_room p = room_for (raw (lone V.mir)) (element_of p)

  -- room for the pair
  abbrev pub pair_room : Ptr → Fml
  pair_room p = fsep (id_room p) (element_room p)

  -- the four fields, empty
  abbrev pub fields_room : Ptr → Fml
  fields_room p = fsep (link_room p) (pair_room p)

  module _ (token : Ty → Ptr → Fml) where
    -- the right to free the block: the allocator's token, and that the four empty fields make the whole block
    abbrev pub freeing_owns : Ptr → Fml
    freeing_owns p = fsep (token entry_type p) (fwand (fields_room p) (room_for entry_type p))

    -- a block with nothing in it, but for its links
    abbrev pub bare_owns : Ptr → Fml
    bare_owns p = fsep (pair_room p) (freeing_owns p)

    -- a block with nothing in it
    abbrev pub blank_owns : Ptr → Fml
    blank_owns p = fsep (link_room p) (bare_owns p)

    -- a spare node, but for its links
    abbrev pub empty_owns : Ptr → K.Denot → Fml
    empty_owns p k = fsep (fsep (lies_at K full_share (id_of p) k) (element_room p)) (freeing_owns p)

    -- a spare node, which is in no chain
    abbrev pub spare_owns : Ptr → K.Denot → Fml
    spare_owns p k = fsep (link_room p) (empty_owns p k)

    -- a node with its id and value, but for its links
    abbrev pub pair_owns : Ptr → K.Denot → V.Denot → Fml
    pair_owns p k v = fsep (fsep (lies_at K full_share (id_of p) k) (lies_at V full_share (element_of p) v)) (freeing_owns p)

    -- a node with its id and value that is in no list
    abbrev pub detached_owns : Ptr → K.Denot → V.Denot → Fml
    detached_owns p k v = fsep (link_room p) (pair_owns p k v)

    abbrev pub pairs_own : List (Linked K.Denot V.Denot) → Fml
    pairs_own [] = ftrue
    pairs_own (n ∷ ns) = fsep (pair_owns n.at n.id n.element) (pairs_own ns)

    -- what of the ends is in no edge
    abbrev pub ends_own : Ptr → Ptr → Fml
    ends_own head tail = fsep (fsep (room_for ty_ptr (prev_of head)) (bare_owns head)) (fsep (room_for ty_ptr (next_of tail)) (bare_owns tail))

    abbrev pub list_owns : Ptr → List (Linked K.Denot V.Denot) → Ptr → Fml
    list_owns head ns tail = fsep (path head (places ns ++ tail ∷ [])) (fsep (pairs_own ns) (ends_own head tail))

    -- the spare nodes from p on, each with its id and a pointer to the next
    abbrev pub chain_owns : Ptr → List (K.Denot × Ptr) → Fml
    chain_owns p [] = ftrue
    chain_owns p (r ∷ rs) = fsep (fsep (fsep (room_for ty_ptr (prev_of p)) (lies_at RawPtr full_share (next_of p) r.1)) (empty_owns p r.0)) (chain_owns r.1 rs)

  abbrev pub pair_lent : Linked K.Denot V.Denot → Lft → Fml
  pair_lent n = beside (lent_at K (id_of n.at) n.id) (lent_at V (element_of n.at) n.element)

  abbrev pub pairs_lent : List (Linked K.Denot V.Denot) → Lft → Fml
  pairs_lent [] = nothing
  pairs_lent (n ∷ ns) = beside (pair_lent n) (pairs_lent ns)

  abbrev pub list_lent : Ptr → List (Linked K.Denot V.Denot) → Ptr → Lft → Fml
  list_lent head ns tail = beside (path_lent head (places ns ++ tail ∷ [])) (pairs_lent ns)
