-- The nodes of a list as their memory shows them: where each lies, its id and its element. No public clause cites this module.
use Rattle.std.specs.Prelude.{◌≡◌, cond, List, [], ◌∷◌, ◌++◌, map, refl}
use Rattle.lru.specs.Linked.{same_ptr}
use denote.RawPtr.{Ptr}

-- a node of the list
pub record Linked (K V : Type 0) : Type 0 where
  pub at : Ptr
  pub id : K
  pub element : V

module _ {K V : Type 0} where
  abbrev pub linked : Ptr → K → V → Linked K V
  linked at id element = record { at = at; id = id; element = element }

  -- where the nodes lie
  abbrev pub places : List (Linked K V) → List Ptr
  places = map (λ n. n.at)

  -- their ids and elements
  abbrev pub pairs : List (Linked K V) → List (K × V)
  pairs = map (λ n. (n.id, n.element))

  -- all places in the order of the links, from the block before the first node to that behind the last
  abbrev pub ring : Ptr → List (Linked K V) → Ptr → List Ptr
  ring head ns tail = head ∷ (places ns ++ tail ∷ [])

  -- some node lies at p
  abbrev pub IsAt : List (Linked K V) → Ptr → Type 0
  IsAt ns p = (before : List (Linked K V)) × (n : Linked K V) × (behind : List (Linked K V)) × (ns ≡ before ++ n ∷ behind) × (n.at ≡ p)

  -- of the node that lies at p, and of those before and behind it, this holds
  abbrev pub AtNode : List (Linked K V) → Ptr → (List (Linked K V) → Linked K V → List (Linked K V) → Type 0) → Type 0
  AtNode ns p Holds =
      (before : List (Linked K V)) (n : Linked K V) (behind : List (Linked K V)) → ns ≡ before ++ n ∷ behind → n.at ≡ p → Holds before n behind

  -- the nodes with another element in the one at p
  unfoldable pub set_element : Ptr → V → List (Linked K V) → List (Linked K V)
  set_element p element [] = []
  set_element p element (n ∷ ns) = linked n.at n.id (cond (same_ptr n.at p) element n.element) ∷ set_element p element ns

  pub places-set_element : (p : Ptr) (element : V) (ns : List (Linked K V)) → places (set_element p element ns) ≡ places ns
  unfolding set_element
  places-set_element p element [] = refl
  places-set_element p element (n ∷ ns) = λ i. n.at ∷ places-set_element p element ns i

-- the spare nodes, of which the first lies at p: where each lies, and its id
abbrev pub spares : {K : Type 0} → Ptr → List (K × Ptr) → List (Ptr × K)
spares p [] = []
spares p (r ∷ rs) = (p, r.0) ∷ spares r.1 rs
