-- How a list of ids is laid out in links. No public clause cites this module.
use Rattle.std.specs.Prelude.{ℕ, zero, suc, ◌<◌, nat_eq, List, [], ◌∷◌, map, length, ⊤}
use Rattle.std.specs.Map.{lookup}
use Rattle.moka_list.specs.declared.chain.links.LinkTable.{LinkTable}
use Rattle.moka_list.specs.Chained.{IsThreaded}
use Rattle.moka_list.specs.Nodes.{IsIn}
use Rattle.moka_list.specs.Links.{IsNumbered, next_at, prev_at}

-- ids as nodes with nothing in them
abbrev pub marked : List ℕ → List (ℕ × ⊤)
marked ids = map (λ id. (id, tt)) ids

module _ {A : Type 0} (links : LinkTable A) where
  -- so many ids from this one on
  abbrev pub walk_ids : ℕ → ℕ → List ℕ
  walk_ids zero id = []
  walk_ids (suc left) id = id ∷ walk_ids left (next_at links id)

  -- so many from the first on
  abbrev pub ids_of : ℕ → List ℕ
  ids_of len = walk_ids len links.first

  -- the ids are linked in this order, and each has links
  pub record IsListing (ids : List ℕ) : Type 0 where
    pub threaded : IsThreaded (λ id. lookup (nat_eq id) (marked ids)) (next_at links) (prev_at links) (marked ids)
    pub linked : (id : ℕ) → IsIn (marked ids) id → id < length links.links.items
    pub numbered : IsNumbered links
