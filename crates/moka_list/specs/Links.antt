-- How the links of a chain are laid out, and what a call changes in them. No public clause cites this module.
use Rattle.std.specs.Prelude.{◌≡◌, ◌⊎◌, ℕ, ◌<◌, ◌≤◌, nat_eq, if◌then◌else◌, List, length, min, slice_index_or}
use Rattle.std.specs.Vec.{vec_capacity}
use Rattle.moka_list.specs.declared.chain.links.Links.{Links}
use Rattle.moka_list.specs.declared.chain.links.LinkTable.{LinkTable}
use Rattle.moka_list.specs.declared.chain.links.TheConstants.{NONE}

-- the links of a node that has no neighbours
abbrev pub APART : Links
APART = record { next = NONE; prev = NONE }

-- the links of a node; past the table's end none has any
abbrev pub links_at : List Links → ℕ → Links
links_at links id = slice_index_or links id APART

module _ {A : Type 0} where
  -- the node behind a node, or behind `NONE`
  abbrev pub next_at : LinkTable A → ℕ → ℕ
  next_at t id = if nat_eq NONE id then t.first else (links_at t.links.items id).next

  -- the node before it
  abbrev pub prev_at : LinkTable A → ℕ → ℕ
  prev_at t id = if nat_eq NONE id then t.last else (links_at t.links.items id).prev

  -- it has links, or is `NONE`
  abbrev pub IsPlace : LinkTable A → ℕ → Type 0
  IsPlace t id = (id < length t.links.items) ⊎ (NONE ≡ id)

  -- no node has the number that stands for none
  abbrev pub IsNumbered : LinkTable A → Type 0
  IsNumbered t = length t.links.items ≤ NONE

  -- how many nodes there is memory for
  abbrev pub reserved : LinkTable A → ℕ
  reserved t = min (vec_capacity t.links) NONE

  -- there may be links for more nodes, which have no neighbours yet
  pub record Lengthened (old new : LinkTable A) : Type 0 where
    pub longer : length old.links.items ≤ length new.links.items
    pub numbered : IsNumbered new
    pub next : (q : ℕ) → next_at new q ≡ next_at old q
    pub prev : (q : ℕ) → prev_at new q ≡ prev_at old q

  -- the node has no neighbours any more, and those that it had are linked to one another
  pub record Unlinked (old new : LinkTable A) (id : ℕ) : Type 0 where
    pub next : (q : ℕ) → next_at new q
        ≡ (if nat_eq id q then NONE else if nat_eq (prev_at old id) q then next_at old id else next_at old q)
    pub prev : (q : ℕ) → prev_at new q
        ≡ (if nat_eq id q then NONE else if nat_eq (next_at old id) q then prev_at old id else prev_at old q)

  -- the node is behind the one that was last
  pub record LinkedBack (old new : LinkTable A) (id : ℕ) : Type 0 where
    pub next : (q : ℕ) → next_at new q ≡ (if nat_eq old.last q then id else if nat_eq id q then NONE else next_at old q)
    pub prev : (q : ℕ) → prev_at new q ≡ (if nat_eq NONE q then id else if nat_eq id q then old.last else prev_at old q)

  -- the node is right before another, where the one was that preceded it
  pub record LinkedBefore (old new : LinkTable A) (id behind : ℕ) : Type 0 where
    pub next : (q : ℕ) → next_at new q ≡ (if nat_eq (prev_at old behind) q then id else if nat_eq id q then behind else next_at old q)
    pub prev : (q : ℕ) → prev_at new q ≡ (if nat_eq behind q then id else if nat_eq id q then prev_at old behind else prev_at old q)
