-- What tells one stay of a key in the map from another, and lists of things that have a ticket.
use Rattle.std.specs.Prelude.{◌≤◌, ℕ, ◌%◌, ◌==◌, ◌&&◌, not, Bool, List, ◌++◌, count_by, map, filter, slice_index, Option, if◌then◌else◌}
use Rattle.std.specs.List.{find}
use Rattle.moka_sync_model.specs.declared.constants.TheConstants.{SHARDS}
use Rattle.moka_sync_model.specs.declared.ticket.Ticket.{Ticket}

-- the shard that a hash belongs to
abbrev pub shard_of : ℕ → ℕ
shard_of hash = hash % SHARDS

-- the ticket is still to be given out, where these are the shards' next numbers
abbrev pub IsToCome : List ℕ → Ticket → Type 0
IsToCome numbers t = slice_index numbers (shard_of t.hash) ≤ t.number

-- whether two tickets are one
abbrev pub same_ticket : Ticket → Ticket → Bool
same_ticket t u = (t.hash == u.hash) && (t.number == u.number)

module _ {X : Type 0} (ticket_of : X → Ticket) where
  -- the one of the ticket
  abbrev pub of_ticket : Ticket → List X → Option X
  of_ticket t xs = find (λ x. same_ticket t (ticket_of x)) xs

  -- those of other tickets
  abbrev pub without : Ticket → List X → List X
  without t xs = filter (λ x. not (same_ticket t (ticket_of x))) xs

  -- the one of the ticket behind all others
  abbrev pub moved_to_back : Ticket → List X → List X
  moved_to_back t xs = without t xs ++ filter (λ x. same_ticket t (ticket_of x)) xs

  -- the one of the ticket is changed in its place
  abbrev pub changed : Ticket → (X → X) → List X → List X
  changed t change xs = map (λ x. if same_ticket t (ticket_of x) then change x else x) xs

  -- each ticket comes at most once
  abbrev pub AreApart : List X → Type 0
  AreApart xs = (t : Ticket) → count_by (λ x. same_ticket t (ticket_of x)) xs ≤ 1
