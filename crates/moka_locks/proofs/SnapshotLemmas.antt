-- A snapshot grows by the pairs of a shard.
use Rattle.std.proofs.Common.{◌≡◌, ◌<◌, ◌+◌, ℕ, true, false, List, [], ◌∷◌, ◌++◌}
use Rattle.std.proofs.Common.{map, ap, arith, refl, subst, suc, Result, Ok, Err, IfOk, OnOk}
use Rattle.std.specs.List.{All, AllByRecursion, IsDistinct}
use Rattle.std.proofs.lemmas.Bool.{false_from_ne_true}
use Rattle.std.proofs.lemmas.List.Elements.{All-append, All-from_recursion, All-nil, recursion_from_All}
use Rattle.std.specs.Cmp.{IsEquivalence}
use Rattle.moka_row.specs.Visits.{guest, newcomer}
use Rattle.moka_history.specs.Steps.{Copies}
use Rattle.moka_locks.proofs.TellLemmas.{copies}
use Rattle.moka_common.specs.Keys.{Keys}
use Rattle.moka_locks.specs.Cache.{Plan}
use Rattle.moka_sync_model.specs.Ticket.{shard_of}
use Rattle.moka_shard.specs.Rule.{PairsMeet}
use Rattle.moka_locks.specs.History.{Knows, Makes, place_of}
use Rattle.moka_locks.specs.Snapshot.{AreCopies, CopiesShard, IsSnapshot}

-- what follows from an answer's clause
pub on_ok : {T E X Y : Type 0} (answer : Result T E) → OnOk answer X → (X → Y) → OnOk answer Y
on_ok (Ok t) holds follows = follows holds
on_ok (Err e) holds follows = tt

module _ {K V S : Type 0} (keys : Keys K S) (plan : Plan S) (now : ℕ) (holds : K → V → Type 0)
    (respects : (key other : K) → keys.eq key other ≡ true → keys.hash_of plan.settings.hash_state key ≡ keys.hash_of plan.settings.hash_state other) where
  -- the key of a pair
  abbrev key_of : K × V → K
  key_of p = p.0

  -- the pair is of this shard, or of one below it
  abbrev IsHere : ℕ → K × V → Type 0
  IsHere number p = place_of keys plan.settings p.0 ≡ number

  abbrev IsBelow : ℕ → K × V → Type 0
  IsBelow number p = place_of keys plan.settings p.0 < number

  -- keys of two shards are not equal
  apart : (number : ℕ) (p q : K × V) → IsBelow number p → IsHere number q → keys.eq p.0 q.0 ≡ false
  apart number p q below here =
      false_from_ne_true (keys.eq p.0 q.0)
      (λ same.
      let shards : place_of keys plan.settings p.0 ≡ place_of keys plan.settings q.0 = ap shard_of (respects p.0 q.0 same) in
      omega (arith, below, here, shards))

  none_here : (number : ℕ) (p : K × V) (qs : List (K × V)) → IsBelow number p → AllByRecursion (IsHere number) qs
      → AllByRecursion (λ k. keys.eq p.0 k ≡ false) (map key_of qs)
  none_here number p [] below here = tt
  none_here number p (q ∷ qs) below (first, rest) = (apart number p q below first, none_here number p qs below rest)

  both : (P : K → Type 0) (ps qs : List (K × V)) → AllByRecursion P (map key_of ps) → AllByRecursion P (map key_of qs)
      → AllByRecursion P (map key_of (ps ++ qs))
  both P [] qs before here = here
  both P (p ∷ ps) qs (first, rest) here = (first, both P ps qs rest here)

  joined : (number : ℕ) (ps qs : List (K × V)) → IsDistinct keys.eq (map key_of ps) → IsDistinct keys.eq (map key_of qs)
      → AllByRecursion (IsBelow number) ps → AllByRecursion (IsHere number) qs → IsDistinct keys.eq (map key_of (ps ++ qs))
  unfolding IsDistinct
  joined number [] qs before once below here = once
  joined number (p ∷ ps) qs (first, before) once (low, below) here = (
    both (λ k. keys.eq p.0 k ≡ false) ps qs first (none_here number p qs low here),
    joined number ps qs before once below here,
  )

  lower : (number : ℕ) (ps : List (K × V)) → AllByRecursion (IsBelow number) ps → AllByRecursion (IsBelow (number + 1)) ps
  lower number [] below = tt
  lower number (p ∷ ps) (first, rest) = (omega (arith, first), lower number ps rest)

  low : (number : ℕ) (qs : List (K × V)) → AllByRecursion (IsHere number) qs → AllByRecursion (IsBelow (number + 1)) qs
  low number [] here = tt
  low number (q ∷ qs) (first, rest) = (omega (arith, first), low number qs rest)

  -- the pairs of the next shard are added
  pub with_shard : (number : ℕ) (pairs copied : List (K × V)) → IsSnapshot keys plan now holds number pairs → PairsMeet holds copied
      → IsDistinct keys.eq (map key_of copied) → All (IsHere number) copied → CopiesShard keys plan now number copied
      → IsSnapshot keys plan now holds (number + 1) (pairs ++ copied)
  with_shard number pairs copied was ruled once own visit =
      let before = recursion_from_All (IsBelow number) pairs was.below in
      let here = recursion_from_All (IsHere number) copied own in
      let next : suc number ≡ number + 1 = omega arith in
      record {
        copies = subst (λ n. AreCopies keys plan now n (pairs ++ copied)) next (pairs, copied, refl, visit, was.copies);
        ruled = All-append (λ p. holds p.0 p.1) pairs copied was.ruled ruled;
        once = joined number pairs copied was.once once before here;
        below = All-append (IsBelow (number + 1)) pairs copied (All-from_recursion (IsBelow (number + 1)) pairs (lower number pairs before))
            (All-from_recursion (IsBelow (number + 1)) copied (low number copied here));
      }

  -- there is none at first
  pub no_shard : IsSnapshot keys plan now holds 0 []
  unfolding IsDistinct
  no_shard = record { copies = refl; ruled = All-nil (λ p. holds p.0 p.1); once = tt; below = All-nil (IsBelow 0) }

-- what a guest copied of a shard, by the plan of the cache
module _ {K V S : Type 0} (keys : Keys K S) (laws : IsEquivalence keys.eq) where
  pub by_guest : {X E : Type 0} (items : X → List (K × V)) (r : Result X E) (p plan : Plan S) (v w : Knows K V S) (seat i now : ℕ) → p ≡ plan
      → v ≡ newcomer p (guest seat) → IfOk r (λ x. (valid_after : ℕ) × Makes keys p.settings v i (Copies now valid_after (items x)) w)
      → IfOk r (λ x. CopiesShard keys plan now i (items x))
  by_guest items (Err e) p plan v w seat i now same new made = tt
  by_guest items (Ok x) p plan v w seat i now same new (valid_after, made) =
      let here : Makes keys plan.settings (newcomer plan (guest seat)) i (Copies now valid_after (items x)) w =
      subst (λ (z : Plan S). Makes keys z.settings (newcomer z (guest seat)) i (Copies now valid_after (items x)) w) same
      (subst (λ (z : Knows K V S). Makes keys p.settings z i (Copies now valid_after (items x)) w) new made) in
      (seat, w, (valid_after, here, copies keys laws plan.settings here))
