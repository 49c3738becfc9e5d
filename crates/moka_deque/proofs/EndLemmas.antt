-- What the pointers of a list's ends lead to.
use Rattle.std.proofs.Common.{◌≡◌, ℕ, ◌<◌, List, [], ◌∷◌, ◌++◌, length, refl, sym, ap, subst, arith}
use denote.RawPtr.{Ptr}
use Rattle.lru.specs.Linked.{HasNext, HasPrev}
use Rattle.moka_deque.specs.RawNodes.{Linked as Node, places, ring}
use Rattle.moka_deque.proofs.RawApart.{places_cut}

module _ {T : Type 0} where
  pub cut_front : (ns : List (Node ℕ T)) → 0 < length ns → (n : Node ℕ T) × (rest : List (Node ℕ T)) × (ns ≡ n ∷ rest)
  cut_front [] h = absurd (omega arith)
  cut_front (n ∷ rest) h = (n, rest, refl)

  pub cut_back : (ns : List (Node ℕ T)) → 0 < length ns → (rest : List (Node ℕ T)) × (n : Node ℕ T) × (ns ≡ rest ++ n ∷ [])
  cut_back [] h = absurd (omega arith)
  cut_back (n ∷ []) h = ([], n, refl)
  cut_back (n ∷ m ∷ rest) h = let on = cut_back (m ∷ rest) (omega arith) in (n ∷ on.0, on.1, ap (λ l. n ∷ l) on.2)

  pub ring_front : (p head tail : Ptr) (ns : List (Node ℕ T)) (n : Node ℕ T) (rest : List (Node ℕ T)) → p ≡ head → ns ≡ n ∷ rest
      → HasNext (ring head ns tail) p n.at
  ring_front p head tail ns n rest e cut =
      subst (λ l. HasNext (ring head l tail) p n.at) (sym cut) (subst (λ h. HasNext (ring h (n ∷ rest) tail) p n.at) e ([], places rest ++ tail ∷ [], refl))

  pub ring_back : (p head tail : Ptr) (ns rest : List (Node ℕ T)) (n : Node ℕ T) → p ≡ tail → ns ≡ rest ++ n ∷ [] → HasPrev (ring head ns tail) p n.at
  ring_back p head tail ns rest n e cut =
      subst (λ l. HasPrev (ring head l tail) p n.at) (sym cut) (subst (λ t. HasPrev (ring head (rest ++ n ∷ []) t) p n.at) e
      (head ∷ places rest, [], ap (λ l. head ∷ l) (places_cut rest n [] p)))

  pub ring_after : (head tail : Ptr) (ns xs : List (Node ℕ T)) (n m : Node ℕ T) (ys : List (Node ℕ T)) → ns ≡ xs ++ n ∷ m ∷ ys
      → HasNext (ring head ns tail) n.at m.at
  ring_after head tail ns xs n m ys cut =
      subst (λ l. HasNext (ring head l tail) n.at m.at) (sym cut) (head ∷ places xs, places ys ++ tail ∷ [], ap (λ l. head ∷ l) (places_cut xs n (m ∷ ys) tail))
