-- The first element that passes a test, in a list that grows or changes at one place.
use Rattle.std.proofs.Common.{◌≡◌, ℕ, suc, ◌+◌, ◌<◌, Bool, true, false, cond, List, [], ◌∷◌, ◌++◌, length, get_or, take, drop, Option, Some}
use Rattle.std.proofs.Common.{None, refl, sym, ◌∙◌, ap}
use Rattle.std.proofs.Math.ListN.{set}
use Rattle.std.proofs.Math.Seq.{drop-cons}
use Rattle.std.specs.List.{find}
use Rattle.std.specs.Option.{option_or}
use Rattle.std.proofs.lemmas.List.{take_more, take-append-drop, set_split}
use Rattle.std.proofs.lemmas.List.Folds.{find-append}

-- the list round the place of an element
pub split_at_place : {X : Type 0} (xs : List X) (i : ℕ) (x : X) → i < length xs → x ≡ get_or xs i x → xs ≡ take i xs ++ x ∷ drop (suc i) xs
split_at_place xs i x below read =
    sym (take-append-drop i xs) ∙ ap (λ ys. take i xs ++ ys) (drop-cons xs i x below ∙ ap (λ y. y ∷ drop (suc i) xs) (sym read))

option_or-none : {X : Type 0} (o : Option X) → option_or o None ≡ o
option_or-none None = refl
option_or-none (Some x) = refl

module _ {X : Type 0} (p : X → Bool) where
  -- behind elements of which none passes, the next decides
  pub find-behind : (xs : List X) (y : X) (ys : List X) → find p xs ≡ None → find p (xs ++ y ∷ ys) ≡ cond (p y) (Some y) (find p ys)
  find-behind xs y ys none = rw (find-append, none) refl

  -- one more element that fails
  pub find-take_more : (xs : List X) (i : ℕ) (x : X) → i < length xs → x ≡ get_or xs i x → p x ≡ false → find p (take i xs) ≡ None
      → find p (take (i + 1) xs) ≡ None
  find-take_more xs i x below read fails none =
      ap (find p) (take_more xs i x below) ∙ find-behind (take i xs) (get_or xs i x) [] none ∙ (rw (← read, fails) refl)

  -- the first that passes, where it stands
  pub find-at : (xs : List X) (i : ℕ) (x : X) → i < length xs → x ≡ get_or xs i x → p x ≡ true → find p (take i xs) ≡ None
      → find p xs ≡ Some x
  find-at xs i x below read passes none =
      ap (find p) (split_at_place xs i x below read) ∙ find-behind (take i xs) x (drop (suc i) xs) none ∙ (rw passes refl)

  -- another element in its place, which passes too
  pub find-set_hit : (xs : List X) (i : ℕ) (y : X) → i < length xs → p y ≡ true → find p (take i xs) ≡ None → find p (set xs i y) ≡ Some y
  find-set_hit xs i y below passes none =
      ap (find p) (set_split xs i y below) ∙ find-behind (take i xs) y (drop (suc i) xs) none ∙ (rw passes refl)

  -- an element that fails, in the place of one that fails
  pub find-set_miss : (xs : List X) (i : ℕ) (x y : X) → i < length xs → x ≡ get_or xs i x → p x ≡ false → p y ≡ false
      → find p (set xs i y) ≡ find p xs
  find-set_miss xs i x y below read fails fails' =
      let after : find p (set xs i y) ≡ find p (take i xs ++ y ∷ drop (suc i) xs) = ap (find p) (set_split xs i y below) in
      let before : find p xs ≡ find p (take i xs ++ x ∷ drop (suc i) xs) = ap (find p) (split_at_place xs i x below read) in
      rw (after, before, find-append, fails', find-append, fails) refl

  -- an element that fails, behind the others
  pub find-push_miss : (xs : List X) (y : X) → p y ≡ false → find p (xs ++ y ∷ []) ≡ find p xs
  find-push_miss [] y fails = rw fails refl
  find-push_miss (x ∷ xs) y fails = rw (find-push_miss xs y fails) refl

  -- lists of which one has none that passes
  pub find-none_before : (xs ys : List X) → find p xs ≡ None → find p (xs ++ ys) ≡ find p ys
  find-none_before xs ys none = rw (find-append, none) refl

  pub find-none_behind : (xs ys : List X) → find p ys ≡ None → find p (xs ++ ys) ≡ find p xs
  find-none_behind xs ys none = rw (find-append, none) (option_or-none (find p xs))

  -- two tests that agree
  pub find-agree : (q : X → Bool) → ((x : X) → p x ≡ q x) → (xs : List X) → find p xs ≡ find q xs
  find-agree q same [] = refl
  find-agree q same (x ∷ xs) = rw (same x, find-agree q same xs) refl
