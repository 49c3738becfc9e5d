-- What each step on published counts keeps of their list.
use Rattle.std.proofs.Common.{◌≡◌, ◌≤◌, ◌+◌, ◌-◌, ◌^◌, arith, min, length, ℕ, true, false, List, [], ◌∷◌, ◌++◌, refl, sym, ap, ◌∙◌, subst, inl, inr, set}
use Rattle.std.proofs.lemmas.Bool.{false≢true}
use Rattle.std.proofs.lemmas.List.{length-append}
use mathlib.Core.Option.{some}
use lib.ListN.{get_elem?}
use Rattle.crossbeam_utils.specs.Register.{Turns, Forks}
use Rattle.atomic_table.proofs.Lists.{at_set, at_snoc, set_again}
use Rattle.moka_sync_model.specs.declared.published.Published.{Published}
use Rattle.moka_guards.specs.Log.{IsChain, IsLog, IsSuffix, Known, number_after}
use Rattle.moka_sync_model.specs.Published.{opening}

-- what the first pass knows, who publishes
abbrev pub at_first : Known
at_first = record { publishes = true; seen = opening ∷ [] }

-- what a pass has told another
abbrev pub told : Known → Known
told v = record { publishes = false; seen = v.seen }

some_is : (k l : Known) → some k ≡ some l → k ≡ l
some_is k l is = cc

only_first : (i : ℕ) (k : Known) → get_elem? (at_first ∷ []) i ≡ some k → (i ≡ 0) × (k ≡ at_first)
only_first Prim.Native.Nat.zero k is = (refl, sym (some_is at_first k is))
only_first (Prim.Native.Nat.suc i) k is = absurd (cc)

-- the first pass alone
pub opens : IsLog opening (at_first ∷ [])
opens = record {
  log = opening ∷ [];
  chain = refl;
  older = [];
  newest = refl;
  seen = λ i k is. subst (λ z. IsSuffix z.seen (opening ∷ [])) (sym (only_first i k is).1) ([], refl);
  whole = λ i k is publishes. ap (λ z. z.seen) (only_first i k is).1;
  alone = λ i j k l a b p q. (only_first i k a).0 ∙ sym (only_first j l b).0;
}

-- one more on a list
longer : (next : Published) (log : List Published) → next.number ≡ number_after log → IsChain log → IsChain (next ∷ log)
longer next [] follows chain = absurd chain
longer next (newest ∷ older) follows chain = (follows, chain)

module _ (pass : ℕ) (v : Known) where
  module _ (value : Published) (views : List Known) (h : IsLog value views) (at : get_elem? views pass ≡ some v) where
    -- who publishes once this pass knows something else did so before
    before : (w : Known) → w.publishes ≡ v.publishes → (i : ℕ) (k : Known) → get_elem? (set views pass w) i ≡ some k
        → (o : Known) × (get_elem? views i ≡ some o) × (o.publishes ≡ k.publishes)
    before w same i k is =
        elim (at_set views pass i w k is) [
          | inl own ↦ (v, ap (get_elem? views) own.0 ∙ at, sym same ∙ ap (λ z. z.publishes) own.1)
          | inr other ↦ (k, other.1, refl)
        ]

    alone : (w : Known) → w.publishes ≡ v.publishes → (i j : ℕ) (k l : Known) → get_elem? (set views pass w) i ≡ some k
        → get_elem? (set views pass w) j ≡ some l → k.publishes ≡ true → l.publishes ≡ true → i ≡ j
    alone w same i j k l a b p q =
        let (o, in_o, as_k) = before w same i k a in
        let (m, in_m, as_l) = before w same j l b in
        h.alone i j o m in_o in_m (as_k ∙ p) (as_l ∙ q)

  -- a pass that looks has seen all
  pub sees : Turns IsLog pass v (λ x. x)
      (λ v x y w. (w.publishes ≡ v.publishes) × ((older : List Published) × (w.seen ≡ x ∷ older)) × IsSuffix v.seen w.seen × IsChain w.seen)
  sees value views h at =
      let w : Known = record { publishes = v.publishes; seen = h.log } in (
        w,
        record {
          log = h.log;
          chain = h.chain;
          older = h.older;
          newest = h.newest;
          seen =
              λ i k is. elim (at_set views pass i w k is) [
                | inl own ↦ subst (λ z. IsSuffix z.seen h.log) own.1 ([], refl)
                | inr other ↦ h.seen i k other.1
              ];
          whole =
              λ i k is publishes. elim (at_set views pass i w k is) [
                | inl own ↦ sym (ap (λ z. z.seen) own.1)
                | inr other ↦ h.whole i k other.1 publishes
              ];
          alone = alone value views h at w refl;
        },
        (refl, (h.older, h.newest), h.seen pass v at, h.chain),
      )

  -- who publishes puts one more on the list
  pub publishes : v.publishes ≡ true → (next : Published) → next.number ≡ number_after v.seen
      → Turns IsLog pass v (λ _. next) (λ v x y w. w ≡ record { publishes = true; seen = y ∷ v.seen })
  publishes own next follows value views h at =
      let w : Known = record { publishes = true; seen = next ∷ v.seen } in
      let all : v.seen ≡ h.log = h.whole pass v at own in (
        w,
        record {
          log = next ∷ h.log;
          chain = longer next h.log (follows ∙ ap number_after all) h.chain;
          older = h.log;
          newest = refl;
          seen =
              λ i k is. elim (at_set views pass i w k is) [
                | inl here ↦ subst (λ z. IsSuffix z.seen (next ∷ h.log)) here.1 ([], ap (λ l. next ∷ l) (sym all))
                | inr other ↦ let was = h.seen i k other.1 in (next ∷ was.0, ap (λ l. next ∷ l) was.1)
              ];
          whole =
              λ i k is publishes. elim (at_set views pass i w k is) [
                | inl here ↦ sym (ap (λ z. z.seen) here.1) ∙ ap (λ l. next ∷ l) all
                | inr other ↦ absurd (other.0 (h.alone i pass k v other.1 at publishes own))
              ];
          alone = alone value views h at w (sym own);
        },
        refl,
      )

  -- a pass tells another
  pub tells : Forks IsLog pass v v (told v)
  tells value views h at = subst (λ vs. IsLog value (vs ++ told v ∷ [])) (sym (set_again views pass v at)) (record {
    log = h.log;
    chain = h.chain;
    older = h.older;
    newest = h.newest;
    seen =
        λ i k is. elim (at_snoc views (told v) k i is) [
          | inl was ↦ h.seen i k was
          | inr new ↦ subst (λ z. IsSuffix z.seen h.log) new (h.seen pass v at)
        ];
    whole =
        λ i k is publishes. elim (at_snoc views (told v) k i is) [
          | inl was ↦ h.whole i k was publishes
          | inr new ↦ absurd (false≢true (ap (λ z. z.publishes) new ∙ publishes))
        ];
    alone =
        λ i j k l a b p q. elim (at_snoc views (told v) k i a) [
          | inl in_k ↦ elim (at_snoc views (told v) l j b) [
            | inl in_l ↦ h.alone i j k l in_k in_l p q
            | inr new ↦ absurd (false≢true (ap (λ z. z.publishes) new ∙ q))
          ]
          | inr new ↦ absurd (false≢true (ap (λ z. z.publishes) new ∙ p))
        ];
  })

-- one more than the lesser of a number and the last, if that is no more than the last
next_place : (n longer m : ℕ) → longer ≡ n + 1 → min (min n m + 1) m ≡ min longer m
next_place n longer m is = omega arith

-- the number is the place in the chain, as far as 64 bits tell
pub number_is_place : (p : Published) (older : List Published) → IsChain (p ∷ older) → p.number ≡ min (length older) (2 ^ 64 - 1)
number_is_place p [] first = ap (λ q. q.number) first
number_is_place p (o ∷ older) chain =
    chain.0 ∙ ap (λ k. min (k + 1) (2 ^ 64 - 1)) (number_is_place o older chain.1) ∙ next_place (length older) (length (o ∷ older)) (2 ^ 64 - 1) (omega arith)

-- what comes behind a list is counted beside it
later_length : {T : Type 0} (newer older : List T) (n s : T) (all : List T) → n ∷ all ≡ newer ++ s ∷ older → length all ≡ length newer + length older
later_length newer older n s all same = let both : length (n ∷ all) ≡ length newer + length (s ∷ older) = ap length same ∙ length-append newer (s ∷ older) in
    omega arith

lesser : (a b n m : ℕ) → a ≡ n + b → min a m ≤ min b m + n
lesser a b n m is = omega arith

-- a number is greater by no more than what came between
pub number_is_later : (newest seen : Published) (newer older all : List Published) → newest ∷ all ≡ newer ++ seen ∷ older → IsChain (newest ∷ all)
    → IsChain (seen ∷ older) → newest.number ≤ seen.number + length newer
number_is_later newest seen newer older all same chain of_seen =
    subst (λ k. k ≤ seen.number + length newer) (sym (number_is_place newest all chain))
    (subst (λ k. min (length all) (2 ^ 64 - 1) ≤ k + length newer) (sym (number_is_place seen older of_seen))
    (lesser (length all) (length older) (length newer) (2 ^ 64 - 1) (later_length newer older newest seen all same)))
