-- An admission between whose turns nothing comes is that of the policy.
use Rattle.std.proofs.Common.{◌≡◌, ◌⊎◌, ℕ, suc, zero, ◌+◌, ◌-◌, ◌≤◌, ◌<◌, Bool, true, false, ◌||◌, cond, List, [], ◌∷◌, Option, Some}
use Rattle.std.proofs.Common.{None, refl, sym, ◌∙◌, ap, arith, inl, inr, ltb, leb}
use Rattle.std.specs.List.{sum_by}
use Rattle.std.specs.Option.{option_map}
use Rattle.std.proofs.lemmas.Bool.{cases_Bool, false≢true, or_parts, or_cases, ltb-true, leb-true, leb-false, le-ltb, lt-leb}
use Rattle.std.proofs.lemmas.List.Sums.{sum_by-cons}
use Rattle.moka_common.specs.Prefix.{shortest_prefix}
use Rattle.moka_sync_model.specs.declared.constants.TheConstants.{MAX_ABSENT}
use Rattle.moka_sync_model.specs.Orders.{Node}
use Rattle.moka_sync_model.specs.declared.progress.Candidate.{Candidate}
use Rattle.moka_sync_model.specs.declared.progress.Tally.{Tally}
use Rattle.moka_sync_model.specs.Turn.Admission.{is_decided, is_admitted}

-- the front that the scan comes to from what it has found, or nothing where it rejects
module _ (weight est : Node → ℕ) (c : Candidate) where
  abbrev pub chosen : Tally → Option (List Node) → Option (List Node)
  chosen tally None = None
  chosen tally (Some front) = cond (ltb (tally.estimate + sum_by est front) c.estimate) (Some front) None

  abbrev pub chosen_from : Tally → List Node → Option (List Node)
  chosen_from tally rest = chosen tally (shortest_prefix weight (c.weight - tally.weight) rest)

  -- one node more found
  abbrev pub with_found : Tally → Node → Tally
  with_found tally n = record { weight = tally.weight + weight n; estimate = tally.estimate + est n; absent = 0 }

  prefix_zero : (k : ℕ) (ns : List Node) → k ≡ 0 → shortest_prefix weight k ns ≡ Some []
  prefix_zero zero ns is = refl
  prefix_zero (suc k) ns is = absurd (omega (arith, is))

  prefix_cons : (k l : ℕ) (n : Node) (ns : List Node) → 0 < k → l ≡ k - weight n
      → shortest_prefix weight k (n ∷ ns) ≡ option_map (λ f. n ∷ f) (shortest_prefix weight l ns)
  prefix_cons zero l n ns pos is = absurd (omega (arith, pos))
  prefix_cons (suc k) l n ns pos is = ap (λ j. option_map (λ f. n ∷ f) (shortest_prefix weight j ns)) (sym is)

  prefix_none : (k : ℕ) → 0 < k → shortest_prefix weight k [] ≡ None
  prefix_none zero pos = absurd (omega (arith, pos))
  prefix_none (suc k) pos = refl

  -- where nothing is left, or enough is found, the verdict decides
  pub chosen_here : (tally : Tally) (ns : List Node) → (is_decided c tally ≡ true) ⊎ (ns ≡ []) → tally.absent ≡ 0
      → chosen_from tally ns ≡ cond (is_admitted c tally) (Some []) None
  chosen_here tally ns ends present = by (cases_Bool (leb c.weight tally.weight))
    where
      out : c.estimate ≤ tally.estimate → (o : Option (List Node)) → chosen tally o ≡ None
      out less None = refl
      out less (Some front) =
          let no_more : ltb (tally.estimate + sum_by est front) c.estimate ≡ false =
          le-ltb (tally.estimate + sum_by est front) c.estimate (omega (arith, less)) in rw no_more

      by : (leb c.weight tally.weight ≡ true) ⊎ (leb c.weight tally.weight ≡ false)
          → chosen_from tally ns ≡ cond (is_admitted c tally) (Some []) None
      by (inl enough) =
          let none_left : c.weight - tally.weight ≡ 0 = omega (arith, leb-true c.weight tally.weight enough) in
          let sum : tally.estimate + sum_by est [] ≡ tally.estimate = omega arith in
          ap (chosen tally) (prefix_zero (c.weight - tally.weight) ns none_left) ∙ rw (sum, enough) refl
      by (inr short) = light ends
        where
          lacks : 0 < c.weight - tally.weight
          lacks = omega (arith, leb-false c.weight tally.weight short)

          light : (is_decided c tally ≡ true) ⊎ (ns ≡ []) → chosen_from tally ns ≡ cond (is_admitted c tally) (Some []) None
          light (inr none) = ap (chosen_from tally) none ∙ ap (chosen tally) (prefix_none (c.weight - tally.weight) lacks) ∙ rw short refl
          light (inl decided) =
              let used_more : ltb c.estimate tally.estimate ≡ true = or_last in
              out (omega (arith, ltb-true c.estimate tally.estimate used_more)) (shortest_prefix weight (c.weight - tally.weight) ns)
              ∙ rw short refl
            where
              few : leb MAX_ABSENT tally.absent ≡ false
              few = lt-leb MAX_ABSENT tally.absent (omega (arith, present))

              or_last : ltb c.estimate tally.estimate ≡ true
              or_last =
                  by_parts (or_cases (leb c.weight tally.weight || ltb c.estimate tally.estimate) (leb MAX_ABSENT tally.absent) decided)
                where
                  by_parts : ((leb c.weight tally.weight || ltb c.estimate tally.estimate) ≡ true) ⊎ (leb MAX_ABSENT tally.absent ≡ true)
                      → ltb c.estimate tally.estimate ≡ true
                  by_parts (inl first) = rw short at first
                  by_parts (inr many) = absurd (false≢true (sym few ∙ many))

  -- else the next node belongs to it
  pub chosen_more : (tally : Tally) (n : Node) (ns : List Node) → is_decided c tally ≡ false
      → chosen_from tally (n ∷ ns) ≡ option_map (λ f. n ∷ f) (chosen_from (with_found tally n) ns)
  chosen_more tally n ns undecided =
      ap (chosen tally) (prefix_cons (c.weight - tally.weight) (c.weight - (tally.weight + weight n)) n ns lacks (omega arith))
      ∙ by (shortest_prefix weight (c.weight - (tally.weight + weight n)) ns)
    where
      lacks : 0 < c.weight - tally.weight
      lacks =
          let first = (or_parts (leb c.weight tally.weight || ltb c.estimate tally.estimate) (leb MAX_ABSENT tally.absent) undecided).0 in
          let short = (or_parts (leb c.weight tally.weight) (ltb c.estimate tally.estimate) first).0 in
          omega (arith, leb-false c.weight tally.weight short)

      by : (o : Option (List Node)) → chosen tally (option_map (λ f. n ∷ f) o) ≡ option_map (λ f. n ∷ f) (chosen (with_found tally n) o)
      by None = refl
      by (Some front) =
          let same : tally.estimate + sum_by est (n ∷ front) ≡ (tally.estimate + est n) + sum_by est front =
          omega (arith, sum_by-cons est n front) in
          rw same (pick (ltb ((tally.estimate + est n) + sum_by est front) c.estimate))
        where
          pick : (b : Bool) → cond b (Some (n ∷ front)) None ≡ option_map (λ f. n ∷ f) (cond b (Some front) None)
          pick true = refl
          pick false = refl
