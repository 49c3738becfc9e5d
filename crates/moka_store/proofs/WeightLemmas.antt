-- Lemmas on what the nodes of some parts weigh.
use Rattle.std.proofs.Common.{◌≡◌, ◌<◌, ◌≤◌, ◌+◌, ◌-◌, ◌*◌, ◌^◌, ℕ, suc, Bool, true, false, cond, filter, nat_eq, List, [], ◌∷◌, length, Some}
use Rattle.std.proofs.Common.{refl, sym, ap, ◌∙◌, inl, inr, arith, subst}
use Rattle.std.proofs.lemmas.Bool.{cases_Bool, cond-true}
use Rattle.std.proofs.lemmas.List.Sums.{sum_by-cons}
use Rattle.std.specs.List.{AllByRecursion}
use Rattle.std.specs.Map.{lookup, remove_entry, values_of}
use Rattle.moka_unsync_model.specs.declared.entry.Entry.{Entry}
use Rattle.moka_unsync_model.specs.declared.entry.Part.{Part}
use Rattle.moka_unsync_model.specs.Contents.{is_protected, is_window, total_weight}
use Rattle.moka_store.specs.declared.parts.Weights.{Weights}
use Rattle.moka_store.specs.Nodes.{is_any, latest_node, share, weight_in, weights_of}
use Rattle.moka_list.proofs.ItemLemmas.{lookup-other, remove-other, remove-same}
use Rattle.moka_list.proofs.IdLemmas.{not_none, some_parts}
use Rattle.moka_store.proofs.LatestLemmas.{sum-latest}

-- a share is no more than all
pub share-part : (b : Bool) (w : ℕ) → share b w ≤ w
share-part true w = grind (arith)
share-part false w = grind (arith)

module _ {K V : Type 0} (test : Part → Bool) where
  -- what a node weighs of these parts
  abbrev pub of_it : Entry K V → ℕ
  of_it e = share (test e.part) e.weight

  weight-cons : (p : ℕ × Entry K V) (nodes : List (ℕ × Entry K V)) → weight_in test (p ∷ nodes) ≡ of_it p.1 + weight_in test nodes
  weight-cons p nodes = sum_by-cons (λ p. of_it p.1) p nodes

  -- a node more
  pub weight-latest : (p : ℕ × Entry K V) (nodes : List (ℕ × Entry K V))
      → weight_in test (latest_node p nodes) ≡ weight_in test nodes + of_it p.1
  weight-latest p nodes = sum-latest (λ p. of_it p.1) p nodes

  -- a node less
  pub weight-removed : (id : ℕ) (e : Entry K V) (nodes : List (ℕ × Entry K V)) → lookup (nat_eq id) nodes ≡ Some e
      → weight_in test (remove_entry (nat_eq id) nodes) + of_it e ≡ weight_in test nodes
  weight-removed id e [] h = not_none e (sym h)
  weight-removed id e (p ∷ nodes) h =
      elim (cases_Bool (nat_eq id p.0)) [
        | inl same ↦
            let is : p.1 ≡ e = some_parts p.1 e (sym (cond-true (nat_eq id p.0) (Some p.1) (lookup (nat_eq id) nodes) same) ∙ h) in
            grind (arith, ap (weight_in test) (remove-same id p nodes same), weight-cons p nodes, ap of_it is)
        | inr other ↦
            grind (
              arith,
              ap (weight_in test) (remove-other id p nodes other),
              weight-cons p (remove_entry (nat_eq id) nodes),
              weight-cons p nodes,
              weight-removed id e nodes (sym (lookup-other id p nodes other) ∙ h),
            )
      ]

  -- it is what their entries weigh
  pub weight-values : (nodes : List (ℕ × Entry K V)) → weight_in test nodes ≡ total_weight (filter (λ e. test e.part) (values_of nodes))
  weight-values [] = refl
  weight-values (p ∷ nodes) = weight-cons p nodes ∙ by (test p.1.part) (weight-values nodes)
    where
      those : List (Entry K V)
      those = filter (λ e. test e.part) (values_of nodes)

      by : (b : Bool) → weight_in test nodes ≡ total_weight those
          → share b p.1.weight + weight_in test nodes ≡ total_weight (cond b (p.1 ∷ those) those)
      by true rest = grind (arith, rest, sum_by-cons (λ e. e.weight) p.1 those)
      by false rest = grind (arith, rest)

  -- at most what all weigh
  pub weight-part : (nodes : List (ℕ × Entry K V)) → weight_in test nodes ≤ total_weight (values_of nodes)
  weight-part [] = grind (arith)
  weight-part (p ∷ nodes) =
      grind (
        arith,
        weight-cons p nodes,
        sum_by-cons (λ e. e.weight) p.1 (values_of nodes),
        share-part (test p.1.part) p.1.weight,
        weight-part nodes,
      )

module _ {K V : Type 0} where
  -- all of them weigh what all entries do
  pub weight-all : (nodes : List (ℕ × Entry K V)) → weight_in is_any nodes ≡ total_weight (values_of nodes)
  weight-all [] = refl
  weight-all (p ∷ nodes) =
      weight-cons is_any p nodes
      ∙ (ap (λ m. p.1.weight + m) (weight-all nodes) ∙ sym (sum_by-cons (λ e. e.weight) p.1 (values_of nodes)))

  -- which is no more than as many weights can come to
  pub weight-bound : (nodes : List (ℕ × Entry K V)) → AllByRecursion (λ p. p.1.weight < 2 ^ 32) nodes
      → total_weight (values_of nodes) ≤ length nodes * (2 ^ 32 - 1)
  weight-bound [] a = grind (arith)
  weight-bound (p ∷ nodes) a =
      by (total_weight (values_of nodes)) (length nodes) (weight-bound nodes a.1) a.0 (sum_by-cons (λ e. e.weight) p.1 (values_of nodes))
    where
      by : (t n : ℕ) → t ≤ n * (2 ^ 32 - 1) → p.1.weight < 2 ^ 32 → total_weight (values_of (p ∷ nodes)) ≡ p.1.weight + t
          → total_weight (values_of (p ∷ nodes)) ≤ suc n * (2 ^ 32 - 1)
      by t n h small is = grind (arith, h, small, is)

  -- fewer than 2^32 weights leave room for one more
  pub weight-small : (nodes : List (ℕ × Entry K V)) → length nodes < 2 ^ 32 → AllByRecursion (λ p. p.1.weight < 2 ^ 32) nodes
      → weight_in is_any nodes + (2 ^ 32 - 1) < 2 ^ 64
  weight-small nodes few small =
      by (weight_in is_any nodes) (length nodes) (subst (λ t. t ≤ length nodes * (2 ^ 32 - 1)) (sym (weight-all nodes)) (weight-bound nodes small)) few
    where
      by : (t n : ℕ) → t ≤ n * (2 ^ 32 - 1) → n < 2 ^ 32 → t + (2 ^ 32 - 1) < 2 ^ 64
      by t n h few = omega (arith, h, few)

  -- ---- what is kept of weights

  module _ (weights : Weights) (id : ℕ) (e : Entry K V) (nodes : List (ℕ × Entry K V)) (is : weights ≡ weights_of nodes)
      (stood : lookup (nat_eq id) nodes ≡ Some e) where
    -- a node's share is in them
    pub share_all : e.weight ≤ weights.all
    share_all = grind (arith, ap (λ w. w.all) is, weight-removed is_any id e nodes stood)

    pub share_protected : share (is_protected e.part) e.weight ≤ weights.protected
    share_protected = grind (arith, ap (λ w. w.protected) is, weight-removed is_protected id e nodes stood)

    pub share_window : share (is_window e.part) e.weight ≤ weights.window
    share_window = grind (arith, ap (λ w. w.window) is, weight-removed is_window id e nodes stood)

    -- those without it
    pub weights-removed : (new : Weights) → new ≡ record {
      all = weights.all - e.weight;
      protected = weights.protected - share (is_protected e.part) e.weight;
      window = weights.window - share (is_window e.part) e.weight;
    } → new ≡ weights_of (remove_entry (nat_eq id) nodes)
    weights-removed new new_is =
        new_is ∙ (λ i. record {
          all = less is_any weights.all e.weight refl (ap (λ w. w.all) is) i;
          protected = less is_protected weights.protected (share (is_protected e.part) e.weight) refl (ap (λ w. w.protected) is) i;
          window = less is_window weights.window (share (is_window e.part) e.weight) refl (ap (λ w. w.window) is) i;
        })
      where
        less : (test : Part → Bool) (t s : ℕ) → s ≡ share (test e.part) e.weight → t ≡ weight_in test nodes
            → t - s ≡ weight_in test (remove_entry (nat_eq id) nodes)
        less test t s s_is t_is = grind (arith, s_is, t_is, weight-removed test id e nodes stood)

  -- those with one more
  pub weights-latest : (weights : Weights) (p : ℕ × Entry K V) (nodes : List (ℕ × Entry K V)) → weights ≡ weights_of nodes
      → (new : Weights) → new ≡ record {
        all = weights.all + p.1.weight;
        protected = weights.protected + share (is_protected p.1.part) p.1.weight;
        window = weights.window + share (is_window p.1.part) p.1.weight;
      } → new ≡ weights_of (latest_node p nodes)
  weights-latest weights p nodes is new new_is =
      new_is ∙ (λ i. record {
        all = more is_any weights.all p.1.weight refl (ap (λ w. w.all) is) i;
        protected = more is_protected weights.protected (share (is_protected p.1.part) p.1.weight) refl (ap (λ w. w.protected) is) i;
        window = more is_window weights.window (share (is_window p.1.part) p.1.weight) refl (ap (λ w. w.window) is) i;
      })
    where
      more : (test : Part → Bool) (t s : ℕ) → s ≡ share (test p.1.part) p.1.weight → t ≡ weight_in test nodes
          → t + s ≡ weight_in test (latest_node p nodes)
      more test t s s_is t_is = grind (arith, s_is, t_is, weight-latest test p nodes)

  -- a part is no more than all
  pub parts_less : (weights : Weights) (nodes : List (ℕ × Entry K V)) → weights ≡ weights_of nodes
      → (weights.protected ≤ weights.all) × (weights.window ≤ weights.all)
  parts_less weights nodes is = (
    grind (arith, ap (λ w. w.all) is, ap (λ w. w.protected) is, weight-all nodes, weight-part is_protected nodes),
    grind (arith, ap (λ w. w.all) is, ap (λ w. w.window) is, weight-all nodes, weight-part is_window nodes),
  )
