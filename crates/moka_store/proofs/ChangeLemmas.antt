-- Lemmas on an entry that is written over and comes last of its part: what each step of that asks for, and leaves.
use Rattle.std.proofs.Common.{◌≡◌, ◌<◌, ◌≤◌, ◌+◌, ◌-◌, ◌^◌, ℕ, Bool, false, nat_eq, List, Some, is_some, IsSome, option_map, refl, sym, ap, ◌∙◌, subst, arith}
use Rattle.std.proofs.lemmas.Bool.{cond-false, cond-true}
use Rattle.std.specs.Cmp.{IsEquivalence}
use Rattle.std.specs.List.{IsDistinct}
use Rattle.std.specs.Map.{lookup, remove_entry, set_value, keys_of}
use Rattle.moka_list.specs.Nodes.{next_id}
use Rattle.moka_list.specs.GrowingIndex.{GrowingIndex}
use Rattle.moka_unsync_model.specs.Deadline.{expiry_of}
use Rattle.moka_unsync_model.specs.declared.entry.Entry.{Entry}
use Rattle.moka_unsync_model.specs.declared.entry.Part.{Part}
use Rattle.moka_unsync_model.specs.Contents.{is_protected, is_window, write_of, writes_without}
use Rattle.moka_unsync_model.specs.Insert.{with_write}
use Rattle.moka_store.specs.declared.parts.Marks.{Marks}
use Rattle.moka_store.specs.declared.parts.Weights.{Weights}
use Rattle.moka_store.specs.Nodes.{AreMarks, IsBalanced, IsLoose, IsStored, SameBy, bare, is_any, latest_node, passed, share, weight_in, weights_of, write_last}
use Rattle.moka_store.specs.Nodes.{write_under, written_under}
use Rattle.moka_list.proofs.ItemLemmas.{lookup-set, nat_eq-same}
use Rattle.moka_store.proofs.LatestLemmas.{lookup-relisted}
use Rattle.moka_store.proofs.MarkLemmas.{marks-passed}
use Rattle.moka_store.proofs.NodeLemmas.{keys-set, remove-set}
use Rattle.moka_store.proofs.SameLemmas.{same-bare, same-found, same-relisted}
use Rattle.moka_store.proofs.WeightLemmas.{parts_less, share_all, weight-removed, weight-small, weights-latest, weights-removed}
use Rattle.moka_store.proofs.WriteLemmas.{under-last, under-same}

module _ {K V : Type 0} {eq : K → K → Bool} {keeps : Bool} {nodes : List (ℕ × Entry K V)} {marks : Marks} {ids : List ℕ} {weights : Weights}
    {index : GrowingIndex} (s : IsStored eq keeps nodes marks ids weights index) (id : ℕ) (x e : Entry K V) (stood : lookup (nat_eq id) nodes ≡ Some x) where
  set_once : IsDistinct nat_eq (keys_of (set_value (nat_eq id) nodes e))
  set_once = subst (IsDistinct nat_eq) (sym (keys-set id e nodes)) s.keyed.once

  set_here : lookup (nat_eq id) (set_value (nat_eq id) nodes e) ≡ Some e
  set_here = lookup-set id id e nodes (ap is_some stood) ∙ cond-true (nat_eq id id) _ _ (nat_eq-same id)

  set_marks : (left : Marks)
      → left ≡ record { late = passed id (next_id id nodes) marks.late; window = passed id (next_id id nodes) marks.window }
      → AreMarks (remove_entry (nat_eq id) (set_value (nat_eq id) nodes e)) left
  set_marks left left_is =
      rw (remove-set id e nodes, left_is) (marks-passed id nodes marks s.keyed.once s.order s.marked)

  pub loose : (part : Part) → e.part ≡ part → (left : Marks)
      → left ≡ record { late = passed id (next_id id nodes) marks.late; window = passed id (next_id id nodes) marks.window }
      → IsLoose (set_value (nat_eq id) nodes e) left id part
  loose part is left left_is = record { once = set_once; here = (e, set_here, is); marked = set_marks left left_is }

  -- where it comes
  pub settled : (new : List (ℕ × Entry K V))
      → ((y : Entry K V) → lookup (nat_eq id) (set_value (nat_eq id) nodes e) ≡ Some y
      → new ≡ latest_node (id, y) (remove_entry (nat_eq id) (set_value (nat_eq id) nodes e)))
      → new ≡ latest_node (id, e) (remove_entry (nat_eq id) nodes)
  settled new is = is e set_here ∙ ap (latest_node (id, e)) (remove-set id e nodes)

  module _ (mid : Weights) (mid_is : mid ≡ record {
    all = weights.all - x.weight;
    protected = weights.protected - share (is_protected x.part) x.weight;
    window = weights.window - share (is_window x.part) x.weight;
  }) where
    pub lighter : mid ≡ weights_of (remove_entry (nat_eq id) nodes)
    lighter = weights-removed weights id x nodes s.weighed stood mid mid_is

    pub parts_lighter : (mid.protected ≤ mid.all) × (mid.window ≤ mid.all)
    parts_lighter = parts_less mid (remove_entry (nat_eq id) nodes) lighter

    pub fits : (w : ℕ) → w < 2 ^ 32 → mid.all + w < 2 ^ 64
    fits w small =
        by mid.all (weight_in is_any nodes) (ap (λ w. w.all) lighter) (weight-removed is_any id x nodes stood) (weight-small nodes s.few s.small)
      where
        by : (m t : ℕ) → m ≡ weight_in is_any (remove_entry (nat_eq id) nodes) → weight_in is_any (remove_entry (nat_eq id) nodes) + x.weight ≡ t
            → t + (2 ^ 32 - 1) < 2 ^ 64 → m + w < 2 ^ 64
        by m t a b c = omega (arith, a, b, c, small)

    pub heavier : (part : Part) (w : ℕ) → part ≡ e.part → w ≡ e.weight → (new : Weights) → new ≡ record {
      all = mid.all + w;
      protected = mid.protected + share (is_protected part) w;
      window = mid.window + share (is_window part) w;
    } → new ≡ weights_of (latest_node (id, e) (remove_entry (nat_eq id) nodes))
    heavier part w part_is w_is new new_is =
        weights-latest mid (id, e) (remove_entry (nat_eq id) nodes) lighter new
        (new_is ∙ (λ i. record {
          all = mid.all + w_is i;
          protected = mid.protected + share (is_protected (part_is i)) (w_is i);
          window = mid.window + share (is_window (part_is i)) (w_is i);
        }))

  -- its weight taken off, and what each part weighs then
  abbrev pub without_it : Weights
  without_it = record {
    all = weights.all - x.weight;
    protected = weights.protected - share (is_protected x.part) x.weight;
    window = weights.window - share (is_window x.part) x.weight;
  }

  -- another part has room for its weight
  pub shift_fits : (without_it.protected + x.weight ≤ weights.all) × (without_it.window + x.weight ≤ weights.all)
  shift_fits =
      let (protected, window) = parts_lighter without_it refl in
      let all = share_all weights id x nodes s.weighed stood in
      (omega (arith, protected, all), omega (arith, window, all))

  -- the weights with its own in another part
  pub shifted : e.weight ≡ x.weight → (new : Weights) → new ≡ record {
    all = weights.all;
    protected = without_it.protected + share (is_protected e.part) x.weight;
    window = without_it.window + share (is_window e.part) x.weight;
  } → new ≡ weights_of (latest_node (id, e) (remove_entry (nat_eq id) nodes))
  shifted same new new_is =
      let all = share_all weights id x nodes s.weighed stood in
      let back : weights.all ≡ weights.all - x.weight + x.weight = omega (arith, all) in
      heavier without_it refl e.part x.weight refl (sym same) new (new_is ∙ (λ i. record {
        all = back i;
        protected = without_it.protected + share (is_protected e.part) x.weight;
        window = without_it.window + share (is_window e.part) x.weight;
      }))

  -- the writes are the same where its own is
  pub writes_kept : write_of e ≡ write_of x → (new : List (ℕ × Entry K V)) → new ≡ latest_node (id, e) (remove_entry (nat_eq id) nodes)
      → written_under new ids ≡ written_under nodes ids
  writes_kept same new is =
      under-same nodes new (subst (SameBy write_of nodes) (sym is) (same-relisted write_of id x e nodes s.keyed.once stood same)) ids

  pub writes_balanced : write_of e ≡ write_of x → (room : ℕ) (mid new : List (ℕ × Entry K V))
      → mid ≡ latest_node (id, e) (remove_entry (nat_eq id) nodes) → IsBalanced room mid new → written_under new ids ≡ written_under nodes ids
  writes_balanced same room mid new is balance =
      under-same mid new (same-bare write_of (λ e. refl) mid new balance.same) ids ∙ writes_kept same mid is

  -- it is still there once protected is within its room
  pub found_balanced : (room : ℕ) (mid new : List (ℕ × Entry K V)) → mid ≡ latest_node (id, e) (remove_entry (nat_eq id) nodes)
      → IsBalanced room mid new → IsSome (lookup (nat_eq id) new)
  found_balanced room mid new is balance =
      same-found bare mid new balance.same id
      ∙ ap is_some (ap (lookup (nat_eq id)) is ∙ (lookup-relisted id id e nodes s.keyed.once
      ∙ cond-true (nat_eq id id) (Some e) (lookup (nat_eq id) nodes) (nat_eq-same id)))

-- the writes with its own last
module _ {K V : Type 0} {eq : K → K → Bool} (laws : IsEquivalence eq) {keeps : Bool} {nodes : List (ℕ × Entry K V)} {marks : Marks} {ids : List ℕ}
    {weights : Weights} {index : GrowingIndex} (s : IsStored eq keeps nodes marks ids weights index) (id : ℕ) (x e : Entry K V)
    (stood : lookup (nat_eq id) nodes ≡ Some x) where
  others_listed : (new : List (ℕ × Entry K V)) → new ≡ latest_node (id, e) (remove_entry (nat_eq id) nodes) → (q : ℕ) → nat_eq id q ≡ false
      → write_under new q ≡ write_under nodes q
  others_listed new is q other =
      ap (option_map write_of) (ap (lookup (nat_eq q)) is ∙ (lookup-relisted q id e nodes s.keyed.once
      ∙ cond-false (nat_eq id q) (Some e) (lookup (nat_eq q) nodes) other))

  own_listed : (new : List (ℕ × Entry K V)) → new ≡ latest_node (id, e) (remove_entry (nat_eq id) nodes) → write_under new id ≡ Some (write_of e)
  own_listed new is =
      ap (option_map write_of) (ap (lookup (nat_eq id)) is ∙ (lookup-relisted id id e nodes s.keyed.once
      ∙ cond-true (nat_eq id id) (Some e) (lookup (nat_eq id) nodes) (nat_eq-same id)))

  pub writes_replaced : (new : List (ℕ × Entry K V)) → new ≡ latest_node (id, e) (remove_entry (nat_eq id) nodes)
      → written_under new (write_last keeps id ids) ≡ with_write keeps (writes_without eq x.key (written_under nodes ids)) e.key (expiry_of e)
  writes_replaced new is = under-last laws s.keyed s.written id x stood new e (others_listed new is) (own_listed new is)

  pub writes_last : (room : ℕ) (mid new : List (ℕ × Entry K V)) → mid ≡ latest_node (id, e) (remove_entry (nat_eq id) nodes) → IsBalanced room mid new
      → written_under new (write_last keeps id ids) ≡ with_write keeps (writes_without eq x.key (written_under nodes ids)) e.key (expiry_of e)
  writes_last room mid new is balance =
      under-same mid new (same-bare write_of (λ e. refl) mid new balance.same) (write_last keeps id ids) ∙ writes_replaced mid is
