-- Lemmas on an entry that is used and stays in probation: no mark stands at it, and no part weighs more or less.
use Rattle.std.proofs.Common.{◌≡◌, ◌<◌, ◌+◌, ◌-◌, ◌^◌, ℕ, Bool, nat_eq, List, Some, refl, sym, true, ap, arith}
use Rattle.std.specs.Cmp.{IsEquivalence}
use Rattle.std.specs.Map.{lookup, remove_entry, set_value}
use Rattle.moka_list.specs.GrowingIndex.{GrowingIndex}
use Rattle.moka_list.specs.Nodes.{next_id}
use Rattle.moka_unsync_model.specs.declared.entry.Entry.{Entry}
use Rattle.moka_unsync_model.specs.declared.entry.Part.{Part}
use Rattle.moka_unsync_model.specs.declared.entry.Part.TheVariants.{Probation, Protected, Window}
use Rattle.moka_unsync_model.specs.Contents.{is_protected, is_window}
use Rattle.moka_store.specs.declared.parts.Marks.{Marks}
use Rattle.moka_store.specs.declared.parts.Weights.{Weights}
use Rattle.moka_store.specs.Nodes.{AreMarks, IsLoose, IsStored, is_late, latest_node, share, weights_of}
use Rattle.moka_store.specs.Store.{is_of}
use Rattle.std.proofs.lemmas.Bool.{false≢true}
use Rattle.moka_list.proofs.InsertedLemmas.{apart_from_distinct}
use Rattle.moka_store.proofs.ChangeLemmas.{loose, shifted}
use Rattle.moka_store.proofs.MarkLemmas.{passed-none}
use Rattle.moka_store.proofs.NodeLemmas.{all-found}
use Rattle.moka_store.proofs.StoreLemmas.{stored-relisted}

-- a part that is probation's
pub is_of_probation : (part : Part) → is_of part Probation ≡ true → part ≡ Probation
is_of_probation Probation same = refl
is_of_probation Protected same = absurd (false≢true same)
is_of_probation Window same = absurd (false≢true same)

module _ {K V : Type 0} {eq : K → K → Bool} (laws : IsEquivalence eq) {keeps : Bool} {nodes : List (ℕ × Entry K V)} {marks : Marks} {ids : List ℕ}
    {weights : Weights} {index : GrowingIndex} (s : IsStored eq keeps nodes marks ids weights index) (id : ℕ) (x e : Entry K V)
    (stood : lookup (nat_eq id) nodes ≡ Some x) (here : x.part ≡ Probation) where
  module _ (still : e.part ≡ Probation) (same : e.weight ≡ x.weight) where
    -- no mark stands at it
    pub loose-kept : IsLoose (set_value (nat_eq id) nodes e) marks id Probation
    loose-kept =
        let apart = apart_from_distinct nodes s.keyed.once in
        let next = next_id id nodes in
        loose s id x e stood Probation still marks (λ i. record {
          late = sym (passed-none is_late id next marks.late x nodes apart stood (ap is_late here) s.marked.late) i;
          window = sym (passed-none is_window id next marks.window x nodes apart stood (ap is_window here) s.marked.window) i;
        })

    -- the weights stay
    weights-kept : weights ≡ weights_of (latest_node (id, e) (remove_entry (nat_eq id) nodes))
    weights-kept =
        let left : share (is_protected x.part) x.weight ≡ 0 = ap (λ part. share (is_protected part) x.weight) here in
        let came : share (is_protected e.part) x.weight ≡ 0 = ap (λ part. share (is_protected part) x.weight) still in
        let left_window : share (is_window x.part) x.weight ≡ 0 = ap (λ part. share (is_window part) x.weight) here in
        let came_window : share (is_window e.part) x.weight ≡ 0 = ap (λ part. share (is_window part) x.weight) still in
        let protected : weights.protected ≡ weights.protected - share (is_protected x.part) x.weight + share (is_protected e.part) x.weight =
        omega (arith, left, came) in
        let window : weights.window ≡ weights.window - share (is_window x.part) x.weight + share (is_window e.part) x.weight =
        omega (arith, left_window, came_window) in
        shifted s id x e stood same weights (λ i. record { all = weights.all; protected = protected i; window = window i })

    small : e.weight < 2 ^ 32
    small = rw same (all-found (λ y. y.weight < 2 ^ 32) id x nodes s.small stood)

    -- it is a store still, where the entry keeps key and hash
    pub stored-kept : (new : List (ℕ × Entry K V)) → new ≡ latest_node (id, e) (remove_entry (nat_eq id) nodes) → (moved : Marks) → AreMarks new moved
        → e.key ≡ x.key → e.hash ≡ x.hash → IsStored eq keeps new moved ids weights index
    stored-kept new is moved marked = stored-relisted laws s id x e stood small new moved weights is marked weights-kept
