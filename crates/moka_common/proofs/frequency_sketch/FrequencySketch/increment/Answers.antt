use Rattle.std.proofs.Common.{◌≡◌, ◌∙◌, ◌<◌, ◌+◌, ℕ, List, length, ap, sym, subst, arith, refl, rules, vec_len}
use Rattle.std.proofs.lemmas.List.{with_items_is}
use Rattle.std.specs.Vec.{with_items}
use Rattle.moka_common.specs.Sketch.{after_increment}
use Rattle.moka_common.specs.Cells.{unpacked, IsPacked, IsTablePacked}
use Rattle.moka_common.proofs.UnpackedLemmas.{IsCounted, counted_groups, packed_kept, added_most, counted_calm, counted_aged}
use Rattle.moka_common.proofs.frequency_sketch.FrequencySketch.increment.Given.{Over}
use Rattle.moka_common.proofs.frequency_sketch.FrequencySketch.increment.Goals.{After-from}
use Rattle.moka_common.proofs.frequency_sketch.FrequencySketch.increment.Goals as goal

-- the groups of the slice are the table's, with the hash counted once more
made : (g : Over) (c : After-from g) → IsCounted c.self.inside.table.items c.increment.new.groups c.args.hash c.increment.result
made g c =
    counted_groups c.self.inside.table.items c.as_mut_slice-groups.result.now c.increment.new.groups (vec_len c.self.inside.table) c.args.hash
    c.is_empty.result c.increment.result c.is_empty.ensures c.if-is_empty.false c.as_mut_slice-groups.ensures.value
    c.as_mut_slice-groups.ensures.len c.increment.auto.groups c.increment.ensures.counters c.increment.ensures.grew

-- before the count the groups were those of a table
packed : (g : Over) (c : After-from g) → IsTablePacked c.self.inside.table.items c.self.inside.sample_size c.self.inside.size
packed g c = c.self.invariant (made g c).on

-- as many groups as the table had become its groups
put_back : (g : Over) (c : After-from g) (groups : List ℕ) → length groups ≡ length c.self.inside.table.items
    → (with_items c.self.inside.table groups).items ≡ groups
put_back g c groups same =
    with_items_is c.self.inside.table groups (same ∙ (ap length (sym c.as_mut_slice-groups.ensures.value) ∙ c.as_mut_slice-groups.ensures.len))

pub overflow_add-self : goal.overflow_add-self
overflow_add-self g c =
    let below : c.self.inside.size < c.self.inside.sample_size = (packed g (goal.at.overflow_add-self g c).After-from).sampled in
    let most = added_most c.increment.result c.from.result c.from.ensures in
    search (rules, arith, below, most)

pub age_table-self-inside-requires : goal.age_table-self-inside-requires
age_table-self-inside-requires g c =
    let counted = (goal.at.age_table-self-inside-requires g c).After-from in
    let whole = (packed g counted).whole in
    let within = (packed g counted).within in
    let len = (made g counted).len in
    omega arith

pub invariant_of-self : goal.invariant_of-self
invariant_of-self g c =
    let counted = (goal.at.invariant_of-self g c).After-from in
    let below : c.self.inside.size < c.self.inside.sample_size = (packed g counted).sampled in
    let most = added_most c.increment.result c.from.result c.from.ensures in
    let size = c.age_table-self-inside.ensures.size in
    let aged = c.age_table-self-inside.auto.groups ∙ (made g counted).len in
    subst (λ ws. IsPacked ws c.self.inside.sample_size c.age_table-self-inside.result)
    (sym (put_back g counted c.age_table-self-inside.new.groups aged))
    (λ _. packed_kept _ _ _ _ c.age_table-self-inside.result aged (packed g counted) (omega (arith, size, below, most)))

pub invariant_of-self-else-self : goal.invariant_of-self-else-self
invariant_of-self-else-self g c =
    let counted = (goal.at.invariant_of-self-else-self g c).After-from in
    let len = (made g counted).len in
    subst (λ ws. IsPacked ws c.self.inside.sample_size (c.self.inside.size + c.from.result))
    (sym (put_back g counted c.increment.new.groups len))
    (λ _. packed_kept _ _ _ _ _ len (packed g counted) c.if-self.false)

pub returns-then-self : goal.returns-then-self
returns-then-self g c =
    let counted = (goal.at.returns-then-self g c).After-from in
    let aged = c.age_table-self-inside.auto.groups ∙ (made g counted).len in
    record {
      step =
          ap (λ ws. unpacked ws c.self.inside.sample_size c.age_table-self-inside.result)
          (put_back g counted c.age_table-self-inside.new.groups aged)
          ∙ ap (unpacked c.age_table-self-inside.new.groups c.self.inside.sample_size) c.age_table-self-inside.ensures.size
          ∙ counted_aged _ _ c.self.inside.sample_size c.self.inside.size _ _ (made g counted) c.age_table-self-inside.new.groups
          c.from.result _ c.from.ensures (packed g counted).sampled c.if-self.true aged c.age_table-self-inside.ensures.halved refl
          ∙ ap (λ s. after_increment s c.args.hash) c.self.view_is;
    }

pub returns-else-self : goal.returns-else-self
returns-else-self g c =
    let counted = (goal.at.returns-else-self g c).After-from in
    record {
      step =
          ap (λ ws. unpacked ws c.self.inside.sample_size (c.self.inside.size + c.from.result))
          (put_back g counted c.increment.new.groups (made g counted).len)
          ∙ counted_calm _ _ c.self.inside.sample_size c.self.inside.size _ _ (made g counted) c.from.result c.from.ensures c.if-self.false
          ∙ ap (λ s. after_increment s c.args.hash) c.self.view_is;
    }
