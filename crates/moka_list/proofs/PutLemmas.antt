-- What a write to one group leaves at the slots of a table.
use Rattle.std.proofs.Common.{◌≡◌, ◌≢◌, ℕ, ◌+◌, ◌*◌, ◌/◌, ◌%◌, ◌<◌, Bool, true, false, nat_eq, List, [], length, get_or}
use Rattle.std.proofs.Common.{refl, sym, ap, subst, ◌∙◌, inl, inr, arith}
use Rattle.std.specs.Int.{bit_at}
use Rattle.std.specs.Prelude.{if◌then◌else◌, slice_set}
use Rattle.std.proofs.lemmas.Bool.{cases_eq}
use Rattle.std.proofs.lemmas.List.{get_or-set_other, get_or-set_same, length-set}
use Rattle.moka_list.specs.declared.group.Group.{Group}
use Rattle.moka_list.specs.HashIndex.{group_at, slots_with}
use Rattle.moka_list.specs.Probed.{AreShaped, SameBut, distance_at, id_at, is_free, tag_at, with_id, without}
use Rattle.moka_list.proofs.StandsLemmas.{bit_with, cell_group, cell_slot}

abbrev nowhere : Group
nowhere = record { marks = []; passed = 0; ids = [] }

-- an id is put at a free slot of a group
pub record PutsIn (old : List Group) (at tag distance id : ℕ) (new : List Group) : Type 0 where
  pub slot : ℕ
  pub within : slot < 10
  pub free : is_free old (at * 10 + slot) ≡ true
  pub is : new ≡ slice_set old at (with_id (group_at old at) slot tag distance id)

-- an id stands at a slot that was free, and all else is as it was
pub record Puts (old : List Group) (cell tag distance id : ℕ) (new : List Group) : Type 0 where
  pub inside : cell < 10 * length old
  pub free : is_free old cell ≡ true
  pub same : SameBut old cell new
  pub shaped : AreShaped new
  pub passed : (at : ℕ) → (group_at new at).passed ≡ (group_at old at).passed
  pub is_tag : tag_at new cell ≡ tag
  pub is_distance : distance_at new cell ≡ distance
  pub is_id : id_at new cell ≡ id

-- a slot is free, and all else is as it was
pub record Frees (old : List Group) (cell : ℕ) (new : List Group) : Type 0 where
  pub free : is_free new cell ≡ true
  pub same : SameBut old cell new
  pub shaped : AreShaped new
  pub passed : (at : ℕ) → (group_at new at).passed ≡ (group_at old at).passed

-- a bit that is set says that the slot is free
pub first_free : (groups : List Group) (at slot : ℕ) → at < length groups → AreShaped groups → slot < 10
    → bit_at (slots_with (group_at groups at) 0) slot ≡ 1 → is_free groups (at * 10 + slot) ≡ true
first_free groups at slot inside shaped low set =
    ap (λ q. nat_eq (get_or (group_at groups q).marks ((at * 10 + slot) % 10) 0) 0) (cell_group at slot low)
    ∙ ap (λ k. nat_eq (get_or (group_at groups at).marks k 0) 0) (cell_slot at slot low)
    ∙ is_set (nat_eq (get_or (group_at groups at).marks slot 0) 0) (sym (bit_with (group_at groups at) (shaped at inside).0 0 slot low) ∙ set)
  where
    is_set : (test : Bool) → ◌≡◌ {A = ℕ} (if test then 1 else 0) 1 → test ≡ true
    is_set true set = refl
    is_set false set = absurd (omega (arith, set))

module _ (old : List Group) (at slot : ℕ) (group : Group) (inside : at < length old) (low : slot < 10) where
  group_here : group_at (slice_set old at group) at ≡ group
  group_here = get_or-set_same old at group nowhere inside

  group_there : (q : ℕ) → q ≢ at → group_at (slice_set old at group) q ≡ group_at old q
  group_there q other = get_or-set_other old at q group nowhere other

  -- a fact of each group, before and after
  each : (P : Group → Group → Type 0) → ((q : ℕ) → P (group_at old q) (group_at old q)) → P (group_at old at) group
      → (q : ℕ) → P (group_at old q) (group_at (slice_set old at group) q)
  each P there here q =
      elim (cases_eq q at) [
        | inl is ↦
            subst (λ k. P (group_at old k) (group_at (slice_set old at group) k)) (sym is)
            (subst (P (group_at old at)) (sym group_here) here)
        | inr other ↦ subst (P (group_at old q)) (sym (group_there q other)) (there q)
      ]

  module _ (tags : (k : ℕ) → k < 10 → k ≢ slot → get_or group.marks k 0 ≡ get_or (group_at old at).marks k 0)
      (distances : (k : ℕ) → k < 10 → k ≢ slot → get_or group.marks (10 + k) 0 ≡ get_or (group_at old at).marks (10 + k) 0)
      (ids : (k : ℕ) → k ≢ slot → get_or group.ids k 0 ≡ get_or (group_at old at).ids k 0) where
    -- a slot in the group but for one is as it was
    elsewhere : (other : ℕ) → other ≢ at * 10 + slot → (P : ℕ → Group → Group → Type 0) → ((q k : ℕ) → P k (group_at old q) (group_at old q))
        → ((k : ℕ) → k < 10 → k ≢ slot → P k (group_at old at) group)
        → P (other % 10) (group_at old (other / 10)) (group_at (slice_set old at group) (other / 10))
    elsewhere other differs P there here =
        elim (cases_eq (other / 10) at) [
          | inl is ↦
              subst (λ q. P (other % 10) (group_at old q) (group_at (slice_set old at group) q)) (sym is)
              (subst (P (other % 10) (group_at old at)) (sym group_here)
              (here (other % 10) (omega arith) (λ same. differs (whole other at slot is same))))
          | inr apart ↦
              subst (P (other % 10) (group_at old (other / 10))) (sym (group_there (other / 10) apart)) (there (other / 10) (other % 10))
        ]
      where
        whole : (c q k : ℕ) → c / 10 ≡ q → c % 10 ≡ k → c ≡ q * 10 + k
        whole c q k group slot = omega arith

    pub same_but : SameBut old (at * 10 + slot) (slice_set old at group)
    same_but =
        record {
          len = length-set old at group;
          tags = λ other differs.
              elsewhere other differs (λ k g h. get_or h.marks k 0 ≡ get_or g.marks k 0) (λ q k. refl) (λ k few apart. tags k few apart);
          distances = λ other differs.
              elsewhere other differs (λ k g h. get_or h.marks (10 + k) 0 ≡ get_or g.marks (10 + k) 0) (λ q k. refl) (λ k few apart. distances k few apart);
          ids = λ other differs.
              elsewhere other differs (λ k g h. get_or h.ids k 0 ≡ get_or g.ids k 0) (λ q k. refl) (λ k few apart. ids k apart);
        }

  pub shaped_set : AreShaped old → length group.marks ≡ 20 → length group.ids ≡ 10 → AreShaped (slice_set old at group)
  shaped_set shaped marks ids q within =
      let low : q < length old = subst (λ n. q < n) (length-set old at group) within in
      elim (cases_eq q at) [
        | inl is ↦
            let here : group_at (slice_set old at group) q ≡ group = ap (group_at (slice_set old at group)) is ∙ group_here in
            (ap (λ h. length h.marks) here ∙ marks, ap (λ h. length h.ids) here ∙ ids)
        | inr apart ↦
            let there = group_there q apart in
            (ap (λ h. length h.marks) there ∙ (shaped q low).0, ap (λ h. length h.ids) there ∙ (shaped q low).1)
      ]

  pub passed_set : group.passed ≡ (group_at old at).passed → (q : ℕ) → (group_at (slice_set old at group) q).passed ≡ (group_at old q).passed
  passed_set same = each (λ g h. h.passed ≡ g.passed) (λ q. refl) same

  -- what the group has at the slot, the table has
  pub tag_here : tag_at (slice_set old at group) (at * 10 + slot) ≡ get_or group.marks slot 0
  tag_here =
      ap (λ q. get_or (group_at (slice_set old at group) q).marks ((at * 10 + slot) % 10) 0) (cell_group at slot low)
      ∙ ap (λ h. get_or h.marks ((at * 10 + slot) % 10) 0) group_here ∙ ap (λ k. get_or group.marks k 0) (cell_slot at slot low)

  pub distance_here : distance_at (slice_set old at group) (at * 10 + slot) ≡ get_or group.marks (10 + slot) 0
  distance_here =
      ap (λ q. get_or (group_at (slice_set old at group) q).marks (10 + (at * 10 + slot) % 10) 0) (cell_group at slot low)
      ∙ ap (λ h. get_or h.marks (10 + (at * 10 + slot) % 10) 0) group_here ∙ ap (λ k. get_or group.marks (10 + k) 0) (cell_slot at slot low)

  pub id_here : id_at (slice_set old at group) (at * 10 + slot) ≡ get_or group.ids slot 0
  id_here =
      ap (λ q. get_or (group_at (slice_set old at group) q).ids ((at * 10 + slot) % 10) 0) (cell_group at slot low)
      ∙ ap (λ h. get_or h.ids ((at * 10 + slot) % 10) 0) group_here ∙ ap (λ k. get_or group.ids k 0) (cell_slot at slot low)

pub puts : (old new : List Group) (at tag distance id : ℕ) → at < length old → AreShaped old → (p : PutsIn old at tag distance id new)
    → Puts old (at * 10 + p.slot) tag distance id new
puts old new at tag distance id inside shaped p =
    let slot = p.slot in let low : slot < 10 = p.within in
    let was = group_at old at in let now = with_id was slot tag distance id in
    let marks = shaped at inside in
    let put_tag = slice_set was.marks slot tag in
    let len_tag : length put_tag ≡ 20 = length-set was.marks slot tag ∙ marks.0 in
    subst (λ xs. Puts old (at * 10 + slot) tag distance id xs) (sym p.is) (record {
      inside = omega arith;
      free = p.free;
      same = same_but old at slot now inside low
          (λ k few apart. get_or-set_other put_tag (10 + slot) k distance 0 (λ is. absurd (omega arith)) ∙ get_or-set_other was.marks slot k tag 0 apart)
          (λ k few apart.
          get_or-set_other put_tag (10 + slot) (10 + k) distance 0 (λ is. apart (omega arith))
          ∙ get_or-set_other was.marks slot (10 + k) tag 0 (λ is. absurd (omega arith)))
          (λ k apart. get_or-set_other was.ids slot k id 0 apart);
      shaped = shaped_set old at slot now inside low shaped (length-set put_tag (10 + slot) distance ∙ len_tag) (length-set was.ids slot id ∙ marks.1);
      passed = passed_set old at slot now inside low refl;
      is_tag = tag_here old at slot now inside low ∙ get_or-set_other put_tag (10 + slot) slot distance 0 (λ is. absurd (omega arith))
          ∙ get_or-set_same was.marks slot tag 0 (omega (arith, marks.0));
      is_distance = distance_here old at slot now inside low ∙ get_or-set_same put_tag (10 + slot) distance 0 (omega arith);
      is_id = id_here old at slot now inside low ∙ get_or-set_same was.ids slot id 0 (omega (arith, marks.1));
    })

pub frees : (old new : List Group) (at slot : ℕ) → at < length old → slot < 10 → AreShaped old
    → new ≡ slice_set old at (without (group_at old at) slot) → Frees old (at * 10 + slot) new
frees old new at slot inside low shaped is =
    let was = group_at old at in let now = without was slot in let marks = shaped at inside in
    subst (λ xs. Frees old (at * 10 + slot) xs) (sym is) (record {
      free = ap (λ t. nat_eq t 0) (tag_here old at slot now inside low ∙ get_or-set_same was.marks slot 0 0 (omega (arith, marks.0)));
      same = same_but old at slot now inside low (λ k few apart. get_or-set_other was.marks slot k 0 0 apart)
          (λ k few apart. get_or-set_other was.marks slot (10 + k) 0 0 (λ same. absurd (omega arith))) (λ k apart. refl);
      shaped = shaped_set old at slot now inside low shaped (length-set was.marks slot 0 ∙ marks.0) marks.1;
      passed = passed_set old at slot now inside low refl;
    })
