-- The whole of a change: a slot written, and the groups on the way counted.
use Rattle.std.proofs.Common.{◌≡◌, ℕ, ◌+◌, ◌-◌, ◌*◌, ◌/◌, ◌%◌, ◌^◌, ◌<◌, ◌≤◌, Bool, true, false, nat_eq, List, length, get_or}
use Rattle.std.proofs.Common.{refl, sym, ap, subst, ◌∙◌, inl, inr, arith}
use Rattle.std.specs.Prelude.{if◌then◌else◌, min, nat_lt, slice_set}
use Rattle.std.proofs.lemmas.Bool.{cases_eq, cases_lt, cases_order, cond-false, cond-true, false≢true, le-leb, le-ltb, lt-leb, lt-ltb, ne_eqb}
use Rattle.moka_list.specs.declared.constants.TheConstants.{FAR, SLOTS}
use Rattle.moka_list.specs.declared.group.Group.{Group}
use Rattle.moka_list.specs.HashIndex.{Adds, Removes, group_at, home_group, is_candidate, tag_of}
use Rattle.moka_list.specs.Probed.{AreShaped, CountsWay, IsProbed, IsUnder, SameBut, distance_at, id_at, is_free, passes, passing}
use Rattle.moka_list.specs.Probed.{steps, tag_at, tally, without}
use Rattle.moka_list.proofs.FreeLemmas.{passed_fits}
use Rattle.moka_list.proofs.PutLemmas.{Frees, Puts, PutsIn, frees, puts}
use Rattle.moka_list.proofs.RestLemmas.{home_below}
use Rattle.moka_list.proofs.StandsLemmas.{cell_below, cell_group, shown, steps_below, steps_round, steps_up, steps_walk, tag_some}
use Rattle.moka_list.proofs.StandsLemmas.{tally_some, walk, walk_steps}
use Rattle.moka_list.proofs.StepLemmas.{added, bit_of, lies_added, lies_removed, removed}

-- once round there and back
steps_back : (n from to : ℕ) → from < n → to < n → 0 < steps n from to → steps n to from + steps n from to ≡ n
steps_back n from to inside low some =
    elim (cases_order from to) [
      | inl same ↦ let up : steps n from to ≡ to - from = steps_up n from to (omega arith) in absurd (omega arith)
      | inr apart ↦
          elim apart [
            | inl less ↦
                let up : steps n from to ≡ to - from = steps_up n from to (omega arith) in
                let round : steps n to from ≡ n + from - to = steps_round n to from less in omega arith
            | inr more ↦
                let round : steps n from to ≡ n + to - from = steps_round n from to more in
                let up : steps n to from ≡ from - to = steps_up n to from (omega arith) in omega arith
          ]
    ]

-- from a group on the way to a slot so many steps are left, and from any other more than the whole way
pub record Leads (distance passed left : ℕ) : Type 0 where
  pub before : passed ≤ distance → left ≡ distance - passed
  pub after : distance < passed → distance < left

pub leads : (n home at g : ℕ) → home < n → at < n → g < n → Leads (steps n home at) (steps n home g) (steps n g at)
leads n home at g inside low there =
    let distance = steps n home at in let passed = steps n home g in
    let short : distance < n = steps_below n home at inside low in
    let short_too : passed < n = steps_below n home g inside there in
    let is_at : walk n home distance ≡ at = walk_steps n home at inside low in
    let is_g : walk n home passed ≡ g = walk_steps n home g inside there in
    record {
      before = λ upto.
          ap (λ a. steps n a at) (sym is_g) ∙ ap (steps n (walk n home passed)) (sym is_at) ∙ steps_walk n home passed distance inside short upto;
      after = λ past.
          let back : steps n at g ≡ passed - distance =
          ap (λ a. steps n a g) (sym is_at) ∙ ap (steps n (walk n home distance)) (sym is_g)
          ∙ steps_walk n home distance passed inside short_too (omega arith) in
          let round : steps n g at + steps n at g ≡ n = steps_back n at g low there (omega arith) in omega arith;
    }

-- an id says that it has passed a group exactly where that lies on its way
pub passing_is : (tag distance passed left : ℕ) → 0 < tag → distance < 255 → Leads distance passed left → passing tag distance left ≡ nat_lt passed distance
passing_is tag distance passed left some near leads =
    cond-false (nat_eq tag 0) _ _ (ne_eqb tag 0 (λ none. absurd (omega arith)))
    ∙ cond-false (nat_eq distance 255) _ _ (ne_eqb distance 255 (λ far. absurd (omega arith)))
    ∙ elim (cases_lt passed distance) [
      | inl on_way ↦
          let is : left ≡ distance - passed = leads.before (omega arith) in
          cond-true (nat_lt 0 left) _ _ (lt-ltb 0 left (omega arith)) ∙ le-leb left distance (omega arith) ∙ sym (lt-ltb passed distance on_way)
      | inr upto ↦
          elim (cases_eq passed distance) [
            | inl same ↦
                let is : left ≡ distance - passed = leads.before (omega arith) in
                cond-false (nat_lt 0 left) _ _ (le-ltb 0 left (omega arith)) ∙ sym (le-ltb passed distance upto)
            | inr other ↦
                let more : distance < left = leads.after (omega (arith, other)) in
                cond-true (nat_lt 0 left) _ _ (lt-ltb 0 left (omega arith)) ∙ lt-leb left distance more ∙ sym (le-ltb passed distance upto)
          ]
    ]

-- an id FAR from its home is counted by no group
pub passing_far : (tag left : ℕ) → passing tag 255 left ≡ false
passing_far tag left = both (nat_eq tag 0)
  where
    both : (test : Bool) → (if test then false else false) ≡ false
    both true = refl
    both false = refl

-- ---- counts change no slot

same_counted : (old mid new : List Group) (cell : ℕ) → SameBut old cell mid → length new ≡ length mid
    → ((at : ℕ) → (group_at new at).marks ≡ (group_at mid at).marks) → ((at : ℕ) → (group_at new at).ids ≡ (group_at mid at).ids)
    → SameBut old cell new
same_counted old mid new cell same len marks ids =
    record {
      len = len ∙ same.len;
      tags = λ other differs. ap (λ m. get_or m (other % 10) 0) (marks (other / 10)) ∙ same.tags other differs;
      distances = λ other differs. ap (λ m. get_or m (10 + other % 10) 0) (marks (other / 10)) ∙ same.distances other differs;
      ids = λ other differs. ap (λ m. get_or m (other % 10) 0) (ids (other / 10)) ∙ same.ids other differs;
    }

shaped_counted : (mid new : List Group) → AreShaped mid → length new ≡ length mid
    → ((at : ℕ) → (group_at new at).marks ≡ (group_at mid at).marks) → ((at : ℕ) → (group_at new at).ids ≡ (group_at mid at).ids)
    → AreShaped new
shaped_counted mid new shaped len marks ids at within =
    let low : at < length mid = subst (λ n. at < n) len within in
    (ap length (marks at) ∙ (shaped at low).0, ap length (ids at) ∙ (shaped at low).1)

-- ---- an id is added

pub record IsAdded (old : List Group) (ids : ℕ) (far : Bool) (id hash : ℕ) (new : List Group) (far_then : Bool) : Type 0 where
  pub lies : IsProbed new ids far_then
  pub step : Adds (shown old ids far) id hash (shown new ids far_then)

module _ (old : List Group) (ids : ℕ) (far : Bool) (id hash cell : ℕ) (probed : IsProbed old ids far) (room : id < ids)
    (absent : (other : ℕ) → is_candidate (shown old ids far) other id ≡ false) (mid : List Group)
    (puts : Puts old cell (tag_of (length old) hash) (min (steps (length old) (home_group (length old) hash) (cell / 10)) FAR) id mid) where
  -- what was put stands under its hash, also in a table that differs from it in counts alone
  under_new : (new : List Group) → length new ≡ length mid → ((at : ℕ) → (group_at new at).marks ≡ (group_at mid at).marks)
      → IsUnder new hash cell
  under_new new len marks =
      let n = length old in
      let same : length new ≡ n = len ∙ puts.same.len in
      let tag : tag_at new cell ≡ tag_of n hash = ap (λ m. get_or m (cell % 10) 0) (marks (cell / 10)) ∙ puts.is_tag in
      record {
        inside = subst (λ m. cell < SLOTS * m) (sym same) puts.inside;
        taken = ne_eqb (tag_at new cell) 0 (λ none.
            let some : 0 < tag_of n hash = tag_some n hash in let zero_tag : tag_of n hash ≡ 0 = sym tag ∙ none in absurd (omega arith));
        is_tag = tag ∙ ap (λ m. tag_of m hash) (sym same);
        is_distance = ap (λ m. get_or m (10 + cell % 10) 0) (marks (cell / 10)) ∙ puts.is_distance
            ∙ ap (λ m. min (steps m (home_group m hash) (cell / 10)) FAR) (sym same);
      }

  pub added_far : 255 ≤ steps (length old) (home_group (length old) hash) (cell / 10) → IsAdded old ids far id hash mid true
  added_far farther =
      let n = length old in let distance = steps n (home_group n hash) (cell / 10) in
      let under = under_new mid refl (λ at. refl) in
      let is_far : distance_at mid cell ≡ 255 = puts.is_distance ∙ whole distance farther in
      let lies =
      lies_added old mid ids far true cell hash id probed puts.same puts.free under puts.is_id room absent puts.shaped
      (λ at within.
      puts.passed at
      ∙ none_more (group_at old at).passed (passes mid at cell)
      (ap (λ a. passing (tag_at mid cell) a (steps (length mid) at (cell / 10))) is_far
      ∙ passing_far (tag_at mid cell) (steps (length mid) at (cell / 10))))
      (λ is. refl) (λ is. refl) in
      record { lies = lies; step = added old mid ids far true cell hash id probed lies puts.same puts.free under puts.is_id }
    where
      whole : (w : ℕ) → 255 ≤ w → min w 255 ≡ 255
      whole w far = omega arith

      none_more : (count : ℕ) (test : Bool) → test ≡ false → count ≡ count + bit_of test
      none_more count true is = absurd (false≢true (sym is))
      none_more count false is = omega arith

  pub added_near : (new : List Group) (home distance : ℕ) → home ≡ home_group (length old) hash → distance ≡ steps (length old) home (cell / 10)
      → distance < 255
      → CountsWay mid home distance new → IsAdded old ids far id hash new far
  added_near new home distance is_home is_distance near counts =
      let n = length old in let at = cell / 10 in
      let positive : 0 < n = some_group cell n puts.inside in
      let inside : home < n = subst (λ h. h < n) (sym is_home) (home_below n hash positive) in
      let low : at < n = cell_below cell n puts.inside in
      let same = same_counted old mid new cell puts.same counts.len counts.marks counts.ids in
      let under = under_new new counts.len counts.marks in
      let is_id : id_at new cell ≡ id = ap (λ m. get_or m (cell % 10) 0) (counts.ids (cell / 10)) ∙ puts.is_id in
      let distance_new : distance_at new cell ≡ distance =
      ap (λ m. get_or m (10 + cell % 10) 0) (counts.marks (cell / 10)) ∙ puts.is_distance
      ∙ whole (steps n (home_group n hash) at) distance (is_distance ∙ ap (λ h. steps n h at) is_home) near in
      let some_tag : 0 < tag_at new cell =
      subst (λ t. 0 < t) (sym (ap (λ m. get_or m (cell % 10) 0) (counts.marks (cell / 10)) ∙ puts.is_tag)) (tag_some n hash) in
      let lies =
      lies_added old new ids far far cell hash id probed same puts.free under is_id room absent
      (shaped_counted mid new puts.shaped counts.len counts.marks counts.ids)
      (λ g within.
      let there : g < n = subst (λ m. g < m) same.len within in
      let there_mid : g < length mid = subst (λ m. g < m) counts.len within in
      let passed : passes new g cell ≡ nat_lt (steps n home g) distance =
      ap (λ a. passing (tag_at new cell) a (steps (length new) g at)) distance_new
      ∙ ap (λ m. passing (tag_at new cell) distance (steps m g at)) same.len
      ∙ passing_is (tag_at new cell) distance (steps n home g) (steps n g at) some_tag near
      (subst (λ w. Leads w (steps n home g) (steps n g at)) (sym is_distance) (leads n home at g inside low there)) in
      counts.passed g there_mid
      ∙ ap (λ p. p + bit_of (nat_lt (steps (length mid) home g) distance)) (puts.passed g)
      ∙ ap (λ m. (group_at old g).passed + bit_of (nat_lt (steps m home g) distance)) puts.same.len
      ∙ ap (λ b. (group_at old g).passed + bit_of b) (sym passed))
      (λ is_far. absurd (too_near (sym distance_new ∙ is_far) near)) (λ is. is) in
      record { lies = lies; step = added old new ids far far cell hash id probed lies same puts.free under is_id }
    where
      some_group : (c n : ℕ) → c < 10 * n → 0 < n
      some_group c n inside = omega arith

      whole : (w distance : ℕ) → distance ≡ w → distance < 255 → min w 255 ≡ distance
      whole w distance is near = omega arith

      too_near : {w : ℕ} → w ≡ 255 → w < 255 → ⊥
      too_near is near = omega arith

-- ---- an id is taken out

pub record IsRemoved (old : List Group) (ids : ℕ) (far : Bool) (id : ℕ) (new : List Group) : Type 0 where
  pub lies : IsProbed new ids far
  pub step : Removes (shown old ids far) id (shown new ids far)

module _ (old : List Group) (ids : ℕ) (far : Bool) (id hash cell : ℕ) (probed : IsProbed old ids far) (under : IsUnder old hash cell)
    (is_id : id_at old cell ≡ id) (mid : List Group) (frees : Frees old cell mid) where
  pub removed_far : 255 ≤ steps (length old) (home_group (length old) hash) (cell / 10) → IsRemoved old ids far id mid
  removed_far farther =
      let n = length old in let distance = steps n (home_group n hash) (cell / 10) in
      let is_far : distance_at old cell ≡ 255 = under.is_distance ∙ whole distance farther in
      let lies =
      lies_removed old mid ids far cell probed frees.same under.inside frees.free frees.shaped
      (λ at within.
      sym (frees.passed at)
      ∙ none_more (group_at mid at).passed (passes old at cell)
      (ap (λ a. passing (tag_at old cell) a (steps n at (cell / 10))) is_far ∙ passing_far (tag_at old cell) (steps n at (cell / 10)))) in
      record { lies = lies; step = removed old mid ids far far cell id probed lies frees.same under.taken is_id frees.free }
    where
      whole : (w : ℕ) → 255 ≤ w → min w 255 ≡ 255
      whole w far = omega arith

      none_more : (count : ℕ) (test : Bool) → test ≡ false → count ≡ count + bit_of test
      none_more count true is = absurd (false≢true (sym is))
      none_more count false is = omega arith

  module _ (home distance : ℕ) (is_home : home ≡ home_group (length old) hash)
      (is_distance : distance ≡ steps (length old) home (cell / 10)) (near : distance < 255) where
    passed_by : (g : ℕ) → g < length old → passes old g cell ≡ nat_lt (steps (length old) home g) distance
    passed_by g there =
        let n = length old in let at = cell / 10 in
        let positive : 0 < n = some_group cell n under.inside in
        let inside : home < n = subst (λ h. h < n) (sym is_home) (home_below n hash positive) in
        let low : at < n = cell_below cell n under.inside in
        let distance_old : distance_at old cell ≡ distance =
        under.is_distance ∙ whole (steps n (home_group n hash) at) distance (is_distance ∙ ap (λ h. steps n h at) is_home) near in
        let some_tag : 0 < tag_at old cell = subst (λ t. 0 < t) (sym under.is_tag) (tag_some n hash) in
        ap (λ a. passing (tag_at old cell) a (steps n g at)) distance_old
        ∙ passing_is (tag_at old cell) distance (steps n home g) (steps n g at) some_tag near
        (subst (λ w. Leads w (steps n home g) (steps n g at)) (sym is_distance) (leads n home at g inside low there))
      where
        some_group : (c n : ℕ) → c < 10 * n → 0 < n
        some_group c n inside = omega arith

        whole : (w distance : ℕ) → distance ≡ w → distance < 255 → min w 255 ≡ distance
        whole w distance is near = omega arith

    -- each group on the way counts it
    pub counted_way : (g : ℕ) → g < length mid → steps (length mid) home g < distance → 0 < (group_at mid g).passed
    counted_way g within before =
        let n = length old in
        let there : g < n = subst (λ m. g < m) frees.same.len within in
        let on_way : steps n home g < distance = subst (λ m. steps m home g < distance) frees.same.len before in
        let some : 0 < tally (passes old g) (10 * n) =
        tally_some (passes old g) cell (10 * n) under.inside (passed_by g there ∙ lt-ltb (steps n home g) distance on_way) in
        subst (λ p. 0 < p) (sym (frees.passed g ∙ probed.counted g there)) some

    pub removed_near : (new : List Group) → CountsWay new home distance mid → IsRemoved old ids far id new
    removed_near new counts =
        let n = length old in
        let len : length new ≡ length mid = sym counts.len in
        let marks : (at : ℕ) → (group_at new at).marks ≡ (group_at mid at).marks = λ at. sym (counts.marks at) in
        let ids_same : (at : ℕ) → (group_at new at).ids ≡ (group_at mid at).ids = λ at. sym (counts.ids at) in
        let same = same_counted old mid new cell frees.same len marks ids_same in
        let free : is_free new cell ≡ true = ap (λ m. nat_eq (get_or m (cell % 10) 0) 0) (marks (cell / 10)) ∙ frees.free in
        let lies =
        lies_removed old new ids far cell probed same under.inside free (shaped_counted mid new frees.shaped len marks ids_same)
        (λ g within.
        let there : g < n = subst (λ m. g < m) same.len within in
        sym (frees.passed g) ∙ counts.passed g within
        ∙ ap (λ m. (group_at new g).passed + bit_of (nat_lt (steps m home g) distance)) same.len
        ∙ ap (λ b. (group_at new g).passed + bit_of b) (sym (passed_by g there))) in
        record { lies = lies; step = removed old new ids far far cell id probed lies same under.taken is_id free }

-- ---- as the code has it

-- a group at a distance from the home of a hash
pub record IsWay (groups : List Group) (hash home at distance : ℕ) : Type 0 where
  pub is_home : home ≡ home_group (length groups) hash
  pub inside : at < length groups
  pub is_distance : distance ≡ steps (length groups) home at

cell_distance : (groups : List Group) (hash home at distance slot : ℕ) → IsWay groups hash home at distance → slot < 10
    → distance ≡ steps (length groups) home ((at * 10 + slot) / 10)
cell_distance groups hash home at distance slot way low = way.is_distance ∙ ap (steps (length groups) home) (sym (cell_group at slot low))

cell_far : (groups : List Group) (hash home at distance slot : ℕ) → IsWay groups hash home at distance → slot < 10
    → distance ≡ steps (length groups) (home_group (length groups) hash) ((at * 10 + slot) / 10)
cell_far groups hash home at distance slot way low =
    cell_distance groups hash home at distance slot way low ∙ ap (λ h. steps (length groups) h ((at * 10 + slot) / 10)) way.is_home

-- an id is put in a group, and the groups on its way can be counted
pub record IsPut (old : List Group) (ids : ℕ) (far : Bool) (id hash home distance : ℕ) (mid : List Group) : Type 0 where
  pub len : length mid ≡ length old
  pub near : distance < length old
  pub fits : (g : ℕ) → (group_at mid g).passed + 1 < 2 ^ 32
  pub if_far : FAR ≤ distance → IsAdded old ids far id hash mid true
  pub if_near : (new : List Group) → distance < FAR → CountsWay mid home distance new → IsAdded old ids far id hash new far

pub is_put : (old mid : List Group) (ids : ℕ) (far : Bool) (id hash home at distance tag : ℕ) → IsWay old hash home at distance
    → IsProbed old ids far → id < ids → ((other : ℕ) → is_candidate (shown old ids far) other id ≡ false)
    → tag ≡ tag_of (length old) hash → PutsIn old at tag (min distance FAR) id mid → IsPut old ids far id hash home distance mid
is_put old mid ids far id hash home at distance tag way probed room absent is_tag put =
    let n = length old in let slot = put.slot in let cell = at * 10 + slot in
    let put_way : Puts old cell (tag_of n hash) (min (steps n (home_group n hash) (cell / 10)) FAR) id mid =
    subst (λ w. Puts old cell (tag_of n hash) (min w FAR) id mid) (cell_far old hash home at distance slot way put.within)
    (subst (λ t. Puts old cell t (min distance FAR) id mid) is_tag (puts old mid at tag (min distance FAR) id way.inside probed.shaped put)) in
    let positive : 0 < n = omega (arith, way.inside) in
    record {
      len = put_way.same.len;
      near = subst (λ w. w < n) (sym way.is_distance)
          (steps_below n home at (subst (λ h. h < n) (sym way.is_home) (home_below n hash positive)) way.inside);
      fits = λ g.
          subst (λ p. p + 1 < 2 ^ 32) (sym (put_way.passed g)) (passed_fits old ids cell far probed put_way.inside put.free g);
      if_far = λ farther.
          added_far old ids far id hash cell probed room absent mid put_way
          (subst (λ w. 255 ≤ w) (cell_far old hash home at distance slot way put.within) farther);
      if_near = λ new near counts.
          added_near old ids far id hash cell probed room absent mid put_way new home distance way.is_home
          (cell_distance old hash home at distance slot way put.within) near counts;
    }

-- a slot is freed, and the groups on the way of its id can take their counts back
pub record IsTaken (old : List Group) (ids : ℕ) (far : Bool) (id home distance : ℕ) (mid : List Group) : Type 0 where
  pub len : length mid ≡ length old
  pub near : distance < length old
  pub counted : distance < FAR → (g : ℕ) → g < length mid → steps (length mid) home g < distance → 0 < (group_at mid g).passed
  pub if_far : FAR ≤ distance → IsRemoved old ids far id mid
  pub if_near : (new : List Group) → distance < FAR → CountsWay new home distance mid → IsRemoved old ids far id new

pub is_taken : (old mid : List Group) (ids : ℕ) (far : Bool) (id hash home at distance slot : ℕ) → IsWay old hash home at distance
    → IsProbed old ids far → slot < 10 → IsUnder old hash (at * 10 + slot) → id_at old (at * 10 + slot) ≡ id
    → mid ≡ slice_set old at (without (group_at old at) slot) → IsTaken old ids far id home distance mid
is_taken old mid ids far id hash home at distance slot way probed low under is_id is =
    let n = length old in let cell = at * 10 + slot in
    let free = frees old mid at slot way.inside low probed.shaped is in
    let is_distance = cell_distance old hash home at distance slot way low in
    let positive : 0 < n = omega (arith, way.inside) in
    record {
      len = free.same.len;
      near = subst (λ w. w < n) (sym way.is_distance)
          (steps_below n home at (subst (λ h. h < n) (sym way.is_home) (home_below n hash positive)) way.inside);
      counted = λ near. counted_way old ids far id hash cell probed under is_id mid free home distance way.is_home is_distance near;
      if_far = λ farther.
          removed_far old ids far id hash cell probed under is_id mid free
          (subst (λ w. 255 ≤ w) (cell_far old hash home at distance slot way low) farther);
      if_near = λ new near counts.
          removed_near old ids far id hash cell probed under is_id mid free home distance way.is_home is_distance near new counts;
    }
