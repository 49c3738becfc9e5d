-- Which ids are candidates of a hash: those that stand under it.
use Rattle.std.proofs.Common.{◌≡◌, ◌≢◌, ◌⊎◌, ℕ, zero, suc, ◌+◌, ◌-◌, ◌*◌, ◌/◌, ◌%◌, ◌^◌, ◌<◌, ◌≤◌, Bool, true, false, nat_eq}
use Rattle.std.proofs.Common.{List, [], ◌∷◌, length, get_or, map, replicate}
use Rattle.std.proofs.Common.{refl, sym, ap, subst, ◌∙◌, inl, inr, arith}
use Rattle.std.specs.Prelude.{if◌then◌else◌, min, nat_le, nat_lt}
use Rattle.std.specs.Int.{bit_at}
use Rattle.std.specs.List.{list_any}
use Rattle.std.specs.Simd.Lanes.{chunk, mask_l}
use Rattle.std.proofs.lemmas.Bool.{cases_Bool, cases_eq, cases_lt, cond-false, cond-true, eq-eqb, eqb-true, ne_eqb, false≢true, or_cases, or_left, or_right}
use Rattle.std.proofs.lemmas.List.{get_or-map, get_or-replicate, get_or_past, length-replicate}
use Rattle.std.proofs.lemmas.List.Folds.{list_any-append}
use Rattle.std.proofs.lemmas.Nat.Bits.{bit_at-suc, bit_at_lowest, bit_at_and, bit_at_cat_high, bit_at_cat_low}
use Rattle.std.proofs.lemmas.Simd.{bit_mask_l, get_or-chunk, length-chunk}
use Rattle.moka_list.specs.declared.constants.TheConstants.{FAR, SLOTS}
use Rattle.moka_list.specs.declared.group.Group.{Group}
use Rattle.std.proofs.lemmas.Bool.{le-leb, lt-leb, lt-ltb}
use Rattle.moka_list.specs.Probed.{AreShaped, FREE, IsProbed, IsUnder, distance_at, id_at, is_among, is_free, passes, steps, tag_at, tally}
use Rattle.moka_list.proofs.RestLemmas.{home_below}
use Rattle.moka_list.specs.HashIndex.{HashIndex, after, candidates, chosen, ends_at, group_at, home_group, is_candidate, slots_at, slots_of}
use Rattle.moka_list.specs.HashIndex.{slots_with, tag_of, tagged}

-- ---- bits

bit_low : (n k : ℕ) → k < 10 → bit_at (n % 1024) k ≡ bit_at n k
bit_low n k low =
    sym (bit_at_cat_low (n / 1024) 10 (n % 1024) k low) ∙ ap (λ m. bit_at m k) (whole n)
  where
    whole : (n : ℕ) → n / 1024 * 1024 + n % 1024 ≡ n
    whole n = omega arith

bit_high : (n k : ℕ) → bit_at (n / 2 ^ 6) k ≡ bit_at n (6 + k)
bit_high n k =
    ap (bit_at (n / 64)) (omega arith) ∙ sym (bit_at_cat_high (n / 64) 6 (n % 64) (6 + k) (omega arith) (omega arith))
    ∙ ap (λ m. bit_at m (6 + k)) (whole n)
  where
    whole : (n : ℕ) → n / 64 * 64 + n % 64 ≡ n
    whole n = omega arith

abbrev bit_if : Bool → ℕ
bit_if test = if test then 1 else 0

bit_marks : (marks : List ℕ) (y k : ℕ) → k < length marks
    → bit_at (mask_l (map (λ mark. nat_eq mark y) marks)) k ≡ bit_if (nat_eq (get_or marks k 0) y)
bit_marks marks y k within =
    bit_mask_l (map (λ mark. nat_eq mark y) marks) k
    ∙ ap bit_if (get_or-map (λ mark. nat_eq mark y) marks k 0 false within)

module _ (group : Group) (shape : length group.marks ≡ 20) where
  pub bit_with : (tag k : ℕ) → k < 10 → bit_at (slots_with group tag) k ≡ bit_if (nat_eq (get_or group.marks k 0) tag)
  unfolding slots_with
  bit_with tag k low =
      let len : length (chunk 0 16 group.marks) ≡ 16 = length-chunk 0 16 group.marks (omega (arith, shape)) in
      bit_low (mask_l (map (λ mark. nat_eq mark tag) (chunk 0 16 group.marks))) k low
      ∙ bit_marks (chunk 0 16 group.marks) tag k (omega arith)
      ∙ ap (λ m. bit_if (nat_eq m tag)) (get_or-chunk 0 16 group.marks k 0 (omega arith) ∙ ap (λ j. get_or group.marks j 0) (omega arith))

  bit_distance : (distance k : ℕ) → k < 10 → bit_at (slots_at group distance) k ≡ bit_if (nat_eq (get_or group.marks (10 + k) 0) distance)
  unfolding slots_at
  bit_distance distance k low =
      let half = chunk 4 16 group.marks in
      let len4 : length half ≡ 16 = length-chunk 4 16 group.marks (omega (arith, shape)) in
      let len : length (chunk 0 16 half) ≡ 16 = length-chunk 0 16 half (omega arith) in
      bit_high (mask_l (map (λ mark. nat_eq mark distance) (chunk 0 16 half))) k
      ∙ bit_marks (chunk 0 16 half) distance (6 + k) (omega arith)
      ∙ ap (λ m. bit_if (nat_eq m distance))
      (get_or-chunk 0 16 half (6 + k) 0 (omega arith) ∙ get_or-chunk 4 16 group.marks (0 + (6 + k)) 0 (omega arith)
      ∙ ap (λ j. get_or group.marks j 0) (omega arith))

  -- the slots of a tag and a distance are those whose marks are these
  pub place_marks : (tag distance k : ℕ) → k < 10 → bit_at (slots_of group tag distance) k ≡ 1
      → (get_or group.marks k 0 ≡ tag) × (get_or group.marks (10 + k) 0 ≡ distance)
  unfolding slots_of
  place_marks tag distance k low set =
      let both : min (bit_if (nat_eq (get_or group.marks k 0) tag)) (bit_if (nat_eq (get_or group.marks (10 + k) 0) distance)) ≡ 1 =
      ap (λ b. min b (bit_if (nat_eq (get_or group.marks (10 + k) 0) distance))) (sym (bit_with tag k low))
      ∙ ap (min (bit_at (slots_with group tag) k)) (sym (bit_distance distance k low))
      ∙ sym (bit_at_and (slots_with group tag) (slots_at group distance) k) ∙ set in
      let parts = both_set (nat_eq (get_or group.marks k 0) tag) (nat_eq (get_or group.marks (10 + k) 0) distance) both in
      (eqb-true (get_or group.marks k 0) tag parts.0, eqb-true (get_or group.marks (10 + k) 0) distance parts.1)
    where
      both_set : (a b : Bool) → min (bit_if a) (bit_if b) ≡ 1 → (a ≡ true) × (b ≡ true)
      both_set true true set = (refl, refl)
      both_set true false set = absurd (omega (arith, set))
      both_set false b set = absurd (omega (arith, set))

  pub marks_place : (tag distance k : ℕ) → k < 10 → get_or group.marks k 0 ≡ tag → get_or group.marks (10 + k) 0 ≡ distance
      → bit_at (slots_of group tag distance) k ≡ 1
  unfolding slots_of
  marks_place tag distance k low is_tag is_distance =
      bit_at_and (slots_with group tag) (slots_at group distance) k
      ∙ ap (λ b. min b (bit_at (slots_at group distance) k)) (bit_with tag k low ∙ ap bit_if (eq-eqb (get_or group.marks k 0) tag is_tag))
      ∙ ap (min 1) (bit_distance distance k low ∙ ap bit_if (eq-eqb (get_or group.marks (10 + k) 0) distance is_distance))

-- ---- the ids whose bits are set

pub chosen_stands : (id bits : ℕ) (ids : List ℕ) → list_any (nat_eq id) (chosen bits ids) ≡ true
    → (k : ℕ) × (k < length ids) × (bit_at bits k ≡ 1) × (get_or ids k 0 ≡ id)
chosen_stands id bits [] found = absurd (false≢true found)
chosen_stands id bits (x ∷ ids) found =
    elim (cases_Bool (nat_eq (bits % 2) 1)) [
      | inl odd ↦
          elim (or_cases (nat_eq id x) (list_any (nat_eq id) (chosen (bits / 2) ids))
          (sym (ap (list_any (nat_eq id)) (cond-true (nat_eq (bits % 2) 1) _ _ odd)) ∙ found)) [
            | inl here ↦ (0, omega arith, bit_at_lowest bits ∙ eqb-true (bits % 2) 1 odd, sym (eqb-true id x here))
            | inr later ↦ on (chosen_stands id (bits / 2) ids later)
          ]
      | inr even ↦
          on (chosen_stands id (bits / 2) ids (sym (ap (list_any (nat_eq id)) (cond-false (nat_eq (bits % 2) 1) _ _ even)) ∙ found))
    ]
  where
    on : (k : ℕ) × (k < length ids) × (bit_at (bits / 2) k ≡ 1) × (get_or ids k 0 ≡ id)
        → (k : ℕ) × (k < length (x ∷ ids)) × (bit_at bits k ≡ 1) × (get_or (x ∷ ids) k 0 ≡ id)
    on at = let low : at.0 < length ids = at.1 in (suc at.0, omega arith, bit_at-suc bits at.0 ∙ at.2, at.3)

pub stands_chosen : (id bits k : ℕ) (ids : List ℕ) → k < length ids → bit_at bits k ≡ 1 → get_or ids k 0 ≡ id
    → list_any (nat_eq id) (chosen bits ids) ≡ true
stands_chosen id bits k [] within set is = absurd (omega arith)
stands_chosen id bits zero (x ∷ ids) within set is =
    ap (list_any (nat_eq id)) (cond-true (nat_eq (bits % 2) 1) _ _ (eq-eqb (bits % 2) 1 (sym (bit_at_lowest bits) ∙ set)))
    ∙ or_left (nat_eq id x) (list_any (nat_eq id) (chosen (bits / 2) ids)) (eq-eqb id x (sym is))
stands_chosen id bits (suc k) (x ∷ ids) within set is =
    let later = stands_chosen id (bits / 2) k ids (omega arith) (sym (bit_at-suc bits k) ∙ set) is in
    elim (cases_Bool (nat_eq (bits % 2) 1)) [
      | inl odd ↦
          ap (list_any (nat_eq id)) (cond-true (nat_eq (bits % 2) 1) _ _ odd)
          ∙ or_right (nat_eq id x) (list_any (nat_eq id) (chosen (bits / 2) ids)) later
      | inr even ↦ ap (list_any (nat_eq id)) (cond-false (nat_eq (bits % 2) 1) _ _ even) ∙ later
    ]

-- ---- a search

-- the group so many steps on
abbrev pub walk : ℕ → ℕ → ℕ → ℕ
walk groups at zero = at
walk groups at (suc s) = walk groups (after groups at) s

module _ (groups : List Group) (tag : ℕ) (far : Bool) (id : ℕ) where
  -- the id is one of those that a step of a search yields
  abbrev pub Yields : ℕ → ℕ → Type 0
  Yields distance at =
      list_any (nat_eq id) (chosen (slots_of (group_at groups at) tag (min distance FAR)) (group_at groups at).ids) ≡ true

  pub search_yields : (left distance at : ℕ) → list_any (nat_eq id) (tagged groups tag far left distance at) ≡ true
      → (s : ℕ) × (s < left) × Yields (distance + s) (walk (length groups) at s)
  search_yields zero distance at found = absurd (false≢true found)
  search_yields (suc left) distance at found =
      let here = chosen (slots_of (group_at groups at) tag (min distance FAR)) (group_at groups at).ids in
      let later = tagged groups tag far left (distance + 1) (after (length groups) at) in
      let rest = if ends_at (group_at groups at) far then [] else later in
      elim (or_cases (list_any (nat_eq id) here) (list_any (nat_eq id) rest) (sym (list_any-append (nat_eq id) here rest) ∙ found)) [
        | inl at_once ↦ (0, omega arith, subst (λ a. Yields a at) (omega arith) at_once)
        | inr later_on ↦
            elim (cases_Bool (ends_at (group_at groups at) far)) [
              | inl ends ↦
                  absurd (false≢true (sym (ap (list_any (nat_eq id)) (cond-true (ends_at (group_at groups at) far) [] later ends)) ∙ later_on))
              | inr goes ↦
                  let on = search_yields left (distance + 1) (after (length groups) at)
                  (sym (ap (list_any (nat_eq id)) (cond-false (ends_at (group_at groups at) far) [] later goes)) ∙ later_on) in
                  let low : on.0 < left = on.1 in
                  (suc on.0, omega arith, subst (λ a. Yields a (walk (length groups) (after (length groups) at) on.0)) (omega arith) on.2)
            ]
      ]

  -- and each is found, where the search goes on up to there
  pub yields_search : (left distance at s : ℕ) → s < left → ((t : ℕ) → t < s → ends_at (group_at groups (walk (length groups) at t)) far ≡ false)
      → Yields (distance + s) (walk (length groups) at s) → list_any (nat_eq id) (tagged groups tag far left distance at) ≡ true
  yields_search zero distance at s within goes yields = absurd (omega arith)
  yields_search (suc left) distance at zero within goes yields =
      let here = chosen (slots_of (group_at groups at) tag (min distance FAR)) (group_at groups at).ids in
      let later = tagged groups tag far left (distance + 1) (after (length groups) at) in
      let rest = if ends_at (group_at groups at) far then [] else later in
      list_any-append (nat_eq id) here rest
      ∙ or_left (list_any (nat_eq id) here) (list_any (nat_eq id) rest) (subst (λ a. Yields a at) (omega arith) yields)
  yields_search (suc left) distance at (suc s) within goes yields =
      let here = chosen (slots_of (group_at groups at) tag (min distance FAR)) (group_at groups at).ids in
      let later = tagged groups tag far left (distance + 1) (after (length groups) at) in
      let rest = if ends_at (group_at groups at) far then [] else later in
      list_any-append (nat_eq id) here rest
      ∙ or_right (list_any (nat_eq id) here) (list_any (nat_eq id) rest)
      (ap (list_any (nat_eq id)) (cond-false (ends_at (group_at groups at) far) [] later (goes 0 (omega arith)))
      ∙ yields_search left (distance + 1) (after (length groups) at) s (omega arith) (λ t low. goes (suc t) (omega arith))
      (subst (λ a. Yields a (walk (length groups) (after (length groups) at) s)) (omega arith) yields))

-- ---- steps

module _ (n : ℕ) where
  walk_is : (at s : ℕ) → at < n → s < n → ((at + s < n) × (walk n at s ≡ at + s)) ⊎ ((n ≤ at + s) × (walk n at s + n ≡ at + s))
  walk_is at zero inside short = inl (omega arith, omega arith)
  walk_is at (suc s) inside short =
      elim (cases_eq (at + 1) n) [
        | inl last ↦
            let is : after n at ≡ 0 = cond-true (nat_eq (at + 1) n) 0 (at + 1) (eq-eqb (at + 1) n last) in
            elim (walk_is 0 s (omega arith) (omega arith)) [
              | inl w ↦
                  let on : walk n 0 s ≡ 0 + s = w.1 in
                  let same : walk n (after n at) s ≡ walk n 0 s = ap (λ a. walk n a s) is in inr (omega arith, omega arith)
              | inr w ↦ let past : n ≤ 0 + s = w.0 in absurd (omega arith)
            ]
        | inr other ↦
            let is : after n at ≡ at + 1 = cond-false (nat_eq (at + 1) n) 0 (at + 1) (ne_eqb (at + 1) n other) in
            let same : walk n (after n at) s ≡ walk n (at + 1) s = ap (λ a. walk n a s) is in
            elim (walk_is (at + 1) s (omega (arith, other)) (omega arith)) [
              | inl w ↦
                  let low : at + 1 + s < n = w.0 in let on : walk n (at + 1) s ≡ at + 1 + s = w.1 in inl (omega arith, omega arith)
              | inr w ↦
                  let low : n ≤ at + 1 + s = w.0 in
                  let on : walk n (at + 1) s + n ≡ at + 1 + s = w.1 in inr (omega arith, omega arith)
            ]
      ]

  pub walk_below : (at s : ℕ) → at < n → s < n → walk n at s < n
  walk_below at s inside short =
      elim (walk_is at s inside short) [
        | inl w ↦ let low : at + s < n = w.0 in let on : walk n at s ≡ at + s = w.1 in omega arith
        | inr w ↦ let on : walk n at s + n ≡ at + s = w.1 in omega arith
      ]

  pub steps_up : (from to : ℕ) → from ≤ to → steps n from to ≡ to - from
  steps_up from to low = cond-true (nat_le from to) (to - from) (n + to - from) (le-leb from to low)

  pub steps_round : (from to : ℕ) → to < from → steps n from to ≡ n + to - from
  steps_round from to low = cond-false (nat_le from to) (to - from) (n + to - from) (lt-leb from to low)

  pub steps_below : (from to : ℕ) → from < n → to < n → steps n from to < n
  steps_below from to inside low =
      elim (cases_lt to from) [
        | inl back ↦ let is : steps n from to ≡ n + to - from = steps_round from to back in omega arith
        | inr up ↦ let is : steps n from to ≡ to - from = steps_up from to up in omega arith
      ]

  -- so many steps on, so many steps lead there
  pub steps_walk : (at t s : ℕ) → at < n → s < n → t ≤ s → steps n (walk n at t) (walk n at s) ≡ s - t
  steps_walk at t s inside short upto =
      elim (walk_is at t inside (omega arith)) [
        | inl w ↦
            let low : at + t < n = w.0 in
            let on : walk n at t ≡ at + t = w.1 in
            elim (walk_is at s inside short) [
              | inl v ↦
                  let goes : walk n at s ≡ at + s = v.1 in
                  let is : steps n (walk n at t) (walk n at s) ≡ walk n at s - walk n at t = steps_up (walk n at t) (walk n at s) (omega arith) in omega arith
              | inr v ↦
                  let goes : walk n at s + n ≡ at + s = v.1 in
                  let is : steps n (walk n at t) (walk n at s) ≡ n + walk n at s - walk n at t =
                  steps_round (walk n at t) (walk n at s) (omega arith) in omega arith
            ]
        | inr w ↦
            let low : n ≤ at + t = w.0 in
            let on : walk n at t + n ≡ at + t = w.1 in
            elim (walk_is at s inside short) [
              | inl v ↦ let past : at + s < n = v.0 in absurd (omega arith)
              | inr v ↦
                  let goes : walk n at s + n ≡ at + s = v.1 in
                  let is : steps n (walk n at t) (walk n at s) ≡ walk n at s - walk n at t = steps_up (walk n at t) (walk n at s) (omega arith) in omega arith
            ]
      ]

  -- and where they lead
  pub walk_steps : (from to : ℕ) → from < n → to < n → walk n from (steps n from to) ≡ to
  walk_steps from to inside low =
      let short : steps n from to < n = steps_below from to inside low in
      elim (walk_is from (steps n from to) inside short) [
        | inl w ↦
            let up : from + steps n from to < n = w.0 in
            let on : walk n from (steps n from to) ≡ from + steps n from to = w.1 in
            elim (cases_lt to from) [
              | inl back ↦ let is : steps n from to ≡ n + to - from = steps_round from to back in absurd (omega arith)
              | inr goes ↦ let is : steps n from to ≡ to - from = steps_up from to goes in omega arith
            ]
        | inr w ↦
            let up : n ≤ from + steps n from to = w.0 in
            let on : walk n from (steps n from to) + n ≡ from + steps n from to = w.1 in
            elim (cases_lt to from) [
              | inl back ↦ let is : steps n from to ≡ n + to - from = steps_round from to back in omega arith
              | inr goes ↦ let is : steps n from to ≡ to - from = steps_up from to goes in absurd (omega arith)
            ]
      ]

-- ---- counts

pub tally_some : (test : ℕ → Bool) (at n : ℕ) → at < n → test at ≡ true → 0 < tally test n
tally_some test at zero within passes_it = absurd (omega arith)
tally_some test at (suc n) within passes_it =
    elim (cases_eq at n) [
      | inl same ↦
          let one : bit_if (test n) ≡ 1 = cond-true (test n) 1 0 (subst (λ k. test k ≡ true) same passes_it) in omega (arith, one)
      | inr other ↦ let low : 0 < tally test n = tally_some test at n (omega (arith, other)) passes_it in omega (arith, low)
    ]

pub tally_none : (test : ℕ → Bool) (n : ℕ) → ((k : ℕ) → test k ≡ false) → tally test n ≡ 0
tally_none test zero none = refl
tally_none test (suc n) none =
    let no : bit_if (test n) ≡ 0 = cond-false (test n) 1 0 (none n) in
    let low : tally test n ≡ 0 = tally_none test n none in
    ap (λ b. b + tally test n) no ∙ ap (λ m. 0 + m) low

-- ---- candidates

abbrev pub shown : List Group → ℕ → Bool → HashIndex
shown groups ids far = record { groups = groups; ids = ids; far = far }

pub tag_some : (groups hash : ℕ) → 0 < tag_of groups hash
unfolding tag_of
tag_some groups hash = omega arith

pub cell_group : (q k : ℕ) → k < 10 → (q * 10 + k) / 10 ≡ q
cell_group q k low = omega arith

pub cell_slot : (q k : ℕ) → k < 10 → (q * 10 + k) % 10 ≡ k
cell_slot q k low = omega arith

-- an id at a slot that a step of a search yields stands under the hash
pub found_under : (groups : List Group) (hash s k : ℕ) → AreShaped groups → s < length groups → k < 10
    → bit_at (slots_of (group_at groups (walk (length groups) (home_group (length groups) hash) s)) (tag_of (length groups) hash) (min s FAR)) k ≡ 1
    → IsUnder groups hash (walk (length groups) (home_group (length groups) hash) s * 10 + k)
found_under groups hash s k shaped short low set =
    let n = length groups in let home = home_group n hash in let tag = tag_of n hash in
    let inside : home < n = home_below n hash (omega arith) in
    let q = walk n home s in
    let below : q < n = walk_below n home s inside short in
    let marks = place_marks (group_at groups q) (shaped q below).0 tag (min s FAR) k low set in
    let group : (q * 10 + k) / 10 ≡ q = cell_group q k low in
    let spot : (q * 10 + k) % 10 ≡ k = cell_slot q k low in
    let is_tag : tag_at groups (q * 10 + k) ≡ tag =
    ap (λ g. get_or (group_at groups g).marks ((q * 10 + k) % 10) 0) group ∙ ap (λ j. get_or (group_at groups q).marks j 0) spot ∙ marks.0 in
    let led : steps n home q ≡ s - 0 = steps_walk n home 0 s inside short (omega arith) in
    let is_s : s ≡ s - 0 = omega arith in
    let led' : s ≡ steps n home ((q * 10 + k) / 10) = is_s ∙ sym led ∙ ap (steps n home) (sym group) in
    record {
      inside = omega arith;
      taken = ne_eqb (tag_at groups (q * 10 + k)) 0
          (λ none. let some : 0 < tag = tag_some n hash in let zero_tag : tag ≡ 0 = sym is_tag ∙ none in absurd (omega arith));
      is_tag = is_tag;
      is_distance = ap (λ g. get_or (group_at groups g).marks (10 + (q * 10 + k) % 10) 0) group
          ∙ ap (λ j. get_or (group_at groups q).marks (10 + j) 0) spot ∙ marks.1 ∙ ap (λ t. min t FAR) led';
    }

pub id_found : (groups : List Group) (q k : ℕ) → k < 10 → id_at groups (q * 10 + k) ≡ get_or (group_at groups q).ids k 0
id_found groups q k low =
    ap (λ g. get_or (group_at groups g).ids ((q * 10 + k) % 10) 0) (cell_group q k low)
    ∙ ap (λ j. get_or (group_at groups q).ids j 0) (cell_slot q k low)

-- a candidate of a hash stands under it
pub candidate_under : (groups : List Group) (ids : ℕ) (far : Bool) (hash id : ℕ) → AreShaped groups
    → is_candidate (shown groups ids far) hash id ≡ true → (cell : ℕ) × IsUnder groups hash cell × (id_at groups cell ≡ id)
candidate_under groups ids far hash id shaped found =
    let n = length groups in let home = home_group n hash in let tag = tag_of n hash in
    let step = search_yields groups tag far id n 0 home found in
    let s = step.0 in
    let short : s < n = step.1 in
    let q = walk n home s in
    let below : q < n = walk_below n home s (home_below n hash (omega arith)) short in
    let slot = chosen_stands id (slots_of (group_at groups q) tag (min (0 + s) FAR)) (group_at groups q).ids step.2 in
    let k = slot.0 in
    let low : k < 10 = subst (λ l. k < l) (shaped q below).1 slot.1 in
    let is_s : 0 + s ≡ s = omega arith in (
      q * 10 + k,
      found_under groups hash s k shaped short low
          (subst (λ t. bit_at (slots_of (group_at groups q) tag (min t FAR)) k ≡ 1) is_s slot.2),
      id_found groups q k low ∙ slot.3,
    )

-- what passes a group on its way is counted there
pub passes_way : (groups : List Group) (at cell : ℕ) → is_free groups cell ≡ false → distance_at groups cell ≢ FAR
    → 0 < steps (length groups) at (cell / SLOTS) → steps (length groups) at (cell / SLOTS) ≤ distance_at groups cell → passes groups at cell ≡ true
passes_way groups at cell taken near some upto =
    let way = steps (length groups) at (cell / SLOTS) in
    cond-false (is_free groups cell) _ _ taken ∙ cond-false (nat_eq (distance_at groups cell) FAR) _ _ (ne_eqb (distance_at groups cell) FAR near)
    ∙ cond-true (nat_lt 0 way) _ _ (lt-ltb 0 way some) ∙ le-leb way (distance_at groups cell) upto

-- a search goes on to what stands under its hash
goes_on : (groups : List Group) (ids : ℕ) (far : Bool) (hash cell : ℕ) → IsProbed groups ids far → IsUnder groups hash cell
    → (home s t : ℕ) → home ≡ home_group (length groups) hash → home < length groups → s ≡ steps (length groups) home (cell / SLOTS)
    → s < length groups → walk (length groups) home s ≡ cell / SLOTS → t < s
    → ends_at (group_at groups (walk (length groups) home t)) far ≡ false
goes_on groups ids far hash cell probed under home s t is_home inside is_s short led before =
    let n = length groups in let g = walk n home t in
    elim (cases_eq (distance_at groups cell) FAR) [
      | inl farther ↦
          cond-true far false (nat_eq (group_at groups g).passed 0) (probed.says_far cell under.taken farther)
      | inr near ↦
          let low : g < n = walk_below n home t inside (omega arith) in
          let way : steps n g (cell / SLOTS) ≡ s - t =
          ap (steps n g) (sym led) ∙ steps_walk n home t s inside short (omega arith) in
          let distance : distance_at groups cell ≡ min s FAR =
          under.is_distance ∙ ap (λ h. min (steps n h (cell / SLOTS)) FAR) (sym is_home) ∙ ap (λ w. min w FAR) (sym is_s) in
          let counts : passes groups g cell ≡ true = passes_way groups g cell under.taken near (omega arith) (omega (arith, near)) in
          let some : 0 < tally (passes groups g) (SLOTS * n) = tally_some (passes groups g) cell (SLOTS * n) under.inside counts in
          let is : (group_at groups g).passed ≡ tally (passes groups g) (SLOTS * n) = probed.counted g low in
          let not_none : nat_eq (group_at groups g).passed 0 ≡ false =
          ne_eqb (group_at groups g).passed 0 (λ none. let zero_count : tally (passes groups g) (SLOTS * n) ≡ 0 = sym is ∙ none in absurd (omega arith)) in
          goes_near far (group_at groups g).passed not_none
    ]
  where
    goes_near : (far : Bool) (passed : ℕ) → nat_eq passed 0 ≡ false → (if far then false else nat_eq passed 0) ≡ false
    goes_near true passed some = refl
    goes_near false passed some = some

pub cell_below : (c n : ℕ) → c < 10 * n → c / 10 < n
cell_below c n within = omega arith

-- what stands under a hash is among the ids that a step of a search for it yields
pub under_among : (groups : List Group) (hash cell : ℕ) → AreShaped groups → IsUnder groups hash cell
    → is_among (id_at groups cell)
    (slots_of (group_at groups (cell / 10)) (tag_of (length groups) hash)
    (min (steps (length groups) (home_group (length groups) hash) (cell / 10)) FAR))
    (group_at groups (cell / 10)).ids ≡ true
under_among groups hash cell shaped under =
    let n = length groups in let tag = tag_of n hash in let q = cell / 10 in let k = cell % 10 in
    let s = steps n (home_group n hash) q in
    let within : cell < 10 * n = under.inside in
    let low : k < 10 = omega arith in
    let shape = shaped q (cell_below cell n within) in
    stands_chosen (id_at groups cell) (slots_of (group_at groups q) tag (min s FAR)) k (group_at groups q).ids
    (subst (λ l. k < l) (sym shape.1) low)
    (marks_place (group_at groups q) shape.0 tag (min s FAR) k low under.is_tag under.is_distance) refl

-- what stands under a hash is a candidate of it
pub under_candidate : (groups : List Group) (ids : ℕ) (far : Bool) (hash cell : ℕ) → IsProbed groups ids far → IsUnder groups hash cell
    → is_candidate (shown groups ids far) hash (id_at groups cell) ≡ true
under_candidate groups ids far hash cell probed under =
    let n = length groups in let home = home_group n hash in let tag = tag_of n hash in let id = id_at groups cell in
    let within : cell < 10 * n = under.inside in
    let q = cell / 10 in
    let below : q < n = cell_below cell n within in
    let inside : home < n = home_below n hash (omega arith) in
    let s = steps n home q in
    let short : s < n = steps_below n home q inside below in
    let led : walk n home s ≡ q = walk_steps n home q inside below in
    let is_s : s ≡ 0 + s = omega arith in
    yields_search groups tag far id n 0 home s short
    (λ t before. goes_on groups ids far hash cell probed under home s t refl inside refl short led before)
    (subst (λ g. is_among id (slots_of (group_at groups g) tag (min (0 + s) FAR)) (group_at groups g).ids ≡ true) (sym led)
    (subst (λ t. is_among id (slots_of (group_at groups q) tag (min t FAR)) (group_at groups q).ids ≡ true) is_s
    (under_among groups hash cell probed.shaped under)))

-- and is below the number that ids must be below
pub candidate_below : (groups : List Group) (ids : ℕ) (far : Bool) (hash id : ℕ) → IsProbed groups ids far
    → is_candidate (shown groups ids far) hash id ≡ true → id < ids
candidate_below groups ids far hash id lies found =
    let under = candidate_under groups ids far hash id lies.shaped found in subst (λ n. n < ids) under.2 (lies.below under.0 under.1.taken)

-- ---- a table without ids

pub record IsCleared (groups : List Group) (ids : ℕ) : Type 0 where
  pub lies : IsProbed groups ids false
  pub empty : (hash : ℕ) → candidates (shown groups ids false) hash ≡ []

-- a list of which no id is one
pub no_ids : (ids : List ℕ) → ((id : ℕ) → list_any (nat_eq id) ids ≡ true → ⊥) → ids ≡ []
no_ids [] none = refl
no_ids (id ∷ ids) none = absurd (none id (or_left (nat_eq id id) (list_any (nat_eq id) ids) (eq-eqb id id refl)))

zeros : (n k : ℕ) → ◌≡◌ {A = ℕ} (get_or (replicate n 0) k 0) 0
zeros n k =
    elim (cases_lt k n) [
      | inl within ↦ get_or-replicate {A = ℕ} n k 0 0 within
      | inr past ↦ get_or_past {X = ℕ} (replicate n 0) k 0 (subst (λ m. m ≤ k) (sym (length-replicate {A = ℕ} n 0)) past)
    ]

nowhere : Group
nowhere = record { marks = []; passed = 0; ids = [] }

empty_group : (len at : ℕ) → (group_at (replicate len FREE) at ≡ FREE) ⊎ (group_at (replicate len FREE) at ≡ nowhere)
unfolding nowhere
empty_group len at =
    elim (cases_lt at len) [
      | inl within ↦ inl (get_or-replicate len at FREE nowhere within)
      | inr past ↦ inr (get_or_past (replicate len FREE) at nowhere (subst (λ m. m ≤ at) (sym (length-replicate len FREE)) past))
    ]

all_free : (len cell : ℕ) → is_free (replicate len FREE) cell ≡ true
unfolding nowhere
all_free len cell =
    elim (empty_group len (cell / 10)) [
      | inl is ↦ ap (λ g. nat_eq (get_or g.marks (cell % 10) 0) 0) is ∙ ap (λ m. nat_eq m 0) (zeros 20 (cell % 10))
      | inr is ↦ ap (λ g. nat_eq (get_or g.marks (cell % 10) 0) 0) is ∙ ap (λ m. nat_eq m 0) (get_or_past {X = ℕ} [] (cell % 10) 0 (omega arith))
    ]

lies_cleared : (len ids : ℕ) → ids ≤ 5 * len → 10 * len < 2 ^ 32 → IsProbed (replicate len FREE) ids false
unfolding nowhere
lies_cleared len ids fits most =
    let is_len : length (replicate len FREE) ≡ len = length-replicate len FREE in
    record {
      room = omega arith;
      most = omega arith;
      shaped = λ at within.
          let is : group_at (replicate len FREE) at ≡ FREE = get_or-replicate len at FREE nowhere (subst (λ n. at < n) is_len within) in
          (ap (λ g. length g.marks) is, ap (λ g. length g.ids) is);
      once = λ cell other taken. absurd (false≢true (sym taken ∙ all_free len cell));
      below = λ cell taken. absurd (false≢true (sym taken ∙ all_free len cell));
      hashed = λ cell taken. absurd (false≢true (sym taken ∙ all_free len cell));
      counted = λ at within.
          let is : group_at (replicate len FREE) at ≡ FREE = get_or-replicate len at FREE nowhere (subst (λ n. at < n) is_len within) in
          ap (λ g. g.passed) is
          ∙ sym (tally_none (passes (replicate len FREE) at) (10 * length (replicate len FREE))
          (λ k. cond-true (is_free (replicate len FREE) k) _ _ (all_free len k)));
      says_far = λ cell taken. absurd (false≢true (sym taken ∙ all_free len cell));
    }

pub cleared : (groups : List Group) (len ids : ℕ) → groups ≡ replicate len FREE → ids ≤ 5 * len → 10 * len < 2 ^ 32 → IsCleared groups ids
cleared groups len ids is fits most =
    subst (λ xs. IsCleared xs ids) (sym is) (
    let lies = lies_cleared len ids fits most in
    record {
      lies = lies;
      empty = λ hash.
          no_ids (candidates (shown (replicate len FREE) ids false) hash) (λ id found.
          let under = candidate_under (replicate len FREE) ids false hash id lies.shaped found in
          false≢true (sym under.1.taken ∙ all_free len under.0));
    })
