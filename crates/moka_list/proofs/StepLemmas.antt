-- What an id that is put, or taken out, makes of the candidates.
use Rattle.std.proofs.Common.{◌≡◌, ◌≢◌, ℕ, ◌+◌, ◌*◌, ◌/◌, ◌^◌, ◌<◌, ◌≤◌, Bool, true, false, nat_eq, List, length}
use Rattle.std.proofs.Common.{refl, sym, ap, subst, ◌∙◌, arith, zero, suc, inl, inr}
use Rattle.std.specs.Prelude.{if◌then◌else◌, min}
use Rattle.std.proofs.lemmas.Bool.{cases_eq, cond-true, eq-eqb, false≢true, false_from_ne_true}
use Rattle.moka_list.specs.declared.constants.TheConstants.{FAR, SLOTS, SHARE}
use Rattle.moka_list.specs.declared.group.Group.{Group}
use Rattle.moka_list.specs.HashIndex.{Adds, Removes, group_at, home_group, is_candidate, tag_of}
use Rattle.moka_list.specs.Probed.{AreShaped, IsProbed, IsUnder, SameBut, distance_at, id_at, is_free, passes, passing, steps, tag_at, tally}
use Rattle.moka_list.proofs.StandsLemmas.{candidate_under, shown, under_candidate}

same_truth : (a b : Bool) → (a ≡ true → b ≡ true) → (b ≡ true → a ≡ true) → a ≡ b
same_truth true b there back = sym (there refl)
same_truth false true there back = back refl
same_truth false false there back = refl

turned : (old new : List Group) (cell : ℕ) → SameBut old cell new → SameBut new cell old
turned old new cell same =
    record {
      len = sym same.len;
      tags = λ other differs. sym (same.tags other differs);
      distances = λ other differs. sym (same.distances other differs);
      ids = λ other differs. sym (same.ids other differs);
    }

-- what stands elsewhere still stands under what it stood
pub under_still : (old new : List Group) (cell hash other : ℕ) → SameBut old cell new → other ≢ cell → IsUnder old hash other
    → IsUnder new hash other
under_still old new cell hash other same differs under =
    record {
      inside = subst (λ n. other < SLOTS * n) (sym same.len) under.inside;
      taken = ap (λ t. nat_eq t 0) (same.tags other differs) ∙ under.taken;
      is_tag = same.tags other differs ∙ under.is_tag ∙ ap (λ n. tag_of n hash) (sym same.len);
      is_distance = same.distances other differs ∙ under.is_distance
          ∙ ap (λ n. min (steps n (home_group n hash) (other / SLOTS)) FAR) (sym same.len);
    }

-- a candidate stays one, if it isn't what stands at the slot
candidate_still : (old new : List Group) (ids : ℕ) (far far_then : Bool) (cell hash id : ℕ) → IsProbed old ids far
    → IsProbed new ids far_then → SameBut old cell new → (is_free old cell ≡ false → id_at old cell ≡ id → ⊥)
    → is_candidate (shown old ids far) hash id ≡ true → is_candidate (shown new ids far_then) hash id ≡ true
candidate_still old new ids far far_then cell hash id before after same elsewhere found =
    let at = candidate_under old ids far hash id before.shaped found in
    let differs : at.0 ≢ cell =
    λ here. elsewhere (subst (λ c. is_free old c ≡ false) here at.1.taken) (subst (λ c. id_at old c ≡ id) here at.2) in
    subst (λ i. is_candidate (shown new ids far_then) hash i ≡ true) (same.ids at.0 differs ∙ at.2)
    (under_candidate new ids far_then hash at.0 after (under_still old new cell hash at.0 same differs at.1))

pub added : (old new : List Group) (ids : ℕ) (far far_then : Bool) (cell hash id : ℕ) → IsProbed old ids far → IsProbed new ids far_then
    → SameBut old cell new → is_free old cell ≡ true → IsUnder new hash cell → id_at new cell ≡ id
    → Adds (shown old ids far) id hash (shown new ids far_then)
added old new ids far far_then cell hash id before after same free under is =
    record {
      under = subst (λ i. is_candidate (shown new ids far_then) hash i ≡ true) is (under_candidate new ids far_then hash cell after under);
      others = λ hash_too other differs.
          same_truth (is_candidate (shown new ids far_then) hash_too other) (is_candidate (shown old ids far) hash_too other)
          (candidate_still new old ids far_then far cell hash_too other after before (turned old new cell same)
          (λ taken there. false≢true (sym differs ∙ eq-eqb id other (sym is ∙ there))))
          (candidate_still old new ids far far_then cell hash_too other before after same
          (λ taken there. false≢true (sym taken ∙ free)));
      ids = refl;
    }

pub removed : (old new : List Group) (ids : ℕ) (far far_then : Bool) (cell id : ℕ) → IsProbed old ids far → IsProbed new ids far_then
    → SameBut old cell new → is_free old cell ≡ false → id_at old cell ≡ id → is_free new cell ≡ true
    → Removes (shown old ids far) id (shown new ids far_then)
removed old new ids far far_then cell id before after same taken is free =
    record {
      gone = λ hash.
          false_from_ne_true (is_candidate (shown new ids far_then) hash id) (λ found.
          let at = candidate_under new ids far_then hash id after.shaped found in
          let differs : at.0 ≢ cell = λ here. false≢true (sym at.1.taken ∙ ap (is_free new) here ∙ free) in
          let was = under_still new old cell hash at.0 (turned old new cell same) differs at.1 in
          differs (before.once at.0 cell was.taken taken (sym (same.ids at.0 differs) ∙ at.2 ∙ sym is)));
      others = λ hash_too other differs.
          same_truth (is_candidate (shown new ids far_then) hash_too other) (is_candidate (shown old ids far) hash_too other)
          (candidate_still new old ids far_then far cell hash_too other after before (turned old new cell same)
          (λ stands there. false≢true (sym stands ∙ free)))
          (candidate_still old new ids far far_then cell hash_too other before after same
          (λ stands there. false≢true (sym differs ∙ eq-eqb id other (sym is ∙ there))));
      ids = refl;
    }

-- ---- counts

abbrev pub bit_of : Bool → ℕ
bit_of test = if test then 1 else 0

tally_same : (one two : ℕ → Bool) (n : ℕ) → ((k : ℕ) → k < n → two k ≡ one k) → tally two n ≡ tally one n
tally_same one two zero same = refl
tally_same one two (suc n) same =
    ap (λ b. bit_of b + tally two n) (same n (omega arith)) ∙ ap (λ t. bit_of (one n) + t) (tally_same one two n (λ k low. same k (omega arith)))

-- one more passes the test
pub tally_more : (one two : ℕ → Bool) (at n : ℕ) → at < n → one at ≡ false → ((k : ℕ) → k ≢ at → two k ≡ one k)
    → tally two n ≡ tally one n + bit_of (two at)
tally_more one two at zero within not_yet same = absurd (omega arith)
tally_more one two at (suc n) within not_yet same =
    elim (cases_eq n at) [
      | inl here ↦
          let rest : tally two n ≡ tally one n = tally_same one two n (λ k low. same k (λ is. absurd (omega arith))) in
          let none : bit_of (one n) ≡ 0 = ap (λ k. bit_of (one k)) here ∙ ap bit_of not_yet in
          let this : bit_of (two n) ≡ bit_of (two at) = ap (λ k. bit_of (two k)) here in omega (arith, rest, none, this)
      | inr other ↦
          let rest : tally two n ≡ tally one n + bit_of (two at) = tally_more one two at n (omega (arith, other)) not_yet same in
          let this : bit_of (two n) ≡ bit_of (one n) = ap bit_of (same n other) in omega (arith, rest, this)
    ]

passes_still : (old new : List Group) (cell at k : ℕ) → SameBut old cell new → k ≢ cell → passes new at k ≡ passes old at k
passes_still old new cell at k same differs =
    ap (λ t. passing t (distance_at new k) (steps (length new) at (k / SLOTS))) (same.tags k differs)
    ∙ ap (λ a. passing (tag_at old k) a (steps (length new) at (k / SLOTS))) (same.distances k differs)
    ∙ ap (λ n. passing (tag_at old k) (distance_at old k) (steps n at (k / SLOTS))) same.len

pub free_passes : (groups : List Group) (at cell : ℕ) → is_free groups cell ≡ true → passes groups at cell ≡ false
free_passes groups at cell free =
    cond-true (is_free groups cell) false _ free

-- ---- the table lies well again

pub lies_added : (old new : List Group) (ids : ℕ) (far far_then : Bool) (cell hash id : ℕ) → IsProbed old ids far → SameBut old cell new
    → is_free old cell ≡ true → IsUnder new hash cell → id_at new cell ≡ id → id < ids
    → ((other : ℕ) → is_candidate (shown old ids far) other id ≡ false) → AreShaped new
    → ((at : ℕ) → at < length new → (group_at new at).passed ≡ (group_at old at).passed + bit_of (passes new at cell))
    → (distance_at new cell ≡ FAR → far_then ≡ true) → (far ≡ true → far_then ≡ true) → IsProbed new ids far_then
lies_added old new ids far far_then cell hash id before same free under is room absent shaped counts says still =
    record {
      room = subst (λ n. ids ≤ SHARE * n) (sym same.len) before.room;
      most = subst (λ n. SLOTS * n < 2 ^ 32) (sym same.len) before.most;
      shaped = shaped;
      once = λ one two taken_one taken_two alike.
          elim (cases_eq one cell) [
            | inl here ↦
                elim (cases_eq two cell) [
                  | inl too ↦ here ∙ sym too
                  | inr there ↦
                      absurd (nowhere two (was_taken two there taken_two)
                      (sym (same.ids two there) ∙ sym alike ∙ ap (id_at new) here ∙ is))
                ]
            | inr elsewhere ↦
                elim (cases_eq two cell) [
                  | inl here ↦
                      absurd (nowhere one (was_taken one elsewhere taken_one) (sym (same.ids one elsewhere) ∙ alike ∙ ap (id_at new) here ∙ is))
                  | inr there ↦
                      before.once one two (was_taken one elsewhere taken_one) (was_taken two there taken_two)
                      (sym (same.ids one elsewhere) ∙ alike ∙ same.ids two there)
                ]
          ];
      below = λ c taken.
          elim (cases_eq c cell) [
            | inl here ↦ subst (λ i. i < ids) (sym (ap (id_at new) here ∙ is)) room
            | inr there ↦ subst (λ i. i < ids) (sym (same.ids c there)) (before.below c (was_taken c there taken))
          ];
      hashed = λ c taken.
          elim (cases_eq c cell) [
            | inl here ↦ (hash, subst (λ k. IsUnder new hash k) (sym here) under)
            | inr there ↦
                let was = before.hashed c (was_taken c there taken) in (was.0, under_still old new cell was.0 c same there was.1)
          ];
      counted = λ at within.
          let low : at < length old = subst (λ n. at < n) same.len within in
          counts at within ∙ ap (λ p. p + bit_of (passes new at cell)) (before.counted at low)
          ∙ sym (tally_more (passes old at) (passes new at) cell (SLOTS * length old)
          (subst (λ n. cell < SLOTS * n) same.len under.inside) (free_passes old at cell free)
          (λ k differs. passes_still old new cell at k same differs))
          ∙ ap (λ n. tally (passes new at) (SLOTS * n)) (sym same.len);
      says_far = λ c taken farther.
          elim (cases_eq c cell) [
            | inl here ↦ says (sym (ap (distance_at new) here) ∙ farther)
            | inr there ↦ still (before.says_far c (was_taken c there taken) (sym (same.distances c there) ∙ farther))
          ];
    }
  where
    was_taken : (c : ℕ) → c ≢ cell → is_free new c ≡ false → is_free old c ≡ false
    was_taken c there taken = ap (λ t. nat_eq t 0) (sym (same.tags c there)) ∙ taken

    nowhere : (c : ℕ) → is_free old c ≡ false → id_at old c ≡ id → ⊥
    nowhere c taken stands =
        let hashed = before.hashed c taken in
        false≢true (sym (absent hashed.0) ∙ subst (λ i. is_candidate (shown old ids far) hashed.0 i ≡ true) stands
        (under_candidate old ids far hashed.0 c before hashed.1))

pub lies_removed : (old new : List Group) (ids : ℕ) (far : Bool) (cell : ℕ) → IsProbed old ids far → SameBut old cell new
    → cell < SLOTS * length old → is_free new cell ≡ true → AreShaped new
    → ((at : ℕ) → at < length new → (group_at old at).passed ≡ (group_at new at).passed + bit_of (passes old at cell)) → IsProbed new ids far
lies_removed old new ids far cell before same inside free shaped counts =
    record {
      room = subst (λ n. ids ≤ SHARE * n) (sym same.len) before.room;
      most = subst (λ n. SLOTS * n < 2 ^ 32) (sym same.len) before.most;
      shaped = shaped;
      once = λ one two taken_one taken_two alike.
          before.once one two (was_taken one taken_one) (was_taken two taken_two)
          (sym (same.ids one (not_there one taken_one)) ∙ alike ∙ same.ids two (not_there two taken_two));
      below = λ c taken. subst (λ i. i < ids) (sym (same.ids c (not_there c taken))) (before.below c (was_taken c taken));
      hashed = λ c taken.
          let was = before.hashed c (was_taken c taken) in (was.0, under_still old new cell was.0 c same (not_there c taken) was.1);
      counted = λ at within.
          let low : at < length old = subst (λ n. at < n) same.len within in
          let was : (group_at old at).passed ≡ tally (passes old at) (SLOTS * length old) = before.counted at low in
          let change : (group_at old at).passed ≡ (group_at new at).passed + bit_of (passes old at cell) = counts at within in
          let more : tally (passes old at) (SLOTS * length old) ≡ tally (passes new at) (SLOTS * length old) + bit_of (passes old at cell) =
          tally_more (passes new at) (passes old at) cell (SLOTS * length old) inside (free_passes new at cell free)
          (λ k differs. sym (passes_still old new cell at k same differs)) in
          let now : (group_at new at).passed ≡ tally (passes new at) (SLOTS * length old) =
          cancel (group_at new at).passed (tally (passes new at) (SLOTS * length old)) (bit_of (passes old at cell)) (sym change ∙ was ∙ more) in
          now ∙ ap (λ n. tally (passes new at) (SLOTS * n)) (sym same.len);
      says_far = λ c taken farther.
          before.says_far c (was_taken c taken) (sym (same.distances c (not_there c taken)) ∙ farther);
    }
  where
    not_there : (c : ℕ) → is_free new c ≡ false → c ≢ cell
    not_there c taken here = false≢true (sym taken ∙ ap (is_free new) here ∙ free)

    was_taken : (c : ℕ) → is_free new c ≡ false → is_free old c ≡ false
    was_taken c taken = ap (λ t. nat_eq t 0) (sym (same.tags c (not_there c taken))) ∙ taken

    cancel : (a b k : ℕ) → a + k ≡ b + k → a ≡ b
    cancel a b k same = omega arith
