-- The parts of a limit, and the caches of a plan.
use Rattle.std.proofs.Common.{◌≡◌, ℕ, zero, suc, ◌+◌, ◌*◌, ◌/◌, ◌%◌, ◌<◌, ◌≤◌, ◌∙◌, List, [], ◌∷◌, ◌++◌, length, Bool, true, false, ap, arith, refl, subst, sym}
use Rattle.std.proofs.Common.{⊎_elim, if◌then◌else◌}
use Rattle.std.specs.Prelude.{nat_lt}
use Rattle.std.proofs.lemmas.Bool.Decides.{nat_tests}
use Rattle.std.proofs.Math.Nat.{mod-lt}
use Rattle.std.proofs.lemmas.Nat.{div-add-mod'}
use mathlib.Core.Option.{some}
use lib.ListN.{get_elem?}
use Rattle.moka_common.specs.Keys.{Keys}
use Rattle.moka_unsync.specs.Builder.{reserved}
use Rattle.moka_unsync_model.specs.CacheState.{CacheState, new_cache}
use Rattle.moka_row.proofs.Rules.{at_end}
use Rattle.moka_segments.specs.declared.plan.Plan.{Plan}
use Rattle.moka_segments.specs.Plan.{settings_of, share, total}
use Rattle.moka_segments.specs.Rules.{Rules}
use Rattle.moka_segments.specs.History.{IsAccount}
use Rattle.moka_segments.specs.Calls.{AreCaches}

low : (limit count n : ℕ) → n ≤ limit % count → total (share limit count) n ≡ limit / count * n + n
low limit count zero le = let e : limit / count * 0 + 0 ≡ 0 = omega arith in sym e
low limit count (suc n) le =
    let before = low limit count n (omega arith) in
    let one : nat_lt n (limit % count) ≡ true = grind (arith, nat_tests) in
    let e : share limit count n ≡ limit / count + 1 = ap (λ b. limit / count + (if b then 1 else 0)) one in
    ap (λ (m : ℕ). m + share limit count n) before ∙ (ap (λ (m : ℕ). (limit / count * n + n) + m) e ∙ omega arith)

high : (limit count n : ℕ) → limit % count ≤ n → total (share limit count) n ≡ limit / count * n + limit % count
high limit count zero le = let e : limit / count * 0 + limit % count ≡ 0 = omega arith in sym e
high limit count (suc n) le = go (nat_lt n (limit % count)) refl (high limit count n)
  where
    go : (b : Bool) → nat_lt n (limit % count) ≡ b → (limit % count ≤ n → total (share limit count) n ≡ limit / count * n + limit % count)
        → total (share limit count) (suc n) ≡ limit / count * suc n + limit % count
    go true is less =
        let lt : n < limit % count = grind (arith, nat_tests, is) in
        let all = low limit count (suc n) (omega arith) in
        all ∙ omega arith
    go false is less =
        let ge : limit % count ≤ n = grind (arith, nat_tests, is) in
        let before = less ge in
        let e : share limit count n ≡ limit / count + 0 = ap (λ b. limit / count + (if b then 1 else 0)) is in
        ap (λ (m : ℕ). m + share limit count n) before ∙ (ap (λ (m : ℕ). (limit / count * n + limit % count) + m) e ∙ omega arith)

-- the parts are the limit together
pub shares : (limit count : ℕ) → 0 < count → total (share limit count) count ≡ limit
shares limit count any = high limit count count (let m = mod-lt limit any in omega arith) ∙ div-add-mod' limit count

module _ {K V S W : Type 0} (keys : Keys K S) (weighs : W → K → V → ℕ → W → Type 0) (rules : Rules K V) (ready : W → Type 0) where
  -- one more cache
  pub one_more_cache : (plan : Plan S) (caches : List (CacheState K V S W)) (x : CacheState K V S W) (i : ℕ) (weigher : W)
      → AreCaches keys weighs rules plan ready caches
      → length caches ≡ i → x ≡ new_cache (settings_of plan i) plan.shares weigher x.capacity
      → reserved (share plan.initial_capacity plan.count i) ≤ x.capacity → ready weigher → AreCaches keys weighs rules plan ready (caches ++ x ∷ [])
  one_more_cache plan caches x i weigher all here new room is_ready j y there =
      ⊎_elim
      (λ (was : get_elem? caches j ≡ some y). all j y was)
      (λ (last : (j ≡ length caches) × (x ≡ y)).
      subst (λ (z : ℕ × CacheState K V S W). IsAccount keys weighs rules ready plan z.0 [] z.1) (λ k. (sym (last.0 ∙ here) k, last.1 k))
      (record { weigher = weigher; capacity = x.capacity; led = new; room = room; own = tt; ruled = tt }, subst (λ c. ready c.weigher) (sym new) is_ready))
      (at_end caches x y j there)

  pub no_caches : (plan : Plan S) → AreCaches keys weighs rules plan ready []
  no_caches plan i x e = absurd (cc)
