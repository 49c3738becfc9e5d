-- Lemmas on gets or inserts, and on modifications.
use Rattle.std.proofs.Common.{ℕ, [], ap, inl, inr, refl, sym}
use Rattle.moka_common.specs.Keys.{Keys}
use Rattle.moka_unsync_model.specs.Lookup.{after_get}
use Rattle.moka_unsync_model.specs.Step.{Done, Found, OutOfMemory, Truth}
use Rattle.moka_unsync_model.specs.Laws.{GetsOrInsertsAreRuns, ModificationsAreCalls}

module _ {K V S W : Type 0} (keys : Keys K S) (weighs : W → K → V → ℕ → W → Type 0) where
  pub gets_or_inserts : GetsOrInsertsAreRuns keys weighs
  gets_or_inserts =
      record {
        got = λ old new key value now got. (Found _, [], new, refl, (ap Found (sym got.found), got.step), (refl, refl));
        inserted = λ old new key value now put. (
          Found _,
          _,
          after_get keys old key now,
          refl,
          (ap Found (sym put.missed), refl),
          (Done, [], new, refl, inl (refl, put.step.put), (refl, refl)),
        );
        refused = λ old new key value now put. (
          Found _,
          _,
          after_get keys old key now,
          refl,
          (ap Found (sym put.missed), refl),
          (OutOfMemory, [], new, refl, inr (refl, put.step), (refl, refl)),
        );
      }

  pub modifications : (changes : V → V → Type 0) → ModificationsAreCalls keys weighs changes
  modifications changes =
      record {
        modified = λ old new key now done. inl (refl, done.put);
        looked = λ old new key now left. (ap Truth (sym left.0), left.1);
      }
