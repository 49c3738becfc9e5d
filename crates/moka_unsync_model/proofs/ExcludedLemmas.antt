-- Lemmas on what is not current, and on what is no cause.
use Rattle.std.proofs.Common.{◌≡◌, ◌⊎◌, inl, inr, arith, ◌≤◌, ◌+◌, ◌-◌, ◌^◌, min, nat_lt, if◌then◌else◌}
use Rattle.std.proofs.Common.{ℕ, Bool, false, true, List, ◌∷◌, Option, Some, None, refl, sym, ap, ◌∙◌}
use Rattle.std.proofs.lemmas.Bool.{cond-true, false≢true, le-leb, ltb-true, or_left}
use Rattle.std.specs.Cmp.{IsEquivalence}
use Rattle.moka_common.specs.Keys.{Keys}
use Rattle.moka_common.specs.Moment.{idle_expired, is_past}
use Rattle.moka_common.specs.Settings.{idle_nanos, live_nanos}
use Rattle.moka_unsync_model.specs.Deadline.{end_of}
use Rattle.moka_unsync_model.specs.History.{Exchange, LastWrite, is_over, last_write}
use Rattle.moka_unsync_model.specs.Removal.{Invalidated, Expired, AboveLimit, Displaced, GivenUp, Rejected}
use Rattle.moka_unsync_model.specs.Excluded.{EntriesWithoutCauseStay, ExpiredValuesAreNotCurrent, ReplacedValuesAreNotCurrent, inserted}
use Rattle.moka_unsync_model.proofs.HistoryLemmas.{one_of, something}

module _ {K S : Type 0} (keys : Keys K S) (laws : IsEquivalence keys.eq) (V : Type 0) where
  -- the last write is that of an insert just made
  known-inserted : (past : List (Exchange K V)) (key : K) (value : V) (own : Option ℕ) (deadline put : ℕ) (write : LastWrite V)
      → last_write keys key (inserted key value own deadline put ∷ past) ≡ Some write
      → record { value = value; deadline = deadline; used = put } ≡ write
  known-inserted past key value own deadline put write known =
      let new : LastWrite V = record { value = value; deadline = deadline; used = put } in
      one_of (cond-true (keys.eq key key) (Some new) (last_write keys key past) (laws.refl key)) known

  pub replaced : ReplacedValuesAreNotCurrent keys V
  replaced policy past key old new own deadline put now differ (write, known, is, fresh) =
      differ (sym (ap (λ w. w.value) (known-inserted past key new own deadline put write known) ∙ is))

  -- what is beyond the last moment counts as one moment after it
  within : (sum now : ℕ) → sum ≤ now → (if nat_lt (2 ^ 64 - 1) sum then min sum (2 ^ 64 - 1) + 1 else min sum (2 ^ 64 - 1)) ≤ now
  within sum now passed = by (nat_lt (2 ^ 64 - 1) sum) refl
    where
      by : (b : Bool) → nat_lt (2 ^ 64 - 1) sum ≡ b → (if b then min sum (2 ^ 64 - 1) + 1 else min sum (2 ^ 64 - 1)) ≤ now
      by true is = grind (arith, ltb-true (2 ^ 64 - 1) sum is, passed)
      by false is = grind (arith, passed)

  -- an entry ends no later than either time to live has passed
  ends : (nanos lived put now : ℕ) (own : Option ℕ) → (lived ≡ nanos) ⊎ (own ≡ Some lived) → put + lived ≤ now → end_of (Some nanos) own put ≤ now
  ends nanos lived put now None (inl is) passed = within (put + nanos) now (grind (arith, is, passed))
  ends nanos lived put now None (inr none) passed = something refl none
  ends nanos lived put now (Some own) (inl is) passed = within (put + min nanos own) now (grind (arith, is, passed))
  ends nanos lived put now (Some own) (inr is) passed =
      let same : own ≡ lived = one_of refl is in
      within (put + min nanos own) now (grind (arith, same, passed))

  pub expired : ExpiredValuesAreNotCurrent keys V
  expired policy past key value own put now nanos lived lives which passed (write, known, is, fresh) =
      let deadline = end_of (live_nanos policy) own put in
      let over : is_past (live_nanos policy) deadline now ≡ true =
      (λ i. is_past (lives i) (end_of (lives i) own put) now)
      ∙ le-leb (end_of (Some nanos) own put) now (ends nanos lived put now own which passed) in
      false≢true
      (sym fresh
      ∙ (ap (is_over policy now) (sym (known-inserted past key value own deadline put write known))
      ∙ or_left (is_past (live_nanos policy) deadline now) (idle_expired (idle_nanos policy) put now) over))

module _ {K S : Type 0} (keys : Keys K S) (V W : Type 0) where
  pub without_cause : EntriesWithoutCauseStay keys V W
  without_cause old new request e unlimited valid fresh (Invalidated invalid) = false≢true (sym valid ∙ invalid)
  without_cause old new request e unlimited valid fresh (Expired now at is) = false≢true (sym (fresh now at) ∙ is)
  without_cause old new request e unlimited valid fresh (AboveLimit now limit at limited more) = something unlimited limited
  without_cause old new request e unlimited valid fresh (Displaced key value own now limit entered asked other stands used limited full) =
      something unlimited limited
  without_cause old new request e unlimited valid fresh (Rejected key value own now limit asked waits limited full) = something unlimited limited
  without_cause old new request e unlimited valid fresh (GivenUp key value own now limit entered asked stands waits grown limited full) =
      something unlimited limited
