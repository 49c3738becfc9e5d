use Rattle.std.proofs.Common.{◌≡◌, ◌≤◌, ◌∙◌, ap, subst, sym, true}
use Rattle.moka_unsync_model.specs.Contents.{total_weight}
use Rattle.moka_unsync_model.specs.Cleanup.{after_expiry, after_trim, after_cleanup, is_expired}
use Rattle.moka_unsync_model.specs.Told.{IsAbove, TellsCleanup, TellsWhatLeft}
use Rattle.moka_unsync_model.specs.declared.listener.Cause.TheVariants.{Expired}
use Rattle.moka_unsync_model.proofs.ToldLemmas.{also_for, untold}
use Rattle.moka_unsync_model.proofs.MapLemmas.{expiry-same}
use Rattle.moka_store.specs.Store.{contents_of, entries_of}
use Rattle.moka_unsync.proofs.TurnLemmas.{lasting, trim-above, trim-within}
use Rattle.moka_unsync.proofs.LeavingLemmas.{is_above, cleanup_told}
use Rattle.moka_unsync.proofs.cleanup.Bounds.clean_up.Goals.{then-self, else-self}
use Rattle.moka_unsync.proofs.cleanup.Bounds.clean_up.Goals as goal

pub returns-then-weight-self-clause-step : goal.returns-then-weight-self-clause-step
returns-then-weight-self-clause-step g c =
    let eq = g.K.PartialEq.eq in
    let expired : contents_of c.if-self.store ≡ after_expiry eq c.self.inside.limits c.args.now (contents_of c.args.store.now) =
    elim c.if-self.branch [
      | then-self w ↦
          ap contents_of w.store-is ∙ w.expire.ensures.step
      | else-self w ↦
          ap contents_of w.store-is
          ∙ sym (expiry-same c.self.inside.limits (lasting c.self.inside.limits (sym c.self.invariant.expiring ∙ w.if-self.false)) c.args.now eq
          (contents_of c.args.store.now))
    ] in
    let small = c.weight.type_inv in
    subst (λ p. contents_of c.evict_lru_to.new.store ≡ after_cleanup eq p c.args.now (contents_of c.args.store.now)) c.self.view_is
    (c.evict_lru_to.ensures.step
    ∙ (trim-above eq c.self.inside.limits.max_capacity c.self.inside.max_weight c.weight.result c.self.invariant.limited c.if-weight-self.true small
    (contents_of c.if-self.store)
    ∙ ap (after_trim eq c.self.inside.limits.max_capacity) expired))

pub returns-else-weight-self-clause-step : goal.returns-else-weight-self-clause-step
returns-else-weight-self-clause-step g c =
    let eq = g.K.PartialEq.eq in
    let expired : contents_of c.if-self.store ≡ after_expiry eq c.self.inside.limits c.args.now (contents_of c.args.store.now) =
    elim c.if-self.branch [
      | then-self w ↦
          ap contents_of w.store-is ∙ w.expire.ensures.step
      | else-self w ↦
          ap contents_of w.store-is
          ∙ sym (expiry-same c.self.inside.limits (lasting c.self.inside.limits (sym c.self.invariant.expiring ∙ w.if-self.false)) c.args.now eq
          (contents_of c.args.store.now))
    ] in
    let within : total_weight (entries_of c.if-self.store) ≤ c.self.inside.max_weight = subst
    (λ w. w ≤ c.self.inside.max_weight) c.weight.ensures.value c.if-weight-self.false in
    subst (λ p. contents_of c.if-self.store ≡ after_cleanup eq p c.args.now (contents_of c.args.store.now)) c.self.view_is
    (trim-within eq c.self.inside.limits.max_capacity c.self.inside.max_weight c.self.invariant.limited (contents_of c.if-self.store) within
    ∙ ap (after_trim eq c.self.inside.limits.max_capacity) expired)

pub returns-then-weight-self-clause-told : goal.returns-then-weight-self-clause-told
returns-then-weight-self-clause-told g c =
    let eq = g.K.PartialEq.eq in
    let hears = g.L.Listener.hears in
    let policy = c.self.inside.limits in
    let old = contents_of c.args.store.now in
    let then = contents_of c.if-self.store in
    let expired : (then ≡ after_expiry eq policy c.args.now old) × TellsWhatLeft hears Expired
    (λ e. is_expired policy c.args.now e ≡ true) old.entries then.entries
    c.args.listener.now c.if-self.listener =
    elim c.if-self.branch [
      | then-self w ↦ (ap contents_of w.store-is ∙ w.expire.ensures.step, rw (w.store-is, w.listener-is) w.expire.ensures.told)
      | else-self w ↦ (
        ap contents_of w.store-is
            ∙ sym (expiry-same policy (lasting policy (sym c.self.invariant.expiring ∙ w.if-self.false)) c.args.now eq old),
        rw (w.store-is, w.listener-is) untold,
      )
    ] in
    let above : IsAbove policy.max_capacity (total_weight then.entries) =
    subst (λ w. IsAbove policy.max_capacity w) c.weight.ensures.value
    (is_above policy.max_capacity c.self.inside.max_weight c.weight.result c.self.invariant.limited c.if-weight-self.true c.weight.type_inv) in
    subst (λ p. TellsCleanup hears eq p c.args.now old c.args.listener.now c.evict_lru_to.new.listener) c.self.view_is
    (cleanup_told hears eq policy c.args.now old then (contents_of c.evict_lru_to.new.store) c.args.listener.now c.if-self.listener c.evict_lru_to.new.listener
    expired.0 (subst (λ p. contents_of c.evict_lru_to.new.store ≡ after_cleanup eq p c.args.now old) (sym c.self.view_is)
    (returns-then-weight-self-clause-step g c))
    expired.1 (also_for (λ e there. above) c.evict_lru_to.ensures.told))

pub returns-else-weight-self-clause-told : goal.returns-else-weight-self-clause-told
returns-else-weight-self-clause-told g c =
    let eq = g.K.PartialEq.eq in
    let hears = g.L.Listener.hears in
    let policy = c.self.inside.limits in
    let old = contents_of c.args.store.now in
    let then = contents_of c.if-self.store in
    let expired : (then ≡ after_expiry eq policy c.args.now old) × TellsWhatLeft hears Expired
    (λ e. is_expired policy c.args.now e ≡ true) old.entries then.entries
    c.args.listener.now c.if-self.listener =
    elim c.if-self.branch [
      | then-self w ↦ (ap contents_of w.store-is ∙ w.expire.ensures.step, rw (w.store-is, w.listener-is) w.expire.ensures.told)
      | else-self w ↦ (
        ap contents_of w.store-is
            ∙ sym (expiry-same policy (lasting policy (sym c.self.invariant.expiring ∙ w.if-self.false)) c.args.now eq old),
        rw (w.store-is, w.listener-is) untold,
      )
    ] in
    subst (λ p. TellsCleanup hears eq p c.args.now old c.args.listener.now c.if-self.listener) c.self.view_is
    (cleanup_told hears eq policy c.args.now old then then c.args.listener.now c.if-self.listener c.if-self.listener
    expired.0 (subst (λ p. then ≡ after_cleanup eq p c.args.now old) (sym c.self.view_is) (returns-else-weight-self-clause-step g c))
    expired.1 untold)
