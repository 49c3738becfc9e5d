-- What a caller has under way, step by step.
use Rattle.std.proofs.Common.{◌≡◌, ℕ, Bool, true, refl}
use Rattle.moka_sync_model.specs.declared.phase.Phase.{Phase as PhaseName}
use Rattle.moka_sync_model.specs.declared.phase.Phase.TheVariants as name
use Rattle.moka_sync_model.specs.declared.event.Event.{Event}
use Rattle.moka_sync_model.specs.Reply.{Reply}
use Rattle.moka_sync_model.specs.WholeCall.{Log, Turns, LastTurn, NextTurn}
use Rattle.moka_sync_model.specs.Steps.{MoreTurns, OneTurn, TakesTurns, goes_on}

-- a maintenance goes on wherever it isn't idle
pub goes_on_elsewhere : (phase : PhaseName) → (phase ≡ name.Idle → ⊥) → goes_on phase ≡ true
goes_on_elsewhere name.Idle other = absurd (other refl)
goes_on_elsewhere phase other = refl

module _ {W K V : Type 0} (allowed : W → Event K V → Reply K V → W → Type 0) (decides : W → Log → ℕ → Bool → W → Type 0)
    (is_pending : W → Bool) (caller : ℕ) where
  -- turns that end a maintenance
  pub turns_end : (old new : W) → TakesTurns allowed name.Idle old new → Turns allowed decides is_pending caller old new
  turns_end old new (OneTurn _ _ _ turn) = LastTurn old new turn
  turns_end old new (MoreTurns _ between _ next _ more first later) = NextTurn old next new between more first (turns_end next new later)

  -- turns that others follow
  pub turns_follow : (phase : PhaseName) → (phase ≡ name.Idle → ⊥) → (old new end : W) → TakesTurns allowed phase old new
      → Turns allowed decides is_pending caller new end → Turns allowed decides is_pending caller old end
  turns_follow phase on old new end (OneTurn _ _ _ turn) later = NextTurn old new end phase on turn later
  turns_follow phase on old new end (MoreTurns _ between _ next _ more first others) later =
      NextTurn old next end between more first (turns_follow phase on next new end others later)
