-- Whether a maintenance is under way, by its phase and by the name of that.
use Rattle.std.proofs.Common.{◌≡◌, ◌≢◌, ◌∙◌, Bool, true, false, ap, refl, sym}
use Rattle.std.proofs.lemmas.Bool.{false≢true}
use Rattle.moka_sync_model.specs.declared.phase.Phase.{Phase as PhaseName}
use Rattle.moka_sync_model.specs.declared.phase.Phase.TheVariants as name
use Rattle.moka_sync_model.specs.Phase as phase
use Rattle.moka_sync_model.specs.Phase.{Phase, is_idle, name_of}

-- a busy phase is not the idle one
pub not_idle : (p : Phase) → is_idle p ≡ false → p ≢ phase.Idle
not_idle p busy is = false≢true (sym busy ∙ ap is_idle is)

-- whether a name is that of the idle phase
abbrev pub is_idle_name : PhaseName → Bool
is_idle_name name.Idle = true
is_idle_name other = false

-- a phase is idle where its name is
pub same_idle : (p : Phase) → is_idle_name (name_of p) ≡ is_idle p
same_idle phase.Idle = refl
same_idle p = refl

-- a busy phase has another name
pub not_named_idle : (p : Phase) → is_idle p ≡ false → name_of p ≢ name.Idle
not_named_idle p busy is = false≢true (sym busy ∙ sym (same_idle p) ∙ ap is_idle_name is)

-- a phase of another name is busy
pub busy_by_name : (p : Phase) → name_of p ≢ name.Idle → is_idle p ≡ false
busy_by_name phase.Idle other = absurd (other refl)
busy_by_name p other = refl
