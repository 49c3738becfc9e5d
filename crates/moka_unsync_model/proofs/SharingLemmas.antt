-- Lemmas on a change of the limits of the parts.
use Rattle.std.proofs.Common.{◌≡◌, ◌-◌, ℕ, Bool, false, All, Option, None, Some, refl}
use Rattle.moka_unsync_model.specs.declared.entry.Entry.{Entry}
use Rattle.moka_unsync_model.specs.declared.entry.Part.{Part}
use Rattle.moka_unsync_model.specs.declared.entry.Part.TheVariants.{Probation}
use Rattle.moka_unsync_model.specs.declared.shares.PartLimits.{PartLimits}
use Rattle.moka_unsync_model.specs.CacheState.{CacheState}
use Rattle.moka_unsync_model.specs.Contents.{Contents, after_leaving, entry_keys, is_protected, protected_of, total_weight}
use Rattle.moka_unsync_model.specs.Insert.{after_turn}
use Rattle.moka_unsync_model.specs.Laws.{Remains}
use Rattle.moka_unsync_model.specs.Memory.{Memory}
use Rattle.moka_unsync_model.specs.Window.{after_sharing, given_up}
use Rattle.moka_unsync_model.proofs.ContentsLemmas.{All-leaving}
use Rattle.moka_unsync_model.proofs.PartLemmas.{All-demoted}
use Rattle.moka_unsync_model.proofs.RemainLemmas.{remains-leaving}

module _ {K V : Type 0} (eq : K → K → Bool) where
  -- what is left once main has given up entries
  abbrev pub stays_of : PartLimits → ℕ → Contents K V → Contents K V
  stays_of limits gained contents = after_leaving eq (entry_keys (given_up limits gained contents.entries)) contents

  pub left-remains : (limits : PartLimits) (gained : ℕ) (contents : Contents K V) → Remains contents (stays_of limits gained contents)
  left-remains limits gained contents = remains-leaving eq (entry_keys (given_up limits gained contents.entries)) contents

  -- what holds of all entries, wherever they are, holds of what stays
  pub All-sharing : (P : Entry K V → Type 0) → ((e : Entry K V) (part : Part) → is_protected part ≡ false → P e → P (record e { part = part }))
      → (limits : PartLimits) (gained : ℕ) (contents : Contents K V) → All P contents.entries → All P (after_sharing eq limits gained contents).entries
  All-sharing P moves limits gained contents all =
      let left = stays_of limits gained contents in
      All-demoted P (λ e protected here. moves e Probation refl here) (total_weight (protected_of left.entries) - limits.protected) left.entries
      (All-leaving eq P (entry_keys (given_up limits gained contents.entries)) contents all)

module _ {K V S W : Type 0} (eq : K → K → Bool) where
  -- a turn leaves the contents as they are, or shares the limit out anew
  pub turned : (P : Contents K V → Type 0) (cache : CacheState K V S W) (memory : Option Memory) (limits : PartLimits) (new : Entry K V)
      (contents : Contents K V) → P contents → ((shared : PartLimits) (gained : ℕ) → P (after_sharing eq shared gained contents))
      → P (after_turn eq cache memory limits new contents).contents
  turned P cache None limits new contents same shares = same
  turned P cache (Some memory) limits new contents same shares = shares _ _
