-- What a contract sees of the window: which new entries come from it to main, and which leave.
use Rattle.std.specs.Prelude.{◌-◌, ℕ, max, Bool, List, [], ◌∷◌, fold, map, Option, Some, None}
use Rattle.moka_common.specs.Admission.{victims}
use Rattle.moka_common.specs.Sketch.{Table, estimate}
use Rattle.moka_unsync_model.specs.declared.entry.Entry.{Entry}
use Rattle.moka_unsync_model.specs.declared.entry.Part.TheVariants.{Probation}
use Rattle.moka_unsync_model.specs.Contents.{Contents, balanced, total_weight, main_of, window_of, entry_keys, without, after_leaving, after_moving}
use Rattle.moka_unsync_model.specs.Memory.{Memory, after_note, at_most}
use Rattle.moka_unsync_model.specs.declared.shares.PartLimits.{PartLimits}
use Rattle.moka_unsync_model.specs.Shares.{main_limit}
use Rattle.moka_unsync_model.specs.Cleanup.{least_recent}

module _ {K V : Type 0} where
  -- how much has to leave the window: what it weighs above its limit, or all entries above theirs, if that is more
  abbrev pub excess : PartLimits → List (Entry K V) → ℕ
  excess limits entries = max (total_weight (window_of entries) - limits.window) (total_weight entries - limits.all)

  -- the candidates for main: the least recently used entries of the window that weigh as much as has to leave it, or all
  abbrev pub candidates : PartLimits → List (Entry K V) → List (Entry K V)
  candidates limits entries = least_recent (excess limits entries) (window_of entries)

  -- those of these entries that give way to another, or nothing where it is rejected
  abbrev pub victims_of : Option ℕ → Option Table → Entry K V → List (Entry K V) → Option (List (Entry K V))
  victims_of limit sketch new entries =
      victims (λ e. e.weight) (λ e. estimate sketch e.hash) limit entries new.weight (estimate sketch new.hash)

  -- what is remembered once these entries of main gave way to others
  abbrev pub after_displacing : Memory → List (Entry K V) → Memory
  after_displacing memory gone = record memory { displaced = fold after_note memory.displaced (map (λ e. e.hash) gone) }

  -- what is remembered once a candidate of this hash is rejected, or admitted in place of these
  abbrev pub after_judging : Memory → ℕ → Option (List (Entry K V)) → Memory
  after_judging memory hash None = record memory { rejected = after_note memory.rejected hash }
  after_judging memory hash (Some gone) = after_displacing memory gone

  -- main's least recently used entries, as far as it weighs more than it may, but no more than weigh as much as the window has gained
  abbrev pub given_up : PartLimits → ℕ → List (Entry K V) → List (Entry K V)
  given_up limits gained entries = least_recent (at_most gained (total_weight (main_of entries) - main_limit limits)) (main_of entries)

  module _ (eq : K → K → Bool) where
    -- the contents once a candidate is the most recent of probation in place of these, its write where it was, or has left where it was rejected
    abbrev pub after_candidacy : Entry K V → Option (List (Entry K V)) → Contents K V → Contents K V
    after_candidacy candidate None contents = without eq contents candidate.key
    after_candidacy candidate (Some gone) contents =
        after_moving eq (record candidate { part = Probation }) (after_leaving eq (entry_keys gone) contents)

    -- the contents once an entry was a candidate for main
    abbrev pub after_candidate : PartLimits → Option Table → Contents K V → Entry K V → Contents K V
    after_candidate limits sketch contents candidate =
        after_candidacy candidate (victims_of (Some (main_limit limits)) sketch candidate (main_of contents.entries)) contents

    -- the contents once these were candidates for main, one after another
    abbrev pub after_candidates : PartLimits → Option Table → List (Entry K V) → Contents K V → Contents K V
    after_candidates limits sketch entries contents = fold (after_candidate limits sketch) contents entries

    -- what is remembered once these were candidates for main, one after another
    abbrev pub after_judgements : PartLimits → Option Table → List (Entry K V) → Contents K V → Memory → Memory
    after_judgements limits sketch [] contents memory = memory
    after_judgements limits sketch (c ∷ cs) contents memory =
        after_judgements limits sketch cs (after_candidate limits sketch contents c)
        (after_judging memory c.hash (victims_of (Some (main_limit limits)) sketch c (main_of contents.entries)))

    -- the contents once the limits of the parts are these and the window has gained so much: main has given up entries, and protected weighs no more than it
    -- may. A window that is above its limit stays so until the next new entry, when what is above is judged
    abbrev pub after_sharing : PartLimits → ℕ → Contents K V → Contents K V
    after_sharing limits gained contents =
        let left = after_leaving eq (entry_keys (given_up limits gained contents.entries)) contents in
        record left { entries = balanced limits.protected left.entries }
