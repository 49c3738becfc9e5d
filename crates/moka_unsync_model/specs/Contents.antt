-- What a contract sees of a cache's contents: its entries in order of use, and their writes.
use Rattle.std.specs.Prelude.{◌≡◌, ℕ, zero, suc, ◌-◌, ◌^◌, Bool, true, false, not, List, [], ◌∷◌, sum_by, map, filter, fold, min, Option, if◌then◌else◌}
use Rattle.std.specs.List.{find}
use Rattle.moka_unsync_model.specs.Deadline.{expiry_of}
use Rattle.moka_unsync_model.specs.declared.entry.Entry.{Entry}
use Rattle.moka_unsync_model.specs.declared.entry.Part.{Part}
use Rattle.moka_unsync_model.specs.declared.entry.Part.TheVariants.{Probation, Protected, Window}

-- a key that was written, and when its entry expires
pub record Write (K : Type 0) : Type 0 where
  pub key : K
  pub deadline : ℕ

-- the entries in three parts, main's probation, behind it main's protected, and behind that the window, each in order of use, least recent first; and
-- the writes in their order, which are kept only with a time to live
pub record Contents (K V : Type 0) : Type 0 where
  pub entries : List (Entry K V)
  pub written : List (Write K)

-- whether a part is main's probation
abbrev pub is_probation : Part → Bool
is_probation Probation = true
is_probation Protected = false
is_probation Window = false

-- whether it is main's protected
abbrev pub is_protected : Part → Bool
is_protected Probation = false
is_protected Protected = true
is_protected Window = false

-- whether it is the window
abbrev pub is_window : Part → Bool
is_window Probation = false
is_window Protected = false
is_window Window = true

-- whether a part stands before another: probation before protected, and both before the window
abbrev pub is_before : Part → Part → Bool
is_before Probation part = not (is_probation part)
is_before Protected part = is_window part
is_before Window part = false

module _ {K V : Type 0} where
  -- nothing at all
  abbrev pub no_contents : Contents K V
  no_contents = record { entries = []; written = [] }

  -- the weights of all entries together
  abbrev pub total_weight : List (Entry K V) → ℕ
  total_weight entries = sum_by (λ e. e.weight) entries

  -- the same, as far as 64 bits tell
  abbrev pub weighted_size : List (Entry K V) → ℕ
  weighted_size entries = min (total_weight entries) (2 ^ 64 - 1)

  -- the write of an entry
  abbrev pub write_of : Entry K V → Write K
  write_of entry = record { key = entry.key; deadline = expiry_of entry }

  -- the entries of main
  abbrev pub main_of : List (Entry K V) → List (Entry K V)
  main_of entries = filter (λ e. not (is_window e.part)) entries

  -- those of its probation
  abbrev pub probation_of : List (Entry K V) → List (Entry K V)
  probation_of entries = filter (λ e. is_probation e.part) entries

  -- those of its protected
  abbrev pub protected_of : List (Entry K V) → List (Entry K V)
  protected_of entries = filter (λ e. is_protected e.part) entries

  -- the entries of the window
  abbrev pub window_of : List (Entry K V) → List (Entry K V)
  window_of entries = filter (λ e. is_window e.part) entries

  -- the entries with one more, the most recent of its part: it stands before the first of a later part
  abbrev pub with_latest : Entry K V → List (Entry K V) → List (Entry K V)
  with_latest entry [] = entry ∷ []
  with_latest entry (e ∷ entries) = if is_before entry.part e.part then entry ∷ e ∷ entries else e ∷ with_latest entry entries

  -- the entries once the first of protected that weigh so much, or all, are the last of probation: their places are the same
  abbrev pub demoted : ℕ → List (Entry K V) → List (Entry K V)
  demoted zero entries = entries
  demoted (suc weight) [] = []
  demoted (suc weight) (e ∷ entries) =
      if is_protected e.part then record e { part = Probation } ∷ demoted (suc weight - e.weight) entries else e ∷ demoted (suc weight) entries

  -- the entries once protected weighs no more than this
  abbrev pub balanced : ℕ → List (Entry K V) → List (Entry K V)
  balanced room entries = demoted (total_weight (protected_of entries) - room) entries

  -- each is in this part or a later one, and none stands before one of an earlier part
  abbrev pub InOrder : Part → List (Entry K V) → Type 0
  InOrder last [] = Unit {0}
  InOrder last (e ∷ es) = (is_before e.part last ≡ false) × InOrder e.part es

  -- the keys of the entries
  abbrev pub entry_keys : List (Entry K V) → List K
  entry_keys entries = map (λ e. e.key) entries

module _ {K : Type 0} (test : K → Bool) where
  -- the first entry whose key passes the test
  abbrev pub entry_where : {V : Type 0} → List (Entry K V) → Option (Entry K V)
  entry_where entries = find (λ e. test e.key) entries

  -- the entries whose keys don't
  abbrev pub entries_except : {V : Type 0} → List (Entry K V) → List (Entry K V)
  entries_except entries = filter (λ e. not (test e.key)) entries

  -- the writes whose keys don't
  abbrev pub writes_except : List (Write K) → List (Write K)
  writes_except written = filter (λ w. not (test w.key)) written

  -- the contents once the entries whose keys pass have left
  abbrev pub except : {V : Type 0} → Contents K V → Contents K V
  except contents = record { entries = entries_except contents.entries; written = writes_except contents.written }

module _ {K : Type 0} (eq : K → K → Bool) where
  -- the entry that stands at a key
  abbrev pub entry_at : {V : Type 0} → K → List (Entry K V) → Option (Entry K V)
  entry_at key entries = entry_where (eq key) entries

  -- the entries of other keys
  abbrev pub entries_without : {V : Type 0} → K → List (Entry K V) → List (Entry K V)
  entries_without key entries = entries_except (eq key) entries

  -- the writes of other keys
  abbrev pub writes_without : K → List (Write K) → List (Write K)
  writes_without key written = writes_except (eq key) written

  module _ {V : Type 0} where
    -- the contents once the entry of a key has left
    abbrev pub without : Contents K V → K → Contents K V
    without contents key = except (eq key) contents

    -- the contents once the entries of these keys have left, one after another
    abbrev pub after_leaving : List K → Contents K V → Contents K V
    after_leaving keys contents = fold without contents keys

    -- the contents once an entry, which may be another than the one at its key, is the most recent of its part
    abbrev pub after_moving : Entry K V → Contents K V → Contents K V
    after_moving entry contents = record contents { entries = with_latest entry (entries_without entry.key contents.entries) }
