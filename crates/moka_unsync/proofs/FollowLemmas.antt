-- Lemmas on limits that follow what is remembered, and on the tables beside a sketch.
use Rattle.std.proofs.Common.{◌≡◌, ◌∙◌, ◌<◌, ◌-◌, ◌==◌, ℕ, zero, suc, Bool, true, false, cond, nat_lt, List, [], ◌∷◌, Option, None, Some, option_map}
use Rattle.std.proofs.Common.{unwrap_or}
use Rattle.std.proofs.Common.{ap, arith, is_some, refl, subst, sym, inl, inr}
use Rattle.std.proofs.lemmas.Bool.{cases_Bool, cond-false, cond-true, eqb-true, false≢true}
use Rattle.std.specs.Cmp.{IsEquivalence}
use Rattle.std.specs.List.Sorted.{IsPermutation}
use Rattle.std.proofs.lemmas.List.Sorted.{IsPermutation-refl}
use Rattle.moka_common.specs.Enabling.{after_enabling}
use Rattle.moka_common.specs.declared.frequency_sketch.enabling.Load.{Load}
use Rattle.moka_common.specs.Sketch.{IsSketch, Table}
use Rattle.moka_common.specs.SketchCapacity.{table_len}
use Rattle.moka_common.proofs.SketchLemmas.{power_pos}
use Rattle.moka_unsync_model.specs.declared.entry.Entry.{Entry}
use Rattle.moka_unsync_model.specs.declared.entry.Part.{Part}
use Rattle.moka_unsync_model.specs.declared.entry.Part.TheVariants.{Probation}
use Rattle.moka_unsync_model.specs.declared.shares.PartLimits.{PartLimits}
use Rattle.moka_unsync_model.specs.declared.shares.Shares.{Shares}
use Rattle.moka_unsync_model.specs.Cleanup.{least_recent}
use Rattle.moka_unsync_model.specs.Contents.{Contents, after_leaving, balanced, demoted, entry_at, entry_keys, is_protected, is_window, main_of, protected_of}
use Rattle.moka_unsync_model.specs.Contents.{total_weight}
use Rattle.moka_unsync_model.specs.Memory.{Memory, after_remembering, at_most, made_tables}
use Rattle.moka_unsync_model.specs.Shares.{hundredths, limits_of, main_limit, windowed_limits}
use Rattle.moka_unsync_model.specs.Told.{partless, unplaced}
use Rattle.moka_unsync_model.specs.Window.{after_sharing, given_up}
use Rattle.moka_store.specs.Store.{Store, contents_of, entries_of}
use Rattle.moka_unsync_model.proofs.KeyLemmas.{StandOnce}
use Rattle.moka_unsync_model.proofs.PartLemmas.{entry_at-demoted, placed}
use Rattle.moka_unsync_model.proofs.TurnLemmas.{window-sharing}
use Rattle.moka_unsync.specs.Cached.{beside, gained_in}

module _ {K V : Type 0} where
  -- entries that are protected no more are the same entries
  demoted-same : (weight : ℕ) (es : List (Entry K V)) → unplaced (demoted weight es) ≡ unplaced es
  demoted-same zero es = refl
  demoted-same (suc n) [] = refl
  demoted-same (suc n) (e ∷ es) =
      by (is_protected e.part) (demoted-same (suc n - e.weight) es) (demoted-same (suc n) es)
    where
      by : (b : Bool) → unplaced (demoted (suc n - e.weight) es) ≡ unplaced es → unplaced (demoted (suc n) es) ≡ unplaced es
          → unplaced (cond b (record e { part = Probation } ∷ demoted (suc n - e.weight) es) (e ∷ demoted (suc n) es)) ≡ unplaced (e ∷ es)
      by true light same = ap (λ l. partless e ∷ l) light
      by false light same = ap (λ l. partless e ∷ l) same

  pub balanced-same : (room : ℕ) (es others : List (Entry K V)) → others ≡ balanced room es → IsPermutation (unplaced es) (unplaced others)
  balanced-same room es others is =
      subst (IsPermutation (unplaced es)) (sym (ap unplaced is ∙ demoted-same _ es)) (IsPermutation-refl (unplaced es))

  module _ (eq : K → K → Bool) (old given new : Store K V) (turned : PartLimits) (gained enough : ℕ) where
    -- the contents once the limits have followed
    pub followed : enough ≡ at_most gained (total_weight (main_of (entries_of old)) - main_limit turned)
        → contents_of given ≡ after_leaving eq (entry_keys (least_recent enough (main_of (entries_of old)))) (contents_of old)
        → contents_of new ≡ record (contents_of given) { entries = balanced turned.protected (entries_of given) }
        → contents_of new ≡ after_sharing eq turned gained (contents_of old)
    followed is gave balance =
        balance
        ∙ ap (λ (c : Contents K V). record c { entries = balanced turned.protected c.entries })
        (gave ∙ ap (λ n. after_leaving eq (entry_keys (least_recent n (main_of (entries_of old)))) (contents_of old)) is)

-- a cache with a window has its limit, and the limits are those of its shares
pub limits_there : (shares : Shares) (max : Option ℕ) (limits : PartLimits) → windowed_limits shares max ≡ Some limits
    → (max ≡ Some limits.all) × (limits ≡ limits_of shares limits.all)
limits_there shares None limits some = absurd (false≢true (ap is_some some))
limits_there shares (Some limit) limits some =
    elim (cases_Bool (nat_lt 0 (hundredths shares.window limit))) [
      | inl any ↦
          let is : limits_of shares limit ≡ limits =
          ap (λ (o : Option PartLimits). unwrap_or o limits)
          (sym (cond-true (nat_lt 0 (hundredths shares.window limit)) (Some (limits_of shares limit)) None any) ∙ some) in
          (ap (λ (l : PartLimits). Some l.all) is, sym is ∙ ap (λ (l : PartLimits). limits_of shares l.all) is)
      | inr none ↦
          absurd (false≢true (ap is_some (sym (cond-false (nat_lt 0 (hundredths shares.window limit)) (Some (limits_of shares limit)) None none) ∙ some)))
    ]

-- ---- tables beside a sketch

-- where the sketch had none, tables are made beside its own
pub tables_made : (refused : Bool) (words : ℕ) (sketch : Option Table) (memory : Option Memory) → words ≡ table_len sketch → IsSketch sketch
    → beside refused words memory ≡ after_remembering refused None sketch memory
tables_made refused words None memory is shape =
    cond-true (words == 0) memory _ (ap (λ n. n == 0) is) ∙ by memory
  where
    by : (o : Option Memory) → o ≡ after_remembering refused None None o
    by None = refl
    by (Some m) = refl
tables_made refused words (Some table) memory is shape =
    ap (λ n. beside refused n memory) is
    ∙ (cond-false (table.places == 0) memory _ (some table.places (power table shape)) ∙ by memory)
  where
    power : (t : Table) → IsSketch (Some t) → 0 < t.places
    power t s = power_pos t.places s.shape.power

    some : (n : ℕ) → 0 < n → (n == 0) ≡ false
    some n h =
        elim (cases_Bool (n == 0)) [
          | inl nothing ↦ let is : n ≡ 0 = eqb-true n 0 nothing in absurd (omega (arith, h, is))
          | inr other ↦ other
        ]

    by : (o : Option Memory) → option_map (made_tables refused table.places) o ≡ after_remembering refused None (Some table) o
    by None = refl
    by (Some m) = refl

-- a sketch that has words has a table
pub some_table : (sketch : Option Table) (words : ℕ) → words ≡ table_len sketch → (words ≡ 0 → ⊥) → (table : Table) × (sketch ≡ Some table)
some_table None words is some = absurd (some is)
some_table (Some table) words is some = (table, refl)

-- where it had one, none are
pub asked_before : (sketch : Option Table) (table : Table) → sketch ≡ Some table
    → (max : Option ℕ) (load : Load) (other : Option Table) (memory : Option Memory)
    → (sketch ≡ after_enabling max load true sketch) × (memory ≡ after_remembering true sketch other memory)
asked_before sketch table is max load other memory = (by max, same sketch is memory)
  where
    by : (m : Option ℕ) → sketch ≡ after_enabling m load true sketch
    by None = refl
    by (Some limit) = refl

    same : (s : Option Table) → s ≡ Some table → (m : Option Memory) → m ≡ after_remembering true s other m
    same None some m = absurd (false≢true (ap is_some some))
    same (Some t) some None = refl
    same (Some t) some (Some m) = refl

-- ---- a new entry stays where it is

placed-some : {K V : Type 0} (f : Part → Part) (o : Option (Entry K V)) → is_some (placed f o) ≡ is_some o
placed-some f None = refl
placed-some f (Some e) = refl

module _ {K V : Type 0} {eq : K → K → Bool} (laws : IsEquivalence eq) where
  pub stands_still : (limits : PartLimits) (part : Option Part) (before after : ℕ) (contents : Contents K V) (key : K) → StandOnce eq contents.entries
      → part ≡ option_map (λ e. e.part) (entry_at eq key contents.entries)
      → is_some (entry_at eq key (after_sharing eq limits (gained_in part before after) contents).entries) ≡ is_some part
  stands_still limits part before after contents key once is = by (entry_at eq key contents.entries) refl
    where
      over : ℕ
      over = total_weight (main_of contents.entries) - main_limit limits

      -- where the window has gained nothing, no entry leaves
      same : (o : Option (Entry K V)) → entry_at eq key contents.entries ≡ o
          → is_some (entry_at eq key (after_sharing eq limits 0 contents).entries) ≡ is_some o
      same o found =
          let none : at_most 0 over ≡ 0 = omega arith in
          let left = after_leaving eq (entry_keys (given_up limits 0 contents.entries)) contents in
          let all : left ≡ contents = ap (λ n. after_leaving eq (entry_keys (least_recent n (main_of contents.entries))) contents) none in
          let (f, at) = entry_at-demoted eq key (total_weight (protected_of left.entries) - limits.protected) left.entries in
          ap is_some at ∙ (placed-some f (entry_at eq key left.entries)
          ∙ ap is_some (ap (λ (c : Contents K V). entry_at eq key c.entries) all ∙ found))

      by : (o : Option (Entry K V)) → entry_at eq key contents.entries ≡ o
          → is_some (entry_at eq key (after_sharing eq limits (gained_in part before after) contents).entries) ≡ is_some part
      by None found =
          let none : part ≡ None = is ∙ ap (option_map (λ e. e.part)) found in
          ap (λ p. is_some (entry_at eq key (after_sharing eq limits (gained_in p before after) contents).entries)) none
          ∙ (same None found ∙ sym (ap is_some none))
      by (Some e) found =
          let some : part ≡ Some e.part = is ∙ ap (option_map (λ e. e.part)) found in
          elim (cases_Bool (is_window e.part)) [
            | inl waits ↦
                ap is_some (window-sharing laws limits (gained_in part before after) contents key e once found waits) ∙ sym (ap is_some some)
            | inr main ↦
                ap (λ p. is_some (entry_at eq key (after_sharing eq limits (gained_in p before after) contents).entries)) some
                ∙ (ap (λ n. is_some (entry_at eq key (after_sharing eq limits n contents).entries)) (cond-false (is_window e.part) (after - before) 0 main)
                ∙ (same (Some e) found ∙ sym (ap is_some some)))
          ]

  -- and where nothing follows
  pub stands_there : (part : Option Part) (es : List (Entry K V)) (key : K) → part ≡ option_map (λ e. e.part) (entry_at eq key es)
      → is_some (entry_at eq key es) ≡ is_some part
  stands_there part es key is = by (entry_at eq key es) ∙ sym (ap is_some is)
    where
      by : (o : Option (Entry K V)) → is_some o ≡ is_some (option_map (λ e. e.part) o)
      by None = refl
      by (Some e) = refl

  -- nor does it leave where entries are protected no more
  pub stands_balanced : (room : ℕ) (part : Option Part) (es : List (Entry K V)) (key : K) → part ≡ option_map (λ e. e.part) (entry_at eq key es)
      → is_some (entry_at eq key (balanced room es)) ≡ is_some part
  stands_balanced room part es key is =
      let (f, at) = entry_at-demoted eq key (total_weight (protected_of es) - room) es in
      ap is_some at ∙ (placed-some f (entry_at eq key es) ∙ stands_there part es key is)
