-- A get finds what was last written, or nothing for a reason.
use Rattle.std.proofs.Common.{◌≡◌, ◌⊎◌, ◌<◌, ℕ, arith, Bool, true, false, cond, List, [], ◌∷◌, Option, Some, None, Result, Ok, Err, refl, sym, ◌∙◌, ap}
use Rattle.std.proofs.Common.{subst, inl, inr}
use Rattle.std.specs.Cmp.{IsEquivalence}
use Rattle.std.specs.List.{IsDistinct}
use Rattle.std.specs.Option.{option_map}
use Rattle.std.proofs.lemmas.List.Elements.{All-nil}
use Rattle.moka_common.specs.Keys.{Keys}
use Rattle.moka_common.specs.Settings.{Settings}
use Rattle.moka_sync_model.specs.declared.ticket.Ticket.{Ticket}
use Rattle.moka_sync_model.specs.Ticket.{shard_of}
use Rattle.moka_sync_model.specs.CoreState.{is_expired}
use Rattle.moka_sync_model.specs.Entry.{Entry, entry_at}
use Rattle.moka_sync_model.specs.Parts.{ShardState, IsValidShard}
use Rattle.moka_common.specs.declared.error.InsertError.{InsertError}
use Rattle.moka_common.specs.declared.error.InsertError.TheVariants.{TicketsUsedUp}
use Rattle.moka_shard.specs.Shard.{unexpired}
use Rattle.moka_shard.specs.ShardStep.{IsAddition, IsInsert, IsInvalidation, IsUpdate, OnlyAnswers, fresh_entry}
use Rattle.moka_history.specs.Steps.{Act, Step, Gets, Looks, Copies, Inserts, Invalidates, Takes, Touches, Turns, IsAct, Leads, acts, new_shard}
use Rattle.moka_history.specs.LastWrite.{IsCurrent, is_over, last_write, last_write_of}
use Rattle.moka_history.specs.Cause.{IsMissing, Leaves}
use Rattle.moka_history.specs.Laws.{HitsAreCurrent, InsertsStand, Lacks, MissesHaveAReason, RemoveAsGet}
use Rattle.moka_history.proofs.StepLemmas.{by_Bool, none_some, some_is, some_none, step_known, step_left, step_none, step_stands, step_unwritten}

module _ {K V S : Type 0} (keys : Keys K S) (laws : IsEquivalence keys.eq) (weighs : K → V → ℕ → Type 0) (settings : Settings S) where
  -- a new shard keeps what every shard keeps
  new_valid : (number first : ℕ) → IsValidShard {V = V} keys (new_shard settings number first)
  unfolding IsDistinct
  new_valid number first = record {
    keys_apart = tt;
    tickets_apart = λ t. omega arith;
    belong = All-nil (λ
        (e : Entry K V). shard_of e.ticket.hash ≡ number);
    hashed = All-nil (λ
        (e : Entry K V). e.ticket.hash ≡ keys.hash_of settings.hash_state e.key);
    given_out = All-nil (λ (e : Entry K V). e.ticket.number < first);
  }

  -- a step keeps the shard's number and its hash state
  abbrev pub frame : ShardState K V S → ℕ × S
  frame shard = (shard.number, shard.hash_state)

  insert_frame : (old new : ShardState K V S) (hash : ℕ) (key : K) (value : V) (weight now : ℕ) (refused : Bool) (o : Option (Entry K V))
      (answer : Result Ticket InsertError)
      → IsInsert old hash key value weight now refused o answer new → frame new ≡ frame old
  insert_frame old new hash key value weight now true o answer h = ap frame h.1
  insert_frame old new hash key value weight now false (Some e) answer h =
      by_Bool _ (OnlyAnswers old (Err TicketsUsedUp) answer new) (IsUpdate old e value weight now answer new) (λ r. ap frame r.1) (λ u. ap frame u.1) h
  insert_frame old new hash key value weight now false None answer h =
      by_Bool _ (OnlyAnswers old (Err TicketsUsedUp) answer new) (IsAddition old (fresh_entry old hash key value weight now) answer new) (λ r. ap frame r.1)
      (λ a. ap frame a.3) h

  invalidation_frame : (old new : ShardState K V S) (o : Option (Entry K V)) (left : Option Ticket) → IsInvalidation old o left new → frame new ≡ frame old
  invalidation_frame old new None left h = ap frame h.1
  invalidation_frame old new (Some e) left h = ap frame h.1

  step_frame : (old new : ShardState K V S) (act : Act K V) → IsAct keys weighs settings old act new → frame new ≡ frame old
  step_frame old new (Gets key now va found) h = ap frame h.1
  step_frame old new (Looks key now va there) h = ap frame h.1
  step_frame old new (Copies now va pairs) h = ap frame h.1
  step_frame old new (Inserts key value now answer) h =
      insert_frame old new (keys.hash_of old.hash_state key) key value h.0 now h.1 (entry_at keys.eq key old.entries) answer h.3
  step_frame old new (Invalidates key left) h = invalidation_frame old new (entry_at keys.eq key old.entries) left h
  step_frame old new (Takes key now va found left) h = invalidation_frame old new (entry_at keys.eq key old.entries) left h.1
  step_frame old new (Touches t moment) h = ap frame h
  step_frame old new (Turns m va t) h = ap frame h.2.shard

  pub led_frame : (start shard : ShardState K V S) (past : List (Step K V S)) → Leads keys weighs settings start past shard → frame shard ≡ frame start
  led_frame start shard [] led = ap frame led
  led_frame start shard (step ∷ past) led = ap frame (sym led.0) ∙ step_frame step.before step.after step.act led.1 ∙ led_frame start step.before past led.3

  module _ (number first : ℕ) where
    abbrev start : ShardState K V S
    start = new_shard settings number first

    pub led_valid : (past : List (Step K V S)) (shard : ShardState K V S) → Leads keys weighs settings start past shard → IsValidShard keys shard
    led_valid [] shard led = subst (IsValidShard keys) (sym led) (new_valid number first)
    led_valid (step ∷ past) shard led = subst (IsValidShard keys) led.0 led.2

    module _ (key : K) where
      -- the entry at the key is what was last written there
      pub led_known : (past : List (Step K V S)) (shard : ShardState K V S) → Leads keys weighs settings start past shard
          → (e : Entry K V) → entry_at keys.eq key shard.entries ≡ Some e → last_write keys.eq key (acts past) ≡ Some (last_write_of e)
      led_known [] shard led e is = none_some e (sym (ap (λ (s : ShardState K V S). entry_at keys.eq key s.entries) led) ∙ is)
      led_known (step ∷ past) shard led e is =
          step_known keys laws weighs settings step.before step.after (led_valid past step.before led.3) key step.act led.1 (last_write keys.eq key (acts past))
          (led_known past step.before led.3) e (ap (λ (s : ShardState K V S). entry_at keys.eq key s.entries) led.0 ∙ is)

      -- where none stands, there is a reason
      pub led_missing : (past : List (Step K V S)) (shard : ShardState K V S) → Leads keys weighs settings start past shard
          → entry_at keys.eq key shard.entries ≡ None → IsMissing keys settings past key
      led_missing [] shard led none = tt
      led_missing (step ∷ past) shard led none =
          let gone : entry_at keys.eq key step.after.entries ≡ None = ap (λ (s : ShardState K V S). entry_at keys.eq key s.entries) led.0 ∙ none in (
            step_unwritten keys laws weighs settings step.before step.after (led_valid past step.before led.3) key step.act led.1 gone,
            by gone (led_missing past step.before led.3) (entry_at keys.eq key step.before.entries) refl,
          )
        where
          by : entry_at keys.eq key step.after.entries ≡ None → (entry_at keys.eq key step.before.entries ≡ None → IsMissing keys settings past key)
              → (o : Option (Entry K V)) → entry_at keys.eq key step.before.entries ≡ o → Leaves keys settings step past key ⊎ IsMissing keys settings past key
          by gone earlier None is = inr (earlier is)
          by gone earlier (Some e) is = inl (record {
            entry = e;
            stood = is;
            known = led_known past step.before led.3 e is;
            left = gone;
            cause = step_left keys laws weighs settings step.before step.after (led_valid past step.before led.3) key step.act led.1 e is gone;
          })

      -- and where there is one, none stands
      pub missing_none : (past : List (Step K V S)) (shard : ShardState K V S) → Leads keys weighs settings start past shard
          → IsMissing keys settings past key → entry_at keys.eq key shard.entries ≡ None
      missing_none [] shard led why = ap (λ (s : ShardState K V S). entry_at keys.eq key s.entries) led
      missing_none (step ∷ past) shard led why = sym (ap (λ (s : ShardState K V S). entry_at keys.eq key s.entries) led.0)
          ∙ by (missing_none past step.before led.3) why.1
        where
          by : (IsMissing keys settings past key → entry_at keys.eq key step.before.entries ≡ None) → Leaves keys settings step past key
              ⊎ IsMissing keys settings past key
              → entry_at keys.eq key step.after.entries ≡ None
          by earlier (inl leaves) = leaves.left
          by earlier (inr missing) =
              step_none keys laws weighs settings step.before step.after (led_valid past step.before led.3) key step.act led.1 (earlier missing) why.0

  -- ---- what a get finds

  abbrev pair_of : Option (Entry K V) → Option (V × Ticket)
  pair_of o = option_map (λ e. (e.value, e.ticket)) o

  pub hits_are_current : HitsAreCurrent V keys weighs settings
  hits_are_current number first past shard new key now valid_after value t led found = by (entry_at keys.eq key shard.entries) refl found.0
    where
      by : (o : Option (Entry K V)) → entry_at keys.eq key shard.entries ≡ o → Some (value, t) ≡ pair_of (unexpired settings valid_after now o)
          → IsCurrent keys.eq settings.policy valid_after now (acts past) key value
      by None is h = some_none (value, t) h
      by (Some e) is h = of (is_expired settings valid_after now e) refl h
        where
          of : (b : Bool) → is_expired settings valid_after now e ≡ b → Some (value, t) ≡ pair_of (cond b None (Some e))
              → IsCurrent keys.eq settings.policy valid_after now (acts past) key value
          of true over h = some_none (value, t) h
          of false fresh h = (
            last_write_of e,
            led_known number first key past shard led e is,
            sym (ap (λ (g : V
                × Ticket). g.0) (some_is (value, t) (e.value, e.ticket) h)),
            fresh,
          )

  pub misses_have_a_reason : MissesHaveAReason V keys weighs settings
  misses_have_a_reason number first past shard new key now valid_after found led is = (why, none)
    where
      why : found ≡ None → Lacks V keys weighs settings valid_after now past key
      why nothing = by (entry_at keys.eq key shard.entries) refl (sym nothing ∙ is.0)
        where
          by : (o : Option (Entry K V)) → entry_at keys.eq key shard.entries ≡ o → None ≡ pair_of (unexpired settings valid_after now o)
              → Lacks V keys weighs settings valid_after now past key
          by None absent h = inl (led_missing number first key past shard led absent)
          by (Some e) stands h = of (is_expired settings valid_after now e) refl h
            where
              of : (b : Bool) → is_expired settings valid_after now e ≡ b → None ≡ pair_of (cond b None (Some e))
                  → Lacks V keys weighs settings valid_after now past key
              of true over h = inr (last_write_of e, led_known number first key past shard led e stands, over)
              of false fresh h = none_some (e.value, e.ticket) h

      none : Lacks V keys weighs settings valid_after now past key → found ≡ None
      none (inl missing) = is.0 ∙ ap (λ o. pair_of (unexpired settings valid_after now o)) (missing_none number first key past shard led missing)
      none (inr over) = is.0 ∙ by (entry_at keys.eq key shard.entries) refl
        where
          by : (o : Option (Entry K V)) → entry_at keys.eq key shard.entries ≡ o → pair_of (unexpired settings valid_after now o) ≡ None
          by None absent = refl
          by (Some e) stands =
              let both : Some over.0 ≡ Some (last_write_of e) = sym over.1 ∙ led_known number first key past shard led e stands in
              let same : over.0 ≡ last_write_of e = cc in
              let expired : is_expired settings valid_after now e ≡ true = ap (is_over settings.policy valid_after now) (sym same) ∙ over.2 in
              ap (λ b. pair_of (cond b None (Some e))) expired

  -- ---- other calls

  pub remove_as_get : RemoveAsGet V keys weighs settings
  remove_as_get shard left key now valid_after found t is = (
    pair_of (unexpired settings valid_after now (entry_at keys.eq key shard.entries)),
    (refl, refl),
    is.0
        ∙ values (unexpired settings valid_after now (entry_at keys.eq key shard.entries)),
  )
    where
      values : (o : Option (Entry K V)) → option_map (λ (e : Entry K V). e.value) o ≡ option_map (λ (g : V × Ticket). g.0) (pair_of o)
      values None = refl
      values (Some e) = refl

  pub inserts_stand : InsertsStand V keys weighs settings
  inserts_stand number first past shard new key value now t led is =
      step_stands keys laws weighs settings shard new (led_valid number first past shard led) key key value now (Ok t) is t refl (laws.refl key)
