-- Where nobody else touches a key, one's own calls tell what was written last there.
use Rattle.std.proofs.Common.{◌≡◌, ℕ, ◌==◌, ◌∙◌, Bool, true, false, List, [], ◌∷◌, ◌++◌, Option, Some, None, ap, refl, sym, if◌then◌else◌}
use Rattle.std.specs.Prelude.{option_map}
use Rattle.moka_common.specs.Keys.{Keys}
use Rattle.moka_unsync_model.specs.Deadline.{end_of}
use Rattle.moka_common.specs.Settings.{live_nanos}
use Rattle.moka_unsync_model.specs.Step.{Answer, Request, Get, Insert, Done, Found}
use Rattle.moka_unsync_model.specs.History.{LastWrite, Transition, chosen_keys, exchanges, inserted_deadline, is_invalidated, is_written, known_after}
use Rattle.moka_unsync_model.specs.History.{last_write, used_at}
use Rattle.std.specs.Cmp.{IsEquivalence}
use Rattle.moka_row.specs.Visits.{visits_by}
use Rattle.moka_segments.specs.History.{Every, OnlyBy, Spares, calls, joined, value_written}

abbrev value_of : {V : Type 0} → Option (LastWrite V) → Option V
value_of known = option_map (λ write. write.value) known

value_if : {V : Type 0} (b : Bool) (x known other : Option (LastWrite V)) → value_of known ≡ value_of other
    → value_of (if b then x else known) ≡ value_of (if b then x else other)
value_if true x known other e = refl
value_if false x known other e = e

value_used : {V : Type 0} (now : ℕ) (known : Option (LastWrite V)) → value_of (option_map (used_at now) known) ≡ value_of known
value_used now None = refl
value_used now (Some write) = refl

used_if : {V : Type 0} (b : Bool) (now : ℕ) (known other : Option (LastWrite V)) → value_of known ≡ value_of other
    → value_of (if b then option_map (used_at now) known else known) ≡ value_of other
used_if true now known other e = value_used now known ∙ e
used_if false now known other e = e

module _ {K V S : Type 0} (keys : Keys K S) where
  -- what a call does to the value goes by the value alone
  by_value : (request : Request K V) (answer : Answer K V) (chosen : List K) (deadline : ℕ) (key : K) (known other : Option (LastWrite V))
      → value_of known ≡ value_of other
      → value_of (known_after keys request answer chosen deadline key known) ≡ value_of (known_after keys request answer chosen deadline key other)
  by_value (Insert at_key value own now) Done chosen deadline key known other e = value_if (keys.eq at_key key) (Some
      (record { value = value; deadline = deadline; used = now })) known other e
  by_value (Get at_key now) (Found (Some value)) chosen deadline key known other e =
      used_if (keys.eq at_key key) now known other e ∙ sym (used_if (keys.eq at_key key) now other other refl)
  by_value request answer chosen deadline key known other e = value_if (is_invalidated keys request chosen key) None known other e

  -- and a call that spares the key leaves it
  spared : (request : Request K V) (answer : Answer K V) (chosen : List K) (deadline : ℕ) (key : K) (known : Option (LastWrite V))
      → is_written keys request answer key ≡ false → is_invalidated keys request chosen key ≡ false
      → value_of (known_after keys request answer chosen deadline key known) ≡ value_of known
  spared (Insert at_key value own now) Done chosen deadline key known unwritten valid = ap (λ b. value_of (if b then Some
      (record { value = value; deadline = deadline; used = now }) else known)) unwritten
  spared (Get at_key now) (Found (Some value)) chosen deadline key known unwritten valid = used_if (keys.eq at_key key) now known known refl
  spared request answer chosen deadline key known unwritten valid = ap (λ b. value_of (if b then None else known)) valid

  module _ {W : Type 0} where
    behind : (key : K) (visit past other : List (Transition K V S W)) → value_written keys key (exchanges past) ≡ value_written keys key (exchanges other)
        → value_written keys key (exchanges (visit ++ past)) ≡ value_written keys key (exchanges (visit ++ other))
    behind key [] past other e = e
    behind key (call ∷ visit) past other e =
        by_value call.request call.answer (chosen_keys call.request call.before.contents.entries)
        (inserted_deadline call.before.settings.policy call.request) key (last_write keys key (exchanges (visit ++ past)))
        (last_write keys key (exchanges (visit ++ other))) (behind key visit past other e)

    spared_all : (key : K) (visit past : List (Transition K V S W)) → Every (Spares keys key) visit
        → value_written keys key (exchanges (visit ++ past)) ≡ value_written keys key (exchanges past)
    spared_all key [] past all = refl
    spared_all key (call ∷ visit) past all =
        spared call.request call.answer (chosen_keys call.request call.before.contents.entries)
        (inserted_deadline call.before.settings.policy call.request) key (last_write keys key (exchanges (visit ++ past))) all.0.0 all.0.1
        ∙ spared_all key visit past all.1

    step : (by : ℕ) (key : K) (visit : ℕ × List (Transition K V S W)) (log : List (ℕ × List (Transition K V S W))) (b : Bool) → (visit.0 == by) ≡ b
        → ((visit.0 == by) ≡ false → Every (Spares keys key) visit.1)
        → value_written keys key (exchanges (calls log)) ≡ value_written keys key (exchanges (joined (visits_by by log)))
        → value_written keys key (exchanges (visit.1 ++ calls log)) ≡ value_written keys key (exchanges (joined (if b then
        (visit.1 ∷ visits_by by log) else visits_by by log)))
    step by key visit log true is spares e = behind key visit.1 (calls log) (joined (visits_by by log)) e
    step by key visit log false is spares e = spared_all key visit.1 (calls log) (spares is) ∙ e

    pub own_calls : (by : ℕ) (key : K) (log : List (ℕ × List (Transition K V S W))) → OnlyBy keys by key log
        → value_written keys key (exchanges (calls log)) ≡ value_written keys key (exchanges (joined (visits_by by log)))
    own_calls by key [] only = refl
    own_calls by key (visit ∷ log) only = step by key visit log (visit.0 == by) refl only.0 (own_calls by key log only.1)

    pub spared_visits : (key : K) (visits log : List (ℕ × List (Transition K V S W))) → Every (λ visit. Every (Spares keys key) visit.1) visits
        → value_written keys key (exchanges (calls (visits ++ log))) ≡ value_written keys key (exchanges (calls log))
    spared_visits key [] log all = refl
    spared_visits key (visit ∷ visits) log all = spared_all key visit.1 (calls (visits ++ log)) all.0 ∙ spared_visits key visits log all.1

    -- an accepted insert writes
    pub written : IsEquivalence keys.eq → (key : K) (value : V) (own : Option ℕ) (now : ℕ) (call : Transition K V S W) (past : List (Transition K V S W))
        → call.request ≡ Insert key value own now → call.answer ≡ Done
        → value_written keys key (exchanges (call ∷ past)) ≡ Some value
    written laws key value own now call past asked answered =
        (λ j. value_of (known_after keys (asked j) (answered j) (chosen_keys call.request call.before.contents.entries)
        (inserted_deadline call.before.settings.policy (asked j)) key (last_write keys key (exchanges past))))
        ∙ ap (λ b. value_of (if b then
        Some (record { value = value; deadline = end_of (live_nanos call.before.settings.policy) own now; used = now }) else last_write keys key
        (exchanges past))) (laws.refl key)
