-- The laws of a shard's history, at the place of a visit in it.
use Rattle.std.proofs.Common.{◌≡◌, ◌↔◌, ℕ, ◌∙◌, Bool, true, is_some, ◌∷◌, ◌++◌, Option, Some, None, Result, Ok, ap, refl, subst, sym}
use Rattle.std.specs.Cmp.{IsEquivalence}
use Rattle.std.specs.List.{AllByRecursion, IsDistinct}
use Rattle.std.proofs.lemmas.Bool.{cases_Bool, false_from_ne_true, false≢true}
use Rattle.std.proofs.lemmas.Map.Keys.{IsDistinct-head, IsDistinct-tail}
use Rattle.moka_sync_model.specs.CoreState.{is_expired}
use Rattle.std.proofs.Common.{false, List, [], ◌∷◌, cond, filter, inl, inr, map, not}
use Rattle.moka_sync_model.specs.Parts.{ShardState}
use Rattle.std.specs.Option.{option_map}
use Rattle.moka_common.specs.Keys.{Keys}
use Rattle.moka_common.specs.Settings.{Settings}
use Rattle.moka_common.specs.declared.error.OutOfMemory.{OutOfMemory as MemoryError}
use Rattle.moka_sync_model.specs.declared.ticket.Ticket.{Ticket}
use Rattle.moka_sync_model.specs.Entry.{Entry, entry_at}
use Rattle.moka_shard.specs.Shard.{state_of, unexpired}
use Rattle.moka_row.specs.Visits.{at}
use Rattle.moka_history.specs.Steps as act
use Rattle.moka_history.specs.Steps.{Act, Step, IsAct, Leads, acts, new_shard}
use Rattle.moka_history.specs.LastWrite.{IsCurrent}
use Rattle.moka_history.specs.Laws.{Lacks}
use Rattle.moka_history.proofs.LawLemmas.{hits_are_current, inserts_stand, led_valid, misses_have_a_reason, remove_as_get}
use Rattle.moka_locks.specs.History.{AnyWeight, Every, Knows, Log, Makes, MakesIn, Puts, found_at, place_of, rest, steps}
use Rattle.moka_locks.proofs.HidingLemmas.{every_follows}
use Rattle.moka_locks.specs.Tells.{Gets, Hits, Looks, Misses, Stands, TellsClone}

module _ {K V S : Type 0} (keys : Keys K S) (laws : IsEquivalence keys.eq) (settings : Settings S) where
  module _ (v w : Knows K V S) (i : ℕ) (did : Act K V) (m : MakesIn keys settings v i did w) where
    -- the steps before the last one, and the last one
    parts : Leads keys AnyWeight settings (new_shard settings i m.history.first) (m.step ∷ steps (m.since ++ at v.seen i)) (state_of m.shard)
    parts = subst (λ (log : Log K V S). Leads keys AnyWeight settings (new_shard settings i m.history.first) (steps log) (state_of m.shard)) m.seen
        m.history.led

    act_of : IsAct keys AnyWeight settings m.step.before did m.step.after
    act_of = subst (λ (a : Act K V). IsAct keys AnyWeight settings m.step.before a m.step.after) m.did parts.1

    -- what a get in its place finds is current
    current : (key : K) (now valid_after : ℕ) (value : V) (t : Ticket) → IsAct keys AnyWeight settings m.step.before
        (act.Gets key now valid_after (Some (value, t))) m.step.before
        → IsCurrent keys.eq settings.policy valid_after now (acts (steps (rest (at w.seen i)))) key value
    current key now valid_after value t gets =
        subst (λ (log : Log K V S). IsCurrent keys.eq settings.policy valid_after now (acts (steps log)) key value) (sym (ap rest m.seen))
        (hits_are_current keys laws AnyWeight settings i m.history.first (steps
        (m.since ++ at v.seen i)) m.step.before m.step.before key now valid_after value t
        parts.3 gets)

    -- and it finds nothing for a reason
    lacking : (key : K) (now valid_after : ℕ) (found : Option (V × Ticket)) → IsAct keys AnyWeight settings m.step.before
        (act.Gets key now valid_after found) m.step.before
        → (found ≡ None) ↔ Lacks V keys AnyWeight settings valid_after now (steps (rest (at w.seen i))) key
    lacking key now valid_after found gets =
        subst (λ (log : Log K V S). (found ≡ None) ↔ Lacks V keys AnyWeight settings valid_after now (steps log) key) (sym (ap rest m.seen))
        (misses_have_a_reason keys laws AnyWeight settings i m.history.first (steps (m.since ++ at v.seen i)) m.step.before m.step.before key now valid_after
        found parts.3 gets)

  -- what a get tells
  pub gets : {is_clone : V → V → Type 0} {v w : Knows K V S} {key : K} {now valid_after : ℕ} {found : Option (V × Ticket)}
      {result : Result (Option V) MemoryError} → TellsClone is_clone (option_map (λ f. f.0) found) result
      → Makes keys settings v (place_of keys settings key) (act.Gets key now valid_after found) w → Gets keys settings is_clone v key now valid_after result w
  gets {v = v} {w = w} {key = key} {now = now} {valid_after = valid_after} {found = found} told made =
      let i = place_of keys settings key in
      let did = (act_of v w i (act.Gets key now valid_after found) made.made).0 in
      record {
        found = found;
        told = told;
        made = made;
        hit = hit found made did;
        miss = miss found made did;
      }
    where
      hit : (f : Option (V × Ticket)) (m : Makes keys settings v (place_of keys settings key) (act.Gets key now valid_after f) w)
          → f ≡ option_map (λ e. (e.value, e.ticket)) (unexpired settings valid_after now (entry_at keys.eq key m.made.step.before.entries))
          → Hits keys settings key now valid_after (option_map (λ f. f.0) f) w
      hit None m did value is = absurd (cc)
      hit (Some (x, t)) m did value is =
          let same : x ≡ value = cc in
          subst (λ y. IsCurrent keys.eq settings.policy valid_after now (acts (steps (rest (at w.seen (place_of keys settings key))))) key y) same
          (current v w (place_of keys settings key) (act.Gets key now valid_after (Some (x, t))) m.made key now valid_after x t (did, refl))

      none_of : (f : Option (V × Ticket)) → option_map (λ f. f.0) f ≡ None → f ≡ None
      none_of None is = refl
      none_of (Some x) is = absurd (cc)

      miss : (f : Option (V × Ticket)) (m : Makes keys settings v (place_of keys settings key) (act.Gets key now valid_after f) w)
          → f ≡ option_map (λ e. (e.value, e.ticket)) (unexpired settings valid_after now (entry_at keys.eq key m.made.step.before.entries))
          → Misses keys settings key now valid_after (option_map (λ f. f.0) f) w
      miss f m did =
          let both = lacking v w (place_of keys settings key) (act.Gets key now valid_after f) m.made key now valid_after f (did, refl) in
          (λ none. both.0 (none_of f none), λ lacks. ap (option_map (λ f. f.0)) (both.1 lacks))

  -- what a look tells
  pub looks : {v w : Knows K V S} {key : K} {now valid_after : ℕ} {there : Bool}
      → Makes keys settings v (place_of keys settings key) (act.Looks key now valid_after there) w → Looks keys settings v key now valid_after there w
  looks {v = v} {w = w} {key = key} {now = now} {valid_after = valid_after} {there = there} made =
      let i = place_of keys settings key in
      record {
        made = made;
        hit = λ is.
            found (unexpired settings valid_after now (entry_at keys.eq key made.made.step.before.entries)) refl
            (sym (act_of v w i (act.Looks key now valid_after there) made.made).0 ∙ is);
      }
    where
      found : (o : Option (Entry K V)) → unexpired settings valid_after now (entry_at keys.eq key made.made.step.before.entries) ≡ o → is_some o ≡ true
          → (value : V)
          × IsCurrent keys.eq settings.policy valid_after now (acts (steps (rest (at w.seen (place_of keys settings key))))) key value
      found None stood is = absurd (cc)
      found (Some e) stood is = (
        e.value,
        current v w (place_of keys settings key) (act.Looks key now valid_after there) made.made key now valid_after e.value e.ticket
            (ap (option_map (λ e. (e.value, e.ticket))) (sym stood), refl),
      )

  -- what an accepted insert tells
  pub entered : {weighs : K → V → ℕ → Type 0} {v w : Knows K V S} {key : K} {value : V} {now : ℕ} {t : Ticket}
      (puts : Puts keys settings weighs v key value now (Ok t) w) → Stands keys settings key value now t puts.made.made.step.after
  entered {v = v} {w = w} {key = key} {value = value} {now = now} {t = t} puts =
      let i = place_of keys settings key in
      let m = puts.made.made in
      inserts_stand keys laws AnyWeight settings i m.history.first (steps (m.since ++ at v.seen i)) m.step.before m.step.after key value now t
      (parts v w i (act.Inserts key value now (Ok t)) m).3 (act_of v w i (act.Inserts key value now (Ok t)) m)

  -- what a removal finds is current
  pub removes : {v w : Knows K V S} {key : K} {now valid_after : ℕ} {found : Option V} {left : Option Ticket}
      → Makes keys settings v (place_of keys settings key) (act.Takes key now valid_after found left) w → Hits keys settings key now valid_after found w
  removes {v = v} {w = w} {key = key} {now = now} {valid_after = valid_after} {found = found} {left = left} made value is =
      let i = place_of keys settings key in
      let as_get = remove_as_get keys laws AnyWeight settings made.made.step.before made.made.step.after key now valid_after found left
      (act_of v w i (act.Takes key now valid_after found left) made.made) in
      by as_get.0 as_get.1 (sym as_get.2 ∙ is)
    where
      by : (got : Option (V × Ticket)) → IsAct keys AnyWeight settings made.made.step.before (act.Gets key now valid_after got) made.made.step.before
          → option_map (λ g. g.0) got ≡ Some value
          → IsCurrent keys.eq settings.policy valid_after now (acts (steps (rest (at w.seen (place_of keys settings key))))) key value
      by None gets same = absurd (cc)
      by (Some (x, t)) gets same =
          let here : x ≡ value = cc in
          subst (λ y. IsCurrent keys.eq settings.policy valid_after now (acts (steps (rest (at w.seen (place_of keys settings key))))) key y) here
          (current v w (place_of keys settings key) (act.Takes key now valid_after found left) made.made key now valid_after x t gets)

  -- ---- pairs that are copied

  -- each entry is found by its key
  finds_itself : (es : List (Entry K V)) → IsDistinct keys.eq (map (λ e. e.key) es) → AllByRecursion (λ x. entry_at keys.eq x.key es ≡ Some x) es
  finds_itself [] once = tt
  finds_itself (x ∷ es) once = (
    ap (λ b. cond b (Some x) (entry_at keys.eq x.key es)) (laws.refl x.key),
    behind es (IsDistinct-head keys.eq x.key (map (λ e. e.key) es) once) (finds_itself es (IsDistinct-tail keys.eq x.key (map (λ e. e.key) es) once)),
  )
    where
      behind : (ys : List (Entry K V)) → AllByRecursion (λ k. keys.eq x.key k ≡ false) (map (λ e. e.key) ys)
          → AllByRecursion (λ y. entry_at keys.eq y.key es ≡ Some y) ys → AllByRecursion (λ y. entry_at keys.eq y.key (x ∷ es) ≡ Some y) ys
      behind [] differ found = tt
      behind (y ∷ ys) differ found =
          let other : keys.eq y.key x.key ≡ false =
          false_from_ne_true (keys.eq y.key x.key) (λ same. false≢true (sym differ.0 ∙ (laws.symm x.key y.key ∙ same))) in (
            ap (λ b. cond b (Some x) (entry_at keys.eq y.key es)) other ∙ found.0,
            behind ys differ.1 found.1,
          )

  -- so a get finds each live pair
  pairs_found : (shard : ShardState K V S) (now valid_after : ℕ) (es : List (Entry K V))
      → AllByRecursion (λ x. entry_at keys.eq x.key shard.entries ≡ Some x) es
      → Every (λ (p : K × V). (t : Ticket) × (found_at keys.eq settings shard p.0 now valid_after ≡ Some (p.1, t)))
      (map (λ e. (e.key, e.value)) (filter (λ e. not (is_expired settings valid_after now e)) es))
  pairs_found shard now valid_after [] found = tt
  pairs_found shard now valid_after (x ∷ es) found =
      elim (cases_Bool (is_expired settings valid_after now x)) [
        | inl expired ↦ rw expired (pairs_found shard now valid_after es found.1)
        | inr live ↦
            let here : unexpired settings valid_after now (entry_at keys.eq x.key shard.entries) ≡ Some x =
            ap (unexpired settings valid_after now) found.0 ∙ ap (λ b. cond b None (Some x)) live in
            rw live ((x.ticket, ap (option_map (λ e. (e.value, e.ticket))) here), pairs_found shard now valid_after es found.1)
      ]

  -- what is copied is current
  pub copies : {v w : Knows K V S} {i now valid_after : ℕ} {pairs : List (K × V)} → Makes keys settings v i (act.Copies now valid_after pairs) w
      → Every (λ (p : K × V). IsCurrent keys.eq settings.policy valid_after now (acts (steps (rest (at w.seen i)))) p.0 p.1) pairs
  copies {v = v} {w = w} {i = i} {now = now} {valid_after = valid_after} {pairs = pairs} made =
      let m = made.made in
      let did = act.Copies now valid_after pairs in
      let shard = m.step.before in
      let valid = led_valid keys laws AnyWeight settings i m.history.first (steps (m.since ++ at v.seen i)) shard (parts v w i did m).3 in
      every_follows pairs
      (λ p is. current v w i did m p.0 now valid_after p.1 is.0 (sym is.1, refl))
      (subst (Every (λ (p : K × V). (t : Ticket) × (found_at keys.eq settings shard p.0 now valid_after ≡ Some (p.1, t)))) (sym (act_of v w i did m).0)
      (pairs_found shard now valid_after shard.entries (finds_itself shard.entries valid.keys_apart)))
