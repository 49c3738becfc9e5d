-- A visit keeps a shard's account, and tells the caller where its step stands.
use Rattle.std.proofs.Common.{◌≡◌, ◌≤◌, ℕ, ◌∙◌, Bool, true, false, List, [], ◌∷◌, ◌++◌, Option, Some, None, Result, Ok, Err, IfOk, IfSome, IsErr, IsSome, OnErr}
use Rattle.std.proofs.Common.{OnOk, ap}
use Rattle.std.proofs.Common.{arith, ⊎_elim, inl, inr, not, map, filter, length, get_or, refl, subst, sym}
use Rattle.std.specs.Cmp.{IsEquivalence}
use Rattle.std.specs.List.{All, AllByRecursion}
use Rattle.std.proofs.lemmas.Bool.{cases_Bool}
use Rattle.std.proofs.lemmas.List.Elements.{All-from_recursion, recursion_from_All}
use mathlib.Core.Option.{some}
use lib.ListN.{get_elem?}
use Rattle.moka_sync_model.specs.CoreState.{is_expired}
use Rattle.std.specs.Option.{option_map}
use Rattle.atomic_table.specs.Table.{Me, rest}
use Rattle.moka_common.specs.Keys.{Keys}
use Rattle.moka_sync_model.specs.declared.ticket.Ticket.{Ticket}
use Rattle.moka_sync_model.specs.Entry.{Entry, entry_at}
use Rattle.moka_sync_model.specs.Parts.{IsValidShard, ShardState}
use Rattle.moka_common.specs.declared.error.InsertError.{InsertError}
use Rattle.moka_sync_model.specs.Ticket.{shard_of}
use Rattle.moka_row.specs.Kept.{Got}
use Rattle.moka_row.specs.Visits.{GoesOn, IsIdle, Known, Visits as Visitor, at, at_lock, after_visit, noted, put, visits_by}
use Rattle.moka_row.proofs.Rules.{at_end, put_here, put_else}
use Rattle.moka_shard.specs.Shard.{Shard, state_of}
use Rattle.moka_shard.specs.ShardStep.{IsInsert, pairs_at}
use Rattle.moka_history.specs.Steps.{Act, Inserts, Step, IsAct, new_shard}
use Rattle.moka_history.proofs.LawLemmas.{led_frame}
use Rattle.moka_locks.specs.declared.account.Kept.{Kept}
use Rattle.moka_locks.specs.Cache.{Plan}
use Rattle.moka_locks.specs.Moments.{GoesOn as MomentsGoOn, latest}
use Rattle.moka_locks.specs.History.{AnyWeight, AreShards, IsKeptBy, IsLedBy, IsOfShard, Knows, Log, Makes, Puts, Visit, moment_of, place_of, steps}
use Rattle.moka_locks.proofs.HidingLemmas.{every_follows, latest_since, no_less, no_more, up_to}

abbrev pub step_of : {K V S : Type 0} → Shard K V S → Act K V → Shard K V S → Step K V S
step_of before act after = record { before = state_of before; act = act; after = state_of after }

-- what lies at the head of what is held
same_head : {T : Type 0} (i : ℕ) (x y : T) (held : List (ℕ × T)) → held ≡ (i, x) ∷ rest held → held ≡ (i, y) ∷ [] → x ≡ y
same_head {T = T} i x y held e e' = ap (λ (l : List (ℕ × T)). (get_or l 0 (i, x)).1) (sym e ∙ e')

-- who got a lock holds its value first
pub first_held : {T E K : Type 0} {Holds : K → ℕ → List (ℕ × E) → T → Type 0} {i : ℕ} {me u : Me T (Known E K)} → Got Holds i me u
    → (x : T) × (u.1 ≡ (i, x) ∷ rest u.1)
first_held {i = i} got = (got.content, ap (λ m. m.1) got.now ∙ ap (λ l. (i, got.content) ∷ rest l) (sym (ap (λ m. m.1) got.now)))

-- A visit leaves a shard's seat at the moments as one that has seen no less, and an act that hides does so by no earlier moment than the seat had seen, and by
-- none that it has not seen then.
pub record Hides {K V S : Type 0} (act : Act K V) (before after : Kept (Shard K V S)) : Type 0 where
  pub seat : (after.witness.table_id ≡ before.witness.table_id) × (after.witness.me.1 ≡ [])
  pub grows : latest before.witness.me.0.seen ≤ latest after.witness.me.0.seen
  pub within : IfSome (moment_of act) (λ m. (latest before.witness.me.0.seen ≤ m) × (m ≤ latest after.witness.me.0.seen))

module _ {K V S : Type 0} (keys : Keys K S) (plan : Plan S) (i : ℕ) where
  -- A caller has the lock of a shard, and nothing else. The shard is what its history says, which goes on from what the caller had seen.
  pub record Entered (v : Knows K V S) (u : Me (Kept (Shard K V S)) (Knows K V S)) (kept : Kept (Shard K V S)) : Type 0 where
    pub log : Log K V S
    pub locked : u.0 ≡ at_lock i log v
    pub alone : rest u.1 ≡ []
    pub account : IsKeptBy keys plan i log kept
    pub saw : GoesOn (at v.seen i) log
    pub own : visits_by v.by log ≡ at v.mine i

  -- What a visit does there: one step, and the entry that notes it.
  pub record Did (v : Knows K V S) (u : Me (Kept (Shard K V S)) (Knows K V S)) (before after : Kept (Shard K V S)) (act : Act K V) (entry : Visit K V S)
      : Type 0 where
    pub entered : Entered v u before
    pub is : IsAct keys AnyWeight plan.settings (state_of before.shard) act (state_of after.shard)
    pub valid : IsValidShard keys (state_of after.shard)
    pub own : IsOfShard keys plan.settings i act
    pub hides : Hides act before after
    pub noted : entry ≡ step_of before.shard act after.shard ∷ []

  -- who got the lock has entered
  pub enters : (me u : Me (Kept (Shard K V S)) (Knows K V S)) (kept : Kept (Shard K V S)) → Got (λ p j log x. IsKeptBy keys p j log x) i me u
      → me.0.plan ≡ Some plan → u.1 ≡ (i, kept) ∷ rest u.1 → Entered me.0 u kept
  enters me u kept got is held = record {
    log = got.log;
    locked = ap (λ m. m.0) got.now;
    alone = ap (λ m. rest m.1) got.now;
    account =
        subst (λ x. IsKeptBy keys plan i got.log x) (sym (same_head i kept got.content u.1 held (ap (λ m. m.1) got.now))) (got.kept plan is);
    saw = got.saw;
    own = got.own;
  }

-- what hides by the latest moment that the seat has seen then
pub hides_latest : {K V S : Type 0} (act : Act K V) (m : ℕ) (before after : Kept (Shard K V S)) → moment_of act ≡ Some m
    → (after.witness.table_id ≡ before.witness.table_id) × (after.witness.me.1 ≡ []) → MomentsGoOn before.witness.me.0.seen after.witness.me.0.seen
    → m ≡ latest after.witness.me.0.seen → Hides act before after
hides_latest act m before after is seat on last =
    let grows : latest before.witness.me.0.seen ≤ latest after.witness.me.0.seen = latest_since on in
    record {
      seat = seat;
      grows = grows;
      within = subst (λ o. IfSome o (λ n. (latest before.witness.me.0.seen ≤ n) × (n ≤ latest after.witness.me.0.seen))) (sym is)
          (omega (arith, grows, last), omega (arith, last));
    }

module _ {K V S : Type 0} (keys : Keys K S) where
  -- what an insert on a shard promises, by a hash
  abbrev pub InsertsBy : (K → V → ℕ → Type 0) → ℕ → K → V → ℕ → Result Ticket InsertError → ShardState K V S → ShardState K V S → Type 0
  InsertsBy weighs hash key value now answer old new =
      (weight : ℕ) × (refused : Bool) × OnOk answer (weighs key value weight)
      × IsInsert old hash key value weight now refused (entry_at keys.eq key old.entries) answer new

-- what holds of what was found holds of the answer, or of something that was found
pub found_tells : {X H E : Type 0} (M : Option X → Type 0) (found : Option X) (r : Result (Option X × H) E) → IfOk r (λ answer. answer.0 ≡ found)
    → (IsErr r → IsSome found) → M found → IfOk r (λ answer. M answer.0) × OnErr r ((x : X) × M (Some x))
found_tells M found (Ok answer) is refused m = (subst M (sym is) m, tt)
found_tells M None (Err e) is refused m = let h : false ≡ true = refused refl in absurd (cc)
found_tells M (Some x) (Err e) is refused m = (tt, (x, m))

-- something is something else
pub some_mapped : {X Y : Type 0} (f : X → Y) (o : Option X) → IsSome o → IsSome (option_map f o)
some_mapped f None is = is
some_mapped f (Some x) is = refl

on_ok : {T E : Type 0} (r : Result T E) → OnOk r (Unit {0})
on_ok (Ok x) = tt
on_ok (Err e) = tt

module _ {K V S : Type 0} {keys : Keys K S} {plan : Plan S} {i : ℕ} {v : Knows K V S} {u : Me (Kept (Shard K V S)) (Knows K V S)} where
  -- what doesn't look at the moments leaves the seat
  pub hides_none : {kept : Kept (Shard K V S)} (act : Act K V) (shard : Shard K V S)
      → Entered keys plan i v u kept → moment_of act ≡ None → Hides act kept (record { shard = shard; witness = kept.witness })
  hides_none {kept = kept} act shard e none = record {
    seat = (refl, e.account.seat.1);
    grows = omega arith;
    within = subst (λ o. IfSome o (λ m. (latest kept.witness.me.0.seen ≤ m) × (m ≤ latest kept.witness.me.0.seen))) (sym none) tt;
  }

  -- a key's hash by the settings is its hash in the shard
  pub its_hash : {kept : Kept (Shard K V S)} (laws : IsEquivalence keys.eq) (hash : ℕ) (key : K) → Entered keys plan i v u kept
      → hash ≡ keys.hash_of plan.settings.hash_state key → hash ≡ keys.hash_of kept.shard.hash_state key
  its_hash {kept = kept} laws hash key e is =
      is
      ∙ ap (λ (p : ℕ × S). keys.hash_of p.1 key)
      (sym (led_frame keys laws AnyWeight plan.settings (new_shard plan.settings i e.account.led.first) (state_of kept.shard) (steps e.log) e.account.led.led))

  -- and its shard is this one
  pub its_number : {kept : Kept (Shard K V S)} (laws : IsEquivalence keys.eq) (hash : ℕ) (key : K) → Entered keys plan i v u kept
      → hash ≡ keys.hash_of plan.settings.hash_state key → place_of keys plan.settings key ≡ i → shard_of hash ≡ kept.shard.number
  its_number {kept = kept} laws hash key e is place =
      ap shard_of is
      ∙ (place
      ∙ ap (λ (p : ℕ × S). p.0)
      (sym (led_frame keys laws AnyWeight plan.settings (new_shard plan.settings i e.account.led.first) (state_of kept.shard) (steps e.log) e.account.led.led)))

  -- the account, if nothing was done but a look at the moments
  pub unvisited : {kept : Kept (Shard K V S)} (e : Entered keys plan i v u kept) (after : Kept (Shard K V S)) → after.shard ≡ kept.shard
      → (after.witness.table_id ≡ kept.witness.table_id) × (after.witness.me.1 ≡ []) → MomentsGoOn kept.witness.me.0.seen after.witness.me.0.seen
      → (x : Kept (Shard K V S)) × ((i, after) ∷ rest u.1 ≡ (i, x) ∷ []) × IsKeptBy keys plan i (at u.0.seen i) x
  unvisited {kept = kept} e after same seat on = (
    after,
    ap (λ l. (i, after) ∷ l) e.alone,
    subst (λ (z : Knows K V S). IsKeptBy keys plan i (at z.seen i) after) (sym e.locked)
        (subst (λ (z : Log K V S). IsKeptBy keys plan i z after) (sym (put_here v.seen i e.log)) (record {
          led = subst (λ (x : Shard K V S). IsLedBy keys plan.settings i e.log x) (sym same) e.account.led;
          seat = (seat.0 ∙ e.account.seat.0, seat.1);
          hides = every_follows (steps e.log) (λ step. up_to step _ _ (latest_since on)) e.account.hides;
        })),
  )

  module _ {before after : Kept (Shard K V S)} {act : Act K V} {entry : Visit K V S} where
    one_more : (d : Did keys plan i v u before after act entry)
        → IsKeptBy keys plan i ((v.by, step_of before.shard act after.shard ∷ []) ∷ d.entered.log) after
    one_more d =
        let was = d.entered.account in
        record {
          led = record {
            first = was.led.first;
            led = (refl, d.is, d.valid, was.led.led);
            own = (d.own, was.led.own);
            hides = (no_less (moment_of act) _ _ (steps d.entered.log) d.hides.within was.hides, was.led.hides);
          };
          seat = (d.hides.seat.0 ∙ was.seat.0, d.hides.seat.1);
          hides = (no_more (moment_of act) _ _ d.hides.within, every_follows (steps d.entered.log) (λ step. up_to step _ _ d.hides.grows) was.hides);
        }

    -- the account, once the step is noted
    pub kept : Did keys plan i v u before after act entry
        → (x : Kept (Shard K V S)) × ((i, after) ∷ rest u.1 ≡ (i, x) ∷ []) × IsKeptBy keys plan i (noted u.0.by (Some entry) (at u.0.seen i)) x
    kept d = (
      after,
      ap (λ l. (i, after) ∷ l) d.entered.alone,
      subst (λ (z : Knows K V S). IsKeptBy keys plan i (noted z.by (Some entry) (at z.seen i)) after) (sym d.entered.locked)
          (subst (λ (z : Log K V S × Visit K V S). IsKeptBy keys plan i ((v.by, z.1) ∷ z.0) after)
          (λ j. (sym (put_here v.seen i d.entered.log) j, sym d.noted j)) (one_more d)),
    )

    -- where the step stands, once the lock is given back, with what else is known of it
    stands : (w : Me (Kept (Shard K V S)) (Knows K V S)) (d : Did keys plan i v u before after act entry) (P : Step K V S → Type 0)
        → P (step_of before.shard act after.shard) → w ≡ (after_visit i (Some entry) u.0, [])
        → (m : Makes keys plan.settings v i act w.0) × P m.made.step
    stands w d P p left =
        subst (λ (z : Knows K V S). (m : Makes keys plan.settings v i act z) × P m.made.step)
        (sym (ap (λ m. m.0) left ∙ (λ j. after_visit i (Some (d.noted j)) (d.entered.locked j)))) (
          record {
            made = record {
              step = step_of before.shard act after.shard;
              shard = after.shard;
              since = d.entered.saw.0;
              did = refl;
              history = subst (λ (z : Log K V S). IsLedBy keys plan.settings i z after.shard) (sym whole) (one_more d).led;
              seen = whole ∙ ap (λ l. (v.by, step_of before.shard act after.shard ∷ []) ∷ l) d.entered.saw.1;
              mine = put_here v.mine i ((step_of before.shard act after.shard ∷ []) ∷ at v.mine i);
              told = ap (visits_by v.by) (sym d.entered.saw.1) ∙ d.entered.own;
              same = refl;
            };
            others = λ j apart. (
              put_else (put v.seen i d.entered.log) i j ((v.by, step_of before.shard act after.shard ∷ []) ∷ at (put v.seen i d.entered.log) i) apart
                  ∙ put_else v.seen i j d.entered.log apart,
              put_else v.mine i j ((step_of before.shard act after.shard ∷ []) ∷ at v.mine i) apart,
            );
          },
          p,
        )
      where
        whole : at (put (put v.seen i d.entered.log) i ((v.by, step_of before.shard act after.shard ∷ []) ∷ at (put v.seen i d.entered.log) i)) i
            ≡ (v.by, step_of before.shard act after.shard ∷ []) ∷ d.entered.log
        whole =
            put_here (put v.seen i d.entered.log) i ((v.by, step_of before.shard act after.shard ∷ []) ∷ at (put v.seen i d.entered.log) i)
            ∙ ap (λ l. (v.by, step_of before.shard act after.shard ∷ []) ∷ l) (put_here v.seen i d.entered.log)

    -- the same at a place that is this one
    pub stands_at : (w : Me (Kept (Shard K V S)) (Knows K V S)) (place : ℕ) → place ≡ i → Did keys plan i v u before after act entry
        → (P : Step K V S → Type 0) → P (step_of before.shard act after.shard) → w ≡ (after_visit i (Some entry) u.0, [])
        → (m : Makes keys plan.settings v place act w.0) × P m.made.step
    stands_at w place is d P p left =
        subst (λ (n : ℕ). (m : Makes keys plan.settings v n act w.0) × P m.made.step) (sym is) (stands w d P p left)

    pub makes : (w : Me (Kept (Shard K V S)) (Knows K V S)) (place : ℕ) → place ≡ i → Did keys plan i v u before after act entry
        → w ≡ (after_visit i (Some entry) u.0, []) → Makes keys plan.settings v place act w.0
    makes w place is d left = (stands_at w place is d (λ s. Unit {0}) tt left).0

    -- who has the lock may give it back
    pub holds_lock : Did keys plan i v u before after act entry → v.role ≡ Visitor → (u.0.held ≡ Some i) × (u.0.role ≡ Visitor)
    holds_lock d visits = (ap (λ (k : Knows K V S). k.held) d.entered.locked, ap (λ (k : Knows K V S). k.role) d.entered.locked ∙ visits)

    -- who has given the lock back is idle again
    pub idle_again : (w : Me (Kept (Shard K V S)) (Knows K V S)) → Did keys plan i v u before after act entry → v.role ≡ Visitor
        → v.plan ≡ Some plan → w ≡ (after_visit i (Some entry) u.0, []) → IsIdle plan w
    idle_again w d visits is left = (
      ap (λ m. m.1) left,
      ap (λ m. m.0.held) left,
      ap (λ m. m.0.role) left ∙ (ap (λ (k : Knows K V S). k.role) d.entered.locked ∙ visits),
      ap (λ m. m.0.plan) left ∙ (ap (λ (k : Knows K V S). k.plan) d.entered.locked ∙ is),
    )

  -- an insert by the key's hash is a step
  pub insert_act : IsEquivalence keys.eq → (before after : Kept (Shard K V S)) (weighs : K → V → ℕ → Type 0) (hash : ℕ) (key : K) (value : V) (now : ℕ)
      (answer : Result Ticket InsertError) → Entered keys plan i v u before → hash ≡ keys.hash_of plan.settings.hash_state key
      → InsertsBy keys weighs hash key value now answer (state_of before.shard) (state_of after.shard)
      → IsAct keys AnyWeight plan.settings (state_of before.shard) (Inserts key value now answer) (state_of after.shard)
  insert_act laws before after weighs hash key value now answer e is step = (
    step.0,
    step.1,
    on_ok answer,
    subst (λ h. IsInsert (state_of before.shard) h key value step.0 now step.1 (entry_at keys.eq key (state_of before.shard).entries) answer
        (state_of after.shard))
        (its_hash laws hash key e is) step.3,
  )

  -- where it stands, with its weight
  pub puts : (before after : Kept (Shard K V S)) (weighs : K → V → ℕ → Type 0) (hash : ℕ) (key : K) (value : V) (now : ℕ) (answer : Result Ticket InsertError)
      {entry : Visit K V S} (w : Me (Kept (Shard K V S)) (Knows K V S)) → hash ≡ keys.hash_of plan.settings.hash_state key
      → Did keys plan i v u before after (Inserts key value now answer) entry
      → InsertsBy keys weighs hash key value now answer (state_of before.shard) (state_of after.shard)
      → w ≡ (after_visit i (Some entry) u.0, []) → Puts keys plan.settings weighs v key value now answer w.0
  puts before after weighs hash key value now answer w is d step left =
      let s = stands_at w (place_of keys plan.settings key) d.own d
      (λ s. InsertsBy keys weighs (keys.hash_of plan.settings.hash_state key) key value now answer s.before s.after)
      (subst (λ h. InsertsBy keys weighs h key value now answer (state_of before.shard) (state_of after.shard)) is step) left in
      record { made = s.0; weight = s.1.0; refused = s.1.1; weighed = s.1.2; step = s.1.3 }

module _ {K V S : Type 0} {keys : Keys K S} {plan : Plan S} {i : ℕ} {v : Knows K V S} {u : Me (Kept (Shard K V S)) (Knows K V S)} where
  -- the keys of a shard's pairs are its own
  pub own_pairs : {kept : Kept (Shard K V S)} (laws : IsEquivalence keys.eq) (now valid_after : ℕ) → Entered keys plan i v u kept
      → IsValidShard keys (state_of kept.shard) → All (λ p. place_of keys plan.settings p.0 ≡ i) (pairs_at plan.settings valid_after now (state_of kept.shard))
  own_pairs {kept = kept} laws now valid_after e valid =
      All-from_recursion (λ (p : K × V). place_of keys plan.settings p.0 ≡ i) (pairs_at plan.settings valid_after now (state_of kept.shard))
      (go (state_of kept.shard).entries (recursion_from_All Belongs (state_of kept.shard).entries valid.belong)
      (recursion_from_All IsHashed (state_of kept.shard).entries valid.hashed))
    where
      Belongs : Entry K V → Type 0
      Belongs x = shard_of x.ticket.hash ≡ kept.shard.number

      IsHashed : Entry K V → Type 0
      IsHashed x = x.ticket.hash ≡ keys.hash_of kept.shard.hash_state x.key

      frames : (let f : ℕ × S = (kept.shard.number, kept.shard.hash_state) in f ≡ (i, plan.settings.hash_state))
      frames = led_frame keys laws AnyWeight plan.settings (new_shard plan.settings i e.account.led.first) (state_of kept.shard) (steps e.log) e.account.led.led

      one : (x : Entry K V) → Belongs x → IsHashed x → place_of keys plan.settings x.key ≡ i
      one x belongs hashed =
          ap (λ (p : ℕ × S). shard_of (keys.hash_of p.1 x.key)) (sym frames)
          ∙ (ap shard_of (sym hashed) ∙ (belongs ∙ ap (λ (p : ℕ × S). p.0) frames))

      go : (es : List (Entry K V)) → AllByRecursion Belongs es → AllByRecursion IsHashed es
          → AllByRecursion (λ (p : K × V). place_of keys plan.settings p.0 ≡ i)
          (map (λ x. (x.key, x.value)) (filter (λ x. not (is_expired plan.settings valid_after now x)) es))
      go [] belong hashed = tt
      go (x ∷ es) belong hashed =
          elim (cases_Bool (not (is_expired plan.settings valid_after now x))) [
            | inl kept ↦ rw kept (one x belong.0 hashed.0, go es belong.1 hashed.1)
            | inr gone ↦ rw gone (go es belong.1 hashed.1)
          ]

  -- who has given the lock back with nothing noted is idle again
  pub idle_unsaid : {kept : Kept (Shard K V S)} (w : Me (Kept (Shard K V S)) (Knows K V S)) → Entered keys plan i v u kept → v.role ≡ Visitor
      → v.plan ≡ Some plan → w ≡ (after_visit i None u.0, []) → IsIdle plan w
  idle_unsaid w e visits is left = (
    ap (λ m. m.1) left,
    ap (λ m. m.0.held) left,
    ap (λ m. m.0.role) left ∙ (ap (λ (k : Knows K V S). k.role) e.locked ∙ visits),
    ap (λ m. m.0.plan) left ∙ (ap (λ (k : Knows K V S). k.plan) e.locked ∙ is),
  )

-- no shard, and one more
module _ {K V S : Type 0} (keys : Keys K S) (plan : Plan S) where
  pub no_shards : AreShards {K = K} {V = V} keys plan []
  no_shards i x e = absurd (cc)

  pub one_more_shard : (shards : List (Kept (Shard K V S))) (x : Kept (Shard K V S)) (i : ℕ) → AreShards keys plan shards → length shards ≡ i
      → state_of x.shard ≡ new_shard plan.settings i 0 → (x.witness.table_id ≡ plan.moments) × (x.witness.me.1 ≡ [])
      → AreShards keys plan (shards ++ x ∷ [])
  one_more_shard shards x i all here new seat j y there =
      ⊎_elim
      (λ (was : get_elem? shards j ≡ some y). all j y was)
      (λ (last : (j ≡ length shards) × (x ≡ y)).
      subst (λ (z : ℕ × Kept (Shard K V S)). IsKeptBy keys plan z.0 [] z.1) (λ k. (sym (last.0 ∙ here) k, last.1 k))
      (record { led = record { first = 0; led = new; own = tt; hides = tt }; seat = seat; hides = tt }))
      (at_end shards x y j there)
