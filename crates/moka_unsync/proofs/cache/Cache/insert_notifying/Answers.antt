use Rattle.std.proofs.Common.{◌≡◌, ◌∙◌, ◌<◌, ◌≤◌, ◌+◌, ℕ, Bool, Option, None, Some, ap, arith, is_some, length, min, option_map, false, refl, rules, subst, sym}
use Rattle.std.proofs.Common.{true, unwrap_or}
use Rattle.std.specs.Duration.{as_nanos}
use Rattle.moka_common.specs.Settings.{keeps_writes}
use Rattle.moka_unsync_model.specs.CacheState.{CacheState, windowed}
use Rattle.moka_unsync_model.specs.Contents.{entry_at, main_of}
use Rattle.moka_list.proofs.IdLemmas.{some_parts}
use Rattle.moka_unsync_model.specs.Insert.{IsInserted, Refused, after_admission, after_entering, after_entering_judged, after_insert, after_update}
use Rattle.moka_unsync_model.specs.Cleanup.{after_cleanup}
use Rattle.moka_unsync_model.specs.Window.{victims_of}
use Rattle.moka_store.specs.Store.{KeepsSettings, Store, contents_of, entries_of}
use Rattle.moka_common.specs.Keys.{keys_by}
use Rattle.moka_unsync_model.specs.declared.entry.Entry.{Entry}
use Rattle.moka_unsync_model.specs.declared.entry.Part.TheVariants.{Probation}
use Rattle.moka_unsync_model.specs.declared.shares.PartLimits.{PartLimits}
use Rattle.moka_unsync_model.specs.Shares.{limits_of, windowed_limits}
use Rattle.moka_unsync.specs.Cached.{IsCached, IsPut, after_following}
use Rattle.moka_unsync.proofs.CachedLemmas.{IsCached-put, IsCached-room, IsCached-update, IsCached-cleanup, has_hash, length-entries}
use Rattle.moka_unsync.proofs.InsertLemmas.{entering_drops, entering_stays, insert_drops, insert_stays, insert_updates, judged, kept, put_main, stays_main}
use Rattle.moka_unsync.proofs.InsertLemmas.{turn_is, turned}
use Rattle.moka_unsync.proofs.FollowLemmas.{stands_there}
use Rattle.moka_unsync_model.specs.Memory.{Memory, after_coming, demand_after}
use Rattle.moka_unsync_model.specs.declared.entry.Part.{Part}
use Rattle.moka_unsync_model.specs.declared.listener.Cause.TheVariants.{Replaced}
use Rattle.moka_unsync_model.specs.Shares.{main_limit}
use Rattle.moka_unsync_model.specs.Told.{TellsPut, TellsCleanup, cause_at}
use Rattle.moka_unsync_model.specs.ToldCalls.{TellsInsert, main_max}
use Rattle.moka_unsync_model.proofs.EnteringLemmas.{stands-arrived}
use Rattle.moka_unsync.proofs.LeavingLemmas.{follow_told, put_told, update_told}
use Rattle.moka_unsync.proofs.cache.Cache.insert_notifying.Given.{Over}
use Rattle.moka_unsync.proofs.cache.Cache.insert_notifying.Goals.{After-weigh}
use Rattle.moka_unsync.proofs.cache.Cache.insert_notifying.Goals as goal

-- no tables are asked for
abbrev no_tables : Refused
no_tables = record { table = true; tags = true }

-- the hash is that of the key
its_own : (g : Over) (c : After-weigh g) → c.args.hash
    ≡ (keys_by (record { eq = g.K.PartialEq.eq; hash_input = g.K.Hash.hash_input }) g.S.BuildHasher g.S.Hasher.Hasher).hash_of
    c.self.inside.hash_state c.args.key
its_own g c =
    subst (λ cache. c.args.hash ≡
    (keys_by (record { eq = g.K.PartialEq.eq; hash_input = g.K.Hash.hash_input }) g.S.BuildHasher g.S.Hasher.Hasher).hash_of
    cache.settings.hash_state c.args.key) (sym c.self.view_is) c.requires.hashed

-- what was computed of the shares is right, and all entries have their hashes
its_parts : (g : Over) (c : After-weigh g)
    → IsCached (keys_by (record { eq = g.K.PartialEq.eq; hash_input = g.K.Hash.hash_input }) g.S.BuildHasher g.S.Hasher.Hasher)
    c.self.inside.hash_state c.self.inside.bounds c.self.inside.shares c.self.inside.windowed c.clean_up.new.store
its_parts g c =
    IsCached-cleanup c.args.now (IsCached-room c.self.invariant c.reserve.ensures.unchanged) c.clean_up.ensures.step c.clean_up.ensures.kept

pub find-requires : goal.find-requires
find-requires g c =
    let at = (goal.at.find-requires g c).After-weigh in
    has_hash (record { eq = g.K.PartialEq.eq; hash_input = g.K.Hash.hash_input }) g.S.BuildHasher g.S.Hasher.Hasher
    (g.K.PartialEq.eq c.args.key) (g.K.Hash.hash_input c.args.key) (g.met.K.Hash.respects_eq c.args.key) (its_parts g at) (its_own g at)

pub invariant_of-self-in-Some : goal.invariant_of-self-in-Some
invariant_of-self-in-Some g c =
    IsCached-update c.in-Some.id _ c.clean_up.new.store c.update-key.new.self (its_parts g (goal.at.invariant_of-self-in-Some g c).After-weigh)
    c.update-key.ensures.step

-- the writes are kept where there is a time to live
its_keeps : (g : Over) (c : After-weigh g) → c.clean_up.new.store.keeps_writes ≡ keeps_writes c.self.inside.bounds
its_keeps g c = (its_parts g c).keeps

-- the cache with its room and its weigher asked
abbrev its_cache : (g : Over) (c : After-weigh g) → CacheState g.row.K.Denot g.row.V.Denot g.row.S.Denot g.row.W.Denot
its_cache g c = record {
  settings = record { hash_state = c.self.inside.hash_state; policy = c.self.inside.bounds; is_weighed = c.self.inside.is_weighed };
  shares = c.self.inside.shares;
  weigher = c.weigh.new.self;
  contents = contents_of c.self.inside.store;
  sketch = c.self.inside.sketch;
  memory = c.self.inside.memory;
  capacity = c.reserve.new.self.capacity;
}

-- the cache as the call finds it
abbrev its_start : (g : Over) (c : After-weigh g) → CacheState g.row.K.Denot g.row.V.Denot g.row.S.Denot g.row.W.Denot
its_start g c = record (its_cache g c) {
  weigher = c.self.inside.weigher;
  capacity = c.self.inside.store.capacity;
}

-- the entry, with a hash
abbrev its_entry : (g : Over) (c : After-weigh g) → ℕ → Entry g.row.K.Denot g.row.V.Denot
its_entry g c hash = record {
  key = c.args.key;
  value = c.args.value;
  hash = hash;
  weight = c.weigh.result;
  part = Probation;
  accessed = c.args.now;
  deadline = c.deadline-deadline.result;
  outlasts = c.is_beyond-outlasts.result;
}

abbrev its_hash : (g : Over) (c : After-weigh g) → ℕ
its_hash g c =
    (keys_by (record { eq = g.K.PartialEq.eq; hash_input = g.K.Hash.hash_input }) g.S.BuildHasher g.S.Hasher.Hasher).hash_of
    c.self.inside.hash_state c.args.key

-- the contents that cleanup leaves
its_contents : (g : Over) (c : After-weigh g)
    → contents_of c.clean_up.new.store ≡ kept g.K.PartialEq.eq (its_cache g c) (its_entry g c (its_hash g c)) c.args.now no_tables
its_contents g c =
    c.clean_up.ensures.step ∙ ap (λ s. after_cleanup g.K.PartialEq.eq c.self.inside.bounds c.args.now (contents_of s))
    c.reserve.ensures.unchanged

its_absence : (g : Over) (c : After-weigh g) → entry_at g.K.PartialEq.eq c.args.key (entries_of c.clean_up.new.store) ≡ None
    → entry_at g.K.PartialEq.eq c.args.key (kept g.K.PartialEq.eq (its_cache g c) (its_entry g c (its_hash g c)) c.args.now no_tables).entries ≡ None
its_absence g c absent = subst (λ contents. entry_at g.K.PartialEq.eq c.args.key contents.entries ≡ None) (its_contents g c) absent

-- what the new entry leaves, as it was put
abbrev IsPutThere : (g : Over) (c : After-weigh g) → Option PartLimits → Store g.row.K.Denot g.row.V.Denot → Bool → Type 0
IsPutThere g c windowed put stays =
    IsPut g.K.PartialEq.eq c.clean_up.new.store.keeps_writes windowed c.self.inside.bounds.max_capacity c.self.inside.sketch
    (its_entry g c c.args.hash) (contents_of c.clean_up.new.store) stays (contents_of put)

-- and as the machine says
its_put : (g : Over) (c : After-weigh g) (put : Store g.row.K.Denot g.row.V.Denot) (stays : Bool) → IsPutThere g c c.self.inside.windowed put stays
    → IsPut g.K.PartialEq.eq (keeps_writes c.self.inside.bounds)
    (windowed_limits c.self.inside.shares c.self.inside.bounds.max_capacity) c.self.inside.bounds.max_capacity c.self.inside.sketch
    (its_entry g c (its_hash g c)) (kept g.K.PartialEq.eq (its_cache g c) (its_entry g c (its_hash g c)) c.args.now no_tables) stays (contents_of put)
its_put g c put stays step =
    let keeps = its_keeps g c in
    let eq = g.K.PartialEq.eq in
    let sketch = c.self.inside.sketch in
    let left = contents_of put in
    let new = its_entry g c (its_hash g c) in
    let max = c.self.inside.bounds.max_capacity in
    subst (λ k. IsPut eq k (windowed_limits c.self.inside.shares max) max sketch new (kept eq (its_cache g c) new c.args.now no_tables) stays left) keeps
    (subst (λ w. IsPut eq c.clean_up.new.store.keeps_writes w max sketch new (kept eq (its_cache g c) new c.args.now no_tables) stays left)
    c.self.invariant.windowed
    (subst (λ s. IsPut eq c.clean_up.new.store.keeps_writes c.self.inside.windowed max sketch new s stays left) (its_contents g c)
    (subst (λ h. IsPut eq c.clean_up.new.store.keeps_writes c.self.inside.windowed max sketch (its_entry g c h) (contents_of c.clean_up.new.store)
    stays left) (its_own g c) step)))

-- the verdict on the new entry keeps the parts tied
admitted : (g : Over) (c : After-weigh g) (put : Store g.row.K.Denot g.row.V.Denot) (stays : Bool)
    → IsPut g.K.PartialEq.eq c.clean_up.new.store.keeps_writes c.self.inside.windowed c.self.inside.bounds.max_capacity c.self.inside.sketch
    (its_entry g c c.args.hash) (contents_of c.clean_up.new.store) stays (contents_of put) → KeepsSettings c.clean_up.new.store put
    → IsCached (keys_by (record { eq = g.K.PartialEq.eq; hash_input = g.K.Hash.hash_input }) g.S.BuildHasher g.S.Hasher.Hasher)
    c.self.inside.hash_state c.self.inside.bounds c.self.inside.shares c.self.inside.windowed put
admitted g c put stays step same =
    IsCached-put (its_entry g c c.args.hash) c.self.inside.sketch stays
    (its_parts g c) (its_own g c) refl step same

-- what an entry leaves that enters the window
its_entering : (g : Over) (c : After-weigh g) (limits : PartLimits) → c.self.inside.windowed ≡ Some limits
    → (put : Store g.row.K.Denot g.row.V.Denot) (stays : Bool) → IsPutThere g c (Some limits) put stays
    → IsPutThere g c c.self.inside.windowed put stays
its_entering g c limits some put stays step = subst (λ w. IsPutThere g c w put stays) (sym some) step

-- and one that is judged where there is no window
its_admission : (g : Over) (c : After-weigh g) → c.self.inside.windowed ≡ None → (put : Store g.row.K.Denot g.row.V.Denot) (stays : Bool) (max : Option ℕ)
    → max ≡ c.self.inside.bounds.max_capacity
    → (contents_of put ≡ after_admission g.K.PartialEq.eq c.clean_up.new.store.keeps_writes (its_entry g c c.args.hash)
    (victims_of max c.self.inside.sketch (its_entry g c c.args.hash) (main_of (entries_of c.clean_up.new.store))) (contents_of c.clean_up.new.store))
    → stays ≡ is_some (victims_of max c.self.inside.sketch (its_entry g c c.args.hash) (main_of (entries_of c.clean_up.new.store)))
    → IsPutThere g c c.self.inside.windowed put stays
its_admission g c none put stays max max_is step value =
    let eq = g.K.PartialEq.eq in
    let new = its_entry g c c.args.hash in
    let old = c.clean_up.new.store in
    let all = (its_parts g c).main none in
    subst (λ w. IsPutThere g c w put stays) (sym none)
    (subst (λ l. IsPut eq old.keeps_writes None l c.self.inside.sketch new (contents_of old) stays (contents_of put)) max_is (
      put_main eq old.keeps_writes max c.self.inside.sketch new (contents_of old) (contents_of put) all step,
      stays_main max c.self.inside.sketch new (entries_of old) stays all value,
    ))

-- there is capacity for the entry
its_room : (g : Over) (c : After-weigh g) → length (entries_of c.self.inside.store) < c.reserve.new.self.capacity
its_room g c =
    let made : length c.reserve.new.self.nodes + 1 ≤ c.reserve.new.self.capacity = search rules in
    omega (arith, length-entries c.self.inside.store, ap (λ s. length s.nodes) c.reserve.ensures.unchanged, made)

-- and where there was, it is the same
its_capacity : (g : Over) (c : After-weigh g) → length (entries_of c.self.inside.store) < c.self.inside.store.capacity
    → c.reserve.new.self.capacity ≡ c.self.inside.store.capacity
its_capacity g c fits =
    let room : length c.self.inside.store.nodes + 1 ≤ c.self.inside.store.capacity =
    omega (arith, length-entries c.self.inside.store, fits) in
    ap (λ s. s.capacity) (c.reserve.ensures.had_room room).1

-- it is an insert if the machine makes the same of the entry
inserted : (g : Over) (c : After-weigh g) (refused : Refused) (new : CacheState g.row.K.Denot g.row.V.Denot g.row.S.Denot g.row.W.Denot)
    → new ≡ after_insert g.K.PartialEq.eq (its_cache g c) (its_entry g c (its_hash g c)) c.args.now refused
    → IsInserted (keys_by (record { eq = g.K.PartialEq.eq; hash_input = g.K.Hash.hash_input }) g.S.BuildHasher g.S.Hasher.Hasher) g.W.Weigh.weighs
    (its_start g c) c.args.key c.args.value (option_map as_nanos c.args.time_to_live) c.args.now new
inserted g c refused new step =
    record {
      put = record {
        weight = c.weigh.result;
        weigher = c.weigh.new.self;
        refused = refused;
        capacity = c.reserve.new.self.capacity;
        room = λ absent. its_room g c;
        kept = its_capacity g c;
        weighed = search rules;
        small = search rules;
        step =
            step
            ∙ (λ i. after_insert g.K.PartialEq.eq (its_cache g c)
            (record (its_entry g c (its_hash g c)) { deadline = c.deadline-deadline.ensures i; outlasts = c.is_beyond-outlasts.ensures i })
            c.args.now refused);
      };
      grown = its_room g c;
    }

pub returns-in-Some-clause-step : goal.returns-in-Some-clause-step
returns-in-Some-clause-step g c =
    let at = (goal.at.returns-in-Some-clause-step g c).After-weigh in
    let eq = g.K.PartialEq.eq in
    let new = its_entry g at (its_hash g at) in
    let found = (c.in-Some.ensures {u = tt}).found in
    let is = its_contents g at in
    let keeps = its_keeps g at in
    let limit = (its_parts g at).protected in
    let own = some_parts c.update-key.ensures.step.entry found.0 (sym c.update-key.ensures.step.stood ∙ found.1) in
    rw (← c.self.view_is)
    (inserted g at no_tables _
    (insert_updates eq (its_cache g at) new c.args.now no_tables found.0 (subst (λ s. entry_at eq c.args.key s.entries ≡ Some found.0) is found.2)
    (contents_of c.update-key.new.self) c.update-key.new.self.capacity
    (c.update-key.ensures.step.contents ∙ (λ i. after_update eq (keeps i) (limit i) (own i) new (is i)))
    (c.update-key.ensures.step.kept.settings.capacity ∙ c.clean_up.ensures.kept.settings.capacity)))

-- the listener was told of what cleanup removes
its_cleanup : (g : Over) (c : After-weigh g) → TellsCleanup g.L.Listener.hears g.K.PartialEq.eq c.self.inside.bounds c.args.now
    (contents_of c.self.inside.store) c.args.listener.now c.clean_up.new.listener
its_cleanup g c =
    subst (λ s. TellsCleanup g.L.Listener.hears g.K.PartialEq.eq c.self.inside.bounds c.args.now (contents_of s) c.args.listener.now c.clean_up.new.listener)
    c.reserve.ensures.unchanged c.clean_up.ensures.told

-- an entry that is judged without a window stays if it has victims or needs none
its_stay : (g : Over) (c : After-weigh g) (put : Store g.row.K.Denot g.row.V.Denot) (stays : Bool) (max : Option ℕ)
    → entry_at g.K.PartialEq.eq c.args.key (entries_of c.clean_up.new.store) ≡ None
    → (contents_of put ≡ after_admission g.K.PartialEq.eq c.clean_up.new.store.keeps_writes (its_entry g c c.args.hash)
    (victims_of max c.self.inside.sketch (its_entry g c c.args.hash) (main_of (entries_of c.clean_up.new.store))) (contents_of c.clean_up.new.store))
    → stays ≡ is_some (victims_of max c.self.inside.sketch (its_entry g c c.args.hash) (main_of (entries_of c.clean_up.new.store)))
    → stays ≡ is_some (entry_at g.K.PartialEq.eq c.args.key (entries_of put))
its_stay g c put stays max absent step value =
    let eq = g.K.PartialEq.eq in
    let new = its_entry g c c.args.hash in
    let old = c.clean_up.new.store in
    value
    ∙ sym (ap (λ s. is_some (entry_at eq c.args.key s.entries)) step
    ∙ stands-arrived eq g.met.K.Eq.laws old.keeps_writes (record { all = 0; window = 0; protected = 0 }) c.self.inside.sketch new
    (victims_of max c.self.inside.sketch new (main_of (entries_of old))) (contents_of old) absent)

pub returns-in-Some-clause-told : goal.returns-in-Some-clause-told
returns-in-Some-clause-told g c =
    let at = (goal.at.returns-in-Some-clause-told g c).After-weigh in
    let hears = g.L.Listener.hears in
    let keys = keys_by (record { eq = g.K.PartialEq.eq; hash_input = g.K.Hash.hash_input }) g.S.BuildHasher g.S.Hasher.Hasher in
    let found = (c.in-Some.ensures {u = tt}).found in
    let left : c.update-key.result.1 ≡ found.0.value =
    ap (λ o. unwrap_or o c.update-key.result.1) (sym c.update-key.ensures.value ∙ ap (λ o. option_map (λ e. e.value) o) found.1) in
    let cause : c.cause_at-cause.result ≡ cause_at c.self.inside.bounds c.args.now found.0 Replaced =
    c.cause_at-cause.ensures
    ∙ ap (λ e. cause_at c.self.inside.bounds c.args.now e Replaced) (ap (λ o. unwrap_or o found.0) (sym c.get.ensures ∙ found.1)) in
    rw (← c.self.view_is)
    (update_told hears keys (its_start g at) _ c.args.now c.args.key c.args.value (contents_of c.clean_up.new.store) c.args.listener.now
    c.clean_up.new.listener c.removed.new.self (its_contents g at) (its_cleanup g at) found.0 found.2
    (subst (λ x. hears c.clean_up.new.listener c.args.key found.0.value x c.removed.new.self) cause
    (subst (λ v. hears c.clean_up.new.listener c.args.key v c.cause_at-cause.result c.removed.new.self) left
    (subst (λ k. hears c.clean_up.new.listener k c.update-key.result.1 c.cause_at-cause.result c.removed.new.self) c.update-key.ensures.key
    c.removed.ensures))))

-- what an entry leaves that enters the window
its_place : (g : Over) (c : After-weigh g) (limits : PartLimits) → c.self.inside.windowed ≡ Some limits
    → (put : Store g.row.K.Denot g.row.V.Denot) (part : Option Part)
    → part ≡ option_map (λ e. e.part) (entry_at g.K.PartialEq.eq c.args.key (entries_of put))
    → contents_of put ≡ after_entering g.K.PartialEq.eq c.clean_up.new.store.keeps_writes limits c.self.inside.sketch (its_entry g c c.args.hash)
    (contents_of c.clean_up.new.store)
    → IsPutThere g c c.self.inside.windowed put (is_some part)
its_place g c limits some put part value step =
    its_entering g c limits some put (is_some part)
    (step, sym (stands_there g.met.K.Eq.laws part (entries_of put) c.args.key value))

pub invariant_of-self-in-Some-windowed : goal.invariant_of-self-in-Some-windowed
invariant_of-self-in-Some-windowed g c =
    let at = (goal.at.invariant_of-self-in-Some-windowed g c).After-weigh in
    let put = c.insert_into_window-part in
    admitted g at put.new.store (is_some put.result)
    (its_place g at c.in-Some-windowed.limits c.in-Some-windowed.is put.new.store put.result put.ensures.value put.ensures.step) put.ensures.kept

pub invariant_of-self-then-admit : goal.invariant_of-self-then-admit
invariant_of-self-then-admit g c =
    let at = (goal.at.invariant_of-self-then-admit g c).After-weigh in
    let put = its_admission g at c.in-None-windowed.is c.admit.new.store c.admit.result c.max_capacity-limit.result
    (c.max_capacity-limit.ensures ∙ ap (λ p. p.max_capacity) c.policy.ensures) c.admit.ensures.step c.admit.ensures.value in
    admitted g at c.admit.new.store c.admit.result put c.admit.ensures.kept

pub invariant_of-self-else-admit : goal.invariant_of-self-else-admit
invariant_of-self-else-admit g c =
    let at = (goal.at.invariant_of-self-else-admit g c).After-weigh in
    let put = its_admission g at c.in-None-windowed.is c.admit.new.store c.admit.result c.max_capacity-limit.result
    (c.max_capacity-limit.ensures ∙ ap (λ p. p.max_capacity) c.policy.ensures) c.admit.ensures.step c.admit.ensures.value in
    admitted g at c.admit.new.store c.admit.result put c.admit.ensures.kept

-- the limits of the parts follow what is remembered
its_turn : (g : Over) (c : After-weigh g) (limits : PartLimits) (some : windowed (its_cache g c) ≡ Some limits)
    (absent : entry_at g.K.PartialEq.eq c.args.key (entries_of c.clean_up.new.store) ≡ None) (came noted : Option Memory)
    (put : Store g.row.K.Denot g.row.V.Denot) (part : Option Part) (after : CacheState g.row.K.Denot g.row.V.Denot g.row.S.Denot g.row.W.Denot)
    → came ≡ option_map (λ m. record (after_coming c.args.hash m) {
      demand = demand_after c.self.inside.shares limits.all m c.args.hash c.weigh.result;
    }) c.self.inside.memory
    → contents_of put ≡ after_entering g.K.PartialEq.eq c.clean_up.new.store.keeps_writes limits c.self.inside.sketch (its_entry g c c.args.hash)
    (contents_of c.clean_up.new.store) → KeepsSettings c.clean_up.new.store put
    → noted ≡ option_map (after_entering_judged g.K.PartialEq.eq c.clean_up.new.store.keeps_writes limits c.self.inside.sketch
    (its_entry g c c.args.hash) (contents_of c.clean_up.new.store)) came
    → part ≡ option_map (λ e. e.part) (entry_at g.K.PartialEq.eq c.args.key (entries_of put))
    → after ≡ after_following g.K.PartialEq.eq noted limits part (record (its_cache g c) {
      contents = contents_of put;
      memory = noted;
      capacity = put.capacity;
    })
    → after ≡ turned g.K.PartialEq.eq (its_cache g c) (its_entry g c (its_hash g c)) c.args.now no_tables (its_absence g c absent) limits some
its_turn g c limits some absent came noted put part after coming step same memory value followed =
    let eq = g.K.PartialEq.eq in
    let sketch = c.self.inside.sketch in
    let cache = its_cache g c in
    let new = its_entry g c (its_hash g c) in
    let own = its_own g c in
    let keeps = its_keeps g c in
    let found = kept eq cache new c.args.now no_tables in
    let entered = after_entering eq (keeps_writes c.self.inside.bounds) limits sketch new found in
    let contents : contents_of put ≡ entered =
    step ∙ (λ i. after_entering eq (keeps i) limits sketch (its_entry g c (own i)) (its_contents g c i)) in
    let memory : noted ≡ judged eq cache limits new found entered c.self.inside.memory =
    memory
    ∙ ((λ i. option_map (after_entering_judged eq (keeps i) limits sketch (its_entry g c (own i)) (its_contents g c i)) (coming i))
    ∙ (λ i. option_map (after_entering_judged eq (keeps_writes c.self.inside.bounds) limits sketch new found)
    (option_map (λ m. record (after_coming (own i) m) {
      demand = demand_after c.self.inside.shares limits.all m (own i) c.weigh.result;
    }) c.self.inside.memory))) in
    let part_is : part ≡ option_map (λ e. e.part) (entry_at eq c.args.key entered.entries) =
    value ∙ ap (λ s. option_map (λ e. e.part) (entry_at eq c.args.key s.entries)) contents in
    let capacity = same.capacity ∙ c.clean_up.ensures.kept.settings.capacity in
    followed
    ∙ ((λ i. after_following eq (memory i) limits (part_is i) (record cache { contents = contents i; memory = memory i; capacity = capacity i }))
    ∙ turn_is eq cache limits new found entered c.self.inside.memory refl)

pub returns-then-is_some-clause-step : goal.returns-then-is_some-clause-step
returns-then-is_some-clause-step g c =
    let at = (goal.at.returns-then-is_some-clause-step g c).After-weigh in
    let eq = g.K.PartialEq.eq in
    let limits = c.in-Some-windowed.limits in
    let put = c.insert_into_window-part in
    let absent : entry_at eq c.args.key (entries_of c.clean_up.new.store) ≡ None = search rules in
    let some : windowed (its_cache g at) ≡ Some limits = sym c.self.invariant.windowed ∙ c.in-Some-windowed.is in
    let turn =
    its_turn g at limits some absent _ put.new.memory put.new.store put.result c.follow.new.self c.come.ensures put.ensures.step put.ensures.kept
    put.ensures.memory put.ensures.value c.follow.ensures.step in
    let stays : is_some (entry_at eq c.args.key c.follow.new.self.contents.entries) ≡ true =
    c.follow.ensures.stays c.args.key put.ensures.value ∙ (sym c.is_some.ensures ∙ c.if-is_some.true) in
    rw (← c.self.view_is)
    (inserted g at c.enable_sketch.ensures.0 _ (c.enable_sketch.ensures.1
    ∙ entering_stays eq (its_cache g at) (its_entry g at (its_hash g at)) c.args.now c.enable_sketch.ensures.0 (its_absence g at absent) limits some
    c.follow.new.self turn stays))

pub returns-else-is_some-clause-step : goal.returns-else-is_some-clause-step
returns-else-is_some-clause-step g c =
    let at = (goal.at.returns-else-is_some-clause-step g c).After-weigh in
    let eq = g.K.PartialEq.eq in
    let limits = c.in-Some-windowed.limits in
    let put = c.insert_into_window-part in
    let absent : entry_at eq c.args.key (entries_of c.clean_up.new.store) ≡ None = search rules in
    let some : windowed (its_cache g at) ≡ Some limits = sym c.self.invariant.windowed ∙ c.in-Some-windowed.is in
    let turn =
    its_turn g at limits some absent _ put.new.memory put.new.store put.result c.follow.new.self c.come.ensures put.ensures.step put.ensures.kept
    put.ensures.memory put.ensures.value c.follow.ensures.step in
    let stays : is_some (entry_at eq c.args.key c.follow.new.self.contents.entries) ≡ false =
    c.follow.ensures.stays c.args.key put.ensures.value ∙ (sym c.is_some.ensures ∙ c.if-is_some.false) in
    rw (← c.self.view_is)
    (inserted g at no_tables _
    (entering_drops eq (its_cache g at) (its_entry g at (its_hash g at)) c.args.now no_tables (its_absence g at absent) limits some c.follow.new.self turn
    stays))

-- what an entry leaves that is judged where there is no window
its_verdict : (g : Over) (c : After-weigh g) (none : c.self.inside.windowed ≡ None) (put : Store g.row.K.Denot g.row.V.Denot) (stays : Bool)
    → IsPutThere g c c.self.inside.windowed put stays
    → IsPut g.K.PartialEq.eq (keeps_writes c.self.inside.bounds) None c.self.inside.bounds.max_capacity c.self.inside.sketch
    (its_entry g c (its_hash g c)) (kept g.K.PartialEq.eq (its_cache g c) (its_entry g c (its_hash g c)) c.args.now no_tables) stays (contents_of put)
its_verdict g c none put stays there =
    subst (λ w. IsPut g.K.PartialEq.eq (keeps_writes c.self.inside.bounds) w c.self.inside.bounds.max_capacity c.self.inside.sketch
    (its_entry g c (its_hash g c)) (kept g.K.PartialEq.eq (its_cache g c) (its_entry g c (its_hash g c)) c.args.now no_tables) stays (contents_of put))
    (sym c.self.invariant.windowed ∙ none) (its_put g c put stays there)

pub returns-then-admit-clause-step : goal.returns-then-admit-clause-step
returns-then-admit-clause-step g c =
    let at = (goal.at.returns-then-admit-clause-step g c).After-weigh in
    let put = c.admit in
    let absent : entry_at g.K.PartialEq.eq c.args.key (entries_of c.clean_up.new.store) ≡ None = search rules in
    let none : windowed (its_cache g at) ≡ None = sym c.self.invariant.windowed ∙ c.in-None-windowed.is in
    let max = c.max_capacity-limit.ensures ∙ ap (λ p. p.max_capacity) c.policy.ensures in
    let is =
    its_verdict g at c.in-None-windowed.is put.new.store put.result
    (its_admission g at c.in-None-windowed.is put.new.store put.result c.max_capacity-limit.result max put.ensures.step put.ensures.value) in
    let asked = c.enable_sketch-then-admit.ensures in
    rw (← c.self.view_is)
    (inserted g at asked.0 _ (asked.1
    ∙ insert_stays g.K.PartialEq.eq (its_cache g at) (its_entry g at (its_hash g at)) c.args.now asked.0 (its_absence g at absent) none
    (contents_of put.new.store) put.new.store.capacity put.result (put.ensures.kept.capacity ∙ c.clean_up.ensures.kept.settings.capacity) is.0 is.1
    c.if-admit.true))

pub returns-else-admit-clause-step : goal.returns-else-admit-clause-step
returns-else-admit-clause-step g c =
    let at = (goal.at.returns-else-admit-clause-step g c).After-weigh in
    let put = c.admit in
    let absent : entry_at g.K.PartialEq.eq c.args.key (entries_of c.clean_up.new.store) ≡ None = search rules in
    let none : windowed (its_cache g at) ≡ None = sym c.self.invariant.windowed ∙ c.in-None-windowed.is in
    let max = c.max_capacity-limit.ensures ∙ ap (λ p. p.max_capacity) c.policy.ensures in
    let is =
    its_verdict g at c.in-None-windowed.is put.new.store put.result
    (its_admission g at c.in-None-windowed.is put.new.store put.result c.max_capacity-limit.result max put.ensures.step put.ensures.value) in
    rw (← c.self.view_is)
    (inserted g at no_tables _
    (insert_drops g.K.PartialEq.eq (its_cache g at) (its_entry g at (its_hash g at)) c.args.now no_tables (its_absence g at absent) none
    (contents_of put.new.store) put.new.store.capacity put.result (put.ensures.kept.capacity ∙ c.clean_up.ensures.kept.settings.capacity) is.0 is.1
    c.if-admit.false))

-- the listener was told of what leaves for the new entry
its_told : (g : Over) (c : After-weigh g) (limit : Option ℕ) (stays : Bool) (new : CacheState g.row.K.Denot g.row.V.Denot g.row.S.Denot g.row.W.Denot)
    (after : g.row.L.Denot)
    → limit ≡ main_max (windowed_limits c.self.inside.shares c.self.inside.bounds.max_capacity) (windowed new) c.self.inside.bounds.max_capacity
    → entry_at g.K.PartialEq.eq c.args.key (entries_of c.clean_up.new.store) ≡ None
    → stays ≡ is_some (entry_at g.K.PartialEq.eq c.args.key new.contents.entries)
    → TellsPut g.L.Listener.hears limit stays (its_entry g c c.args.hash) (entries_of c.clean_up.new.store) new.contents.entries c.clean_up.new.listener after
    → TellsInsert g.L.Listener.hears
    (keys_by (record { eq = g.K.PartialEq.eq; hash_input = g.K.Hash.hash_input }) g.S.BuildHasher g.S.Hasher.Hasher) (its_start g c) c.args.now c.args.key
    c.args.value new c.args.listener.now after
its_told g c limit stays new after limited absent stands put =
    let keys = keys_by (record { eq = g.K.PartialEq.eq; hash_input = g.K.Hash.hash_input }) g.S.BuildHasher g.S.Hasher.Hasher in
    put_told g.L.Listener.hears keys (its_start g c) new c.args.now c.args.key c.args.value (contents_of c.clean_up.new.store) c.args.listener.now
    c.clean_up.new.listener after (its_contents g c) (its_cleanup g c) c.weigh.result (option_map as_nanos c.args.time_to_live) limit stays limited absent
    stands
    (subst (λ (d : ℕ × Bool). TellsPut g.L.Listener.hears limit stays (record (its_entry g c (its_hash g c)) { deadline = d.0; outlasts = d.1 })
    (entries_of c.clean_up.new.store) new.contents.entries c.clean_up.new.listener after)
    (λ i. (c.deadline-deadline.ensures i, c.is_beyond-outlasts.ensures i))
    (subst (λ h. TellsPut g.L.Listener.hears limit stays (its_entry g c h) (entries_of c.clean_up.new.store) new.contents.entries c.clean_up.new.listener after)
    (its_own g c) put))

-- the limit of main, where there is no window
its_main : (g : Over) (c : After-weigh g) (max : Option ℕ) (new : Option PartLimits) → c.self.inside.windowed ≡ None → max ≡ c.self.inside.bounds.max_capacity
    → max ≡ main_max (windowed_limits c.self.inside.shares c.self.inside.bounds.max_capacity) new c.self.inside.bounds.max_capacity
its_main g c max new none is =
    is ∙ ap (λ w. main_max w new c.self.inside.bounds.max_capacity) (sym none ∙ c.self.invariant.windowed)

-- and where there is one
its_least : (g : Over) (c : After-weigh g) (limits : PartLimits) (new : Option PartLimits) (then : PartLimits) → c.self.inside.windowed ≡ Some limits
    → new ≡ Some then → Some (min (main_limit limits) (main_limit then))
    ≡ main_max (windowed_limits c.self.inside.shares c.self.inside.bounds.max_capacity) new c.self.inside.bounds.max_capacity
its_least g c limits new then some is =
    ap (λ w. main_max (Some limits) w c.self.inside.bounds.max_capacity) (sym is)
    ∙ ap (λ w. main_max w new c.self.inside.bounds.max_capacity) (sym some ∙ c.self.invariant.windowed)

pub returns-then-is_some-clause-told : goal.returns-then-is_some-clause-told
returns-then-is_some-clause-told g c =
    let at = (goal.at.returns-then-is_some-clause-told g c).After-weigh in
    let eq = g.K.PartialEq.eq in
    let put = c.insert_into_window-part in
    let limits = c.in-Some-windowed.limits in
    let absent : entry_at eq c.args.key (entries_of c.clean_up.new.store) ≡ None = search rules in
    let asked = c.enable_sketch.ensures.1 in
    let same : c.enable_sketch.new.self.contents.entries ≡ c.follow.new.self.contents.entries = ap (λ cache. cache.contents.entries) asked in
    let then = limits_of c.follow.new.self.shares limits.all in
    rw (← c.self.view_is)
    (its_told g at (Some (min (main_limit limits) (main_limit then))) (is_some put.result) c.enable_sketch.new.self c.follow.new.listener
    (its_least g at limits (windowed c.enable_sketch.new.self) then c.in-Some-windowed.is
    (ap (λ cache. windowed cache) asked ∙ c.follow.ensures.windowed)) absent
    (sym (ap (λ es. is_some (entry_at eq c.args.key es)) same ∙ c.follow.ensures.stays c.args.key put.ensures.value))
    (subst (λ es. TellsPut g.L.Listener.hears (Some (min (main_limit limits) (main_limit then))) (is_some put.result) (its_entry g at c.args.hash)
    (entries_of c.clean_up.new.store) es c.clean_up.new.listener c.follow.new.listener) (sym same)
    (follow_told (main_limit limits) (main_limit then) c.self.inside.shares.extra c.follow.new.self.shares.extra put.result (its_entry g at c.args.hash)
    (entries_of c.clean_up.new.store) (entries_of put.new.store) c.follow.new.self.contents.entries c.clean_up.new.listener put.new.listener
    c.follow.new.listener put.ensures.told c.follow.ensures.told)))

pub returns-else-is_some-clause-told : goal.returns-else-is_some-clause-told
returns-else-is_some-clause-told g c =
    let at = (goal.at.returns-else-is_some-clause-told g c).After-weigh in
    let eq = g.K.PartialEq.eq in
    let put = c.insert_into_window-part in
    let limits = c.in-Some-windowed.limits in
    let absent : entry_at eq c.args.key (entries_of c.clean_up.new.store) ≡ None = search rules in
    let then = limits_of c.follow.new.self.shares limits.all in
    rw (← c.self.view_is)
    (its_told g at (Some (min (main_limit limits) (main_limit then))) (is_some put.result) c.follow.new.self c.follow.new.listener
    (its_least g at limits (windowed c.follow.new.self) then c.in-Some-windowed.is c.follow.ensures.windowed) absent
    (sym (c.follow.ensures.stays c.args.key put.ensures.value))
    (follow_told (main_limit limits) (main_limit then) c.self.inside.shares.extra c.follow.new.self.shares.extra put.result (its_entry g at c.args.hash)
    (entries_of c.clean_up.new.store) (entries_of put.new.store) c.follow.new.self.contents.entries c.clean_up.new.listener put.new.listener
    c.follow.new.listener put.ensures.told c.follow.ensures.told))

pub returns-then-admit-clause-told : goal.returns-then-admit-clause-told
returns-then-admit-clause-told g c =
    let at = (goal.at.returns-then-admit-clause-told g c).After-weigh in
    let absent : entry_at g.K.PartialEq.eq c.args.key (entries_of c.clean_up.new.store) ≡ None = search rules in
    let max = c.max_capacity-limit.result in
    let same : c.enable_sketch-then-admit.new.self.contents.entries ≡ entries_of c.admit.new.store =
    ap (λ cache. cache.contents.entries) c.enable_sketch-then-admit.ensures.1 in
    rw (← c.self.view_is)
    (its_told g at max c.admit.result c.enable_sketch-then-admit.new.self c.admit.new.listener
    (its_main g at max _ c.in-None-windowed.is (c.max_capacity-limit.ensures ∙ ap (λ p. p.max_capacity) c.policy.ensures)) absent
    (its_stay g at c.admit.new.store c.admit.result max absent c.admit.ensures.step c.admit.ensures.value
    ∙ ap (λ es. is_some (entry_at g.K.PartialEq.eq c.args.key es)) (sym same))
    (subst (λ es. TellsPut g.L.Listener.hears max c.admit.result (its_entry g at c.args.hash) (entries_of c.clean_up.new.store) es c.clean_up.new.listener
    c.admit.new.listener) (sym same) c.admit.ensures.told))

pub returns-else-admit-clause-told : goal.returns-else-admit-clause-told
returns-else-admit-clause-told g c =
    let at = (goal.at.returns-else-admit-clause-told g c).After-weigh in
    let absent : entry_at g.K.PartialEq.eq c.args.key (entries_of c.clean_up.new.store) ≡ None = search rules in
    let max = c.max_capacity-limit.result in
    rw (← c.self.view_is)
    (its_told g at max c.admit.result _ c.admit.new.listener
    (its_main g at max _ c.in-None-windowed.is (c.max_capacity-limit.ensures ∙ ap (λ p. p.max_capacity) c.policy.ensures)) absent
    (its_stay g at c.admit.new.store c.admit.result max absent c.admit.ensures.step c.admit.ensures.value) c.admit.ensures.told)
