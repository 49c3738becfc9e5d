-- A visit keeps a segment's account, and tells the caller where its calls stand.
use Rattle.std.proofs.Common.{◌≡◌, ℕ, ◌∙◌, List, [], ◌∷◌, ◌++◌, Option, Some, Result, Ok, Err, OnOk, OnErr, inl, inr, ap, get_or, refl, subst, sym}
use Rattle.moka_common.specs.declared.error.InsertError.{InsertError}
use Rattle.moka_common.specs.Keys.{Keys}
use Rattle.moka_unsync_model.specs.Insert.{IsInserted, IsRefused}
use Rattle.moka_unsync_model.specs.CacheState.{CacheState, new_cache}
use Rattle.moka_unsync_model.specs.Step.{Answer, Insert, IsStep, Request}
use Rattle.moka_unsync_model.specs.History.{Leads, Transition}
use Rattle.moka_unsync_model.proofs.MapLemmas.{settings-step}
use Rattle.moka_row.specs.Visits.{GoesOn, IsIdle, Known, Visits as Visitor, at, at_lock, after_visit, noted, put, visits_by}
use Rattle.moka_row.specs.Kept.{Got}
use Rattle.moka_row.proofs.Rules.{put_here, put_else}
use Rattle.atomic_table.specs.Table.{Me, rest}
use Rattle.moka_segments.specs.declared.plan.Plan.{Plan}
use Rattle.moka_segments.specs.Plan.{settings_of}
use Rattle.moka_segments.specs.Rules.{IsPermitted, Rules}
use Rattle.moka_segments.specs.History.{Every, IsAccount, IsLedBy, IsOfSegment, Knows, Log, Visit, calls}
use Rattle.moka_segments.specs.Calls.{Makes, Visits}
use Rattle.moka_segments.specs.Tells.{answer_of}

abbrev pub call_of : {K V S W : Type 0} → CacheState K V S W → Request K V → Answer K V → CacheState K V S W → Transition K V S W
call_of before request answer after = record { before = before; request = request; answer = answer; after = after }

-- what lies at the head of what is held
same_head : {T : Type 0} (i : ℕ) (x y : T) (held : List (ℕ × T)) → held ≡ (i, x) ∷ rest held → held ≡ (i, y) ∷ [] → x ≡ y
same_head {T = T} i x y held e e' = ap (λ (l : List (ℕ × T)). (get_or l 0 (i, x)).1) (sym e ∙ e')

-- who got a lock holds its value first
pub first_held : {T E K : Type 0} {Holds : K → ℕ → List (ℕ × E) → T → Type 0} {i : ℕ} {me u : Me T (Known E K)} → Got Holds i me u
    → (x : T) × (u.1 ≡ (i, x) ∷ rest u.1)
first_held {i = i} got = (got.content, ap (λ m. m.1) got.now ∙ ap (λ l. (i, got.content) ∷ rest l) (sym (ap (λ m. m.1) got.now)))

-- a fact of each of two lists
pub every_both : {X : Type 0} (P : X → Type 0) (xs ys : List X) → Every P xs → Every P ys → Every P (xs ++ ys)
every_both P [] ys a b = b
every_both P (x ∷ xs) ys a b = (a.0, every_both P xs ys a.1 b)

module _ {K V S W : Type 0} (keys : Keys K S) (weighs : W → K → V → ℕ → W → Type 0) where
  -- an insert is a step
  pub insert_step : (before after : CacheState K V S W) (key : K) (value : V) (own : Option ℕ) (now : ℕ) (r : Result (Unit {0}) InsertError)
      → OnOk r (IsInserted keys weighs before key value own now after) → OnErr r (IsRefused before after)
      → IsStep keys weighs before (Insert key value own now) (answer_of r) after
  insert_step before after key value own now (Ok done) made refused = inl (refl, made.put)
  insert_step before after key value own now (Err error) made refused = inr (refl, refused)

  led_settings : (start cache : CacheState K V S W) (past : List (Transition K V S W)) → Leads keys weighs start past cache → cache.settings ≡ start.settings
  led_settings start cache [] leads = ap (λ c. c.settings) leads
  led_settings start cache (call ∷ earlier) leads =
      sym (ap (λ c. c.settings) leads.0)
      ∙ (settings-step keys weighs call.before call.after call.request call.answer leads.1 ∙ led_settings start call.before earlier leads.2)

  -- calls behind calls
  leads_on : (start middle end : CacheState K V S W) (visit past : List (Transition K V S W)) → Leads keys weighs start past middle
      → Leads keys weighs middle visit end
      → Leads keys weighs start (visit ++ past) end
  leads_on start middle end [] past first then = subst (Leads keys weighs start past) (sym then) first
  leads_on start middle end (call ∷ visit) past first then = (then.0, then.1, leads_on start middle call.before visit past first then.2)

module _ {K V S W : Type 0} (keys : Keys K S) (weighs : W → K → V → ℕ → W → Type 0) (rules : Rules K V) where
  -- its settings are its part of the plan
  pub account_settings : (plan : Plan S) (i : ℕ) (log : Log K V S W) (cache : CacheState K V S W) → IsLedBy keys weighs rules plan i log cache
      → cache.settings ≡ settings_of plan i
  account_settings plan i log cache h = led_settings keys weighs (new_cache (settings_of plan i) plan.shares h.weigher h.capacity) cache (calls log) h.led

module _ {K V S W : Type 0} (keys : Keys K S) (weighs : W → K → V → ℕ → W → Type 0) (rules : Rules K V) (ready : W → Type 0) (plan : Plan S) (i : ℕ) where
  -- the calls of a visit are its visitor's to make, and of the segment
  abbrev pub Befit : ℕ → Visit K V S W → Type 0
  Befit by visit = Every (λ call. IsOfSegment keys plan i call.request) visit × Every (λ call. IsPermitted rules by call.request) visit

  -- A caller has the lock of a segment, and nothing else. Its cache is what its history says, which goes on from what the caller had seen.
  pub record Entered (v : Knows K V S W) (u : Me (CacheState K V S W) (Knows K V S W)) (cache : CacheState K V S W) : Type 0 where
    pub log : Log K V S W
    pub locked : u.0 ≡ at_lock i log v
    pub alone : rest u.1 ≡ []
    pub account : IsAccount keys weighs rules ready plan i log cache
    pub saw : GoesOn (at v.seen i) log
    pub own : visits_by v.by log ≡ at v.mine i

  -- What a visit does there: its calls, and the entry that notes them.
  pub record Called (v : Knows K V S W) (u : Me (CacheState K V S W) (Knows K V S W)) (before after : CacheState K V S W)
      (visit entry : Visit K V S W) : Type 0 where
    pub entered : Entered v u before
    pub leads : Leads keys weighs before visit after
    pub befit : Befit v.by visit
    pub can : ready after.weigher
    pub noted : entry ≡ visit

  -- who got the lock has entered
  pub enters : (me u : Me (CacheState K V S W) (Knows K V S W)) (cache : CacheState K V S W)
      → Got (λ p j log x. IsAccount keys weighs rules ready p j log x) i me u
      → me.0.plan ≡ Some plan → u.1 ≡ (i, cache) ∷ rest u.1 → Entered me.0 u cache
  enters me u cache got is held = record {
    log = got.log;
    locked = ap (λ m. m.0) got.now;
    alone = ap (λ m. rest m.1) got.now;
    account =
        subst (λ x. IsAccount keys weighs rules ready plan i got.log x) (sym (same_head i cache got.content u.1 held (ap (λ m. m.1) got.now)))
        (got.kept plan is);
    saw = got.saw;
    own = got.own;
  }

  one_more : (by : ℕ) (log : Log K V S W) (before after : CacheState K V S W) (visit : Visit K V S W)
      → IsAccount keys weighs rules ready plan i log before → Leads keys weighs before visit after → Befit by visit → ready after.weigher
      → IsAccount keys weighs rules ready plan i ((by, visit) ∷ log) after
  one_more by log before after visit h leads befit can = (
    record {
      weigher = h.0.weigher;
      capacity = h.0.capacity;
      room = h.0.room;
      led = leads_on keys weighs (new_cache (settings_of plan i) plan.shares h.0.weigher h.0.capacity) before after visit (calls log) h.0.led leads;
      own = every_both (λ call. IsOfSegment keys plan i call.request) visit (calls log) befit.0 h.0.own;
      ruled = (befit.1, h.0.ruled);
    },
    can,
  )

  -- a visit of one call
  pub one_call : (v w : Knows K V S W) (call : Transition K V S W) (request : Request K V) (answer : Answer K V) → call.request ≡ request → call.answer ≡ answer
      → Visits keys weighs rules plan v i (call ∷ []) w → Makes keys weighs rules plan v i request answer w
  one_call v w call request answer asked answered m =
      record { made = record { call = call; asked = asked; answered = answered; visit = m.made }; others = m.others }

module _ {K V S W : Type 0} {keys : Keys K S} {weighs : W → K → V → ℕ → W → Type 0} {rules : Rules K V} {ready : W → Type 0} {plan : Plan S} {i : ℕ}
    {v : Knows K V S W}
    {u : Me (CacheState K V S W) (Knows K V S W)} where
  -- a key's hash by the plan is its hash in the segment
  pub its_hash : {cache : CacheState K V S W} (hash : ℕ) (key : K) → Entered keys weighs rules ready plan i v u cache → hash ≡ keys.hash_of plan.hash_state key
      → hash ≡ keys.hash_of cache.settings.hash_state key
  its_hash {cache = cache} hash key e is =
      is ∙ ap (λ s. keys.hash_of s key) (sym (ap (λ s. s.hash_state) (account_settings keys weighs rules plan i e.log cache e.account.0)))

  -- the account, if nothing was called
  pub unvisited : {cache : CacheState K V S W} → Entered keys weighs rules ready plan i v u cache
      → (x : CacheState K V S W) × ((i, cache) ∷ rest u.1 ≡ (i, x) ∷ []) × IsAccount keys weighs rules ready plan i (at u.0.seen i) x
  unvisited {cache = cache} e = (
    cache,
    ap (λ l. (i, cache) ∷ l) e.alone,
    subst (λ (z : Knows K V S W). IsAccount keys weighs rules ready plan i (at z.seen i) cache) (sym e.locked)
        (subst (λ (z : Log K V S W). IsAccount keys weighs rules ready plan i z cache) (sym (put_here v.seen i e.log)) e.account),
  )

  -- the account, once the calls are noted
  pub kept : {before after : CacheState K V S W} {visit entry : Visit K V S W} → Called keys weighs rules ready plan i v u before after visit entry
      → (x : CacheState K V S W) × ((i, after) ∷ rest u.1 ≡ (i, x) ∷ []) × IsAccount keys weighs rules ready plan i
      (noted u.0.by (Some entry) (at u.0.seen i)) x
  kept {before = before} {after = after} {visit = visit} {entry = entry} d = (
    after,
    ap (λ l. (i, after) ∷ l) d.entered.alone,
    subst (λ (z : Knows K V S W). IsAccount keys weighs rules ready plan i (noted z.by (Some entry) (at z.seen i)) after) (sym d.entered.locked)
        (subst (λ (z : Log K V S W × Visit K V S W). IsAccount keys weighs rules ready plan i ((v.by, z.1) ∷ z.0) after)
        (λ j. (sym (put_here v.seen i d.entered.log) j, sym d.noted j))
        (one_more keys weighs rules ready plan i v.by d.entered.log before after visit d.entered.account d.leads d.befit d.can)),
  )

  -- where the calls stand, once the lock is given back
  pub stands : {before after : CacheState K V S W} {visit entry : Visit K V S W} (w : Me (CacheState K V S W) (Knows K V S W))
      → Called keys weighs rules ready plan i v u before after visit entry
      → w ≡ (after_visit i (Some entry) u.0, []) → Visits keys weighs rules plan v i visit w.0
  stands {before = before} {after = after} {visit = visit} {entry = entry} w d left =
      subst (λ (z : Knows K V S W). Visits keys weighs rules plan v i visit z)
      (sym (ap (λ m. m.0) left ∙ (λ j. after_visit i (Some (d.noted j)) (d.entered.locked j))))
      (record {
        made = record {
          cache = after;
          since = d.entered.saw.0;
          history = subst (λ (z : Log K V S W). IsLedBy keys weighs rules plan i z after) (sym whole)
              (one_more keys weighs rules ready plan i v.by d.entered.log before after visit d.entered.account d.leads d.befit d.can).0;
          seen = whole ∙ ap (λ l. (v.by, visit) ∷ l) d.entered.saw.1;
          mine = put_here v.mine i (visit ∷ at v.mine i);
          told = ap (visits_by v.by) (sym d.entered.saw.1) ∙ d.entered.own;
          same = refl;
        };
        others = λ j apart. (
          put_else (put v.seen i d.entered.log) i j ((v.by, visit) ∷ at (put v.seen i d.entered.log) i) apart ∙ put_else v.seen i j d.entered.log apart,
          put_else v.mine i j (visit ∷ at v.mine i) apart,
        );
      })
    where
      whole : at (put (put v.seen i d.entered.log) i ((v.by, visit) ∷ at (put v.seen i d.entered.log) i)) i ≡ (v.by, visit) ∷ d.entered.log
      whole =
          put_here (put v.seen i d.entered.log) i ((v.by, visit) ∷ at (put v.seen i d.entered.log) i) ∙ ap (λ l. (v.by, visit) ∷ l)
          (put_here v.seen i d.entered.log)

  -- where a single call stands
  pub makes : {before after : CacheState K V S W} {call : Transition K V S W} {entry : Visit K V S W} (w : Me (CacheState K V S W) (Knows K V S W))
      → Called keys weighs rules ready plan i v u before after (call ∷ []) entry → w ≡ (after_visit i (Some entry) u.0, [])
      → Makes keys weighs rules plan v i call.request call.answer w.0
  makes {call = call} w d left = one_call keys weighs rules ready plan i v w.0 call call.request call.answer refl refl (stands w d left)

  -- who has the lock may give it back
  pub holds_lock : {before after : CacheState K V S W} {visit entry : Visit K V S W} → Called keys weighs rules ready plan i v u before after visit entry
      → v.role ≡ Visitor → (u.0.held ≡ Some i) × (u.0.role ≡ Visitor)
  holds_lock d visits = (ap (λ (k : Knows K V S W). k.held) d.entered.locked, ap (λ (k : Knows K V S W). k.role) d.entered.locked ∙ visits)

  -- who has given the lock back is idle again, and the same
  pub idle_again : {before after : CacheState K V S W} {visit entry : Visit K V S W} (w : Me (CacheState K V S W) (Knows K V S W))
      → Called keys weighs rules ready plan i v u before after visit entry → v.role ≡ Visitor → v.plan ≡ Some plan
      → w ≡ (after_visit i (Some entry) u.0, []) → IsIdle plan w
  idle_again w d visits is left = (
    ap (λ m. m.1) left,
    ap (λ m. m.0.held) left,
    ap (λ m. m.0.role) left ∙ (ap (λ (k : Knows K V S W). k.role) d.entered.locked ∙ visits),
    ap (λ m. m.0.plan) left ∙ (ap (λ (k : Knows K V S W). k.plan) d.entered.locked ∙ is),
  )

  pub same_visitor : {before after : CacheState K V S W} {visit entry : Visit K V S W} (w : Me (CacheState K V S W) (Knows K V S W))
      → Called keys weighs rules ready plan i v u before after visit entry → w ≡ (after_visit i (Some entry) u.0, []) → w.0.by ≡ v.by
  same_visitor w d left = ap (λ m. m.0.by) left ∙ ap (λ (k : Knows K V S W). k.by) d.entered.locked
