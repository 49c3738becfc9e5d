-- The laws of a cache for one thread, at the place of a session's call in the history.
use Rattle.std.proofs.Common.{◌≡◌, ◌⊎◌, ◌↔◌, ℕ, ◌==◌, ◌∙◌, Bool, true, false, List, [], ◌∷◌, ◌++◌, Option, Some, None, Result, Ok, ap, refl, subst, sym, inl}
use Rattle.std.proofs.Common.{inr, eq-eqb, true≢false}
use Rattle.std.specs.Prelude.{option_map, is_some}
use Rattle.moka_common.specs.Keys.{Keys}
use Rattle.moka_common.specs.Policy.{Policy}
use Rattle.moka_unsync_model.specs.CacheState.{CacheState, new_cache}
use Rattle.moka_unsync_model.specs.Lookup.{after_get, found_by_get}
use Rattle.moka_unsync_model.specs.Step.{Answer, IsStep, Request, ContainsKey, Get, Insert, Invalidate, InvalidateAll, InvalidateEntriesIf, Peek, Remove}
use Rattle.moka_unsync_model.specs.Step.{Done, Found, Truth}
use Rattle.moka_unsync_model.specs.History.{Exchange, exchange_of, LastWritesAreInserts, HitsAreCurrent, IsCurrent, LastWrite, Leads, PeeksAreCurrent}
use Rattle.moka_unsync_model.specs.History.{RemoveAsGet, Transition, chosen_keys, exchanges, is_invalidated, is_over, is_written, last_write}
use Rattle.moka_unsync_model.specs.Removal.{IsMissing, MissesHaveAReason}
use Rattle.moka_row.specs.Visits.{at, visits_by}
use Rattle.std.specs.Cmp.{IsEquivalence}
use Rattle.moka_segments.specs.declared.plan.Plan.{Plan}
use Rattle.moka_segments.specs.Plan.{place_of, settings_of}
use Rattle.moka_common.specs.declared.error.InsertError.{InsertError}
use Rattle.moka_common.specs.declared.error.OutOfMemory as error
use Rattle.moka_segments.specs.Rules.{Agree, IsOwner, IsPermitted, Rules}
use Rattle.moka_segments.specs.History.{Every, Knows, Log, OnlyBy, Spares, Visit, calls, joined, rest, value_written}
use Rattle.moka_segments.specs.Calls.{Makes, MakesIn}
use Rattle.moka_segments.specs.Tells.{FindsOwn, FindsWritten, Gets, Hits, HitsOwn, Inserts, Lacks, Looks, Misses, Peeks, Removes, TellsClone, answer_of}
use Rattle.moka_unsync_model.proofs.HistoryLemmas.{contains_as_get, hits_are_current, last_writes_are_inserts, peeks_are_current, remove_as_get}
use Rattle.moka_unsync_model.proofs.RemovalLemmas.{inserts as insert_law, misses as miss_law}
use Rattle.moka_segments.proofs.CallLemmas.{every_both}
use Rattle.moka_segments.proofs.OwnLemmas.{own_calls, spared_visits, written}

answered_found : {K V : Type 0} (found : Option V) (answer : Answer K V) → answer ≡ Found found → answer ≡ Found None → found ≡ None
answered_found {K = K} {V = V} found answer is none = ap value (sym is ∙ none)
  where
    value : Answer K V → Option V
    value (Found x) = x
    value answer = None

pub some_is : {V : Type 0} (x y : V) → Some x ≡ Some y → x ≡ y
some_is x y e = cc

head_is : {X : Type 0} (x y : X) (xs ys : List X) → x ∷ xs ≡ y ∷ ys → x ≡ y
head_is x y xs ys e = cc

tail_is : {X : Type 0} (x y : X) (xs ys : List X) → x ∷ xs ≡ y ∷ ys → xs ≡ ys
tail_is x y xs ys e = cc

-- a fact of the calls of each visit is one of all calls
every_call : {C : Type 0} (P : C → Type 0) (log : List (ℕ × List C)) → Every (λ visit. Every P visit.1) log → Every P (calls log)
every_call P [] all = tt
every_call P (visit ∷ log) all = every_both P visit.1 (calls log) all.0 (every_call P log all.1)

weaker_of_one : {C : Type 0} (P : ℕ → C → Type 0) (Q : C → Type 0) (by : ℕ) (visit : List C) → ((by : ℕ) (c : C) → P by c → Q c) → Every (P by) visit
    → Every Q visit
weaker_of_one P Q by [] weaker a = tt
weaker_of_one P Q by (x ∷ xs) weaker a = (weaker by x a.0, weaker_of_one P Q by xs weaker a.1)

-- another fact of each call of each visit
every_weaker : {C : Type 0} (P : ℕ → C → Type 0) (Q : C → Type 0) (log : List (ℕ × List C)) → ((by : ℕ) (c : C) → P by c → Q c)
    → Every (λ visit. Every (P visit.0) visit.1) log → Every (λ visit. Every Q visit.1) log
every_weaker P Q [] weaker all = tt
every_weaker P Q (visit ∷ log) weaker all = (weaker_of_one P Q visit.0 visit.1 weaker all.0, every_weaker P Q log weaker all.1)

-- what an insert puts meets the rule of pairs
abbrev Put : {K V : Type 0} → Rules K V → Request K V → Type 0
Put rules (Insert key value own now) = rules.holds key value
Put rules request = Unit {0}

put_of : {K V : Type 0} (rules : Rules K V) (by : ℕ) (request : Request K V) → IsPermitted rules by request → Put rules request
put_of rules by (Insert key value own now) p = p.0
put_of rules by request p = tt

module _ {K V S : Type 0} (keys : Keys K S) (rules : Rules K V) (agree : Agree keys.eq rules) where
  -- who may not write a key spares it
  not_both : (b : Bool) → (b ≡ true → ⊥) → b ≡ false
  not_both true never = absurd (never refl)
  not_both false never = refl

  spares : {W : Type 0} (by other : ℕ) (key : K) (call : Transition K V S W) → IsOwner rules by key → (other == by) ≡ false
      → IsPermitted rules other call.request → Spares keys key call
  spares by other key call owner apart may = (
    unwritten call.request call.answer may,
    valid call.request
        (chosen_keys call.request call.before.contents.entries) may,
  )
    where
      mine : (at_key : K) → rules.owns other at_key → keys.eq at_key key ≡ true → ⊥
      mine at_key owns same = true≢false (sym (eq-eqb other by (owner other (agree.owns other at_key key same owns))) ∙ apart)

      unwritten : (request : Request K V) (answer : Answer K V) → IsPermitted rules other request → is_written keys request answer key ≡ false
      unwritten (Insert at_key value own now) Done may = not_both (keys.eq at_key key) (mine at_key may.1)
      unwritten request answer may = refl

      valid : (request : Request K V) (chosen : List K) → IsPermitted rules other request → is_invalidated keys request chosen key ≡ false
      valid (Invalidate at_key now) chosen may = not_both (keys.eq at_key key) (mine at_key may)
      valid (Remove at_key now) chosen may = not_both (keys.eq at_key key) (mine at_key may)
      valid InvalidateAll chosen may = absurd (true≢false (sym (eq-eqb other by (owner other (may key))) ∙ apart))
      valid (InvalidateEntriesIf answers) chosen may = absurd (true≢false (sym (eq-eqb other by (owner other (may key))) ∙ apart))
      valid request chosen may = refl

  -- so only an owner wrote its key
  pub only_owner : {W : Type 0} (by : ℕ) (key : K) (log : Log K V S W) → IsOwner rules by key
      → Every (λ visit. Every (λ call. IsPermitted rules visit.0 call.request) visit.1) log → OnlyBy keys by key log
  only_owner by key [] owner all = tt
  only_owner {W = W} by key (visit ∷ log) owner all = ((λ apart. of_one visit.1 apart all.0), only_owner by key log owner all.1)
    where
      of_one : (visit_calls : Visit K V S W) → (visit.0 == by) ≡ false → Every (λ call. IsPermitted rules visit.0 call.request) visit_calls
          → Every (Spares keys key) visit_calls
      of_one [] apart a = tt
      of_one (call ∷ more) apart a = (spares by visit.0 key call owner apart a.0, of_one more apart a.1)

module _ {K V S W : Type 0} (keys : Keys K S) (rules : Rules K V) where
  -- a value that is current in the history of a segment meets the rule of pairs
  pub met_in : (policy : Policy) → Agree keys.eq rules → LastWritesAreInserts keys V → (log : Log K V S W)
      → Every (λ visit. Every (λ call. IsPermitted rules visit.0 call.request) visit.1) log → (key : K) (now : ℕ) (value : V)
      → IsCurrent keys policy now (exchanges (calls log)) key value → rules.holds key value
  met_in policy agree writes log ruled key now value is =
      let last = writes (exchanges (calls log)) key is.0 is.1 in
      let before : Every (λ call. Put rules call.request) (calls log) =
      every_call (λ call. Put rules call.request) log
      (every_weaker (λ by call. IsPermitted rules by call.request) (λ call. Put rules call.request) log
      (λ by call may. put_of rules by call.request may) ruled) in
      let insert : Put rules last.insert.request = ruled_at last.since last.insert last.earlier (calls log) last.parts before in
      let put : rules.holds last.other is.0.value = subst (Put rules) last.asked insert in
      subst (λ x. rules.holds key x) is.2 (agree.holds last.other key is.0.value last.equal put)
    where
      ruled_at : (since : List (Exchange K V)) (insert : Exchange K V) (earlier : List (Exchange K V)) (past : List (Transition K V S W))
          → exchanges past ≡ since ++ insert ∷ earlier
          → Every (λ call. Put rules call.request) past → Put rules insert.request
      ruled_at [] insert earlier [] parts all = absurd (cc)
      ruled_at [] insert earlier (call ∷ past) parts all = subst (λ (e : Exchange K V). Put rules e.request)
          (head_is (exchange_of call) insert (exchanges past) earlier parts) all.0
      ruled_at (e ∷ since) insert earlier [] parts all = absurd (cc)
      ruled_at (e ∷ since) insert earlier (call ∷ past) parts all = ruled_at since insert earlier past
          (tail_is (exchange_of call) e (exchanges past) (since ++ insert ∷ earlier) parts) all.1

module _ {K V S W : Type 0} (keys : Keys K S) (weighs : W → K → V → ℕ → W → Type 0) (rules : Rules K V) (plan : Plan S) where
  module _ (v w : Knows K V S W) (i : ℕ) (request : Request K V) (answer : Answer K V) (m : MakesIn keys weighs rules plan v i request answer w) where
    -- the calls before the last one, and the last one
    pub parts : Leads keys weighs (new_cache (settings_of plan i) plan.shares m.visit.history.weigher m.visit.history.capacity)
        (m.call ∷ calls (m.visit.since ++ at v.seen i)) m.visit.cache
    parts = subst (λ (log : Log K V S W). Leads keys weighs (new_cache (settings_of plan i) plan.shares m.visit.history.weigher m.visit.history.capacity)
        (calls log) m.visit.cache) m.visit.seen m.visit.history.led

    pub step_of : IsStep keys weighs m.call.before request answer m.call.after
    step_of = subst (λ (z : Request K V × Answer K V). IsStep keys weighs m.call.before z.0 z.1 m.call.after) (λ j. (m.asked j, m.answered j)) parts.1

    pub rest_is : rest (at w.seen i) ≡ m.visit.since ++ at v.seen i
    rest_is = ap rest m.visit.seen

    -- the visits before the last one keep the rules
    ruled_before : Every (λ visit. Every (λ call. IsPermitted rules visit.0 call.request) visit.1) (rest (at w.seen i))
    ruled_before =
        let all : Every (λ visit. Every (λ call. IsPermitted rules visit.0 call.request) visit.1) ((v.by, m.call ∷ []) ∷ (m.visit.since ++ at v.seen i)) =
        subst (λ (log : Log K V S W). Every (λ visit. Every (λ call. IsPermitted rules visit.0 call.request) visit.1) log) m.visit.seen m.visit.history.ruled in
        subst (λ (log : Log K V S W). Every (λ visit. Every (λ call. IsPermitted rules visit.0 call.request) visit.1) log) (sym rest_is) all.1

    -- a value that a get in the call's place finds is current
    pub current : HitsAreCurrent keys weighs → (key : K) (now : ℕ) (value : V) (got : CacheState K V S W)
        → IsStep keys weighs m.call.before (Get key now) (Found (Some value)) got
        → IsCurrent keys plan.policy now (exchanges (calls (rest (at w.seen i)))) key value
    current law key now value got step =
        subst (λ (log : Log K V S W). IsCurrent keys plan.policy now (exchanges (calls log)) key value) (sym rest_is)
        (law (settings_of plan i) plan.shares m.visit.history.weigher m.visit.history.capacity (calls (m.visit.since ++ at v.seen i)) m.call.before got key
        now value parts.2 step)

    -- and where nobody else touched the key, it is what one's own calls wrote last
    same_written : (key : K) → OnlyBy keys v.by key (rest (at w.seen i)) → value_written keys key (exchanges (joined (at v.mine i))) ≡ value_written keys key
        (exchanges (calls (rest (at w.seen i))))
    same_written key only =
        ap (λ mine. value_written keys key (exchanges (joined mine))) (sym m.visit.told)
        ∙ (ap (λ (log : Log K V S W). value_written keys key (exchanges (joined (visits_by v.by log)))) (sym rest_is)
        ∙ sym (own_calls keys v.by key (rest (at w.seen i)) only))

    pub owned : (key : K) (now : ℕ) (value : V) → IsCurrent keys plan.policy now (exchanges (calls (rest (at w.seen i)))) key value
        → OnlyBy keys v.by key (rest (at w.seen i)) → value_written keys key (exchanges (joined (at v.mine i))) ≡ Some value
    owned key now value is only = same_written key only ∙ (ap (option_map (λ write. write.value)) is.1 ∙ ap Some is.2)

    -- a value that is current meets the rule of pairs
    pub met : Agree keys.eq rules → LastWritesAreInserts keys V → (key : K) (now : ℕ) (value : V)
        → IsCurrent keys plan.policy now (exchanges (calls (rest (at w.seen i)))) key value → rules.holds key value
    met agree writes key now value is = met_in keys rules plan.policy agree writes (rest (at w.seen i)) ruled_before key now value is

  module _ (v w : Knows K V S W) (i : ℕ) (key : K) (now : ℕ) (found : Option V) (m : MakesIn keys weighs rules plan v i (Get key now) (Found found) w) where
    hits : HitsAreCurrent keys weighs → Hits keys weighs plan.policy key now found (at w.seen i)
    hits law value is =
        current v w i (Get key now) (Found found) m law key now value m.call.after
        (subst (λ f. IsStep keys weighs m.call.before (Get key now) (Found f) m.call.after) is (step_of v w i (Get key now) (Found found) m))

    hits_own : HitsAreCurrent keys weighs → HitsOwn keys weighs v.by key found (at w.seen i) (at v.mine i)
    hits_own law value is only = owned v w i (Get key now) (Found found) m key now value (hits law value is) only

    misses : MissesHaveAReason keys weighs → Misses keys weighs plan.policy key now found (at w.seen i)
    misses law =
        let log = m.visit.since ++ at v.seen i in
        let told = law (settings_of plan i) plan.shares m.visit.history.weigher m.visit.history.capacity (calls log) m.call m.visit.cache key now
        (parts v w i (Get key now) (Found found) m) m.asked in
        subst (λ (l : Log K V S W). (found ≡ None) ↔ (IsMissing keys weighs (calls l) key
        ⊎ ((write : LastWrite V) × (last_write keys key (exchanges (calls (rest l))) ≡ Some write) × (is_over plan.policy now write ≡ true))))
        (sym m.visit.seen)
        ((λ none. told.0 (m.answered ∙ ap Found none)), (λ why. answered_found found m.call.answer m.answered (told.1 why)))

    finds : HitsAreCurrent keys weighs → MissesHaveAReason keys weighs → Agree keys.eq rules → IsOwner rules v.by key
        → FindsWritten keys weighs rules plan.policy v.by key now found (at w.seen i) (at v.mine i)
    finds hit_law miss_law agree owner =
        let only = only_owner keys rules agree v.by key (rest (at w.seen i)) owner (ruled_before v w i (Get key now) (Found found) m) in
        record {
          only = λ value is. hits_own hit_law value is only;
          kept = λ value is. kept_by value is only found refl;
        }
      where
        kept_by : (value : V) → value_written keys key (exchanges (joined (at v.mine i))) ≡ Some value → OnlyBy keys v.by key (rest (at w.seen i))
            → (f : Option V) → found ≡ f
            → (found ≡ Some value) ⊎ ((found ≡ None) × Lacks keys weighs plan.policy key now (at w.seen i))
        kept_by value is only None e = inr (e, (misses miss_law).0 e)
        kept_by value is only (Some other) e = inl (e ∙ (sym (hits_own hit_law other e only) ∙ is))

  module _ (v w : Knows K V S W) (i : ℕ) (key : K) (now : ℕ) (found : Option V) (m : MakesIn keys weighs rules plan v i (Remove key now) (Found found) w) where
    removal_hits : HitsAreCurrent keys weighs → RemoveAsGet keys weighs → Hits keys weighs plan.policy key now found (at w.seen i)
    removal_hits law as_get value is =
        let got = as_get m.call.before m.call.after key now (Found found) (step_of v w i (Remove key now) (Found found) m) in
        current v w i (Remove key now) (Found found) m law key now value got.0
        (subst (λ f. IsStep keys weighs m.call.before (Get key now) (Found f) got.0) is got.1)

  module _ (v w : Knows K V S W) (i : ℕ) (key : K) (now : ℕ) (found : Option V) (m : MakesIn keys weighs rules plan v i (Peek key now) (Found found) w) where
    peek_hits : PeeksAreCurrent keys weighs → Hits keys weighs plan.policy key now found (at w.seen i)
    peek_hits law value is =
        subst (λ (log : Log K V S W). IsCurrent keys plan.policy now (exchanges (calls log)) key value) (sym (rest_is v w i (Peek key now) (Found found) m))
        (law (settings_of plan i) plan.shares m.visit.history.weigher m.visit.history.capacity (calls (m.visit.since ++ at v.seen i)) m.call.before
        m.call.after key now value
        (parts v w i (Peek key now) (Found found) m).2
        (subst (λ f. IsStep keys weighs m.call.before (Peek key now) (Found f) m.call.after) is (step_of v w i (Peek key now) (Found found) m)))

  -- what is found behind one's own write
  pub finds_own : IsEquivalence keys.eq → Agree keys.eq rules → (is_clone : V → V → Type 0) (v u w : Knows K V S W) (key : K) (value : V) (now : ℕ) (found
      : Option V)
      → Makes keys weighs rules plan v (place_of plan keys key) (Insert key value None now) Done u → Gets keys weighs rules plan is_clone u key now (Ok found) w
      → FindsOwn keys weighs rules plan is_clone v key value found w
  finds_own laws agree is_clone v u w key value now found m got =
      let i = place_of plan keys key in
      let first = m.made in
      let second = got.made.made in
      let earlier : Log K V S W = first.visit.since ++ at v.seen i in
      let here : at u.seen i ≡ (v.by, first.call ∷ []) ∷ earlier = first.visit.seen in
      let past : rest (at w.seen i) ≡ second.visit.since ++ (v.by, first.call ∷ []) ∷ earlier = ap rest second.visit.seen ∙ ap
      (λ (l : Log K V S W). second.visit.since ++ l) here in
      let same_value : (copy : V) → found ≡ Some copy → (value_written keys key (exchanges (calls (rest (at w.seen i)))) ≡ Some value)
      → is_clone value copy = λ copy is last.
      let told : TellsClone {E = error.OutOfMemory} is_clone got.found (Ok (Some copy)) = subst
      (λ f. TellsClone {E = error.OutOfMemory} is_clone got.found (Ok f)) is got.told in
      let current = got.hit told.0 told.1 in
      let now_written : value_written keys key (exchanges (calls (rest (at w.seen i)))) ≡ Some told.0 = ap (option_map (λ write. write.value)) current.1 ∙ ap
      Some current.2 in
      subst (λ x. is_clone x copy) (sym (some_is value told.0 (sym last ∙ now_written))) told.2 in
      let wrote : value_written keys key (exchanges (calls ((v.by, first.call ∷ []) ∷ earlier))) ≡ Some value = written keys laws key value None now first.call
      (calls earlier) first.asked first.answered in
      record {
        write = first.call ∷ [];
        read = second.call ∷ [];
        between = second.visit.since;
        earlier = earlier;
        seen = second.visit.seen ∙ (λ k. (first.visit.same k, second.call ∷ []) ∷ (second.visit.since ++ here k));
        own = λ copy is spares. same_value copy is
            (ap (λ (l : Log K V S W). value_written keys key (exchanges (calls l))) past ∙ (spared_visits keys key second.visit.since
            ((v.by, first.call ∷ []) ∷ earlier) spares ∙ wrote));
        owned = λ copy is owner.
            let owner_now : IsOwner rules u.by key = subst (λ n. IsOwner rules n key) (sym first.visit.same) owner in
            let only = only_owner keys rules agree u.by key (rest (at w.seen i)) owner_now (ruled_before u w i (Get key now) (Found got.found) second) in
            let mine_wrote : value_written keys key (exchanges (joined (at u.mine i))) ≡ Some value =
            ap (λ (l : List (Visit K V S W)). value_written keys key (exchanges (joined l))) first.visit.mine
            ∙ written keys laws key value None now first.call (joined (at v.mine i)) first.asked first.answered in
            same_value copy is (sym (same_written u w i (Get key now) (Found got.found) second key only) ∙ mine_wrote);
      }

module _ {K V S W : Type 0} {keys : Keys K S} {weighs : W → K → V → ℕ → W → Type 0} {rules : Rules K V} {plan : Plan S} {v w : Knows K V S W} {i : ℕ} where
  -- a call of a key stands in the segment of the key
  pub at_place : {request : Request K V} {answer : Answer K V} (key : K) → place_of plan keys key ≡ i → Makes keys weighs rules plan v i request answer w
      → Makes keys weighs rules plan v (place_of plan keys key) request answer w
  at_place {request = request} {answer = answer} key place made = subst (λ k. Makes keys weighs rules plan v k request answer w) (sym place) made

  module _ {key : K} {now : ℕ} where
    -- what a get tells
    pub gets : {is_clone : V → V → Type 0} {result : Result (Option V) error.OutOfMemory} {found : Option V} → IsEquivalence keys.eq → Agree keys.eq rules
        → place_of plan keys key ≡ i → TellsClone is_clone found result
        → Makes keys weighs rules plan v i (Get key now) (Found found) w → Gets keys weighs rules plan is_clone v key now result w
    gets {found = found} laws agree place told there =
        let hit_law = hits_are_current keys laws weighs in
        let misses_law = miss_law keys laws weighs in
        let at_key = place_of plan keys key in
        let made = at_place key place there in
        let hit = hits keys weighs rules plan v w at_key key now found made.made hit_law in
        record {
          found = found;
          told = told;
          made = made;
          hit = hit;
          miss = misses keys weighs rules plan v w at_key key now found made.made misses_law;
          own = hits_own keys weighs rules plan v w at_key key now found made.made hit_law;
          owned = finds keys weighs rules plan v w at_key key now found made.made hit_law misses_law agree;
          met = λ value is. met keys weighs rules plan v w at_key (Get key now) (Found found) made.made agree (last_writes_are_inserts keys) key now value
              (hit value is);
        }

    -- what a peek tells
    pub peeks : {is_clone : V → V → Type 0} {result : Result (Option V) error.OutOfMemory} {found : Option V} → IsEquivalence keys.eq → Agree keys.eq rules
        → place_of plan keys key ≡ i → TellsClone is_clone found result
        → Makes keys weighs rules plan v i (Peek key now) (Found found) w → Peeks keys weighs rules plan is_clone v key now result w
    peeks {found = found} laws agree place told there =
        let at_key = place_of plan keys key in
        let made = at_place key place there in
        let hit = peek_hits keys weighs rules plan v w at_key key now found made.made (peeks_are_current keys laws weighs) in
        record {
          found = found;
          told = told;
          made = made;
          hit = hit;
          own = λ value is only. owned keys weighs rules plan v w at_key (Peek key now) (Found found) made.made key now value (hit value is) only;
          met = λ value is. met keys weighs rules plan v w at_key (Peek key now) (Found found) made.made agree (last_writes_are_inserts keys) key now value
              (hit value is);
        }

    -- what a removal tells
    pub removes : {found : Option V} → IsEquivalence keys.eq → Agree keys.eq rules
        → place_of plan keys key ≡ i → Makes keys weighs rules plan v i (Remove key now) (Found found) w → Removes keys weighs rules plan v key now found w
    removes {found = found} laws agree place there =
        let at_key = place_of plan keys key in
        let made = at_place key place there in
        let hit = removal_hits keys weighs rules plan v w at_key key now found made.made (hits_are_current keys laws weighs) (remove_as_get keys weighs) in
        record {
          made = made;
          hit = hit;
          own = λ value is only. owned keys weighs rules plan v w at_key (Remove key now) (Found found) made.made key now value (hit value is) only;
          met = λ value is. met keys weighs rules plan v w at_key (Remove key now) (Found found) made.made agree (last_writes_are_inserts keys) key now value
              (hit value is);
        }

    -- what a look tells
    pub looks : {there : Bool} → IsEquivalence keys.eq → place_of plan keys key ≡ i
        → Makes keys weighs rules plan v i (ContainsKey key now) (Truth there) w → Looks keys weighs rules plan v key now there w
    looks {there = there} laws place made =
        let m = (at_place key place made).made in
        let before = m.call.before in
        let got = after_get keys before key now in
        let step = step_of keys weighs rules plan v w (place_of plan keys key) (ContainsKey key now) (Truth there) m in
        record {
          made = at_place key place made;
          hit = λ said. one m (found_by_get keys before key now) refl
              (sym (contains_as_get keys weighs before m.call.after got key now there (found_by_get keys before key now) step (refl, refl)) ∙ said);
        }
      where
        one : (m : MakesIn keys weighs rules plan v (place_of plan keys key) (ContainsKey key now) (Truth there) w) (f : Option V)
            → found_by_get keys m.call.before key now ≡ f → is_some (found_by_get keys m.call.before key now) ≡ true
            → (value : V) × IsCurrent keys plan.policy now (exchanges (calls (rest (at w.seen (place_of plan keys key))))) key value
        one m None e said = absurd (true≢false (sym said ∙ ap is_some e))
        one m (Some value) e said = (
          value,
          current keys weighs rules plan v w (place_of plan keys key) (ContainsKey key now) (Truth there) m (hits_are_current keys laws weighs) key now value
              (after_get keys m.call.before key now) (ap Found (sym e), refl),
        )

    -- what an insert tells
    pub inserts : {value : V} {own : Option ℕ} {result : Result (Unit {0}) InsertError} → IsEquivalence keys.eq → place_of plan keys key ≡ i
        → Makes keys weighs rules plan v i (Insert key value own now) (answer_of result) w → Inserts keys weighs rules plan v key value own now result w
    inserts {value = value} {own = own} {result = result} laws place there =
        let at_key = place_of plan keys key in
        let made : Makes keys weighs rules plan v at_key (Insert key value own now) (answer_of result) w = at_place key place there in
        let m = made.made in
        let led = parts keys weighs rules plan v w at_key (Insert key value own now) (answer_of result) m in
        record {
          made = made;
          enters = λ done. insert_law keys laws weighs (settings_of plan at_key) plan.shares m.visit.history.weigher m.visit.history.capacity
              (calls (m.visit.since ++ at v.seen at_key)) m.call m.call.after key value own now (refl, led.1, led.2) m.asked done;
        }
