-- Lemmas on what invalidations take out of the store.
use Rattle.std.proofs.Common.{◌≡◌, ◌<◌, ℕ, Bool, true, false, not, nat_eq, List, [], ◌∷◌, length, Option, Some, None, is_some}
use Rattle.std.proofs.Common.{◌||◌, IfSome, map, option_map, unwrap_or, refl, sym, ap, ◌∙◌, inl, inr, arith, subst}
use Rattle.std.proofs.lemmas.Bool.{cases_Bool, cond-true, cond-false, false≢true}
use Rattle.std.specs.Borrow.{Bor}
use Rattle.std.specs.Duration.{as_nanos}
use Rattle.std.specs.declared.time.Duration.{Duration}
use Rattle.std.specs.List.{IsDistinct}
use Rattle.std.specs.Map.{lookup, remove_entry, keys_of as ids_of, values_of}
use Rattle.moka_list.specs.Nodes.{IsIn, first_id, next_id}
use Rattle.moka_common.specs.Moment.{idle_expired, is_past}
use Rattle.moka_common.specs.Policy.{Policy}
use Rattle.moka_unsync_model.specs.Deadline.{expiry_of}
use Rattle.moka_unsync_model.specs.declared.entry.Entry.{Entry}
use Rattle.moka_unsync_model.specs.Cleanup.{is_expired}
use Rattle.moka_unsync_model.specs.Contents.{Contents, after_leaving, entries_except, entry_keys, entry_where, except, without, writes_except}
use Rattle.moka_unsync_model.specs.Invalidate.{AnswersAt, AnswersInTurn, chosen}
use Rattle.moka_store.specs.Store.{Store, IsFound, Removes, contents_of, entries_of}
use Rattle.moka_list.proofs.WalkLemmas.{from_first, from_next, from_node, from_none, from_stays, next_stays}

module _ {K V : Type 0} (test : K → Bool) where
  -- where no entry's key passes, none leaves
  entries-absent : (entries : List (Entry K V)) → entry_where test entries ≡ None → entries_except test entries ≡ entries
  entries-absent [] h = refl
  entries-absent (e ∷ es) h =
      elim (cases_Bool (test e.key)) [
        | inl passes ↦ absurd (false≢true (sym (ap is_some (sym (cond-true (test e.key) (Some e) (entry_where test es) passes) ∙ h))))
        | inr fails ↦
            cond-true (not (test e.key)) _ _ (ap not fails)
            ∙ ap (λ l. e ∷ l) (entries-absent es (sym (cond-false (test e.key) (Some e) (entry_where test es) fails) ∙ h))
      ]

  -- where neither an entry's key passes nor a write's, nothing leaves
  pub except-absent : (store : Store K V) → entry_where test (entries_of store) ≡ None → writes_except test store.written ≡ store.written
      → contents_of store ≡ except test (contents_of store)
  except-absent store none unwritten = λ i. record { entries = sym (entries-absent (entries_of store) none) i; written = sym unwritten i }

  -- the key of one that is found passes
  pub found_passes : (e : Entry K V) (entries : List (Entry K V)) → entry_where test entries ≡ Some e → test e.key ≡ true
  found_passes e [] h = absurd (false≢true (ap is_some h))
  found_passes e (x ∷ es) h =
      elim (cases_Bool (test x.key)) [
        | inl passes ↦
            subst (λ y. test y.key ≡ true) (ap (λ o. unwrap_or o x) (sym (cond-true (test x.key) (Some x) (entry_where test es) passes) ∙ h)) passes
        | inr fails ↦ found_passes e es (sym (cond-false (test x.key) (Some x) (entry_where test es) fails) ∙ h)
      ]

module _ {K V : Type 0} (eq : K → K → Bool) where
  -- an entry that left took its key with it
  pub left : (old new : Store K V) (id : ℕ) (r : Removes eq old id new) → contents_of new ≡ without eq (contents_of old) r.entry.key
  left old new id r = r.contents

  -- the entry that was found left, and the test passes just the keys that are equal to its key
  pub except-found : (test : K → Bool) → ((x y : K) → test x ≡ true → test y ≡ eq x y) → (old new : Store K V) (id : ℕ) → IsFound test old id
      → Removes eq old id new → contents_of new ≡ except test (contents_of old)
  except-found test equals old new id found r =
      let same : r.entry ≡ found.0 = ap (λ o. unwrap_or o r.entry) (sym r.stood ∙ found.1) in
      let passes : test r.entry.key ≡ true = subst (λ e. test e.key ≡ true) (sym same) (found_passes test found.0 (entries_of old) found.2) in
      left old new id r ∙ (λ i. except (λ x. sym (equals r.entry.key x passes) i) (contents_of old))

-- ---- a walk through the nodes

-- the entries from a node on
abbrev pub entries_from : {K V : Type 0} → Option ℕ → Store K V → List (Entry K V)
entries_from here store = values_of (from_node here store.nodes)

-- the walk is at a node, which has this entry, and goes on to the next
pub record IsStop {K V : Type 0} (store : Store K V) (here after : Option ℕ) (id : ℕ) (e : Entry K V) : Type 0 where
  pub distinct : IsDistinct nat_eq (ids_of store.nodes)
  pub stands : lookup (nat_eq id) store.nodes ≡ Some e
  pub here_is : here ≡ Some id
  pub after_is : after ≡ next_id id store.nodes

module _ {K V : Type 0} {store : Store K V} {here after : Option ℕ} {id : ℕ} {e : Entry K V} (at : IsStop store here after id e) where
  from_here : from_node here store.nodes ≡ (id, e) ∷ from_node after store.nodes
  from_here =
      ap (λ o. from_node o store.nodes) at.here_is
      ∙ (from_next id e store.nodes at.distinct at.stands ∙ ap (λ o. (id, e) ∷ from_node o store.nodes) (sym at.after_is))

  -- fewer are left
  pub fewer_from : length (from_node after store.nodes) < length (from_node here store.nodes)
  fewer_from = rw from_here (grind (arith))

  module _ (eq : K → K → Bool) (new : Store K V) (r : Removes eq store id new) where
    -- what is behind it stays
    behind_stays : from_node after new.nodes ≡ from_node after store.nodes
    behind_stays =
        ap (from_node after) r.nodes
        ∙ (ap (λ o. from_node o (remove_entry (nat_eq id) store.nodes)) at.after_is
        ∙ (from_stays id store.nodes at.distinct ∙ ap (λ o. from_node o store.nodes) (sym at.after_is)))

    -- the node behind it is still there
    pub next_remains : IfSome after (λ j. IsIn new.nodes j)
    next_remains =
        subst (λ o. IfSome o (λ j. IsIn new.nodes j)) (sym at.after_is)
        (subst (λ nodes. IfSome (next_id id store.nodes) (λ j. IsIn nodes j)) (sym r.nodes) (next_stays id store.nodes))

    -- and fewer are left
    pub fewer_left : length (from_node after new.nodes) < length (from_node here store.nodes)
    fewer_left = rw behind_stays fewer_from

    -- its entry has left
    entry_left : contents_of new ≡ without eq (contents_of store) e.key
    entry_left =
        left eq store new id r
        ∙ ap (λ f. without eq (contents_of store) f.key) (ap (λ o. unwrap_or o r.entry) (sym r.stood ∙ at.stands))

-- ---- a predicate on its way through the nodes

module _ {P K V : Type 0} (eq : K → K → Bool) (calls : P → Bor K → Bor V → Bool → P → Type 0) where
  -- a call answered so
  pub answered : (predicate : P) (key : Bor K) (value : Bor V) (e : Entry K V) (answer said : Bool) (next : P)
      → calls predicate key value answer next → key.now ≡ e.key → value.now ≡ e.value → answer ≡ said
      → AnswersAt calls predicate e said next
  answered predicate key value e answer said next called k v is =
      record { key = key; value = value; shown = (k, v); called = subst (λ b. calls predicate key value b next) is called }

  -- what a predicate answers for the rest makes up, with what it has answered, its answers for all, and those that it chooses leave
  abbrev pub Remaining : P → Contents K V → P → Contents K V → List (Entry K V) → Type 0
  Remaining first begun predicate contents rest =
      (answers : List Bool) → AnswersInTurn calls predicate rest answers
      → (all : List Bool) × AnswersInTurn calls first begun.entries all
      × (after_leaving eq (entry_keys (chosen answers rest)) contents ≡ after_leaving eq (entry_keys (chosen all begun.entries)) begun)

  pub remaining_first : (predicate : P) (store : Store K V) (here : Option ℕ) → here ≡ first_id store.nodes
      → Remaining predicate (contents_of store) predicate (contents_of store) (entries_from here store)
  remaining_first predicate store here h answers told =
      let all : entries_from here store ≡ entries_of store =
      ap (λ o. values_of (from_node o store.nodes)) h ∙ ap values_of (from_first store.nodes) in (
        answers,
        subst (λ es. AnswersInTurn calls predicate es answers) all told,
        ap (λ es. after_leaving eq (entry_keys (chosen answers es)) (contents_of store)) all,
      )

  module _ (first predicate next : P) (begun : Contents K V) {store : Store K V} {here after : Option ℕ} {id : ℕ} {e : Entry K V}
      (at : IsStop store here after id e) where
    asked : Remaining first begun predicate (contents_of store) (entries_from here store)
        → Remaining first begun predicate (contents_of store) (e ∷ entries_from after store)
    asked so_far = subst (Remaining first begun predicate (contents_of store)) (ap values_of (from_here at)) so_far

    -- an entry that stays
    pub remaining_kept : AnswersAt calls predicate e false next
        → Remaining first begun predicate (contents_of store) (entries_from here store)
        → Remaining first begun next (contents_of store) (entries_from after store)
    remaining_kept told so_far answers rest = asked so_far (false ∷ answers) (false, next, answers, refl, told, rest)

    -- an entry that leaves
    pub remaining_left : AnswersAt calls predicate e true next → (new : Store K V) → Removes eq store id new
        → Remaining first begun predicate (contents_of store) (entries_from here store)
        → Remaining first begun next (contents_of new) (entries_from after new)
    remaining_left told new r so_far =
        subst (λ c. Remaining first begun next c (entries_from after new)) (sym (entry_left at eq new r))
        (subst (Remaining first begun next (without eq (contents_of store) e.key)) (ap values_of (sym (behind_stays at eq new r)))
        (λ answers rest. asked so_far (true ∷ answers) (true, next, answers, refl, told, rest)))

  -- at the end all have been asked
  pub remaining_none : (first predicate : P) (begun : Contents K V) (store : Store K V) (here : Option ℕ) → here ≡ None
      → Remaining first begun predicate (contents_of store) (entries_from here store)
      → (all : List Bool) × AnswersInTurn calls first begun.entries all
      × (contents_of store ≡ after_leaving eq (entry_keys (chosen all begun.entries)) begun)
  remaining_none first predicate begun store here h so_far =
      let none : entries_from here store ≡ [] = ap (λ o. values_of (from_node o store.nodes)) h ∙ ap values_of (from_none store.nodes) in
      (subst (Remaining first begun predicate (contents_of store)) none so_far) [] refl

-- ---- a test on its way through the nodes

module _ {K V : Type 0} (test : Entry K V → Bool) where
  -- the entries that pass
  abbrev pub passing : List (Entry K V) → List (Entry K V)
  passing entries = chosen (map test entries) entries

  -- one that passes is the first of them
  passing-first : (e : Entry K V) (es : List (Entry K V)) → test e ≡ true → passing (e ∷ es) ≡ e ∷ passing es
  passing-first e es passes = ap (λ answer. chosen (answer ∷ map test es) (e ∷ es)) passes

  -- one that fails is none of them
  passing-behind : (e : Entry K V) (es : List (Entry K V)) → test e ≡ false → passing (e ∷ es) ≡ passing es
  passing-behind e es fails = ap (λ answer. chosen (answer ∷ map test es) (e ∷ es)) fails

  -- where no entry passes, nothing does
  passing-none : ((e : Entry K V) → test e ≡ false) → (es : List (Entry K V)) → passing es ≡ []
  passing-none never [] = refl
  passing-none never (e ∷ es) = passing-behind e es (never e) ∙ passing-none never es

  -- where the entry of a stop passes, what stands there does
  pub passes_there : {store : Store K V} {here after : Option ℕ} {id : ℕ} {stopped : Entry K V} → IsStop store here after id stopped
      → test stopped ≡ true → (e : Entry K V) → lookup (nat_eq id) store.nodes ≡ Some e → test e ≡ true
  passes_there {stopped = stopped} at passes e there = subst (λ x. test x ≡ true) (ap (λ o. unwrap_or o stopped) (sym at.stands ∙ there)) passes

  module _ (eq : K → K → Bool) where
    -- and none leaves
    pub none_leaves : ((e : Entry K V) → test e ≡ false) → (contents : Contents K V)
        → contents ≡ after_leaving eq (entry_keys (passing contents.entries)) contents
    none_leaves never contents = ap (λ es. after_leaving eq (entry_keys es) contents) (sym (passing-none never contents.entries))

    -- once those of the rest that pass have left, all that pass have
    abbrev pub Leaving : Contents K V → Contents K V → List (Entry K V) → Type 0
    Leaving begun contents rest =
        after_leaving eq (entry_keys (passing rest)) contents ≡ after_leaving eq (entry_keys (passing begun.entries)) begun

    -- so it is at the first node
    pub leaving_first : (store : Store K V) (here : Option ℕ) → here ≡ first_id store.nodes
        → Leaving (contents_of store) (contents_of store) (entries_from here store)
    leaving_first store here h =
        ap (λ es. after_leaving eq (entry_keys (passing es)) (contents_of store))
        (ap (λ o. values_of (from_node o store.nodes)) h ∙ ap values_of (from_first store.nodes))

    module _ (begun : Contents K V) {store : Store K V} {here after : Option ℕ} {id : ℕ} {e : Entry K V} (at : IsStop store here after id e)
        (so_far : Leaving begun (contents_of store) (entries_from here store)) where
      -- the rest at a stop is its entry, and what is behind it
      stopped : Leaving begun (contents_of store) (e ∷ entries_from after store)
      stopped = subst (Leaving begun (contents_of store)) (ap values_of (from_here at)) so_far

      -- an entry that stays
      pub leaving_kept : test e ≡ false → Leaving begun (contents_of store) (entries_from after store)
      leaving_kept fails =
          sym (ap (λ es. after_leaving eq (entry_keys es) (contents_of store)) (passing-behind e (entries_from after store) fails)) ∙ stopped

      -- an entry that leaves
      pub leaving_left : test e ≡ true → (new : Store K V) → Removes eq store id new → Leaving begun (contents_of new) (entries_from after new)
      leaving_left passes new r =
          subst (λ c. Leaving begun c (entries_from after new)) (sym (entry_left at eq new r))
          (subst (Leaving begun (without eq (contents_of store) e.key)) (ap values_of (sym (behind_stays at eq new r)))
          (sym (ap (λ es. after_leaving eq (entry_keys es) (contents_of store)) (passing-first e (entries_from after store) passes)) ∙ stopped))

    -- at the end all that pass have left
    pub leaving_none : (begun : Contents K V) (store : Store K V) (here : Option ℕ) → here ≡ None
        → Leaving begun (contents_of store) (entries_from here store)
        → contents_of store ≡ after_leaving eq (entry_keys (passing begun.entries)) begun
    leaving_none begun store here h so_far =
        subst (Leaving begun (contents_of store)) (ap (λ o. values_of (from_node o store.nodes)) h ∙ ap values_of (from_none store.nodes)) so_far

-- without a duration no entry is expired
pub never_expired : {K V : Type 0} (policy : Policy) (now : ℕ) → (is_some policy.time_to_live || is_some policy.time_to_idle) ≡ false
    → (e : Entry K V) → is_expired policy now e ≡ false
never_expired policy now none e = by policy.time_to_live policy.time_to_idle none
  where
    by : (live idle : Option Duration) → (is_some live || is_some idle) ≡ false
        → (is_past (option_map as_nanos live) (expiry_of e) now || idle_expired (option_map as_nanos idle) e.accessed now) ≡ false
    by None None none = refl
    by None (Some idle) none = absurd (false≢true (sym none))
    by (Some live) idle none = absurd (false≢true (sym none))
