-- Lemmas on entries that leave one after another: those that make up a weight, and those that were idle too long.
use Rattle.std.proofs.Common.{◌≡◌, ◌<◌, ◌≤◌, ◌+◌, ◌-◌, ◌^◌, ◌||◌, ℕ, zero, suc, Bool, true, false, not, nat_eq, List, [], ◌∷◌, take, take_while, Option, Some}
use Rattle.std.proofs.Common.{None, option_map, unwrap_or}
use Rattle.std.proofs.Common.{is_some, refl, sym, ap, ◌∙◌, arith, subst, inl, inr}
use Rattle.std.proofs.Math.Seq.{take-nil}
use Rattle.std.proofs.lemmas.Bool.{cases_Bool, cond-false, cond-true, eqb-true, false≢true}
use Rattle.std.proofs.lemmas.List.Sums.{sum_by-cons, take_while-cons}
use Rattle.std.specs.Map.{lookup}
use Rattle.moka_common.specs.Policy.{Policy}
use Rattle.moka_unsync_model.specs.declared.entry.Part.{Part}
use Rattle.moka_unsync_model.specs.declared.entry.Part.TheVariants.{Probation, Protected, Window}
use Rattle.moka_common.specs.Prefix.{shortest_prefix}
use Rattle.moka_unsync_model.specs.declared.constants.TheConstants.{EVICTION_BATCH_SIZE}
use Rattle.moka_unsync_model.specs.declared.entry.Entry.{Entry}
use Rattle.moka_unsync_model.specs.Contents.{Contents, entry_keys, after_leaving, is_window, main_of, total_weight, without}
use Rattle.moka_unsync_model.specs.Memory.{Memory, after_note}
use Rattle.moka_unsync_model.specs.Window.{after_displacing}
use Rattle.moka_unsync_model.specs.Cleanup.{after_eviction, after_trim, is_idle, least_recent}
use Rattle.moka_store.specs.Store.{Continues, Enters, IsFront, IsFrontOf, KeepsSettings, Removes, Replaces, Store, contents_of, entries_of, is_of, those_of}
use Rattle.moka_list.proofs.IdLemmas.{some_parts}
use Rattle.moka_list.proofs.ItemLemmas.{lookup-remove_other}
use Rattle.moka_unsync.specs.Turns.{WindowStands, after_idle_of}

-- a policy by which no entry expires has no durations
pub lasting : (policy : Policy) → (is_some policy.time_to_live || is_some policy.time_to_idle) ≡ false
    → (policy.time_to_live ≡ None) × (policy.time_to_idle ≡ None)
lasting policy h = by policy.time_to_live policy.time_to_idle h
  where
    by : {X Y : Type 0} (live : Option X) (idle : Option Y) → (is_some live || is_some idle) ≡ false → (live ≡ None) × (idle ≡ None)
    by None None h = (refl, refl)
    by None (Some idle) h = absurd (false≢true (sym h))
    by (Some live) idle h = absurd (false≢true (sym h))

module _ {K V : Type 0} where
  unwrap_cons : (e : Entry K V) (es : List (Entry K V)) (o : Option (List (Entry K V)))
      → unwrap_or (option_map (λ prefix. e ∷ prefix) o) (e ∷ es) ≡ e ∷ unwrap_or o es
  unwrap_cons e es None = refl
  unwrap_cons e es (Some prefix) = refl

  -- where some weight is to be made up, the first entry is part of it
  pub least_recent-cons : (enough : ℕ) (e : Entry K V) (es : List (Entry K V)) → 0 < enough
      → least_recent enough (e ∷ es) ≡ e ∷ least_recent (enough - e.weight) es
  least_recent-cons zero e es h = absurd (grind (arith, h))
  least_recent-cons (suc n) e es h = unwrap_cons e es (shortest_prefix (λ e. e.weight) (suc n - e.weight) es)

  -- where none is, nothing leaves
  pub least_recent-none : (es : List (Entry K V)) → least_recent 0 es ≡ []
  least_recent-none [] = refl
  least_recent-none (e ∷ es) = refl

  -- the first entry leaves, and the rest make up the weight that is above the limit then
  pub eviction-front : (eq : K → K → Bool) (limit most : ℕ) (e : Entry K V) (es : List (Entry K V)) (old new : Contents K V)
      → old.entries ≡ e ∷ es → new ≡ without eq old e.key → new.entries ≡ es
      → limit < total_weight old.entries → after_eviction eq limit (suc most) old ≡ after_eviction eq limit most new
  eviction-front eq limit most e es old new first left rest above =
      ap (λ l. after_leaving eq (entry_keys (take (suc most) l)) old)
      (ap (least_recent (total_weight old.entries - limit)) first
      ∙ (least_recent-cons (total_weight old.entries - limit) e es (grind (arith, above)) ∙ ap (λ w. e ∷ least_recent w es) weights))
      ∙ (ap (after_leaving eq (entry_keys (take most (least_recent (total_weight es - limit) es)))) (sym left)
      ∙ ap (λ l. after_leaving eq (entry_keys (take most (least_recent (total_weight l - limit) l))) new) (sym rest))
    where
      total : total_weight old.entries ≡ e.weight + total_weight es
      total = ap total_weight first ∙ sum_by-cons (λ e. e.weight) e es

      weights : total_weight old.entries - limit - e.weight ≡ total_weight es - limit
      weights = rw total (grind (arith))

  -- a weight above the limit is trimmed, and there is a limit then
  pub trim-above : (eq : K → K → Bool) (max : Option ℕ) (most weight : ℕ) → most ≡ unwrap_or max (2 ^ 64 - 1) → most < weight → weight < 2 ^ 64
      → (contents : Contents K V) → after_eviction eq most EVICTION_BATCH_SIZE contents ≡ after_trim eq max contents
  trim-above eq None most weight is above small contents = absurd (grind (arith, is, above, small))
  trim-above eq (Some limit) most weight is above small contents = ap (λ l. after_eviction eq l EVICTION_BATCH_SIZE contents) is

  -- one within it is not
  pub trim-within : (eq : K → K → Bool) (max : Option ℕ) (most : ℕ) → most ≡ unwrap_or max (2 ^ 64 - 1) → (contents : Contents K V)
      → total_weight contents.entries ≤ most → contents ≡ after_trim eq max contents
  trim-within eq None most is contents within = refl
  trim-within eq (Some limit) most is contents within =
      let none : total_weight contents.entries - limit ≡ 0 = grind (arith, is, within) in
      sym (ap (λ w. after_leaving eq (entry_keys (take EVICTION_BATCH_SIZE (least_recent w contents.entries))) contents) none
      ∙ (ap (λ (l : List (Entry K V)). after_leaving eq (entry_keys (take EVICTION_BATCH_SIZE l)) contents) (least_recent-none contents.entries)
      ∙ ap (λ (l : List (Entry K V)). after_leaving eq (entry_keys l) contents) (take-nil EVICTION_BATCH_SIZE)))

  -- a node's entry is the one that left
  pub left_is : (eq : K → K → Bool) (old new : Store K V) (id : ℕ) (e : Entry K V) → lookup (nat_eq id) old.nodes ≡ Some e → Removes eq old id new
      → contents_of new ≡ without eq (contents_of old) e.key
  left_is eq old new id e stands r =
      r.contents ∙ ap (λ x. without eq (contents_of old) x.key) (ap (λ o. unwrap_or o r.entry) (sym r.stood ∙ stands))

  -- a turn of trimming
  pub trim_turn : (eq : K → K → Bool) (limit : ℕ) (old new : Store K V) (id : ℕ) → IsFront eq old id → Removes eq old id new
      → limit < total_weight (entries_of old)
      → (most : ℕ) → after_eviction eq limit (suc most) (contents_of old) ≡ after_eviction eq limit most (contents_of new)
  trim_turn eq limit old new id f r above most =
      let left = left_is eq old new id f.entry f.stands r in
      eviction-front eq limit most f.entry f.rest (contents_of old) (contents_of new) f.first left (ap (λ c. c.entries) left ∙ f.alone) above

pub take_none : {X : Type 0} (xs : List X) → take 0 xs ≡ []
take_none [] = refl
take_none (x ∷ xs) = refl

less_one : (n : ℕ) → n ≡ suc n - 1
less_one n = grind (arith)

-- an entry left, and the others are up to further turns
pub next_turn : {X : Type 0} (batch : ℕ → X → X) (left : ℕ) (old new end : X) → 0 < left → batch left old ≡ end
    → ((most : ℕ) → batch (suc most) old ≡ batch most new) → batch (left - 1) new ≡ end
next_turn batch zero old new end h so_far turn = absurd (grind (arith, h))
next_turn batch (suc n) old new end h so_far turn = subst (λ m. batch m new ≡ end) (less_one n) (sym (turn n) ∙ so_far)

-- no further turn
pub last_turn : {K V : Type 0} (eq : K → K → Bool) (limit left : ℕ) (contents end : Contents K V) → left ≤ 0
    → after_eviction eq limit left contents ≡ end → contents ≡ end
last_turn eq limit zero contents end h so_far =
    sym (ap (λ l. after_leaving eq (entry_keys l) contents)
    (take_none (least_recent (total_weight contents.entries - limit) contents.entries))) ∙ so_far
last_turn eq limit (suc n) contents end h so_far = absurd (grind (arith, h))

-- nothing is taken of nothing
pub take_none_of : {X : Type 0} (xs : List X) → xs ≡ [] → (n : ℕ) → take n xs ≡ []
take_none_of [] none zero = refl
take_none_of [] none (suc n) = refl
take_none_of (x ∷ xs) none n = absurd (false≢true (sym (ap (λ l. is_some (Rattle.std.specs.Prelude.slice_get l 0)) none)))

-- ---- entries of a part that were idle too long

module _ {K V : Type 0} (eq : K → K → Bool) (policy : Policy) (now : ℕ) where
  -- the idle beginning of some entries
  abbrev pub idle : List (Entry K V) → List (Entry K V)
  idle entries = take_while (is_idle policy now) entries

  -- the first is part of it, or it is empty
  idle-first : (e : Entry K V) (es : List (Entry K V)) → is_idle policy now e ≡ true → idle (e ∷ es) ≡ e ∷ idle es
  idle-first e es h = take_while-cons (is_idle policy now) e es ∙ cond-true (is_idle policy now e) (e ∷ idle es) [] h

  idle-none : (e : Entry K V) (es : List (Entry K V)) → is_idle policy now e ≡ false → idle (e ∷ es) ≡ []
  idle-none e es h = take_while-cons (is_idle policy now) e es ∙ cond-false (is_idle policy now e) (e ∷ idle es) [] h

  -- where the first of these entries has left and it was idle, the others are up to further turns
  turn : (e : Entry K V) (all rest left : List (Entry K V)) (old new : Contents K V) → all ≡ e ∷ rest → left ≡ rest
      → new ≡ without eq old e.key → is_idle policy now e ≡ true → (most : ℕ)
      → after_leaving eq (entry_keys (take (suc most) (idle all))) old ≡ after_leaving eq (entry_keys (take most (idle left))) new
  turn e all rest left old new first others gone is most =
      ap (λ l. after_leaving eq (entry_keys (take (suc most) l)) old) (ap idle first ∙ idle-first e rest is)
      ∙ (ap (after_leaving eq (entry_keys (take most (idle rest)))) (sym gone)
      ∙ ap (λ l. after_leaving eq (entry_keys (take most (idle l))) new) (sym others))

  -- where it wasn't idle, or there is none, none leaves
  done : (all : List (Entry K V)) (contents : Contents K V) → idle all ≡ []
      → (most : ℕ) → after_leaving eq (entry_keys (take most (idle all))) contents ≡ contents
  done all contents none most =
      ap (λ l. after_leaving eq (entry_keys l) contents) (take_none_of (idle all) none most)

  module _ (part : Part) where
    pub idle_turn : (old new : Store K V) (id : ℕ) (f : IsFrontOf eq part old id) → Removes eq old id new
        → is_idle policy now f.entry ≡ true → (most : ℕ)
        → after_idle_of eq part policy now (suc most) (contents_of old) ≡ after_idle_of eq part policy now most (contents_of new)
    idle_turn old new id f r is most =
        let left = left_is eq old new id f.entry f.stands r in
        turn f.entry (those_of part (entries_of old)) f.rest (those_of part (entries_of new)) (contents_of old) (contents_of new) f.first
        (ap (λ c. those_of part c.entries) left ∙ f.alone) left is most

    pub idle_empty : (store : Store K V) → those_of part (entries_of store) ≡ []
        → (most : ℕ) → after_idle_of eq part policy now most (contents_of store) ≡ contents_of store
    idle_empty store none = done (those_of part (entries_of store)) (contents_of store) (ap idle none)

    pub idle_fresh : (store : Store K V) (id : ℕ) (f : IsFrontOf eq part store id) → is_idle policy now f.entry ≡ false
        → (most : ℕ) → after_idle_of eq part policy now most (contents_of store) ≡ contents_of store
    idle_fresh store id f fresh =
        done (those_of part (entries_of store)) (contents_of store) (ap idle f.first ∙ idle-none f.entry f.rest fresh)

  -- no further turn
  pub idle_end : (most : ℕ) → most ≤ 0 → (all : List (Entry K V)) (contents : Contents K V)
      → after_leaving eq (entry_keys (take most (idle all))) contents ≡ contents
  idle_end zero h all contents = ap (λ l. after_leaving eq (entry_keys l) contents) (take_none (idle all))
  idle_end (suc n) h all contents = absurd (grind (arith, h))

-- another part is as it was
pub others_stay : {K V : Type 0} (eq : K → K → Bool) (part : Part) (old new : Store K V) (id : ℕ) (f : IsFrontOf eq part old id) → Removes eq old id new
    → (other : Part) → is_of other part ≡ false → those_of other (entries_of new) ≡ those_of other (entries_of old)
others_stay eq part old new id f r other apart =
    ap (λ c. those_of other c.entries) (left_is eq old new id f.entry f.stands r)
    ∙ f.others other (differ part f.entry.part other f.here apart)
  where
    differ : (part of_it other : Part) → is_of part of_it ≡ true → is_of other part ≡ false → is_of other of_it ≡ false
    differ Probation Probation other h apart = apart
    differ Probation Protected other h apart = absurd (false≢true h)
    differ Probation Window other h apart = absurd (false≢true h)
    differ Protected Probation other h apart = absurd (false≢true h)
    differ Protected Protected other h apart = apart
    differ Protected Window other h apart = absurd (false≢true h)
    differ Window Probation other h apart = absurd (false≢true h)
    differ Window Protected other h apart = absurd (false≢true h)
    differ Window Window other h apart = apart

-- a store that is as it was
pub unmoved : {K V : Type 0} {a : Store K V} → Continues a a
unmoved = record { settings = record { keeps = refl; limit = refl; capacity = refl }; fewer = omega arith }

-- settings that are kept once, and once more
pub kept_on : {K V : Type 0} {a b c : Store K V} → KeepsSettings a b → KeepsSettings b c → KeepsSettings a c
kept_on first second =
    record {
      keeps = second.keeps ∙ first.keeps;
      limit = second.limit ∙ first.limit;
      capacity = second.capacity ∙ first.capacity;
    }

-- one continuation after another
pub continued : {K V : Type 0} {a b c : Store K V} → Continues a b → Continues b c → Continues a c
continued first second =
    record { settings = kept_on first.settings second.settings; fewer = omega (arith, first.fewer, second.fewer) }

-- a continuation, and then one with another limit
pub limited : {K V : Type 0} {a b c : Store K V} {limit : ℕ} → Continues a b → Continues (record b { protected_limit = limit }) c → (other : ℕ)
    → limit ≡ other → KeepsSettings (record a { protected_limit = other }) c
limited first second other same =
    record {
      keeps = second.settings.keeps ∙ first.settings.keeps;
      limit = second.settings.limit ∙ same;
      capacity = second.settings.capacity ∙ first.settings.capacity;
    }

-- ---- the window's nodes stand

pub then_stand : {K V : Type 0} {a b c : Store K V} → WindowStands a b → WindowStands b c → WindowStands a c
then_stand first second = record { each = λ i e stood waits. second.each i e (first.each i e stood waits) waits }

-- where a new entry enters
pub window_entered : {K V : Type 0} {eq : K → K → Bool} {old new : Store K V} {entry : Entry K V} → Enters eq old entry new → WindowStands old new
window_entered r = record { each = λ i e stood waits. r.others i (ap is_some stood) ∙ stood }

module _ {K V : Type 0} {eq : K → K → Bool} {old : Store K V} {id : ℕ} (f : IsFront eq old id) (main : is_window f.entry.part ≡ false) where
  other_node : (i : ℕ) (e : Entry K V) → lookup (nat_eq i) old.nodes ≡ Some e → is_window e.part ≡ true → nat_eq id i ≡ false
  other_node i e stood waits =
      elim (cases_Bool (nat_eq id i)) [
        | inl same ↦
            let own : f.entry ≡ e =
            some_parts f.entry e (sym f.stands ∙ (ap (λ n. lookup (nat_eq n) old.nodes) (eqb-true id i same) ∙ stood)) in
            absurd (false≢true (sym main ∙ (ap (λ e. is_window e.part) own ∙ waits)))
        | inr other ↦ other
      ]

  -- where main's first entry leaves
  pub window_left : {new : Store K V} → Removes eq old id new → WindowStands old new
  window_left r =
      record {
        each = λ i e stood waits.
            ap (lookup (nat_eq i)) r.nodes ∙ (lookup-remove_other id i old.nodes (other_node i e stood waits) ∙ stood);
      }

  -- or leaves its node to another
  pub window_replaced : {new : Store K V} {entry : Entry K V} → Replaces eq old id entry new → WindowStands old new
  window_replaced r = record { each = λ i e stood waits. r.others i (other_node i e stood waits) ∙ stood }

-- ---- entries that main gives up

module _ {K V : Type 0} (eq : K → K → Bool) (old new : Store K V) (id : ℕ) (f : IsFront eq old id) (main : is_window f.entry.part ≡ false)
    (r : Removes eq old id new) where
  -- main without its first entry
  pub main_left : main_of (entries_of old) ≡ f.entry ∷ main_of (entries_of new)
  main_left =
      ap main_of f.first
      ∙ (cond-true (not (is_window f.entry.part)) (f.entry ∷ main_of f.rest) (main_of f.rest) (ap not main)
      ∙ ap (λ l. f.entry ∷ main_of l) (sym (ap (λ c. c.entries) (left_is eq old new id f.entry f.stands r) ∙ f.alone)))

  module _ (shortfall : ℕ) (some : 0 < shortfall) where
    first_gives : least_recent shortfall (main_of (entries_of old)) ≡ f.entry ∷ least_recent (shortfall - f.entry.weight) (main_of (entries_of new))
    first_gives = ap (least_recent shortfall) main_left ∙ least_recent-cons shortfall f.entry (main_of (entries_of new)) some

    -- the others leave as before
    pub others_give : after_leaving eq (entry_keys (least_recent (shortfall - f.entry.weight) (main_of (entries_of new)))) (contents_of new)
        ≡ after_leaving eq (entry_keys (least_recent shortfall (main_of (entries_of old)))) (contents_of old)
    others_give =
        ap (after_leaving eq (entry_keys (least_recent (shortfall - f.entry.weight) (main_of (entries_of new)))))
        (left_is eq old new id f.entry f.stands r)
        ∙ sym (ap (λ es. after_leaving eq (entry_keys es) (contents_of old)) first_gives)

    -- and are noted as before
    pub others_noted : (memory : Memory) → after_displacing (record memory { displaced = after_note memory.displaced f.entry.hash })
        (least_recent (shortfall - f.entry.weight) (main_of (entries_of new)))
        ≡ after_displacing memory (least_recent shortfall (main_of (entries_of old)))
    others_noted memory = sym (ap (after_displacing memory) first_gives)
