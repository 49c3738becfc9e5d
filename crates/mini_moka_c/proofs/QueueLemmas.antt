-- What a queue gets, by what the listener gets whose part it is.
use Rattle.std.proofs.Common.{◌≡◌, ◌∙◌, ◌≤◌, ◌==◌, ℕ, Bool, List, [], ◌∷◌, ◌++◌, Option, None, Some, ap, arith, if◌then◌else◌, length, nat_lt, refl, subst, sym}
use Rattle.std.proofs.Common.{true, false}
use Rattle.std.proofs.lemmas.Bool.{ltb-true}
use Rattle.std.proofs.lemmas.List.{length-append}
use Rattle.circular_buffer.specs.Buffer.{buffer}
use Rattle.moka_common.specs.Keys.{Keys}
use Rattle.moka_common.specs.Policy.{Policy}
use Rattle.moka_unsync_model.specs.CacheState.{CacheState}
use Rattle.moka_unsync_model.specs.Contents.{Contents, entry_at}
use Rattle.moka_unsync_model.specs.Told.{HearsAll, TellsExpired, TellsIf, TellsPut, TellsCleanup, TellsTaken, TellsWhatLeft, cause_at}
use Rattle.moka_unsync_model.specs.ToldCalls.{TellsInsert, TellsInvalidate, TellsLook, TellsNew, TellsRemove, kept}
use Rattle.moka_unsync_model.specs.Cleanup.{is_expired}
use Rattle.moka_unsync_model.specs.declared.entry.Entry.{Entry}
use Rattle.moka_unsync_model.specs.declared.listener.Cause.{Cause}
use Rattle.moka_unsync_model.specs.declared.listener.Cause.TheVariants as cause
use Rattle.mini_moka_c.specs.Removed.{hears_leaving, queues}
use Rattle.mini_moka_c.specs.Statistics.{one_more}
use Rattle.mini_moka_c.specs.declared.removed.Leaving.{Leaving}
use Rattle.mini_moka_c.specs.declared.removed.Removed.{Removed}
use Rattle.mini_moka_c.specs.declared.removed.RemovedQueue.{RemovedQueue}

module _ {K V L Q : Type 0} (hears : L → K → V → Cause → L → Type 0) (gets : Q → K → V → Cause → Q → Type 0) (part : L → Q)
    (turns : (a b : L) (key : K) (value : V) (cause : Cause) → hears a key value cause b → gets (part a) key value cause (part b)) where
  -- the part gets each entry
  all-gotten : (c : Cause) (told : List (Entry K V)) (a b : L) → HearsAll hears c a told b → HearsAll gets c (part a) told (part b)
  all-gotten c [] a b is = ap part is
  all-gotten c (e ∷ es) a b h = (part h.0, turns a h.0 e.key e.value c h.1, all-gotten c es h.0 b h.2)

  -- what left
  left-gotten : {Reason : Entry K V → Type 0} (c : Cause) (were are : List (Entry K V)) (a b : L) → TellsWhatLeft hears c Reason were are a b
      → TellsWhatLeft gets c Reason were are (part a) (part b)
  left-gotten c were are a b t = record { told = t.told; heard = all-gotten c t.told a b t.heard; each = t.each; reason = t.reason }

  -- what cleanup removes
  cleanup-gotten : (eq : K → K → Bool) (policy : Policy) (now : ℕ) (contents : Contents K V) (a b : L) → TellsCleanup hears eq policy now contents a b
      → TellsCleanup gets eq policy now contents (part a) (part b)
  cleanup-gotten eq policy now contents a b t = record {
    between = part t.between;
    expired = left-gotten cause.Expired _ _ a t.between t.expired;
    above = left-gotten cause.Size _ _ t.between b t.above;
  }

  -- what a put leaves
  put-gotten : (limit : Option ℕ) (stays : Bool) (new : Entry K V) (were are : List (Entry K V)) (a b : L) → TellsPut hears limit stays new were are a b
      → TellsPut gets limit stays new were are (part a) (part b)
  put-gotten limit true new were are a b t = left-gotten cause.Size (new ∷ were) are a b t
  put-gotten limit false new were are a b t =
      (part t.0, left-gotten cause.Size were are a t.0 t.1, turns t.0 b new.key new.value cause.Rejected t.2, t.3)

  -- an entry that was taken out
  taken-gotten : (policy : Policy) (now : ℕ) (other : Cause) (o : Option (Entry K V)) (a b : L) → TellsTaken hears policy now other o a b
      → TellsTaken gets policy now other o (part a) (part b)
  taken-gotten policy now other None a b is = ap part is
  taken-gotten policy now other (Some e) a b heard = turns a b e.key e.value (cause_at policy now e other) heard

  -- an entry that is expired
  expired-gotten : (policy : Policy) (now : ℕ) (o : Option (Entry K V)) (a b : L) → TellsExpired hears policy now o a b
      → TellsExpired gets policy now o (part a) (part b)
  expired-gotten policy now None a b is = ap part is
  expired-gotten policy now (Some e) a b found = on (is_expired policy now e) found
    where
      on : (x : Bool) → TellsIf hears x e a b → TellsIf gets x e (part a) (part b)
      on true heard = turns a b e.key e.value cause.Expired heard
      on false is = ap part is

  module _ {S W : Type 0} (keys : Keys K S) (old : CacheState K V S W) (now : ℕ) where
    -- what the entry leaves that is put
    new-gotten : (o : Option (Entry K V)) (key : K) (value : V) (new : CacheState K V S W) (a b : L) → TellsNew hears keys old now o key value new a b
        → TellsNew gets keys old now o key value new (part a) (part b)
    new-gotten None key value new a b put = (put.0, put.1, put-gotten _ _ _ _ _ a b put.2)
    new-gotten (Some there) key value new a b heard =
        turns a b key there.value (cause_at old.settings.policy now there cause.Replaced) heard

-- a queue gets what its listener gets
turned : {K V : Type 0} (a b : Leaving K V) (key : K) (value : V) (cause : Cause) → hears_leaving a key value cause b
    → queues a.removed key value cause b.removed
turned {K} {V} a b key value cause is = ap (λ (l : Leaving K V). l.removed) is

module _ {K V S W : Type 0} (keys : Keys K S) (old : CacheState K V S W) (now : ℕ) (a b : Leaving K V) where
  -- of a look-up
  pub look_queued : TellsLook hears_leaving keys old now a b → TellsLook queues keys old now a.removed b.removed
  look_queued = cleanup-gotten hears_leaving queues (λ l. l.removed) turned keys.eq old.settings.policy now old.contents a b

  -- of an insert
  pub insert_queued : (key : K) (value : V) (new : CacheState K V S W) → TellsInsert hears_leaving keys old now key value new a b
      → TellsInsert queues keys old now key value new a.removed b.removed
  insert_queued key value new t = record {
    between = t.between.removed;
    cleanup = cleanup-gotten hears_leaving queues (λ l. l.removed) turned keys.eq old.settings.policy now old.contents a t.between t.cleanup;
    put = new-gotten hears_leaving queues (λ l. l.removed) turned keys old now (entry_at keys.eq key
        (kept queues keys old now).entries) key value new t.between b t.put;
  }

  -- of an invalidation
  pub invalidation_queued : (key : K) → TellsInvalidate hears_leaving keys old now key a b → TellsInvalidate queues keys old now key a.removed b.removed
  invalidation_queued key t = record {
    between = t.between.removed;
    cleanup = cleanup-gotten hears_leaving queues (λ l. l.removed) turned keys.eq old.settings.policy now old.contents a t.between t.cleanup;
    taken = taken-gotten hears_leaving queues (λ l. l.removed) turned old.settings.policy now cause.Explicit _ t.between b t.taken;
  }

  -- of a removal
  pub removal_queued : (key : K) → TellsRemove hears_leaving keys old now key a b → TellsRemove queues keys old now key a.removed b.removed
  removal_queued key t = record {
    between = t.between.removed;
    cleanup = cleanup-gotten hears_leaving queues (λ l. l.removed) turned keys.eq old.settings.policy now old.contents a t.between t.cleanup;
    found = expired-gotten hears_leaving queues (λ l. l.removed) turned old.settings.policy now _ t.between b t.found;
  }

-- of the removal of all entries, or of all expired ones
pub leaving_queued : {K V : Type 0} {Reason : Entry K V → Type 0} (c : Cause) (were are : List (Entry K V)) (a b : Leaving K V)
    → TellsWhatLeft hears_leaving c Reason were are a b → TellsWhatLeft queues c Reason were are a.removed b.removed
leaving_queued c were are a b = left-gotten hears_leaving queues (λ l. l.removed) turned c were are a b

module _ {K V : Type 0} where
  -- a queue once an entry left, by whether its capacity is 0 and whether it has room
  abbrev chosen : RemovedQueue K V → Removed K V → Bool → Bool → RemovedQueue K V
  chosen queue removed is_none has_room =
      if is_none then queue
      else if has_room then record queue { kept = buffer (queue.kept.items ++ removed ∷ []) queue.kept.capacity }
      else record queue { lost = one_more queue.lost }

  -- it is within its capacity if it was
  one-within : (queue : RemovedQueue K V) (removed : Removed K V) (is_none has_room : Bool)
      → nat_lt (length queue.kept.items) queue.kept.capacity ≡ has_room → length queue.kept.items ≤ queue.kept.capacity
      → (length (chosen queue removed is_none has_room).kept.items ≤ (chosen queue removed is_none has_room).kept.capacity)
      × ((chosen queue removed is_none has_room).kept.capacity ≡ queue.kept.capacity)
  one-within queue removed true has_room is within = (within, refl)
  one-within queue removed false false is within = (within, refl)
  one-within queue removed false true is within =
      (omega (arith, length-append queue.kept.items (removed ∷ []), ltb-true (length queue.kept.items) queue.kept.capacity is), refl)

  -- and once all of some left
  pub all-within : (c : Cause) (told : List (Entry K V)) (a b : RemovedQueue K V) → HearsAll queues c a told b
      → length a.kept.items ≤ a.kept.capacity → (length b.kept.items ≤ b.kept.capacity) × (b.kept.capacity ≡ a.kept.capacity)
  all-within c [] a b is within =
      subst (λ (q : RemovedQueue K V). (length q.kept.items ≤ q.kept.capacity) × (q.kept.capacity ≡ a.kept.capacity)) (sym is) (within, refl)
  all-within c (e ∷ es) a b h within =
      let first =
      subst (λ (q : RemovedQueue K V). (length q.kept.items ≤ q.kept.capacity) × (q.kept.capacity ≡ a.kept.capacity)) (sym h.1)
      (one-within a (record { key = e.key; value = e.value; cause = c }) (a.kept.capacity == 0) (nat_lt (length a.kept.items) a.kept.capacity) refl within) in
      let rest = all-within c es h.0 b h.2 first.0 in
      (rest.0, rest.1 ∙ first.1)
