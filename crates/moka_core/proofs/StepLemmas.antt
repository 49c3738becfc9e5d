-- What a core's answer is by the definitions.
use Rattle.std.proofs.Common.{◌≡◌, ◌≢◌, ◌<◌, ◌≤◌, ℕ, ◌+◌, Bool, true, false, cond, nat_eq, nat_lt}
use Rattle.std.proofs.Common.{List, [], ◌∷◌, length, count_by, Option, Some, None, refl, ap}
use Rattle.std.proofs.Common.{◌∙◌, inl, inr, arith}
use Rattle.std.specs.Bool.{MatchBool}
use Rattle.std.specs.Map.{lookup, remove_entry}
use Rattle.std.specs.Option.{is_some}
use Rattle.std.proofs.lemmas.Bool.{cases_Bool, lt-ltb, false_from_ne_true, ltb-true}
use Rattle.moka_sync_model.proofs.ListLemmas.{count-cons}
use Rattle.moka_common.specs.Keys.{Keys}
use Rattle.moka_sync_model.specs.declared.constants.TheConstants.{CALLER, READ_LOG_SIZE, SHARDS, WRITE_LOG_SIZE}
use Rattle.moka_sync_model.specs.declared.event.Event.TheVariants.{Push, Forget}
use Rattle.moka_sync_model.specs.declared.event.Reply.TheVariants.{Rows, OutOfMemory, NotPossible}
use Rattle.moka_sync_model.specs.declared.operation.Operation.{Operation}
use Rattle.moka_sync_model.specs.declared.operation.Operation.TheVariants.{Reading, Writing}
use Rattle.moka_sync_model.specs.Consistent.{IsConsistent}
use Rattle.moka_sync_model.specs.Event.{IsForgetting, IsPush}
use Rattle.moka_sync_model.specs.Reply.{Reply}
use Rattle.moka_sync_model.specs.Run.{Happens}
use Rattle.moka_sync_model.specs.CoreState.{CoreState, pending_of, without_pending}
use Rattle.moka_sync_model.specs.MapStep.{IsCopy, OnlyReplies}

module _ {K V S : Type 0} (keys : Keys K S) (core : CoreState K V S) (shard : ℕ) where
  -- what a copy of these pairs replies, by whether there is a shard of the number
  abbrev Copies : List (K × V) → Bool → Reply K V → Type 0
  Copies pairs refused reply =
      MatchBool (nat_lt shard SHARDS) (IsCopy keys core pairs refused reply core) (OnlyReplies keys core NotPossible reply core)

  pub copied : shard < SHARDS → (pairs rows : List (K × V)) → rows ≡ pairs → Copies pairs false (Rows rows)
  copied below pairs rows is = rw (lt-ltb shard SHARDS below) (by pairs rows is)
    where
      by : (pairs rows : List (K × V)) → rows ≡ pairs → IsCopy keys core pairs false (Rows rows) core
      by [] rows is = (ap Rows is, refl)
      by (pair ∷ pairs) rows is = (ap Rows is, refl)

  pub copy_refused : shard < SHARDS → (pairs : List (K × V)) → pairs ≢ [] → Copies pairs true OutOfMemory
  copy_refused below pairs some = rw (lt-ltb shard SHARDS below) (by pairs some)
    where
      by : (pairs : List (K × V)) → pairs ≢ [] → IsCopy keys core pairs true OutOfMemory core
      by [] some = absurd (some refl)
      by (pair ∷ pairs) some = (refl, refl)

  pub copy_not_possible : (shard < SHARDS → ⊥) → (pairs : List (K × V)) (refused : Bool) → Copies pairs refused NotPossible
  copy_not_possible above pairs refused =
      rw (false_from_ne_true (nat_lt shard SHARDS) (λ below. above (ltb-true shard SHARDS below))) (refl, refl)

-- ---- what is pending once it is pushed or forgotten

-- nothing is there where nothing was found
pub none_found : {X : Type 0} (found : Option X) → false ≡ is_some found → found ≡ None
none_found None is = refl
none_found (Some x) is = cc

-- none is looked up where none passes
none_of : {X : Type 0} (test : ℕ → Bool) (es : List (ℕ × X)) → count_by (λ e. test e.0) es ≡ 0 → lookup test es ≡ None
none_of test [] none = refl
none_of {X} test (e ∷ es) none =
    elim (cases_Bool (test e.0)) [
      | inl passes ↦
          let counted : 1 + count_by (λ (p : ℕ × X). test p.0) es ≡ 0 = rw (count-cons (λ (p : ℕ × X). test p.0) e es, passes) at none in
          absurd (omega (arith, counted))
      | inr fails ↦
          let counted : 0 + count_by (λ (p : ℕ × X). test p.0) es ≡ 0 = rw (count-cons (λ (p : ℕ × X). test p.0) e es, fails) at none in
          rw fails (none_of test es (omega (arith, counted)))
    ]

-- none is looked up once the only one that passes has left
gone : {X : Type 0} (test : ℕ → Bool) (es : List (ℕ × X)) → count_by (λ e. test e.0) es ≤ 1 → lookup test (remove_entry test es) ≡ None
gone test [] once = refl
gone {X} test (e ∷ es) once =
    elim (cases_Bool (test e.0)) [
      | inl passes ↦ rw passes (none_of test es (omega (arith, counted true passes)))
      | inr fails ↦ rw (fails, fails) (gone test es (omega (arith, counted false fails)))
    ]
  where
    counted : (b : Bool) → test e.0 ≡ b → cond b 1 0 + count_by (λ (p : ℕ × X). test p.0) es ≤ 1
    counted b is = rw (count-cons (λ (p : ℕ × X). test p.0) e es, is) at once

module _ {K V S : Type 0} (keys : Keys K S) (weighs : K → V → ℕ → Type 0) (old new : CoreState K V S) (good : IsConsistent keys old)
    (reply : Reply K V) (possible : reply ≡ NotPossible → ⊥) where
  left : new.pending ≡ without_pending CALLER old → pending_of CALLER new ≡ None
  left is = ap (lookup (nat_eq CALLER)) is ∙ gone (nat_eq CALLER) old.pending (good.queues.callers_apart CALLER)

  -- a push that was possible leaves nothing pending
  pub pushed_leaves_none : Happens keys weighs old (Push CALLER) reply new → pending_of CALLER new ≡ None
  pushed_leaves_none h = by (pending_of CALLER old) h.step
    where
      by : (operation : Option Operation) → IsPush keys old CALLER operation reply new → pending_of CALLER new ≡ None
      by None p = absurd (possible p.0)
      by (Some (Reading read)) p =
          elim (cases_Bool (nat_lt (length old.read_log) READ_LOG_SIZE)) [
            | inl room ↦ left (ap (λ c. c.pending) (rw room at p).1)
            | inr full ↦ left (ap (λ c. c.pending) (rw full at p).1)
          ]
      by (Some (Writing write)) p =
          elim (cases_Bool (nat_lt (length old.write_log) WRITE_LOG_SIZE)) [
            | inl room ↦ left (ap (λ c. c.pending) (rw room at p).1)
            | inr full ↦ absurd (possible (rw full at p).0)
          ]

  -- nor does a read that is forgotten
  pub forgetting_leaves_none : Happens keys weighs old (Forget CALLER) reply new → pending_of CALLER new ≡ None
  forgetting_leaves_none h = by (pending_of CALLER old) h.step
    where
      by : (operation : Option Operation) → IsForgetting keys old CALLER operation reply new → pending_of CALLER new ≡ None
      by None p = absurd (possible p.0)
      by (Some (Reading read)) p = left (ap (λ c. c.pending) p.1)
      by (Some (Writing write)) p = absurd (possible p.0)
