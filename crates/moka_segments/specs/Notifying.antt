-- What a session's listener is told: of each entry that leaves in a visit of the session, with its cause, and of nothing else.
use Rattle.std.specs.Prelude.{◌≡◌, ℕ, zero, suc, ⊤, Bool, true, List, [], ◌∷◌, Option, Some, None}
use Rattle.moka_common.specs.Keys.{Keys}
use Rattle.moka_unsync_model.specs.declared.listener.Cause.{Cause}
use Rattle.moka_unsync_model.specs.declared.listener.Cause.TheVariants.{Expired, Explicit}
use Rattle.moka_unsync_model.specs.CacheState.{CacheState}
use Rattle.moka_unsync_model.specs.Cleanup.{is_expired}
use Rattle.moka_unsync_model.specs.Step.{Answer, Request, ContainsKey, Done, Get, Insert, Invalidate, InvalidateAll, InvalidateEntriesIf, Miss, Remove}
use Rattle.moka_unsync_model.specs.Told.{TellsWhatLeft}
use Rattle.moka_unsync_model.specs.ToldCalls.{TellsInsert, TellsInvalidate, TellsLook, TellsRemove}
use Rattle.moka_row.specs.Visits.{Lists, at}
use Rattle.moka_segments.specs.declared.plan.Plan.{Plan}
use Rattle.moka_segments.specs.Plan.{place_of}
use Rattle.moka_segments.specs.Builder.{Builder}
use Rattle.moka_segments.specs.History.{Knows, Log, Visit}
use Rattle.moka_segments.specs.Put.{put_answer}
use Rattle.moka_segments.specs.Session.{Cache}

-- a cache, and the listener of which each session gets a clone
pub record NotifyingCache (S L : Type 0) : Type 0 where
  pub cache : Cache S
  pub listener : L

-- a builder, and the listener that its cache is to have
pub record NotifyingBuilder (W L : Type 0) : Type 0 where
  pub builder : Builder W
  pub listener : L

module _ {L K V S W : Type 0} (hears : L → K → V → Cause → L → Type 0) (keys : Keys K S) where
  -- an insert tells of what leaves in it, and a refused one of nothing
  abbrev pub TellsInserted : CacheState K V S W → K → V → ℕ → Answer K V → CacheState K V S W → L → L → Type 0
  TellsInserted old key value now Done new before after = TellsInsert hears keys old now key value new before after
  TellsInserted old key value now answer new before after = after ≡ before

  -- a call tells of what leaves in it: what cleanup removes, what the call removes or replaces, and what gives way to a new entry or is not let in
  abbrev pub TellsCall : CacheState K V S W → Request K V → Answer K V → CacheState K V S W → L → L → Type 0
  TellsCall old (Get key now) answer new before after = TellsLook hears keys old now before after
  TellsCall old (ContainsKey key now) answer new before after = TellsLook hears keys old now before after
  TellsCall old (Miss hash now) answer new before after = TellsLook hears keys old now before after
  TellsCall old (Insert key value own now) answer new before after = TellsInserted old key value now answer new before after
  TellsCall old (Invalidate key now) answer new before after = TellsInvalidate hears keys old now key before after
  TellsCall old (Remove key now) answer new before after = TellsRemove hears keys old now key before after
  TellsCall old InvalidateAll answer new before after = TellsWhatLeft hears Explicit (λ e. ⊤) old.contents.entries [] before after
  TellsCall old (InvalidateEntriesIf answers) answer new before after =
      TellsWhatLeft hears Explicit (λ e. ⊤) old.contents.entries new.contents.entries before after
  TellsCall old request answer new before after = after ≡ before

  -- the calls of a visit tell one after another
  abbrev pub TellsVisit : Visit K V S W → L → L → Type 0
  TellsVisit [] before after = after ≡ before
  TellsVisit (call ∷ earlier) before after =
      (between : L) × TellsVisit earlier before between × TellsCall call.before call.request call.answer call.after between after

  -- the visit that stands last in a history tells
  abbrev pub TellsLast : Log K V S W → L → L → Type 0
  TellsLast [] before after = ⊥
  TellsLast (visit ∷ earlier) before after = TellsVisit visit.1 before after

  -- the visit that stands last in the history of a key's segment tells
  pub record TellsAt (plan : Plan S) (key : K) (knows : Knows K V S W) (before after : L) : Type 0 where
    pub last : TellsLast (at knows.seen (place_of plan keys key)) before after

  -- the visits that stand last in the histories of so many segments tell, one segment after another
  abbrev pub TellsEach : Lists (ℕ × Visit K V S W) → ℕ → L → L → Type 0
  TellsEach seen zero before after = after ≡ before
  TellsEach seen (suc count) before after = (between : L) × TellsEach seen count before between × TellsLast (at seen count) between after

  -- a visit that removed what was expired then tells of that
  abbrev pub TellsSwept : ℕ → Visit K V S W → L → L → Type 0
  TellsSwept now [] before after = ⊥
  TellsSwept now (call ∷ earlier) before after =
      TellsWhatLeft hears Expired (λ e. is_expired call.before.settings.policy now e ≡ true) call.before.contents.entries call.after.contents.entries
      before after

  -- so does the one that stands last in a history
  abbrev pub TellsSweptLast : ℕ → Log K V S W → L → L → Type 0
  TellsSweptLast now [] before after = ⊥
  TellsSweptLast now (visit ∷ earlier) before after = TellsSwept now visit.1 before after

  -- and the ones in the histories of so many segments, one segment after another
  abbrev pub TellsEachSwept : ℕ → Lists (ℕ × Visit K V S W) → ℕ → L → L → Type 0
  TellsEachSwept now seen zero before after = after ≡ before
  TellsEachSwept now seen (suc count) before after =
      (between : L) × TellsEachSwept now seen count before between × TellsSweptLast now (at seen count) between after

  -- the insert of a value that was made tells, if there was one
  abbrev pub TellsIfPut : CacheState K V S W → K → ℕ → Option (V × Bool) → CacheState K V S W → L → L → Type 0
  TellsIfPut old key now None new before after = after ≡ before
  TellsIfPut old key now (Some put) new before after = TellsInserted old key put.0 now (put_answer put.1) new before after
