-- What a session finds that was told of another's history.
use Rattle.std.proofs.Common.{◌≡◌, ◌∙◌, ◌++◌, ℕ, Option, Ok, ap, append_assoc, subst, sym}
use Rattle.moka_common.specs.declared.error.OutOfMemory as error
use Rattle.moka_common.specs.Keys.{Keys}
use Rattle.moka_unsync_model.specs.History.{IsCurrent, exchanges}
use Rattle.moka_row.specs.Visits.{GoesOn, at}
use Rattle.moka_segments.specs.declared.plan.Plan.{Plan}
use Rattle.moka_segments.specs.History.{Knows, Log, calls, rest}
use Rattle.moka_segments.specs.Plan.{place_of}
use Rattle.moka_segments.specs.Rules.{Rules}
use Rattle.moka_segments.specs.Tells.{FindsFromNote, Gets, TellsClone}

pub finds_from_note : {K V S W : Type 0} (keys : Keys K S) (weighs : W → K → V → ℕ → W → Type 0) (rules : Rules K V) (plan : Plan S)
    (is_clone : V → V → Type 0) (mid new : Knows K V S W) (key : K) (now : ℕ) (copy : Option V) (told : Log K V S W)
    → GoesOn told (at mid.seen (place_of plan keys key)) → Gets keys weighs rules plan is_clone mid key now (Ok copy) new
    → FindsFromNote keys weighs rules plan is_clone told key now copy
finds_from_note keys weighs rules plan is_clone mid new key now copy told (more, goes) gets =
    let visit = gets.made.made.visit in
    let log : rest (at new.seen (place_of plan keys key)) ≡ (visit.since ++ more) ++ told =
    ap rest visit.seen ∙ (ap (λ l. visit.since ++ l) goes ∙ sym (append_assoc visit.since more told)) in
    record {
      since = visit.since ++ more;
      current = λ x is.
          let (value, found, cloned) = subst (λ o. TellsClone {E = error.OutOfMemory} is_clone gets.found (Ok o)) is gets.told in
          (value, cloned, subst (λ l. IsCurrent keys plan.policy now (exchanges (calls l)) key value) log (gets.hit value found));
    }
