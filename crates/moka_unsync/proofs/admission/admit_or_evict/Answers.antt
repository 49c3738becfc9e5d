use Rattle.std.proofs.Common.{◌≡◌, ◌≤◌, ◌∙◌, ◌+◌, ◌⊎◌, ℕ, Option, None, Some, arith, ap, is_some, subst, sym}
use Rattle.moka_list.proofs.IdLemmas.{some_parts}
use Rattle.moka_unsync_model.specs.Contents.{main_of, total_weight}
use Rattle.moka_unsync_model.specs.Shares.{main_limit}
use Rattle.moka_unsync_model.specs.Told.{IsAbove}
use Rattle.moka_unsync_model.specs.Window.{victims_of}
use Rattle.moka_unsync_model.proofs.ToldLemmas.{also_for, and_moved}
use Rattle.moka_store.specs.Store.{contents_of, entries_of}
use Rattle.moka_unsync.specs.Turns.{after_eviction_of, counted}
use Rattle.moka_unsync.proofs.AdmissionLemmas.{eviction_none}
use Rattle.moka_unsync.proofs.WindowLemmas.{admitted, promoted_is, rejected, rest_is}
use Rattle.moka_unsync.proofs.LeavingLemmas.{candidate_lighter, counted_above, judged_memory, promoted_among, rejected_above}
use Rattle.moka_unsync.proofs.admission.admit_or_evict.Goals.{After-victim_count-count}
use Rattle.moka_unsync.proofs.admission.admit_or_evict.Goals as goal

plus_none : (n : ℕ) → n + 0 ≡ n
plus_none n = omega arith

module _ (g : _) (c : After-victim_count-count g) where
  -- the candidate is the window's first entry
  own : c.get-candidate.result.now ≡ c.requires.entry
  own = some_parts c.get-candidate.result.now c.requires.entry (sym c.get-candidate.ensures ∙ c.requires.stands)

  -- the verdict on it is the machine's
  verdict : counted (main_of (entries_of c.args.store.now)) c.victim_count-count.result
      ≡ victims_of (Some (main_limit c.args.limits.now)) c.args.sketch.now c.requires.entry (main_of (entries_of c.args.store.now))
  verdict =
      c.victim_count-count.ensures.victims
      ∙ (λ i. victims_of (Some (c.main_limit.ensures i)) c.args.sketch.now (own i) (main_of (entries_of c.args.store.now)))

  -- and others leave only if there is no capacity for all
  above : (count : Option ℕ) → c.victim_count-count.result ≡ count → (count ≡ Some 0) ⊎ IsAbove (Some (main_limit c.args.limits.now))
      (total_weight (main_of (entries_of c.args.store.now)) + c.requires.entry.weight)
  above count is =
      subst (λ l. (count ≡ Some 0) ⊎ IsAbove (Some l) (total_weight (main_of (entries_of c.args.store.now)) + c.requires.entry.weight)) c.main_limit.ensures
      (subst (λ e. (count ≡ Some 0) ⊎ IsAbove (Some c.main_limit.result) (total_weight (main_of (entries_of c.args.store.now)) + e.weight)) own
      (subst (λ o. (o ≡ Some 0) ⊎ IsAbove (Some c.main_limit.result) (total_weight (main_of
      (entries_of c.args.store.now)) + c.get-candidate.result.now.weight)) is c.victim_count-count.ensures.above))

  -- what the candidate asks of main
  need : total_weight (main_of (entries_of c.args.store.now)) + c.requires.entry.weight ≤ total_weight (entries_of c.args.store.now)
  need = candidate_lighter c.requires.entry c.requires.rest (entries_of c.args.store.now) c.requires.first

pub move_to_probation-requires : goal.move_to_probation-requires
move_to_probation-requires g c = ap is_some (c.evict.ensures.stands.each c.args.id c.requires.entry c.requires.stands c.requires.here)

pub returns-in-Some-clause-step : goal.returns-in-Some-clause-step
returns-in-Some-clause-step g c =
    let at = (goal.at.returns-in-Some-clause-step g c).After-victim_count-count in
    let eq = g.K.PartialEq.eq in
    let laws = g.met.K.Eq.laws in
    let f = c.requires in
    let some = ap (counted (main_of (entries_of c.args.store.now))) (sym c.in-Some.is) ∙ verdict g at in
    let evicted : contents_of c.evict.new.store ≡ after_eviction_of eq c.in-Some.count (contents_of c.args.store.now) =
    sym (c.evict.ensures.step 0 ∙ eviction_none eq (contents_of c.evict.new.store))
    ∙ ap (λ n. after_eviction_of eq n (contents_of c.args.store.now)) (plus_none c.in-Some.count) in
    let judged =
    admitted eq laws c.args.limits.now c.args.sketch.now c.args.store.now c.args.id f f.once (contents_of c.move_to_probation.new.self)
    (contents_of c.evict.new.store) c.in-Some.count some evicted
    (promoted_is eq c.evict.new.store c.move_to_probation.new.self c.args.id f.entry (c.evict.ensures.stands.each c.args.id f.entry f.stands f.here)
    c.move_to_probation.ensures) in (
      f,
      judged,
      rest_is eq laws c.args.limits.now c.args.sketch.now c.args.store.now c.args.id f f.once c.move_to_probation.new.self judged,
      c.remember.ensures ∙ judged_memory c.args.memory.now _ f.entry (own g at) _ _ (verdict g at),
    )

pub returns-in-None-clause-step : goal.returns-in-None-clause-step
returns-in-None-clause-step g c =
    let at = (goal.at.returns-in-None-clause-step g c).After-victim_count-count in
    let eq = g.K.PartialEq.eq in
    let laws = g.met.K.Eq.laws in
    let f = c.requires in
    let none = ap (counted (main_of (entries_of c.args.store.now))) (sym c.in-None.is) ∙ verdict g at in
    let judged =
    rejected eq laws c.args.limits.now c.args.sketch.now c.args.store.now c.args.id f f.once c.leave.new.store none c.leave.ensures.step in (
      f,
      judged,
      rest_is eq laws c.args.limits.now c.args.sketch.now c.args.store.now c.args.id f f.once c.leave.new.store judged,
      c.remember.ensures ∙ judged_memory c.args.memory.now _ f.entry (own g at) _ _ (verdict g at),
    )

pub returns-in-Some-clause-told : goal.returns-in-Some-clause-told
returns-in-Some-clause-told g c =
    let at = (goal.at.returns-in-Some-clause-told g c).After-victim_count-count in
    and_moved (also_for (λ e some. counted_above (Some (main_limit c.args.limits.now)) c.in-Some.count _ _ (above g at (Some c.in-Some.count) c.in-Some.is)
    (need g at) some) c.evict.ensures.told)
    (promoted_among g.K.PartialEq.eq c.evict.new.store c.move_to_probation.new.self c.args.id c.move_to_probation.ensures)

pub returns-in-None-clause-told : goal.returns-in-None-clause-told
returns-in-None-clause-told g c =
    let at = (goal.at.returns-in-None-clause-told g c).After-victim_count-count in
    also_for (λ e there. rejected_above (Some (main_limit c.args.limits.now)) _ _ (above g at None c.in-None.is) (need g at)) c.leave.ensures.told
