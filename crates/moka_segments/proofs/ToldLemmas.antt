-- What a session finds that was told of another's write.
use Rattle.std.proofs.Common.{◌≡◌, ℕ, ◌∙◌, ◌∷◌, [], ◌++◌, append_assoc, Option, Some, None, Ok, ap, subst, sym}
use Rattle.std.specs.Cmp.{IsEquivalence}
use Rattle.std.specs.Prelude.{option_map}
use Rattle.moka_common.specs.declared.error.OutOfMemory as error
use Rattle.moka_common.specs.Keys.{Keys}
use Rattle.moka_unsync_model.specs.Step.{Insert, Done}
use Rattle.moka_unsync_model.specs.History.{exchanges}
use Rattle.moka_row.specs.Visits.{at}
use Rattle.moka_row.specs.Kept.{Hears}
use Rattle.moka_segments.specs.declared.plan.Plan.{Plan}
use Rattle.moka_segments.specs.Plan.{place_of}
use Rattle.moka_segments.specs.Rules.{Rules}
use Rattle.moka_segments.specs.History.{Knows, Log, calls, rest, value_written}
use Rattle.moka_segments.specs.Calls.{Makes}
use Rattle.moka_segments.specs.Tells.{FindsTold, Gets, TellsClone}
use Rattle.moka_segments.proofs.LawLemmas.{some_is}
use Rattle.moka_segments.proofs.OwnLemmas.{spared_visits, written}

module _ {K V S W : Type 0} (keys : Keys K S) (weighs : W → K → V → ℕ → W → Type 0) (rules : Rules K V) (plan : Plan S) where
  -- v writes and is u then; a is told of it and is b then; b reads and is w then
  pub finds_told : IsEquivalence keys.eq → (is_clone : V → V → Type 0) (v u a b w : Knows K V S W) (key : K) (value : V) (now : ℕ) (found : Option V)
      → Makes keys weighs rules plan v (place_of plan keys key) (Insert key value None now) Done u → Hears a u.seen b
      → Gets keys weighs rules plan is_clone b key now (Ok found) w
      → FindsTold keys weighs rules plan is_clone a.by v.by key value found w
  finds_told laws is_clone v u a b w key value now found m heard got =
      let i = place_of plan keys key in
      let first = m.made in
      let second = got.made.made in
      let earlier : Log K V S W = first.visit.since ++ at v.seen i in
      let more : Log K V S W = (heard.learns i).0 in
      let here : at b.seen i ≡ more ++ (v.by, first.call ∷ []) ∷ earlier = (heard.learns i).1 ∙ ap (λ (l : Log K V S W). more ++ l) first.visit.seen in
      let between : Log K V S W = second.visit.since ++ more in
      let whole : second.visit.since ++ at b.seen i ≡ between ++ (v.by, first.call ∷ []) ∷ earlier =
      ap (λ (l : Log K V S W). second.visit.since ++ l) here ∙ sym (append_assoc second.visit.since more ((v.by, first.call ∷ []) ∷ earlier)) in
      let past : rest (at w.seen i) ≡ between ++ (v.by, first.call ∷ []) ∷ earlier = ap rest second.visit.seen ∙ whole in
      let wrote : value_written keys key (exchanges (calls ((v.by, first.call ∷ []) ∷ earlier))) ≡ Some value = written keys laws key value None now first.call
      (calls earlier) first.asked first.answered in
      record {
        write = first.call ∷ [];
        read = second.call ∷ [];
        between = between;
        earlier = earlier;
        seen = second.visit.seen ∙ (λ k. (heard.same.2 k, second.call ∷ []) ∷ whole k);
        told = λ copy is spares.
            let told : TellsClone {E = error.OutOfMemory} is_clone got.found (Ok (Some copy)) = subst
            (λ f. TellsClone {E = error.OutOfMemory} is_clone got.found (Ok f)) is got.told in
            let current = got.hit told.0 told.1 in
            let now_written : value_written keys key (exchanges (calls (rest (at w.seen i)))) ≡ Some told.0 = ap (option_map
            (λ write. write.value)) current.1 ∙ ap Some current.2 in
            let last : value_written keys key (exchanges (calls (rest (at w.seen i)))) ≡ Some value =
            ap (λ (l : Log K V S W). value_written keys key (exchanges (calls l))) past
            ∙ (spared_visits keys key between ((v.by, first.call ∷ []) ∷ earlier) spares ∙ wrote) in
            subst (λ x. is_clone x copy) (sym (some_is value told.0 (sym last ∙ now_written))) told.2;
      }
