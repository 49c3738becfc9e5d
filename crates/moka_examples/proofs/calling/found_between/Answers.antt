use Rattle.std.proofs.Common.{◌≡◌, ◌++◌, ℕ, List, [], ◌∷◌, Option, Some, None, IfSome, refl, subst, ap, ◌∙◌}
use Rattle.mini_moka.specs.Common.Keys.{Keys, keys_by}
use Rattle.mini_moka.specs.Sync.CoreState.{CoreState}
use Rattle.mini_moka.specs.Sync.Reply.{Reply}
use Rattle.mini_moka.specs.Sync.Run.{Happens, RunsTo}
use Rattle.mini_moka.specs.declared.sync.engine.Event.{Event}
use Rattle.mini_moka.specs.declared.sync.engine.Reply.TheVariants.{Found}
use Rattle.moka_examples.proofs.calling.found_between.Goals as goal

-- what holds of whatever value is there
if-some : {X : Type 0} (P : X → Type 0) (o : Option X) → ((x : X) → o ≡ Some x → P x) → IfSome o P
if-some P None each = tt
if-some P (Some x) each = each x refl

module _ {K V S : Type 0} (keys : Keys K S) (weighs : K → V → ℕ → Type 0) where
  -- a run of one step is that step, with the last of the replies
  one-step : (old new : CoreState K V S) (event : Event K V) (front replies : List (Reply K V)) (reply : Reply K V)
      → RunsTo keys weighs old (event ∷ []) replies new → replies ≡ front ++ reply ∷ [] → (next : CoreState K V S)
      × Happens keys weighs old event reply next
  one-step old new event [] (r ∷ []) reply (next, step, done) are =
      let same : r ≡ reply = cc in
      (next, subst (λ told. Happens keys weighs old event told next) same step)
  one-step old new event front [] reply run are = absurd run
  one-step old new event front (r ∷ s ∷ rs) reply (next, step, more) are = absurd more
  one-step old new event (f ∷ []) (r ∷ []) reply run are = absurd (cc)
  one-step old new event (f ∷ h ∷ front) (r ∷ []) reply run are = absurd (cc)

pub returns-in-Some-Found : goal.returns-in-Some-Found
returns-in-Some-Found g c =
    let keys = keys_by (record { eq = g.K.PartialEq.eq; hash_input = g.K.Hash.hash_input }) g.S.BuildHasher g.S.Hasher.Hasher in
    let old = c.args.core.now.state in
    let mid = c.run.new.self.state in
    let look = rw (c.in_ok-look.ensures.items) at c.push_reserved.ensures.items in
    let second = rw look at c.in_ok-replies.ensures.ok in
    let last = c.in-Some-Found.ensures.items ∙ ap (λ reply. c.pop.new.self.items ++ reply ∷ []) c.in-Some-Found.field-0-is in
    let (past, runs, weighed, events, replies) =
    c.runs_are_happenings.ensures c.args.core.now.weigher _ _ _ _ c.in_ok-_replies.ensures.ok in
    if-some _ c.in-Some-Found.found (λ value found.
    let (next, step) =
    one-step keys _ mid _ _ c.pop.new.self.items c.in_ok-replies.replies.items (Found (Some value)) second
    (last ∙ ap (λ o. c.pop.new.self.items ++ Found o ∷ []) found) in (
      past,
      events,
      c.gets_answer_what_was_last_written.ensures old mid next past _ c.args.key c.args.now step.weight step.refused value
          c.in_ok-_replies.ensures.consistent runs step.step,
    ))
