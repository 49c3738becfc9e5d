use Rattle.std.proofs.Common.{◌≡◌, ◌≤◌, ◌+◌, [], ◌∷◌, ◌++◌, append_assoc, arith, length, refl, sym, ◌∙◌, subst}
use Rattle.std.proofs.lemmas.List.{append-nil, nil_from_length}
use Rattle.std.specs.Vec.{vec_capacity, vec_len}
use Rattle.std.specs.Vec.Iter.{into_iter_items}
use Rattle.moka_common.specs.Keys.{Keys, keys_by}
use Rattle.moka_unsync.specs.Runs.{AreServed}
use Rattle.moka_unsync.proofs.RunLemmas.{runs-append}
use Rattle.moka_unsync.proofs.runs.run.Goals as goal

pub loop-call-preserved : goal.loop-call-preserved
loop-call-preserved g c =
    let keys : Keys g.row.K.Denot g.row.S.Denot =
    keys_by (record { eq = g.K.PartialEq.eq; hash_input = g.K.Hash.hash_input }) g.S.BuildHasher g.S.Hasher.Hasher in
    let (asked, answered, runs_so, serves) = c.reply_to.ensures.step in
    let items = c.in-Some.ensures.steps.0 in
    let room : vec_len c.loop-call.replies + length (c.in-Some.call ∷ into_iter_items c.next.new.self) ≤ vec_capacity c.loop-call.replies =
    subst (λ calls. vec_len c.loop-call.replies + length calls ≤ vec_capacity c.loop-call.replies) items c.loop-call.invariant.room in
    record {
      ready = c.reply_to.ensures.ready;
      room = rw (c.push_reserved.ensures.len, c.push_reserved.ensures.capacity) (grind (arith, room));
      served = λ requests answers end rest runs are.
          rw (c.push_reserved.ensures.items, append_assoc)
          (c.loop-call.invariant.served (asked ++ requests) (answered ++ answers) end (c.reply_to.result ∷ rest)
          (runs-append keys g.W.Weigh.weighs c.loop-call.cache c.reply_to.new.cache end asked requests answered answers runs_so runs)
          (subst (λ calls. AreServed calls (asked ++ requests) (answered ++ answers) (c.reply_to.result ∷ rest)) (sym items)
          (asked, answered, c.reply_to.result, requests, answers, rest, refl, refl, refl, serves, are)));
    }

pub returns-clause-ok : goal.returns-clause-ok
returns-clause-ok g c =
    let none : into_iter_items c.loop-call.call-iterator ≡ [] =
    nil_from_length (into_iter_items c.loop-call.call-iterator) (sym c.loop-call.call-iterator.rest.ok.0 ∙ c.in-None.ensures.steps.0) in
    rw append-nil at
    (c.loop-call.invariant.served [] [] c.loop-call.cache [] (refl, refl)
    (subst (λ calls. AreServed calls [] [] []) (sym none) (refl, refl, refl)))
