use Rattle.std.proofs.Common.{◌≡◌, true, false, rules, sym, ◌∙◌, subst}
use Rattle.std.specs.List.{flat_map, list_any}
use Rattle.std.proofs.lemmas.List.Sorted.{IsNonDecreasingBy-from_sort_by_key}
use Rattle.moka_script.specs.CoreRun.{AreTold, is_refused, pairs_in}
use Rattle.moka_script.specs.Reply.{OutOfMemory, Pairs}
use Rattle.moka_script.specs.ReplyValue.{pairs_of}
use Rattle.moka_script.proofs.CoreRunLemmas.{refused_told, pairs_told, copies_told}
use Rattle.moka_script.proofs.core_lines.list.Goals as goal

pub returns-then-are_refused-clause-step : goal.returns-then-are_refused-clause-step
returns-then-are_refused-clause-step g c =
    let answers = c.in_ok-replies.replies.items in
    let refused : list_any is_refused answers ≡ true =
    subst (λ l. list_any is_refused l ≡ true) c.deref.ensures.value (sym c.are_refused.ensures ∙ c.if-are_refused.true) in
    copies_told (g.W.WeighShared.weighs c.args.core.now.weigher) c.args.core.now.state c.run.new.self.state c.args.now
    c.in_ok-events.events.items answers OutOfMemory _ _ c.in_ok-events.ensures c.in_ok-replies.ensures.ok
    (refused_told answers refused) c.in_ok-push_reply.ensures

pub returns-clause-step : goal.returns-clause-step
returns-clause-step g c =
    let answers = c.in_ok-replies.replies.items in
    let found = c.in_ok-pairs.pairs.items in
    let sorted = c.sort_unstable_by_key.new.self.items in
    let fine : list_any is_refused answers ≡ false =
    subst (λ l. list_any is_refused l ≡ false) c.deref.ensures.value (sym c.are_refused.ensures ∙ c.if-are_refused.false) in
    let all : pairs_of found ≡ flat_map pairs_in answers =
    subst (λ l. pairs_of found ≡ flat_map pairs_in l) c.deref-2.ensures.value c.in_ok-pairs.ensures in
    let told : AreTold answers (Pairs (pairs_of sorted)) =
    pairs_told answers found sorted fine all c.sort_unstable_by_key.ensures.permutation
    (IsNonDecreasingBy-from_sort_by_key (λ p. p.0) _ c.sort_unstable_by_key.ensures.sorted (λ a r q k. search rules)) in
    copies_told (g.W.WeighShared.weighs c.args.core.now.weigher) c.args.core.now.state c.run.new.self.state c.args.now
    c.in_ok-events.events.items answers (Pairs (pairs_of c.deref-3.result.now)) _ _ c.in_ok-events.ensures c.in_ok-replies.ensures.ok
    (subst (λ l. AreTold answers (Pairs (pairs_of l))) (sym c.deref-3.ensures.value) told) c.in_ok-push_reply-2.ensures
