use Rattle.std.proofs.Common.{ap, ◌∙◌}
use Rattle.moka_script.proofs.CoreRunLemmas.{next_copy, next_pair, last_pair, pair_pushed}
use Rattle.moka_script.proofs.core_lines.pairs_of.Goals as goal

pub loop-key-init : goal.loop-key-init
loop-key-init g c =
    next_copy _ _ c.args.replies.now c.loop-reply.reply-index c.reply-item.result c.rows_of-key-items.result.now
    c.loop-reply-test.true c.reply-item.is c.rows_of-key-items.ensures c.loop-reply.invariant

pub loop-key-preserved : goal.loop-key-preserved
loop-key-preserved g c =
    next_pair _ _ _ _ c.rows_of-key-items.result.now c.loop-key.key-index c.loop-key-item.result
    c.loop-key-test.true c.loop-key-item.is
    (pair_pushed c.loop-key.pairs.items c.push.new.self.items c.get.result.now c.loop-key-item.result.0 c.as_bytes.result
    c.loop-key-item.result.1.text c.in_ok-push.ensures.items c.get.ensures
    (c.as_bytes.ensures.value ∙ ap (λ s. s.text) c.get-in-loop-key.ensures))
    c.loop-key.invariant

pub loop-reply-preserved : goal.loop-reply-preserved
loop-reply-preserved g c =
    last_pair _ _ _ c.rows_of-key-items.result.now c.loop-key.key-index c.loop-key-test.false c.loop-key.invariant
