use Rattle.std.proofs.Common.{◌≡◌, ℕ, List, ◌++◌, IfOk, subst}
use Rattle.moka_script.specs.RecordedRun.{AreReplies}
use Rattle.moka_script.specs.Reply.{Ready, reply_line}
use Rattle.moka_script.proofs.recorded.replies_of.Goals as goal

pub returns : goal.returns
returns g c =
    let core = c.args.core in
    let by_weigher = subst (λ w. IfOk c.replies_on.result (λ text. (replies : List ℕ)
    × AreReplies g.row.A.Denot (g.W.WeighShared.weighs w) c.new-cache.result.state c.args.lines.items replies
    × (text.items ≡ reply_line Ready ++ replies))) c.new-cache.ensures.weigher c.replies_on.ensures in
    subst (λ state. IfOk c.replies_on.result (λ text. (replies : List ℕ)
    × AreReplies g.row.A.Denot (g.W.WeighShared.weighs core.weigher) state c.args.lines.items replies
    × (text.items ≡ reply_line Ready ++ replies))) c.new-cache.ensures.state by_weigher
