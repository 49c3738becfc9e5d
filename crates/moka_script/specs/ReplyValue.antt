-- What a reply tells, whatever lends it. No public clause cites this module.
use Rattle.std.specs.Prelude.{ℕ, List, map, option_map}
use Rattle.std.specs.Borrow.{Bor}
use Rattle.moka_script.specs.declared.reply.ReplyValue.{ReplyValue}
use Rattle.moka_script.specs.declared.reply.ReplyValue.TheVariants as value
use Rattle.moka_script.specs.Reply.{Reply, Ready, Refused, Done, Found, Truth, Number, Pairs, Limits}
use Rattle.moka_script.specs.Reply.{OutOfMemory, TicketsUsedUp, NoTimeToLive, Discarded, At, NotPossible}

-- the pairs of keys and texts, whatever lends the texts
abbrev pub pairs_of : List (ℕ × Bor (List ℕ)) → List (ℕ × List ℕ)
pairs_of pairs = map (λ p. (p.0, p.1.now)) pairs

-- what a reply tells
abbrev pub reply_of : ReplyValue → Reply
reply_of value.Ready = Ready
reply_of (value.Refused error) = Refused error
reply_of value.Done = Done
reply_of (value.Found text) = Found (option_map (λ t. t.now) text)
reply_of (value.Truth truth) = Truth truth
reply_of (value.Number number) = Number number
reply_of (value.Pairs pairs) = Pairs (pairs_of pairs.now)
reply_of (value.Limits policy) = Limits policy.now
reply_of value.OutOfMemory = OutOfMemory
reply_of value.TicketsUsedUp = TicketsUsedUp
reply_of value.NoTimeToLive = NoTimeToLive
reply_of value.Discarded = Discarded
reply_of (value.At phase) = At phase
reply_of value.NotPossible = NotPossible
