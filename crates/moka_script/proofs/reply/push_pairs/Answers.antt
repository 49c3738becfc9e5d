use Rattle.std.proofs.Common.{ap}
use Rattle.moka_script.specs.ReplyValue.{pairs_of}
use Rattle.moka_script.proofs.ReplyLemmas.{pairs_written}
use Rattle.moka_script.proofs.reply.push_pairs.Goals as goal

pub returns : goal.returns
returns g c =
    let first = c.in-Some.field-0-0.now in
    pairs_written c.extend_from_slice-2.result c.args.text.now.items c.push_pair.new.text.items c.push_more_pairs.new.text.items
    c.extend_from_slice-2.new.self.items (first.0, first.1.now) (pairs_of c.in-Some.more.now) (pairs_of c.args.pairs.now)
    (ap pairs_of c.in-Some.ensures.cases.0) c.in_ok-push_pair.ensures c.in_ok-push_more_pairs.ensures c.extend_from_slice-2.ensures.items
