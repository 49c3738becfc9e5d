use Rattle.std.proofs.Common.{◌≡◌, [], ◌++◌, refl, sym, ◌∙◌, append_assoc}
use Rattle.std.proofs.lemmas.List.{append-nil, nil_from_length}
use Rattle.std.specs.Vec.Iter.{into_iter_items}
use Rattle.moka_script.specs.Reply.{reply_line}
use Rattle.moka_script.proofs.unsync.replies_of.Goals as goal

pub loop-line-init : goal.loop-line-init
loop-line-init g c =
    let all : into_iter_items c.into_iter-line-iterator.result ≡ c.args.lines.items = c.into_iter-line-iterator.ensures.into_iter_gives.0 in
    record {
      ready = c.requires.ready;
      weighs = rw all c.requires.weighs;
      allowed = rw all c.requires.allowed;
      answered = λ rest replies. (rest, rw all at replies, rw (c.in_ok-push_reply.ensures, c.new-text.ensures.items) refl);
    }

pub loop-line-preserved : goal.loop-line-preserved
loop-line-preserved g c =
    let (reply, answered, text_is) = c.in_ok-reply_to.ensures.step in
    let weighs = rw c.in-Some.ensures.steps.0 at c.loop-line.invariant.weighs in
    let allowed = rw c.in-Some.ensures.steps.0 at c.loop-line.invariant.allowed in
    record {
      ready = c.in_ok-reply_to.ensures.ready;
      weighs = weighs.1;
      allowed = allowed.1;
      answered = λ rest replies.
          rw (text_is, append_assoc)
          (c.loop-line.invariant.answered (reply_line reply ++ rest)
          (rw c.in-Some.ensures.steps.0 (reply, c.reply_to.new.cache, rest, answered, refl, replies)));
    }

pub returns : goal.returns
returns g c =
    let none : into_iter_items c.loop-line.line-iterator ≡ [] =
    nil_from_length (into_iter_items c.loop-line.line-iterator) (sym c.loop-line.line-iterator.rest.ok.0 ∙ c.in-None.ensures.steps.0) in
    rw append-nil at (c.loop-line.invariant.answered [] (rw none refl))
