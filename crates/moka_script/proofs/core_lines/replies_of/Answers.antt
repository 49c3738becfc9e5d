use Rattle.std.proofs.Common.{◌≡◌, [], ◌++◌, refl, sym, ap, ◌∙◌, subst, append_assoc}
use Rattle.std.proofs.lemmas.List.{append-nil, nil_from_length}
use Rattle.std.specs.Vec.Iter.{into_iter_items}
use Rattle.moka_script.specs.Reply.{Ready, reply_line}
use Rattle.moka_script.proofs.CoreRunLemmas.{AreReplies-cons, AreReplies-nil, AreReplies-same}
use Rattle.moka_script.proofs.core_lines.replies_of.Goals as goal

pub loop-line-init : goal.loop-line-init
loop-line-init g c =
    let all : into_iter_items c.into_iter-line-iterator.result ≡ c.args.lines.items = c.into_iter-line-iterator.ensures.into_iter_gives.0 in
    record {
      ready = c.requires.ready;
      weigher = refl;
      answered = λ rest replies. (
        rest,
        AreReplies-same g.W.WeighShared.weighs c.args.core.now.weigher c.args.core.now.state
            (into_iter_items c.into_iter-line-iterator.result) c.args.lines.items rest all replies,
        ap (λ t. t ++ rest) (c.in_ok-push_reply.ensures ∙ ap (λ t. t ++ reply_line Ready) c.new-text.ensures.items),
      );
    }

pub loop-line-preserved : goal.loop-line-preserved
loop-line-preserved g c =
    let (reply, does, text_is) = c.in_ok-reply_to.ensures.step in
    record {
      ready = subst g.W.WeighShared.ready (sym c.in_ok-reply_to.ensures.weigher) c.loop-line.invariant.ready;
      weigher = c.in_ok-reply_to.ensures.weigher ∙ c.loop-line.invariant.weigher;
      answered = λ rest replies.
          let (all, answers, whole) = c.loop-line.invariant.answered (reply_line reply ++ rest)
          (AreReplies-cons g.W.WeighShared.weighs c.args.core.now.weigher c.loop-line.core.weigher
          c.loop-line.core.state c.reply_to.new.core.state _ _ _ reply rest
          c.loop-line.invariant.weigher c.in-Some.ensures.steps.0 does replies) in
          (all, answers, ap (λ t. t ++ rest) text_is ∙ append_assoc c.loop-line.text.items (reply_line reply) rest ∙ whole);
    }

pub returns : goal.returns
returns g c =
    let none : into_iter_items c.loop-line.line-iterator ≡ [] =
    nil_from_length (into_iter_items c.loop-line.line-iterator) (sym c.loop-line.line-iterator.rest.ok.0 ∙ c.in-None.ensures.steps.0) in
    let (all, answers, whole) = c.loop-line.invariant.answered []
    (AreReplies-nil g.W.WeighShared.weighs c.args.core.now.weigher c.loop-line.core.state
    (into_iter_items c.loop-line.line-iterator) none) in
    (all, answers, sym (append-nil _) ∙ whole)
