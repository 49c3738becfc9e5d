use Rattle.std.proofs.Common.{◌≡◌, [], ◌++◌, refl, sym, ◌∙◌, append_assoc}
use Rattle.std.proofs.lemmas.List.{append-nil, nil_from_length}
use Rattle.std.specs.Vec.Iter.{into_iter_items}
use Rattle.moka_script.specs.Reply.{reply_line}
use Rattle.moka_script.specs.ReplyValue.{reply_of}
use Rattle.moka_script.proofs.SketchRunLemmas.{AreSketchReplies-cons}
use Rattle.moka_script.proofs.sketch.sketch_replies.Goals as goal

pub loop-line-preserved : goal.loop-line-preserved
loop-line-preserved g c =
    let (refused, reply_is, next_is) = c.reply_to-reply.ensures.step in
    let fit = rw c.in-Some.ensures.steps.0 at c.loop-line.invariant.fit in
    record {
      table = c.reply_to-reply.ensures.table;
      fit = fit.1;
      answered = λ rest replies.
          rw (c.in_ok-push_reply-2.ensures, append_assoc)
          (c.loop-line.invariant.answered (reply_line (reply_of c.reply_to-reply.result) ++ rest)
          (rw c.in-Some.ensures.steps.0 (AreSketchReplies-cons _ _ _ _ refused _ _ reply_is next_is replies)));
    }

pub returns : goal.returns
returns g c =
    let none : into_iter_items c.loop-line.line-iterator ≡ [] =
    nil_from_length (into_iter_items c.loop-line.line-iterator) (sym c.loop-line.line-iterator.rest.ok.0 ∙ c.in-None.ensures.steps.0) in
    rw append-nil at (c.loop-line.invariant.answered [] (rw none refl))
