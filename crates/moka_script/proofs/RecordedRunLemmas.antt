-- Replies of a record come one after another.
use Rattle.std.proofs.Common.{◌≡◌, ℕ, List, [], ◌∷◌, ◌++◌, refl, sym, subst}
use Rattle.moka_grammar.specs.declared.line.Line.{Line}
use Rattle.moka_script.specs.declared.stored.Stored.{Stored}
use Rattle.moka_script.specs.RecordedRun.{ScriptRecord, IsAnswered, AreReplies}
use Rattle.moka_script.specs.Reply.{Reply, reply_line}

module _ {W : Type 0} (A : Type 0) (weighs : W → ℕ → Stored (List ℕ) → ℕ → Type 0) where
  -- one line's reply in front of those to the others, by a weigher that stays
  pub AreReplies-cons : (first now : W) (old next : ScriptRecord A) (line : Line (List ℕ)) (all lines : List (Line (List ℕ)))
      (reply : Reply) (rest : List ℕ)
      → now ≡ first → all ≡ line ∷ lines → IsAnswered A (weighs now) old line.now line.request reply next
      → AreReplies A (weighs first) next lines rest → AreReplies A (weighs first) old all (reply_line reply ++ rest)
  AreReplies-cons first now old next line all lines reply rest stays is answered more =
      subst (λ l. AreReplies A (weighs first) old l (reply_line reply ++ rest)) (sym is)
      (reply, next, rest, subst (λ w. IsAnswered A (weighs w) old line.now line.request reply next) stays answered, refl, more)

  -- no lines have no replies
  pub AreReplies-nil : (first : W) (record' : ScriptRecord A) (lines : List (Line (List ℕ))) → lines ≡ []
      → AreReplies A (weighs first) record' lines []
  AreReplies-nil first record' lines none = subst (λ l. AreReplies A (weighs first) record' l []) (sym none) refl

  -- the same replies of the same record to the same lines
  pub AreReplies-same : (first : W) (old new : ScriptRecord A) (some all : List (Line (List ℕ))) (text : List ℕ) → old ≡ new → some ≡ all
      → AreReplies A (weighs first) old some text → AreReplies A (weighs first) new all text
  AreReplies-same first old new some all text is are replies =
      subst (λ r. AreReplies A (weighs first) r all text) is (subst (λ l. AreReplies A (weighs first) old l text) are replies)
