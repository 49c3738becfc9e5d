-- Steps of a core script, one after another, and the copies of all shards.
use Rattle.std.proofs.Common.{◌≡◌, ℕ, ◌+◌, ◌-◌, ◌<◌, ◌≤◌, suc, true, false, List, [], ◌∷◌, ◌++◌}
use Rattle.std.proofs.Common.{map, length, drop, get_or, refl, sym, ap, ◌∙◌, subst, arith, append_assoc, add-one, drop-cons}
use Rattle.std.specs.Borrow.{Bor}
use Rattle.std.specs.List.{flat_map, list_any}
use Rattle.std.specs.List.Sorted.{IsNonDecreasing, IsNonDecreasingBy, IsPermutation}
use Rattle.std.proofs.lemmas.List.{drop_all, get_or-map, length-map, map-append}
use Rattle.std.proofs.lemmas.List.Sorted.{IsPermutation-map}
use Rattle.moka_sync_model.specs.declared.event.Event.{Event}
use Rattle.moka_sync_model.specs.CoreState.{CoreState}
use Rattle.moka_sync_model.specs.CoreCall.{numbers_from}
use Rattle.moka_sync_model.specs.Reply.{Reply as Answer}
use Rattle.moka_sync_model.specs.Run.{Happens, RunsTo}
use Rattle.moka_common.specs.Keys.{Keys}
use Rattle.moka_grammar.specs.declared.line.CoreLine.{CoreLine}
use Rattle.moka_script.specs.declared.stored.Stored.{Stored}
use Rattle.moka_script.specs.FirstCore.{ScriptCore}
use Rattle.moka_script.specs.declared.core_lines.Action.{Action}
use Rattle.moka_script.specs.declared.core_lines.Action.TheVariants.{Iterate}
use Rattle.moka_script.specs.CoreRun.{ScriptEvent, ScriptAnswer, AreReplies, AreTold, Does, action_at, copies, is_refused, pairs_in}
use Rattle.moka_script.specs.Reply.{Reply, OutOfMemory, Pairs, reply_line}
use Rattle.moka_script.specs.ReplyValue.{pairs_of}
use Rattle.moka_script.specs.ScriptKeys.{script_keys}

-- the numbers up to an end are the first and those behind it
numbers_from-next : (first end : ℕ) → first < end → numbers_from first (end - first) ≡ first ∷ numbers_from (first + 1) (end - (first + 1))
numbers_from-next first end below =
    let left : end - first ≡ suc (end - (first + 1)) = omega arith in
    ap (numbers_from first) left ∙ ap (λ n. first ∷ numbers_from n (end - (first + 1))) (sym (add-one first))

-- one more is made of the numbers up to an end
pub made_push : {E : Type 0} (make : ℕ → E) (items new all : List E) (first end : ℕ) → first < end → new ≡ items ++ make first ∷ []
    → items ++ map make (numbers_from first (end - first)) ≡ all → new ++ map make (numbers_from (first + 1) (end - (first + 1))) ≡ all
made_push make items new all first end below pushed rest =
    let behind = map make (numbers_from (first + 1) (end - (first + 1))) in
    ap (λ l. l ++ behind) pushed ∙ append_assoc items (make first ∷ []) behind
    ∙ ap (λ l. items ++ map make l) (sym (numbers_from-next first end below)) ∙ rest

-- the last of one is that one
last_of_one : {X : Type 0} (front : List X) (last one : X) → front ++ last ∷ [] ≡ one ∷ [] → last ≡ one
last_of_one [] last one e = cc
last_of_one (x ∷ []) last one e = absurd cc
last_of_one (x ∷ y ∷ front) last one e = absurd cc

module _ {K V S : Type 0} (keys : Keys K S) (weighs : K → V → ℕ → Type 0) where
  -- a list of one step has one reply, and happens
  one_step : (old new : CoreState K V S) (e : Event K V) (replies : List (Answer K V)) → RunsTo keys weighs old (e ∷ []) replies new
      → (reply : Answer K V) × (replies ≡ reply ∷ []) × Happens keys weighs old e reply new
  one_step old new e [] runs = absurd runs
  one_step old new e (reply ∷ next ∷ replies) runs = absurd runs.2
  one_step old new e (reply ∷ []) (next, happens, same) = (reply, refl, subst (Happens keys weighs old e reply) (sym same) happens)

  -- the last reply to a list of one step is the step's
  pub last_step : (old new : CoreState K V S) (events : List (Event K V)) (e : Event K V) (replies front : List (Answer K V))
      (reply : Answer K V)
      → RunsTo keys weighs old events replies new → events ≡ e ∷ [] → replies ≡ front ++ reply ∷ []
      → Happens keys weighs old e reply new
  last_step old new events e replies front reply runs one last =
      let (found, is, happens) = one_step old new e replies (subst (λ l. RunsTo keys weighs old l replies new) one runs) in
      subst (λ r. Happens keys weighs old e r new) (sym (last_of_one front reply found (sym last ∙ is))) happens

module _ {W : Type 0} (weighs : W → ℕ → Stored (List ℕ) → ℕ → Type 0) where
  -- one line's reply in front of those to the others, by a weigher that stays
  pub AreReplies-cons : (first now : W) (old next : ScriptCore) (line : CoreLine (List ℕ)) (all lines : List (CoreLine (List ℕ)))
      (reply : Reply) (rest : List ℕ)
      → now ≡ first → all ≡ line ∷ lines → Does (weighs now) old (action_at line.now line.request) reply next
      → AreReplies (weighs first) next lines rest → AreReplies (weighs first) old all (reply_line reply ++ rest)
  AreReplies-cons first now old next line all lines reply rest stays is does more =
      subst (λ l. AreReplies (weighs first) old l (reply_line reply ++ rest)) (sym is)
      (reply, next, rest, subst (λ w. Does (weighs w) old (action_at line.now line.request) reply next) stays does, refl, more)

  -- no lines have no replies
  pub AreReplies-nil : (first : W) (core : ScriptCore) (lines : List (CoreLine (List ℕ))) → lines ≡ []
      → AreReplies (weighs first) core lines []
  AreReplies-nil first core lines none = subst (λ l. AreReplies (weighs first) core l []) (sym none) refl

  -- the same replies to the same lines
  pub AreReplies-same : (first : W) (core : ScriptCore) (some all : List (CoreLine (List ℕ))) (text : List ℕ) → some ≡ all
      → AreReplies (weighs first) core some text → AreReplies (weighs first) core all text
  AreReplies-same first core some all text are replies = subst (λ l. AreReplies (weighs first) core l text) are replies

-- ---- copies

-- keys with their texts
abbrev pub texts_of : List (ℕ × Stored (List ℕ)) → List (ℕ × List ℕ)
texts_of pairs = map (λ p. (p.0, p.1.text)) pairs

-- the pairs of the next copy come in front of those of the others
pub next_copy : (before all : List (ℕ × List ℕ)) (answers : List ScriptAnswer) (i : ℕ) (answer : ScriptAnswer)
    (pairs : List (ℕ × Stored (List ℕ)))
    → i < length answers → answer ≡ get_or answers i answer → texts_of pairs ≡ pairs_in answer
    → before ++ flat_map pairs_in (drop i answers) ≡ all
    → before ++ (texts_of pairs ++ flat_map pairs_in (drop (i + 1) answers)) ≡ all
next_copy before all answers i answer pairs below there texts rest =
    let opened : drop i answers ≡ answer ∷ drop (i + 1) answers =
    drop-cons answers i answer below ∙ ap (λ a. a ∷ drop (suc i) answers) (sym there)
    ∙ ap (λ n. answer ∷ drop n answers) (sym (add-one i)) in
    ap (λ l. before ++ (l ++ flat_map pairs_in (drop (i + 1) answers))) texts
    ∙ ap (λ l. before ++ flat_map pairs_in l) (sym opened) ∙ rest

-- one more pair of a copy is taken
pub next_pair : (before after behind all : List (ℕ × List ℕ)) (pairs : List (ℕ × Stored (List ℕ))) (i : ℕ) (pair : ℕ × Stored (List ℕ))
    → i < length pairs → pair ≡ get_or pairs i pair → after ≡ before ++ (pair.0, pair.1.text) ∷ []
    → before ++ (texts_of (drop i pairs) ++ behind) ≡ all → after ++ (texts_of (drop (i + 1) pairs) ++ behind) ≡ all
next_pair before after behind all pairs i pair below there taken rest =
    let opened : drop i pairs ≡ pair ∷ drop (i + 1) pairs =
    drop-cons pairs i pair below ∙ ap (λ p. p ∷ drop (suc i) pairs) (sym there) ∙ ap (λ n. pair ∷ drop n pairs) (sym (add-one i)) in
    ap (λ l. l ++ (texts_of (drop (i + 1) pairs) ++ behind)) taken
    ∙ append_assoc before ((pair.0, pair.1.text) ∷ []) (texts_of (drop (i + 1) pairs) ++ behind)
    ∙ ap (λ l. before ++ (texts_of l ++ behind)) (sym opened) ∙ rest

-- all pairs of a copy are taken
pub last_pair : (before behind all : List (ℕ × List ℕ)) (pairs : List (ℕ × Stored (List ℕ))) (i : ℕ) → length pairs ≤ i
    → before ++ (texts_of (drop i pairs) ++ behind) ≡ all → before ++ behind ≡ all
last_pair before behind all pairs i end rest = ap (λ l. before ++ (texts_of l ++ behind)) (sym (drop_all i pairs end)) ∙ rest

-- a copy that was refused is told
pub refused_told : (answers : List ScriptAnswer) → list_any is_refused answers ≡ true → AreTold answers OutOfMemory
refused_told answers refused = rw refused refl

-- the numbers of a mapped list fall no more than they did
IsNonDecreasing-map : {X : Type 0} (n : X → ℕ) (xs : List X) → IsNonDecreasingBy n xs → IsNonDecreasing (map n xs)
IsNonDecreasing-map n [] up i j d le lt = absurd (omega arith)
IsNonDecreasing-map n (x ∷ xs) up i j d le lt =
    let below : j < length (x ∷ xs) = omega (arith, lt, length-map (x ∷ xs) n) in
    omega (arith, get_or-map n (x ∷ xs) i x d (omega (arith, le, below)), get_or-map n (x ∷ xs) j x d below, up i j x le below)

-- the keys are those of the pairs as they are lent
same_keys : (pairs : List (ℕ × Bor (List ℕ))) → map (λ p. p.0) (pairs_of pairs) ≡ map (λ p. p.0) pairs
same_keys [] = refl
same_keys (pair ∷ pairs) = ap (λ l. pair.0 ∷ l) (same_keys pairs)

-- one more pair is lent
pub pair_pushed : (old new : List (ℕ × Bor (List ℕ))) (k key : ℕ) (lent : Bor (List ℕ)) (text : List ℕ) → new ≡ old ++ (k, lent) ∷ []
    → k ≡ key → lent.now ≡ text → pairs_of new ≡ pairs_of old ++ (key, text) ∷ []
pair_pushed old new k key lent text pushed key_is text_is =
    ap pairs_of pushed ∙ map-append (λ p. (p.0, p.1.now)) old ((k, lent) ∷ [])
    ∙ ap (λ n. pairs_of old ++ (n, lent.now) ∷ []) key_is ∙ ap (λ t. pairs_of old ++ (key, t) ∷ []) text_is

-- pairs that are sorted by key are told
pub pairs_told : (answers : List ScriptAnswer) (found sorted : List (ℕ × Bor (List ℕ))) → list_any is_refused answers ≡ false
    → pairs_of found ≡ flat_map pairs_in answers → IsPermutation found sorted → IsNonDecreasingBy (λ p. p.0) sorted
    → AreTold answers (Pairs (pairs_of sorted))
pairs_told answers found sorted fine all moved up =
    let moves : IsPermutation (flat_map pairs_in answers) (pairs_of sorted) =
    subst (λ l. IsPermutation l (pairs_of sorted)) all (IsPermutation-map (λ p. (p.0, p.1.now)) found sorted moved) in
    let rise : IsNonDecreasing (map (λ p. p.0) (pairs_of sorted)) =
    subst IsNonDecreasing (sym (same_keys sorted)) (IsNonDecreasing-map (λ p. p.0) sorted up) in
    rw fine (pairs_of sorted, moves, rise, refl)

-- ---- a line

module _ (weighs : ℕ → Stored (List ℕ) → ℕ → Type 0) where
  -- what an action is answered, under another name of it
  pub told_so : (old new : ScriptCore) (action known : Action ScriptEvent) (reply : Reply) (before after : List ℕ) → known ≡ action
      → Does weighs old known reply new → after ≡ before ++ reply_line reply
      → (r : Reply) × Does weighs old action r new × (after ≡ before ++ reply_line r)
  told_so old new action known reply before after is does text =
      (reply, subst (λ a. Does weighs old a reply new) is does, text)

  -- copies of all shards are told
  pub copies_told : (old new : ScriptCore) (now : ℕ) (events : List ScriptEvent) (answers : List ScriptAnswer) (reply : Reply)
      (before after : List ℕ)
      → events ≡ copies now → RunsTo script_keys weighs old events answers new → AreTold answers reply
      → after ≡ before ++ reply_line reply → (r : Reply) × Does weighs old (Iterate now) r new × (after ≡ before ++ reply_line r)
  copies_told old new now events answers reply before after is runs told text =
      (reply, (answers, subst (λ e. RunsTo script_keys weighs old e answers new) is runs, told), text)
