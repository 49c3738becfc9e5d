-- Replies of a script's cache come one after another, and its weighers answer what its lines say.
use Rattle.std.proofs.Common.{◌≡◌, ℕ, Bool, false, true, if◌then◌else◌, List, [], ◌∷◌, ◌++◌, map, Option, Some}
use Rattle.std.proofs.Common.{None, Result, Ok, Err, OnOk, IfOk, refl, sym, ap, ◌∙◌, subst, inl, inr}
use Rattle.std.proofs.lemmas.Bool.{false≢true}
use Rattle.std.specs.Prelude.{IsSome, IsTrue}
use Rattle.std.specs.Borrow.{Bor}
use Rattle.std.specs.List.{AllByRecursion}
use Rattle.moka_common.specs.Policy.{Policy as Limits}
use Rattle.moka_common.specs.Settings.{duration_fault, live_nanos, idle_nanos}
use Rattle.moka_common.specs.declared.error.BuildError.{BuildError}
use Rattle.moka_grammar.specs.declared.line.CacheHeader.{CacheHeader}
use Rattle.moka_grammar.specs.declared.line.CacheOptions.{CacheOptions}
use Rattle.moka_grammar.specs.declared.line.Line.{Line}
use Rattle.moka_grammar.specs.declared.line.Mode.{Mode}
use Rattle.moka_grammar.specs.declared.line.Request.{Request}
use Rattle.moka_grammar.specs.declared.line.Request.TheVariants.{Insert, Get, ContainsKey, Invalidate, Remove, InvalidateAll}
use Rattle.moka_grammar.specs.declared.line.Request.TheVariants.{Modify, RemoveExpired, InvalidateIf, Sync, Iter, EntryCount, WeightedSize, Policy}
use Rattle.moka_grammar.specs.Lines.{allows, WeightFits, RequestFits, LineFits}
use Rattle.moka_unsync.specs.declared.entry.Entry.{Entry}
use Rattle.moka_unsync.specs.Builder.{share_fault}
use Rattle.moka_unsync.specs.CacheState.{new_cache}
use Rattle.moka_unsync.specs.Insert.{IsInserted, IsRefused, Modifies, Puts}
use Rattle.moka_unsync.specs.Invalidate.{AnswersInTurn}
use Rattle.moka_unsync.specs.Shares.{adaptive, default_shares}
use Rattle.moka_unsync.specs.Step as machine
use Rattle.moka_script.specs.Reply.{Reply, Ready, Done, OutOfMemory, NoTimeToLive, reply_line}
use Rattle.moka_script.specs.ScriptKeys.{script_keys}
use Rattle.moka_script.specs.ScriptWeighers.{AnswersLine, AnswersRequest, AnswersStored}
use Rattle.moka_script.specs.Stored.{stored_text, stored_weighs}
use Rattle.moka_script.specs.UnsyncRun.{ScriptCache, TellsStep, TellsIfTimed, IsAnswered, AreUnsyncReplies, WeigherOf, HasLimits, shares_of}
use Rattle.moka_script.specs.UnsyncRun.{AreRepliesUnder, options_fault, AreUnsyncReplyLines}
use Rattle.moka_script.specs.declared.stored.Stored.{Stored}

-- where lines fit a header each is one of its mode
pub each_allowed : (header : CacheHeader) (mode : Mode) → header.mode ≡ mode → (lines : List (Line (List ℕ)))
    → AllByRecursion (LineFits header) lines → AllByRecursion (λ line. IsTrue (allows mode line.request)) lines
each_allowed header mode is [] fit = tt
each_allowed header mode is (line ∷ lines) fit =
    (subst (λ m. IsTrue (allows m line.request)) is fit.0.1, each_allowed header mode is lines fit.1)

module _ {W : Type 0} (cache new : ScriptCache W) (now : ℕ) (request : Request (List ℕ)) (before after : List ℕ) where
  -- the request is answered, and its reply written
  abbrev pub IsReplied : Type 0
  IsReplied = (reply : Reply) × IsAnswered cache now request reply new × (after ≡ before ++ reply_line reply)

  -- a request that is known, at a moment that is, is answered so
  pub replied : {X E : Type 0} (result : Result X E) (moment : ℕ) (known : Request (List ℕ)) (reply : Reply) → moment ≡ now
      → request ≡ known
      → IsAnswered cache moment known reply new → OnOk result (after ≡ before ++ reply_line reply) → OnOk result IsReplied
  replied (Err e) moment known reply same is answered text = tt
  replied (Ok x) moment known reply same is answered text = (
    reply,
    subst (λ n. IsAnswered cache n request reply new) same
        (subst (λ r. IsAnswered cache moment r reply new) (sym is) answered),
    text,
  )

module _ {P K V : Type 0} (calls : P → Bor K → Bor V → Bool → P → Type 0) (predicate : P) (says : V → Bool)
    (same : (key : Bor K) (value : Bor V) (answer : Bool) (next : P) → calls predicate key value answer next
    → (answer ≡ says value.now) × (next ≡ predicate)) where
  -- a predicate that always says the same of a value gives these answers
  pub answers_are : (entries : List (Entry K V)) (answers : List Bool) → AnswersInTurn calls predicate entries answers
      → answers ≡ map (λ e. says e.value) entries
  answers_are [] answers told = told
  answers_are (entry ∷ entries) answers (answer, next, rest, is, at, more) =
      let (said, stays) = same at.key at.value answer next at.called in
      is ∙ ap (λ a. a ∷ rest) (said ∙ ap says at.shown.1)
      ∙ ap (λ l. says entry.value ∷ l) (answers_are entries rest (subst (λ p. AnswersInTurn calls p entries rest) stays more))

-- where a weigher answers what is stored, what is put is so in the script's machine
stored_put : {W : Type 0} (weighs : W → ℕ → Stored (List ℕ) → ℕ → W → Type 0) (old new : ScriptCache W) (key : ℕ)
    (value : Stored (List ℕ)) (own : Option ℕ) (now : ℕ)
    → AnswersStored weighs key value → Puts script_keys weighs old key value own now new
    → Puts script_keys stored_weighs old key value own now new
stored_put weighs old new key value own now answers put = record {
  weight = put.weight;
  weigher = put.weigher;
  refused = put.refused;
  capacity = put.capacity;
  room = put.room;
  kept = put.kept;
  weighed = answers old.weigher put.weigher put.weight put.weighed;
  small = put.small;
  step = put.step;
}

-- so is what is modified, where a change leaves what is to be stored
pub stored_modified : {W : Type 0} (weighs : W → ℕ → Stored (List ℕ) → ℕ → W → Type 0) (changes : Stored (List ℕ) → Stored (List ℕ) → Type 0)
    (old new : ScriptCache W) (key : ℕ) (stored : Stored (List ℕ)) (now : ℕ) (there : Bool) → AnswersStored weighs key stored
    → ((before after : Stored (List ℕ)) → changes before after → after ≡ stored) → Modifies script_keys weighs changes there old key now new
    → Modifies script_keys stored_weighs (λ before after. after ≡ stored) there old key now new
unfolding stored_put
stored_modified weighs changes old new key stored now true answers leaves modified =
    let is : modified.value ≡ stored = leaves modified.entry.value modified.value modified.changed in
    record {
      entry = modified.entry;
      value = modified.value;
      found = modified.found;
      changed = is;
      put = stored_put weighs old new key modified.value None now (subst (AnswersStored weighs key) (sym is) answers) modified.put;
      same = modified.same;
    }
stored_modified weighs changes old new key stored now false answers leaves looked = looked

module _ {W : Type 0} (old new : ScriptCache W) (key : ℕ) (value : Stored (List ℕ)) (own : Option ℕ) (now : ℕ) where
  -- an insert that was made is told so
  pub insert_made : (weighs : W → ℕ → Stored (List ℕ) → ℕ → W → Type 0) → AnswersStored weighs key value
      → IsInserted script_keys weighs old key value own now new → TellsStep old (machine.Insert key value own now) Done new
  insert_made weighs answers inserted = (machine.Done, inl (refl, stored_put weighs old new key value own now answers inserted.put), refl)

  -- one that memory refused is told so
  pub insert_refused : IsRefused old new → TellsStep old (machine.Insert key value own now) OutOfMemory new
  insert_refused refused = (machine.OutOfMemory, inr (refl, refused), refl)

module _ {W D : Type 0} (old new : ScriptCache W) (request : machine.Request ℕ (Stored (List ℕ))) (reply : Reply) where
  -- in a cache with a time to live a step that is told is told
  pub tells_timed : (live : Option D) → IsSome live → TellsStep old request reply new → TellsIfTimed live old request reply new
  tells_timed (Some live) is step = step
  tells_timed None is step = absurd (false≢true is)

  -- in one without it the refusal is
  pub tells_untimed : (live : Option D) → live ≡ None → reply ≡ NoTimeToLive → new ≡ old → TellsIfTimed live old request reply new
  tells_untimed live none told same = rw none (told, same)

module _ {W : Type 0} (weighs : W → ℕ → Stored (List ℕ) → ℕ → W → Type 0) where
  -- a weigher that answers what is stored does so on a request
  stored_request : ((key : ℕ) (value : Stored (List ℕ)) → AnswersStored weighs key value) → (request : Request (List ℕ))
      → AnswersRequest weighs request
  stored_request answers (Insert key text weight live) = answers key (stored_text text weight)
  stored_request answers (Modify key text weight) = answers key (stored_text text weight)
  stored_request answers (Get key) = tt
  stored_request answers (ContainsKey key) = tt
  stored_request answers (Invalidate key) = tt
  stored_request answers (Remove key) = tt
  stored_request answers InvalidateAll = tt
  stored_request answers RemoveExpired = tt
  stored_request answers (InvalidateIf text) = tt
  stored_request answers Sync = tt
  stored_request answers Iter = tt
  stored_request answers EntryCount = tt
  stored_request answers WeightedSize = tt
  stored_request answers Policy = tt

  -- and so on each line
  pub each_stored : ((key : ℕ) (value : Stored (List ℕ)) → AnswersStored weighs key value) → (lines : List (Line (List ℕ)))
      → AllByRecursion (AnswersLine weighs) lines
  each_stored answers [] = tt
  each_stored answers (line ∷ lines) = (stored_request answers line.request, each_stored answers lines)

  -- ---- a script that is not weighed

  module _ (one : (key : ℕ) (value : Stored (List ℕ)) (old new : W) (weight : ℕ) → weighs old key value weight new
      → (weight ≡ 1) × (new ≡ old)) where
    -- a weigher that always answers 1 answers what is stored where there is no weight
    one_stored : (key : ℕ) (text : List ℕ) (weight : Option ℕ) → WeightFits false weight
        → AnswersStored weighs key (stored_text text weight)
    one_stored key text None fits = one key (stored_text text None)
    one_stored key text (Some weight) fits = absurd fits

    -- it does so on a request
    one_request : (request : Request (List ℕ)) → RequestFits false request → AnswersRequest weighs request
    one_request (Insert key text weight live) fits = one_stored key text weight fits.2
    one_request (Modify key text weight) fits = one_stored key text weight fits.2
    one_request (Get key) fits = tt
    one_request (ContainsKey key) fits = tt
    one_request (Invalidate key) fits = tt
    one_request (Remove key) fits = tt
    one_request InvalidateAll fits = tt
    one_request RemoveExpired fits = tt
    one_request (InvalidateIf text) fits = tt
    one_request Sync fits = tt
    one_request Iter fits = tt
    one_request EntryCount fits = tt
    one_request WeightedSize fits = tt
    one_request Policy fits = tt

    -- it does so on each line
    pub each_one : (header : CacheHeader) → header.options.weighed ≡ false → (lines : List (Line (List ℕ)))
        → AllByRecursion (LineFits header) lines → AllByRecursion (AnswersLine weighs) lines
    each_one header unweighed [] fit = tt
    each_one header unweighed (line ∷ lines) fit =
        (one_request line.request (subst (λ b. RequestFits b line.request) unweighed fit.0.2), each_one header unweighed lines fit.1)

-- ---- the first line

-- no shares that a script sets are at fault
pub fair_shares : (options : CacheOptions) → share_fault (shares_of options) ≡ None
fair_shares options = by options.adaptive
  where
    by : (b : Bool) → share_fault (if b then adaptive default_shares else default_shares) ≡ None
    by true = refl
    by false = refl

-- where a fact leads to another it does so for what an Ok holds
pub IfOk-map : {T E : Type 0} (result : Result T E) {P Q : T → Type 0} → ((value : T) → P value → Q value) → IfOk result P → IfOk result Q
IfOk-map (Ok value) leads p = leads value p
IfOk-map (Err e) leads p = tt

module _ (options : CacheOptions) (policy : Limits) (limits : HasLimits policy options) (lines : List (Line (List ℕ))) where
  -- the fault of the settings is that of the policy
  abbrev policy_fault : Option BuildError
  policy_fault = duration_fault (live_nanos policy) (idle_nanos policy)

  same_fault : policy_fault ≡ options_fault options
  same_fault = rw (limits.time_to_live, limits.time_to_idle) refl

  -- what is written where the policy has this fault is the text of the script
  under_fault : (fault : Option BuildError) (text : List ℕ) → policy_fault ≡ fault → AreRepliesUnder fault options lines text
      → AreUnsyncReplyLines options lines text
  under_fault fault text is written_so = subst (λ f. AreRepliesUnder f options lines text) (sym is ∙ same_fault) written_so

  -- the cache is new and of these settings, where the script is weighed so
  abbrev IsFirst : (weighed : Bool) → ScriptCache (WeigherOf weighed) → Type 0
  IsFirst weighed cache = HasLimits cache.settings.policy options ×
      (cache ≡ new_cache (record { hash_state = record {}; policy = cache.settings.policy; is_weighed = weighed }) (shares_of options) cache.weigher
      cache.capacity)

  -- the reply lines are those of the cache
  abbrev AreOf : {W : Type 0} → ScriptCache W → List ℕ → Type 0
  AreOf cache text = (replies : List ℕ) × AreUnsyncReplies cache lines replies × (text ≡ reply_line Ready ++ replies)

  -- a first cache of a script that is weighed so answers the lines
  first_answers : (weighed : Bool) (text : List ℕ) → weighed ≡ options.weighed → (cache : ScriptCache (WeigherOf weighed))
      → IsFirst weighed cache → AreOf cache text → AreRepliesUnder None options lines text
  first_answers weighed text is =
      subst (λ w. (cache : ScriptCache (WeigherOf w)) → IsFirst w cache → AreOf cache text → AreRepliesUnder None options lines text)
      (sym is)
      (λ cache first answers. (cache, answers.0, record { limits = first.0; new = first.1 }, answers.1, answers.2))

  -- a cache that is built answers the lines
  pub built : {T E : Type 0} (text_of : T → List ℕ) (result : Result T E) (weighed : Bool) (weigher : WeigherOf weighed)
      (cache : ScriptCache (WeigherOf weighed)) → weighed ≡ options.weighed
      → policy_fault ≡ None → cache ≡ new_cache (record { hash_state = record {}; policy = policy; is_weighed = weighed }) (shares_of options) weigher
      cache.capacity
      → IfOk result (λ t. AreOf cache (text_of t)) → IfOk result (λ t. AreUnsyncReplyLines options lines (text_of t))
  built text_of result weighed weigher cache is fine new answers =
      let first : IsFirst weighed (new_cache (record { hash_state = record {}; policy = policy; is_weighed = weighed }) (shares_of options) weigher
      cache.capacity) =
      (limits, refl) in
      IfOk-map result (λ t of. under_fault None (text_of t) fine
      (first_answers weighed (text_of t) is cache (subst (IsFirst weighed) (sym new) first) of)) answers
