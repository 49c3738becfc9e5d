-- What the replies to a script are that builds a cache for one thread: those of the cache's machine.
use Rattle.std.specs.Prelude.{◌≡◌, ℕ, Bool, true, false, List, [], ◌∷◌, ◌++◌, map, bytes_eq, Option, Some, None, option_map, if◌then◌else◌}
use Rattle.moka_common.specs.Policy.{Policy}
use Rattle.moka_common.specs.Settings.{duration_fault, live_nanos, idle_nanos}
use Rattle.moka_common.specs.declared.error.BuildError.{BuildError}
use Rattle.moka_common.specs.declared.weigh.UnitWeight.{UnitWeight}
use Rattle.moka_grammar.specs.declared.line.CacheOptions.{CacheOptions}
use Rattle.moka_grammar.specs.declared.line.Line.{Line}
use Rattle.moka_grammar.specs.declared.line.Request.{Request}
use Rattle.moka_grammar.specs.declared.line.Span.{Span}
use Rattle.moka_grammar.specs.declared.line.Request.TheVariants.{Insert, Modify, Get, ContainsKey, Invalidate, Remove, InvalidateAll}
use Rattle.moka_grammar.specs.declared.line.Request.TheVariants.{InvalidateIf, RemoveExpired, Sync, Iter, EntryCount, WeightedSize, Policy as GetPolicy}
use Rattle.moka_grammar.specs.Options.{span_nanos}
use Rattle.moka_unsync.specs.declared.entry.Entry.{Entry}
use Rattle.moka_unsync.specs.Shares.{adaptive, default_shares}
use Rattle.moka_unsync.specs.declared.shares.Shares.{Shares}
use Rattle.moka_unsync.specs.CacheState.{CacheState, new_cache}
use Rattle.moka_unsync.specs.Insert.{Modifies}
use Rattle.moka_unsync.specs.Invalidate.{expiries}
use Rattle.moka_unsync.specs.Step as machine
use Rattle.moka_script.specs.declared.keys.KeyState.{KeyState}
use Rattle.moka_script.specs.declared.stored.Stored.{Stored}
use Rattle.moka_script.specs.declared.stored.StoredWeight.{StoredWeight}
use Rattle.moka_script.specs.Reply.{Reply, reply_line}
use Rattle.moka_script.specs.Reply as telling
use Rattle.moka_script.specs.ScriptKeys.{script_keys}
use Rattle.moka_script.specs.Stored.{stored_text, stored_weighs}

-- ---- a line

-- a cache of numbers and texts, each text with its weight
abbrev pub ScriptCache : Type 0 → Type 0
ScriptCache W = CacheState ℕ (Stored (List ℕ)) KeyState W

-- whether the text of each entry is this one, an answer an entry
abbrev pub have_text : List ℕ → List (Entry ℕ (Stored (List ℕ))) → List Bool
have_text text entries = map (λ e. bytes_eq e.value.text text) entries

-- how an answer of the machine is told
abbrev pub told : machine.Answer ℕ (Stored (List ℕ)) → Reply
told (machine.Found found) = telling.Found (option_map (λ s. s.text) found)
told (machine.Truth truth) = telling.Truth truth
told machine.Done = telling.Done
told machine.OutOfMemory = telling.OutOfMemory
told (machine.Pairs pairs) = telling.Pairs (map (λ p. (p.0, p.1.text)) pairs)
told (machine.Number number) = telling.Number number

module _ {W : Type 0} where
  -- the machine makes a step, and its answer is told
  abbrev pub TellsStep : ScriptCache W → machine.Request ℕ (Stored (List ℕ)) → Reply → ScriptCache W → Type 0
  TellsStep old request reply new =
      (answer : machine.Answer ℕ (Stored (List ℕ))) × machine.IsStep script_keys stored_weighs old request answer new ×
      (reply ≡ told answer)

  -- the machine makes a step in a cache that has this time to live; one without is left as it is, and the refusal is told
  abbrev pub TellsIfTimed : {D : Type 0} → Option D → ScriptCache W → machine.Request ℕ (Stored (List ℕ)) → Reply → ScriptCache W → Type 0
  TellsIfTimed (Some live) old request reply new = TellsStep old request reply new
  TellsIfTimed None old request reply new = (reply ≡ telling.NoTimeToLive) × (new ≡ old)

  -- what an insert of this is answered, and the cache after it: one with a time to live of its own wants a cache that has one
  abbrev pub TellsInsert : ScriptCache W → ℕ → Stored (List ℕ) → Option Span → ℕ → Reply → ScriptCache W → Type 0
  TellsInsert old key stored None now reply new = TellsStep old (machine.Insert key stored None now) reply new
  TellsInsert old key stored (Some live) now reply new =
      TellsIfTimed old.settings.policy.time_to_live old (machine.Insert key stored (Some (span_nanos live)) now) reply new

  -- what a modification to this is answered, and the cache after it
  abbrev pub TellsModified : ScriptCache W → ℕ → Stored (List ℕ) → ℕ → Reply → ScriptCache W → Type 0
  TellsModified old key stored now reply new =
      (there : Bool) × Modifies script_keys stored_weighs (λ before after. after ≡ stored) there old key now new × (reply ≡ telling.Truth there)

  -- what a request at a moment is answered, and the cache after it; a cache for one thread is not asked to sync
  abbrev pub IsAnswered : ScriptCache W → ℕ → Request (List ℕ) → Reply → ScriptCache W → Type 0
  IsAnswered old now (Insert key text weight live) reply new = TellsInsert old key (stored_text text weight) live now reply new
  IsAnswered old now (Modify key text weight) reply new = TellsModified old key (stored_text text weight) now reply new
  IsAnswered old now (Get key) reply new = TellsStep old (machine.Get key now) reply new
  IsAnswered old now (ContainsKey key) reply new = TellsStep old (machine.ContainsKey key now) reply new
  IsAnswered old now (Invalidate key) reply new = TellsStep old (machine.Invalidate key now) reply new
  IsAnswered old now (Remove key) reply new = TellsStep old (machine.Remove key now) reply new
  IsAnswered old now InvalidateAll reply new = TellsStep old machine.InvalidateAll reply new
  IsAnswered old now RemoveExpired reply new = TellsStep old (machine.InvalidateEntriesIf (expiries script_keys old now)) reply new
  IsAnswered old now (InvalidateIf text) reply new =
      TellsStep old (machine.InvalidateEntriesIf (have_text text old.contents.entries)) reply new
  IsAnswered old now Sync reply new = ⊥
  IsAnswered old now Iter reply new = TellsStep old (machine.Iterate now) reply new
  IsAnswered old now EntryCount reply new = TellsStep old machine.EntryCount reply new
  IsAnswered old now WeightedSize reply new = TellsStep old machine.WeightedSize reply new
  IsAnswered old now GetPolicy reply new = (reply ≡ telling.Limits old.settings.policy) × (new ≡ old)

  -- ---- lines

  -- a line for each request, with the cache's reply
  abbrev pub AreUnsyncReplies : ScriptCache W → List (Line (List ℕ)) → List ℕ → Type 0
  AreUnsyncReplies cache [] text = text ≡ []
  AreUnsyncReplies cache (line ∷ lines) text =
      (reply : Reply) × (next : ScriptCache W) × (rest : List ℕ)
      × IsAnswered cache line.now line.request reply next
      × (text ≡ reply_line reply ++ rest)
      × AreUnsyncReplies next lines rest

-- the type of the weigher, by whether the script is weighed: what is stored says its weight, or each entry weighs 1
abbrev pub WeigherOf : Bool → Type 0
WeigherOf true = StoredWeight
WeigherOf false = UnitWeight

-- the policy has the limits of the settings
pub record HasLimits (policy : Policy) (options : CacheOptions) : Type 0 where
  pub max_capacity : policy.max_capacity ≡ options.max
  pub time_to_live : live_nanos policy ≡ option_map span_nanos options.live
  pub time_to_idle : idle_nanos policy ≡ option_map span_nanos options.idle

-- the shares of the window and of protected: the default ones, or those with which a window that adapts begins
abbrev pub shares_of : CacheOptions → Shares
shares_of options = if options.adaptive then adaptive default_shares else default_shares

-- the cache is a new one with these settings
pub record IsFirstCache {W : Type 0} (options : CacheOptions) (cache : ScriptCache W) : Type 0 where
  pub limits : HasLimits cache.settings.policy options
  pub new : cache ≡ new_cache (record { hash_state = record {}; policy = cache.settings.policy; is_weighed = options.weighed }) (shares_of options)
      cache.weigher cache.capacity

-- what is written where the settings have this fault or none: that they are refused, and nothing more; or the reply lines
abbrev pub AreRepliesUnder : Option BuildError → CacheOptions → List (Line (List ℕ)) → List ℕ → Type 0
AreRepliesUnder (Some fault) options lines text = text ≡ reply_line (telling.Refused fault)
AreRepliesUnder None options lines text =
    (cache : ScriptCache (WeigherOf options.weighed)) × (replies : List ℕ)
    × IsFirstCache options cache × AreUnsyncReplies cache lines replies × (text ≡ reply_line telling.Ready ++ replies)

-- the first fault of the settings: a duration that is too long
abbrev pub options_fault : CacheOptions → Option BuildError
options_fault options = duration_fault (option_map span_nanos options.live) (option_map span_nanos options.idle)

-- the reply lines of a script that builds a cache
abbrev pub AreUnsyncReplyLines : CacheOptions → List (Line (List ℕ)) → List ℕ → Type 0
AreUnsyncReplyLines options lines text = AreRepliesUnder (options_fault options) options lines text
