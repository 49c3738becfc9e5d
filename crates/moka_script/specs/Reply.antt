-- What a contract sees of the replies of scripts: what is told on a line, and how it is written.
use Rattle.std.specs.Prelude.{ℕ, Bool, true, false, List, [], ◌∷◌, ◌++◌, map, codes, Option, Some, None}
use Rattle.std.specs.Fmt.{decimal}
use Rattle.std.specs.List.{join_with_byte}
use Rattle.moka_common.specs.declared.error.BuildError.{BuildError}
use Rattle.moka_common.specs.Error.{build_error_text}
use Rattle.moka_common.specs.Policy.{Policy}
use Rattle.moka_sync_model.specs.declared.phase.Phase.{Phase}
use Rattle.moka_sync_model.specs.declared.phase.Phase.TheVariants as phase
use Rattle.moka_grammar.specs.Spelling.{line_feed, space}
use Rattle.moka_common.specs.Settings.{live_nanos, idle_nanos}

-- what is told on a line: of a first one, that its cache is there, or why it is not
pub data Reply : Type 0 where
  Ready : Reply
  Refused : BuildError → Reply
  Done : Reply
  Found : Option (List ℕ) → Reply
  Truth : Bool → Reply
  Number : ℕ → Reply
  Pairs : List (ℕ × List ℕ) → Reply
  Limits : Policy → Reply
  OutOfMemory : Reply
  TicketsUsedUp : Reply
  NoTimeToLive : Reply
  Discarded : Reply
  At : Phase → Reply
  NotPossible : Reply

-- a pair as it is written: its key, and its text
abbrev pub pair_words : ℕ × List ℕ → List ℕ
pair_words pair = decimal pair.0 ++ codes "=" ++ pair.1

-- pairs as they are written: with one space between two, or that there are none
abbrev pub pairs_words : List (ℕ × List ℕ) → List ℕ
pairs_words [] = codes "empty"
pairs_words (pair ∷ pairs) = join_with_byte space (map pair_words (pair ∷ pairs))

-- a limit, where there is one
abbrev pub limit_words : Option ℕ → List ℕ
limit_words None = codes "-"
limit_words (Some limit) = decimal limit

-- a duration in nanoseconds, where there is one
abbrev pub nanos_words : Option ℕ → List ℕ
nanos_words None = codes "-"
nanos_words (Some nanos) = decimal nanos ++ codes "ns"

-- the limits of a cache, each with its name
abbrev pub policy_words : Policy → List ℕ
policy_words policy =
    codes "max " ++ limit_words policy.max_capacity
    ++ (codes " live " ++ nanos_words (live_nanos policy))
    ++ (codes " idle " ++ nanos_words (idle_nanos policy))

-- the name of a phase of a maintenance
abbrev pub phase_word : Phase → List ℕ
phase_word phase.Idle = codes "idle"
phase_word phase.ReadCount = codes "read-count"
phase_word phase.Reads = codes "reads"
phase_word phase.ReadApply = codes "read-apply"
phase_word phase.WriteCount = codes "write-count"
phase_word phase.Writes = codes "writes"
phase_word phase.Apply = codes "apply"
phase_word phase.Scan = codes "scan"
phase_word phase.Removing = codes "removing"
phase_word phase.Enter = codes "enter"
phase_word phase.Sketch = codes "sketch"
phase_word phase.MoreReads = codes "more-reads"
phase_word phase.MoreWrites = codes "more-writes"
phase_word phase.ExpireWrite = codes "expire-write"
phase_word phase.ExpireAccess = codes "expire-access"
phase_word phase.Evict = codes "evict"
phase_word phase.Publish = codes "publish"

-- the one spelling of a reply
abbrev pub reply_words : Reply → List ℕ
reply_words Ready = codes "ready"
reply_words (Refused error) = codes "refused " ++ build_error_text error
reply_words Done = codes "ok"
reply_words (Found (Some text)) = codes "some " ++ text
reply_words (Found None) = codes "none"
reply_words (Truth true) = codes "true"
reply_words (Truth false) = codes "false"
reply_words (Number number) = decimal number
reply_words (Pairs pairs) = pairs_words pairs
reply_words (Limits policy) = policy_words policy
reply_words OutOfMemory = codes "refused memory"
reply_words TicketsUsedUp = codes "refused tickets"
reply_words NoTimeToLive = codes "refused time-to-live"
reply_words Discarded = codes "discarded"
reply_words (At phase) = codes "at " ++ phase_word phase
reply_words NotPossible = codes "not possible"

-- the line of a reply, with its end
abbrev pub reply_line : Reply → List ℕ
reply_line reply = reply_words reply ++ line_feed ∷ []

-- all that is written where the line of this number is the first bad one
abbrev pub bad_line : ℕ → List ℕ
bad_line number = codes "bad line " ++ decimal number ++ line_feed ∷ []
