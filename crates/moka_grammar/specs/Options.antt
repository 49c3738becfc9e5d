-- What a contract sees of the settings of a cache: how the first line of a script spells them.
use Rattle.std.specs.Prelude.{ℕ, ◌^◌, ◌<◌, ◌*◌, ◌&&◌, not, Bool, true, false, List, [], ◌∷◌, ◌++◌, codes, Option, Some, None, IfSome, is_none}
use Rattle.std.specs.Fmt.{decimal}
use Rattle.moka_grammar.specs.declared.line.Span.{Span}
use Rattle.moka_grammar.specs.declared.line.Span.TheVariants.{Seconds, Nanos}
use Rattle.moka_grammar.specs.declared.line.CacheOptions.{CacheOptions}
use Rattle.moka_grammar.specs.declared.line.Mode.{Mode}
use Rattle.moka_grammar.specs.declared.line.Mode.TheVariants.{Recorded, Sync, Unsync}

-- how many nanoseconds a span has
abbrev pub span_nanos : Span → ℕ
span_nanos (Seconds count) = count * 1_000_000_000
span_nanos (Nanos count) = count

-- the word of a span: its number, and its unit at once behind it
abbrev pub span_word : Span → List ℕ
span_word (Seconds count) = decimal count ++ codes "s"
span_word (Nanos count) = decimal count ++ codes "ns"

-- the words of a setting, where there is one: its name and its value
abbrev pub option_words : {X : Type 0} → List ℕ → (X → List ℕ) → Option X → List (List ℕ)
option_words name word None = []
option_words name word (Some value) = name ∷ word value ∷ []

-- the word of a setting that has no value, where it is made
abbrev pub flag_words : List ℕ → Bool → List (List ℕ)
flag_words name true = name ∷ []
flag_words name false = []

-- the words of settings, in their order
abbrev pub options_words : CacheOptions → List (List ℕ)
options_words options =
    option_words (codes "max") decimal options.max
    ++ (option_words (codes "live") span_word options.live
    ++ (option_words (codes "idle") span_word options.idle
    ++ (flag_words (codes "weighed") options.weighed
    ++ (flag_words (codes "adaptive") options.adaptive
    ++ option_words (codes "tickets") decimal options.tickets))))

-- the number can be spelled
abbrev pub NumberFits : ℕ → Type 0
NumberFits n = n < 2 ^ 64

-- the span holds what can be spelled
abbrev pub SpanFits : Span → Type 0
SpanFits (Seconds count) = count < 2 ^ 64
SpanFits (Nanos count) = count < 2 ^ 64

-- the settings hold what can be spelled
abbrev pub OptionsFit : CacheOptions → Type 0
OptionsFit options =
    IfSome options.max NumberFits × IfSome options.live SpanFits × IfSome options.idle SpanFits × IfSome options.tickets NumberFits

-- whether a script of calls to a cache of this mode can begin with the settings: only the cache of a record has its first tickets set, and only the cache for
-- one thread adapts
abbrev pub can_have : Mode → CacheOptions → Bool
can_have Recorded options = not options.adaptive
can_have Sync options = is_none options.tickets && not options.adaptive
can_have Unsync options = is_none options.tickets
