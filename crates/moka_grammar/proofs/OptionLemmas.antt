-- The words of settings are read as those settings.
use Rattle.std.proofs.Common.{◌≡◌, ◌≢◌, ℕ, ◌-◌, List, [], ◌∷◌, ◌++◌, length, take, codes, Bool, true, false, cond, Option}
use Rattle.std.proofs.Common.{Some, None, option_map, refl, sym, ap, ◌∙◌, subst, inl, inr, arith, length-append}
use Rattle.std.specs.Prelude.{MatchOption, IfSome}
use Rattle.std.specs.Borrow.{Bor}
use Rattle.std.specs.Char.{is_ascii_digit}
use Rattle.std.specs.Fmt.{decimal}
use Rattle.std.specs.List.{AllByRecursion, list_all}
use Rattle.std.specs.Str.{bytes_eq}
use Rattle.std.proofs.Math.Seq.{take-append_seam}
use Rattle.std.proofs.lemmas.Fmt.{digits_decimal}
use Rattle.std.proofs.lemmas.List.{append-nil}
use Rattle.std.proofs.lemmas.Option.{cond_some, same_Some, some_pair_parts}
use Rattle.std.proofs.lemmas.Slice.Eq.{bytes_eq-Decides}
use Rattle.moka_grammar.specs.declared.line.Span.{Span}
use Rattle.moka_grammar.specs.declared.line.Span.TheVariants.{Seconds, Nanos}
use Rattle.moka_grammar.specs.declared.line.CacheOptions.{CacheOptions}
use Rattle.moka_grammar.specs.Options.{span_word, option_words, flag_words, options_words, NumberFits, SpanFits, OptionsFit}
use Rattle.moka_grammar.specs.Reading.{no_argument, number_of}
use Rattle.moka_grammar.specs.ReadingOptions.{front_of, span_before, span_of, option_of, flag_of, options_of}
use Rattle.moka_grammar.proofs.CutLemmas.{bind_some}
use Rattle.moka_grammar.proofs.ArgumentLemmas.{chosen, no_argument-found}
use Rattle.moka_grammar.proofs.NumberLemmas.{digits_model, number_of-decimal, number_of-found}
use Rattle.moka_grammar.proofs.WordLemmas.{IsWord, IsWord-decimal, IsWord-name, IsWord-append, are_words-append, and_parts}

-- ---- the front of a word

-- what is found in front of an end has that end behind it
front_of-found : (end word front : List ℕ) → front_of end word ≡ Some front → word ≡ front ++ end
unfolding front_of
front_of-found end word front e =
    let start = take (length word - length end) word in
    let found = cond_some (bytes_eq word (start ++ end)) start front e in
    (bytes_eq-Decides word (start ++ end)).0 found.0 ∙ ap (λ l. l ++ end) found.1

-- what has an end behind it is found in front of that
front_of-front : (end word front : List ℕ) → word ≡ front ++ end → front_of end word ≡ Some front
unfolding front_of
front_of-front end word front e =
    let count : length word - length end ≡ length front = omega (arith, ap length e, length-append front end) in
    let start : take (length word - length end) word ≡ front = ap (λ n. take n word) count ∙ ap (take (length front)) e
    ∙ take-append_seam front end in
    rw (start, (bytes_eq-Decides word (front ++ end)).1 e) refl

-- a test that fails gives nothing
refused : {A : Type 0} (b : Bool) (x : A) → b ≢ true → cond b (Some x) None ≡ None
refused true x never = absurd (never refl)
refused false x never = refl

-- nothing is found in front of an end that isn't there
front_of-none : (end word : List ℕ) → ((front : List ℕ) → word ≢ front ++ end) → front_of end word ≡ None
unfolding front_of
front_of-none end word never =
    let start = take (length word - length end) word in
    refused (bytes_eq word (start ++ end)) start (λ e. never start ((bytes_eq-Decides word (start ++ end)).0 e))

-- an end is taken off as it is found
pub front_of-stripped : (end word : List ℕ) (r : Option (Bor (List ℕ)))
    → MatchOption r ((front : List ℕ) → word ≢ front ++ end) (λ x. word ≡ x.now ++ end)
    → option_map (λ front. front.now) r ≡ front_of end word
front_of-stripped end word None never = sym (front_of-none end word never)
front_of-stripped end word (Some x) is = sym (front_of-front end word x.now is)

-- ---- spans

-- the word is that of the span, which fits
abbrev IsSpan : List ℕ → Span → Type 0
IsSpan word span = (word ≡ span_word span) × SpanFits span

-- what is read in front of a unit is spelled so
span_before-found : (word : List ℕ) (nanos seconds : Option (List ℕ)) (span : Span) → front_of (codes "ns") word ≡ nanos
    → front_of (codes "s") word ≡ seconds → span_before nanos seconds ≡ Some span → IsSpan word span
span_before-found word (Some count) seconds span at else_at e =
    let (n, was, shown) = bind_some (number_of count) (λ n. Some (Nanos n)) span e in
    let number = number_of-found count n was in
    subst (IsSpan word) (same_Some _ _ shown) (front_of-found (codes "ns") word count at ∙ ap (λ c. c ++ codes "ns") number.0, number.1)
span_before-found word None (Some count) span at else_at e =
    let (n, was, shown) = bind_some (number_of count) (λ n. Some (Seconds n)) span e in
    let number = number_of-found count n was in
    subst (IsSpan word) (same_Some _ _ shown) (front_of-found (codes "s") word count else_at ∙ ap (λ c. c ++ codes "s") number.0, number.1)
span_before-found word None None span at else_at e = absurd cc

-- what is read as a span is spelled so
span_of-found : (word : List ℕ) (span : Span) → span_of word ≡ Some span → IsSpan word span
unfolding span_of
span_of-found word span e = span_before-found word (front_of (codes "ns") word) (front_of (codes "s") word) span refl refl e

-- digits and an `s` don't end in `ns`
no_nanos : (digits front : List ℕ) → list_all is_ascii_digit digits ≡ true → digits ++ codes "s" ≡ front ++ codes "ns" → ⊥
no_nanos [] [] h e = absurd cc
no_nanos [] (f ∷ []) h e = absurd cc
no_nanos [] (f ∷ g ∷ front) h e = absurd cc
no_nanos (d ∷ digits) [] h e =
    let n : d ≡ 110 = cc in
    let digit : is_ascii_digit 110 ≡ true = subst (λ b. is_ascii_digit b ≡ true) n (and_parts _ _ h).0 in
    absurd cc
no_nanos (d ∷ digits) (f ∷ front) h e =
    let behind : digits ++ codes "s" ≡ front ++ codes "ns" = cc in
    no_nanos digits front (and_parts (is_ascii_digit d) (list_all is_ascii_digit digits) h).1 behind

-- the word of a span is read as that span
span_again : (span : Span) → SpanFits span → span_of (span_word span) ≡ Some span
unfolding span_of
span_again (Seconds n) fits =
    rw (
      front_of-none (codes "ns") (decimal n ++ codes "s") (λ front. no_nanos (decimal n) front (digits_decimal digits_model n fits)),
      front_of-front (codes "s") (decimal n ++ codes "s") (decimal n) refl,
      number_of-decimal n fits,
    ) refl
span_again (Nanos n) fits = rw (front_of-front (codes "ns") (decimal n ++ codes "ns") (decimal n) refl, number_of-decimal n fits) refl

-- a span is spelled as a word
IsWord-span : (span : Span) → SpanFits span → IsWord (span_word span)
IsWord-span (Seconds n) fits = IsWord-append (decimal n) (codes "s") (IsWord-decimal n fits) (IsWord-name (codes "s") refl)
IsWord-span (Nanos n) fits = IsWord-append (decimal n) (codes "ns") (IsWord-decimal n fits) (IsWord-name (codes "ns") refl)

-- ---- one setting

-- this name doesn't come first
abbrev LacksName : List ℕ → List (List ℕ) → Type 0
LacksName name [] = Unit {0}
LacksName name (word ∷ words) = bytes_eq word name ≡ false

module _ {X : Type 0} (name : List ℕ) (word : X → List ℕ) (Fits : X → Type 0) (read : List ℕ → Option X) where
  -- the words are those of the setting, which fits, and these are behind them
  abbrev IsOption : List (List ℕ) → List (List ℕ) → Option X → Type 0
  IsOption words behind value = (words ≡ option_words name word value ++ behind) × IfSome value Fits

  -- a setting that isn't there
  absent : (words : List (List ℕ)) (value : Option X) (behind : List (List ℕ))
      → ◌≡◌ {A = Option (Option X × List (List ℕ))} (Some (None, words)) (Some (value, behind)) → IsOption words behind value
  absent words value behind e =
      let same = some_pair_parts None value words behind e in
      subst (IsOption words behind) same.0 (same.1, tt)

  -- what is read as a setting is spelled so
  option_of-found : ((w : List ℕ) (x : X) → read w ≡ Some x → (w ≡ word x) × Fits x)
      → (words : List (List ℕ)) (value : Option X) (behind : List (List ℕ)) → option_of name read words ≡ Some (value, behind)
      → IsOption words behind value
  unfolding option_of
  option_of-found found [] value behind e = absent [] value behind e
  option_of-found found (first ∷ []) value behind e = absent (first ∷ []) value behind e
  option_of-found found (first ∷ w ∷ more) value behind e =
      elim (chosen (bytes_eq first name) _ _ _ e) [
        | inl is ↦
            let (x, was, shown) = bind_some (read w) (λ x. Some (Some x, more)) (value, behind) is.1 in
            let same = some_pair_parts (Some x) value more behind shown in
            let first_is = (bytes_eq-Decides first name).0 is.0 in
            let spelled = found w x was in
            subst (IsOption (first ∷ w ∷ more) behind) same.0
            (ap (λ f. f ∷ w ∷ more) first_is ∙ ap (λ v. name ∷ v ∷ more) spelled.0 ∙ ap (λ l. name ∷ word x ∷ l) same.1, spelled.1)
        | inr other ↦ absent (first ∷ w ∷ more) value behind other.1
      ]

  -- the words of a setting are read as that setting
  option_again : ((x : X) → Fits x → read (word x) ≡ Some x) → (value : Option X) (behind : List (List ℕ)) → IfSome value Fits
      → LacksName name behind → option_of name read (option_words name word value ++ behind) ≡ Some (value, behind)
  unfolding option_of
  option_again again None [] fits lacks = refl
  option_again again None (w ∷ []) fits lacks = refl
  option_again again None (w ∷ v ∷ more) fits lacks = rw lacks refl
  option_again again (Some x) behind fits lacks = rw ((bytes_eq-Decides name name).1 refl, again x fits) refl

  -- the words of a setting are words
  option_words_are : ((x : X) → Fits x → IsWord (word x)) → IsWord name → (value : Option X) → IfSome value Fits
      → AllByRecursion IsWord (option_words name word value)
  option_words_are is_word is_name None fits = tt
  option_words_are is_word is_name (Some x) fits = (is_name, (is_word x fits, tt))

  -- another name doesn't come first with this setting
  LacksName-option : (other : List ℕ) (value : Option X) (behind : List (List ℕ)) → bytes_eq name other ≡ false → LacksName other behind
      → LacksName other (option_words name word value ++ behind)
  LacksName-option other None behind e lacks = lacks
  LacksName-option other (Some x) behind e lacks = e

-- ---- all settings

-- a word and what is behind it, where this word is that one
abbrev parted : Bool → List ℕ → List (List ℕ) → Bool × List (List ℕ)
parted is word words = cond is (true, words) (false, word ∷ words)

-- these words are all
parted-all : (name : List ℕ) (is : Bool) (word : List ℕ) (words : List (List ℕ)) → (is ≡ true → word ≡ name)
    → word ∷ words ≡ flag_words name (parted is word words).0 ++ (parted is word words).1
parted-all name true word words named = ap (λ w. w ∷ words) (named refl)
parted-all name false word words named = refl

-- what is read as this word is that word
flag_of-found : (name : List ℕ) (words : List (List ℕ)) → words ≡ flag_words name (flag_of name words).0 ++ (flag_of name words).1
unfolding flag_of
flag_of-found name [] = refl
flag_of-found name (word ∷ words) = parted-all name (bytes_eq word name) word words (bytes_eq-Decides word name).0

-- the word is read as it is
flag_again : (name : List ℕ) (is : Bool) (behind : List (List ℕ)) → LacksName name behind → flag_of name (flag_words name is ++ behind) ≡ (is, behind)
unfolding flag_of
flag_again name true behind lacks = rw ((bytes_eq-Decides name name).1 refl) refl
flag_again name false [] lacks = refl
flag_again name false (word ∷ behind) lacks = rw lacks refl

-- the word is a word
flag_words_are : (name : List ℕ) → IsWord name → (is : Bool) → AllByRecursion IsWord (flag_words name is)
flag_words_are name is_name true = (is_name, tt)
flag_words_are name is_name false = tt

-- another name doesn't come first with it
LacksName-flag : (word name : List ℕ) (is : Bool) (behind : List (List ℕ)) → bytes_eq word name ≡ false
    → LacksName name behind → LacksName name (flag_words word is ++ behind)
LacksName-flag word name true behind e lacks = e
LacksName-flag word name false behind e lacks = lacks

-- the last setting is read behind nothing more
tickets_again : (tickets : Option ℕ) → IfSome tickets NumberFits
    → option_of (codes "tickets") number_of (option_words (codes "tickets") decimal tickets) ≡ Some (tickets, [])
tickets_again tickets fits =
    rw append-nil at (option_again (codes "tickets") decimal NumberFits number_of number_of-decimal tickets [] fits tt)

-- settings one after another are all of them
options_spelled : (o : CacheOptions) (words max live idle weighed adaptive tickets : List (List ℕ))
    → words ≡ option_words (codes "max") decimal o.max ++ max → max ≡ option_words (codes "live") span_word o.live ++ live
    → live ≡ option_words (codes "idle") span_word o.idle ++ idle → idle ≡ flag_words (codes "weighed") o.weighed ++ weighed
    → weighed ≡ flag_words (codes "adaptive") o.adaptive ++ adaptive
    → adaptive ≡ option_words (codes "tickets") decimal o.tickets ++ tickets → tickets ≡ [] → words ≡ options_words o
options_spelled o words max live idle weighed adaptive tickets max_is live_is idle_is weighed_is adaptive_is tickets_is none =
    max_is ∙ ap (λ l. option_words (codes "max") decimal o.max ++ l)
    (live_is ∙ ap (λ l. option_words (codes "live") span_word o.live ++ l)
    (idle_is ∙ ap (λ l. option_words (codes "idle") span_word o.idle ++ l)
    (weighed_is ∙ ap (λ l. flag_words (codes "weighed") o.weighed ++ l)
    (adaptive_is ∙ ap (λ l. flag_words (codes "adaptive") o.adaptive ++ l)
    (tickets_is ∙ ap (λ l. option_words (codes "tickets") decimal o.tickets ++ l) none
    ∙ append-nil (option_words (codes "tickets") decimal o.tickets))))))

-- what is read as settings is spelled so
pub options_of-found : (words : List (List ℕ)) (options : CacheOptions) → options_of words ≡ Some options
    → (words ≡ options_words options) × OptionsFit options
unfolding options_of
options_of-found words options e =
    let (max, max_is, more) = bind_some _ _ _ e in
    let (live, live_is, rest) = bind_some _ _ _ more in
    let (idle, idle_is, others) = bind_some _ _ _ rest in
    let (tickets, tickets_is, last) = bind_some _ _ _ others in
    let (nothing, nothing_is, shown) = bind_some _ _ _ last in
    let weighed = flag_of (codes "weighed") idle.1 in
    let adaptive = flag_of (codes "adaptive") weighed.1 in
    let maxes = option_of-found (codes "max") decimal NumberFits number_of number_of-found words max.0 max.1 max_is in
    let lives = option_of-found (codes "live") span_word SpanFits span_of span_of-found max.1 live.0 live.1 live_is in
    let idles = option_of-found (codes "idle") span_word SpanFits span_of span_of-found live.1 idle.0 idle.1 idle_is in
    let firsts = option_of-found (codes "tickets") decimal NumberFits number_of number_of-found adaptive.1 tickets.0 tickets.1 tickets_is in
    let ends : tickets.1 ≡ [] = no_argument-found tickets.1 nothing nothing_is in
    let made : CacheOptions =
    record { max = max.0; live = live.0; idle = idle.0; weighed = weighed.0; adaptive = adaptive.0; tickets = tickets.0 } in
    subst (λ o. (words ≡ options_words o) × OptionsFit o) (same_Some _ _ shown) (
      options_spelled made words max.1 live.1 idle.1 weighed.1 adaptive.1 tickets.1 maxes.0 lives.0 idles.0 (flag_of-found (codes "weighed") idle.1)
          (flag_of-found (codes "adaptive") weighed.1) firsts.0 ends,
      (maxes.1, lives.1, idles.1, firsts.1),
    )

-- the words of settings are read as those settings
pub options_again : (options : CacheOptions) → OptionsFit options → options_of (options_words options) ≡ Some options
unfolding options_of no_argument
options_again options fits =
    let first = option_words (codes "tickets") decimal options.tickets in
    let second = flag_words (codes "adaptive") options.adaptive ++ first in
    let last = flag_words (codes "weighed") options.weighed ++ second in
    let idle = option_words (codes "idle") span_word options.idle in
    let live = option_words (codes "live") span_word options.live in
    let lacks_first = λ (name : List ℕ) (other : bytes_eq (codes "tickets") name ≡ false).
    subst (LacksName name) (append-nil first)
    (LacksName-option (codes "tickets") decimal NumberFits number_of name options.tickets [] other tt) in
    let lacks_second = λ (name : List ℕ) (other : bytes_eq (codes "adaptive") name ≡ false) (more : bytes_eq (codes "tickets") name ≡ false).
    LacksName-flag (codes "adaptive") name options.adaptive first other (lacks_first name more) in
    let lacks_last = λ (name : List ℕ) (other : bytes_eq (codes "weighed") name ≡ false) (others : bytes_eq (codes "adaptive") name ≡ false)
    (more : bytes_eq (codes "tickets") name ≡ false). LacksName-flag (codes "weighed") name options.weighed second other (lacks_second name others more) in
    rw (
      option_again (codes "max") decimal NumberFits number_of number_of-decimal options.max (live ++ (idle ++ last)) fits.0
          (LacksName-option (codes "live") span_word SpanFits span_of (codes "max") options.live (idle ++ last) refl
          (LacksName-option (codes "idle") span_word SpanFits span_of (codes "max") options.idle last refl
          (lacks_last (codes "max") refl refl refl))),
      option_again (codes "live") span_word SpanFits span_of span_again options.live (idle ++ last) fits.1
          (LacksName-option (codes "idle") span_word SpanFits span_of (codes "live") options.idle last refl
          (lacks_last (codes "live") refl refl refl)),
      option_again (codes "idle") span_word SpanFits span_of span_again options.idle last fits.2
          (lacks_last (codes "idle") refl refl refl),
      flag_again (codes "weighed") options.weighed second (lacks_second (codes "weighed") refl refl),
      flag_again (codes "adaptive") options.adaptive first (lacks_first (codes "adaptive") refl),
      tickets_again options.tickets fits.3,
    ) refl

-- the words of settings are words
pub options_words_are : (options : CacheOptions) → OptionsFit options → AllByRecursion IsWord (options_words options)
options_words_are options fits =
    are_words-append _ _ (option_words_are (codes "max") decimal NumberFits number_of IsWord-decimal
    (IsWord-name (codes "max") refl) options.max fits.0)
    (are_words-append _ _ (option_words_are (codes "live") span_word SpanFits span_of IsWord-span
    (IsWord-name (codes "live") refl) options.live fits.1)
    (are_words-append _ _ (option_words_are (codes "idle") span_word SpanFits span_of IsWord-span
    (IsWord-name (codes "idle") refl) options.idle fits.2)
    (are_words-append _ _ (flag_words_are (codes "weighed") (IsWord-name (codes "weighed") refl) options.weighed)
    (are_words-append _ _ (flag_words_are (codes "adaptive") (IsWord-name (codes "adaptive") refl) options.adaptive)
    (option_words_are (codes "tickets") decimal NumberFits number_of IsWord-decimal
    (IsWord-name (codes "tickets") refl) options.tickets fits.3)))))

-- ---- a time to live behind what else a line has

-- what is read as a time to live with nothing behind it is spelled so
pub last_live-found : (words : List (List ℕ)) (live : Option Span × List (List ℕ)) (nothing : Unit {0})
    → option_of (codes "live") span_of words ≡ Some live → no_argument live.1 ≡ Some nothing
    → (words ≡ option_words (codes "live") span_word live.0) × IfSome live.0 SpanFits
last_live-found words live nothing e none =
    let found = option_of-found (codes "live") span_word SpanFits span_of span_of-found words live.0 live.1 e in
    let spelled = option_words (codes "live") span_word live.0 in
    (found.0 ∙ ap (λ l. spelled ++ l) (no_argument-found live.1 nothing none) ∙ append-nil spelled, found.1)

-- the words of a time to live with nothing behind it are read as that
pub last_live-again : (live : Option Span) → IfSome live SpanFits
    → option_of (codes "live") span_of (option_words (codes "live") span_word live) ≡ Some (live, [])
last_live-again live fits = rw append-nil at (option_again (codes "live") span_word SpanFits span_of span_again live [] fits tt)

-- the words of a time to live are words
pub live_words_are : (live : Option Span) → IfSome live SpanFits → AllByRecursion IsWord (option_words (codes "live") span_word live)
live_words_are live fits = option_words_are (codes "live") span_word SpanFits span_of IsWord-span (IsWord-name (codes "live") refl) live fits
