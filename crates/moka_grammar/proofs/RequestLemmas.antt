-- The words of lines of calls to a cache are read as those lines.
use Rattle.std.proofs.Common.{◌≡◌, ℕ, ◌<◌, ◌^◌, List, [], ◌∷◌, ◌++◌, codes, true, cond, Option, Some, None, refl, ap, ◌∙◌, subst, inl, inr}
use Rattle.std.specs.Prelude.{IfSome, IsTrue}
use Rattle.std.specs.Fmt.{decimal}
use Rattle.std.specs.List.{AllByRecursion}
use Rattle.std.specs.Str.{bytes_eq}
use Rattle.std.proofs.lemmas.Option.{cond_some, same_Some}
use Rattle.moka_grammar.specs.declared.line.CacheHeader.{CacheHeader}
use Rattle.moka_grammar.specs.declared.line.CacheOptions.{CacheOptions}
use Rattle.moka_grammar.specs.declared.line.Line.{Line}
use Rattle.moka_grammar.specs.declared.line.Request.{Request}
use Rattle.moka_grammar.specs.declared.line.Request.TheVariants.{Insert, Modify, Get, ContainsKey, Invalidate, Remove, InvalidateAll}
use Rattle.moka_grammar.specs.declared.line.Request.TheVariants.{RemoveExpired, InvalidateIf, Sync, Iter, EntryCount, WeightedSize, Policy}
use Rattle.moka_grammar.specs.declared.line.Span.{Span}
use Rattle.moka_grammar.specs.Options.{option_words, span_word, SpanFits}
use Rattle.moka_grammar.specs.Lines.{allows, weight_words, request_words, line_words, WeightFits, RequestFits, LineFits}
use Rattle.moka_grammar.specs.Reading.{◌>>=◌, number_of, text_of, no_argument, u64_of}
use Rattle.moka_grammar.specs.ReadingOptions.{span_of, option_of}
use Rattle.moka_grammar.specs.ReadingLines.{weight_of, insert_of, modify_of, invalidate_if_of, bare_of, request_of, line_from_words}
use Rattle.moka_grammar.proofs.CutLemmas.{bind_some}
use Rattle.moka_grammar.proofs.LineLemmas.{IsReading}
use Rattle.moka_grammar.proofs.NumberLemmas.{number_of-decimal, number_of-found}
use Rattle.moka_grammar.proofs.ArgumentLemmas.{chosen, text_of-found, text_of-text, u64_of-found}
use Rattle.moka_grammar.proofs.CallLemmas.{IsSpelled, named, given, alone}
use Rattle.moka_grammar.proofs.WeightLemmas.{last_weight-again, last_weight-found, weight_of-found, weight_of-again, weight_words_are}
use Rattle.moka_grammar.proofs.OptionLemmas.{last_live-found, last_live-again, live_words_are}
use Rattle.moka_grammar.proofs.WordLemmas.{IsWord, IsWord-decimal, IsWord-text, IsWord-name, are_words-append}

-- the words behind the text of an insert
abbrev end_words : Option ℕ → Option Span → List (List ℕ)
end_words weight live = weight_words weight ++ option_words (codes "live") span_word live

module _ (options : CacheOptions) where
  -- ---- what is read as a request is spelled so

  -- the name and the arguments are the words of the request, which fits
  abbrev IsRequest : List ℕ → List (List ℕ) → Request (List ℕ) → Type 0
  IsRequest = IsSpelled request_words (RequestFits options.weighed)

  -- what is read behind the text of an insert is spelled so
  end_found : (behind : List (List ℕ)) (weight : Option ℕ × List (List ℕ)) (live : Option Span × List (List ℕ)) (none : Unit {0})
      → weight_of options.weighed behind ≡ Some weight → option_of (codes "live") span_of weight.1 ≡ Some live → no_argument live.1 ≡ Some none
      → (behind ≡ end_words weight.0 live.0) × WeightFits options.weighed weight.0 × IfSome live.0 SpanFits
  end_found behind weight live none weight_is live_is none_is =
      let weights = weight_of-found options.weighed behind weight.0 weight.1 weight_is in
      let lives = last_live-found weight.1 live none live_is none_is in
      (weights.0 ∙ ap (λ l. weight_words weight.0 ++ l) lives.0, weights.1, lives.1)

  -- what is read as an insert is spelled so
  insert_of-found : (arguments : List (List ℕ)) (r : Request (List ℕ)) → insert_of options arguments ≡ Some r
      → IsRequest (codes "insert") arguments r
  unfolding insert_of
  insert_of-found [] r e = absurd cc
  insert_of-found (key ∷ []) r e = absurd cc
  insert_of-found (key ∷ text ∷ behind) r e =
      let (k, key_is, others) = bind_some (number_of key) (λ k. weight_of options.weighed behind >>= λ w.
      option_of (codes "live") span_of w.1 >>= λ live. no_argument live.1 >>= λ none. text_of text
      >>= λ t. Some (Insert k t w.0 live.0)) r e in
      let (w, weight_is, more) = bind_some (weight_of options.weighed behind) (λ w.
      option_of (codes "live") span_of w.1 >>= λ live. no_argument live.1 >>= λ none. text_of text
      >>= λ t. Some (Insert k t w.0 live.0)) r others in
      let (live, live_is, last) = bind_some (option_of (codes "live") span_of w.1)
      (λ live. no_argument live.1 >>= λ none. text_of text >>= λ t. Some (Insert k t w.0 live.0)) r more in
      let (none, none_is, rest) = bind_some (no_argument live.1) (λ none. text_of text >>= λ t. Some (Insert k t w.0 live.0)) r last in
      let (t, text_is, shown) = bind_some (text_of text) (λ t. Some (Insert k t w.0 live.0)) r rest in
      let keys = number_of-found key k key_is in
      let ends = end_found behind w live none weight_is live_is none_is in
      let texts = text_of-found text t text_is in
      subst (IsRequest (codes "insert") (key ∷ text ∷ behind)) (same_Some _ _ shown) (
        ap (λ l. codes "insert" ∷ l ∷ text ∷ behind) keys.0
            ∙ ap (λ l. codes "insert" ∷ decimal k ∷ l ∷ behind) texts.0
            ∙ ap (λ l. codes "insert" ∷ decimal k ∷ t ∷ l) ends.0,
        (keys.1, texts.1, ends.1, ends.2),
      )

  -- what is read as a modification is spelled so
  modify_of-found : (arguments : List (List ℕ)) (r : Request (List ℕ)) → modify_of options arguments ≡ Some r
      → IsRequest (codes "modify") arguments r
  unfolding modify_of
  modify_of-found [] r e = absurd cc
  modify_of-found (key ∷ []) r e = absurd cc
  modify_of-found (key ∷ text ∷ behind) r e =
      let (k, key_is, others) = bind_some (number_of key) (λ k. weight_of options.weighed behind >>= λ w.
      no_argument w.1 >>= λ none. text_of text >>= λ t. Some (Modify k t w.0)) r e in
      let (w, weight_is, more) = bind_some (weight_of options.weighed behind) (λ w.
      no_argument w.1 >>= λ none. text_of text >>= λ t. Some (Modify k t w.0)) r others in
      let (none, none_is, rest) = bind_some (no_argument w.1) (λ none. text_of text >>= λ t. Some (Modify k t w.0)) r more in
      let (t, text_is, shown) = bind_some (text_of text) (λ t. Some (Modify k t w.0)) r rest in
      let keys = number_of-found key k key_is in
      let weights = last_weight-found options.weighed behind w none weight_is none_is in
      let texts = text_of-found text t text_is in
      subst (IsRequest (codes "modify") (key ∷ text ∷ behind)) (same_Some _ _ shown) (
        ap (λ l. codes "modify" ∷ l ∷ text ∷ behind) keys.0
            ∙ ap (λ l. codes "modify" ∷ decimal k ∷ l ∷ behind) texts.0
            ∙ ap (λ l. codes "modify" ∷ decimal k ∷ t ∷ l) weights.0,
        (keys.1, texts.1, weights.1),
      )

  -- a request with a key alone is spelled by its name and the key
  keyed : (call name : List ℕ) (arguments : List (List ℕ)) (make : ℕ → Request (List ℕ)) (r : Request (List ℕ))
      → ((k : ℕ) → request_words (make k) ≡ name ∷ decimal k ∷ []) → ((k : ℕ) → k < 2 ^ 64 → RequestFits options.weighed (make k))
      → bytes_eq call name ≡ true → (u64_of arguments >>= λ k. Some (make k)) ≡ Some r → IsRequest call arguments r
  keyed = given request_words (RequestFits options.weighed) u64_of (λ k. decimal k ∷ []) (λ k. k < 2 ^ 64) u64_of-found

  -- what is read as an invalidation by text is spelled so
  invalidate_if_of-found : (arguments : List (List ℕ)) (r : Request (List ℕ)) → invalidate_if_of arguments ≡ Some r
      → IsRequest (codes "drop-if") arguments r
  unfolding invalidate_if_of
  invalidate_if_of-found [] r e = absurd cc
  invalidate_if_of-found (text ∷ word ∷ words) r e = absurd cc
  invalidate_if_of-found (text ∷ []) r e =
      let (t, text_is, shown) = bind_some (text_of text) (λ t. Some (InvalidateIf t)) r e in
      let texts = text_of-found text t text_is in
      subst (IsRequest (codes "drop-if") (text ∷ [])) (same_Some _ _ shown) (ap (λ l. codes "drop-if" ∷ l ∷ []) texts.0, texts.1)

  -- what is read as a request with nothing is spelled so
  bare_of-found : (call : List ℕ) (arguments : List (List ℕ)) (r : Request (List ℕ)) → bare_of call arguments ≡ Some r
      → IsRequest call arguments r
  unfolding bare_of no_argument
  bare_of-found call (word ∷ words) r e = absurd cc
  bare_of-found call [] r e =
      elim (chosen (bytes_eq call (codes "clear")) _ _ _ e) [
        | inl clear ↦ alone request_words (RequestFits options.weighed) call (codes "clear") InvalidateAll r refl tt clear.0 clear.1
        | inr not_clear ↦ elim (chosen (bytes_eq call (codes "expire")) _ _ _ not_clear.1) [
          | inl expire ↦ alone request_words (RequestFits options.weighed) call (codes "expire") RemoveExpired r refl tt expire.0 expire.1
          | inr not_expire ↦ elim (chosen (bytes_eq call (codes "sync")) _ _ _ not_expire.1) [
            | inl sync ↦ alone request_words (RequestFits options.weighed) call (codes "sync") Sync r refl tt sync.0 sync.1
            | inr not_sync ↦ elim (chosen (bytes_eq call (codes "iter")) _ _ _ not_sync.1) [
              | inl iter ↦ alone request_words (RequestFits options.weighed) call (codes "iter") Iter r refl tt iter.0 iter.1
              | inr not_iter ↦ elim (chosen (bytes_eq call (codes "count")) _ _ _ not_iter.1) [
                | inl count ↦ alone request_words (RequestFits options.weighed) call (codes "count") EntryCount r refl tt count.0 count.1
                | inr not_count ↦ elim (chosen (bytes_eq call (codes "weight")) _ _ _ not_count.1) [
                  | inl weight ↦ alone request_words (RequestFits options.weighed) call (codes "weight") WeightedSize r refl tt
                      weight.0 weight.1
                  | inr not_weight ↦ elim (chosen (bytes_eq call (codes "policy")) _ _ _ not_weight.1) [
                    | inl policy ↦ alone request_words (RequestFits options.weighed) call (codes "policy") Policy r refl tt policy.0 policy.1
                    | inr not_policy ↦ absurd (let none = not_policy.1 in cc)
                  ]
                ]
              ]
            ]
          ]
        ]
      ]

  -- what is read as a request is spelled so
  request_of-found : (call : List ℕ) (arguments : List (List ℕ)) (r : Request (List ℕ)) → request_of options call arguments ≡ Some r
      → IsRequest call arguments r
  unfolding request_of
  request_of-found call arguments r e =
      elim (chosen (bytes_eq call (codes "insert")) _ _ _ e) [
        | inl insert ↦ named request_words (RequestFits options.weighed) call (codes "insert") arguments r insert.0
            (insert_of-found arguments r insert.1)
        | inr not_insert ↦ elim (chosen (bytes_eq call (codes "get")) _ _ _ not_insert.1) [
          | inl get ↦ keyed call (codes "get") arguments (λ k. Get k) r (λ k. refl) (λ k h. h) get.0 get.1
          | inr not_get ↦ elim (chosen (bytes_eq call (codes "has")) _ _ _ not_get.1) [
            | inl has ↦ keyed call (codes "has") arguments (λ k. ContainsKey k) r (λ k. refl) (λ k h. h) has.0 has.1
            | inr not_has ↦ elim (chosen (bytes_eq call (codes "invalidate")) _ _ _ not_has.1) [
              | inl invalidate ↦ keyed call (codes "invalidate") arguments (λ k. Invalidate k) r (λ k. refl)
                  (λ k h. h) invalidate.0 invalidate.1
              | inr not_invalidate ↦ elim (chosen (bytes_eq call (codes "remove")) _ _ _ not_invalidate.1) [
                | inl remove ↦ keyed call (codes "remove") arguments (λ k. Remove k) r (λ k. refl)
                    (λ k h. h) remove.0 remove.1
                | inr not_remove ↦ elim (chosen (bytes_eq call (codes "modify")) _ _ _ not_remove.1) [
                  | inl modify ↦ named request_words (RequestFits options.weighed) call (codes "modify") arguments r modify.0
                      (modify_of-found arguments r modify.1)
                  | inr not_modify ↦ elim (chosen (bytes_eq call (codes "drop-if")) _ _ _ not_modify.1) [
                    | inl drop_if ↦ named request_words (RequestFits options.weighed) call (codes "drop-if") arguments r drop_if.0
                        (invalidate_if_of-found arguments r drop_if.1)
                    | inr not_drop_if ↦ bare_of-found call arguments r not_drop_if.1
                  ]
                ]
              ]
            ]
          ]
        ]
      ]

  -- ---- what is spelled is read as a request

  -- the words of a request are words
  request_words_are : (r : Request (List ℕ)) → RequestFits options.weighed r → AllByRecursion IsWord (request_words r)
  request_words_are (Insert key text weight live) fits =
      let ends = are_words-append _ _ (weight_words_are options.weighed weight fits.2) (live_words_are live fits.3) in
      (IsWord-name (codes "insert") refl, (IsWord-decimal key fits.0, (IsWord-text text fits.1, ends)))
  request_words_are (Modify key text weight) fits = (
    IsWord-name (codes "modify") refl,
    (IsWord-decimal key fits.0, (IsWord-text text fits.1, weight_words_are options.weighed weight fits.2)),
  )
  request_words_are (Get key) fits = (IsWord-name (codes "get") refl, (IsWord-decimal key fits, tt))
  request_words_are (ContainsKey key) fits = (IsWord-name (codes "has") refl, (IsWord-decimal key fits, tt))
  request_words_are (Invalidate key) fits = (IsWord-name (codes "invalidate") refl, (IsWord-decimal key fits, tt))
  request_words_are (Remove key) fits = (IsWord-name (codes "remove") refl, (IsWord-decimal key fits, tt))
  request_words_are InvalidateAll fits = (IsWord-name (codes "clear") refl, tt)
  request_words_are RemoveExpired fits = (IsWord-name (codes "expire") refl, tt)
  request_words_are (InvalidateIf text) fits = (IsWord-name (codes "drop-if") refl, (IsWord-text text fits, tt))
  request_words_are Sync fits = (IsWord-name (codes "sync") refl, tt)
  request_words_are Iter fits = (IsWord-name (codes "iter") refl, tt)
  request_words_are EntryCount fits = (IsWord-name (codes "count") refl, tt)
  request_words_are WeightedSize fits = (IsWord-name (codes "weight") refl, tt)
  request_words_are Policy fits = (IsWord-name (codes "policy") refl, tt)

module _ (header : CacheHeader) where
  -- ---- lines

  -- what words are read as a line are its words
  line-found : (words : List (List ℕ)) (line : Line (List ℕ)) → line_from_words header words ≡ Some line
      → (words ≡ line_words line) × LineFits header line
  unfolding line_from_words
  line-found [] line e = absurd cc
  line-found (now ∷ []) line e = absurd cc
  line-found (now ∷ call ∷ arguments) line e =
      let allowed = λ (n : ℕ) (r : Request (List ℕ)). cond (allows header.mode r) (Some (record { now = n; request = r })) None in
      let (n, now_is, more) = bind_some (number_of now) (λ n. request_of header.options call arguments >>= λ r. allowed n r) line e in
      let (r, request_is, rest) = bind_some (request_of header.options call arguments) (λ r. allowed n r) line more in
      let shown = cond_some (allows header.mode r) (record { now = n; request = r }) line rest in
      let nows = number_of-found now n now_is in
      let requests = request_of-found header.options call arguments r request_is in
      subst (λ l. (now ∷ call ∷ arguments ≡ line_words l) × LineFits header l) shown.1
      (ap (λ w. w ∷ call ∷ arguments) nows.0 ∙ ap (λ l. decimal n ∷ l) requests.0, (nows.1, shown.0, requests.1))

  -- the words of a line are read as that line
  line_again : (n : ℕ) (r : Request (List ℕ)) → n < 2 ^ 64 → IsTrue (allows header.mode r) → RequestFits header.options.weighed r
      → line_from_words header (decimal n ∷ request_words r) ≡ Some (record { now = n; request = r })
  unfolding line_from_words request_of insert_of modify_of invalidate_if_of bare_of u64_of no_argument
  line_again n (Insert key text weight live) small allowed fits =
      rw (
        number_of-decimal n small,
        number_of-decimal key fits.0,
        weight_of-again header.options.weighed weight (option_words (codes "live") span_word live) fits.2,
        last_live-again live fits.3,
        text_of-text text fits.1,
        allowed,
      ) refl
  line_again n (Modify key text weight) small allowed fits =
      rw (
        number_of-decimal n small,
        number_of-decimal key fits.0,
        last_weight-again header.options.weighed weight fits.2,
        text_of-text text fits.1,
        allowed,
      ) refl
  line_again n (Get key) small allowed fits = rw (number_of-decimal n small, number_of-decimal key fits, allowed) refl
  line_again n (ContainsKey key) small allowed fits = rw (number_of-decimal n small, number_of-decimal key fits, allowed) refl
  line_again n (Invalidate key) small allowed fits = rw (number_of-decimal n small, number_of-decimal key fits, allowed) refl
  line_again n (Remove key) small allowed fits = rw (number_of-decimal n small, number_of-decimal key fits, allowed) refl
  line_again n InvalidateAll small allowed fits = rw (number_of-decimal n small, allowed) refl
  line_again n RemoveExpired small allowed fits = rw (number_of-decimal n small, allowed) refl
  line_again n (InvalidateIf text) small allowed fits = rw (number_of-decimal n small, text_of-text text fits, allowed) refl
  line_again n Sync small allowed fits = rw (number_of-decimal n small, allowed) refl
  line_again n Iter small allowed fits = rw (number_of-decimal n small, allowed) refl
  line_again n EntryCount small allowed fits = rw (number_of-decimal n small, allowed) refl
  line_again n WeightedSize small allowed fits = rw (number_of-decimal n small, allowed) refl
  line_again n Policy small allowed fits = rw (number_of-decimal n small, allowed) refl

  -- lines are read as they are spelled
  pub reads_line : IsReading line_words (LineFits header) (line_from_words header)
  reads_line = record {
    are_words = λ line fits. (IsWord-decimal line.now fits.0, request_words_are header.options line.request fits.2);
    some = λ line e. absurd cc;
    found = line-found;
    again = λ line fits. line_again line.now line.request fits.0 fits.1 fits.2;
  }
