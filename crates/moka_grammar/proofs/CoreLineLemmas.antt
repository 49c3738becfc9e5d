-- The words of lines of core scripts are read as those lines.
use Rattle.std.proofs.Common.{◌≡◌, ℕ, ◌<◌, ◌^◌, List, [], ◌∷◌, codes, true, Option, Some, refl, ap, ◌∙◌, subst, inl, inr, arith}
use Rattle.std.specs.Fmt.{decimal}
use Rattle.std.specs.List.{AllByRecursion}
use Rattle.std.specs.Str.{bytes_eq}
use Rattle.std.proofs.lemmas.Option.{same_Some}
use Rattle.moka_grammar.specs.declared.line.CacheOptions.{CacheOptions}
use Rattle.moka_grammar.specs.declared.line.CoreLine.{CoreLine}
use Rattle.moka_grammar.specs.declared.line.CoreRequest.{CoreRequest}
use Rattle.moka_grammar.specs.declared.line.CoreRequest.TheVariants.{Insert, Get, ContainsKey, Invalidate, Remove, InvalidateAll, Push, Forget}
use Rattle.moka_grammar.specs.declared.line.CoreRequest.TheVariants.{Begin, Turn, Rest, Sync, Iter, EntryCount, WeightedSize}
use Rattle.moka_grammar.specs.Lines.{weight_words, WeightFits}
use Rattle.moka_grammar.specs.CoreLines.{core_request_words, core_words, CoreRequestFits, CoreFits}
use Rattle.moka_grammar.specs.Reading.{◌>>=◌, number_of, number_below, text_of, no_argument, u64_of, u32_of}
use Rattle.moka_grammar.specs.ReadingLines.{weight_of}
use Rattle.moka_grammar.specs.ReadingCoreLines.{caller_and_key_of, insert_of, bare_of, request_of, core_from_words}
use Rattle.moka_grammar.proofs.CutLemmas.{bind_some}
use Rattle.moka_grammar.proofs.LineLemmas.{IsReading}
use Rattle.moka_grammar.proofs.NumberLemmas.{number_of-decimal, number_of-found}
use Rattle.moka_grammar.proofs.ArgumentLemmas.{chosen, number_below-found, number_below-decimal}
use Rattle.moka_grammar.proofs.ArgumentLemmas.{text_of-found, text_of-text, u64_of-found, u32_of-found}
use Rattle.moka_grammar.proofs.CallLemmas.{IsSpelled, named, given, alone}
use Rattle.moka_grammar.proofs.WeightLemmas.{last_weight-found, last_weight-again, weight_words_are}
use Rattle.moka_grammar.proofs.WordLemmas.{IsWord, IsWord-decimal, IsWord-text, IsWord-name}

-- ---- a caller and a key

-- their words
abbrev pair_words : ℕ × ℕ → List (List ℕ)
pair_words pair = decimal pair.0 ∷ decimal pair.1 ∷ []

-- they can be spelled
abbrev PairFits : ℕ × ℕ → Type 0
PairFits pair = (pair.0 < 2 ^ 32) × (pair.1 < 2 ^ 64)

-- what is read as a caller and a key is spelled so
caller_and_key_of-found : (arguments : List (List ℕ)) (pair : ℕ × ℕ) → caller_and_key_of arguments ≡ Some pair
    → (arguments ≡ pair_words pair) × PairFits pair
unfolding caller_and_key_of
caller_and_key_of-found [] pair e = absurd cc
caller_and_key_of-found (caller ∷ []) pair e = absurd cc
caller_and_key_of-found (caller ∷ key ∷ next ∷ more) pair e = absurd cc
caller_and_key_of-found (caller ∷ key ∷ []) pair e =
    let (c, caller_is, more) = bind_some (number_below (2 ^ 32) caller) (λ c. number_of key >>= λ k. Some (c, k)) pair e in
    let (k, key_is, shown) = bind_some (number_of key) (λ k. Some (c, k)) pair more in
    let callers = number_below-found (2 ^ 32) caller c caller_is in
    let keys = number_of-found key k key_is in
    subst (λ p. (caller ∷ key ∷ [] ≡ pair_words p) × PairFits p) (same_Some _ _ shown)
    (ap (λ w. w ∷ key ∷ []) callers.0 ∙ ap (λ w. decimal c ∷ w ∷ []) keys.0, (callers.1, keys.1))

-- the words of a caller and a key are read as them
caller_and_key_of-again : (caller key : ℕ) → caller < 2 ^ 32 → key < 2 ^ 64
    → caller_and_key_of (decimal caller ∷ decimal key ∷ []) ≡ Some (caller, key)
unfolding caller_and_key_of
caller_and_key_of-again caller key small fits =
    rw (number_below-decimal (2 ^ 32) caller small (omega (arith, small)), number_of-decimal key fits) refl

-- the words of an insert
insert_spelled : (caller key text : List ℕ) (behind : List (List ℕ)) (c k : ℕ) (t : List ℕ) (w : Option ℕ)
    → caller ≡ decimal c → key ≡ decimal k → text ≡ t → behind ≡ weight_words w
    → codes "insert" ∷ caller ∷ key ∷ text ∷ behind ≡ core_request_words (Insert c k t w)
insert_spelled caller key text behind c k t w caller_is key_is text_is weight_is =
    ap (λ l. codes "insert" ∷ l ∷ key ∷ text ∷ behind) caller_is
    ∙ ap (λ l. codes "insert" ∷ decimal c ∷ l ∷ text ∷ behind) key_is
    ∙ ap (λ l. codes "insert" ∷ decimal c ∷ decimal k ∷ l ∷ behind) text_is
    ∙ ap (λ l. codes "insert" ∷ decimal c ∷ decimal k ∷ t ∷ l) weight_is

module _ (options : CacheOptions) where
  -- ---- what is read as a request is spelled so

  -- the name and the arguments are the words of the request, which fits
  abbrev IsRequest : List ℕ → List (List ℕ) → CoreRequest (List ℕ) → Type 0
  IsRequest = IsSpelled core_request_words (CoreRequestFits options)

  -- an insert whose words were read is spelled so
  insert_read : (caller key text : List ℕ) (behind : List (List ℕ)) (c k : ℕ) (t : List ℕ) (w : Option ℕ) (r : CoreRequest (List ℕ))
      → number_below (2 ^ 32) caller ≡ Some c → number_of key ≡ Some k → text_of text ≡ Some t
      → (behind ≡ weight_words w) × WeightFits options.weighed w → Insert c k t w ≡ r
      → IsRequest (codes "insert") (caller ∷ key ∷ text ∷ behind) r
  insert_read caller key text behind c k t w r caller_is key_is text_is weights is =
      let callers = number_below-found (2 ^ 32) caller c caller_is in
      let keys = number_of-found key k key_is in
      let texts = text_of-found text t text_is in
      subst (IsRequest (codes "insert") (caller ∷ key ∷ text ∷ behind)) is
      (insert_spelled caller key text behind c k t w callers.0 keys.0 texts.0 weights.0, (callers.1, keys.1, texts.1, weights.1))

  -- what is read as an insert is spelled so
  insert_of-found : (arguments : List (List ℕ)) (r : CoreRequest (List ℕ)) → insert_of options arguments ≡ Some r
      → IsRequest (codes "insert") arguments r
  unfolding insert_of
  insert_of-found [] r e = absurd cc
  insert_of-found (caller ∷ []) r e = absurd cc
  insert_of-found (caller ∷ key ∷ []) r e = absurd cc
  insert_of-found (caller ∷ key ∷ text ∷ behind) r e =
      let (c, caller_is, others) = bind_some (number_below (2 ^ 32) caller)
      (λ c. number_of key >>= λ k. weight_of options.weighed behind >>= λ w. no_argument w.1 >>= λ none. text_of text
      >>= λ t. Some (Insert c k t w.0)) r e in
      let (k, key_is, more) = bind_some (number_of key)
      (λ k. weight_of options.weighed behind >>= λ w. no_argument w.1 >>= λ none. text_of text >>= λ t. Some (Insert c k t w.0)) r others in
      let (w, weight_is, last) = bind_some (weight_of options.weighed behind)
      (λ w. no_argument w.1 >>= λ none. text_of text >>= λ t. Some (Insert c k t w.0)) r more in
      let (none, none_is, rest) = bind_some (no_argument w.1) (λ none. text_of text >>= λ t. Some (Insert c k t w.0)) r last in
      let (t, text_is, shown) = bind_some (text_of text) (λ t. Some (Insert c k t w.0)) r rest in
      let weights = last_weight-found options.weighed behind w none weight_is none_is in
      insert_read caller key text behind c k t w.0 r caller_is key_is text_is weights (same_Some (Insert c k t w.0) r shown)

  -- a request with a caller alone is spelled by its name and the caller
  called : (call name : List ℕ) (arguments : List (List ℕ)) (make : ℕ → CoreRequest (List ℕ)) (r : CoreRequest (List ℕ))
      → ((c : ℕ) → core_request_words (make c) ≡ name ∷ decimal c ∷ []) → ((c : ℕ) → c < 2 ^ 32 → CoreRequestFits options (make c))
      → bytes_eq call name ≡ true → (u32_of arguments >>= λ c. Some (make c)) ≡ Some r → IsRequest call arguments r
  called = given core_request_words (CoreRequestFits options) u32_of (λ c. decimal c ∷ []) (λ c. c < 2 ^ 32) u32_of-found

  -- one with a key alone by its name and the key
  keyed : (call name : List ℕ) (arguments : List (List ℕ)) (make : ℕ → CoreRequest (List ℕ)) (r : CoreRequest (List ℕ))
      → ((k : ℕ) → core_request_words (make k) ≡ name ∷ decimal k ∷ []) → ((k : ℕ) → k < 2 ^ 64 → CoreRequestFits options (make k))
      → bytes_eq call name ≡ true → (u64_of arguments >>= λ k. Some (make k)) ≡ Some r → IsRequest call arguments r
  keyed = given core_request_words (CoreRequestFits options) u64_of (λ k. decimal k ∷ []) (λ k. k < 2 ^ 64) u64_of-found

  -- one with both by its name, the caller and the key
  paired : (call name : List ℕ) (arguments : List (List ℕ)) (make : ℕ × ℕ → CoreRequest (List ℕ)) (r : CoreRequest (List ℕ))
      → ((p : ℕ × ℕ) → core_request_words (make p) ≡ name ∷ pair_words p) → ((p : ℕ × ℕ) → PairFits p → CoreRequestFits options (make p))
      → bytes_eq call name ≡ true → (caller_and_key_of arguments >>= λ p. Some (make p)) ≡ Some r → IsRequest call arguments r
  paired = given core_request_words (CoreRequestFits options) caller_and_key_of pair_words PairFits caller_and_key_of-found

  -- one with nothing by its name
  bare : (call name : List ℕ) (made r : CoreRequest (List ℕ)) → core_request_words made ≡ name ∷ [] → CoreRequestFits options made
      → bytes_eq call name ≡ true → Some made ≡ Some r → IsRequest call [] r
  bare = alone core_request_words (CoreRequestFits options)

  -- what is read as a request with nothing is spelled so
  bare_of-found : (call : List ℕ) (arguments : List (List ℕ)) (r : CoreRequest (List ℕ)) → bare_of call arguments ≡ Some r
      → IsRequest call arguments r
  unfolding bare_of no_argument
  bare_of-found call (word ∷ words) r e = absurd cc
  bare_of-found call [] r e =
      elim (chosen (bytes_eq call (codes "clear")) _ _ _ e) [
        | inl clear ↦ bare call (codes "clear") InvalidateAll r refl tt clear.0 clear.1
        | inr not_clear ↦ elim (chosen (bytes_eq call (codes "begin")) _ _ _ not_clear.1) [
          | inl begin ↦ bare call (codes "begin") Begin r refl tt begin.0 begin.1
          | inr not_begin ↦ elim (chosen (bytes_eq call (codes "turn")) _ _ _ not_begin.1) [
            | inl turn ↦ bare call (codes "turn") Turn r refl tt turn.0 turn.1
            | inr not_turn ↦ elim (chosen (bytes_eq call (codes "rest")) _ _ _ not_turn.1) [
              | inl rest ↦ bare call (codes "rest") Rest r refl tt rest.0 rest.1
              | inr not_rest ↦ elim (chosen (bytes_eq call (codes "sync")) _ _ _ not_rest.1) [
                | inl sync ↦ bare call (codes "sync") Sync r refl tt sync.0 sync.1
                | inr not_sync ↦ elim (chosen (bytes_eq call (codes "iter")) _ _ _ not_sync.1) [
                  | inl iter ↦ bare call (codes "iter") Iter r refl tt iter.0 iter.1
                  | inr not_iter ↦ elim (chosen (bytes_eq call (codes "count")) _ _ _ not_iter.1) [
                    | inl count ↦ bare call (codes "count") EntryCount r refl tt count.0 count.1
                    | inr not_count ↦ elim (chosen (bytes_eq call (codes "weight")) _ _ _ not_count.1) [
                      | inl weight ↦ bare call (codes "weight") WeightedSize r refl tt weight.0 weight.1
                      | inr not_weight ↦ absurd (let none = not_weight.1 in cc)
                    ]
                  ]
                ]
              ]
            ]
          ]
        ]
      ]

  -- what is read as a request is spelled so
  request_of-found : (call : List ℕ) (arguments : List (List ℕ)) (r : CoreRequest (List ℕ)) → request_of options call arguments ≡ Some r
      → IsRequest call arguments r
  unfolding request_of
  request_of-found call arguments r e =
      elim (chosen (bytes_eq call (codes "insert")) _ _ _ e) [
        | inl insert ↦ named core_request_words (CoreRequestFits options) call (codes "insert") arguments r insert.0
            (insert_of-found arguments r insert.1)
        | inr not_insert ↦ elim (chosen (bytes_eq call (codes "get")) _ _ _ not_insert.1) [
          | inl get ↦ paired call (codes "get") arguments (λ p. Get p.0 p.1) r (λ p. refl) (λ p h. h) get.0 get.1
          | inr not_get ↦ elim (chosen (bytes_eq call (codes "has")) _ _ _ not_get.1) [
            | inl has ↦ keyed call (codes "has") arguments (λ k. ContainsKey k) r (λ k. refl) (λ k h. h) has.0 has.1
            | inr not_has ↦ elim (chosen (bytes_eq call (codes "invalidate")) _ _ _ not_has.1) [
              | inl invalidate ↦ paired call (codes "invalidate") arguments (λ p. Invalidate p.0 p.1) r (λ p. refl)
                  (λ p h. h) invalidate.0 invalidate.1
              | inr not_invalidate ↦ elim (chosen (bytes_eq call (codes "remove")) _ _ _ not_invalidate.1) [
                | inl remove ↦ paired call (codes "remove") arguments (λ p. Remove p.0 p.1) r (λ p. refl)
                    (λ p h. h) remove.0 remove.1
                | inr not_remove ↦ elim (chosen (bytes_eq call (codes "push")) _ _ _ not_remove.1) [
                  | inl push ↦ called call (codes "push") arguments (λ c. Push c) r (λ c. refl) (λ c h. h) push.0 push.1
                  | inr not_push ↦ elim (chosen (bytes_eq call (codes "forget")) _ _ _ not_push.1) [
                    | inl forget ↦ called call (codes "forget") arguments (λ c. Forget c) r (λ c. refl) (λ c h. h) forget.0 forget.1
                    | inr not_forget ↦ bare_of-found call arguments r not_forget.1
                  ]
                ]
              ]
            ]
          ]
        ]
      ]

  -- ---- what is spelled is read as a request

  -- the words of a request are words
  request_words_are : (r : CoreRequest (List ℕ)) → CoreRequestFits options r → AllByRecursion IsWord (core_request_words r)
  request_words_are (Insert caller key text weight) fits = (
    IsWord-name (codes "insert") refl,
    (
      IsWord-decimal caller (omega (arith, fits.0)),
      (IsWord-decimal key fits.1, (IsWord-text text fits.2, weight_words_are options.weighed weight fits.3)),
    ),
  )
  request_words_are (Get caller key) fits =
      (IsWord-name (codes "get") refl, (IsWord-decimal caller (omega (arith, fits.0)), (IsWord-decimal key fits.1, tt)))
  request_words_are (ContainsKey key) fits = (IsWord-name (codes "has") refl, (IsWord-decimal key fits, tt))
  request_words_are (Invalidate caller key) fits =
      (IsWord-name (codes "invalidate") refl, (IsWord-decimal caller (omega (arith, fits.0)), (IsWord-decimal key fits.1, tt)))
  request_words_are (Remove caller key) fits =
      (IsWord-name (codes "remove") refl, (IsWord-decimal caller (omega (arith, fits.0)), (IsWord-decimal key fits.1, tt)))
  request_words_are InvalidateAll fits = (IsWord-name (codes "clear") refl, tt)
  request_words_are (Push caller) fits = (IsWord-name (codes "push") refl, (IsWord-decimal caller (omega (arith, fits)), tt))
  request_words_are (Forget caller) fits = (IsWord-name (codes "forget") refl, (IsWord-decimal caller (omega (arith, fits)), tt))
  request_words_are Begin fits = (IsWord-name (codes "begin") refl, tt)
  request_words_are Turn fits = (IsWord-name (codes "turn") refl, tt)
  request_words_are Rest fits = (IsWord-name (codes "rest") refl, tt)
  request_words_are Sync fits = (IsWord-name (codes "sync") refl, tt)
  request_words_are Iter fits = (IsWord-name (codes "iter") refl, tt)
  request_words_are EntryCount fits = (IsWord-name (codes "count") refl, tt)
  request_words_are WeightedSize fits = (IsWord-name (codes "weight") refl, tt)

  -- ---- lines

  -- what words are read as a line are its words
  line-found : (words : List (List ℕ)) (line : CoreLine (List ℕ)) → core_from_words options words ≡ Some line
      → (words ≡ core_words line) × CoreFits options line
  unfolding core_from_words
  line-found [] line e = absurd cc
  line-found (now ∷ []) line e = absurd cc
  line-found (now ∷ call ∷ arguments) line e =
      let (n, now_is, more) = bind_some (number_of now)
      (λ n. request_of options call arguments >>= λ r. Some (record { now = n; request = r })) line e in
      let (r, request_is, shown) = bind_some (request_of options call arguments) (λ r. Some (record { now = n; request = r })) line more in
      let nows = number_of-found now n now_is in
      let requests = request_of-found call arguments r request_is in
      subst (λ l. (now ∷ call ∷ arguments ≡ core_words l) × CoreFits options l) (same_Some _ _ shown)
      (ap (λ w. w ∷ call ∷ arguments) nows.0 ∙ ap (λ l. decimal n ∷ l) requests.0, (nows.1, requests.1))

  -- the words of a request are read as that request
  request_again : (n : ℕ) (r : CoreRequest (List ℕ)) → n < 2 ^ 64 → CoreRequestFits options r
      → core_from_words options (decimal n ∷ core_request_words r) ≡ Some (record { now = n; request = r })
  unfolding core_from_words request_of insert_of bare_of u64_of u32_of no_argument
  request_again n (Insert caller key text weight) small fits =
      rw (
        number_of-decimal n small,
        number_below-decimal (2 ^ 32) caller fits.0 (omega (arith, fits.0)),
        number_of-decimal key fits.1,
        last_weight-again options.weighed weight fits.3,
        text_of-text text fits.2,
      ) refl
  request_again n (Get caller key) small fits = rw (number_of-decimal n small, caller_and_key_of-again caller key fits.0 fits.1) refl
  request_again n (ContainsKey key) small fits = rw (number_of-decimal n small, number_of-decimal key fits) refl
  request_again n (Invalidate caller key) small fits =
      rw (number_of-decimal n small, caller_and_key_of-again caller key fits.0 fits.1) refl
  request_again n (Remove caller key) small fits =
      rw (number_of-decimal n small, caller_and_key_of-again caller key fits.0 fits.1) refl
  request_again n InvalidateAll small fits = rw (number_of-decimal n small) refl
  request_again n (Push caller) small fits =
      rw (number_of-decimal n small, number_below-decimal (2 ^ 32) caller fits (omega (arith, fits))) refl
  request_again n (Forget caller) small fits =
      rw (number_of-decimal n small, number_below-decimal (2 ^ 32) caller fits (omega (arith, fits))) refl
  request_again n Begin small fits = rw (number_of-decimal n small) refl
  request_again n Turn small fits = rw (number_of-decimal n small) refl
  request_again n Rest small fits = rw (number_of-decimal n small) refl
  request_again n Sync small fits = rw (number_of-decimal n small) refl
  request_again n Iter small fits = rw (number_of-decimal n small) refl
  request_again n EntryCount small fits = rw (number_of-decimal n small) refl
  request_again n WeightedSize small fits = rw (number_of-decimal n small) refl

  -- lines of core scripts are read as they are spelled
  pub reads_core : IsReading core_words (CoreFits options) (core_from_words options)
  reads_core = record {
    are_words = λ line fits. (IsWord-decimal line.now fits.0, request_words_are line.request fits.1);
    some = λ line e. absurd cc;
    found = line-found;
    again = λ line fits. request_again line.now line.request fits.0 fits.1;
  }
