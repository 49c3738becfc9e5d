-- Lines of one kind, one after another.
use Rattle.std.proofs.Common.{◌≡◌, ◌≢◌, ℕ, zero, suc, ◌+◌, ◌<◌, ◌≤◌, List, [], ◌∷◌, ◌++◌, length, Option, Some, None}
use Rattle.std.proofs.Common.{refl, sym, ap, ◌∙◌, arith, inl, inr, ◌⊎◌, append_assoc, append-nil, length-append}
use Rattle.std.specs.List.{AllByRecursion, flat_map}
use Rattle.std.proofs.Math.Numerals.{add-one}
use Rattle.std.proofs.lemmas.Option.{none-some, some_pair_parts}
use Rattle.moka_grammar.specs.Spelling.{line_of}
use Rattle.moka_grammar.specs.Grammar.{AreLines, LacksLine, IsBadAfter}
use Rattle.moka_grammar.specs.Reading.{line_at, Reads, StopsAfter}
use Rattle.moka_grammar.proofs.LineLemmas.{IsReading, line_at-nothing, line_at-line, line_at-found}

module _ {L : Type 0} (words : L → List (List ℕ)) (Fits : L → Type 0) (from_words : List (List ℕ) → Option L)
    (reads : IsReading words Fits from_words) where
  -- how a line is spelled
  abbrev spelling : L → List ℕ
  spelling line = line_of (words line)

  -- the line in front
  abbrev at : List ℕ → Option (L × List ℕ)
  at = line_at from_words

  -- no line is in front of nothing
  nothing : at [] ≡ None
  nothing = line_at-nothing words Fits from_words reads

  -- a line that is read from the front is spelled there
  found : (bytes : List ℕ) (line : L) (rest : List ℕ) → at bytes ≡ Some (line, rest) → (bytes ≡ spelling line ++ rest) × Fits line
  found = line_at-found words Fits from_words reads

  -- a line in front of any bytes is read
  again : (line : L) (rest : List ℕ) → Fits line → at (spelling line ++ rest) ≡ Some (line, rest)
  again = line_at-line words Fits from_words reads

  -- two lines begin the same bytes only where they are one
  pub one_line : (a b : L) (x y : List ℕ) → Fits a → Fits b → spelling a ++ x ≡ spelling b ++ y → (a ≡ b) × (x ≡ y)
  one_line a b x y ha hb e = some_pair_parts a b x y (sym (again a x ha) ∙ ap at e ∙ again b y hb)

  -- no line is empty
  no_line : (a : L) (x : List ℕ) → Fits a → [] ≡ spelling a ++ x → ⊥
  no_line a x h e = none-some (a, x) (sym nothing ∙ ap at e ∙ again a x h)

  -- bytes are lines in one way only
  pub same_lines : (xs ys : List L) → AllByRecursion Fits xs → AllByRecursion Fits ys → flat_map spelling xs ≡ flat_map spelling ys
      → xs ≡ ys
  same_lines [] [] p q e = refl
  same_lines [] (y ∷ ys) p q e = absurd (no_line y (flat_map spelling ys) q.0 e)
  same_lines (x ∷ xs) [] p q e = absurd (no_line x (flat_map spelling xs) p.0 (sym e))
  same_lines (x ∷ xs) (y ∷ ys) p q e =
      let same = one_line x y (flat_map spelling xs) (flat_map spelling ys) p.0 q.0 e in
      ap (λ l. l ∷ xs) same.0 ∙ ap (λ l. y ∷ l) (same_lines xs ys p.1 q.1 same.1)

  -- lines alone are not lines and then something that is none
  apart : (xs good : List L) (rest : List ℕ) → AllByRecursion Fits xs → AllByRecursion Fits good
      → flat_map spelling xs ≡ flat_map spelling good ++ rest → rest ≢ [] → LacksLine words Fits rest → ⊥
  apart [] [] rest p q e some bad = some (sym e)
  apart [] (g ∷ good) rest p q e some bad =
      no_line g (flat_map spelling good ++ rest) q.0 (e ∙ append_assoc (spelling g) (flat_map spelling good) rest)
  apart (x ∷ xs) [] rest p q e some bad = bad x (flat_map spelling xs) p.0 (sym e)
  apart (x ∷ xs) (g ∷ good) rest p q e some bad =
      let same = one_line x g (flat_map spelling xs) (flat_map spelling good ++ rest) p.0 q.0 (e
      ∙ append_assoc (spelling g) (flat_map spelling good) rest) in
      apart xs good rest p.1 q.1 same.1 some bad

  -- where all are lines none is bad
  pub not_bad : (bytes : List ℕ) (lines : List L) (count : ℕ) → AreLines words Fits bytes lines → IsBadAfter words Fits bytes count → ⊥
  not_bad bytes lines count are bad = apart lines bad.good bad.rest are.0 bad.each (sym are.1 ∙ bad.parts) bad.some bad.bad

  -- what no line begins comes after one number of lines only
  same_length : (xs ys : List L) (x y : List ℕ) → AllByRecursion Fits xs → AllByRecursion Fits ys
      → flat_map spelling xs ++ x ≡ flat_map spelling ys ++ y → LacksLine words Fits x → LacksLine words Fits y → length xs ≡ length ys
  same_length [] [] x y p q e bad worse = refl
  same_length [] (b ∷ ys) x y p q e bad worse =
      absurd (bad b (flat_map spelling ys ++ y) q.0 (e ∙ append_assoc (spelling b) (flat_map spelling ys) y))
  same_length (a ∷ xs) [] x y p q e bad worse =
      absurd (worse a (flat_map spelling xs ++ x) p.0 (sym e ∙ append_assoc (spelling a) (flat_map spelling xs) x))
  same_length (a ∷ xs) (b ∷ ys) x y p q e bad worse =
      let same = one_line a b (flat_map spelling xs ++ x) (flat_map spelling ys ++ y) p.0 q.0
      (sym (append_assoc (spelling a) (flat_map spelling xs) x) ∙ e ∙ append_assoc (spelling b) (flat_map spelling ys) y) in
      ap suc (same_length xs ys x y p.1 q.1 same.1 bad worse)

  -- one line is the first bad one
  pub same_count : (bytes : List ℕ) (m n : ℕ) → IsBadAfter words Fits bytes m → IsBadAfter words Fits bytes n → m ≡ n
  same_count bytes m n a b = a.number ∙ same_length a.good b.good a.rest b.rest a.each b.each (sym a.parts ∙ b.parts) a.bad b.bad
      ∙ sym b.number

  -- ---- either all are lines, or there is a first bad one

  -- all are lines, or there is a first bad one
  abbrev Outcome : List ℕ → Type 0
  Outcome bytes = ((lines : List L) × AreLines words Fits bytes lines) ⊎ ((count : ℕ) × IsBadAfter words Fits bytes count)

  -- one line more in front
  prepended : (bytes : List ℕ) (line : L) (rest : List ℕ) → bytes ≡ spelling line ++ rest → Fits line → Outcome rest → Outcome bytes
  prepended bytes line rest e h (inl (lines, are)) = inl (line ∷ lines, ((h, are.0), e ∙ ap (λ l. spelling line ++ l) are.1))
  prepended bytes line rest e h (inr (count, bad)) = inr (
    count + 1,
    record {
      good = line ∷ bad.good;
      rest = bad.rest;
      each = (h, bad.each);
      parts = e ∙ ap (λ l. spelling line ++ l) bad.parts ∙ sym (append_assoc (spelling line) (flat_map spelling bad.good) bad.rest);
      number = add-one count ∙ ap suc bad.number;
      some = bad.some;
      bad = bad.bad;
    },
  )

  -- what is behind a line is shorter than the whole
  pub shorter : (bytes : List ℕ) (line : L) (rest : List ℕ) → bytes ≡ spelling line ++ rest → Fits line → length rest < length bytes
  shorter bytes line rest e h =
      elim (spelling line) as (λ s. spelling line ≡ s → length rest < length bytes) [
        | [] ↦ λ empty. absurd (no_line line [] h (sym (ap (λ s. s ++ []) empty)))
        | b ∷ bs ↦ λ is. omega (arith, ap length (e ∙ ap (λ s. s ++ rest) is), length-append bs rest)
      ] refl

  -- the same for bytes of at most this length
  outcome_within : (fuel : ℕ) (bytes : List ℕ) → length bytes ≤ fuel → Outcome bytes
  outcome_within fuel [] h = inl ([], (tt, refl))
  outcome_within zero (b ∷ bytes) h = absurd (omega arith)
  outcome_within (suc fuel) (b ∷ bytes) h =
      elim (at (b ∷ bytes)) as (λ o. at (b ∷ bytes) ≡ o → Outcome (b ∷ bytes)) [
        | None ↦ λ none. inr (
          0,
          record {
            good = [];
            rest = b ∷ bytes;
            each = tt;
            parts = refl;
            number = refl;
            some = λ e. absurd cc;
            bad = λ line more fits e. none-some (line, more) (sym none ∙ ap at e ∙ again line more fits);
          },
        )
        | Some p ↦ λ is.
            let first = found (b ∷ bytes) p.0 p.1 is in
            let less = shorter (b ∷ bytes) p.0 p.1 first.0 first.1 in
            prepended (b ∷ bytes) p.0 p.1 first.0 first.1 (outcome_within fuel p.1 (omega arith))
      ] refl

  -- one of the two is so
  pub outcome_of : (bytes : List ℕ) → Outcome bytes
  outcome_of bytes = outcome_within (length bytes) bytes (omega arith)

  -- ---- what was read

  -- what was read is spelled in front of the rest
  parts_read : (bytes : List ℕ) (lines : List L) (rest : List ℕ) → Reads from_words bytes lines rest
      → AllByRecursion Fits lines × (bytes ≡ flat_map spelling lines ++ rest)
  parts_read bytes [] rest e = (tt, e)
  parts_read bytes (line ∷ lines) rest (behind, e, more) =
      let first = found bytes line behind e in
      let others = parts_read behind lines rest more in (
        (first.1, others.0),
        first.0 ∙ ap (λ l. spelling line ++ l) others.1
            ∙ sym (append_assoc (spelling line) (flat_map spelling lines) rest),
      )

  -- where nothing is left the bytes are the lines
  pub all_read : (bytes : List ℕ) (lines : List L) → Reads from_words bytes lines [] → AreLines words Fits bytes lines
  all_read bytes lines r =
      let parts = parts_read bytes lines [] r in
      (parts.0, parts.1 ∙ append-nil (flat_map spelling lines))

  -- where no further line is read the next one is bad
  pub bad_where_stopped : (bytes : List ℕ) (count : ℕ) → StopsAfter from_words bytes count → IsBadAfter words Fits bytes count
  bad_where_stopped bytes count stops =
      let parts = parts_read bytes stops.good stops.rest stops.reads in
      record {
        good = stops.good;
        rest = stops.rest;
        each = parts.0;
        parts = parts.1;
        number = stops.number;
        some = stops.some;
        bad = λ line more fits e. none-some (line, more) (sym stops.none ∙ ap at e ∙ again line more fits);
      }

  -- where no line is read none is there
  pub lacks_line : (bytes : List ℕ) → at bytes ≡ None → LacksLine words Fits bytes
  lacks_line bytes none line rest fits e = none-some (line, rest) (sym none ∙ ap at e ∙ again line rest fits)
