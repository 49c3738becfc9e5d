-- Bytes are cut at their first line feed.
use Rattle.std.proofs.Common.{◌≡◌, ℕ, suc, ◌+◌, List, [], ◌∷◌, ◌++◌, true, false, cond, ltb, ◌==◌, length}
use Rattle.std.proofs.Common.{take, drop, Option, Some, None, refl, sym, ap, ◌∙◌, subst, arith, inl, inr}
use Rattle.std.specs.List.{position, position_or_len}
use Rattle.std.proofs.lemmas.Bool.{cases_lt, lt-ltb, le-ltb}
use Rattle.std.proofs.Math.Numerals.{add-one, one-add}
use Rattle.std.proofs.Common.{drop-drop}
use Rattle.std.proofs.lemmas.Bool.Decides.{eqb_tells}
use Rattle.std.proofs.lemmas.Option.{some_pair_parts, cond_some, none-some}
use Rattle.moka_grammar.specs.Spelling.{line_feed}
use Rattle.moka_grammar.specs.Reading.{◌>>=◌, cut}
use Rattle.moka_grammar.proofs.WordLemmas.{IsInLine, not_equal}

-- the value of a step that gave one
pub bind_some : {A B : Type 0} (o : Option A) (f : A → Option B) (y : B) → (o >>= f) ≡ Some y → (x : A) × (o ≡ Some x) × (f x ≡ Some y)
bind_some None f y e = absurd cc
bind_some (Some x) f y e = (x, refl, e)

-- one more byte in front of the line
abbrev with_front : ℕ → List ℕ × List ℕ → Option (List ℕ × List ℕ)
with_front b parts = Some (b ∷ parts.0, parts.1)

-- the cut is at a line feed in front
cut-feed : (b : ℕ) (bytes : List ℕ) → (b == line_feed) ≡ true → cut (b ∷ bytes) ≡ Some ([], bytes)
unfolding cut
cut-feed b bytes e = rw e refl

-- any other byte in front belongs to the line
cut-other : (b : ℕ) (bytes : List ℕ) → (b == line_feed) ≡ false → cut (b ∷ bytes) ≡ (cut bytes >>= with_front b)
unfolding cut
cut-other b bytes e = rw e refl

-- a line and its end are cut off from any bytes behind them
pub cut-line : (line rest : List ℕ) → IsInLine line → cut (line ++ line_feed ∷ rest) ≡ Some (line, rest)
cut-line [] rest h = cut-feed line_feed rest refl
cut-line (b ∷ line) rest h = cut-other b (line ++ line_feed ∷ rest) (not_equal b line_feed h.0)
    ∙ ap (λ o. o >>= with_front b) (cut-line line rest h.1)

-- what is cut off is the front, up to a line feed
pub cut-found : (bytes line rest : List ℕ) → cut bytes ≡ Some (line, rest) → bytes ≡ line ++ line_feed ∷ rest
unfolding cut
cut-found [] line rest e = absurd cc
cut-found (b ∷ bytes) line rest e =
    elim (eqb_tells b line_feed) [
      | inl feed ↦
          let parts = some_pair_parts _ _ _ _ (sym (cut-feed b bytes feed.0) ∙ e) in
          subst (λ l. b ∷ bytes ≡ l ++ line_feed ∷ rest) parts.0 (ap (λ x. x ∷ bytes) feed.1 ∙ ap (λ l. line_feed ∷ l) parts.1)
      | inr other ↦
          let (found, was, shown) = bind_some (cut bytes) (with_front b) (line, rest) (sym (cut-other b bytes other.0) ∙ e) in
          let parts = some_pair_parts _ _ _ _ shown in
          ap (λ l. b ∷ l) (cut-found bytes found.0 found.1 was)
          ∙ ap (λ l. l ++ line_feed ∷ found.1) parts.0 ∙ ap (λ l. line ++ line_feed ∷ l) parts.1
    ]

-- ---- where the line feed is

-- where the first line feed is, or the length
abbrev pub feed_at : List ℕ → ℕ
feed_at bytes = position_or_len (λ b. b == line_feed) bytes

-- the cut by that index, as the code makes it
abbrev cut_by_index : List ℕ → Option (List ℕ × List ℕ)
cut_by_index bytes = cond (ltb (feed_at bytes) (length bytes)) (Some (take (feed_at bytes) bytes, drop (feed_at bytes + 1) bytes)) None

-- one byte more in front moves the index by one
shift : (b : ℕ) (bytes : List ℕ) (p : ℕ) → (cond (ltb p (length bytes)) (Some (take p bytes, drop (p + 1) bytes)) None >>= with_front b)
    ≡ cond (ltb (1 + p) (length (b ∷ bytes))) (Some (take (1 + p) (b ∷ bytes), drop ((1 + p) + 1) (b ∷ bytes))) None
shift b bytes p =
    rw (one-add p, add-one p, add-one (suc p)) (elim (cases_lt p (length bytes)) [
      | inl lt ↦ rw (lt-ltb p (length bytes) lt, lt-ltb (suc p) (suc (length bytes)) (omega arith)) refl
      | inr le ↦ rw (le-ltb p (length bytes) le, le-ltb (suc p) (suc (length bytes)) (omega arith)) refl
    ])

-- both ways to cut are one
cut-index : (bytes : List ℕ) → cut bytes ≡ cut_by_index bytes
unfolding cut
cut-index [] = refl
cut-index (b ∷ bytes) =
    elim (eqb_tells b line_feed) [
      | inl feed ↦ rw (feed.0, lt-ltb 0 (suc (length bytes)) (omega arith)) refl
      | inr other ↦ rw (other.0, cut-index bytes) (shift b bytes (feed_at bytes))
    ]

-- what the code returns where there is a line feed
pub cut-some : (bytes : List ℕ) (i : ℕ) (line rest : List ℕ) → position (λ b. b == line_feed) bytes ≡ Some i → line ≡ take i bytes
    → rest ≡ drop i bytes → cut bytes ≡ Some (line, drop 1 rest)
cut-some bytes i line rest at is_line is_rest =
    let found = cond_some (ltb (feed_at bytes) (length bytes)) (feed_at bytes) i at in
    cut-index bytes ∙ rw (found.0, found.1, is_line, is_rest) (ap (λ l. Some (take i bytes, l)) (sym (drop-drop 1 i bytes)))

-- with no line feed there is no cut
pub cut-none : (bytes : List ℕ) → position (λ b. b == line_feed) bytes ≡ None → cut bytes ≡ None
cut-none bytes none =
    elim (cases_lt (feed_at bytes) (length bytes)) [
      | inl lt ↦ absurd (none-some (feed_at bytes) (sym none ∙ rw (lt-ltb (feed_at bytes) (length bytes) lt) refl))
      | inr le ↦ cut-index bytes ∙ rw (le-ltb (feed_at bytes) (length bytes) le) refl
    ]
