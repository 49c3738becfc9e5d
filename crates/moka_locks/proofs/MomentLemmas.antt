-- What each step on the moments keeps of their list.
use Rattle.std.proofs.Common.{◌≡◌, ◌≢◌, ◌∙◌, ℕ, List, [], ◌∷◌, ◌++◌, max, set, slice_index, slice_set, ap, refl, subst, sym, ⊎_elim}
use mathlib.Core.Option.{some}
use lib.ListN.{get_elem?}
use Rattle.atomic_table.specs.Table.{Allows, Enters, Joins, Splits, State, Step, keeps, opening}
use Rattle.atomic_table.proofs.Lists.{at_set, at_snoc, set_again}
use Rattle.moka_locks.specs.Moments.{Came, GoesOn, Invalidated, IsKept, Known, Looked, after_telling, latest, seeing}

-- a list goes on from itself, and from what it goes on from
itself : (log : List ℕ) → GoesOn log log
itself log = ([], refl)

longer : (moment : ℕ) (seen log : List ℕ) → GoesOn seen log → GoesOn seen (moment ∷ log)
longer moment seen log on = (moment ∷ on.0, ap (λ l. moment ∷ l) on.1)

from_none : (log : List ℕ) → GoesOn [] log
from_none [] = ([], refl)
from_none (moment ∷ log) = longer moment [] log (from_none log)

-- both lists of a seat
abbrev Knows : List ℕ → Known → Type 0
Knows log v = GoesOn v.seen log × GoesOn v.heard log

-- with the knowledge of one seat changed
changed : (views : List Known) (log new : List ℕ) (id : ℕ) (w : Known) → ((seat : ℕ) (v : Known) → get_elem? views seat ≡ some v → Knows log v)
    → ((v : Known) → Knows log v → Knows new v) → Knows new w → (seat : ℕ) (v : Known) → get_elem? (set views id w) seat ≡ some v → Knows new v
changed views log new id w all grows own seat v at =
    ⊎_elim (λ (here : (seat ≡ id) × (w ≡ v)). subst (Knows new) here.1 own)
    (λ (there : (seat ≢ id) × (get_elem? views seat ≡ some v)). grows v (all seat v there.1)) (at_set views id seat w v at)

module _ {T : Type 0} where
  each : (s : State T Known) (h : IsKept s) (seat : ℕ) (u : Known) → get_elem? s.views seat ≡ some u → Knows h.log u
  each s h seat u there = (h.seen seat u there, h.heard seat u there)

  -- the list, where each seat knows ends of it
  kept : (words : List ℕ) (homes : List (mathlib.Core.Option.Option T)) (views : List Known) (log : List ℕ) → words ≡ latest log ∷ []
      → ((seat : ℕ) (v : Known) → get_elem? views seat ≡ some v → Knows log v) → IsKept {T = T} (record { words = words; homes = homes; views = views })
  kept words homes views log word all =
      record { log = log; word = word; seen = λ seat v at. (all seat v at).0; heard = λ seat v at. (all seat v at).1 }

  pub begins : (slots : List T) → IsKept {T = T} (opening (0 ∷ []) slots (seeing []))
  begins slots = kept (0 ∷ []) _ (seeing [] ∷ []) [] refl one
    where
      one : (seat : ℕ) (v : Known) → get_elem? (seeing [] ∷ []) seat ≡ some v → Knows [] v
      one Prim.Native.Nat.zero v at = subst (Knows []) (some_is (seeing []) v at) (itself [], itself [])
        where
          some_is : (k l : Known) → some k ≡ some l → k ≡ l
          some_is k l is = cc
      one (Prim.Native.Nat.suc seat) v at = absurd (cc)

  -- one who comes has seen all
  pub comes : (slots : ℕ) (st : Step T) → Enters (IsKept {T = T}) slots 0 (λ n w. Came st (seeing [], []) n (w, []))
  comes slots st s h long small = (
    seeing h.log,
    kept s.words s.homes (s.views ++ seeing h.log ∷ []) h.log h.word
        (λ seat v at. ⊎_elim (λ (was : get_elem? s.views seat ≡ some v). (h.seen seat v was, h.heard seat v was))
        (λ (is : seeing h.log ≡ v). subst (Knows h.log) is (itself h.log, from_none h.log)) (at_snoc s.views (seeing h.log) v seat at)),
    (refl, refl, ap (λ ws. slice_index ws 0) h.word),
  )

  -- who looks has seen all
  pub looks : (slots id : ℕ) (v : Known) (held : List (ℕ × T)) (st : Step T) → Allows (IsKept {T = T}) slots id (v, held) 0 (λ n. n) (Looked st (v, held))
  looks slots id v held st s h long at small = (
    seeing h.log,
    keeps,
    tt,
    kept (slice_set s.words 0 (slice_index s.words 0)) s.homes (set s.views id (seeing h.log)) h.log
        (ap (λ ws. slice_set ws 0 (slice_index ws 0)) h.word)
        (changed s.views h.log h.log id (seeing h.log) (each s h) (λ u is. is) (itself h.log, from_none h.log)),
    record { holds = refl; spent = refl; latest = ap (λ ws. slice_index ws 0) h.word; goes_on = ((each s h) id v at).0; learns = ((each s h) id v at).1 },
  )

  -- who invalidates puts a moment in front
  pub invalidates : (slots id moment : ℕ) (v : Known) (held : List (ℕ × T)) (st : Step T) → st.first ≡ moment
      → Allows (IsKept {T = T}) slots id (v, held) 0 (λ n. max n moment) (Invalidated st (v, held))
  invalidates slots id moment v held st first s h long at small =
      let new = moment ∷ h.log in (
        seeing new,
        keeps,
        tt,
        kept (slice_set s.words 0 (max (slice_index s.words 0) moment)) s.homes (set s.views id (seeing new)) new
            (ap (λ ws. slice_set ws 0 (max (slice_index ws 0) moment)) h.word)
            (changed s.views h.log new id (seeing new) (each s h) (λ u is. (longer moment u.seen h.log is.0, longer moment u.heard h.log is.1))
            (itself new, from_none new)),
        record { holds = refl; spent = refl; seen = record { log = h.log; last = ap (λ m. m ∷ h.log) (sym first); goes_on = ((each s h) id v at).0 } },
      )

  -- a seat tells another
  pub notes : (id : ℕ) (v : Known) → Splits (IsKept {T = T}) id v v (seeing v.seen)
  notes id v s h there =
      let same = set_again s.views id v there in
      kept s.words s.homes (set s.views id v ++ seeing v.seen ∷ []) h.log h.word
      (λ seat u at. ⊎_elim (λ (was : get_elem? (set s.views id v) seat ≡ some u). (each s h) seat u (ap (λ vs. get_elem? vs seat) (sym same) ∙ was))
      (λ (is : seeing v.seen ≡ u). subst (Knows h.log) is (((each s h) id v there).0, from_none h.log)) (at_snoc (set s.views id v) (seeing v.seen) u seat at))

  -- and takes in what it was told
  pub tells : (id : ℕ) (v : Known) (other : ℕ) (w : Known) → Joins (IsKept {T = T}) id v other w (after_telling v w) (seeing [])
  tells id v other w s h there apart near =
      let both = after_telling v w in
      let theirs : Knows h.log w =
      ⊎_elim (λ (here : (other ≡ id) × (both ≡ w)). absurd (apart here.0))
      (λ (there : (other ≢ id) × (get_elem? s.views other ≡ some w)). (each s h) other w there.1) (at_set s.views id other both w near) in
      kept s.words s.homes (set (set s.views id both) other (seeing [])) h.log h.word
      (changed (set s.views id both) h.log h.log other (seeing [])
      (changed s.views h.log h.log id both (each s h) (λ u is. is) (((each s h) id v there).0, theirs.0)) (λ u is. is) (from_none h.log, from_none h.log))
