-- One segment after another.
use Rattle.std.proofs.Common.{◌≡◌, ◌≢◌, ℕ, ◌+◌, ◌-◌, ◌^◌, ◌<◌, ◌∙◌, List, [], ◌∷◌, ◌++◌, append_assoc, ap, arith, refl, subst, sym, min}
use Rattle.std.specs.Prelude.{fold, slice_index, slice_index_or, sum}
use Rattle.std.proofs.Math.ListN.{get_or-append}
use Rattle.std.proofs.Math.Seq.{get_or-append_seam}
use Rattle.std.proofs.lemmas.List.{append-nil, length-append}
use Rattle.moka_common.specs.Keys.{Keys}
use Rattle.moka_unsync_model.specs.Step.{Answer, Request, Iterate, Number, Pairs}
use Rattle.moka_row.specs.Visits.{visits_by}
use Rattle.moka_row.proofs.Rules.{same_or}
use Rattle.moka_segments.specs.declared.plan.Plan.{Plan}
use Rattle.moka_segments.specs.Rules.{Rules}
use Rattle.moka_segments.specs.History.{IsLedBy, Knows, Log, Visit, joined}
use Rattle.std.specs.Borrow.{Bor}
use Rattle.std.specs.Prelude.{Bool}
use Rattle.moka_segments.specs.Calls.{Copies, Makes, MakesAll, MakesIn, SameIn, Sums, VisitsIn}
use Rattle.moka_segments.specs.TellsAll.{InvalidatesAllIf, InvalidatesIf, Sweeps, SweepsAll}

fold_more : (so_far : ℕ) (xs : List ℕ) (n : ℕ) → fold (λ a x. a + x) so_far (xs ++ n ∷ []) ≡ fold (λ a x. a + x) so_far xs + n
fold_more so_far [] n = refl
fold_more so_far (x ∷ xs) n = fold_more (so_far + x) xs n

sum_more : (xs : List ℕ) (n : ℕ) → sum (xs ++ n ∷ []) ≡ sum xs + n
sum_more xs n = fold_more 0 xs n

pub joined_more : {X : Type 0} (parts : List (List X)) (part : List X) → joined parts ++ part ≡ joined (parts ++ part ∷ [])
joined_more [] part = sym (append-nil part)
joined_more (p ∷ parts) part = append_assoc p (joined parts) part ∙ ap (λ l. p ++ l) (joined_more parts part)

module _ {K V S W : Type 0} (keys : Keys K S) (weighs : W → K → V → ℕ → W → Type 0) (rules : Rules K V) (plan : Plan S) where
  -- a visit to another segment leaves it
  later_too : (v u w : Knows K V S W) (i : ℕ) (visit : Visit K V S W) → VisitsIn keys weighs rules plan v i visit u → SameIn u i w → w.by ≡ u.by
      → VisitsIn keys weighs rules plan v i visit w
  later_too v u w i visit m still same = record {
    cache = m.cache;
    since = m.since;
    history = subst (λ (l : Log K V S W). IsLedBy keys weighs rules plan i l m.cache) (sym still.0) m.history;
    seen = still.0 ∙ m.seen;
    mine = still.1 ∙ m.mine;
    told = m.told;
    same = same ∙ m.same;
  }

  -- and stands behind those in others
  from_before : (v u w : Knows K V S W) (i : ℕ) (visit : Visit K V S W) → SameIn v i u → u.by ≡ v.by → VisitsIn keys weighs rules plan u i visit w
      → VisitsIn keys weighs rules plan v i visit w
  from_before v u w i visit still same m = record {
    cache = m.cache;
    since = m.since;
    history = m.history;
    seen = m.seen ∙ (λ k. (same k, visit) ∷ (m.since ++ still.0 k));
    mine = m.mine ∙ ap (λ l. visit ∷ l) still.1;
    told = (λ k. visits_by (sym same k) (m.since ++ sym still.0 k)) ∙ (m.told ∙ still.1);
    same = m.same ∙ same;
  }

  pub none_yet : (v : Knows K V S W) (requests : ℕ → Request K V) (answers : ℕ → Answer K V) → MakesAll keys weighs rules plan v 0 requests answers v
  none_yet v requests answers = record { made = λ i lt. absurd (omega arith); later = λ i le. (refl, refl); same = refl }

  -- one segment more
  pub one_more : (v u w : Knows K V S W) (count : ℕ) (requests : ℕ → Request K V) (answers : ℕ → Answer K V) (request : Request K V) (answer : Answer K V)
      → MakesAll keys weighs rules plan v count requests answers u → Makes keys weighs rules plan u count request answer w → requests count ≡ request
      → answers count ≡ answer
      → MakesAll keys weighs rules plan v (count + 1) requests answers w
  one_more v u w count requests answers request answer all m asks is = record {
    made = λ i lt. same_or i count
        (λ here. subst (λ k. MakesIn keys weighs rules plan v k (requests k) (answers k) w) (sym here) (record {
          call = m.made.call;
          asked = m.made.asked ∙ sym asks;
          answered = m.made.answered ∙ sym is;
          visit = from_before v u w count (m.made.call ∷ []) (all.later count (omega arith)) all.same m.made.visit;
        }))
        (λ apart. let was = all.made i (omega arith) in record {
          call = was.call;
          asked = was.asked;
          answered = was.answered;
          visit = later_too v u w i (was.call ∷ []) was.visit (m.others i apart) m.made.visit.same;
        });
    later = λ i le.
        let before = all.later i (omega arith) in
        let now = m.others i (λ e. omega arith) in
        (now.0 ∙ before.0, now.1 ∙ before.1);
    same = m.made.visit.same ∙ all.same;
  }

  -- with other requests and answers that are the same so far
  pub so_far_same : (v u : Knows K V S W) (count : ℕ) (requests asked : ℕ → Request K V) (answers other : ℕ → Answer K V) → ((i : ℕ) → i < count
      → requests i ≡ asked i)
      → ((i : ℕ) → i < count → answers i ≡ other i) → MakesAll keys weighs rules plan v count requests answers u
      → MakesAll keys weighs rules plan v count asked other u
  so_far_same v u count requests asked answers other asks same all = record {
    made = λ i lt.
        let was = all.made i lt in
        record { call = was.call; asked = was.asked ∙ asks i lt; answered = was.answered ∙ same i lt; visit = was.visit };
    later = all.later;
    same = all.same;
  }

  pub no_sum : (v : Knows K V S W) (request : Request K V) → Sums keys weighs rules plan v 0 request 0 v
  no_sum v request = record { numbers = []; whole = refl; made = none_yet v (λ i. request) (λ i. Number (slice_index [] i)); told = refl }

  pub sums_more : (v u w : Knows K V S W) (count : ℕ) (request : Request K V) (so_far number result : ℕ) → Sums keys weighs rules plan v count request so_far u
      → Makes keys weighs rules plan u count request (Number number) w → result ≡ min (so_far + number) (2 ^ 64 - 1)
      → Sums keys weighs rules plan v (count + 1) request result w
  sums_more v u w count request so_far number result s m told =
      let numbers : List ℕ = s.numbers ++ number ∷ [] in
      let below : (i : ℕ) → i < count → slice_index s.numbers i ≡ slice_index numbers i = λ i lt. sym (get_or-append s.numbers (number ∷ []) 0 i
      (let l = s.whole in omega arith)) in
      let here : slice_index numbers count ≡ number = ap (λ (n : ℕ). slice_index numbers n) (sym s.whole) ∙ get_or-append_seam s.numbers number [] 0 in
      let added : sum numbers ≡ sum s.numbers + number = sum_more s.numbers number in
      record {
        numbers = numbers;
        whole = let l = length-append s.numbers (number ∷ []) in let whole = s.whole in omega arith;
        made = one_more v u w count (λ i. request) (λ i. Number (slice_index numbers i)) request (Number number)
            (so_far_same v u count (λ i. request) (λ i. request) (λ i. Number (slice_index s.numbers i)) (λ i. Number (slice_index numbers i)) (λ i lt. refl)
            (λ i lt. ap Number (below i lt)) s.made)
            m refl (ap Number here);
        told = let t = s.told in omega (arith, added, told);
      }

  abbrev pub no_parts : (v : Knows K V S W) (now : ℕ) → Copies keys weighs rules plan v 0 now [] v
  no_parts v now = record { parts = []; whole = refl; made = none_yet v (λ i. Iterate now) (λ i. Pairs (slice_index_or [] i [])); told = refl }

  abbrev pub parts_more : (v u w : Knows K V S W) (count now : ℕ) (so_far part : List (K × V)) → Copies keys weighs rules plan v count now so_far u
      → Makes keys weighs rules plan u count (Iterate now) (Pairs part) w → Copies keys weighs rules plan v (count + 1) now (so_far ++ part) w
  parts_more v u w count now so_far part s m =
      let parts : List (List (K × V)) = s.parts ++ part ∷ [] in
      let below : (i : ℕ) → i < count → slice_index_or s.parts i [] ≡ slice_index_or parts i [] = λ i lt. sym (get_or-append s.parts (part ∷ []) [] i
      (let l = s.whole in omega arith)) in
      let here : slice_index_or parts count [] ≡ part = ap (λ (n : ℕ). slice_index_or parts n []) (sym s.whole) ∙ get_or-append_seam s.parts part [] [] in
      record {
        parts = parts;
        whole = let l = length-append s.parts (part ∷ []) in let whole = s.whole in omega arith;
        made = one_more v u w count (λ i. Iterate now) (λ i. Pairs (slice_index_or parts i [])) (Iterate now) (Pairs part)
            (so_far_same v u count (λ i. Iterate now) (λ i. Iterate now) (λ i. Pairs (slice_index_or s.parts i [])) (λ i. Pairs (slice_index_or parts i []))
            (λ i lt. refl) (λ i lt. ap Pairs (below i lt)) s.made)
            m refl (ap Pairs here);
        told = ap (λ l. l ++ part) s.told ∙ joined_more s.parts part;
      }

  pub none_yet_swept : (now : ℕ) (v : Knows K V S W) → SweepsAll keys weighs rules plan now v 0 v
  none_yet_swept now v = record { made = λ i lt. absurd (omega arith); later = λ i le. (refl, refl); same = refl }

  -- what was expired left one segment more
  pub one_more_swept_in : (now : ℕ) (v u w : Knows K V S W) (count : ℕ) → SweepsAll keys weighs rules plan now v count u
      → Sweeps keys weighs rules plan now u count w → ((j : ℕ) → j ≢ count → SameIn u j w) → SweepsAll keys weighs rules plan now v (count + 1) w
  one_more_swept_in now v u w count all m others = record {
    made = λ i lt. same_or i count
        (λ here. subst (λ k. Sweeps keys weighs rules plan now v k w) (sym here) (record {
          answers = m.answers;
          made = record {
            call = m.made.call;
            asked = m.made.asked;
            answered = m.made.answered;
            visit = from_before v u w count (m.made.call ∷ []) (all.later count (omega arith)) all.same m.made.visit;
          };
          left = m.left;
        }))
        (λ apart. let was = all.made i (omega arith) in record {
          answers = was.answers;
          made = record {
            call = was.made.call;
            asked = was.made.asked;
            answered = was.made.answered;
            visit = later_too v u w i (was.made.call ∷ []) was.made.visit (others i apart) m.made.visit.same;
          };
          left = was.left;
        });
    later = λ i le.
        let before = all.later i (omega arith) in
        let now = others i (λ e. omega arith) in
        (now.0 ∙ before.0, now.1 ∙ before.1);
    same = m.made.visit.same ∙ all.same;
  }

  module _ {F : Type 0} (asks : F → Bor K → Bor V → Bool → F → Type 0) (predicate : F) where
    pub none_yet_if : (v : Knows K V S W) → InvalidatesAllIf keys weighs rules plan asks predicate v 0 v
    none_yet_if v = record { made = λ i lt. absurd (omega arith); later = λ i le. (refl, refl); same = refl }

    -- a predicate was asked in one segment more
    pub one_more_if : (v u w : Knows K V S W) (count : ℕ) → InvalidatesAllIf keys weighs rules plan asks predicate v count u
        → InvalidatesIf keys weighs rules plan asks predicate u count w
        → ((j : ℕ) → j ≢ count → SameIn u j w) → InvalidatesAllIf keys weighs rules plan asks predicate v (count + 1) w
    one_more_if v u w count all m others = record {
      made = λ i lt. same_or i count
          (λ here. subst (λ k. InvalidatesIf keys weighs rules plan asks predicate v k w) (sym here) (record {
            answers = m.answers;
            made = record {
              call = m.made.call;
              asked = m.made.asked;
              answered = m.made.answered;
              visit = from_before v u w count (m.made.call ∷ []) (all.later count (omega arith)) all.same m.made.visit;
            };
            told = m.told;
            asked = m.asked;
            left = m.left;
          }))
          (λ apart. let was = all.made i (omega arith) in record {
            answers = was.answers;
            made = record {
              call = was.made.call;
              asked = was.made.asked;
              answered = was.made.answered;
              visit = later_too v u w i (was.made.call ∷ []) was.made.visit (others i apart) m.made.visit.same;
            };
            told = was.told;
            asked = was.asked;
            left = was.left;
          });
      later = λ i le.
          let before = all.later i (omega arith) in
          let now = others i (λ e. omega arith) in
          (now.0 ∙ before.0, now.1 ∙ before.1);
      same = m.made.visit.same ∙ all.same;
    }
