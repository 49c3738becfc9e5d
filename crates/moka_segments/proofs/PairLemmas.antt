-- The pairs of a snapshot: each is current in its segment's history, and each key is there once.
use Rattle.std.proofs.Common.{◌≡◌, ℕ, ◌+◌, ◌<◌, ◌∙◌, Bool, true, false, cond, not, List, [], ◌∷◌, ◌++◌, All, filter, map, ap, arith, refl, subst, sym}
use Rattle.std.specs.Prelude.{slice_index_or}
use Rattle.std.specs.Cmp.{IsEquivalence}
use Rattle.std.specs.List.{AllByRecursion, AllZip, IsDistinct}
use Rattle.std.proofs.Math.ListN.{get_or-append}
use Rattle.std.proofs.Math.Seq.{get_or-append_seam}
use Rattle.std.proofs.lemmas.List.Elements.{All-head, All-tail}
use Rattle.std.proofs.lemmas.Map.Keys.{IsDistinct-cons, IsDistinct-head, IsDistinct-tail}
use Rattle.moka_common.specs.Keys.{Keys}
use Rattle.moka_unsync_model.specs.declared.entry.Entry.{Entry}
use Rattle.moka_unsync_model.specs.Contents.{entry_keys}
use Rattle.moka_unsync_model.specs.Iterate.{pairs_at, pairs_of}
use Rattle.moka_unsync_model.specs.Cleanup.{is_expired}
use Rattle.moka_unsync_model.specs.Step.{Iterate, Pairs}
use Rattle.moka_unsync_model.specs.History.{Exchange, IsCurrent, LastWritesAreInserts, PairsAreCurrent, Transition, exchange_of, exchanges}
use Rattle.moka_unsync_model.proofs.HistoryLemmas.{once-run}
use Rattle.moka_unsync_model.proofs.KeyLemmas.{none_stand}
use Rattle.moka_row.specs.Visits.{at}
use Rattle.moka_row.proofs.Rules.{same_or}
use Rattle.moka_segments.specs.declared.plan.Plan.{Plan}
use Rattle.moka_segments.specs.Plan.{place_of, segment_of, settings_of}
use Rattle.moka_segments.specs.Rules.{Rules}
use Rattle.moka_segments.specs.History.{Every, IsOfSegment, Knows, Log, calls, rest}
use Rattle.moka_segments.specs.Calls.{Makes, MakesIn}
use Rattle.moka_segments.specs.TellsAll.{Snapshots}
use Rattle.moka_segments.proofs.AllLemmas.{no_parts, parts_more}
use Rattle.moka_segments.proofs.CallLemmas.{every_both}
use Rattle.moka_segments.proofs.LawLemmas.{parts, rest_is, step_of}

-- what holds pair by pair of two lists and of two others holds of both together
pub zipped_both : {A B : Type 0} (R : A → B → Type 0) (xs : List A) (ys : List B) (us : List A) (vs : List B) → AllZip R xs ys → AllZip R us vs
    → AllZip R (xs ++ us) (ys ++ vs)
zipped_both R [] [] us vs a b = b
zipped_both R [] (y ∷ ys) us vs a b = absurd a
zipped_both R (x ∷ xs) [] us vs a b = absurd a
zipped_both R (x ∷ xs) (y ∷ ys) us vs a b = (a.0, zipped_both R xs ys us vs a.1 b)

every_of_all : {X : Type 0} (P : X → Type 0) (xs : List X) → All P xs → Every P xs
every_of_all P [] all = tt
every_of_all P (x ∷ xs) all = (All-head P x xs all, every_of_all P xs (All-tail P x xs all))

every_with : {X : Type 0} (P Q R : X → Type 0) (xs : List X) → ((x : X) → P x → Q x) → Every P xs → Every Q xs
every_with P Q R [] f all = tt
every_with P Q R (x ∷ xs) f all = (f x all.0, every_with P Q R xs f all.1)

-- keys of two lists, of which none of one is equal to one of the other
module _ {K V : Type 0} (eq : K → K → Bool) where
  abbrev keys_in : List (K × V) → List K
  keys_in pairs = map (λ p. p.0) pairs

  apart_both : (key : K) (xs ys : List (K × V)) → AllByRecursion (λ y. eq key y ≡ false) (keys_in xs) → AllByRecursion (λ y. eq key y ≡ false) (keys_in ys)
      → AllByRecursion (λ y. eq key y ≡ false) (keys_in (xs ++ ys))
  apart_both key [] ys a b = b
  apart_both key (x ∷ xs) ys a b = (a.0, apart_both key xs ys a.1 b)

  distinct_both : (xs ys : List (K × V)) → IsDistinct eq (keys_in xs) → IsDistinct eq (keys_in ys)
      → Every (λ x. AllByRecursion (λ y. eq x.0 y ≡ false) (keys_in ys)) xs
      → IsDistinct eq (keys_in (xs ++ ys))
  distinct_both [] ys a b apart = b
  distinct_both (x ∷ xs) ys a b apart =
      IsDistinct-cons eq x.0 (keys_in (xs ++ ys)) (apart_both x.0 xs ys (IsDistinct-head eq x.0 (keys_in xs) a) apart.0) (distinct_both xs ys
      (IsDistinct-tail eq x.0 (keys_in xs) a) b apart.1)

  -- some of the entries, as pairs
  apart_some : (key : K) (test : Entry K V → Bool) (es : List (Entry K V)) → AllByRecursion (λ y. eq key y ≡ false) (entry_keys es)
      → AllByRecursion (λ y. eq key y ≡ false) (keys_in (pairs_of (filter test es)))
  apart_some key test [] a = tt
  apart_some key test (e ∷ es) a = go (test e) (apart_some key test es a.1)
    where
      go : (b : Bool) → AllByRecursion (λ y. eq key y ≡ false) (keys_in (pairs_of (filter test es)))
          → AllByRecursion (λ y. eq key y ≡ false) (keys_in (pairs_of (cond b (e ∷ filter test es) (filter test es))))
      go true more = (a.0, more)
      go false more = more

  distinct_some : (test : Entry K V → Bool) (es : List (Entry K V)) → IsDistinct eq (entry_keys es) → IsDistinct eq (keys_in (pairs_of (filter test es)))
  distinct_some test [] a = a
  distinct_some test (e ∷ es) a = go (test e) (distinct_some test es (IsDistinct-tail eq e.key (entry_keys es) a))
    where
      go : (b : Bool) → IsDistinct eq (keys_in (pairs_of (filter test es))) → IsDistinct eq (keys_in (pairs_of (cond b (e ∷ filter test es) (filter test es))))
      go true more = IsDistinct-cons eq e.key (keys_in (pairs_of (filter test es))) (apart_some e.key test es (IsDistinct-head eq e.key (entry_keys es) a)) more
      go false more = more

module _ {K V S W : Type 0} (keys : Keys K S) (weighs : W → K → V → ℕ → W → Type 0) (rules : Rules K V) (plan : Plan S) (laws : IsEquivalence keys.eq)
    (respects : (s : S) (x y : K) → keys.eq x y ≡ true → keys.hash_of s x ≡ keys.hash_of s y) where
  same_place : (x y : K) → keys.eq x y ≡ true → place_of plan keys x ≡ place_of plan keys y
  same_place x y same = ap (λ hash. segment_of hash plan.count) (respects plan.hash_state x y same)

  apart_places : (i : ℕ) (key : K) (ys : List (K × V)) → place_of plan keys key < i → Every (λ p. place_of plan keys p.0 ≡ i) ys
      → AllByRecursion (λ y. keys.eq key y ≡ false) (map (λ p. p.0) ys)
  apart_places i key [] lt all = tt
  apart_places i key (y ∷ ys) lt all = (go (keys.eq key y.0) refl, apart_places i key ys lt all.1)
    where
      go : (b : Bool) → keys.eq key y.0 ≡ b → b ≡ false
      go true same = let place = same_place key y.0 same in let there = all.0 in absurd (omega arith)
      go false same = refl

  module _ (v w : Knows K V S W) (i now : ℕ) (pairs : List (K × V)) (m : MakesIn keys weighs rules plan v i (Iterate now) (Pairs pairs) w) where
    -- each pair is current
    pairs_current : PairsAreCurrent keys weighs → Every (λ p. IsCurrent keys plan.policy now (exchanges (calls (rest (at w.seen i)))) p.0 p.1) pairs
    pairs_current law =
        subst (λ (log : Log K V S W). Every (λ p. IsCurrent keys plan.policy now (exchanges (calls log)) p.0 p.1) pairs) (sym
        (rest_is keys weighs rules plan v w i (Iterate now) (Pairs pairs) m))
        (every_of_all (λ p. IsCurrent keys plan.policy now (exchanges (calls (m.visit.since ++ at v.seen i))) p.0 p.1) pairs
        (law (settings_of plan i) plan.shares m.visit.history.weigher m.visit.history.capacity (calls
        (m.visit.since ++ at v.seen i)) m.call.before m.call.after now pairs
        (parts keys weighs rules plan v w i (Iterate now) (Pairs pairs) m).2 (step_of keys weighs rules plan v w i (Iterate now) (Pairs pairs) m)))

    -- so its key is of the segment
    own_at : (since : List (Exchange K V)) (insert : Exchange K V) (earlier : List (Exchange K V)) (past : List (Transition K V S W))
        → exchanges past ≡ since ++ insert ∷ earlier
        → Every (λ call. IsOfSegment keys plan i call.request) past → IsOfSegment keys plan i insert.request
    own_at [] insert earlier [] parts all = absurd (cc)
    own_at [] insert earlier (call ∷ past) parts all = subst (λ (e : Exchange K V). IsOfSegment keys plan i e.request) (head_same (exchange_of call) insert
        (exchanges past) earlier parts) all.0
      where
        head_same : {X : Type 0} (x y : X) (xs ys : List X) → x ∷ xs ≡ y ∷ ys → x ≡ y
        head_same x y xs ys e = cc
    own_at (e ∷ since) insert earlier [] parts all = absurd (cc)
    own_at (e ∷ since) insert earlier (call ∷ past) parts all = own_at since insert earlier past (tail_same (exchange_of call) e (exchanges past)
        (since ++ insert ∷ earlier) parts) all.1
      where
        tail_same : {X : Type 0} (x y : X) (xs ys : List X) → x ∷ xs ≡ y ∷ ys → xs ≡ ys
        tail_same x y xs ys e = cc

    pairs_placed : PairsAreCurrent keys weighs → LastWritesAreInserts keys V → Every (λ p. place_of plan keys p.0 ≡ i) pairs
    pairs_placed law writes =
        let log = m.visit.since ++ at v.seen i in
        let own : Every (λ call. IsOfSegment keys plan i call.request) (m.call ∷ calls log) =
        subst (λ (l : Log K V S W). Every (λ call. IsOfSegment keys plan i call.request) (calls l)) m.visit.seen m.visit.history.own in
        let before : Every (λ call. IsOfSegment keys plan i call.request) (calls (rest (at w.seen i))) =
        subst (λ (l : Log K V S W). Every (λ call. IsOfSegment keys plan i call.request) (calls l)) (sym (rest_is keys weighs rules plan v w i (Iterate now)
        (Pairs pairs) m)) own.1 in
        every_with (λ p. IsCurrent keys plan.policy now (exchanges (calls (rest (at w.seen i)))) p.0 p.1) (λ p. place_of plan keys p.0 ≡ i)
        (λ p. Unit {0}) pairs
        (λ p is.
        let last = writes (exchanges (calls (rest (at w.seen i)))) p.0 is.0 is.1 in
        let insert : IsOfSegment keys plan i last.insert.request = own_at last.since last.insert last.earlier (calls (rest (at w.seen i))) last.parts before in
        let there : place_of plan keys last.other ≡ i = subst (IsOfSegment keys plan i) last.asked insert in
        sym (same_place last.other p.0 last.equal) ∙ there)
        (pairs_current law)

    pairs_once : IsDistinct keys.eq (map (λ p. p.0) pairs)
    pairs_once =
        let led = parts keys weighs rules plan v w i (Iterate now) (Pairs pairs) m in
        let once = once-run keys laws weighs (settings_of plan i) plan.shares m.visit.history.weigher m.visit.history.capacity (calls
        (m.visit.since ++ at v.seen i)) m.call.before led.2 in
        let told = (step_of keys weighs rules plan v w i (Iterate now) (Pairs pairs) m).0 in
        subst (λ (l : List (K × V)). IsDistinct keys.eq (map (λ p. p.0) l)) (sym (pairs_same pairs (pairs_at m.call.before now) told))
        (distinct_some keys.eq (λ e. not (is_expired m.call.before.settings.policy now e)) m.call.before.contents.entries once)
      where
        pairs_same : (x y : List (K × V)) → Pairs x ≡ Pairs y → x ≡ y
        pairs_same x y e = cc

  pub no_snapshot : (v : Knows K V S W) (now : ℕ) → Snapshots keys weighs rules plan v 0 now [] v
  no_snapshot v now = record {
    copies = no_parts keys weighs rules plan v now;
    placed = tt;
    once = none_stand keys laws weighs;
    current = λ i lt. absurd
        (omega arith);
  }

  -- one segment more
  pub snapshot_more : PairsAreCurrent keys weighs → LastWritesAreInserts keys V → (v u w : Knows K V S W) (count now : ℕ) (so_far part : List (K × V))
      → Snapshots keys weighs rules plan v count now so_far u
      → Makes keys weighs rules plan u count (Iterate now) (Pairs part) w → Snapshots keys weighs rules plan v (count + 1) now (so_far ++ part) w
  snapshot_more law writes v u w count now so_far part s m =
      let here = pairs_placed u w count now part m.made law writes in
      let all : List (List (K × V)) = s.copies.parts ++ part ∷ [] in
      record {
        copies = parts_more keys weighs rules plan v u w count now so_far part s.copies m;
        placed = every_both (λ p. place_of plan keys p.0 < count + 1) so_far part
            (every_with (λ p. place_of plan keys p.0 < count) (λ p. place_of plan keys p.0 < count + 1) (λ p. Unit {0}) so_far (λ p lt. omega arith) s.placed)
            (every_with (λ p. place_of plan keys p.0 ≡ count) (λ p. place_of plan keys p.0 < count + 1) (λ p. Unit {0}) part (λ p e. omega arith) here);
        once = distinct_both keys.eq so_far part s.once (pairs_once u w count now part m.made)
            (every_with (λ p. place_of plan keys p.0 < count) (λ p. AllByRecursion (λ y. keys.eq p.0 y ≡ false) (map (λ q. q.0) part)) (λ p. Unit {0}) so_far
            (λ p lt. apart_places count p.0 part lt here) s.placed);
        current = λ i lt. same_or i count
            (λ is. subst (λ k. Every (λ p. IsCurrent keys plan.policy now (exchanges (calls (rest (at w.seen k)))) p.0 p.1) (slice_index_or all k [])) (sym is)
            (subst (λ (l : List (K × V)). Every (λ p. IsCurrent keys plan.policy now (exchanges (calls (rest (at w.seen count)))) p.0 p.1) l)
            (sym (ap (λ (n : ℕ). slice_index_or all n []) (sym s.copies.whole) ∙ get_or-append_seam s.copies.parts part [] []))
            (pairs_current u w count now part m.made law)))
            (λ apart.
            subst (λ (z : Log K V S W × List (K × V)). Every (λ p. IsCurrent keys plan.policy now (exchanges (calls (rest z.0))) p.0 p.1) z.1)
            (λ j. (sym (m.others i apart).0 j, sym (get_or-append s.copies.parts (part ∷ []) [] i (let l = s.copies.whole in omega arith)) j))
            (s.current i (omega arith)));
      }
