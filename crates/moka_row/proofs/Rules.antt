-- Each step keeps the histories.
use Rattle.std.proofs.Common.{◌≡◌, ◌≢◌, ◌⊎◌, ℕ, zero, suc, ◌+◌, ◌*◌, ◌<◌, ◌≤◌, ◌==◌, List, [], ◌∷◌, ◌++◌, map, length, set, get_or, get_or-set_same}
use Rattle.std.proofs.Common.{get_or-set_other, Bool, true, false, true≢false, refl, sym, ap, ◌∙◌, subst, ⊎_elim, inl, inr, arith, eqb-true, eq-eqb, ne_eqb}
use Rattle.std.proofs.Common.{if◌then◌else◌, Option, Some, None, MatchBool}
use Rattle.std.specs.Prelude.{slice_index}
use mathlib.Core.Option.{none, some, some-ne-none, some-injective}
use lib.ListN.{get_elem?}
use prog.Atomic.{either}
use Rattle.std.proofs.lemmas.List.{length-set, length-append, append-nil}
use Rattle.atomic_table.specs.Table.{State, Step, Me, Act, takes, gives, keeps, Valid, stepped, carried_after, Allows, Enters, opening}
use Rattle.atomic_table.proofs.Lists.{at_set, set_here, set_else, some_there}
use Rattle.std.proofs.lemmas.Bool.Decides.{nat_tests}
use Rattle.std.specs.Prelude.{nat_lt}
use Rattle.atomic_table.specs.Table.{Joins, Splits}
use Rattle.moka_row.specs.Visits.{Known, Lists, at, put, longer, taken_in, visits_by, GoesOn, noted, said, Role, Visits, Tells, Deals, newcomer, dealer, guest}
use Rattle.moka_row.specs.Visits.{owner, at_lock, after_visit, after_dealing, next_owner, note_of, told, after_telling, after_hearing}
use Rattle.moka_row.specs.Kept.{IsNumbered, Fits, Kept, Got, Tried, Left, Came, Heard}

-- lists

below : {A : Type 0} (l : List A) (i : ℕ) (a : A) → get_elem? l i ≡ some a → i < length l
below [] i a e = absurd (some-ne-none a (sym e))
below (x ∷ xs) zero a e = omega arith
below (x ∷ xs) (suc i) a e = let h = below xs i a e in omega arith

pub at_end : {A : Type 0} (l : List A) (a b : A) (j : ℕ) → get_elem? (l ++ a ∷ []) j ≡ some b → (get_elem? l j ≡ some b) ⊎ ((j ≡ length l) × (a ≡ b))
at_end [] a b zero e = inr (refl, some-injective a b e)
at_end [] a b (suc j) e = absurd (some-ne-none b (sym e))
at_end (x ∷ xs) a b zero e = inl e
at_end (x ∷ xs) a b (suc j) e = ⊎_elim (λ t. inl t) (λ t. inr (ap suc t.0, t.1)) (at_end xs a b j e)

length_more : {A : Type 0} (l : List A) (a : A) → length (l ++ a ∷ []) ≡ suc (length l)
length_more [] a = refl
length_more (x ∷ xs) a = ap suc (length_more xs a)

length_map : {A B : Type 0} (f : A → B) (l : List A) → length (map f l) ≡ length l
length_map f [] = refl
length_map f (x ∷ xs) = ap suc (length_map f xs)

some_same : {A : Type 0} (a b : A) → Some a ≡ Some b → a ≡ b
some_same a b e = cc

off : false ≡ true → ⊥
off e = true≢false (sym e)

-- the two cases of two numbers
pub same_or : {P : Type 0} (j i : ℕ) → (j ≡ i → P) → (j ≢ i → P) → P
same_or {P = P} j i here away = go (j == i) refl
  where
    go : (b : Bool) → (j == i) ≡ b → P
    go true e = here (eqb-true j i e)
    go false e = away (λ same. off (sym e ∙ eq-eqb j i same))

pub put_here : {X : Type 0} (lists : Lists X) (i : ℕ) (xs : List X) → at (put lists i xs) i ≡ xs
put_here lists i xs = ap (λ b. if b then xs else at lists i) (eq-eqb i i refl)

pub put_else : {X : Type 0} (lists : Lists X) (i j : ℕ) (xs : List X) → j ≢ i → at (put lists i xs) j ≡ at lists j
put_else lists i j xs apart = go (j == i) refl
  where
    go : (b : Bool) → (j == i) ≡ b → (if b then xs else at lists j) ≡ at lists j
    go true e = absurd (apart (eqb-true j i e))
    go false e = refl

-- a function with one value changed
change : {X : Type 0} → (ℕ → X) → ℕ → X → ℕ → X
change f i x j = if j == i then x else f j

change_here : {X : Type 0} (f : ℕ → X) (i : ℕ) (x : X) → change f i x i ≡ x
unfolding change
change_here f i x = ap (λ b. if b then x else f i) (eq-eqb i i refl)

change_else : {X : Type 0} (f : ℕ → X) (i j : ℕ) (x : X) → j ≢ i → change f i x j ≡ f j
unfolding change
change_else {X = X} f i j x apart = go (j == i) refl
  where
    go : (b : Bool) → (j == i) ≡ b → (if b then x else f j) ≡ f j
    go true e = absurd (apart (eqb-true j i e))
    go false e = refl

times : (j i : ℕ) → j ≢ i → j * 16 ≢ i * 16
times j i apart same = apart (omega arith)

times_is : (i k : ℕ) → i * 16 ≡ k * 16 → i ≡ k
times_is i k e = omega arith

none_held : (o : Option ℕ) (k : ℕ) → o ≡ None → o ≡ Some k → ⊥
none_held o k e e' = cc

-- what a seat is for is one thing
deals-visits : (r : Role) → r ≡ Deals → r ≡ Visits → ⊥
deals-visits r e e' = cc

tells-visits : Tells ≡ Visits → ⊥
tells-visits e = cc

tells-deals : Tells ≡ Deals → ⊥
tells-deals e = cc

visits-deals : Visits ≡ Deals → ⊥
visits-deals e = cc

module _ {E : Type 0} where
  mine_of : (by : ℕ) (entry : Option E) (log : List (ℕ × E)) (mine : List E) → visits_by by log ≡ mine → visits_by by (noted by entry log) ≡ said entry mine
  mine_of by None log mine e = e
  mine_of by (Some x) log mine e = ap (λ b. if b then (x ∷ visits_by by log) else visits_by by log) (eq-eqb by by refl) ∙ ap (λ l. x ∷ l) e

  others_of : (by j : ℕ) (entry : Option E) (log : List (ℕ × E)) (mine : List E) → j ≢ by → visits_by j log ≡ mine → visits_by j (noted by entry log) ≡ mine
  others_of by j None log mine apart e = e
  others_of by j (Some x) log mine apart e = go (by == j) refl
    where
      go : (b : Bool) → (by == j) ≡ b → (if b then (x ∷ visits_by j log) else visits_by j log) ≡ mine
      go true is = absurd (apart (sym (eqb-true by j is)))
      go false is = e

  goes_further : (by : ℕ) (entry : Option E) (seen log : List (ℕ × E)) → GoesOn seen log → GoesOn seen (noted by entry log)
  goes_further by None seen log g = g
  goes_further by (Some x) seen log g = ((by, x) ∷ g.0, ap (λ l. (by, x) ∷ l) g.1)

  goes_itself : (seen log : List (ℕ × E)) → seen ≡ log → GoesOn seen log
  goes_itself seen log e = ([], sym e)

  goes_from_none : (log : List (ℕ × E)) → GoesOn [] log
  goes_from_none log = (log, sym (append-nil log))

  tail_same : (x y : ℕ × E) (xs ys : List (ℕ × E)) → x ∷ xs ≡ y ∷ ys → xs ≡ ys
  tail_same x y xs ys e = cc

-- two seats' visitors have two numbers
numbers_apart : (seat_of : ℕ → ℕ) (next a b by to : ℕ) → IsNumbered seat_of next a by → IsNumbered seat_of next b to → a ≢ b → by ≢ to
numbers_apart seat_of next a b by to (inl e) (inl f) apart same = apart (let g = e in let h = f in omega arith)
numbers_apart seat_of next a b by to (inl e) (inr f) apart same = let g = f.1 in absurd (omega arith)
numbers_apart seat_of next a b by to (inr e) (inl f) apart same = let g = e.1 in absurd (omega arith)
numbers_apart seat_of next a b by to (inr e) (inr f) apart same =
    let g = e.1 in
    let h = f.1 in
    let names : e.0 ≡ f.0 = omega arith in
    apart (sym e.3 ∙ (ap seat_of names ∙ f.3))

-- and none has the number of an owner to come
owner_to_come : (seat_of : ℕ → ℕ) (next seat name by : ℕ) → IsNumbered seat_of next seat by → next ≤ name → owner name ≢ by
owner_to_come seat_of next seat name by (inl e) far same = absurd (omega arith)
owner_to_come seat_of next seat name by (inr e) far same = let g = e.1 in let h = e.2 in absurd (omega arith)

module _ {E : Type 0} where
  -- a history that went on from what was seen does so after one more visit
  further : (i by : ℕ) (entry : Option E) (logs : ℕ → List (ℕ × E)) (seen : List (ℕ × E)) (k : ℕ) → GoesOn seen (logs k)
      → GoesOn seen (change logs i (noted by entry (logs i)) k)
  further i by entry logs seen k goes = same_or k i
      (λ same. subst (λ m. GoesOn seen (change logs i (noted by entry (logs i)) m)) (sym same)
      (subst (GoesOn seen) (sym (change_here logs i (noted by entry (logs i)))) (goes_further by entry seen (logs i) (subst (λ m. GoesOn seen
      (logs m)) same goes))))
      (λ other. subst (GoesOn seen) (sym (change_else logs i k (noted by entry (logs i)) other)) goes)

  -- who has made no visit has made none after one more of another
  unsaid : (i by to : ℕ) (entry : Option E) (logs : ℕ → List (ℕ × E)) (k : ℕ) → to ≢ by → visits_by to (logs i) ≡ [] → visits_by to (logs k) ≡ []
      → visits_by to (change logs i (noted by entry (logs i)) k) ≡ []
  unsaid i by to entry logs k apart here there = same_or k i
      (λ same. ap (λ m. visits_by to (change logs i (noted by entry (logs i)) m)) same
      ∙ (ap (visits_by to) (change_here logs i (noted by entry (logs i))) ∙ others_of by to entry (logs i) [] apart here))
      (λ other. ap (visits_by to) (change_else logs i k (noted by entry (logs i)) other) ∙ there)

  -- of two histories that one goes on from, the longer one goes on from both
  behind : (more others shorter long : List (ℕ × E)) → more ++ shorter ≡ others ++ long → length shorter ≤ length long → GoesOn shorter long
  behind more [] shorter long e le = (more, sym e)
  behind [] (y ∷ others) shorter long e le = absurd (let m = ap length e in let l = length-append others long in omega arith)
  behind (x ∷ more) (y ∷ others) shorter long e le = behind more others shorter long (tail_same x y (more ++ shorter) (others ++ long) e) le

  goes_longer : (seen told log : List (ℕ × E)) → GoesOn seen log → GoesOn told log → GoesOn seen (longer seen told) × GoesOn told (longer seen told)
      × GoesOn (longer seen told) log
  goes_longer seen told log a b = go (nat_lt (length seen) (length told)) refl
    where
      go : (c : Bool) → nat_lt (length seen) (length told) ≡ c
          → GoesOn seen (if c then told else seen) × GoesOn told (if c then told else seen) × GoesOn (if c then told else seen) log
      go true is =
          let lt : length seen < length told = grind (arith, nat_tests, is) in
          (behind a.0 b.0 seen told (sym a.1 ∙ b.1) (omega arith), ([], refl), b)
      go false is =
          let ge : length told ≤ length seen = grind (arith, nat_tests, is) in
          (([], refl), behind b.0 a.0 told seen (sym b.1 ∙ a.1) ge, a)

  -- what stands at each number once what was told is taken in
  at_taken : (lists others among : Lists (ℕ × E)) (k : ℕ)
      → (at (taken_in lists others among) k ≡ longer (at lists k) (at others k)) ⊎ ((at (taken_in lists others among) k ≡ at lists k) × (at among k ≡ []))
  at_taken lists others [] k = inr (refl, refl)
  at_taken lists others (p ∷ among) k = same_or k p.0
      (λ same. inl (subst (λ m. at (put (taken_in lists others among) p.0 (longer (at lists p.0) (at others p.0))) m ≡ longer (at lists m) (at others m))
      (sym same)
      (put_here (taken_in lists others among) p.0 (longer (at lists p.0) (at others p.0)))))
      (λ apart.
      let past = put_else (taken_in lists others among) p.0 k (longer (at lists p.0) (at others p.0)) apart in
      ⊎_elim
      (λ (was : at (taken_in lists others among) k ≡ longer (at lists k) (at others k)). inl (past ∙ was))
      (λ (was : (at (taken_in lists others among) k ≡ at lists k) × (at among k ≡ [])). inr (past ∙ was.0, put_else among p.0 k p.1 apart ∙ was.1))
      (at_taken lists others among k))

  -- so it goes on from what was seen and from what was told, and the history goes on from it
  taken : (seen told : Lists (ℕ × E)) (log : List (ℕ × E)) (k : ℕ) → GoesOn (at seen k) log → GoesOn (at told k) log
      → GoesOn (at seen k) (at (taken_in seen told told) k) × GoesOn (at told k) (at (taken_in seen told told) k) × GoesOn (at (taken_in seen told told) k) log
  taken seen told log k a b = ⊎_elim
      (λ (was : at (taken_in seen told told) k ≡ longer (at seen k) (at told k)).
      subst (λ l. GoesOn (at seen k) l × GoesOn (at told k) l × GoesOn l log) (sym was) (goes_longer (at seen k) (at told k) log a b))
      (λ (was : (at (taken_in seen told told) k ≡ at seen k) × (at told k ≡ [])).
      subst (λ l. GoesOn (at seen k) l × GoesOn (at told k) l × GoesOn l log) (sym was.0)
      (([], refl), subst (λ l. GoesOn l (at seen k)) (sym was.1) (goes_from_none (at seen k)), a))
      (at_taken seen told told k)

module _ {T E K : Type 0} (Holds : K → ℕ → List (ℕ × E) → T → Type 0) where
  -- at the start
  pub begins : (plan : K) (words : List ℕ) (values : List T) → length words ≡ length values * 16
      → ((i : ℕ) (x : T) → get_elem? values i ≡ some x → Holds plan i [] x) → Kept Holds plan (opening words values (dealer plan 0))
  begins plan words values sized all = record {
    has = λ i. i;
    logs = λ i. [];
    seat_of = λ name. 0;
    next = 0;
    sized = sized ∙ ap (λ n. n * 16) (sym (length_map some values));
    free = λ i lt zero. let there = some_there values i (let l = length_map some values in omega arith) in (
      there.0,
      there.1,
      all i there.0
          (only values i there.0 there.1),
    );
    views = one;
    no_guests = λ seat i far. refl;
    no_owners = λ name i far. refl;
  }
    where
      only : (l : List T) (i : ℕ) (x : T) → get_elem? (map some l) i ≡ some (some x) → get_elem? l i ≡ some x
      only [] i x e = absurd (some-ne-none (some x) (sym e))
      only (y ∷ ys) zero x e = some-injective _ _ e
      only (y ∷ ys) (suc i) x e = only ys i x e

      one : (seat : ℕ) (v : Known E K) → get_elem? (dealer plan 0 ∷ []) seat ≡ some v → Fits plan (λ i. i) (λ i. []) (λ name. 0) 0 words seat v
      one zero v e = subst (Fits plan (λ i. i) (λ i. []) (λ name. 0) 0 words 0) (some-injective _ _ e)
          (record {
            visits = λ is. absurd (deals-visits Deals refl is);
            deals = λ is. (refl, refl, refl);
            holds = λ i h. absurd (cc);
            saw = λ i. ([], refl);
            told = λ i. ([], refl);
            own = λ is. absurd (deals-visits Deals refl is);
          })
      one (suc seat) v e = absurd (some-ne-none v (sym e))

  -- a new visitor
  pub comes : (plan : K) (slots word : ℕ) (st : Step T) → Enters (Kept Holds plan) slots word (λ n w. Came {E = E} st (dealer plan 0, []) n (w, []))
  comes plan slots word st s h long small =
      let seat : ℕ = length s.views in
      let w : Known E K = newcomer plan (guest seat) in (
        w,
        record {
          has = h.has;
          logs = h.logs;
          seat_of = h.seat_of;
          next = h.next;
          sized = h.sized;
          free = h.free;
          views = λ by v e. ⊎_elim
              (λ (was : get_elem? s.views by ≡ some v). h.views by v was)
              (λ (last : (by ≡ length s.views) × (w ≡ v)).
              subst (λ (y : ℕ × Known E K). Fits plan h.has h.logs h.seat_of h.next s.words y.0 y.1) (λ i. (sym last.0 i, last.1 i))
              (record {
                visits = λ is. (refl, inl refl);
                deals = λ is. absurd (visits-deals is);
                holds = λ i held. absurd (cc);
                saw = λ i. goes_from_none (h.logs i);
                told = λ i. goes_from_none (h.logs i);
                own = λ is i. h.no_guests seat i (omega arith);
              }))
              (at_end s.views w v by e);
          no_guests = λ by i far. h.no_guests by i (let m = length_more s.views w in omega arith);
          no_owners = h.no_owners;
        },
        (seat, refl),
      )

  -- the visitors, where one has another view
  fits_set : (plan : K) (has : ℕ → ℕ) (logs : ℕ → List (ℕ × E)) (seat_of : ℕ
      → ℕ) (next : ℕ) (words : List ℕ) (views : List (Known E K)) (by : ℕ) (w : Known E K)
      → ((j : ℕ) (u : Known E K) → j ≢ by → get_elem? views j ≡ some u → Fits plan has logs seat_of next words j u) → Fits plan has logs seat_of next words by w
      → (j : ℕ) (u : Known E K) → get_elem? (set views by w) j ≡ some u → Fits plan has logs seat_of next words j u
  fits_set plan has logs seat_of next words views by w others mine j u e =
      ⊎_elim
      (λ (x : (j ≡ by) × (w ≡ u)). subst (λ (y : ℕ × Known E K). Fits plan has logs seat_of next words y.0 y.1) (λ i. (sym x.0 i, x.1 i)) mine)
      (λ (x : (j ≢ by) × (get_elem? views j ≡ some u)). others j u x.0 x.1)
      (at_set views by j w u e)

  -- what is found, where a lock is free
  got : (plan : K) (slots id i : ℕ) (v : Known E K) (f : ℕ → ℕ) → i < slots → v.held ≡ None → v.role ≡ Visits → (f 0 ≡ 0 → ⊥)
      → (s : State T (Known E K)) → (h : Kept Holds plan s) → length s.homes ≡ slots → get_elem? s.views id ≡ some v → slice_index s.words (i * 16) ≡ 0
      → (x : T) × (get_elem? s.homes i ≡ some (some x)) × (Kept Holds plan (record {
        words = set s.words (i * 16) (f 0);
        homes = set s.homes i none;
        views = set s.views id (at_lock i (h.logs i) v);
      }))
      × Got Holds i (v, []) (at_lock i (h.logs i) v, (i, x) ∷ [])
  got plan slots id i v f inside unheld role changes s h long there free =
      let lt : i < length s.homes = omega arith in
      let at_home = h.free i lt free in
      let x = at_home.0 in
      let own = h.views id v there in
      let in_words : i * 16 < length s.words = let z = h.sized in omega arith in
      let words : List ℕ = set s.words (i * 16) (f 0) in
      let homes = set s.homes i none in
      let w = at_lock i (h.logs i) v in
      let here : get_or words (i * 16) 0 ≡ f 0 = get_or-set_same s.words (i * 16) (f 0) 0 in_words in
      let away : (j : ℕ) → j ≢ i → get_or words (j * 16) 0 ≡ get_or s.words (j * 16) 0 = λ j apart. get_or-set_other s.words (i * 16) (j * 16) (f 0) 0
      (times j i apart) in (
        x,
        at_home.1,
        record {
          has = change h.has i id;
          logs = h.logs;
          seat_of = h.seat_of;
          next = h.next;
          sized = length-set s.words (i * 16) (f 0) ∙ (h.sized ∙ ap (λ n. n * 16) (sym (length-set s.homes i none)));
          free = λ j j_lt j_free. same_or j i
              (λ same. absurd (changes (sym here ∙ (ap (λ k. get_or words (k * 16) 0) (sym same) ∙ j_free))))
              (λ apart.
              let was = h.free j (let l = length-set s.homes i none in omega arith) (sym (away j apart) ∙ j_free) in
              (was.0, set_else s.homes i j none apart ∙ was.1, was.2));
          views = fits_set plan (change h.has i id) h.logs h.seat_of h.next words s.views id w
              (λ j u apart is. let old = h.views j u is in record {
                visits = old.visits;
                deals = old.deals;
                saw = old.saw;
                told = old.told;
                own = old.own;
                holds = λ k held. let had = old.holds k held in same_or k i
                    (λ same. absurd (had.2 (ap (λ m. get_or s.words (m * 16) 0) same ∙ free)))
                    (λ other. (change_else h.has i k id other ∙ had.0, had.1, λ zero. had.2 (sym (away k other) ∙ zero)));
              })
              (record {
                visits = own.visits;
                deals = own.deals;
                told = own.told;
                saw = λ k. same_or k i
                    (λ same. goes_itself (at w.seen k) (h.logs k) (subst (λ m. at (put v.seen i (h.logs i)) m ≡ h.logs m) (sym same) (put_here v.seen i
                    (h.logs i))))
                    (λ apart. subst (λ l. GoesOn l (h.logs k)) (sym (put_else v.seen i k (h.logs i) apart)) (own.saw k));
                own = own.own;
                holds = λ k held. let same : i ≡ k = held_is i k held in subst (λ m. (change h.has i id m ≡ id) × (at (put v.seen i (h.logs i)) m ≡ h.logs m)
                    × (get_or words (m * 16) 0 ≡ 0 → ⊥)) same
                    (change_here h.has i id, put_here v.seen i (h.logs i), λ zero. changes (sym here ∙ zero));
              });
          no_guests = λ seat k far. h.no_guests seat k (let m = length-set s.views id w in omega arith);
          no_owners = h.no_owners;
        },
        record {
          content = x;
          log = h.logs i;
          now = refl;
          kept = λ p is. subst (λ p. Holds p i (h.logs i) x) (some_same plan p (sym (own.visits role).0 ∙ is)) at_home.2;
          saw = own.saw i;
          own = own.own role i;
        },
      )
    where
      held_is : (i k : ℕ) → Some i ≡ Some k → i ≡ k
      held_is i k e = cc

  -- and where it is not
  missed : (plan : K) (id i m : ℕ) (v : Known E K) → (m ≡ 0 → ⊥)
      → (s : State T (Known E K)) → (h : Kept Holds plan s) → get_elem? s.views id ≡ some v → i < length s.homes → (slice_index s.words (i * 16) ≡ 0 → ⊥)
      → Kept Holds plan (record { words = set s.words (i * 16) m; homes = s.homes; views = set s.views id v })
  missed plan id i m v taken s h there lt busy =
      let in_words : i * 16 < length s.words = let z = h.sized in omega arith in
      let words : List ℕ = set s.words (i * 16) m in
      let here : get_or words (i * 16) 0 ≡ m = get_or-set_same s.words (i * 16) m 0 in_words in
      let away : (j : ℕ) → j ≢ i → get_or words (j * 16) 0 ≡ get_or s.words (j * 16) 0 = λ j apart. get_or-set_other s.words (i * 16) (j * 16) m 0
      (times j i apart) in
      let again : (j : ℕ) (u : Known E K) → get_elem? s.views j ≡ some u
      → Fits plan h.has h.logs h.seat_of h.next words j u = λ j u is. let old = h.views j u is in record {
        visits = old.visits;
        deals = old.deals;
        saw = old.saw;
        told = old.told;
        own = old.own;
        holds = λ k held. let had = old.holds k held in (
          had.0,
          had.1,
          λ zero. same_or k i
              (λ same. taken (sym here ∙ (ap (λ n. get_or words (n * 16) 0) (sym same) ∙ zero)))
              (λ apart. had.2 (sym (away k apart) ∙ zero)),
        );
      } in
      record {
        has = h.has;
        logs = h.logs;
        seat_of = h.seat_of;
        next = h.next;
        sized = length-set s.words (i * 16) m ∙ h.sized;
        free = λ j j_lt j_free. same_or j i
            (λ same. absurd (taken (sym here ∙ (ap (λ k. get_or words (k * 16) 0) (sym same) ∙ j_free))))
            (λ apart. h.free j j_lt (sym (away j apart) ∙ j_free));
        views = fits_set plan h.has h.logs h.seat_of h.next words s.views id v (λ j u apart is. again j u is) (again id v there);
        no_guests = λ seat k far. h.no_guests seat k (let n = length-set s.views id v in omega arith);
        no_owners = h.no_owners;
      }

  -- a lock is tried, by a step that never frees it
  tries_free : (plan : K) (slots id i : ℕ) (v : Known E K) (f : ℕ → ℕ) (st : Step T) → i < slots → v.held ≡ None → v.role ≡ Visits
      → ((n : ℕ) → f n ≡ 0 → ⊥) → st.word ≡ i * 16
      → Allows (Kept Holds plan) slots id (v, []) (i * 16) f (Tried Holds st (v, []))
  tries_free plan slots id i v f st inside unheld role busy word = λ s h long there small. pick s h long there (slice_index s.words (i * 16)) refl
      (slice_index s.words (i * 16) == 0) refl
    where
      pick : (s : State T (Known E K)) → (h : Kept Holds plan s) → length s.homes ≡ slots → get_elem? s.views id ≡ some v
          → (n : ℕ) → slice_index s.words (i * 16) ≡ n → (b : Bool) → (n == 0) ≡ b
          → (w : Known E K) × (a : Act T) × Valid s.homes [] a × Kept Holds plan (stepped s (i * 16) (f n) id [] w a)
          × Tried Holds st (v, []) n (w, carried_after [] a)
      pick s h long there n is true e =
          let free : n ≡ 0 = eqb-true n 0 e in
          let g = got plan slots id i v (λ _. f n) inside unheld role (λ zero. busy n zero) s h long there (is ∙ free) in (
            at_lock i (h.logs i) v,
            takes i g.0,
            g.1,
            g.2,
            (λ k k_word. let was : Me T (Known E K) = (v, []) in let is_now : Me T (Known E K) = (at_lock i (h.logs i) v, (i, g.0) ∷ []) in subst
                (λ b. MatchBool b (Got Holds k was is_now) (is_now ≡ was)) (sym e)
                (subst (λ k. Got Holds k (v, []) (at_lock i (h.logs i) v, (i, g.0) ∷ [])) (times_is i k (sym word ∙ k_word)) g.3)),
          )
      pick s h long there n is false e = (
        v,
        keeps,
        tt,
        missed plan id i (f n) v (busy n) s h there (omega arith) (λ zero. off (sym e ∙ eq-eqb n 0 (sym is ∙ zero))),
        (λ k k_word. let same : Me T (Known E K) = (v, []) in subst (λ b. MatchBool b (Got Holds k same same) (same ≡ same)) (sym e) refl),
      )

  pub tries : (plan : K) (slots id i : ℕ) (me : Me T (Known E K)) (f : ℕ → ℕ) (st : Step T) → i < slots → me.1 ≡ [] → me.0.held ≡ None → me.0.role ≡ Visits
      → ((n : ℕ) → f n ≡ 0 → ⊥) → st.word ≡ i * 16
      → Allows (Kept Holds plan) slots id me (i * 16) f (Tried Holds st me)
  tries plan slots id i me f st inside none_out unheld role busy word =
      subst (λ (c : List (ℕ × T)). Allows (Kept Holds plan) slots id (me.0, c) (i * 16) f (Tried Holds st (me.0, c))) (sym none_out)
      (tries_free plan slots id i me.0 f st inside unheld role busy word)

  -- a lock is given back
  leaves_one : (plan : K) (slots id i : ℕ) (v : Known E K) (x : T) (entry : Option E) (st : Step T) → i < slots → v.held ≡ Some i → v.role ≡ Visits
      → Holds plan i (noted v.by entry (at v.seen i)) x → st.word ≡ i * 16
      → Allows (Kept Holds plan) slots id (v, (i, x) ∷ []) (i * 16) (λ _. 0) (Left entry st (v, (i, x) ∷ []))
  leaves_one plan slots id i v x entry st inside held role kept word = with_one
    where
      with_one : Allows (Kept Holds plan) slots id (v, (i, x) ∷ []) (i * 16) (λ _. 0) (Left entry st (v, (i, x) ∷ []))
      with_one s h long there small =
          let own = h.views id v there in
          let had = own.holds i held in
          let w = after_visit i entry v in
          let lt : i < length s.homes = omega arith in
          let in_words : i * 16 < length s.words = let z = h.sized in omega arith in
          let words : List ℕ = set s.words (i * 16) 0 in
          let log = noted v.by entry (h.logs i) in
          let logs = change h.logs i log in
          let away : (j : ℕ) → j ≢ i → get_or words (j * 16) 0 ≡ get_or s.words (j * 16) 0 = λ j apart. get_or-set_other s.words (i * 16) (j * 16) 0 0
          (times j i apart) in
          let same_log : noted v.by entry (at v.seen i) ≡ log = ap (noted v.by entry) had.1 in (
            w,
            gives,
            tt,
            record {
              has = h.has;
              logs = logs;
              seat_of = h.seat_of;
              next = h.next;
              sized = length-set s.words (i * 16) 0 ∙ (h.sized ∙ ap (λ n. n * 16) (sym (length-set s.homes i (some x))));
              free = λ j j_lt j_free. same_or j i
                  (λ same. subst (λ k. (y : T) × (get_elem? (set s.homes i (some x)) k ≡ some (some y)) × Holds plan k (logs k) y) (sym same) (
                    x,
                    set_here s.homes i (some x) lt,
                    subst (λ l. Holds plan i l x) (sym (change_here h.logs i log)) (subst
                        (λ l. Holds plan i l x) same_log kept),
                  ))
                  (λ apart.
                  let was = h.free j (let l = length-set s.homes i (some x) in omega arith) (sym (away j apart) ∙ j_free) in
                  (was.0, set_else s.homes i j (some x) apart ∙ was.1, subst (λ l. Holds plan j l was.0) (sym (change_else h.logs i j log apart)) was.2));
              views = fits_set plan h.has logs h.seat_of h.next words s.views id w
                  (λ j u apart is. let old = h.views j u is in record {
                    visits = old.visits;
                    deals = old.deals;
                    saw = λ k. further i v.by entry h.logs (at u.seen k) k (old.saw k);
                    told = λ k. further i v.by entry h.logs (at u.heard k) k (old.told k);
                    own = λ is k. same_or k i
                        (λ same. subst (λ m. visits_by u.by (logs m) ≡ at u.mine m) (sym same) (ap (visits_by u.by) (change_here h.logs i log)
                        ∙ others_of v.by u.by entry (h.logs i) (at u.mine i)
                        (numbers_apart h.seat_of h.next j id u.by v.by (old.visits is).1 (own.visits role).1 apart) (old.own is i)))
                        (λ other. ap (visits_by u.by) (change_else h.logs i k log other) ∙ old.own is k);
                    holds = λ k its. let its_had = old.holds k its in same_or k i
                        (λ same. absurd (apart (sym its_had.0 ∙ (ap h.has same ∙ had.0))))
                        (λ other. (its_had.0, its_had.1 ∙ sym (change_else h.logs i k log other), λ zero. its_had.2 (sym (away k other) ∙ zero)));
                  })
                  (record {
                    visits = own.visits;
                    deals = own.deals;
                    told = λ k. further i v.by entry h.logs (at v.heard k) k (own.told k);
                    saw = λ k. same_or k i
                        (λ same. subst (λ m. GoesOn (at w.seen m) (logs m)) (sym same)
                        (goes_itself (at w.seen i) (logs i) (put_here v.seen i (noted v.by entry (at v.seen i)) ∙ (same_log ∙ sym (change_here h.logs i log)))))
                        (λ other. subst (λ (z : List (ℕ × E) × List (ℕ × E)). GoesOn z.0 z.1) (λ m. (
                          sym (put_else v.seen i k (noted v.by entry
                              (at v.seen i)) other) m,
                          sym (change_else h.logs i k log other) m,
                        )) (own.saw k));
                    own = λ is k. same_or k i
                        (λ same. subst (λ m. visits_by v.by (logs m) ≡ at w.mine m) (sym same)
                        (ap (visits_by v.by) (change_here h.logs i log) ∙ (mine_of v.by entry (h.logs i) (at v.mine i) (own.own role i)
                        ∙ sym (put_here v.mine i (said entry (at v.mine i))))))
                        (λ other. ap (visits_by v.by) (change_else h.logs i k log other) ∙ (own.own role k
                        ∙ sym (put_else v.mine i k (said entry (at v.mine i)) other)));
                    holds = λ k its. absurd (none_held None k refl its);
                  });
              no_guests = λ seat k far.
                  let m = length-set s.views id w in
                  let n = below s.views id v there in
                  unsaid i v.by (guest seat) entry h.logs k
                  (numbers_apart h.seat_of h.next seat id (guest seat) v.by (inl refl) (own.visits role).1 (λ same. omega arith))
                  (h.no_guests seat i (omega arith)) (h.no_guests seat k (omega arith));
              no_owners = λ name k far.
                  unsaid i v.by (owner name) entry h.logs k (owner_to_come h.seat_of h.next id name v.by (own.visits role).1 far) (h.no_owners name i far)
                  (h.no_owners name k far);
            },
            (λ k k_word. let new : Me T (Known E K) = (w, []) in subst (λ q. new ≡ (after_visit q entry v, [])) (times_is i k (sym word ∙ k_word)) refl),
          )

  pub leaves : (plan : K) (slots id i : ℕ) (me : Me T (Known E K)) (x : T) (entry : Option E) (st : Step T) → i < slots → me.0.held ≡ Some i
      → me.0.role ≡ Visits → me.1 ≡ (i, x) ∷ []
      → Holds plan i (noted me.0.by entry (at me.0.seen i)) x → st.word ≡ i * 16
      → Allows (Kept Holds plan) slots id me (i * 16) (λ _. 0) (Left entry st me)
  leaves plan slots id i me x entry st inside held role has kept word =
      subst (λ (c : List (ℕ × T)). Allows (Kept Holds plan) slots id (me.0, c) (i * 16) (λ _. 0) (Left entry st (me.0, c))) (sym has)
      (leaves_one plan slots id i me.0 x entry st inside held role kept word)

  -- the views, where a new seat has this one
  fits_more : (plan : K) (has : ℕ → ℕ) (logs : ℕ → List (ℕ × E)) (seat_of : ℕ → ℕ) (next : ℕ) (words : List ℕ) (views : List (Known E K)) (w : Known E K)
      → ((j : ℕ) (u : Known E K) → get_elem? views j ≡ some u → Fits plan has logs seat_of next words j u)
      → Fits plan has logs seat_of next words (length views) w
      → (j : ℕ) (u : Known E K) → get_elem? (views ++ w ∷ []) j ≡ some u → Fits plan has logs seat_of next words j u
  fits_more plan has logs seat_of next words views w others mine j u e =
      ⊎_elim
      (λ (was : get_elem? views j ≡ some u). others j u was)
      (λ (last : (j ≡ length views) × (w ≡ u)). subst (λ (y : ℕ × Known E K). Fits plan has logs seat_of next words y.0 y.1) (λ i.
      (sym last.0 i, last.1 i)) mine)
      (at_end views w u j e)

  -- an owner's number is handed out
  pub deals : (plan : K) (id : ℕ) (v : Known E K) → v.role ≡ Deals → Splits (Kept Holds plan) id v (after_dealing v) (next_owner v)
  deals plan id v role s h there =
      let own = h.views id v there in
      let deal = own.deals role in
      let left = after_dealing v in
      let right = next_owner v in
      let seat : ℕ = length s.views in
      let seat_of = change h.seat_of h.next seat in
      let long = length-set s.views id left in
      record {
        has = h.has;
        logs = h.logs;
        seat_of = seat_of;
        next = h.next + 1;
        sized = h.sized;
        free = h.free;
        views = fits_more plan h.has h.logs seat_of (h.next + 1) s.words (set s.views id left) right
            (fits_set plan h.has h.logs seat_of (h.next + 1) s.words s.views id left
            (λ j u apart is. let old = h.views j u is in record {
              visits = λ r. ((old.visits r).0, still_numbered h.seat_of h.next seat j u.by (old.visits r).1);
              deals = λ r. absurd (apart ((old.deals r).2 ∙ sym deal.2));
              holds = old.holds;
              saw = old.saw;
              told = old.told;
              own = old.own;
            })
            (record {
              visits = λ r. absurd (deals-visits v.role role r);
              deals = λ r. (deal.0, ap (λ n. n + 1) deal.1, deal.2);
              holds = own.holds;
              saw = own.saw;
              told = own.told;
              own = λ r. absurd (deals-visits v.role role r);
            }))
            (subst (λ n. Fits plan h.has h.logs seat_of (h.next + 1) s.words n right) (sym long) (record {
              visits = λ r. (deal.0, inr (h.next, ap owner deal.1, omega arith, change_here h.seat_of h.next seat));
              deals = λ r. absurd (visits-deals r);
              holds = λ i held. absurd (cc);
              saw = λ i. goes_from_none (h.logs i);
              told = λ i. goes_from_none (h.logs i);
              own = λ r i. ap (λ n. visits_by (owner n) (h.logs i)) deal.1 ∙ h.no_owners h.next i (omega arith);
            }));
        no_guests = λ n i far. h.no_guests n i (let m = length_more (set s.views id left) right in let l = long in omega arith);
        no_owners = λ n i far. h.no_owners n i (omega arith);
      }
    where
      still_numbered : (seat_of : ℕ → ℕ) (next new seat by : ℕ) → IsNumbered seat_of next seat by → IsNumbered (change seat_of next new) (next + 1) seat by
      still_numbered seat_of next new seat by (inl e) = inl e
      still_numbered seat_of next new seat by (inr e) =
          let lt = e.2 in
          inr (e.0, e.1, omega arith, change_else seat_of next e.0 new (λ same. omega arith) ∙ e.3)

  -- the same views, by what a step in which nothing happens leaves
  set_again : (views : List (Known E K)) (id : ℕ) (v : Known E K) → get_elem? views id ≡ some v → set views id v ≡ views
  set_again [] id v there = absurd (some-ne-none v (sym there))
  set_again (x ∷ views) zero v there = ap (λ y. y ∷ views) (sym (some-injective _ _ there))
  set_again (x ∷ views) (suc id) v there = ap (λ l. x ∷ l) (set_again views id v there)

  -- a note is made
  pub notes : (plan : K) (id : ℕ) (v : Known E K) → Splits (Kept Holds plan) id v v (note_of v)
  notes plan id v s h there =
      let own = h.views id v there in
      let right = note_of v in
      let same : set s.views id v ≡ s.views = set_again s.views id v there in
      subst (λ l. Kept Holds plan (record { words = s.words; homes = s.homes; views = l ++ right ∷ [] })) (sym same)
      (record {
        has = h.has;
        logs = h.logs;
        seat_of = h.seat_of;
        next = h.next;
        sized = h.sized;
        free = h.free;
        views = fits_more plan h.has h.logs h.seat_of h.next s.words s.views right h.views (record {
          visits = λ r. absurd (tells-visits r);
          deals = λ r. absurd (tells-deals r);
          holds = λ i held. absurd (cc);
          saw = own.saw;
          told = λ i. goes_from_none (h.logs i);
          own = λ r. absurd (tells-visits r);
        });
        no_guests = λ n i far. h.no_guests n i (let m = length_more s.views right in omega arith);
        no_owners = h.no_owners;
      })

  -- a note is told
  pub tells : (plan : K) (id : ℕ) (v : Known E K) (other : ℕ) (w : Known E K) → Joins (Kept Holds plan) id v other w (after_telling v w) told
  tells plan id v other w s h there apart near =
      let both = after_telling v w in
      let own = h.views id v there in
      let its : Fits plan h.has h.logs h.seat_of h.next s.words other w =
      ⊎_elim
      (λ (x : (other ≡ id) × (both ≡ w)). absurd (apart x.0))
      (λ (x : (other ≢ id) × (get_elem? s.views other ≡ some w)). h.views other w x.1)
      (at_set s.views id other both w near) in
      record {
        has = h.has;
        logs = h.logs;
        seat_of = h.seat_of;
        next = h.next;
        sized = h.sized;
        free = h.free;
        views = fits_set plan h.has h.logs h.seat_of h.next s.words (set s.views id both) other told
            (λ j u away is. fits_set plan h.has h.logs h.seat_of h.next s.words s.views id both (λ j u far is. h.views j u is)
            (record { visits = own.visits; deals = own.deals; holds = own.holds; saw = own.saw; told = its.saw; own = own.own }) j u is)
            (record {
              visits = λ r. absurd (tells-visits r);
              deals = λ r. absurd (tells-deals r);
              holds = λ i held. absurd (cc);
              saw = λ i. goes_from_none (h.logs i);
              told = λ i. goes_from_none (h.logs i);
              own = λ r. absurd (tells-visits r);
            });
        no_guests = λ n i far. h.no_guests n i (let a = length-set (set s.views id both) other told in let b = length-set s.views id both in omega arith);
        no_owners = h.no_owners;
      }

  -- and taken in
  hears_at : (plan : K) (slots id : ℕ) (v : Known E K) (out : List (ℕ × T)) (st : Step T)
      → Allows (Kept Holds plan) slots id (v, out) 0 (λ n. n) (Heard st (v, out))
  hears_at plan slots id v out st s h long there small =
      let own = h.views id v there in
      let w = after_hearing v in
      let words : List ℕ = set s.words 0 (slice_index s.words 0) in
      let same : words ≡ s.words = set_word s.words in (
        w,
        keeps,
        tt,
        subst (λ l. Kept Holds plan (record { words = l; homes = s.homes; views = set s.views id w })) (sym same)
            (record {
              has = h.has;
              logs = h.logs;
              seat_of = h.seat_of;
              next = h.next;
              sized = h.sized;
              free = h.free;
              views = fits_set plan h.has h.logs h.seat_of h.next s.words s.views id w (λ j u far is. h.views j u is)
                  (record {
                    visits = own.visits;
                    deals = own.deals;
                    holds = λ i held.
                        let had = own.holds i held in
                        let all = taken v.seen v.heard (h.logs i) i (own.saw i) (own.told i) in
                        (had.0, both_ways (at v.seen i) (at w.seen i) (h.logs i) had.1 all.0 all.2, had.2);
                    saw = λ i. (taken v.seen v.heard (h.logs i) i (own.saw i) (own.told i)).2;
                    told = λ i. goes_from_none (h.logs i);
                    own = own.own;
                  });
              no_guests = λ n i far. h.no_guests n i (let a = length-set s.views id w in omega arith);
              no_owners = h.no_owners;
            }),
        (
          refl,
          record {
            same = (refl, refl, refl, refl);
            mine = λ i. refl;
            keeps = λ i. (taken v.seen v.heard (h.logs i) i (own.saw i) (own.told i)).0;
            learns = λ i. (taken v.seen v.heard (h.logs i) i (own.saw i) (own.told i)).1;
          },
        ),
      )
    where
      set_word : (words : List ℕ) → set words 0 (slice_index words 0) ≡ words
      set_word [] = refl
      set_word (x ∷ words) = refl

      nothing_long : (l : List (ℕ × E)) → length l ≡ 0 → l ≡ []
      nothing_long [] e = refl
      nothing_long (x ∷ xs) e = absurd (omega arith)

      -- between what is the whole history and the whole history there is only that
      both_ways : (seen new log : List (ℕ × E)) → seen ≡ log → GoesOn seen new → GoesOn new log → new ≡ log
      both_ways seen new log is a b =
          let l : length log ≡ length new + length b.0 = ap length b.1 ∙ (length-append b.0 new ∙ omega arith) in
          let m : length new ≡ length seen + length a.0 = ap length a.1 ∙ (length-append a.0 seen ∙ omega arith) in
          let n : length seen ≡ length log = ap length is in
          let none : length b.0 ≡ 0 = omega arith in
          sym (b.1 ∙ ap (λ l. l ++ new) (nothing_long b.0 none))

  pub hears : (plan : K) (slots id : ℕ) (me : Me T (Known E K)) (st : Step T) → Allows (Kept Holds plan) slots id me 0 (λ n. n) (Heard st me)
  hears plan slots id me st = hears_at plan slots id me.0 me.1 st

pub busy_if : (n : ℕ) → either (n == 0) 1 n ≡ 0 → ⊥
busy_if zero e = let z : 1 ≡ 0 = e in absurd (omega arith)
busy_if (suc n) e = let f : (suc n == 0) ≡ false = ne_eqb (suc n) 0 (λ z. omega arith) in let z : (suc n ≡ 0) = sym (ap (λ b. either b 1 (suc n)) f)
    ∙ e in absurd (omega arith)

pub two_is_not : ℕ → (let two : ℕ = 2 in two ≡ 0) → ⊥
two_is_not n e = cc
