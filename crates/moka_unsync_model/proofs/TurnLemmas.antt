-- Lemmas on a turn of the limits: what main gives up then, and what stands.
use Rattle.std.proofs.Common.{◌≡◌, ◌⊎◌, ◌<◌, ◌≤◌, ◌+◌, ◌-◌, ℕ, zero, suc, Bool, false, true, cond, List, [], ◌∷◌, All, Option, None, Some}
use Rattle.std.proofs.Common.{ap, arith, inl, inr, refl, subst, sym, unwrap_or, ◌∙◌}
use Rattle.std.proofs.lemmas.Bool.{cases_Bool, cond-false, cond-true}
use Rattle.std.proofs.lemmas.List.Elements.{recursion_from_All}
use Rattle.std.specs.Cmp.{IsEquivalence}
use Rattle.std.specs.List.{AllByRecursion}
use Rattle.moka_common.specs.Sketch.{Table}
use Rattle.moka_unsync_model.specs.declared.entry.Entry.{Entry}
use Rattle.moka_unsync_model.specs.declared.entry.Part.TheVariants.{Probation, Window}
use Rattle.moka_unsync_model.specs.declared.shares.PartLimits.{PartLimits}
use Rattle.moka_unsync_model.specs.declared.shares.Shares.{Shares}
use Rattle.moka_unsync_model.specs.CacheState.{CacheState}
use Rattle.moka_unsync_model.specs.Cleanup.{least_recent}
use Rattle.moka_unsync_model.specs.Contents.{Contents, after_leaving, entries_without, entry_at, entry_keys, is_window, main_of, protected_of, total_weight}
use Rattle.moka_unsync_model.specs.Contents.{window_of}
use Rattle.moka_unsync_model.specs.Insert.{after_entering, after_entry, after_turn, gained_by}
use Rattle.moka_unsync_model.specs.Memory.{Memory, at_most, demand_after, shares_at}
use Rattle.moka_unsync_model.specs.Shares.{limits_of, main_limit}
use Rattle.moka_unsync_model.specs.Window.{after_candidacy, after_candidates, after_sharing, candidates, given_up, victims_of}
use Rattle.moka_unsync_model.proofs.CandidateLemmas.{All-front, least_parts}
use Rattle.moka_unsync_model.proofs.ContentsLemmas.{found_key}
use Rattle.moka_unsync_model.proofs.HistoryLemmas.{something}
use Rattle.moka_unsync_model.proofs.KeyLemmas.{StandOnce, once-candidacy, once-push}
use Rattle.moka_unsync_model.proofs.LimitLemmas.{total-cons, total-found, total-leaving, total-push}
use Rattle.moka_unsync_model.proofs.MapLemmas.{entry_at-equal}
use Rattle.moka_unsync_model.proofs.PartLemmas.{entry_at-demoted, placed-none, stays-demoted}
use Rattle.moka_unsync_model.proofs.SharingLemmas.{stays_of}
use Rattle.moka_unsync_model.proofs.StandLemmas.{AreCandidates, StandsIn, apart-lists, are-chosen, are-left, entry_at-apart, main-stands, stands-left}
use Rattle.moka_unsync_model.proofs.WindowLemmas.{total-latest, total-split}

-- a number is nothing or something
none-or-some : (n : ℕ) → (n ≡ 0) ⊎ (0 < n)
none-or-some zero = inl refl
none-or-some (suc n) = inr (omega arith)

-- what is something of two numbers at most
both-some : (most n : ℕ) → 0 < at_most most n → (0 < most) × (0 < n)
both-some most n h = (omega (arith, h), omega (arith, h))

-- a difference that is something
some-less : (a b : ℕ) → 0 < a - b → b < a
some-less a b h = omega (arith, h)

nothing-more : {P : Type 0} → 0 < 0 → P
nothing-more h = absurd (omega (arith, h))

module _ {K V : Type 0} {eq : K → K → Bool} (laws : IsEquivalence eq) where
  -- an entry of the window weighs no more than the window
  found-weighs : (key : K) (w : Entry K V) (es : List (Entry K V)) → entry_at eq key es ≡ Some w → is_window w.part ≡ true
      → w.weight ≤ total_weight (window_of es)
  found-weighs key w [] found waits = something {o = None} refl found
  found-weighs key w (x ∷ xs) found waits =
      elim (cases_Bool (eq key x.key)) [
        | inl equal ↦
            let is : x ≡ w = ap (λ o. unwrap_or o w) (sym (cond-true (eq key x.key) (Some x) (entry_at eq key xs) equal) ∙ found) in
            subst (λ l. w.weight ≤ total_weight l)
            (sym (cond-true (is_window x.part) (x ∷ window_of xs) (window_of xs) (ap (λ (e : Entry K V). is_window e.part) is ∙ waits)))
            (grind (arith, total-cons x (window_of xs), ap (λ (e : Entry K V). e.weight) is))
        | inr differ ↦
            more (is_window x.part)
            (found-weighs key w xs (sym (cond-false (eq key x.key) (Some x) (entry_at eq key xs) differ) ∙ found) waits)
      ]
    where
      more : (b : Bool) → w.weight ≤ total_weight (window_of xs) → w.weight ≤ total_weight (cond b (x ∷ window_of xs) (window_of xs))
      more true less = grind (arith, less, total-cons x (window_of xs))
      more false less = less

  -- what main gives up has other keys than an entry of the window
  given-apart : (limits : PartLimits) (gained : ℕ) (contents : Contents K V) (key : K) (w : Entry K V) → StandOnce eq contents.entries
      → entry_at eq key contents.entries ≡ Some w → is_window w.part ≡ true
      → AllByRecursion (λ g. eq g.key key ≡ false) (given_up limits gained contents.entries)
  given-apart limits gained contents key w once found waits =
      let enough = at_most gained (total_weight (main_of contents.entries) - main_limit limits) in
      let (rest, parts, heavy) = least_parts enough (main_of contents.entries) in
      let gone = given_up limits gained contents.entries in
      all gone (recursion_from_All (StandsIn eq laws contents.entries false) gone
      (All-front (StandsIn eq laws contents.entries false) gone rest
      (subst (All (StandsIn eq laws contents.entries false)) parts (main-stands eq laws contents.entries once))))
    where
      equal : eq key w.key ≡ true
      equal = found_key eq key w contents.entries found

      stands : entry_at eq w.key contents.entries ≡ Some w
      stands = sym (entry_at-equal laws key w.key equal contents.entries) ∙ found

      all : (gs : List (Entry K V)) → AllByRecursion (StandsIn eq laws contents.entries false) gs → AllByRecursion (λ g. eq g.key key ≡ false) gs
      all [] main = tt
      all (g ∷ gs) main = (
        laws.symm g.key key ∙ (laws.congr key w.key g.key equal ∙ (laws.symm w.key g.key ∙ apart-lists eq laws contents.entries g w main.0 (stands, waits))),
        all gs main.1,
      )

  -- an entry of the window stays as it is
  pub window-sharing : (limits : PartLimits) (gained : ℕ) (contents : Contents K V) (key : K) (w : Entry K V) → StandOnce eq contents.entries
      → entry_at eq key contents.entries ≡ Some w → is_window w.part ≡ true
      → entry_at eq key (after_sharing eq limits gained contents).entries ≡ Some w
  window-sharing limits gained contents key w once found waits =
      let left = stays_of eq limits gained contents in
      stays-demoted eq key (total_weight (protected_of left.entries) - limits.protected) left.entries w
      (entry_at-apart eq laws key (given_up limits gained contents.entries) contents (given-apart limits gained contents key w once found waits) ∙ found)
      waits

  -- where an entry is given up, the window has gained and main weighs more than it may
  gave-up : (limits : PartLimits) (gained : ℕ) (contents : Contents K V) (key : K) (x : Entry K V) → entry_at eq key contents.entries ≡ Some x
      → entry_at eq key (after_sharing eq limits gained contents).entries ≡ None
      → (0 < gained) × (main_limit limits < total_weight (main_of contents.entries))
  gave-up limits gained contents key x found absent =
      let left = stays_of eq limits gained contents in
      let over = total_weight (main_of contents.entries) - main_limit limits in
      let (f, at) = entry_at-demoted eq key (total_weight (protected_of left.entries) - limits.protected) left.entries in
      let gone : entry_at eq key left.entries ≡ None = placed-none f (entry_at eq key left.entries) (sym at ∙ absent) in
      elim (none-or-some (at_most gained over)) [
        | inl none ↦
            something (sym (ap (λ n. entry_at eq key (after_leaving eq (entry_keys (least_recent n (main_of contents.entries))) contents).entries) none) ∙ gone)
            found
        | inr some ↦
            let (more, above) = both-some gained over some in
            (more, some-less (total_weight (main_of contents.entries)) (main_limit limits) above)
      ]

  -- ---- what stands once a new entry entered the window weighs no more than before, with it

  total-candidacy : (limit : ℕ) (sketch : Option Table) (c : Entry K V) (contents : Contents K V) → StandOnce eq contents.entries
      → StandsIn eq laws contents.entries true c → (gone : Option (List (Entry K V)))
      → victims_of (Some limit) sketch c (main_of contents.entries) ≡ gone
      → total_weight (after_candidacy eq c gone contents).entries ≤ total_weight contents.entries
  total-candidacy limit sketch c contents once stands None is = total-leaving eq (c.key ∷ []) contents
  total-candidacy limit sketch c contents once stands (Some gone) is =
      let left = after_leaving eq (entry_keys gone) contents in
      rw (total-latest (record c { part = Probation }) (entries_without eq c.key left.entries))
      (grind (
        arith,
        total-found eq laws c.key c left.entries (stands-left eq laws limit sketch c gone contents once is c stands),
        total-leaving eq (entry_keys gone) contents,
      ))

  total-candidates : (limits : PartLimits) (sketch : Option Table) (es : List (Entry K V)) (contents : Contents K V) → StandOnce eq contents.entries
      → AreCandidates eq laws contents es → total_weight (after_candidates eq limits sketch es contents).entries ≤ total_weight contents.entries
  total-candidates limits sketch [] contents once are = omega arith
  total-candidates limits sketch (c ∷ es) contents once are =
      let gone = victims_of (Some (main_limit limits)) sketch c (main_of contents.entries) in
      let next = after_candidacy eq c gone contents in
      grind (
        arith,
        total-candidacy (main_limit limits) sketch c contents once are.stand.0 gone refl,
        total-candidates limits sketch es next (once-candidacy eq laws c gone contents once)
            (are-left eq laws (main_limit limits) sketch c es contents once are gone refl),
      )

  pub total-entering : (keeps : Bool) (limits : PartLimits) (sketch : Option Table) (new : Entry K V) (contents : Contents K V)
      → entry_at eq new.key contents.entries ≡ None → StandOnce eq contents.entries
      → total_weight (after_entering eq keeps limits sketch new contents).entries ≤ total_weight contents.entries + new.weight
  total-entering keeps limits sketch new contents absent once =
      let waiting = record new { part = Window } in
      let entered = after_entry eq keeps waiting contents in
      let apart = once-push eq laws contents.entries waiting absent once in
      grind (
        arith,
        total-push waiting contents.entries,
        total-candidates limits sketch (candidates limits entered.entries) entered apart (are-chosen eq laws limits entered apart),
      )

  -- ---- a turn

  module _ {S W : Type 0} where
    -- the window grew for a new entry that stands in it, and main weighs more than it may then
    pub record IsGrown (cache next : CacheState K V S W) (limits : PartLimits) (new : Entry K V) (contents : Contents K V) : Type 0 where
      pub entered : Entry K V
      pub stood : entry_at eq new.key contents.entries ≡ Some entered
      pub stands : entry_at eq new.key next.contents.entries ≡ Some entered
      pub waits : is_window entered.part ≡ true
      pub grown : cache.shares.extra < next.shares.extra
      pub full : main_limit (limits_of next.shares limits.all) < total_weight (main_of contents.entries)
      pub beside : total_weight (main_of contents.entries) + entered.weight ≤ total_weight contents.entries

    -- an entry that a turn gives up leaves for that
    pub turn-gave-up : (cache : CacheState K V S W) (memory : Option Memory) (limits : PartLimits) (new : Entry K V) (contents : Contents K V)
        → StandOnce eq contents.entries → (key : K) (x : Entry K V) → entry_at eq key contents.entries ≡ Some x
        → entry_at eq key (after_turn eq cache memory limits new contents).contents.entries ≡ None
        → IsGrown cache (after_turn eq cache memory limits new contents) limits new contents
    turn-gave-up cache None limits new contents once key x found absent = something absent found
    turn-gave-up cache (Some memory) limits new contents once key x found absent =
        let gained = gained_by (entry_at eq new.key contents.entries) cache.shares.extra shares.extra in
        let (more, full) = gave-up (limits_of shares limits.all) gained contents key x found absent in
        by (entry_at eq new.key contents.entries) refl more full
      where
        shares : Shares
        shares = shares_at cache.shares limits.all (demand_after cache.shares limits.all memory new.hash new.weight)

        by : (o : Option (Entry K V)) → entry_at eq new.key contents.entries ≡ o → 0 < gained_by o cache.shares.extra shares.extra
            → main_limit (limits_of shares limits.all) < total_weight (main_of contents.entries)
            → IsGrown cache (after_turn eq cache (Some memory) limits new contents) limits new contents
        by None is more full = nothing-more more
        by (Some w) is more full =
            elim (cases_Bool (is_window w.part)) [
              | inl waits ↦
                  let grown : cache.shares.extra < shares.extra =
                  some-less shares.extra cache.shares.extra
                  (subst (λ n. 0 < n) (cond-true (is_window w.part) (shares.extra - cache.shares.extra) 0 waits) more) in
                  record {
                    entered = w;
                    stood = is;
                    stands =
                        window-sharing (limits_of shares limits.all)
                        (gained_by (entry_at eq new.key contents.entries) cache.shares.extra shares.extra) contents new.key w once is waits;
                    waits = waits;
                    grown = grown;
                    full = full;
                    beside = grind (arith, found-weighs new.key w contents.entries is waits, total-split contents.entries);
                  }
              | inr elsewhere ↦
                  nothing-more (subst (λ n. 0 < n) (cond-false (is_window w.part) (shares.extra - cache.shares.extra) 0 elsewhere) more)
            ]

    -- the new entry itself is not given up
    pub turn-keeps-new : (cache : CacheState K V S W) (memory : Option Memory) (limits : PartLimits) (new : Entry K V) (contents : Contents K V)
        → StandOnce eq contents.entries → entry_at eq new.key (after_turn eq cache memory limits new contents).contents.entries ≡ None
        → entry_at eq new.key contents.entries ≡ None
    turn-keeps-new cache memory limits new contents once absent = by (entry_at eq new.key contents.entries) refl
      where
        by : (o : Option (Entry K V)) → entry_at eq new.key contents.entries ≡ o → o ≡ None
        by None is = refl
        by (Some w) is = something absent (turn-gave-up cache memory limits new contents once new.key w is absent).stands
