-- Lemmas on a new entry that enters the window, and on the window's entries that are judged.
use Rattle.std.proofs.Common.{◌≡◌, ◌<◌, ◌≤◌, ◌+◌, ◌-◌, ℕ, max, Bool, true, false, List, [], ◌∷◌, ◌++◌, All, Option, Some, None, nat_eq}
use Rattle.std.proofs.Common.{option_map, unwrap_or, refl, sym, ap, ◌∙◌, arith}
use Rattle.std.proofs.lemmas.List.Sums.{sum_by_push}
use Rattle.std.specs.Cmp.{IsEquivalence}
use Rattle.std.specs.List.{IsDistinct}
use Rattle.std.specs.Map.{lookup}
use Rattle.moka_common.specs.Sketch.{Table}
use Rattle.moka_unsync_model.specs.Deadline.{expiry_of}
use Rattle.moka_unsync_model.specs.declared.entry.Entry.{Entry}
use Rattle.moka_unsync_model.specs.declared.entry.Part.TheVariants.{Probation, Window}
use Rattle.moka_unsync_model.specs.declared.shares.PartLimits.{PartLimits}
use Rattle.moka_unsync_model.specs.Contents.{Contents, after_moving, entry_at, entry_keys, is_before, is_window, main_of, total_weight, window_of}
use Rattle.moka_unsync_model.specs.Contents.{with_latest, without}
use Rattle.moka_unsync_model.specs.Contents.{writes_without}
use Rattle.moka_unsync_model.specs.Insert.{after_arrival, after_entering, after_entering_judged, after_entry, with_write}
use Rattle.moka_unsync_model.specs.Memory.{Memory}
use Rattle.moka_unsync_model.proofs.JudgementLemmas.{judged-kept}
use Rattle.moka_unsync_model.specs.Shares.{main_limit}
use Rattle.moka_unsync_model.specs.Cleanup.{least_recent}
use Rattle.moka_unsync_model.specs.Window.{after_candidate, after_candidacy, after_candidates, after_judgements, after_judging, excess, victims_of}
use Rattle.moka_unsync_model.proofs.EnteringLemmas.{entering-is_kept, entering_excess, excess_left, inside, judged-window, judged_first}
use Rattle.moka_unsync_model.proofs.EnteringLemmas.{lacking-cons, least_recent-cons, least_recent-none, moving-push, passed-push}
use Rattle.moka_unsync_model.proofs.WindowLemmas.{latest-last, window-last}
use Rattle.std.proofs.lemmas.List.Elements.{All-cons, All-nil}
use Rattle.moka_store.specs.Store.{Enters, IsFrontOf, Promotes, Removes, Replaces, Store, contents_of, entries_of}
use Rattle.moka_store.proofs.NodeLemmas.{key_absent}
use Rattle.moka_unsync.specs.Turns.{after_eviction_of, counted}
use Rattle.moka_unsync.proofs.TurnLemmas.{left_is}

-- two steps of what is remembered are one
pub remembered : (first second whole : Memory → Memory) → ((m : Memory) → second (first m) ≡ whole m) → (memory : Option Memory)
    → option_map second (option_map first memory) ≡ option_map whole memory
remembered first second whole same None = refl
remembered first second whole same (Some m) = ap Some (same m)

pub remembered_as : (step whole : Memory → Memory) → ((m : Memory) → step m ≡ whole m) → (memory : Option Memory)
    → option_map step memory ≡ option_map whole memory
remembered_as step whole same None = refl
remembered_as step whole same (Some m) = ap Some (same m)

pub remembered_none : (whole : Memory → Memory) → ((m : Memory) → m ≡ whole m) → (memory : Option Memory) → memory ≡ option_map whole memory
remembered_none whole same None = refl
remembered_none whole same (Some m) = ap Some (same m)

module _ {K V : Type 0} where
  -- ---- how much has to leave

  -- with one more entry of the window
  pub excess-push : (limits : PartLimits) (e : Entry K V) (es : List (Entry K V)) → is_window e.part ≡ true
      → excess limits (es ++ e ∷ [])
      ≡ max (total_weight (window_of es) + e.weight - limits.window) (total_weight es + e.weight - limits.all)
  excess-push limits e es waits =
      ap (λ w. max (w - limits.window) (total_weight (es ++ e ∷ []) - limits.all))
      (ap total_weight (passed-push (λ e. is_window e.part) es e waits) ∙ sum_by_push (λ e. e.weight) (window_of es) e)
      ∙ ap (λ w. max (total_weight (window_of es) + e.weight - limits.window) (w - limits.all)) (sum_by_push (λ e. e.weight) es e)

  -- ---- one after another

  module _ (eq : K → K → Bool) (limits : PartLimits) (sketch : Option Table) (old new : Store K V) (id shortfall : ℕ) (f : IsFrontOf eq Window old id)
      (above : 0 < shortfall) (judged : contents_of new ≡ after_candidate eq limits sketch (contents_of old) f.entry)
      (rest : window_of (entries_of new) ≡ f.rest) where
    -- the candidates that are left
    pub next_candidates : after_candidates eq limits sketch (least_recent (shortfall - f.entry.weight) (window_of (entries_of new))) (contents_of new)
        ≡ after_candidates eq limits sketch (least_recent shortfall (window_of (entries_of old))) (contents_of old)
    next_candidates =
        ap (λ l. after_candidates eq limits sketch (least_recent (shortfall - f.entry.weight) l) (contents_of new)) rest
        ∙ (ap (after_candidates eq limits sketch (least_recent (shortfall - f.entry.weight) f.rest)) judged
        ∙ sym (ap (λ l. after_candidates eq limits sketch l (contents_of old))
        (ap (least_recent shortfall) f.first ∙ least_recent-cons shortfall f.entry f.rest above)))

    -- and what they will lack
    pub next_shortfall : shortfall - f.entry.weight - total_weight (least_recent (shortfall - f.entry.weight) (window_of (entries_of new)))
        ≡ shortfall - total_weight (least_recent shortfall (window_of (entries_of old)))
    next_shortfall =
        ap (λ l. shortfall - f.entry.weight - total_weight (least_recent (shortfall - f.entry.weight) l)) rest
        ∙ sym (ap (λ l. shortfall - total_weight (least_recent shortfall l)) f.first ∙ lacking-cons shortfall f.entry f.rest above)

    -- and what is remembered of them
    pub next_memory : (memory noted : Option Memory)
        → noted ≡ option_map (λ m. after_judging m f.entry.hash (victims_of (Some (main_limit limits)) sketch f.entry (main_of (entries_of old)))) memory
        → option_map (after_judgements eq limits sketch (least_recent (shortfall - f.entry.weight) (window_of (entries_of new))) (contents_of new)) noted
        ≡ option_map (after_judgements eq limits sketch (least_recent shortfall (window_of (entries_of old))) (contents_of old)) memory
    next_memory memory noted is =
        (λ i. option_map (after_judgements eq limits sketch (least_recent (shortfall - f.entry.weight) (rest i)) (judged i)) (is i)) ∙ by memory
      where
        by : (o : Option Memory)
            → option_map (after_judgements eq limits sketch (least_recent (shortfall - f.entry.weight) f.rest) (after_candidate eq limits sketch
            (contents_of old) f.entry))
            (option_map (λ m. after_judging m f.entry.hash (victims_of (Some (main_limit limits)) sketch f.entry (main_of (entries_of old)))) o)
            ≡ option_map (after_judgements eq limits sketch (least_recent shortfall (window_of (entries_of old))) (contents_of old)) o
        by None = refl
        by (Some m) =
            ap (λ es. Some (after_judgements eq limits sketch es (contents_of old) m))
            (sym (ap (least_recent shortfall) f.first ∙ least_recent-cons shortfall f.entry f.rest above))

  -- where none is left, nothing more is remembered
  pub none_judged : (eq : K → K → Bool) (limits : PartLimits) (sketch : Option Table) (shortfall : ℕ) (ws : List (Entry K V)) (contents : Contents K V)
      (memory : Option Memory) → least_recent shortfall ws ≡ []
      → memory ≡ option_map (after_judgements eq limits sketch (least_recent shortfall ws) contents) memory
  none_judged eq limits sketch shortfall ws contents None none = refl
  none_judged eq limits sketch shortfall ws contents (Some m) none = ap (λ es. Some (after_judgements eq limits sketch es contents m)) (sym none)

  -- ---- one more at the back

  latest_entry : (new : Entry K V) → is_window new.part ≡ true → (es : List (Entry K V)) → with_latest new es ≡ es ++ new ∷ []
  latest_entry new waits es = latest-last new es (all es)
    where
      all : (es : List (Entry K V)) → All (λ e. is_before new.part e.part ≡ false) es
      all [] = All-nil (λ e. is_before new.part e.part ≡ false)
      all (e ∷ es) = All-cons (λ e. is_before new.part e.part ≡ false) e es (window-last new.part e.part waits) (all es)

  -- the store once a new entry has entered its window
  pub entered_last : (eq : K → K → Bool) (keeps : Bool) (old new : Store K V) (e : Entry K V) → is_window e.part ≡ true → old.keeps_writes ≡ keeps
      → Enters eq old e new → contents_of new ≡ after_entry eq keeps e (contents_of old)
  entered_last eq keeps old new e waits kept step =
      step.contents
      ∙ (λ i. record { entries = latest_entry e waits (entries_of old) i; written = with_write (kept i) old.written e.key (expiry_of e) })

  -- ---- one of them

  module _ (eq : K → K → Bool) (laws : IsEquivalence eq) (limits : PartLimits) (sketch : Option Table) (old : Store K V) (id : ℕ)
      (f : IsFrontOf eq Window old id) (once : IsDistinct eq (entry_keys (entries_of old))) where
    -- where it is rejected it leaves
    pub rejected : (new : Store K V) → None ≡ victims_of (Some (main_limit limits)) sketch f.entry (main_of (entries_of old)) → Removes eq old id new
        → contents_of new ≡ after_candidate eq limits sketch (contents_of old) f.entry
    rejected new none r = left_is eq old new id f.entry f.stands r ∙ ap (λ o. after_candidacy eq f.entry o (contents_of old)) none

    -- else it comes to main in place of those that give way
    pub admitted : (new evicted : Contents K V) (count : ℕ)
        → counted (main_of (entries_of old)) (Some count) ≡ victims_of (Some (main_limit limits)) sketch f.entry (main_of (entries_of old))
        → evicted ≡ after_eviction_of eq count (contents_of old)
        → new ≡ after_moving eq (record f.entry { part = Probation }) evicted
        → new ≡ after_candidate eq limits sketch (contents_of old) f.entry
    admitted new evicted count some is moved =
        moved
        ∙ (ap (after_moving eq (record f.entry { part = Probation })) is ∙ ap (λ o. after_candidacy eq f.entry o (contents_of old)) some)

    -- either way the others are the window
    pub rest_is : (new : Store K V) → contents_of new ≡ after_candidate eq limits sketch (contents_of old) f.entry
        → window_of (entries_of new) ≡ f.rest
    rest_is new judged =
        ap (λ c. window_of c.entries) judged
        ∙ judged-window eq laws limits sketch f.entry f.rest (contents_of old) once f.first

    -- ---- a new entry behind it

    module _ (new : Entry K V) (waits : is_window new.part ≡ true) (keeps : Bool) where
      -- it is the last of the window, and of the writes
      pub entered_is : (contents : Contents K V) → after_arrival eq keeps new contents ≡ after_entry eq keeps new contents
      entered_is contents =
          λ i. record { entries = latest_entry new waits contents.entries i; written = with_write keeps contents.written new.key (expiry_of new) }

      -- where the first of the window is rejected
      pub replaced_last : (after : Store K V) → None ≡ victims_of (Some (main_limit limits)) sketch f.entry (main_of (entries_of old))
          → old.keeps_writes ≡ keeps → Replaces eq old id new after
          → contents_of after ≡ after_entry eq keeps new (after_candidate eq limits sketch (contents_of old) f.entry)
      replaced_last after none kept r =
          r.contents
          ∙ ((λ i. after_arrival eq (kept i) new (without eq (contents_of old) (ap (λ o. unwrap_or o r.gone) (sym r.stood ∙ f.stands) i).key))
          ∙ (entered_is (without eq (contents_of old) f.entry.key)
          ∙ ap (after_entry eq keeps new) (ap (λ o. after_candidacy eq f.entry o (contents_of old)) none)))

      module _ (absent : entry_at eq new.key (entries_of old) ≡ None) (entered : Contents K V) (count : ℕ)
          (some : counted (main_of (entries_of old)) (Some count) ≡ victims_of (Some (main_limit limits)) sketch f.entry (main_of (entries_of old)))
          (step : entered ≡ after_arrival eq keeps new (after_eviction_of eq count (contents_of old))) where
        -- where it is admitted
        pub promoted_last : (after : Contents K V) → after ≡ after_moving eq (record f.entry { part = Probation }) entered
            → after ≡ after_entry eq keeps new (after_candidate eq limits sketch (contents_of old) f.entry)
        promoted_last after moved =
            let evicted = after_eviction_of eq count (contents_of old) in
            let apart : eq f.entry.key new.key ≡ false =
            laws.symm f.entry.key new.key ∙ key_absent (eq new.key) old.nodes absent id f.entry f.stands in
            moved
            ∙ (ap (after_moving eq (record f.entry { part = Probation })) (step ∙ entered_is evicted)
            ∙ (moving-push eq keeps new waits (record f.entry { part = Probation }) evicted refl apart
            ∙ ap (after_entry eq keeps new) (admitted (after_moving eq (record f.entry { part = Probation }) evicted) evicted count some refl refl)))

  -- an entry of a node, come to main
  pub promoted_is : (eq : K → K → Bool) (old new : Store K V) (id : ℕ) (e : Entry K V) → lookup (nat_eq id) old.nodes ≡ Some e → Promotes eq old id new
      → contents_of new ≡ after_moving eq (record e { part = Probation }) (contents_of old)
  promoted_is eq old new id e stood p =
      p.contents ∙ ap (λ e. after_moving eq (record e { part = Probation }) (contents_of old)) (ap (λ o. unwrap_or o p.entry) (sym p.stood ∙ stood))

  -- ---- the new entry enters

  module _ (eq : K → K → Bool) (laws : IsEquivalence eq) (keeps : Bool) (limits : PartLimits) (sketch : Option Table) (new : Entry K V)
      (contents : Contents K V) (absent : entry_at eq new.key contents.entries ≡ None)
      (unwritten : writes_without eq new.key contents.written ≡ contents.written) where
    -- where nothing has to leave
    pub entering_free : entering_excess limits new contents.entries ≡ 0
        → after_entry eq keeps (inside new) contents ≡ after_entering eq keeps limits sketch new contents
    entering_free none =
        let first : judged_first limits new contents.entries ≡ [] =
        ap (λ n. least_recent n (window_of contents.entries)) none ∙ least_recent-none (window_of contents.entries) in
        sym (entering-is_kept eq laws keeps limits sketch new contents absent unwritten (lacks (entering_excess limits new contents.entries) _ none)
        ∙ ap (λ l. after_entry eq keeps (inside new) (after_candidates eq limits sketch l contents)) first)
      where
        lacks : (n t : ℕ) → n ≡ 0 → n - t ≡ 0
        lacks n t h = omega (arith, h)

    -- and nothing is remembered then
    pub free_judged : entering_excess limits new contents.entries ≡ 0 → (memory : Memory)
        → memory ≡ after_entering_judged eq keeps limits sketch new contents memory
    free_judged none memory =
        let first : judged_first limits new contents.entries ≡ [] =
        ap (λ n. least_recent n (window_of contents.entries)) none ∙ least_recent-none (window_of contents.entries) in
        sym (ap (λ es. after_judgements eq limits sketch es contents memory) first)
        ∙ judged-kept eq limits sketch laws keeps new contents absent unwritten memory (lacks (entering_excess limits new contents.entries) _ none)
      where
        lacks : (n t : ℕ) → n ≡ 0 → n - t ≡ 0
        lacks n t h = omega (arith, h)

    -- one judgement is remembered
    pub last_judged : (f : Entry K V) (rest : List (Entry K V)) → window_of contents.entries ≡ f ∷ rest
        → 0 < entering_excess limits new contents.entries → entering_excess limits new contents.entries ≤ f.weight → (memory : Memory)
        → after_judging memory f.hash (victims_of (Some (main_limit limits)) sketch f (main_of contents.entries))
        ≡ after_entering_judged eq keeps limits sketch new contents memory
    last_judged f rest window some enough memory =
        let n = entering_excess limits new contents.entries in
        let none : n - f.weight ≡ 0 = omega (arith, enough) in
        let first : judged_first limits new contents.entries ≡ f ∷ [] =
        ap (least_recent n) window
        ∙ (least_recent-cons n f rest some ∙ ap (λ l. f ∷ l) (ap (λ m. least_recent m rest) none ∙ least_recent-none rest)) in
        let left : excess_left limits new contents.entries ≡ 0 =
        ap (λ l. n - total_weight (least_recent n l)) window
        ∙ (lacking-cons n f rest some ∙ lacks (n - f.weight) _ none) in
        sym (ap (λ es. after_judgements eq limits sketch es contents memory) first)
        ∙ judged-kept eq limits sketch laws keeps new contents absent unwritten memory left
      where
        lacks : (n t : ℕ) → n ≡ 0 → n - t ≡ 0
        lacks n t h = omega (arith, h)

    -- where the window's first entry is enough
    pub entering_last : (f : Entry K V) (rest : List (Entry K V)) → window_of contents.entries ≡ f ∷ rest
        → 0 < entering_excess limits new contents.entries → entering_excess limits new contents.entries ≤ f.weight
        → after_entry eq keeps (inside new) (after_candidate eq limits sketch contents f) ≡ after_entering eq keeps limits sketch new contents
    entering_last f rest window some enough =
        let n = entering_excess limits new contents.entries in
        let none : n - f.weight ≡ 0 = omega (arith, enough) in
        let first : judged_first limits new contents.entries ≡ f ∷ [] =
        ap (least_recent n) window
        ∙ (least_recent-cons n f rest some ∙ ap (λ l. f ∷ l) (ap (λ m. least_recent m rest) none ∙ least_recent-none rest)) in
        let left : excess_left limits new contents.entries ≡ 0 =
        ap (λ l. n - total_weight (least_recent n l)) window
        ∙ (lacking-cons n f rest some ∙ lacks (n - f.weight) _ none) in
        sym (entering-is_kept eq laws keeps limits sketch new contents absent unwritten left
        ∙ ap (λ l. after_entry eq keeps (inside new) (after_candidates eq limits sketch l contents)) first)
      where
        lacks : (n t : ℕ) → n ≡ 0 → n - t ≡ 0
        lacks n t h = omega (arith, h)
