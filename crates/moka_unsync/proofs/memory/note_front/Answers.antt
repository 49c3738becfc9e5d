use Rattle.std.proofs.Common.{◌≡◌, ◌∙◌, ◌++◌, ◌<◌, ◌-◌, ℕ, List, ◌∷◌, ap, arith, fold, map, refl, subst, suc, sym, take, zero}
use Rattle.moka_unsync_model.specs.Contents.{main_of, window_of}
use Rattle.moka_unsync_model.specs.Memory.{Tags, after_note}
use Rattle.moka_unsync_model.specs.declared.entry.Entry.{Entry}
use Rattle.moka_store.specs.Store.{entries_of}
use Rattle.moka_unsync.proofs.AdmissionLemmas.{main_and_window, main_none, main_step}
use Rattle.moka_unsync.proofs.TurnLemmas.{take_none_of}
use Rattle.moka_unsync.proofs.memory.note_front.Goals as goal

-- one more is noted
noted : {K V : Type 0} (tags : Tags) (left : ℕ) (x : Entry K V) (es : List (Entry K V)) → 0 < left
    → fold after_note (after_note tags x.hash) (map (λ e. e.hash) (take (left - 1) es)) ≡ fold after_note tags (map (λ e. e.hash) (take left (x ∷ es)))
noted tags zero x es some = absurd (omega (arith, some))
noted tags (suc n) x es some = ap (λ k. fold after_note (after_note tags x.hash) (map (λ e. e.hash) (take k es))) (one_less n)
  where
    one_less : (n : ℕ) → suc n - 1 ≡ n
    one_less n = omega arith

pub loop-left-init : goal.loop-left-init
loop-left-init g c =
    subst (λ rest. (rest ≡ main_of rest ++ window_of rest)
    × (fold after_note c.args.tags.now (map (λ e. e.hash) (take c.args.count (main_of rest)))
    ≡ fold after_note c.args.tags.now (map (λ e. e.hash) (take c.args.count (main_of (entries_of c.args.store.now))))))
    (sym c.iter-entries.ensures.value) (main_and_window (entries_of c.args.store.now) c.iter-entries.ensures.order, refl)

pub returns-then-is_windowed : goal.returns-then-is_windowed
returns-then-is_windowed g c =
    let none = main_none c.in-Some.entry.now c.next.new.self c.loop-left.entries (c.in-Some.ensures {u = tt}).steps c.loop-left.invariant.0
    (sym c.is_windowed.ensures ∙ c.if-is_windowed.true) in
    sym (ap (λ es. fold after_note c.loop-left.tags (map (λ e. e.hash) es)) (take_none_of (main_of c.loop-left.entries) none c.loop-left.left))
    ∙ c.loop-left.invariant.1

pub loop-left-preserved : goal.loop-left-preserved
loop-left-preserved g c =
    let (arranged, main) = main_step c.in-Some.entry.now c.next.new.self c.loop-left.entries (c.in-Some.ensures {u = tt}).steps c.loop-left.invariant.0
    (sym c.is_windowed.ensures ∙ c.if-is_windowed.false) in
    rw c.note.ensures (
      arranged,
      noted c.loop-left.tags c.loop-left.left c.in-Some.entry.now (main_of c.next.new.self) c.loop-left-test.true
          ∙ (ap (λ es. fold after_note c.loop-left.tags (map (λ e. e.hash) (take c.loop-left.left es))) (sym main)
          ∙ c.loop-left.invariant.1),
    )
