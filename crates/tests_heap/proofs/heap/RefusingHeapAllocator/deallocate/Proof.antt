-- `deallocate` counts the block off, and hands it to the inner heap. Assumes `Logic`.
use mathlib.Core.Path.{◌≡◌, refl, ap}
use mathlib.Core.List.{List, [], ◌∷◌}
use Prim.Native.Nat.{ℕ}
use mir.MapTy.{inst_fn}
use mir.Syntax.{named, w64}
use mir.Val.{Val, vint, vptr, vunit}
use base.Fml.{flft}
use base.Logic.{fst∗, never}
use prog.Wp.{WpFn}
use contract.BorrowLft.{◌⊑◌, ⊑_trans}
use contract.Lifetimes.{toks}
use contract.Monad.{fact}
use contract.Running.{tables}
use types.Logic.{sem}
use types.Kit.{‵, raw, ◌⊛◌, later, given, prop, ◌$◌, ◌∵◌, !, qed, by, move, keep, use1, use2, group, split3, join}
use types.Kit.{learn, await, regoal, fsplit, fjoin, feq_i}
use types.Run.{stop, fld, addr, of_opd, unit_lit, no_more, and_then, returns, enter}
use types.ByLocal.{alloc_all, pass_all, free_all, look_at, get, through, sets, lands_as}
use denote.Builtin.{RawPtr, usize}
use denote.Exit.{yes}
use denote.Plain.{uint_vals, uint_Tells}
use denote.RawPtr.{Ptr, null_ptr, ptr_val, rawptr_vals, rawptr_Tells, in_a_block}
use denote.RattleType.{owns}
use denote.Ref.{shr_vals, shr_Tells}
use denote.Signature.{types_at}
use denote.Steps.{heard, nothing}
use denote.Triple.Call.{calls_at}
use denote.Triple.Table.{framed}
use denote.Triple.Walked.{Stays, stay_dropped, walk_of}
use Rattle.std.proofs.raw_atomic.Walks.{proved, leaves}
use Rattle.std.proofs.alloc.Calls.{Al, token, Gives, at_gives, Gives-goes, Gives-Gives}
use Rattle.std.specs.Allocator.{HasLayout, owned_block}
use Rattle.tests_heap.proofs.HeapLemmas.{Heap, at_heap, goes_heap, goes_ptr, goes_word, inner_of, tally_of, Opened, opens}
use Rattle.tests_heap.proofs.HeapLemmas.{Counting, counting, counts, counted}
use Rattle.tests_heap.proofs.tally.Tally.give_back.Met.{met as gives_back}
use Rattle.tests_heap.specs.contracts.heap.RefusingHeapAllocator.deallocate as its
use Rattle.tests_heap.specs.contracts.heap.RefusingHeapAllocator.deallocate.Key.{name as itself}
use Rattle.tests_heap.proofs.heap.RefusingHeapAllocator.deallocate.Statement.{statement}
use Rattle.tests_heap.proofs.heap.RefusingHeapAllocator.deallocate.Code as code

pub deallocate_spec : {M : Type 1} → statement M
deallocate_spec 𝓤 𝓛 𝓜 𝓡 wired B laws g d drops met _ =
    let Z : Al = record { row = B; laws = laws; g = g; d = d; drops = drops } in let 𝓣 = tables 𝓤 𝓛.H 𝓜 𝓡 𝓡.env in
    let ended = its.ended B g d drops in let clauses = its.clauses B g d drops 𝓛 𝓜.mem 𝓡.returns in
    let stayed : Stays ended.signature.params ended.kept = (stay_dropped _ yes, (stay_dropped _ yes, (stay_dropped _ yes, (stay_dropped _ yes, tt)))) in
    let body = inst_fn (at_heap Z) code.function in
    proved 𝓛 ended stayed clauses 𝓜 𝓡 (goes_heap Z 𝓛, (goes_ptr 𝓛, (goes_word 𝓛, (goes_word 𝓛, tt))))
    (itself (at_heap Z)) body (code.unfolded 𝓤 𝓛.H 𝓜 𝓡 wired (B, tt) d drops)
    (λ κs. (shr_vals, (rawptr_vals, (uint_vals w64, (uint_vals w64, tt)))))
    (λ κs. (shr_Tells (named 0) κs.0 (Heap Z), (rawptr_Tells, (uint_Tells w64, (uint_Tells w64, tt))))) (λ κs qs bounds a τ are.
    let κ = κs.0 in let q = qs.0 in let p = a.0.ref_ptr in let h = a.0.now in let idle = toks 𝓛 1 κs.1 qs.1 in
    let block : Ptr = a.1.0 in let n : ℕ = a.1.1.0 in let al : ℕ = a.1.1.1.0 in
    let W = walk_of 𝓛 ended stayed clauses in
    let y : W.Ghost = ((κs, qs, bounds, a, (shr_vals a.0, (rawptr_vals block, (vint w64 n ∷ [], (vint w64 al ∷ [], tt))))), τ) in
    let passed : Ptr → List Val = λ x. vptr p.0 p.1 ∷ ptr_val x ∷ vint w64 n ∷ vint w64 al ∷ [] in
    let Counts = Counting 𝓛 𝓜 𝓡 in let count : Counts.Ghost = counting 𝓛 𝓜 𝓡 κ q (tally_of Z p) h.tally n in
    qed 𝓛 (((‵ (flft κ q) ⊛ raw idle) ⊛ ‵ (owns (types_at ended.signature.params κs) a y.0.4)) ∷
    (raw (fact 𝓤 (κs.1.0 ⊑ B.lives)) ⊛ raw (fact 𝓤 (HasLayout τ n al)) ⊛ ‵ (owned_block (token Z h.inner) τ block)) ∷ []) ∵
    use1 𝓛 (Opened Z 𝓛 κ q idle p h) (opens Z 𝓛 κ q idle (RawPtr ∷ usize ∷ usize ∷ []) a.0 a.1 y.0.4.1) $
    move ! (1 ∷ []) $ split3 ! $ heard ! _ (λ outlived. heard ! _ (λ asked.
    in_a_block ! block (owned_block (token Z h.inner) τ) (fst∗ 𝓤 (never 𝓤) (sem 𝓛 (token Z h.inner τ null_ptr))) (λ b o is.
    regoal ! (λ (us : List Val). prop (WpFn 𝓤 𝓛.H 𝓣.C 𝓣.Λ body us (W.post y))) (ap passed is) refl $
    move ! (1 ∷ []) $ split3 ! $ move ! (2 ∷ []) $ split3 ! $ move ! (3 ∷ 4 ∷ []) $
    -- [the tally; the token; the tally; the inner heap; the idle tokens; the block]
    enter ! _ _ _ _ _ $
    alloc_all ! (λ l. pass_all ! refl ((tt, tt), ((tt, tt), ((tt, record { fits = are.1.1.0.1 }), ((tt, record { fits = are.1.1.1.0.1 }), tt)))) $
    sets ! (addr ! (through ! refl (fld ! refl (stop !)))) refl (tt, tt) $
    use2 𝓛 (raw (Counts.pre count)) (counts 𝓛 𝓜 𝓡 κ q (tally_of Z p) h.tally n are.1.1.0.1) $
    calls_at ! (framed 𝓤 𝓛.H 𝓜 𝓣) Counts (gives_back 𝓤 𝓛 𝓜 𝓡 (code.calls-tests_heap::tally::Tally::give_back 𝓡.env wired)) count
    (and_then ! (get ! refl) (and_then ! (get ! refl) (no_more !))) (λ v.
    use1 𝓛 (later (given (v ≡ vunit) (‵ (flft κ q)))) (counted 𝓛 𝓜 𝓡 κ q (tally_of Z p) h.tally n v) $ await ! tt $ learn ! (λ is_unit.
    lands_as ! is_unit refl (tt, tt) $ sets ! (addr ! (through ! refl (fld ! refl (stop !)))) refl (tt, tt) $
    -- [the token; the tally; the inner heap; the idle tokens; the block]
    move ! (4 ∷ []) $ fsplit ! $ move ! (0 ∷ 1 ∷ 4 ∷ 2 ∷ []) $ group ! 4 $
    let Call = Gives Z 𝓛 𝓜.mem 𝓡.returns in
    let call : Call.Ghost = at_gives Z 𝓛 𝓜.mem 𝓡.returns κ q (inner_of Z p) h.inner b o n al τ in
    use1 𝓛 (raw (Call.pre call)) (Gives-goes Z 𝓛 𝓜.mem 𝓡.returns κ q (inner_of Z p) h.inner (⊑_trans κ κs.1.0 B.lives bounds.0 outlived)
    b o n al τ asked.0 asked.1 are.1.1.0.1 are.1.1.1.0.1) $
    calls_at ! (framed 𝓤 𝓛.H 𝓜 𝓣) Call (met.deallocate drops) call
    (and_then ! (get ! refl) (and_then ! (get ! refl) (and_then ! (get ! refl) (and_then ! (get ! refl) (no_more !))))) (λ u.
    use1 𝓛 (later (given (u ≡ vunit) (‵ (flft κ q)))) (Gives-Gives Z 𝓛 𝓜.mem 𝓡.returns κ q (inner_of Z p) h.inner b o n al τ u) $ await ! tt $
    learn ! (λ is_unit'. lands_as ! is_unit' refl (tt, tt) $ sets ! (of_opd ! (unit_lit !)) refl (tt, tt) $ returns ! (look_at ! 0 refl) $ free_all ! refl $
    -- [the token; the tally; the idle tokens]
    keep ! (0 ∷ 2 ∷ []) $ join ! $ nothing ! $ feq_i ! (List Val) (vunit ∷ []) (vunit ∷ []) refl $
    nothing ! $ nothing ! $ fjoin ! $ nothing ! $ fjoin ! $ nothing ! $ fjoin ! $ nothing ! $ fjoin ! $ move ! (3 ∷ 0 ∷ 1 ∷ 2 ∷ []) $
    by ! (leaves 𝓛 ended stayed clauses y vunit tt (tt, (tt, (tt, (tt, tt)))) (tt, (tt, (tt, (tt, tt))))))))))))))
