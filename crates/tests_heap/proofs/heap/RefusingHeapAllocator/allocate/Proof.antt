-- `allocate` asks the tally whether it refuses, else the inner heap, and counts the block that comes. Assumes `Logic`.
use mathlib.Core.Path.{◌≡◌, refl, sym, subst}
use mathlib.Core.Bool.{Bool, true, false}
use mathlib.Core.List.{[], ◌∷◌}
use Prim.Native.Nat.{ℕ}
use lib.Dec.{T}
use mir.MapTy.{inst_fn}
use mir.Syntax.{named, ty_unit, w64}
use mir.Val.{Val, WT, has_ty, vbool, vint, vunit}
use base.Fml.{flft}
use base.Logic.{ent}
use prog.Wp.{Env, Wp, after_seq, at_return}
use contract.BorrowLft.{◌⊑◌, ⊑_trans}
use contract.Lifetimes.{toks}
use contract.Monad.{fact}
use contract.Running.{tables}
use types.Kit.{Post as After, any_q, at_ret, ⋆, ‵, raw, ◌⊛◌, some, later, given, ◌$◌, ◌∵◌, !, qed, by, move, keep, use0, use1, use2}
use types.Kit.{split, split3, join, pick, learn, await, fjoin}
use types.Match.{vrt}
use types.Part.{whole, agg}
use types.Run.{stop, fld, addr, lit, of_opd, no_more, and_then, first, branches, skips, switches_on, exec, returns, returns_within, enter}
use types.ByLocal.{alloc_all, pass_all, free_all, look_at, get, get_tag, through, sets, lands_as, lands_last, env}
use denote.Builtin.{usize}
use denote.Exit.{yes}
use denote.Plain.{uint_vals, uint_Tells}
use denote.RattleType.{owns}
use denote.RawPtr.{block_ptr}
use denote.Ref.{shr_vals, shr_Tells}
use denote.Signature.{types_at}
use denote.Steps.{heard, nothing}
use denote.Triple.Call.{calls_at, calls_at_last}
use denote.Triple.Table.{framed}
use denote.Triple.Walked.{Stays, stay_dropped, walk_of}
use Rattle.std.specs.Prelude.{Ok, Err}
use Rattle.std.specs.Allocator.{HasLayout, block_if_ok}
use Rattle.std.proofs.raw_atomic.Walks.{proved, leaves}
use Rattle.std.proofs.alloc.Calls.{Al, token, Answer, answer_val, Answer-typed, Answer-Ok, Answer-err, answers}
use Rattle.std.proofs.alloc.Calls.{Takes, at_takes, Answered, Takes-goes, Takes-gives}
use Rattle.std.proofs.VecSteps.Shapes.{after, head, arm_body}
use Rattle.tests_heap.proofs.HeapLemmas.{Heap, at_heap, goes_heap, goes_word, inner_of, tally_of, Opened, opens}
use Rattle.tests_heap.proofs.HeapLemmas.{Asking, asking, asks, told, Counting, counting, counts, counted}
use Rattle.tests_heap.proofs.tally.Tally.refuses.Met.{met as refuses}
use Rattle.tests_heap.proofs.tally.Tally.hold.Met.{met as holds}
use Rattle.tests_heap.specs.contracts.heap.RefusingHeapAllocator.allocate as its
use Rattle.tests_heap.specs.contracts.heap.RefusingHeapAllocator.allocate.Key.{name as itself}
use Rattle.tests_heap.proofs.heap.RefusingHeapAllocator.allocate.Statement.{statement}
use Rattle.tests_heap.proofs.heap.RefusingHeapAllocator.allocate.Code as code

pub allocate_spec : {M : Type 1} → statement M
allocate_spec 𝓤 𝓛 𝓜 𝓡 wired B laws g d drops met _ =
    let Z : Al = record { row = B; laws = laws; g = g; d = d; drops = drops } in let 𝓣 = tables 𝓤 𝓛.H 𝓜 𝓡 𝓡.env in
    let ended = its.ended B g d drops in let clauses = its.clauses B g d drops 𝓛 𝓜.mem 𝓡.returns in
    let stayed : Stays ended.signature.params ended.kept = (stay_dropped _ yes, (stay_dropped _ yes, (stay_dropped _ yes, tt))) in
    let body = inst_fn (at_heap Z) code.function in
    proved 𝓛 ended stayed clauses 𝓜 𝓡 (goes_heap Z 𝓛, (goes_word 𝓛, (goes_word 𝓛, tt)))
    (itself (at_heap Z)) body (code.unfolded 𝓤 𝓛.H 𝓜 𝓡 wired (B, tt) d drops)
    (λ κs. (shr_vals, (uint_vals w64, (uint_vals w64, tt))))
    (λ κs. (shr_Tells (named 0) κs.0 (Heap Z), (uint_Tells w64, (uint_Tells w64, tt)))) (λ κs qs bounds a τ are.
    let κ = κs.0 in let q = qs.0 in let p = a.0.ref_ptr in let h = a.0.now in let idle = toks 𝓛 1 κs.1 qs.1 in
    let n : ℕ = a.1.0 in let al : ℕ = a.1.1.0 in
    let W = walk_of 𝓛 ended stayed clauses in
    let y : W.Ghost = ((κs, qs, bounds, a, (shr_vals a.0, (vint w64 n ∷ [], (vint w64 al ∷ [], tt)))), τ) in
    let Asks = Asking 𝓛 𝓜 𝓡 in let ask : Asks.Ghost = asking 𝓛 𝓜 𝓡 κ q (tally_of Z p) h.tally in
    let Counts = Counting 𝓛 𝓜 𝓡 in let count : Counts.Ghost = counting 𝓛 𝓜 𝓡 κ q (tally_of Z p) h.tally n in
    let Call = Takes Z 𝓛 𝓜.mem 𝓡.returns in let call : Call.Ghost = at_takes Z 𝓛 𝓜.mem 𝓡.returns κ q (inner_of Z p) h.inner n al τ in
    let ends : (r : Answer.Denot) (v : Val)
    → ent 𝓤 (⋆ 𝓛 (‵ (Answer.own_val r (v ∷ [])) ∷ ‵ (block_if_ok (token Z h.inner) τ r) ∷ ‵ (flft κ q) ∷ raw idle ∷ [])) (W.post y v) = λ r v.
    qed 𝓛 (‵ (Answer.own_val r (v ∷ [])) ∷ ‵ (block_if_ok (token Z h.inner) τ r) ∷ ‵ (flft κ q) ∷ raw idle ∷ []) ∵
    nothing ! $ nothing ! $ fjoin ! $ nothing ! $ fjoin ! $ nothing ! $ fjoin ! $ move ! (3 ∷ 4 ∷ []) $ join ! $
    by ! (leaves 𝓛 ended stayed clauses y v r (tt, (tt, (tt, tt))) (tt, (tt, (tt, tt)))) in
    let none : ent 𝓤 (⋆ 𝓛 (‵ (flft κ q) ∷ raw idle ∷ [])) (W.post y (answer_val false 0 0)) =
    qed 𝓛 (‵ (flft κ q) ∷ raw idle ∷ []) ∵ nothing ! $
    use0 𝓛 (‵ (Answer.own_val (Err (record {})) (answer_val false 0 0 ∷ []))) (Answer-err 𝓛) $ by ! (ends (Err (record {})) (answer_val false 0 0)) in
    qed 𝓛 (((‵ (flft κ q) ⊛ raw idle) ⊛ ‵ (owns (types_at ended.signature.params κs) a y.0.4)) ∷
    (raw (fact 𝓤 (κs.1.0 ⊑ B.lives)) ⊛ raw (fact 𝓤 (HasLayout τ n al))) ∷ []) ∵
    use1 𝓛 (Opened Z 𝓛 κ q idle p h) (opens Z 𝓛 κ q idle (usize ∷ usize ∷ []) a.0 a.1 y.0.4.1) $
    move ! (1 ∷ []) $ split ! $ heard ! _ (λ outlived. heard ! _ (λ asked. split3 ! $ move ! (2 ∷ []) $ split3 ! $ move ! (3 ∷ 4 ∷ []) $
    -- [the tally; the token; the tally; the inner heap; the idle tokens]
    enter ! _ _ _ _ _ $ alloc_all ! (λ l. pass_all ! refl ((tt, tt), ((tt, record { fits = are.1.0.1 }), ((tt, record { fits = are.1.1.0.1 }), tt))) $
    let En : Env 𝓤 𝓛.H = env body.locals l in
    let Done = at_return 𝓤 𝓛.H En (W.post y) in
    let Then : After 𝓤 𝓛.H = any_q (after_seq 𝓤 𝓛.H (Wp 𝓤 𝓛.H 𝓣.C 𝓣.Λ En (after 6 body.body) Done) Done) in
    sets ! (addr ! (through ! refl (fld ! refl (stop !)))) refl (tt, tt) $
    use2 𝓛 (raw (Asks.pre ask)) (asks 𝓛 𝓜 𝓡 κ q (tally_of Z p) h.tally) $
    calls_at ! (framed 𝓤 𝓛.H 𝓜 𝓣) Asks (refuses 𝓤 𝓛 𝓜 𝓡 (code.calls-tests_heap::tally::Tally::refuses 𝓡.env wired)) ask
    (and_then ! (get ! refl) (no_more !)) (λ v.
    use1 𝓛 (later (some (λ (no : Bool). given (v ≡ vbool no) (‵ (flft κ q))))) (told 𝓛 𝓜 𝓡 κ q (tally_of Z p) h.tally v) $ await ! tt $
    pick ! (λ no. learn ! (λ is. lands_as ! is refl (tt, tt) $
    -- [the token; the tally; the inner heap; the idle tokens]
    first ! $ branches ! (get ! refl)
    -- the tally refuses
    (λ _. sets ! (agg ! (no_more !)) refl (tt, tt) $
    sets ! (agg ! (and_then ! (lit ! tt) (and_then ! (get ! refl) (no_more !)))) refl (Answer-typed false 0 0) $
    returns_within ! (W.post y) refl (look_at ! 0 refl) $ free_all ! refl $ keep ! (0 ∷ 3 ∷ []) $ by ! none)
    -- the inner heap is asked
    (λ _. skips ! $ exec ! 𝓣.C 𝓣.Λ En (after 3 body.body) (at_ret En (W.post y)) $
    sets ! (addr ! (through ! refl (fld ! refl (stop !)))) refl (tt, tt) $ move ! (2 ∷ 0 ∷ []) $
    use2 𝓛 (raw (Call.pre call)) (Takes-goes Z 𝓛 𝓜.mem 𝓡.returns κ q (inner_of Z p) h.inner (⊑_trans κ κs.1.0 B.lives bounds.0 outlived)
    n al τ asked.0 asked.1 are.1.0.1 are.1.1.0.1) $
    calls_at ! (framed 𝓤 𝓛.H 𝓜 𝓣) Call (met.allocate drops) call (and_then ! (get ! refl) (and_then ! (get ! refl) (and_then ! (get ! refl) (no_more !)))) (λ u.
    use1 𝓛 (later (raw (Answered Z 𝓛 𝓜.mem 𝓡.returns h.inner τ u) ⊛ ‵ (flft κ q)))
    (Takes-gives Z 𝓛 𝓜.mem 𝓡.returns κ q (inner_of Z p) h.inner n al τ u) $ await ! tt $ split ! $
    answers Z ! 𝓜.mem 𝓡.returns h.inner τ u
    -- a block came: [its memory; its token; the token; the tally; the idle tokens]
    (λ b o came. fjoin ! $ move ! (2 ∷ 1 ∷ []) $ lands_as ! came refl (Answer-typed true b o) $
    first ! $ switches_on ! (get_tag ! (vrt ! refl (fld ! refl (stop !))) (whole !)) $ exec ! 𝓣.C 𝓣.Λ En (arm_body 0 (head (after 5 body.body))) Then $
    sets ! (addr ! (through ! refl (fld ! refl (stop !)))) refl (tt, tt) $
    use2 𝓛 (raw (Counts.pre count)) (counts 𝓛 𝓜 𝓡 κ q (tally_of Z p) h.tally n are.1.0.1) $
    calls_at_last ! (framed 𝓤 𝓛.H 𝓜 𝓣) Counts (holds 𝓤 𝓛 𝓜 𝓡 (code.calls-tests_heap::tally::Tally::hold 𝓡.env wired)) count
    (and_then ! (get ! refl) (and_then ! (get ! refl) (no_more !))) (λ t.
    use1 𝓛 (later (given (t ≡ vunit) (‵ (flft κ q)))) (counted 𝓛 𝓜 𝓡 κ q (tally_of Z p) h.tally n t) $ await ! tt $ learn ! (λ is_unit.
    lands_last ! refl (subst (λ (i : Val). T (has_ty ty_unit i) × WT i) (sym is_unit) (tt, tt)) $
    exec ! 𝓣.C 𝓣.Λ En (after 6 body.body) (at_ret En (W.post y)) $ sets ! (of_opd ! (get ! refl)) refl (Answer-typed true b o) $
    returns ! (look_at ! 0 refl) $ free_all ! refl $ move ! (1 ∷ 0 ∷ []) $
    use0 𝓛 (‵ (Answer.own_val (Ok (block_ptr b o)) (answer_val true b o ∷ []))) (Answer-Ok 𝓛 b o) $ by ! (ends (Ok (block_ptr b o)) (answer_val true b o)))))
    -- none came: [the token; the tally; the idle tokens]
    (λ refused. lands_as ! refused refl (Answer-typed false 0 0) $
    first ! $ switches_on ! (get_tag ! (vrt ! refl (fld ! refl (stop !))) (whole !)) $ exec ! 𝓣.C 𝓣.Λ En (arm_body 1 (head (after 5 body.body))) Then $
    skips ! $ exec ! 𝓣.C 𝓣.Λ En (after 6 body.body) (at_ret En (W.post y)) $ sets ! (of_opd ! (get ! refl)) refl (Answer-typed false 0 0) $
    returns ! (look_at ! 0 refl) $ free_all ! refl $ keep ! (0 ∷ 2 ∷ []) $ by ! none))))))))))
