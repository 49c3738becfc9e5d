-- `new` makes one edge between two blocks, and leaves the rest of them unwritten. Assumes `Logic`.
use mathlib.Core.Path.{◌≡◌, refl, ap}
use mathlib.Core.Bool.{false}
use mathlib.Core.List.{[], ◌∷◌}
use mir.MapTy.{inst_fn}
use contract.Monad.{fact}
use contract.Lifetimes.{toks}
use contract.Running.{tables}
use types.Kit.{‵, raw, at_ret, ◌$◌, ◌∵◌, !, qed, by, move, keep, drop, use0, rewrite, fsplit, fjoin, fjoin3}
use types.Part.{whole, sub, agg}
use types.Run.{init, stop, fld, lit, of_opd, and_then, no_more, assigns, assigns_last, first, blocks, exec, returns, enter}
use types.ByLocal.{alloc_all, pass_all, free_all, look_at, get, get_in, through, sets, is, env}
use denote.RattleType.{owns}
use denote.RawPtr.{Ptr, null_ptr, ptr_val}
use denote.Steps.{nothing}
use Rattle.lru.specs.Linked.{same_ptr}
use Rattle.lru.proofs.Apart.{apart_two}
use Rattle.lru.proofs.Memory.{mark, knows, rooms_differ}
use Rattle.std_alloc.proofs.RcSteps.{Ptr-Good, word, word-Good}
use Rattle.std_alloc.proofs.VecSteps.Shapes.{after}
use Rattle.moka_deque.specs.RawOwnership.{blank_owns}
use Rattle.moka_deque.proofs.RawMemory.{Tk, args, RK, RV, Lr, Bl, Mark, mark_made}
use Rattle.moka_deque.proofs.RawFrame.{at_types, wants, blank, takes, states}
use Rattle.moka_deque.proofs.RawLinks.{edge_made, link_room_cells, no_link}
use Rattle.moka_deque.specs.contracts.raw.list.List.new.Key.{name as itself}
use Rattle.moka_deque.proofs.raw.list.List.new.Statement.{statement}
use Rattle.moka_deque.proofs.raw.list.List.new.Code as code

pub new_spec : {M : Type 1} → statement M
new_spec 𝓤 𝓛 𝓜 𝓡 wired X Y W LX LY LW g d dd met met' =
    let E = at_types X LX Y LY W LW g d dd in let 𝓣 = tables 𝓤 𝓛.H 𝓜 𝓡 𝓡.env in let body = inst_fn (args E) code.function in
    takes E (blank E ∷ blank E ∷ []) (Lr E) 𝓛 𝓜 𝓡 (λ _ xs. wants 𝓤 (xs.1.0.alloc ≡ xs.0.alloc))
    (λ _ xs r. fact 𝓤 ((r.head ≡ xs.0.ptr) × (r.tail ≡ xs.1.0.ptr) × (r.nodes ≡ []) × (r.alloc ≡ xs.0.alloc)))
    (itself (args E)) body (code.unfolded 𝓤 𝓛.H 𝓜 𝓡 wired (X, (Y, (W, tt))) d dd) (λ κs qs xs Post one_allocator leave.
    let p : Ptr = xs.0.ptr in let q : Ptr = xs.1.0.ptr in
    qed 𝓛 (‵ (owns (Bl E ∷ Bl E ∷ []) xs (word p ∷ [], (word q ∷ [], tt))) ∷ raw (toks 𝓛 3 κs qs) ∷ []) ∵
    enter ! _ _ _ _ _ $ alloc_all ! (λ locals. pass_all ! refl (word-Good [] p, (word-Good [] q, tt)) $
    fsplit ! $ move ! (1 ∷ []) $ fsplit ! $ fsplit ! $ drop ! $ rewrite ! 0 (λ (a : W.Denot). ‵ (blank_owns (RK E) (RV E) (Tk E a) q)) one_allocator refl $
    fsplit ! $
    move ! (3 ∷ []) $ fsplit ! $ drop ! $ fsplit ! $ move ! (0 ∷ 2 ∷ []) $
    -- [room for the first block's links; for the last block's; the rest of the first; of the last; nothing; the idle tokens]
    knows ! (same_ptr p q ≡ false) (rooms_differ 𝓛 𝓜 p q) (λ differ.
    let out : (Lr E).Denot = record { mark = record {}; head = p; tail = q; nodes = []; alloc = xs.0.alloc; apart = apart_two p q differ } in
    link_room_cells ! p (λ pb po is_p. move ! (2 ∷ []) $ link_room_cells ! q (λ qb qo is_q.
    -- [room for the last block's `prev` and `next`; for the first block's `prev` and `next`; the rest of the first; of the last; ..]
    sets ! (is ! (of_opd ! (get_in ! (fld ! refl (stop !)) (sub ! 0 refl (whole !)))) (ap ptr_val is_p)) refl (tt, tt) $
    sets ! (is ! (of_opd ! (get_in ! (fld ! refl (stop !)) (sub ! 0 refl (whole !)))) (ap ptr_val is_q)) refl (tt, tt) $ first ! $ blocks ! $
    assigns ! (of_opd ! (get ! refl)) (through ! refl (fld ! refl (stop !))) (init ! 3 refl (tt, tt)) $
    assigns ! (of_opd ! (get ! refl)) (through ! refl (fld ! refl (stop !))) (init ! 0 refl (tt, tt)) $
    assigns ! (of_opd ! (lit ! tt)) (through ! refl (fld ! refl (stop !))) (init ! 2 refl (Ptr-Good null_ptr)) $
    assigns_last ! (of_opd ! (lit ! tt)) (through ! refl (fld ! refl (stop !))) (init ! 1 refl (Ptr-Good null_ptr)) $
    exec ! 𝓣.C 𝓣.Λ (env body.locals locals) (after 3 body.body) (at_ret _ Post) $
    sets ! (agg ! (no_more !)) refl (tt, tt) $ sets ! (agg ! (and_then ! (get ! refl) (no_more !))) refl (tt, (tt, tt)) $
    -- the edge, and both ends, whose outer links are room
    move ! (3 ∷ 0 ∷ []) $ edge_made ! is_p is_q $ nothing ! $ move ! (1 ∷ 0 ∷ []) $ fjoin ! $
    move ! (1 ∷ []) $ no_link ! 8 is_q null_ptr $ move ! (0 ∷ 4 ∷ []) $ fjoin ! $ move ! (2 ∷ []) $ no_link ! 0 is_p null_ptr $ move ! (0 ∷ 3 ∷ []) $
    fjoin ! $ fjoin ! $
    nothing ! $ move ! (2 ∷ 0 ∷ 1 ∷ []) $ fjoin3 ! $ use0 𝓛 (‵ ((Mark E).own_val (tt, tt) (mark ∷ []))) (mark_made E 𝓛) $ fjoin ! $
    returns ! (look_at ! 0 refl) $ free_all ! refl $ keep ! (0 ∷ 2 ∷ []) $ states ! (refl, refl, refl, refl) $ move ! (1 ∷ 2 ∷ 0 ∷ []) $
    by ! (leave out mark))))))
