-- `into_ends` gives up the one edge of an empty list, so that both blocks have nothing in them. Assumes `Logic`.
use mathlib.Core.Path.{◌≡◌, refl, sym}
use mathlib.Core.List.{List, [], ◌∷◌}
use mir.MapTy.{inst_fn}
use contract.Monad.{fact}
use contract.Lifetimes.{toks}
use types.Kit.{‵, raw, ◌$◌, ◌∵◌, !, qed, by, move, keep, drop, use2, rewrite, fsplit, fsplit3, fjoin}
use types.Part.{whole, sub, agg}
use types.Run.{stop, fld, and_then, no_more, returns, enter}
use types.ByLocal.{alloc_all, pass_all, free_all, look_at, get, get_in, sets}
use denote.Param.{layout}
use denote.RattleType.{owns}
use denote.RawPtr.{Ptr, block_ptr}
use denote.Struct.Tuple.{Tuple}
use Rattle.lru.proofs.Memory.{mark, word_made}
use Rattle.std_alloc.proofs.RcSteps.{word, word-Good}
use Rattle.std_alloc.proofs.Pairs.{pair_val, pair_Typed, pair_of}
use Rattle.moka_deque.specs.RawOwnership.{list_owns}
use Rattle.moka_deque.proofs.RawMemory.{Tk, args, RK, RV, Node, Lr, Np, Bl}
use Rattle.moka_deque.proofs.RawFrame.{at_types, wants, place, whole_list, takes, states}
use Rattle.moka_deque.proofs.RawLinks.{edge_cells, no_link}
use Rattle.moka_deque.specs.contracts.raw.list.List.into_ends.Key.{name as itself}
use Rattle.moka_deque.proofs.raw.list.List.into_ends.Statement.{statement}
use Rattle.moka_deque.proofs.raw.list.List.into_ends.Code as code

pub into_ends_spec : {M : Type 1} → statement M
into_ends_spec 𝓤 𝓛 𝓜 𝓡 wired X Y W LX LY LW g d dd met met' =
    let E = at_types X LX Y LY W LW g d dd in let body = inst_fn (args E) code.function in
    takes E (whole_list E ∷ place E ∷ place E ∷ []) (Tuple (Bl E ∷ Bl E ∷ [])) 𝓛 𝓜 𝓡
    (λ _ xs. wants 𝓤 ((xs.1.0.ptr ≡ xs.0.head) × (xs.1.1.0.ptr ≡ xs.0.tail) × (xs.0.nodes ≡ [])))
    (λ _ xs r. fact 𝓤 ((r.0.alloc ≡ xs.0.alloc) × (r.1.alloc ≡ xs.0.alloc)))
    (itself (args E)) body (code.unfolded 𝓤 𝓛.H 𝓜 𝓡 wired (X, (Y, (W, tt))) d dd) (λ κs qs xs Post asked leave.
    let l = xs.0 in let p : Ptr = xs.1.0.ptr in let q : Ptr = xs.1.1.0.ptr in
    let first : (Bl E).Denot = record { ptr = p; alloc = l.alloc } in let last : (Bl E).Denot = record { ptr = q; alloc = l.alloc } in
    let are_typed = pair_Typed (layout (Bl E)) (layout (Bl E)) (word p) (word q) (word-Good [] p) (word-Good [] q) in
    qed 𝓛 (‵ (owns (Lr E ∷ Np E ∷ Np E ∷ []) xs (mark ∷ [], (word p ∷ [], (word q ∷ [], tt)))) ∷ raw (toks 𝓛 3 κs qs) ∷ []) ∵
    enter ! _ _ _ _ _ $ alloc_all ! (λ locals. pass_all ! refl ((tt, (tt, tt)), (word-Good [] p, (word-Good [] q, tt))) $ fsplit ! $ fsplit ! $ drop ! $
    rewrite ! 0 (λ (at : Ptr × (List (Node E) × Ptr)). ‵ (list_owns (RK E) (RV E) (Tk E l.alloc) at.0 at.1.0 at.1.1))
    (λ i. (sym asked.0 i, (asked.2 i, sym asked.1 i))) refl $ fsplit3 ! $ fsplit ! $
    edge_cells ! p q (λ pb po qb qo is_p is_q.
    -- [the first block's `next`; the last block's `prev`; no path; no nodes; both ends; nothing of the places; the idle tokens]
    no_link ! 8 is_p (block_ptr qb qo) $ move ! (1 ∷ []) $ no_link ! 0 is_q (block_ptr pb po) $ move ! (4 ∷ []) $ fsplit ! $ fsplit ! $ move ! (2 ∷ []) $
    fsplit ! $
    -- [room for the last block's `next`; the rest of it; room for the first block's `prev`; the rest of it; room for the last block's `prev`; for the first
    -- block's `next`; ..]
    move ! (4 ∷ 0 ∷ []) $ fjoin ! $ fjoin ! $ word_made ! q $ fjoin ! $ move ! (1 ∷ 3 ∷ []) $ fjoin ! $ move ! (0 ∷ 2 ∷ []) $ fjoin ! $ word_made ! p $
    fjoin ! $
    use2 𝓛 (‵ ((Tuple (Bl E ∷ Bl E ∷ [])).own_val (first, last) (pair_val (word p) (word q) ∷ []))) (pair_of 𝓛 (Bl E) (Bl E) first last (word p) (word q)) $
    sets ! (agg ! (and_then ! (get_in ! (fld ! refl (stop !)) (sub ! 0 refl (whole !))) (no_more !))) refl (word-Good [] p) $
    sets ! (agg ! (and_then ! (get_in ! (fld ! refl (stop !)) (sub ! 0 refl (whole !))) (no_more !))) refl (word-Good [] q) $
    sets ! (agg ! (and_then ! (get ! refl) (and_then ! (get ! refl) (no_more !)))) refl are_typed $
    returns ! (look_at ! 0 refl) $ free_all ! refl $ keep ! (0 ∷ 4 ∷ []) $ states ! (refl, refl) $ move ! (1 ∷ 2 ∷ 0 ∷ []) $
    by ! (leave (first, last) (pair_val (word p) (word q))))))
