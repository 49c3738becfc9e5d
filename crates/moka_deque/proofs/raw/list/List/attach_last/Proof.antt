-- `attach_last` puts two edges, to the node and from it, in the place of the one before the block at the end. Assumes `Logic`.
use mathlib.Core.Path.{◌≡◌, refl, sym, ap, ◌∙◌}
use mathlib.Core.List.{List, [], ◌∷◌, ◌++◌}
use mir.MapTy.{inst_fn}
use mir.Val.{Val, vunit}
use base.Fml.{flft, fobs, fbor}
use base.Logic.{sep}
use contract.Monad.{fact}
use contract.Lifetimes.{toks}
use contract.Running.{tables}
use types.SemTy.{Body as Borrowed}
use types.Kit.{‵, raw, ◌⊛◌, at_ret, ◌$◌, ◌∵◌, !, qed, by, move, keep, drop, use1, use2, split, join, fsplit, fjoin, feq_i, rewrite}
use types.Part.{whole, sub}
use types.Run.{init, look, store, stop, fld, load, unit_lit, of_opd, assigns, assigns_last, first, blocks, exec, returns, enter}
use types.ByLocal.{alloc_all, pass_all, free_all, look_at, get, get_in, through, sets, is, env}
use denote.Builtin.{unit}
use denote.Memory.{mem}
use denote.RattleType.{owns}
use denote.RawPtr.{Ptr, ptr_val}
use Rattle.std.proofs.Common.{append-nil}
use Rattle.lru.specs.Ownership.{path}
use Rattle.lru.proofs.Apart.{IsFresh}
use Rattle.lru.proofs.Splits.{last_from}
use Rattle.lru.proofs.Memory.{knows, fresh, path_cut, path_glue}
use Rattle.std_alloc.proofs.RcSteps.{word, word-Good}
use Rattle.std_alloc.proofs.VecSteps.Shapes.{after}
use Rattle.moka_deque.specs.RawNodes.{linked, places, ring}
use Rattle.moka_deque.specs.RawOwnership.{detached_owns, pairs_own}
use Rattle.moka_deque.proofs.RawApart.{places_cut, apart_attached_last}
use Rattle.moka_deque.proofs.RawMemory.{Tk, args, RK, RV, Node, Lr, Np, Dt, pairs_glue}
use Rattle.moka_deque.proofs.RawFrame.{at_types, wants, place, detached, inside_all, changes, states}
use Rattle.moka_deque.proofs.RawLinks.{edge_cells, edge_made, link_room_cells, opens_list, closes_list}
use Rattle.moka_deque.specs.contracts.raw.list.List.attach_last.Key.{name as itself}
use Rattle.moka_deque.proofs.raw.list.List.attach_last.Statement.{statement}
use Rattle.moka_deque.proofs.raw.list.List.attach_last.Code as code

pub attach_last_spec : {M : Type 1} → statement M
attach_last_spec 𝓤 𝓛 𝓜 𝓡 wired X Y W LX LY LW g d dd met met' =
    let E = at_types X LX Y LY W LW g d dd in let 𝓣 = tables 𝓤 𝓛.H 𝓜 𝓡 𝓡.env in let body = inst_fn (args E) code.function in
    changes E inside_all (Lr E) (place E ∷ detached E ∷ []) (λ _. unit) 𝓛 𝓜 𝓡 (λ _ l xs. wants 𝓤 ((xs.0.ptr ≡ l.tail) × (xs.1.0.alloc ≡ l.alloc)))
    (λ _ l xs _ new. sep 𝓤 (fact 𝓤 ((new.head ≡ l.head) × (new.tail ≡ l.tail) × (new.alloc ≡ l.alloc)))
    (fact 𝓤 (new.nodes ≡ l.nodes ++ linked xs.1.0.ptr xs.1.0.id xs.1.0.element ∷ [])))
    (itself (args E)) body (code.unfolded 𝓤 𝓛.H 𝓜 𝓡 wired (X, (Y, (W, tt))) d dd) (λ κs qs b o γ l xs Post asked leave.
    let end : Ptr = xs.0.ptr in let node = xs.1.0 in let n : Node E = linked node.ptr node.id node.element in
    let last : Ptr = last_from l.head (places l.nodes) in
    qed 𝓛 (‵ (fobs γ ((Lr E).coded.code l)) ∷ ‵ (fbor κs.0 (Borrowed (mem (Lr E)) b o γ)) ∷ ‵ (flft κs.0 qs.0)
    ∷ ‵ (owns (Np E ∷ Dt E ∷ []) xs (word end ∷ [], (word node.ptr ∷ [], tt))) ∷ raw (toks 𝓛 3 κs.1 qs.1) ∷ []) ∵
    enter ! _ _ _ _ _ $ alloc_all ! (λ locals. pass_all ! refl ((tt, tt), (word-Good [] end, (word-Good [] node.ptr, tt))) $ opens_list E b o ! tt l (λ vs.
    -- the node's links, by which it lies apart from the list's places
    move ! (8 ∷ []) $ fsplit ! $ drop ! $ fsplit ! $ fsplit ! $ drop ! $
    rewrite ! 0 (λ (a : W.Denot). ‵ (detached_owns (RK E) (RV E) (Tk E a) node.ptr node.id node.element)) asked.1 refl $
    fsplit ! $ move ! (0 ∷ 3 ∷ []) $ knows ! (IsFresh node.ptr (ring l.head l.nodes l.tail)) (fresh 𝓛 𝓜 node.ptr l.head (places l.nodes) l.tail) (λ apart.
    let longer : (Lr E).Denot = record l { nodes = l.nodes ++ n ∷ []; apart = apart_attached_last l.head n l.nodes l.tail apart l.apart } in
    link_room_cells ! node.ptr (λ nb no is_n. move ! (2 ∷ []) $
    use1 𝓛 (‵ (path l.head (places l.nodes)) ⊛ ‵ (path last (l.tail ∷ []))) (path_cut 𝓛 l.head (places l.nodes) (l.tail ∷ [])) $ split ! $ move ! (1 ∷ []) $
    fsplit ! $
    edge_cells ! last l.tail (λ lb lo tb to is_last is_tail.
    -- [the last node's `next`; the end's `prev`; nothing; the path before; room for the node's `prev`, and for its `next`; the node's pair; nothing; the
    -- nodes; the ends; ..]
    sets ! (is ! (of_opd ! (get_in ! (fld ! refl (stop !)) (sub ! 0 refl (whole !)))) (ap ptr_val (asked.0 ∙ is_tail))) refl (tt, tt) $
    sets ! (is ! (of_opd ! (get_in ! (fld ! refl (stop !)) (sub ! 0 refl (whole !)))) (ap ptr_val is_n)) refl (tt, tt) $ first ! $ blocks ! $
    sets ! (of_opd ! (load ! (through ! refl (fld ! refl (stop !))) (look ! 1 refl))) refl (tt, tt) $
    assigns ! (of_opd ! (get ! refl)) (through ! refl (fld ! refl (stop !))) (init ! 4 refl (tt, tt)) $
    assigns ! (of_opd ! (get ! refl)) (through ! refl (fld ! refl (stop !))) (init ! 5 refl (tt, tt)) $
    assigns ! (of_opd ! (get ! refl)) (through ! refl (fld ! refl (stop !))) (store ! 0 refl (tt, tt)) $
    assigns_last ! (of_opd ! (get ! refl)) (through ! refl (fld ! refl (stop !))) (store ! 1 refl (tt, tt)) $
    exec ! 𝓣.C 𝓣.Λ (env body.locals locals) (after 3 body.body) (at_ret _ Post) $ sets ! (of_opd ! (unit_lit !)) refl (tt, tt) $
    -- the two edges, and the path through the node
    move ! (0 ∷ 4 ∷ []) $ edge_made ! is_last is_n $ move ! (4 ∷ 1 ∷ []) $ edge_made ! is_n is_tail $ move ! (0 ∷ 2 ∷ []) $ fjoin ! $ move ! (1 ∷ 0 ∷ []) $
    fjoin ! $ move ! (1 ∷ 0 ∷ []) $
    use2 𝓛 (‵ (path l.head (places l.nodes ++ node.ptr ∷ l.tail ∷ []))) (path_glue 𝓛 l.head (places l.nodes) (node.ptr ∷ l.tail ∷ [])) $
    rewrite ! 0 (λ (ps : List Ptr). ‵ (path l.head ps)) (sym (places_cut l.nodes n [] l.tail)) refl $
    -- the nodes with the new one
    move ! (3 ∷ []) $ rewrite ! 0 (λ (ns : List (Node E)). ‵ (pairs_own (RK E) (RV E) (Tk E l.alloc) ns)) (sym (append-nil l.nodes)) refl $
    move ! (2 ∷ 0 ∷ []) $
    use2 𝓛 (‵ (pairs_own (RK E) (RV E) (Tk E l.alloc) (l.nodes ++ n ∷ []))) (pairs_glue 𝓛 E l.alloc l.nodes n []) $
    move ! (1 ∷ 0 ∷ 3 ∷ 4 ∷ 5 ∷ 6 ∷ 7 ∷ 8 ∷ []) $ closes_list E b o ! tt longer vs $
    returns ! (look_at ! 0 refl) $ free_all ! refl $ keep ! (0 ∷ 1 ∷ 2 ∷ 4 ∷ []) $ feq_i ! (List Val) (vunit ∷ []) (vunit ∷ []) refl $
    states ! refl $ states ! (refl, refl, refl) $ join ! $ move ! (2 ∷ 3 ∷ 4 ∷ 1 ∷ 5 ∷ 0 ∷ []) $
    by ! (leave tt vunit longer)))))))
