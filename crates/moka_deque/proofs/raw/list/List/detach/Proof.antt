-- `detach` writes the two links that pass a node by, and the node keeps all but its links. Assumes `Logic`.
use mathlib.Core.Path.{◌≡◌, refl, sym, ap, subst, ◌∙◌}
use mathlib.Core.List.{List, [], ◌∷◌, ◌++◌}
use mir.MapTy.{inst_fn}
use base.Fml.{flft, fobs, fbor}
use contract.Monad.{fact}
use contract.Lifetimes.{toks}
use contract.Running.{tables}
use types.SemTy.{Body as Borrowed}
use types.Kit.{‵, raw, ◌⊛◌, at_ret, ◌$◌, ◌∵◌, !, qed, by, move, keep, use1, use2, split, join, fsplit3, fjoin, rewrite}
use types.Part.{whole, sub, agg}
use types.Run.{look, store, stop, fld, load, of_opd, and_then, no_more, assigns, assigns_last, first, blocks, exec, returns, enter}
use types.ByLocal.{alloc_all, pass_all, free_all, look_at, get, get_in, through, sets, is, env}
use base.Logic.{sep}
use denote.Memory.{mem}
use denote.RattleType.{owns}
use denote.RawPtr.{Ptr, block_ptr, ptr_val}
use Rattle.lru.specs.Linked.{IsApart}
use Rattle.lru.specs.Ownership.{path}
use Rattle.lru.proofs.Splits.{last_from, first_of_push}
use Rattle.lru.proofs.Memory.{word_made, path_cut, path_glue}
use Rattle.std_alloc.proofs.RcSteps.{word, word-Good}
use Rattle.std_alloc.proofs.VecSteps.Shapes.{after}
use Rattle.moka_deque.specs.RawNodes.{linked, places, ring, IsAt, AtNode}
use Rattle.moka_deque.specs.RawOwnership.{pairs_own}
use Rattle.moka_deque.proofs.RawApart.{places_cut, places_joined, apart_detached}
use Rattle.moka_deque.proofs.RawMemory.{Tk, args, RK, RV, Node, Lr, Np, Dt, One, pairs_cut}
use Rattle.moka_deque.proofs.RawFrame.{at_types, wants, place, inside_all, changes, states}
use Rattle.moka_deque.proofs.RawFields.{of_the_node}
use Rattle.moka_deque.proofs.RawLinks.{edge_cells, edge_from, edge_made, no_links, opens_list, closes_list}
use Rattle.moka_deque.specs.contracts.raw.list.List.detach.Key.{name as itself}
use Rattle.moka_deque.proofs.raw.list.List.detach.Statement.{statement}
use Rattle.moka_deque.proofs.raw.list.List.detach.Code as code

pub detach_spec : {M : Type 1} → statement M
detach_spec 𝓤 𝓛 𝓜 𝓡 wired X Y W LX LY LW g d dd met met' =
    let E = at_types X LX Y LY W LW g d dd in let 𝓣 = tables 𝓤 𝓛.H 𝓜 𝓡 𝓡.env in let body = inst_fn (args E) code.function in
    changes E inside_all (Lr E) (place E ∷ []) (λ _. Dt E) 𝓛 𝓜 𝓡 (λ _ l xs. wants 𝓤 (IsAt l.nodes xs.0.ptr))
    (λ _ l xs r new. sep 𝓤 (fact 𝓤 ((new.head ≡ l.head) × (new.tail ≡ l.tail) × (new.alloc ≡ l.alloc) × (r.alloc ≡ l.alloc)))
    (fact 𝓤 (AtNode l.nodes xs.0.ptr (λ before n behind. (new.nodes ≡ before ++ behind) × (n ≡ linked r.ptr r.id r.element)))))
    (itself (args E)) body (code.unfolded 𝓤 𝓛.H 𝓜 𝓡 wired (X, (Y, (W, tt))) d dd) (λ κs qs b o γ l xs Post found leave.
    let ahead = found.0 in let n = found.1 in let rest = found.2 in
    -- the places on both sides of the node, and the list without it
    let from : Ptr = last_from l.head (places ahead) in let to = first_of_push (places rest) l.tail in
    let cut : places l.nodes ++ l.tail ∷ [] ≡ places ahead ++ n.at ∷ to.0 ∷ to.1 =
    ap (λ ns. places ns ++ l.tail ∷ []) found.3 ∙ (places_cut ahead n rest l.tail ∙ ap (λ ps. places ahead ++ n.at ∷ ps) to.2) in
    let closed_up : places ahead ++ to.0 ∷ to.1 ≡ places (ahead ++ rest) ++ l.tail ∷ [] =
    sym (places_joined ahead rest l.tail ∙ ap (λ ps. places ahead ++ ps) to.2) in
    let shorter : (Lr E).Denot = record l {
      nodes = ahead ++ rest;
      apart = apart_detached l.head ahead n rest l.tail (subst (λ ns. IsApart (ring l.head ns l.tail)) found.3 l.apart);
    } in
    let out : (Dt E).Denot = record { ptr = n.at; id = n.id; element = n.element; alloc = l.alloc } in
    let Left : List (Node E) → Node E → List (Node E) → Type 0 = λ before m behind. (ahead ++ rest ≡ before ++ behind) × (m ≡ linked n.at n.id n.element) in
    let is_left : AtNode l.nodes xs.0.ptr Left = of_the_node E l found Left (refl, refl) in
    qed 𝓛 (‵ (fobs γ ((Lr E).coded.code l)) ∷ ‵ (fbor κs.0 (Borrowed (mem (Lr E)) b o γ)) ∷ ‵ (flft κs.0 qs.0)
    ∷ ‵ (owns (Np E ∷ []) xs (word xs.0.ptr ∷ [], tt)) ∷ raw (toks 𝓛 3 κs.1 qs.1) ∷ []) ∵
    enter ! _ _ _ _ _ $ alloc_all ! (λ locals. pass_all ! refl ((tt, tt), (word-Good [] xs.0.ptr, tt)) $ opens_list E b o ! tt l (λ vs.
    rewrite ! 1 (λ (ns : List (Node E)). ‵ (pairs_own (RK E) (RV E) (Tk E l.alloc) ns)) found.3 refl $
    rewrite ! 0 (λ (ps : List Ptr). ‵ (path l.head ps)) cut refl $
    use1 𝓛 (‵ (path l.head (places ahead)) ⊛ ‵ (path from (n.at ∷ to.0 ∷ to.1))) (path_cut 𝓛 l.head (places ahead) (n.at ∷ to.0 ∷ to.1)) $ split ! $
    move ! (1 ∷ []) $ fsplit3 ! $
    edge_cells ! from n.at (λ fb fo nb no is_from is_n. move ! (2 ∷ []) $ edge_from ! is_n to.0 (λ tb to_at is_to.
    -- [the node's `next`; the `prev` behind it; the `next` before it; the node's `prev`; the path behind; the path before; the nodes; ..]
    sets ! (is ! (of_opd ! (get_in ! (fld ! refl (stop !)) (sub ! 0 refl (whole !)))) (ap ptr_val (sym found.4 ∙ is_n))) refl (tt, tt) $ first ! $ blocks ! $
    sets ! (of_opd ! (load ! (through ! refl (fld ! refl (stop !))) (look ! 3 refl))) refl (tt, tt) $
    sets ! (of_opd ! (load ! (through ! refl (fld ! refl (stop !))) (look ! 0 refl))) refl (tt, tt) $
    assigns ! (of_opd ! (get ! refl)) (through ! refl (fld ! refl (stop !))) (store ! 2 refl (tt, tt)) $
    assigns_last ! (of_opd ! (get ! refl)) (through ! refl (fld ! refl (stop !))) (store ! 1 refl (tt, tt)) $
    exec ! 𝓣.C 𝓣.Λ (env body.locals locals) (after 2 body.body) (at_ret _ Post) $
    sets ! (agg ! (and_then ! (get ! refl) (no_more !))) refl (word-Good [] (block_ptr nb no)) $
    -- the path without the node
    move ! (3 ∷ 0 ∷ []) $ no_links ! is_n (block_ptr fb fo) (block_ptr tb to_at) $ move ! (2 ∷ 1 ∷ []) $ edge_made ! is_from is_to $ move ! (0 ∷ 2 ∷ []) $
    fjoin ! $ move ! (2 ∷ 0 ∷ []) $
    use2 𝓛 (‵ (path l.head (places ahead ++ to.0 ∷ to.1))) (path_glue 𝓛 l.head (places ahead) (to.0 ∷ to.1)) $
    rewrite ! 0 (λ (ps : List Ptr). ‵ (path l.head ps)) closed_up refl $
    -- the node without its links, and the other nodes
    move ! (2 ∷ []) $ use1 𝓛 (‵ (One E l.alloc n) ⊛ ‵ (pairs_own (RK E) (RV E) (Tk E l.alloc) (ahead ++ rest))) (pairs_cut 𝓛 E l.alloc ahead n rest) $ split ! $
    move ! (3 ∷ 0 ∷ []) $ fjoin ! $ word_made ! n.at $ fjoin ! $ rewrite ! 0 (λ (r : Ptr). ‵ ((Dt E).own_val out (word r ∷ []))) is_n refl $
    move ! (2 ∷ 1 ∷ 3 ∷ 4 ∷ 5 ∷ 6 ∷ 7 ∷ 8 ∷ []) $ closes_list E b o ! tt shorter vs $
    returns ! (look_at ! 0 refl) $ free_all ! refl $ keep ! (0 ∷ 1 ∷ 2 ∷ 3 ∷ 5 ∷ []) $
    states ! is_left $ states ! (refl, refl, refl, refl) $ join ! $ move ! (1 ∷ 2 ∷ 3 ∷ 4 ∷ 5 ∷ []) $
    by ! (leave out (word (block_ptr nb no)) shorter))))))
