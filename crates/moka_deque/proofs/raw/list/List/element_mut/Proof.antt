-- `element_mut` lends the element of one node, and gives the list back with what the element has become. Assumes `Logic`.
use mathlib.Core.Path.{◌≡◌, refl, sym, subst, ◌∙◌}
use Prim.Native.Nat.{ℕ, ◌+◌}
use mathlib.Core.List.{List, [], ◌∷◌, ◌++◌}
use seplogic.Ra.Ura.{Ura}
use mir.Syntax.{named}
use mir.MapTy.{inst_fn}
use mir.Val.{Val, vptr}
use base.Fraction.{full_share}
use base.Logic.{ent, sep, never, id⊢}
use base.Fml.{Fml, GName, fsep, flft, fobs, fbor}
use contract.Monad.{fact}
use contract.Lifetimes.{toks}
use contract.Running.{tables}
use types.Logic.{Logic, sem}
use types.SemTy.{Body as Borrowed}
use types.Kit.{‵, raw, ◌⊛◌, some, later, await, pick, at_ret, ◌$◌, ◌∵◌, !, qed, done, by, move, keep, use1, use2, split, split3, join, group, rewrite}
use types.Kit.{fsplit, fjoin}
use types.Part.{whole, sub}
use types.Run.{stop, hop, fld, from, of_opd, addr, first, blocks, exec, returns, enter}
use types.ByLocal.{alloc_all, pass_all, free_all, look_at, look_in_at, take_at, give_at, get, sets, sets_last, env}
use base.Fml.{fat}
use denote.Follow.{follows, Part, lends_Part}
use denote.Memory.{mem, cell_at, part_at}
use denote.Param.{layout}
use denote.RattleType.{owns}
use denote.RawPtr.{Ptr, block_ptr, in_a_block, lies_at}
use denote.Ref.{MutBor, MutRef}
use Rattle.lru.specs.Linked.{IsApart}
use Rattle.lru.specs.Ownership.{path}
use Rattle.std_alloc.proofs.RcSteps.{word, word-Good}
use Rattle.std_alloc.proofs.VecSteps.Shapes.{after}
use Rattle.moka_deque.specs.RawLends.{with_element_at}
use Rattle.moka_deque.specs.RawNodes.{linked, places, IsAt, AtNode, set_element, places-set_element}
use Rattle.moka_deque.specs.RawOwnership.{id_of, element_of, freeing_owns, pairs_own}
use Rattle.moka_deque.proofs.RawApart.{apart_places, set_element-cut}
use Rattle.moka_deque.proofs.RawMemory.{Two, Tk, args, RK, RV, vo, Node, Lr, Np, Mark, One, pairs_cut, pairs_glue}
use Rattle.moka_deque.proofs.RawFrame.{at_types, wants, place, inside_all, lends, states}
use Rattle.moka_deque.proofs.RawFields.{of_the_node}
use Rattle.moka_deque.proofs.RawLinks.{Path, Ends, opens_list, packs_list}
use Rattle.moka_deque.specs.contracts.raw.list.List.element_mut.Key.{name as itself}
use Rattle.moka_deque.proofs.raw.list.List.element_mut.Statement.{statement}
use Rattle.moka_deque.proofs.raw.list.List.element_mut.Code as code

module _ (E : Two) (l : (Lr E).Denot) {p : Ptr} (found : IsAt l.nodes p) where
  abbrev n : Node E
  n = found.1

  abbrev others : List (Node E)
  others = found.0 ++ found.2

  -- the node without its element
  abbrev Shell : Fml
  Shell = fsep (lies_at (RK E) full_share (id_of (RK E) (RV E) n.at) n.id) (freeing_owns (RK E) (RV E) (Tk E l.alloc) n.at)

  -- the list in memory, without that element
  abbrev Around : ℕ → ℕ → List Val → Fml
  Around b o vs = fsep (fsep Shell (pairs_own (RK E) (RV E) (Tk E l.alloc) others))
      (fsep (fsep (Path E l) (Ends E l)) (fsep ((Mark E).own_val (tt, tt) vs) (cell_at full_share (Lr E).mir vs b o)))

  -- with an element written there, only this node is another
  rewritten : (element : E.element.Denot) → found.0 ++ linked n.at n.id element ∷ found.2 ≡ set_element p element l.nodes
  rewritten element =
      sym ((λ i. set_element (sym found.4 i) element (found.3 i)) ∙
      set_element-cut found.0 n found.2 element (subst (λ ns. IsApart (places ns)) found.3 (apart_places l.head l.nodes l.tail l.apart)))

  module _ {M : Type 1} {𝓤 : Ura M} (𝓛 : Logic 𝓤) (b o : ℕ) (vs : List Val) where
    put_back : {nb no : ℕ} → n.at ≡ block_ptr nb no → (element : E.element.Denot)
        → ent 𝓤 (sep 𝓤 (sem 𝓛 (part_at (RV E) full_share element nb (no + vo E))) (sem 𝓛 (Around b o vs)))
        (sem 𝓛 (part_at (Lr E) full_share (with_element_at l p element) b o))
    put_back {nb} {no} lies element =
        let m : Node E = linked n.at n.id element in
        qed 𝓛 (‵ (part_at (RV E) full_share element nb (no + vo E)) ∷ ‵ (Around b o vs) ∷ []) ∵
        rewrite ! 0 (λ (r : Ptr). ‵ (lies_at (RV E) full_share (element_of (RK E) (RV E) r) element)) (sym lies) refl $
        move ! (1 ∷ []) $ fsplit ! $ fsplit ! $ fsplit ! $ move ! (0 ∷ 4 ∷ 1 ∷ []) $
        -- [the id; the element; the right to free; the other nodes; the rest of the list]
        fjoin ! $ fjoin ! $ use2 𝓛 (‵ (pairs_own (RK E) (RV E) (Tk E l.alloc) (found.0 ++ m ∷ found.2))) (pairs_glue 𝓛 E l.alloc found.0 m found.2) $
        rewrite ! 0 (λ (ns : List (Node E)). ‵ (pairs_own (RK E) (RV E) (Tk E l.alloc) ns)) (rewritten element) refl $
        move ! (1 ∷ []) $ fsplit ! $ fsplit ! $ rewrite ! 0 (λ (ps : List Ptr). ‵ (path l.head (ps ++ l.tail ∷ [])))
        (sym (places-set_element p element l.nodes)) refl $
        move ! (2 ∷ []) $ fsplit ! $ move ! (2 ∷ 4 ∷ 3 ∷ 0 ∷ 1 ∷ []) $ packs_list E b o ! (with_element_at l p element) vs $ done !

pub element_mut_spec : {M : Type 1} → statement M
element_mut_spec 𝓤 𝓛 𝓜 𝓡 wired X Y W LX LY LW g d dd met met' =
    let E = at_types X LX Y LY W LW g d dd in let 𝓣 = tables 𝓤 𝓛.H 𝓜 𝓡 𝓡.env in let body = inst_fn (args E) code.function in
    lends E inside_all (Lr E) (place E ∷ []) (RV E) 𝓛 𝓜 𝓡 (λ _ l xs. wants 𝓤 (IsAt l.nodes xs.0.ptr))
    (λ _ s xs r. sep 𝓤 (sem 𝓛 (follows (Lr E) (RV E) s.ghost_name r.ghost_name (with_element_at s.now xs.0.ptr)))
    (fact 𝓤 (AtNode s.now.nodes xs.0.ptr (λ _ n _. r.now ≡ n.element))))
    (itself (args E)) body (code.unfolded 𝓤 𝓛.H 𝓜 𝓡 wired (X, (Y, (W, tt))) d dd) (λ κs qs s xs Post found leave.
    let l : (Lr E).Denot = s.now in let p : Ptr = xs.0.ptr in let b : ℕ = s.ref_ptr.0 in let o : ℕ = s.ref_ptr.1 in
    let node : Node E = found.1 in let γ : GName = s.ghost_name in let listed = (Lr E).coded.code l in
    let is_it : AtNode l.nodes p (λ _ m _. node.element ≡ m.element) = of_the_node E l found (λ _ m _. node.element ≡ m.element) refl in
    qed 𝓛 (‵ (fobs γ listed) ∷ ‵ (fbor κs.0 (Borrowed (mem (Lr E)) b o γ)) ∷ ‵ (flft κs.0 qs.0) ∷ ‵ (owns (Np E ∷ []) xs (word p ∷ [], tt))
    ∷ raw (toks 𝓛 3 κs.1 qs.1) ∷ []) ∵
    enter ! _ _ _ _ _ $ alloc_all ! (λ locals. pass_all ! refl ((tt, tt), (word-Good [] p, tt)) $ opens_list E b o ! tt l (λ vs.
    -- the node of that place, and in it the element
    rewrite ! 1 (λ (ns : List (Node E)). ‵ (pairs_own (RK E) (RV E) (Tk E l.alloc) ns)) found.3 refl $ move ! (1 ∷ []) $
    use1 𝓛 (‵ (One E l.alloc node) ⊛ ‵ (pairs_own (RK E) (RV E) (Tk E l.alloc) (others E l found))) (pairs_cut 𝓛 E l.alloc found.0 node found.2) $ split ! $
    fsplit ! $ fsplit ! $ move ! (1 ∷ []) $
    in_a_block ! node.at (λ r. lies_at (RV E) full_share (element_of (RK E) (RV E) r) node.element) (id⊢ 𝓤 (never 𝓤)) (λ nb no lies.
    let back = put_back E l found 𝓛 b o vs lies in
    take_at ! 2 $ rewrite ! 0 (λ (r : Ptr). ‵ (fat full_share (layout (Np E)) (locals 2) 0 (word r))) (sym found.4 ∙ lies) refl $ give_at ! 2 $
    first ! $ blocks ! $ sets_last ! (addr ! (from ! (fld ! refl (hop ! (look_in_at ! 2 (sub ! 0 refl (whole !))) (fld ! refl (stop !)))))) refl (tt, tt) $
    exec ! 𝓣.C 𝓣.Λ (env body.locals locals) (after 1 body.body) (at_ret _ Post) $ sets ! (of_opd ! (get ! refl)) refl (tt, tt) $
    -- [the element; the id; the right to free; the other nodes; the path; the ends; the mark; its cell; the open borrow, in three]
    move ! (6 ∷ 7 ∷ []) $ fjoin ! $ move ! (5 ∷ 6 ∷ []) $ fjoin ! $ fjoin ! $ move ! (2 ∷ 3 ∷ []) $ fjoin ! $ move ! (0 ∷ 3 ∷ []) $ fjoin ! $ fjoin ! $
    move ! (2 ∷ 3 ∷ 4 ∷ 1 ∷ 0 ∷ []) $ group ! 5 $
    use1 𝓛 (later (some (λ (δ : GName). raw (Part 𝓛 (Lr E) (RV E) (with_element_at l p) (named 0) κs.0 qs.0 b o nb (no + vo E) γ
    (sem 𝓛 (Around E l found b o vs)) back node.element δ))))
    (lends_Part 𝓛 (Lr E) (RV E) (with_element_at l p) (named 0) κs.0 qs.0 b o nb (no + vo E) γ
    (sem 𝓛 (Around E l found b o vs)) back listed listed node.element) $ await ! tt $ pick ! (λ δ.
    let lent : MutBor Y.Denot = record { ref_ptr = (nb, no + vo E); ghost_name = δ; now = node.element } in
    returns ! (look_at ! 0 refl) $ free_all ! refl $ keep ! (0 ∷ 2 ∷ []) $
    use1 𝓛 (‵ ((MutRef (named 0) κs.0 (RV E)).own_val lent (vptr nb (no + vo E) ∷ [])) ⊛ ‵ (flft κs.0 qs.0)
    ⊛ ‵ (follows (Lr E) (RV E) γ δ (with_element_at l p))) (id⊢ 𝓤 _) $ split3 ! $
    states ! is_it $ move ! (3 ∷ 0 ∷ []) $ join ! $ move ! (1 ∷ 2 ∷ 3 ∷ 0 ∷ []) $ by ! (leave lent (vptr nb (no + vo E))))))))
