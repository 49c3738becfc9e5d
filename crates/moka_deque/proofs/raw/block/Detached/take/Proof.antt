-- `take` reads the element out of its cell, which is room from then on. Assumes `Logic`.
use mathlib.Core.Path.{◌≡◌, refl, ap}
use mathlib.Core.List.{[], ◌∷◌}
use Prim.Native.Nat.{◌+◌}
use mir.MapTy.{inst_fn}
use mir.Val.{Val}
use base.Fraction.{full_share}
use base.Fml.{froom, fat}
use contract.Monad.{fact}
use contract.Lifetimes.{toks}
use contract.Running.{tables}
use types.Kit.{‵, raw, ◌⊛◌, some, given, learn, pick, at_ret, ◌$◌, ◌∵◌, !, qed, by, move, keep, drop, use1, use2, split, rewrite, fsplit, fjoin}
use types.Part.{whole, sub, agg}
use types.Run.{look, stop, fld, load, of_opd, addr, and_then, no_more, first, blocks, exec, returns, enter}
use types.ByLocal.{alloc_all, pass_all, free_all, look_at, get, get_in, through, sets, sets_last, is, env}
use denote.Param.{layout}
use denote.RattleType.{owns}
use denote.RawPtr.{Ptr, block_ptr, ptr_val}
use denote.Struct.Tuple.{Tuple}
use Rattle.lru.proofs.Memory.{word_made, value_out}
use Rattle.std_alloc.proofs.RawLayout.{as_raw}
use Rattle.std_alloc.proofs.RcSteps.{Good, word, word-Good}
use Rattle.std_alloc.proofs.Pairs.{pair_val, pair_Typed, pair_of}
use Rattle.std_alloc.proofs.VecSteps.Shapes.{after}
use Rattle.moka_deque.specs.RawOwnership.{empty_owns, pair_owns}
use Rattle.moka_deque.proofs.RawMemory.{Tk, args, RK, RV, vo, Rm, Dt}
use Rattle.moka_deque.proofs.RawFrame.{at_types, wants_nothing, detached, takes, states}
use Rattle.moka_deque.proofs.RawBlocks.{in_its_block, from_its_block}
use Rattle.moka_deque.specs.contracts.raw.block.Detached.take.Key.{name as itself}
use Rattle.moka_deque.proofs.raw.block.Detached.take.Statement.{statement}
use Rattle.moka_deque.proofs.raw.block.Detached.take.Code as code

pub take_spec : {M : Type 1} → statement M
take_spec 𝓤 𝓛 𝓜 𝓡 wired X Y W LX LY LW g d dd met met' =
    let E = at_types X LX Y LY W LW g d dd in let 𝓣 = tables 𝓤 𝓛.H 𝓜 𝓡 𝓡.env in let body = inst_fn (args E) code.function in
    takes E (detached E ∷ []) (Tuple (RV E ∷ Rm E ∷ [])) 𝓛 𝓜 𝓡 (λ _ _. wants_nothing 𝓤)
    (λ _ xs r. fact 𝓤 ((r.0 ≡ xs.0.element) × (r.1.ptr ≡ xs.0.ptr) × (r.1.id ≡ xs.0.id) × (r.1.alloc ≡ xs.0.alloc)))
    (itself (args E)) body (code.unfolded 𝓤 𝓛.H 𝓜 𝓡 wired (X, (Y, (W, tt))) d dd) (λ κs qs xs Post _ leave.
    let p : Ptr = xs.0.ptr in let left : (Rm E).Denot = record { ptr = p; id = xs.0.id; alloc = xs.0.alloc } in let element : Y.Denot = xs.0.element in
    qed 𝓛 (‵ (owns (Dt E ∷ []) xs (word p ∷ [], tt)) ∷ raw (toks 𝓛 3 κs qs) ∷ []) ∵
    enter ! _ _ _ _ _ $ alloc_all ! (λ locals. pass_all ! refl (word-Good [] p, tt) $ fsplit ! $ fsplit ! $ drop ! $
    in_its_block ! p (λ r. pair_owns (RK E) (RV E) (Tk E left.alloc) r left.id element) (λ b o is_p. fsplit ! $ fsplit ! $ move ! (1 ∷ []) $
    use1 𝓛 (some (λ (v : Val). given (Good (layout Y) v) (‵ (fat full_share (layout Y) b (o + vo E) v) ⊛ ‵ (Y.own_val element (v ∷ [])))))
    (value_out 1 Y LY 𝓛 element b (o + vo E)) $
    pick ! (λ v. learn ! (λ typed. split ! $
    let at = word (block_ptr b o) in let both_typed = pair_Typed (layout (RV E)) (layout (Rm E)) v at typed (word-Good [] (block_ptr b o)) in
    -- [the element's cell; what the element owns; the id; the right to free; room for the links; nothing; the idle tokens]
    sets ! (is ! (of_opd ! (get_in ! (fld ! refl (stop !)) (sub ! 0 refl (whole !)))) (ap ptr_val is_p)) refl (tt, tt) $ first ! $ blocks ! $
    sets ! (addr ! (through ! refl (fld ! refl (stop !)))) refl (tt, tt) $
    sets_last ! (of_opd ! (load ! (through ! refl (stop !)) (look ! 0 refl))) refl typed $
    exec ! 𝓣.C 𝓣.Λ (env body.locals locals) (after 2 body.body) (at_ret _ Post) $ sets ! (of_opd ! (get ! refl)) refl typed $
    sets ! (of_opd ! (get ! refl)) refl typed $
    sets ! (agg ! (and_then ! (get ! refl) (no_more !))) refl (word-Good [] (block_ptr b o)) $
    sets ! (agg ! (and_then ! (get ! refl) (and_then ! (get ! refl) (no_more !)))) refl both_typed $
    use1 𝓛 (‵ (froom (layout Y) b (o + vo E))) (𝓛.laws.at_room (layout Y) b (o + vo E) v) $ as_raw ! (layout Y) b (o + vo E) $
    -- the node without its element
    move ! (2 ∷ 0 ∷ []) $ fjoin ! $ move ! (0 ∷ 2 ∷ []) $ fjoin ! $ move ! (0 ∷ 2 ∷ []) $
    from_its_block ! is_p (λ r. empty_owns (RK E) (RV E) (Tk E left.alloc) r left.id) $
    word_made ! p $ fjoin ! $ rewrite ! 0 (λ (r : Ptr). ‵ ((Rm E).own_val left (word r ∷ []))) is_p refl $ move ! (1 ∷ 0 ∷ []) $
    use2 𝓛 (‵ ((Tuple (RV E ∷ Rm E ∷ [])).own_val (element, left) (pair_val v at ∷ []))) (pair_of 𝓛 (RV E) (Rm E) element left v at) $
    returns ! (look_at ! 0 refl) $ free_all ! refl $ keep ! (0 ∷ 2 ∷ []) $ states ! (refl, refl, refl, refl) $ move ! (1 ∷ 2 ∷ 0 ∷ []) $
    by ! (leave (element, left) (pair_val v at)))))))
