-- `name` writes the id into its cell, which had room for it. Assumes `Logic`.
use mathlib.Core.Path.{◌≡◌, refl, ap}
use mathlib.Core.List.{[], ◌∷◌}
use Prim.Native.Nat.{◌+◌}
use mir.MapTy.{inst_fn}
use base.Fraction.{full_share}
use contract.Monad.{fact}
use contract.Lifetimes.{toks}
use contract.Running.{tables}
use types.Kit.{‵, raw, at_ret, ◌$◌, ◌∵◌, !, qed, by, move, keep, drop, use2, rewrite, fsplit, fjoin}
use types.Part.{whole, sub, agg}
use types.Run.{init, stop, fld, of_opd, addr, and_then, no_more, assigns_last, first, blocks, exec, returns, enter}
use types.ByLocal.{alloc_all, pass_all, free_all, look_at, get, get_in, through, sets, is, env}
use denote.Memory.{part_at}
use denote.Param.{layout}
use denote.RawPtr.{Ptr, block_ptr, ptr_val}
use Rattle.lru.proofs.Memory.{word_made, value_in}
use Rattle.std_alloc.proofs.RawLayout.{as_written}
use Rattle.std_alloc.proofs.RcSteps.{word, word-Good}
use Rattle.std_alloc.proofs.VecSteps.Shapes.{after}
use Rattle.moka_deque.specs.RawOwnership.{bare_owns, empty_owns}
use Rattle.moka_deque.proofs.RawMemory.{Tk, args, RK, RV, ko, Bl, Rm}
use Rattle.moka_deque.proofs.RawFrame.{at_types, blank, puts, states}
use Rattle.moka_deque.proofs.RawBlocks.{in_its_block, from_its_block}
use Rattle.moka_deque.specs.contracts.raw.block.Blank.name.Key.{name as itself}
use Rattle.moka_deque.proofs.raw.block.Blank.name.Statement.{statement}
use Rattle.moka_deque.proofs.raw.block.Blank.name.Code as code

pub name_spec : {M : Type 1} → statement M
name_spec 𝓤 𝓛 𝓜 𝓡 wired X Y W LX LY LW g d dd met met' =
    let E = at_types X LX Y LY W LW g d dd in let 𝓣 = tables 𝓤 𝓛.H 𝓜 𝓡 𝓡.env in let body = inst_fn (args E) code.function in
    puts E (blank E) 0 X LX (Rm E) 𝓛 𝓜 𝓡 (λ old id r. fact 𝓤 ((r.ptr ≡ old.ptr) × (r.id ≡ id) × (r.alloc ≡ old.alloc)))
    (itself (args E)) body (code.unfolded 𝓤 𝓛.H 𝓜 𝓡 wired (X, (Y, (W, tt))) d dd) (λ κs qs old id v typed Post leave.
    let p : Ptr = old.ptr in let new : (Rm E).Denot = record { ptr = p; id = id; alloc = old.alloc } in
    qed 𝓛 (‵ ((Bl E).own_val old (word p ∷ [])) ∷ ‵ (X.own_val id (v ∷ [])) ∷ raw (toks 𝓛 3 κs qs) ∷ []) ∵
    enter ! _ _ _ _ _ $ alloc_all ! (λ locals. pass_all ! refl (word-Good [] p, (typed, tt)) $ fsplit ! $ drop ! $
    in_its_block ! p (λ r. bare_owns (RK E) (RV E) (Tk E old.alloc) r) (λ b o is_p. fsplit ! $ fsplit ! $ as_written ! (layout X) b (o + ko E) $
    -- [room for the id; for the element; the right to free; room for the links; what the id owns; the idle tokens]
    sets ! (is ! (of_opd ! (get_in ! (fld ! refl (stop !)) (sub ! 0 refl (whole !)))) (ap ptr_val is_p)) refl (tt, tt) $ first ! $ blocks ! $
    sets ! (addr ! (through ! refl (fld ! refl (stop !)))) refl (tt, tt) $ sets ! (of_opd ! (get ! refl)) refl typed $
    assigns_last ! (of_opd ! (get ! refl)) (through ! refl (stop !)) (init ! 0 refl typed) $
    exec ! 𝓣.C 𝓣.Λ (env body.locals locals) (after 2 body.body) (at_ret _ Post) $
    sets ! (agg ! (and_then ! (get ! refl) (no_more !))) refl (word-Good [] (block_ptr b o)) $
    move ! (0 ∷ 4 ∷ []) $ use2 𝓛 (‵ (part_at (RK E) full_share id b (o + ko E))) (value_in 0 X LX 𝓛 id b (o + ko E) v) $
    fjoin ! $ fjoin ! $ from_its_block ! is_p (λ r. empty_owns (RK E) (RV E) (Tk E old.alloc) r id) $ word_made ! p $ fjoin ! $
    rewrite ! 0 (λ (r : Ptr). ‵ ((Rm E).own_val new (word r ∷ []))) is_p refl $
    returns ! (look_at ! 0 refl) $ free_all ! refl $ keep ! (0 ∷ 1 ∷ []) $ states ! (refl, refl, refl) $ move ! (1 ∷ 2 ∷ 0 ∷ []) $
    by ! (leave new (word (block_ptr b o))))))
