-- A spare node has only its id to forget, so that `deallocate` can hand the whole block back. Assumes `Logic`.
use mathlib.Core.Path.{refl, sym, ap, subst}
use mathlib.Core.List.{[], ◌∷◌}
use mir.MapTy.{inst_fn}
use mir.Syntax.{ty_unit}
use mir.Val.{Val, has_ty, WT, vunit}
use lib.Dec.{T}
use base.Fml.{Incl-trans, flft}
use contract.Lifetimes.{toks}
use contract.Running.{tables}
use types.Kit.{‵, raw, given, later, await, learn, at_ret, ◌$◌, ◌∵◌, !, qed, by, move, keep, drop, use1, group, rewrite, fsplit, feq_i}
use types.Part.{whole, sub}
use types.Run.{stop, fld, unit_lit, size_word, align_word, of_opd, and_then, no_more, first, blocks, exec, returns, enter}
use types.ByLocal.{alloc_all, pass_all, free_all, look_at, lands_last, get, get_in, sets, is, env}
use base.Logic.{emp}
use mathlib.Core.List.{List}
use mathlib.Core.Path.{◌≡◌}
use denote.Builtin.{unit}
use denote.Memory.{hidden_shr}
use denote.RattleType.{owns}
use denote.RawPtr.{Ptr, ptr_val}
use denote.Steps.{nothing}
use denote.Triple.Call.{calls_at_last}
use denote.Triple.Table.{framed}
use Rattle.core.proofs.alloc.Calls.{Gives, Gives-Gives}
use Rattle.std_alloc.proofs.RcSteps.{word, word-Good}
use Rattle.std_alloc.proofs.VecSteps.Shapes.{after}
use Rattle.moka_deque.proofs.RawMemory.{args, RA, Rm}
use Rattle.moka_deque.proofs.RawFrame.{at_types, wants, spare, inside_allocator, looks}
use Rattle.moka_deque.proofs.RawBlocks.{bytes, alignment, asked_type, Spare, empties, handing, hands_back, comes_whole}
use Rattle.moka_deque.specs.contracts.raw.block.deallocate.Key.{name as itself}
use Rattle.moka_deque.proofs.raw.block.deallocate.Statement.{statement}
use Rattle.moka_deque.proofs.raw.block.deallocate.Code as code

pub deallocate_spec : {M : Type 1} → statement M
deallocate_spec 𝓤 𝓛 𝓜 𝓡 wired X Y W LX LY LW g d dd met met' =
    let E = at_types X LX Y LY W LW g d dd in let 𝓣 = tables 𝓤 𝓛.H 𝓜 𝓡 𝓡.env in let body = inst_fn (args E) code.function in
    looks E inside_allocator (RA E) (spare E ∷ []) (λ _. unit) 𝓛 𝓜 𝓡 (λ _ a xs. wants 𝓤 (xs.0.alloc ≡ a)) (λ _ _ _ _. emp 𝓤)
    (itself (args E)) body (code.unfolded 𝓤 𝓛.H 𝓜 𝓡 wired (X, (Y, (W, tt))) d dd) (λ κs qs short within rb ro a xs Post its_own leave.
    let p : Ptr = xs.0.ptr in let Call = Gives E.al 𝓛 𝓜.mem 𝓡.returns in
    qed 𝓛 (‵ (hidden_shr (RA E) κs.0 a rb ro) ∷ ‵ (flft κs.0 qs.0) ∷ raw (toks 𝓛 3 κs.1 qs.1) ∷ ‵ (owns (Rm E ∷ []) xs (word p ∷ [], tt)) ∷ []) ∵
    enter ! _ _ _ _ _ $ alloc_all ! (λ locals. pass_all ! refl ((tt, tt), (word-Good [] p, tt)) $ move ! (3 ∷ []) $ fsplit ! $ fsplit ! $ drop ! $
    rewrite ! 0 (λ (h : W.Denot). ‵ (Spare E h xs.0.id p)) its_own refl $ empties ! E a xs.0.id p $
    comes_whole ! E a p (λ b o is_p.
    let z : Call.Ghost = handing E 𝓛 𝓜.mem 𝓡.returns κs.0 qs.0 (rb, ro) a b o in
    -- [the block; its token; nothing; the allocator; the token of its `&`; the idle tokens]
    sets ! (is ! (of_opd ! (get_in ! (fld ! refl (stop !)) (sub ! 0 refl (whole !)))) (ap ptr_val is_p)) refl (tt, tt) $ first ! $ blocks ! $
    sets ! (of_opd ! (get ! refl)) refl (tt, tt) $
    move ! (0 ∷ 1 ∷ 3 ∷ 4 ∷ []) $ group ! 4 $ use1 𝓛 (raw (Call.pre z))
    (hands_back E 𝓛 𝓜.mem 𝓡.returns κs.0 qs.0 (rb, ro) a b o (Incl-trans short.0 within.1.1.0)) $
    calls_at_last ! (framed 𝓤 𝓛.H 𝓜 𝓣) Call (met.deallocate dd) z
    (and_then ! (get ! refl) (and_then ! (get ! refl) (and_then ! (size_word !) (and_then ! (align_word !) (no_more !))))) (λ v.
    use1 𝓛 (later (given (v ≡ vunit) (‵ (flft κs.0 qs.0))))
    (Gives-Gives E.al 𝓛 𝓜.mem 𝓡.returns κs.0 qs.0 (rb, ro) a b o (bytes E) (alignment E) (asked_type E) v) $ await ! tt $ learn ! (λ is_unit.
    lands_last ! refl (subst (λ (u : Val). T (has_ty ty_unit u) × WT u) (sym is_unit) (tt, tt)) $
    exec ! 𝓣.C 𝓣.Λ (env body.locals locals) (after 2 body.body) (at_ret _ Post) $
    sets ! (of_opd ! (unit_lit !)) refl (tt, tt) $ returns ! (look_at ! 0 refl) $ free_all ! refl $ keep ! (0 ∷ 2 ∷ []) $
    nothing ! $ feq_i ! (List Val) (vunit ∷ []) (vunit ∷ []) refl $ move ! (0 ∷ 2 ∷ 3 ∷ 1 ∷ []) $ by ! (leave tt vunit))))))
