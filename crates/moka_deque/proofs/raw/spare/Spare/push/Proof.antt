-- `push` writes the chain's first address into the node, which becomes the first. Assumes `Logic`.
use mathlib.Core.Path.{◌≡◌, refl, sym, ap}
use mathlib.Core.List.{List, [], ◌∷◌}
use Prim.Native.Nat.{◌+◌}
use mir.MapTy.{inst_fn}
use mir.Syntax.{ty_ptr}
use mir.Val.{Val, vunit}
use base.Fraction.{full_share}
use base.Fml.{fsep, flft, fobs, fbor}
use contract.Monad.{fact}
use contract.Lifetimes.{toks}
use contract.Running.{tables}
use types.SemTy.{Body as Borrowed}
use types.Kit.{‵, raw, at_ret, ◌$◌, ◌∵◌, !, qed, by, move, keep, drop, rewrite, fsplit, fjoin, feq_i}
use types.Part.{whole, sub, look_in, store_in}
use types.Run.{init, stop, fld, load, unit_lit, of_opd, assigns, assigns_last, first, blocks, exec, returns, enter}
use types.ByLocal.{alloc_all, pass_all, free_all, look_at, get, get_in, through, sets, is, env}
use denote.Builtin.{unit}
use denote.Memory.{mem, cell_at}
use denote.RattleType.{owns}
use denote.RawPtr.{Ptr, RawPtr, ptr_val, lies_at, room_for}
use denote.Steps.{opens, closes}
use Rattle.lru.specs.Ownership.{prev_of, next_of}
use Rattle.lru.proofs.Memory.{word_had, word_made}
use Rattle.std_alloc.proofs.RcSteps.{Ptr-Good, word, word-Good}
use Rattle.std_alloc.proofs.VecSteps.Shapes.{after}
use Rattle.moka_deque.specs.RawNodes.{spares}
use Rattle.moka_deque.specs.RawOwnership.{spare_owns}
use Rattle.moka_deque.proofs.RawMemory.{Tk, args, RK, RV, Sp, Rm, pointer_in}
use Rattle.moka_deque.proofs.RawFrame.{at_types, wants, spare, inside_all, changes, states}
use Rattle.moka_deque.proofs.RawLinks.{link_room_cells}
use Rattle.moka_deque.specs.contracts.raw.spare.Spare.push.Key.{name as itself}
use Rattle.moka_deque.proofs.raw.spare.Spare.push.Statement.{statement}
use Rattle.moka_deque.proofs.raw.spare.Spare.push.Code as code

pub push_spec : {M : Type 1} → statement M
push_spec 𝓤 𝓛 𝓜 𝓡 wired X Y W LX LY LW g d dd met met' =
    let E = at_types X LX Y LY W LW g d dd in let 𝓣 = tables 𝓤 𝓛.H 𝓜 𝓡 𝓡.env in let body = inst_fn (args E) code.function in
    changes E inside_all (Sp E) (spare E ∷ []) (λ _. unit) 𝓛 𝓜 𝓡 (λ _ s xs. wants 𝓤 (xs.0.alloc ≡ s.alloc))
    (λ _ s xs _ new. fact 𝓤 ((spares new.first new.rest ≡ (xs.0.ptr, xs.0.id) ∷ spares s.first s.rest) × (new.alloc ≡ s.alloc)))
    (itself (args E)) body (code.unfolded 𝓤 𝓛.H 𝓜 𝓡 wired (X, (Y, (W, tt))) d dd) (λ κs qs b o γ s xs Post its_own leave.
    let node = xs.0 in let p : Ptr = node.ptr in
    let longer : (Sp E).Denot = record { first = p; rest = (node.id, s.first) ∷ s.rest; alloc = s.alloc } in
    qed 𝓛 (‵ (fobs γ ((Sp E).coded.code s)) ∷ ‵ (fbor κs.0 (Borrowed (mem (Sp E)) b o γ)) ∷ ‵ (flft κs.0 qs.0) ∷ ‵ (owns (Rm E ∷ []) xs (word p ∷ [], tt))
    ∷ raw (toks 𝓛 3 κs.1 qs.1) ∷ []) ∵
    enter ! _ _ _ _ _ $ alloc_all ! (λ locals. pass_all ! refl ((tt, tt), (word-Good [] p, tt)) $
    opens ! tt (Sp E) {h = s} b o (λ vs. move ! (1 ∷ []) $ fsplit ! $ word_had ! s.first vs (λ holds.
    rewrite ! 1 (λ (ws : List Val). ‵ (cell_at full_share (Sp E).mir ws b o)) holds refl $
    move ! (5 ∷ []) $ fsplit ! $ fsplit ! $ drop ! $ rewrite ! 0 (λ (a : W.Denot). ‵ (spare_owns (RK E) (RV E) (Tk E a) p node.id)) its_own refl $ fsplit ! $
    link_room_cells ! p (λ nb no is_p.
    -- [room for `prev`; for `next`; the rest of the node; nothing; the chain; its cell; the open borrow, in three; the idle tokens]
    sets ! (is ! (of_opd ! (get_in ! (fld ! refl (stop !)) (sub ! 0 refl (whole !)))) (ap ptr_val is_p)) refl (tt, tt) $ first ! $ blocks ! $
    sets ! (of_opd ! (load ! (through ! refl (fld ! refl (stop !))) (look_in ! 5 (sub ! 0 refl (whole !))))) refl (Ptr-Good s.first) $
    assigns_last ! (of_opd ! (get ! refl)) (through ! refl (fld ! refl (stop !))) (init ! 1 refl (Ptr-Good s.first)) $
    exec ! 𝓣.C 𝓣.Λ (env body.locals locals) (after 2 body.body) (at_ret _ Post) $
    assigns ! (of_opd ! (get ! refl)) (through ! refl (fld ! refl (stop !))) (store_in ! 5 (sub ! 0 refl (whole !)) (tt, tt)) $
    sets ! (of_opd ! (unit_lit !)) refl (tt, tt) $
    rewrite ! 5 (λ (r : Ptr). ‵ (cell_at full_share (Sp E).mir (word r ∷ []) b o)) (sym is_p) refl $
    -- the chain behind the node
    move ! (1 ∷ []) $ pointer_in ! s.first nb (no + 8) $ move ! (1 ∷ 0 ∷ []) $ fjoin ! $
    rewrite ! 0 (λ (r : Ptr). ‵ (fsep (room_for ty_ptr (prev_of r)) (lies_at RawPtr full_share (next_of r) s.first))) (sym is_p) refl $ fjoin ! $
    move ! (0 ∷ 2 ∷ []) $ fjoin ! $
    word_made ! p $ fjoin ! $ move ! (2 ∷ 0 ∷ 3 ∷ 4 ∷ 5 ∷ []) $ closes ! tt (Sp E) longer (word p ∷ []) b o $
    returns ! (look_at ! 0 refl) $ free_all ! refl $ keep ! (0 ∷ 1 ∷ 2 ∷ 4 ∷ []) $ feq_i ! (List Val) (vunit ∷ []) (vunit ∷ []) refl $
    states ! (refl, refl) $ move ! (2 ∷ 3 ∷ 4 ∷ 1 ∷ 5 ∷ 0 ∷ []) $ by ! (leave tt vunit longer))))))
