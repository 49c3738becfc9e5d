-- `pop` takes the first node out, and the chain begins at the address that it held. Assumes `Logic`.
use native.Mathlib.Omega.{arith}
use Rattle.std.specs.Prelude.{length}
use mathlib.Core.Path.{◌≡◌, refl, sym, ap}
use mathlib.Core.List.{List, [], ◌∷◌}
use Prim.Native.Nat.{◌+◌, ◌<◌}
use mir.MapTy.{inst_fn}
use mir.Syntax.{ty_ptr}
use mir.Val.{Val}
use base.Fraction.{full_share}
use base.Fml.{Fml, fsep, flft, fobs, fbor}
use base.Logic.{never, fst∗}
use contract.Monad.{fact}
use contract.Lifetimes.{toks}
use contract.Running.{tables}
use types.Logic.{sem}
use types.SemTy.{Body as Borrowed}
use types.Kit.{‵, raw, at_ret, ◌$◌, ◌∵◌, !, qed, by, move, keep, rewrite, fsplit, fjoin}
use types.Part.{whole, sub, agg, look_in, store_in}
use types.Run.{look, stop, fld, load, of_opd, and_then, no_more, assigns, first, blocks, exec, returns, enter}
use types.ByLocal.{alloc_all, pass_all, free_all, look_at, get, through, sets, sets_last, is, env}
use denote.Memory.{mem, cell_at}
use denote.RattleType.{owns}
use denote.RawPtr.{Ptr, RawPtr, block_ptr, null_ptr, ptr_val, in_a_block, lies_at, room_for}
use denote.Steps.{opens, closes}
use Rattle.lru.specs.Ownership.{prev_of, next_of, link_room}
use Rattle.lru.proofs.Memory.{word_had, word_made, stale}
use Rattle.std_alloc.proofs.RcSteps.{Ptr-Good, word, word-Good}
use Rattle.std_alloc.proofs.VecSteps.Shapes.{after}
use Rattle.moka_deque.specs.RawNodes.{spares}
use Rattle.moka_deque.specs.RawOwnership.{chain_owns}
use Rattle.moka_deque.proofs.RawMemory.{Tk, args, RK, RV, Sp, Rm, pointer_out}
use Rattle.moka_deque.proofs.RawFrame.{at_types, wants, inside_all, changes, states}
use Rattle.moka_deque.specs.contracts.raw.spare.Spare.pop.Key.{name as itself}
use Rattle.moka_deque.proofs.raw.spare.Spare.pop.Statement.{statement}
use Rattle.moka_deque.proofs.raw.spare.Spare.pop.Code as code

cut_first : {X : Type 0} (xs : List X) → 0 < length xs → (x : X) × (ys : List X) × (xs ≡ x ∷ ys)
cut_first [] h = absurd (omega arith)
cut_first (x ∷ ys) h = (x, ys, refl)

pub pop_spec : {M : Type 1} → statement M
pop_spec 𝓤 𝓛 𝓜 𝓡 wired X Y W LX LY LW g d dd met met' =
    let E = at_types X LX Y LY W LW g d dd in let 𝓣 = tables 𝓤 𝓛.H 𝓜 𝓡 𝓡.env in let body = inst_fn (args E) code.function in
    changes E inside_all (Sp E) [] (λ _. Rm E) 𝓛 𝓜 𝓡 (λ _ s _. wants 𝓤 (0 < length s.rest))
    (λ _ s _ r new. fact 𝓤 ((spares s.first s.rest ≡ (r.ptr, r.id) ∷ spares new.first new.rest) × (new.alloc ≡ s.alloc) × (r.alloc ≡ s.alloc)))
    (itself (args E)) body (code.unfolded 𝓤 𝓛.H 𝓜 𝓡 wired (X, (Y, (W, tt))) d dd) (λ κs qs b o γ s xs Post some leave.
    let cut = cut_first s.rest some in let id : X.Denot = cut.0.0 in let next : Ptr = cut.0.1 in
    let shorter : (Sp E).Denot = record { first = next; rest = cut.1; alloc = s.alloc } in let out : (Rm E).Denot =
    record { ptr = s.first; id = id; alloc = s.alloc } in
    let Links : Ptr → Fml = λ r. fsep (room_for ty_ptr (prev_of r)) (lies_at RawPtr full_share (next_of r) next) in
    qed 𝓛 (‵ (fobs γ ((Sp E).coded.code s)) ∷ ‵ (fbor κs.0 (Borrowed (mem (Sp E)) b o γ)) ∷ ‵ (flft κs.0 qs.0) ∷ ‵ (owns [] xs tt) ∷ raw (toks 𝓛 3 κs.1 qs.1)
    ∷ []) ∵
    enter ! _ _ _ _ _ $ alloc_all ! (λ locals. pass_all ! refl ((tt, tt), tt) $
    opens ! tt (Sp E) {h = s} b o (λ vs. move ! (1 ∷ []) $ fsplit ! $ word_had ! s.first vs (λ holds.
    rewrite ! 1 (λ (ws : List Val). ‵ (cell_at full_share (Sp E).mir ws b o)) holds refl $
    rewrite ! 0 (λ (rs : List (X.Denot × Ptr)). ‵ (chain_owns (RK E) (RV E) (Tk E s.alloc) s.first rs)) cut.2 refl $ fsplit ! $ fsplit ! $
    in_a_block ! s.first Links (fst∗ 𝓤 (never 𝓤) (sem 𝓛 (lies_at RawPtr full_share (next_of null_ptr) next))) (λ nb no is_first. fsplit ! $ move ! (1 ∷ []) $
    pointer_out ! next nb (no + 8) $
    -- [the node's `next`; room for its `prev`; the rest of it; the other nodes; the chain's cell; the open borrow, in three; ..]
    sets ! (is ! (of_opd ! (load ! (through ! refl (fld ! refl (stop !))) (look_in ! 4 (sub ! 0 refl (whole !))))) (ap ptr_val is_first)) refl (tt, tt) $
    first ! $ blocks ! $
    sets_last ! (of_opd ! (load ! (through ! refl (fld ! refl (stop !))) (look ! 0 refl))) refl (Ptr-Good next) $
    exec ! 𝓣.C 𝓣.Λ (env body.locals locals) (after 2 body.body) (at_ret _ Post) $
    assigns ! (of_opd ! (get ! refl)) (through ! refl (fld ! refl (stop !))) (store_in ! 4 (sub ! 0 refl (whole !)) (Ptr-Good next)) $
    sets ! (agg ! (and_then ! (get ! refl) (no_more !))) refl (word-Good [] (block_ptr nb no)) $
    -- the node, in no chain
    stale ! next nb (no + 8) $ move ! (1 ∷ 0 ∷ []) $ fjoin ! $ rewrite ! 0 (λ (r : Ptr). ‵ (link_room r)) (sym is_first) refl $ fjoin ! $
    word_made ! s.first $ fjoin ! $
    rewrite ! 0 (λ (r : Ptr). ‵ ((Rm E).own_val out (word r ∷ []))) is_first refl $
    move ! (1 ∷ []) $ word_made ! next $ fjoin ! $ move ! (2 ∷ 0 ∷ 3 ∷ 4 ∷ 5 ∷ []) $ closes ! tt (Sp E) shorter (word next ∷ []) b o $
    returns ! (look_at ! 0 refl) $ free_all ! refl $ keep ! (0 ∷ 1 ∷ 2 ∷ 3 ∷ 5 ∷ []) $ states ! (ap (spares s.first) cut.2, refl, refl) $
    move ! (1 ∷ 2 ∷ 3 ∷ 4 ∷ 5 ∷ 0 ∷ []) $
    by ! (leave out (word (block_ptr nb no)) shorter))))))
