-- `placed` copies the address out of a blank, which it passes on as it is. Assumes `Logic`.
use mathlib.Core.Path.{◌≡◌, refl}
use mathlib.Core.List.{[], ◌∷◌}
use mir.MapTy.{inst_fn}
use contract.Monad.{fact}
use contract.Lifetimes.{toks}
use types.Kit.{‵, raw, ◌$◌, ◌∵◌, !, qed, by, move, keep, use2, fsplit}
use types.Part.{whole, sub, agg}
use types.Run.{stop, fld, of_opd, and_then, no_more, returns, enter}
use types.ByLocal.{alloc_all, pass_all, free_all, look_at, get, get_in, sets}
use denote.Param.{layout}
use denote.RattleType.{owns}
use denote.RawPtr.{Ptr}
use denote.Struct.Tuple.{Tuple}
use Rattle.lru.proofs.Memory.{word_made}
use Rattle.std_alloc.proofs.RcSteps.{Ptr-Good, word, word-Good}
use Rattle.std_alloc.proofs.Pairs.{pair_val, pair_Typed, pair_of}
use Rattle.moka_deque.proofs.RawMemory.{args, Np, Bl}
use Rattle.moka_deque.proofs.RawFrame.{at_types, wants_nothing, blank, takes, states}
use Rattle.moka_deque.specs.contracts.raw.block.Blank.placed.Key.{name as itself}
use Rattle.moka_deque.proofs.raw.block.Blank.placed.Statement.{statement}
use Rattle.moka_deque.proofs.raw.block.Blank.placed.Code as code

pub placed_spec : {M : Type 1} → statement M
placed_spec 𝓤 𝓛 𝓜 𝓡 wired X Y W LX LY LW g d dd met met' =
    let E = at_types X LX Y LY W LW g d dd in let body = inst_fn (args E) code.function in
    takes E (blank E ∷ []) (Tuple (Bl E ∷ Np E ∷ [])) 𝓛 𝓜 𝓡 (λ _ _. wants_nothing 𝓤) (λ _ xs r. fact 𝓤 ((r.0 ≡ xs.0) × (r.1.ptr ≡ xs.0.ptr)))
    (itself (args E)) body (code.unfolded 𝓤 𝓛.H 𝓜 𝓡 wired (X, (Y, (W, tt))) d dd) (λ κs qs xs Post _ leave.
    let p : Ptr = xs.0.ptr in let at : (Np E).Denot = record { ptr = p } in let good = word-Good [] p in
    qed 𝓛 (‵ (owns (Bl E ∷ []) xs (word p ∷ [], tt)) ∷ raw (toks 𝓛 3 κs qs) ∷ []) ∵
    enter ! _ _ _ _ _ $ alloc_all ! (λ locals. pass_all ! refl (good, tt) $ fsplit ! $
    sets ! (of_opd ! (get_in ! (fld ! refl (stop !)) (sub ! 0 refl (whole !)))) refl (Ptr-Good p) $
    sets ! (agg ! (and_then ! (get ! refl) (no_more !))) refl good $ sets ! (agg ! (and_then ! (get ! refl) (no_more !))) refl good $
    sets ! (agg ! (and_then ! (get ! refl) (and_then ! (get ! refl) (no_more !)))) refl
    (pair_Typed (layout (Bl E)) (layout (Np E)) (word p) (word p) good good) $
    word_made ! p $ move ! (1 ∷ 0 ∷ []) $ use2 𝓛 (‵ ((Tuple (Bl E ∷ Np E ∷ [])).own_val (xs.0, at) (pair_val (word p) (word p) ∷ [])))
    (pair_of 𝓛 (Bl E) (Np E) xs.0 at (word p) (word p)) $
    returns ! (look_at ! 0 refl) $ free_all ! refl $ keep ! (0 ∷ 2 ∷ []) $ states ! (refl, refl) $ move ! (1 ∷ 2 ∷ 0 ∷ []) $
    by ! (leave (xs.0, at) (pair_val (word p) (word p)))))
