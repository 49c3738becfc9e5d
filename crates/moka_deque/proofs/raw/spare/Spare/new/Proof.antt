-- `new` makes a chain of no nodes, which owns nothing but its own pointer. Assumes `Logic`.
use mathlib.Core.Path.{◌≡◌, refl}
use mathlib.Core.List.{[], ◌∷◌}
use mir.MapTy.{inst_fn}
use base.Fml.{flft}
use contract.Monad.{fact}
use contract.Lifetimes.{toks}
use types.Kit.{‵, raw, ◌$◌, ◌∵◌, !, qed, by, move, keep, fjoin}
use types.Part.{agg}
use types.Run.{lit, and_then, no_more, returns, enter}
use types.ByLocal.{alloc_all, pass_all, free_all, look_at, sets}
use denote.Memory.{hidden_shr}
use denote.RattleType.{owns}
use denote.RawPtr.{null_ptr}
use denote.Steps.{nothing}
use Rattle.lru.proofs.Memory.{word_made}
use Rattle.std_alloc.proofs.RcSteps.{word, word-Good}
use Rattle.moka_deque.proofs.RawMemory.{args, RA, Sp}
use Rattle.moka_deque.proofs.RawFrame.{at_types, wants_nothing, inside_allocator, looks, states}
use Rattle.moka_deque.specs.contracts.raw.spare.Spare.new.Key.{name as itself}
use Rattle.moka_deque.proofs.raw.spare.Spare.new.Statement.{statement}
use Rattle.moka_deque.proofs.raw.spare.Spare.new.Code as code

pub new_spec : {M : Type 1} → statement M
new_spec 𝓤 𝓛 𝓜 𝓡 wired X Y W LX LY LW g d dd met met' =
    let E = at_types X LX Y LY W LW g d dd in let body = inst_fn (args E) code.function in
    looks E inside_allocator (RA E) [] (λ _. Sp E) 𝓛 𝓜 𝓡 (λ _ _ _. wants_nothing 𝓤) (λ _ a _ r. fact 𝓤 ((r.rest ≡ []) × (r.alloc ≡ a)))
    (itself (args E)) body (code.unfolded 𝓤 𝓛.H 𝓜 𝓡 wired (X, (Y, (W, tt))) d dd) (λ κs qs _ _ rb ro a xs Post _ leave.
    let none : (Sp E).Denot = record { first = null_ptr; rest = []; alloc = a } in
    qed 𝓛 (‵ (hidden_shr (RA E) κs.0 a rb ro) ∷ ‵ (flft κs.0 qs.0) ∷ raw (toks 𝓛 3 κs.1 qs.1) ∷ ‵ (owns [] xs tt) ∷ []) ∵
    enter ! _ _ _ _ _ $ alloc_all ! (λ locals. pass_all ! refl ((tt, tt), tt) $
    sets ! (agg ! (and_then ! (lit ! tt) (no_more !))) refl (word-Good [] null_ptr) $
    returns ! (look_at ! 0 refl) $ free_all ! refl $ keep ! (1 ∷ 2 ∷ []) $
    states ! (refl, refl) $ move ! (1 ∷ 2 ∷ 0 ∷ []) $ nothing ! $ word_made ! null_ptr $ fjoin ! $ by ! (leave none (word null_ptr))))
