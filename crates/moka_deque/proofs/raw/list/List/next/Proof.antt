-- The list lends the link behind a node, and `next` reads it there. Assumes `Logic`.
use mathlib.Core.List.{[], ◌∷◌}
use Prim.Native.Nat.{◌+◌}
use mathlib.Core.Path.{◌≡◌, refl}
use mir.MapTy.{inst_fn}
use mir.Val.{vptr}
use base.Fml.{flft}
use prog.Wp.{WpFn}
use contract.Monad.{fact}
use contract.Lifetimes.{toks}
use denote.RattleType.{owns}
use contract.Running.{tables}
use types.Kit.{‵, raw, at_ret, ◌$◌, ◌∵◌, !, qed, by, move, keep, use1, fsplit}
use types.Part.{whole, sub, agg}
use types.Run.{look, stop, hop, fld, from, load, of_opd, and_then, no_more, first, blocks, exec, returns, enter}
use types.ByLocal.{alloc_all, pass_all, free_all, look_at, look_in_at, get, sets, sets_last, env}
use denote.Memory.{hidden_shr}
use denote.RawPtr.{Ptr}
use Rattle.lru.specs.Linked.{HasNext}
use Rattle.lru.specs.Ownership.{edge_lent}
use Rattle.lru.proofs.Apart.{same_next}
use Rattle.lru.proofs.Memory.{word_made, peer_in, peer_out}
use Rattle.std_alloc.proofs.RcSteps.{Ptr-Good, word, word-Good}
use Rattle.std_alloc.proofs.VecSteps.Shapes.{after}
use Rattle.moka_deque.specs.RawNodes.{ring}
use Rattle.moka_deque.proofs.RawMemory.{args, Lr, Np}
use Rattle.moka_deque.proofs.RawFrame.{at_types, wants, place, inside_all, looks, states}
use Rattle.moka_deque.proofs.RawFields.{link_lent, at_link}
use Rattle.moka_deque.specs.contracts.raw.list.List.next.Key.{name as itself}
use Rattle.moka_deque.proofs.raw.list.List.next.Statement.{statement}
use Rattle.moka_deque.proofs.raw.list.List.next.Code as code

pub next_spec : {M : Type 1} → statement M
next_spec 𝓤 𝓛 𝓜 𝓡 wired X Y W LX LY LW g d dd met met' =
    let E = at_types X LX Y LY W LW g d dd in let 𝓣 = tables 𝓤 𝓛.H 𝓜 𝓡 𝓡.env in let body = inst_fn (args E) code.function in
    looks E inside_all (Lr E) (place E ∷ []) (λ _. Np E) 𝓛 𝓜 𝓡 (λ _ l xs. wants 𝓤 ((after : Ptr) × HasNext (ring l.head l.nodes l.tail) xs.0.ptr after))
    (λ _ l xs r. fact 𝓤 ((after : Ptr) → HasNext (ring l.head l.nodes l.tail) xs.0.ptr after → r.ptr ≡ after))
    (itself (args E)) body (code.unfolded 𝓤 𝓛.H 𝓜 𝓡 wired (X, (Y, (W, tt))) d dd) (λ κs qs _ _ rb ro l xs Post asked leave.
    let κ = κs.0 in let p = xs.0.ptr in
    let behind : Ptr = asked.0 in
    let only_behind : (other : Ptr) → HasNext (ring l.head l.nodes l.tail) p other → behind ≡ other =
    λ other is_next. same_next (ring l.head l.nodes l.tail) p behind other l.apart asked.1 is_next in
    qed 𝓛 (‵ (hidden_shr (Lr E) κ l rb ro) ∷ ‵ (flft κ qs.0) ∷ raw (toks 𝓛 3 κs.1 qs.1) ∷ ‵ (owns (Np E ∷ []) xs (word p ∷ [], tt)) ∷ []) ∵
    use1 𝓛 (‵ (edge_lent p behind κ)) (link_lent E 𝓛 κ l rb ro asked.1) $ fsplit ! $
    at_link ! 8 p behind κ (λ r. WpFn 𝓤 𝓛.H 𝓣.C 𝓣.Λ body (vptr rb ro ∷ word r ∷ []) Post) (λ b o.
    -- [the link; the other end of it; the token; the idle tokens]
    enter ! _ _ _ _ _ $ alloc_all ! (λ locals. pass_all ! refl ((tt, tt), ((tt, (tt, tt)), tt)) $ move ! (0 ∷ 2 ∷ []) $ peer_in ! tt behind b (o + 8) (λ share.
    first ! $ blocks ! $ sets_last ! (of_opd ! (load ! (from ! (fld ! refl (hop ! (look_in_at ! 2 (sub ! 0 refl (whole !))) (fld ! refl (stop !)))))
    (look ! 0 refl))) refl (Ptr-Good behind) $
    exec ! 𝓣.C 𝓣.Λ (env body.locals locals) (after 1 body.body) (at_ret _ Post) $
    sets ! (of_opd ! (get ! refl)) refl (Ptr-Good behind) $ sets ! (agg ! (and_then ! (get ! refl) (no_more !))) refl (word-Good [] behind) $
    peer_out ! tt behind b (o + 8) $ returns ! (look_at ! 0 refl) $ free_all ! refl $ keep ! (0 ∷ 2 ∷ []) $ states ! only_behind $ move ! (1 ∷ 2 ∷ 0 ∷ []) $
    word_made ! behind $
    by ! (leave (record { ptr = behind }) (word behind))))))
