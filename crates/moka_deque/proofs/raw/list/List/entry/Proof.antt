-- The list lends the id and the element of a node, and `entry` shows both. Assumes `Logic`.
use mathlib.Core.List.{List, [], ◌∷◌}
use Prim.Native.Nat.{◌+◌}
use mathlib.Core.Path.{◌≡◌, refl}
use mir.Syntax.{named}
use mir.MapTy.{inst_fn}
use mir.Val.{Val, vptr}
use base.Fml.{Lft, flft}
use prog.Wp.{WpFn}
use contract.Monad.{fact}
use contract.Lifetimes.{toks}
use contract.Running.{tables}
use types.Kit.{‵, raw, at_ret, ◌$◌, ◌∵◌, !, qed, by, move, keep, use1, use2, fjoin, feq_i}
use types.Part.{whole, sub, agg}
use types.Run.{stop, hop, fld, from, of_opd, addr, and_then, no_more, first, blocks, exec, returns, enter}
use types.ByLocal.{alloc_all, pass_all, free_all, look_at, look_in_at, get, sets, sets_last, env}
use denote.Memory.{hidden_shr}
use denote.RattleType.{RattleType, owns}
use denote.Ref.{Bor, ShrRef}
use denote.Struct.Tuple.{Tuple}
use Rattle.std_alloc.proofs.RcSteps.{word}
use Rattle.std_alloc.proofs.VecSteps.Shapes.{after}
use Rattle.std_alloc.proofs.Pairs.{pair_val, pair_of}
use Rattle.moka_deque.specs.RawNodes.{linked, IsAt, AtNode}
use Rattle.moka_deque.specs.RawOwnership.{pair_lent}
use Rattle.moka_deque.proofs.RawMemory.{args, Lr, Np, RK, RV, ko, vo}
use Rattle.moka_deque.proofs.RawFrame.{at_types, wants, place, inside_all, looks, states}
use Rattle.moka_deque.proofs.RawFields.{node_lent, at_pair, of_the_node}
use Rattle.moka_deque.specs.contracts.raw.list.List.entry.Key.{name as itself}
use Rattle.moka_deque.proofs.raw.list.List.entry.Statement.{statement}
use Rattle.moka_deque.proofs.raw.list.List.entry.Code as code

pub entry_spec : {M : Type 1} → statement M
entry_spec 𝓤 𝓛 𝓜 𝓡 wired X Y W LX LY LW g d dd met met' =
    let E = at_types X LX Y LY W LW g d dd in let 𝓣 = tables 𝓤 𝓛.H 𝓜 𝓡 𝓡.env in let body = inst_fn (args E) code.function in
    let Id : Lft → RattleType = λ κ. ShrRef (named 0) κ (RK E) in let Element : Lft → RattleType = λ κ. ShrRef (named 0) κ (RV E) in
    looks E inside_all (Lr E) (place E ∷ []) (λ κ. Tuple (Id κ ∷ Element κ ∷ [])) 𝓛 𝓜 𝓡 (λ _ l xs. wants 𝓤 (IsAt l.nodes xs.0.ptr))
    (λ _ l xs r. fact 𝓤 (AtNode l.nodes xs.0.ptr (λ _ n _. (r.0.now ≡ n.id) × (r.1.now ≡ n.element))))
    (itself (args E)) body (code.unfolded 𝓤 𝓛.H 𝓜 𝓡 wired (X, (Y, (W, tt))) d dd) (λ κs qs _ _ rb ro l xs Post found leave.
    let κ = κs.0 in let p = xs.0.ptr in
    let n = found.1 in
    let only_n : AtNode l.nodes p (λ _ m _. (n.id ≡ m.id) × (n.element ≡ m.element)) =
    of_the_node E l found (λ _ m _. (n.id ≡ m.id) × (n.element ≡ m.element)) (refl, refl) in
    qed 𝓛 (‵ (hidden_shr (Lr E) κ l rb ro) ∷ ‵ (flft κ qs.0) ∷ raw (toks 𝓛 3 κs.1 qs.1) ∷ ‵ (owns (Np E ∷ []) xs (word p ∷ [], tt)) ∷ []) ∵
    use1 𝓛 (‵ (pair_lent (RK E) (RV E) (linked p n.id n.element) κ)) (node_lent E 𝓛 κ l rb ro found) $
    at_pair ! E p n.id n.element κ (λ r. WpFn 𝓤 𝓛.H 𝓣.C 𝓣.Λ body (vptr rb ro ∷ word r ∷ []) Post) (λ b o.
    let id : Bor X.Denot = record { ref_ptr = (b, o + ko E); now = n.id } in
    let element : Bor Y.Denot = record { ref_ptr = (b, o + vo E); now = n.element } in
    let to_id : Val = vptr b (o + ko E) in let to_element : Val = vptr b (o + vo E) in
    -- [the element; the id; the token; the idle tokens]
    enter ! _ _ _ _ _ $ alloc_all ! (λ locals. pass_all ! refl ((tt, tt), ((tt, (tt, tt)), tt)) $
    first ! $ blocks ! $ sets ! (addr ! (from ! (fld ! refl (hop ! (look_in_at ! 2 (sub ! 0 refl (whole !))) (fld ! refl (stop !)))))) refl (tt, tt) $
    sets ! (addr ! (from ! (fld ! refl (hop ! (look_in_at ! 2 (sub ! 0 refl (whole !))) (fld ! refl (stop !)))))) refl (tt, tt) $
    sets_last ! (agg ! (and_then ! (get ! refl) (and_then ! (get ! refl) (no_more !)))) refl (tt, (tt, (tt, tt))) $
    exec ! 𝓣.C 𝓣.Λ (env body.locals locals) (after 1 body.body) (at_ret _ Post) $ sets ! (of_opd ! (get ! refl)) refl (tt, (tt, (tt, tt))) $
    returns ! (look_at ! 0 refl) $ free_all ! refl $ keep ! (0 ∷ 1 ∷ 2 ∷ 3 ∷ []) $ states ! only_n $ move ! (1 ∷ 2 ∷ 3 ∷ 4 ∷ 0 ∷ []) $
    feq_i ! (List Val) (to_element ∷ []) (to_element ∷ []) refl $ fjoin ! $ move ! (1 ∷ []) $ feq_i ! (List Val) (to_id ∷ []) (to_id ∷ []) refl $ fjoin ! $
    use2 𝓛 (‵ ((Tuple (Id κ ∷ Element κ ∷ [])).own_val (id, element) (pair_val to_id to_element ∷ [])))
    (pair_of 𝓛 (Id κ) (Element κ) id element to_id to_element) $
    by ! (leave (id, element) (pair_val to_id to_element)))))
