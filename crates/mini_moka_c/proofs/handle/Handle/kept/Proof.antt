-- `kept` lends what an open handle keeps, and the handle has it back with what it has become. Assumes `Logic`.
use Rattle.std.proofs.Common.{◌≡◌, ℕ, List, [], ◌∷◌, refl, sym, lit<}
use mathlib.Core.Bool.{Bool, true}
use seplogic.Ra.Ura.{Ura}
use mir.Syntax.{Fn, Body, named, place, copy, int, w8, assign, seq, rv_opd, aggregate}
use mir.Raw.{raw as bare}
use mir.Val.{Val, vptr, vcons, vnil}
use base.Fraction.{full_share}
use base.Logic.{SProp, ent, sep, emp, never, fst∗}
use base.Fml.{Fml, GName, fsep, flft, fres, ftrue}
use prog.Wp.{after_seq, at_return, Wp}
use types.Logic.{Logic, sem}
use contract.Monad.{fact, fact_i}
use contract.Running.{tables}
use types.Kit.{‵, raw, ◌⊛◌, some, later, await, pick, at_ret, any_q, ◌$◌, ◌∵◌, !, qed, done, by, move, keep, drop, use0, use1}
use types.Kit.{split, split3, join, group, rewrite, fsplit, fsplit3, fjoin, fpack}
use types.Match.{live}
use types.Part.{whole, sub, agg, look_in}
use types.Run.{stop, fld, lit, load, addr, of_opd, no_more, and_then, first, blocks, branches, exec, returns, enter}
use types.ByLocal.{alloc_all, pass_all, free_all, look_at, get, through, sets, sets_last, env}
use denote.Follow.{follows, follows_by, lends_Part}
use denote.Memory.{lone, mem, cell_at, part_at, part_of}
use denote.RattleType.{RattleType, owns}
use denote.RawPtr.{Ptr, block_ptr, null_ptr, in_a_block}
use denote.Ref.{MutBor, MutRef, mut_vals, mut_Tells}
use denote.Signature.{types_at, plain, mut_ref_to}
use denote.Steps.{nothing, opens, closes}
use denote.Triple.Walked.{Stays, stay_dropped, walk_of, Goes-spent_ref}
use Rattle.core.proofs.alloc.Shapes.{after}
use Rattle.core.proofs.option.Made.{Some-of, none_of}
use Rattle.core.specs.contracts.option.Option as option
use Rattle.std.proofs.raw_atomic.Walks.{proved, leaves}
use Rattle.std.specs.declared.option.Option.{Option}
use Rattle.std.specs.declared.option.Option.TheVariants.{None, Some}
use Rattle.std.specs.contracts.impls.GlobalAllocator.TheImpl.{ghosts}
use Rattle.std_alloc.specs.Box.Ownership.{box_owns}
use Rattle.mini_moka_c.specs.declared.handle.Handle.{Handle}
use Rattle.mini_moka_c.specs.declared.handle.AnyCache.{AnyCache}
use Rattle.mini_moka_c.specs.contracts.handle.Handle as handle
use Rattle.mini_moka_c.specs.contracts.handle.AnyCache as kept
use Rattle.mini_moka_c.specs.Held.{held}
use Rattle.mini_moka_c.specs.HandleLends.{with_kept}
use Rattle.mini_moka_c.proofs.HandleValues.{Z, word, handle_out, handle_in, held_is}
use Rattle.mini_moka_c.specs.contracts.handle.Handle.kept.{ended, clauses}
use Rattle.mini_moka_c.specs.contracts.handle.Handle.kept.Key.{name as #self}
use Rattle.mini_moka_c.proofs.handle.Handle.kept.Statement.{statement}
use Rattle.mini_moka_c.proofs.handle.Handle.kept.Code as code

abbrev S : RattleType
S = handle.the_row

abbrev R : RattleType
R = kept.the_row

-- the handle at (b, o)
module _ (me : Handle) (h : Val) (b o : ℕ) where
  -- its own memory
  abbrev Cell : Ptr → Bool → Fml
  Cell p c = cell_at full_share S.mir (word p c h ∷ []) b o

  -- the right to free what it keeps, which lies there
  abbrev Frees : Ptr → Fml
  Frees = ghosts.dealloc_token me.alloc (bare (lone R.mir))

  -- all of an open handle but what it keeps
  abbrev Rest : ℕ → ℕ → Fml
  Rest there at = fsep (fsep (Frees (block_ptr there at)) (Z.own_val me.alloc (h ∷ []))) (Cell (block_ptr there at) true)

  -- the handle with anything there
  module _ {M : Type 1} {𝓤 : Ura M} (𝓛 : Logic 𝓤) where
    back : (there at : ℕ) → me.at ≡ block_ptr there at → me.is_open ≡ true → (w : AnyCache)
        → ent 𝓤 (sep 𝓤 (sem 𝓛 ((mem R).own_at w there at)) (sem 𝓛 (Rest there at))) (sem 𝓛 ((mem S).own_at (with_kept me w) b o))
    unfolding part_of
    back there at lies is_open w =
        let p = block_ptr there at in let v = word p true h in
        let Owned : Ptr → Bool → Fml = λ q t. S.own_val (record { at = q; is_open = t; alloc = me.alloc; value = Some w }) (v ∷ []) in
        qed 𝓛 (‵ (part_at R full_share w there at) ∷ ‵ (Rest there at) ∷ []) ∵
        move ! (1 ∷ []) $ fsplit ! $ fsplit ! $ move ! (3 ∷ 0 ∷ []) $ fjoin ! $ handle_in ! p true h me.alloc (Some w) $
        rewrite ! 0 (λ (q : Ptr). ‵ (Owned q true)) (sym lies) refl $ rewrite ! 0 (λ (t : Bool). ‵ (Owned me.at t)) (sym is_open) refl $
        move ! (1 ∷ 0 ∷ []) $ fjoin ! $
        fpack ! (List Val) (λ us. fsep (cell_at full_share S.mir us b o) (S.own_val (with_kept me w) us)) (v ∷ []) $ done !

-- the second half of the arm of an open handle
abbrev gives : Body
gives =
    seq (assign (place 4 []) (rv_opd (copy (place 5 [])))) (assign (place 3 []) (aggregate (int w8 1 ∷ copy (place 4 []) ∷ [])))

pub kept_spec : {M : Type 1} → statement M
unfolding follows_by
kept_spec 𝓤 𝓛 𝓜 𝓡 wired =
    let H = 𝓛.H in let 𝓣 = tables 𝓤 H 𝓜 𝓡 𝓡.env in let c = clauses 𝓛 𝓜.mem 𝓡.returns in let fn : Fn = code.function in
    let hs : Stays ended.signature.params ended.kept = (stay_dropped (mut_ref_to (0 ∷ []) tt (plain (λ _. S))) ended.kept.0, tt) in
    proved 𝓛 ended hs c 𝓜 𝓡 (Goes-spent_ref 𝓛 1 (0 ∷ []) tt (plain (λ _. S)), tt) #self fn (code.unfolded 𝓤 H 𝓜 𝓡 wired)
    (λ κs. (mut_vals, tt)) (λ κs. (mut_Tells (named 0) κs.0 S, tt)) (λ κs qs bounds a g are.
    let me = a.0.now in let b = a.0.ref_ptr.0 in let o = a.0.ref_ptr.1 in let γ = a.0.ghost_name in let κ = κs.0 in let q = qs.0 in
    let z : (walk_of 𝓛 ended hs c).Ghost = ((κs, qs, bounds, a, (mut_vals a.0, tt)), g) in
    let Post : Val → SProp 𝓤 = (walk_of 𝓛 ended hs c).post z in
    let Lent : RattleType = MutRef (named 0) κ R in let Own : AnyCache → Fml = box_owns (ghosts.dealloc_token me.alloc) R me.at in
    qed 𝓛 (((‵ (flft κ q) ⊛ ‵ ftrue) ⊛ ‵ (owns (types_at ended.signature.params κs) a (mut_vals a.0, tt))) ∷ ‵ ftrue ∷ []) ∵
    move ! (1 ∷ []) $ drop ! $ split ! $ move ! (1 ∷ []) $ fsplit ! $ fsplit3 ! $ drop ! $ move ! (3 ∷ []) $ split ! $
    move ! (2 ∷ 3 ∷ 0 ∷ []) $
    enter ! 𝓣.C 𝓣.Λ fn (mut_vals a.0) _ $ alloc_all ! (λ l. pass_all ! refl ((tt, tt), tt) $ let En = env fn.locals l in
    opens ! tt S {h = me} b o (λ vs. move ! (1 ∷ []) $ handle_out ! me vs (λ h ws fits.
    rewrite ! 2 (λ (us : List Val). ‵ (cell_at full_share S.mir us b o)) ws refl $
    held_is ! me.is_open me.value Own
    (λ is_closed is_none.
    -- [the allocator; the handle's memory; the open borrow, in three]
    rewrite ! 1 (λ (t : Bool). ‵ (Cell me h b o me.at t)) is_closed refl $
    sets ! (of_opd ! (load ! (through ! refl (fld ! refl (stop !))) (look_in ! 1 (sub ! 1 refl (whole !))))) refl (tt, tt) $
    first ! $ branches ! (get ! refl) (λ wrong. absurd wrong) (λ _.
    sets_last ! (agg ! (and_then ! (lit ! tt) (no_more !))) refl (tt, (record { fits = lit< tt }, tt)) $
    exec ! 𝓣.C 𝓣.Λ En (after 2 fn.body) (at_ret En Post) $
    sets ! (of_opd ! (get ! refl)) refl (tt, (record { fits = lit< tt }, tt)) $
    -- the borrow is closed over the same handle
    rewrite ! 1 (λ (t : Bool). ‵ (Cell me h b o me.at t)) (sym is_closed) refl $ nothing ! $
    rewrite ! 0 (λ (t : Bool). ‵ (held t None Own)) (sym is_closed) refl $
    rewrite ! 0 (λ (x : Option AnyCache). ‵ (held me.is_open x Own)) (sym is_none) refl $
    handle_in ! me.at me.is_open h me.alloc me.value $ move ! (1 ∷ 0 ∷ []) $
    closes ! tt S me (word me.at me.is_open h ∷ []) b o $
    use1 𝓛 (‵ (fres γ (S.coded.code me))) (𝓛.names.obs-res γ (S.coded.code me)) $ move ! (1 ∷ []) $ drop ! $
    move ! (1 ∷ 2 ∷ []) $ join ! $
    use0 𝓛 (raw (fact 𝓤 (me.value ≡ None))) (fact_i 𝓤 (me.value ≡ None) (emp 𝓤) is_none) $ move ! (2 ∷ 0 ∷ []) $ join ! $
    use0 𝓛 (‵ ((option.the_row Lent).own_val None (live 0 vnil ∷ []))) (none_of 𝓛 Lent) $ nothing ! $ nothing ! $ fjoin ! $
    returns ! (look_at ! 0 refl) $ free_all ! refl $ keep ! (3 ∷ 0 ∷ 1 ∷ 2 ∷ []) $
    by ! (leaves 𝓛 ended hs c z (live 0 vnil) None (tt, tt) (tt, tt))))
    (λ x is_open is_some.
    in_a_block ! me.at (λ p. box_owns (ghosts.dealloc_token me.alloc) R p x) (fst∗ 𝓤 (never 𝓤) (sem 𝓛 (Frees me h b o null_ptr)))
    (λ there at lies. let v : Val = live 1 (vcons (vptr there at) vnil) in
    let to : GName → MutBor AnyCache = λ δ. record { ref_ptr = (there, at); ghost_name = δ; now = x } in
    -- [what it keeps; the right to free that; the allocator; the handle's memory; the open borrow, in three]
    fsplit ! $ rewrite ! 3 (λ (t : Bool). ‵ (Cell me h b o me.at t)) is_open refl $
    rewrite ! 3 (λ (p : Ptr). ‵ (Cell me h b o p true)) lies refl $
    sets ! (of_opd ! (load ! (through ! refl (fld ! refl (stop !))) (look_in ! 3 (sub ! 1 refl (whole !))))) refl (tt, tt) $
    first ! $ branches ! (get ! refl) (λ _. first ! $ blocks ! $
    sets ! (of_opd ! (load ! (through ! refl (fld ! refl (stop !))) (look_in ! 3 (sub ! 0 refl (whole !))))) refl (tt, tt) $
    sets ! (of_opd ! (get ! refl)) refl (tt, tt) $ sets_last ! (addr ! (through ! refl (stop !))) refl (tt, tt) $
    exec ! 𝓣.C 𝓣.Λ En gives
    (any_q (after_seq 𝓤 H (Wp 𝓤 H 𝓣.C 𝓣.Λ En (after 2 fn.body) (at_return 𝓤 H En Post)) (at_return 𝓤 H En Post))) $
    sets ! (of_opd ! (get ! refl)) refl (tt, tt) $
    sets_last ! (agg ! (and_then ! (lit ! tt) (and_then ! (get ! refl) (no_more !)))) refl (tt, (record { fits = lit< tt }, (tt, tt))) $
    exec ! 𝓣.C 𝓣.Λ En (after 2 fn.body) (at_ret En Post) $
    sets ! (of_opd ! (get ! refl)) refl (tt, (record { fits = lit< tt }, (tt, tt))) $
    -- what it keeps is lent out of the open borrow
    move ! (1 ∷ 2 ∷ []) $ fjoin ! $ move ! (0 ∷ 2 ∷ []) $ fjoin ! $ move ! (2 ∷ 3 ∷ 4 ∷ 1 ∷ 0 ∷ []) $ group ! 5 $
    use1 𝓛 (later (some (λ (δ : GName).
    ‵ (Lent.own_val (to δ) (vptr there at ∷ [])) ⊛ ‵ (flft κ q) ⊛ ‵ (follows S R γ δ (with_kept me)))))
    (lends_Part 𝓛 S R (with_kept me) (named 0) κ q b o there at γ (sem 𝓛 (Rest me h b o there at)) (back me h b o 𝓛 there at lies is_open)
    (S.coded.code me) (S.coded.code me) x) $ await ! tt $ pick ! (λ δ. split3 ! $
    use1 𝓛 (‵ ((option.the_row Lent).own_val (Some (to δ)) (v ∷ []))) (Some-of 𝓛 Lent (to δ) (vptr there at)) $
    move ! (1 ∷ 3 ∷ []) $ join ! $
    use0 𝓛 (raw (fact 𝓤 (me.value ≡ Some x))) (fact_i 𝓤 (me.value ≡ Some x) (emp 𝓤) is_some) $ move ! (3 ∷ 0 ∷ []) $ join ! $
    nothing ! $ nothing ! $ fjoin ! $ returns ! (look_at ! 0 refl) $ free_all ! refl $ keep ! (2 ∷ 0 ∷ 3 ∷ 1 ∷ []) $
    by ! (leaves 𝓛 ended hs c z v (Some (to δ)) (tt, tt) (tt, tt)))) (λ wrong. absurd wrong)))))))
