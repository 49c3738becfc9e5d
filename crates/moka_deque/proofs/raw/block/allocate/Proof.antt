-- `allocate` asks for the bytes of a node, and what comes is a blank or the refusal. Assumes `Logic`.
use mathlib.Core.Path.{◌≡◌, refl}
use mathlib.Core.Bool.{true, false}
use mathlib.Core.List.{[], ◌∷◌}
use lib.Dec.{lit<}
use mir.MapTy.{inst_fn}
use mir.Syntax.{Body}
use mir.Val.{Val, vstruct, vcons, vnil}
use base.Fml.{Incl-trans, flft}
use contract.Monad.{fact}
use contract.Lifetimes.{toks}
use contract.Running.{tables}
use prog.Wp.{Wp, after_seq, at_return}
use types.Kit.{Post as After, any_q, ‵, raw, ◌⊛◌, later, await, at_ret, ◌$◌, ◌∵◌, !, qed, by, move, keep, use1, use2, split, fjoin}
use types.Match.{live, vrt, in_variant}
use types.Part.{whole, agg}
use types.Run.{stop, fld, lit, size_word, align_word, of_opd, and_then, no_more, first, switches_on, exec, returns, enter}
use types.ByLocal.{alloc_all, pass_all, free_all, look_at, lands_as, get, get_in, get_tag, sets, sets_last, env}
use denote.Laws.{Is}
use denote.Memory.{hidden_shr}
use denote.Param.{layout}
use denote.RattleType.{RattleType, owns}
use denote.RawPtr.{Ptr, block_ptr}
use denote.Steps.{owned}
use denote.Struct.Struct.{Struct, Struct-Makes}
use denote.Struct.Declared as Declared
use denote.Triple.Call.{calls_at}
use denote.Triple.Table.{framed}
use Rattle.std.specs.Prelude.{IfOk, Ok, Err}
use Rattle.core.specs.contracts.alloc.AllocError as AllocError
use Rattle.core.specs.contracts.result.Result as Result
use Rattle.core.proofs.alloc.Calls.{Answer-typed, Takes, Answered, Takes-gives, answers}
use Rattle.lru.proofs.Memory.{word_made}
use Rattle.std_alloc.proofs.ResultValues.{ok_of, err_of}
use Rattle.std_alloc.proofs.RcSteps.{first_Good, word, word-Good}
use Rattle.std_alloc.proofs.VecSteps.Shapes.{after, head, arm_body}
use Rattle.moka_deque.proofs.RawMemory.{args, RA, Bl}
use Rattle.moka_deque.proofs.RawFrame.{at_types, wants_nothing, inside_allocator, looks, states}
use Rattle.moka_deque.proofs.RawBlocks.{asked_type, bytes, alignment, Blank, asking, asks, blank_of_block}
use Rattle.moka_deque.specs.contracts.raw.block.allocate.Key.{name as itself}
use Rattle.moka_deque.proofs.raw.block.allocate.Statement.{statement}
use Rattle.moka_deque.proofs.raw.block.allocate.Code as code

pub allocate_spec : {M : Type 1} → statement M
allocate_spec 𝓤 𝓛 𝓜 𝓡 wired X Y W LX LY LW g d dd met met' =
    let E = at_types X LX Y LY W LW g d dd in let 𝓣 = tables 𝓤 𝓛.H 𝓜 𝓡 𝓡.env in let body = inst_fn (args E) code.function in
    let Out : RattleType = Result.the_row (Bl E) AllocError.the_row in
    looks E inside_allocator (RA E) [] (λ _. Out) 𝓛 𝓜 𝓡 (λ _ _ _. wants_nothing 𝓤) (λ _ a _ r. fact 𝓤 (IfOk r (λ s. s.alloc ≡ a)))
    (itself (args E)) body (code.unfolded 𝓤 𝓛.H 𝓜 𝓡 wired (X, (Y, (W, tt))) d dd) (λ κs qs short within rb ro a xs Post _ leave.
    let Call = Takes E.al 𝓛 𝓜.mem 𝓡.returns in let z : Call.Ghost = asking E 𝓛 𝓜.mem 𝓡.returns κs.0 qs.0 (rb, ro) a in
    qed 𝓛 (‵ (hidden_shr (RA E) κs.0 a rb ro) ∷ ‵ (flft κs.0 qs.0) ∷ raw (toks 𝓛 3 κs.1 qs.1) ∷ ‵ (owns [] xs tt) ∷ []) ∵
    enter ! _ _ _ _ _ $ alloc_all ! (λ locals. pass_all ! refl ((tt, tt), tt) $
    let both : Body = head (after 1 body.body) in
    let Then : After 𝓤 𝓛.H = any_q (after_seq 𝓤 𝓛.H (Wp 𝓤 𝓛.H 𝓣.C 𝓣.Λ (env body.locals locals) (after 2 body.body)
    (at_return 𝓤 𝓛.H (env body.locals locals) Post)) (at_return 𝓤 𝓛.H (env body.locals locals) Post)) in
    use2 𝓛 (raw (Call.pre z)) (asks E 𝓛 𝓜.mem 𝓡.returns κs.0 qs.0 (rb, ro) a (Incl-trans short.0 within.1.1.0)) $
    calls_at ! (framed 𝓤 𝓛.H 𝓜 𝓣) Call (met.allocate dd) z (and_then ! (get ! refl) (and_then ! (size_word !) (and_then ! (align_word !) (no_more !)))) (λ v.
    use1 𝓛 (later (raw (Answered E.al 𝓛 𝓜.mem 𝓡.returns a (asked_type E) v) ⊛ ‵ (flft κs.0 qs.0)))
    (Takes-gives E.al 𝓛 𝓜.mem 𝓡.returns κs.0 qs.0 (rb, ro) a (bytes E) (alignment E) (asked_type E) v) $ await ! tt $ split ! $
    answers E.al ! 𝓜.mem 𝓡.returns a (asked_type E) v
    -- a block came
    (λ b o came.
    let p : Ptr = block_ptr b o in let got : (Bl E).Denot = record { ptr = p; alloc = a } in let ok : Val = live 0 (vcons (word p) vnil) in let typed =
    first_Good (layout (Bl E)) (word p) (word-Good [] p) in
    lands_as ! came refl (Answer-typed true b o) $ first ! $ switches_on ! (get_tag ! (vrt ! refl (fld ! refl (stop !))) (whole !)) $
    exec ! 𝓣.C 𝓣.Λ (env body.locals locals) (arm_body 0 both) Then $
    sets ! (of_opd ! (get_in ! (vrt ! refl (fld ! refl (stop !))) (in_variant ! 0 0 refl refl (whole !)))) refl (tt, tt) $
    sets ! (of_opd ! (get ! refl)) refl (tt, tt) $
    sets ! (agg ! (and_then ! (get ! refl) (no_more !))) refl (word-Good [] p) $
    sets_last ! (agg ! (and_then ! (lit ! tt) (and_then ! (get ! refl) (no_more !)))) refl typed $
    exec ! 𝓣.C 𝓣.Λ (env body.locals locals) (after 2 body.body) (at_ret _ Post) $ sets ! (of_opd ! (get ! refl)) refl typed $
    use2 𝓛 (‵ (Blank E a p)) (blank_of_block E 𝓛 a b o) $ word_made ! p $ fjoin ! $
    use1 𝓛 (‵ (Out.own_val (Ok got) (ok ∷ []))) (ok_of 𝓛 (Bl E) AllocError.the_row got (word p)) $
    returns ! (look_at ! 0 refl) $ free_all ! refl $ keep ! (0 ∷ 1 ∷ 2 ∷ []) $ states ! refl $ move ! (1 ∷ 2 ∷ 3 ∷ 0 ∷ []) $ by ! (leave (Ok got) ok))
    -- none came
    (λ refused.
    let Refusal : RattleType = Struct (Declared.shape AllocError.the_type) in let none : Val = live 1 (vcons (vstruct vnil) vnil) in
    lands_as ! refused refl (Answer-typed false 0 0) $ first ! $ switches_on ! (get_tag ! (vrt ! refl (fld ! refl (stop !))) (whole !)) $
    exec ! 𝓣.C 𝓣.Λ (env body.locals locals) (arm_body 1 both) Then $
    sets ! (of_opd ! (get_in ! (vrt ! refl (fld ! refl (stop !))) (in_variant ! 1 0 refl refl (whole !)))) refl (tt, tt) $
    sets_last ! (agg ! (and_then ! (lit ! tt) (and_then ! (get ! refl) (no_more !)))) refl (tt, (record { fits = lit< tt }, (tt, tt))) $
    exec ! 𝓣.C 𝓣.Λ (env body.locals locals) (after 2 body.body) (at_ret _ Post) $
    sets ! (of_opd ! (get ! refl)) refl (tt, (record { fits = lit< tt }, (tt, tt))) $
    owned ! Refusal (Is Refusal) (Struct-Makes 𝓛 (Declared.shape AllocError.the_type) tt) tt (vstruct vnil ∷ []) (tt, (refl, tt)) $
    use1 𝓛 (‵ (Out.own_val (Err (record {})) (none ∷ []))) (err_of 𝓛 (Bl E) AllocError.the_row (record {}) (vstruct vnil)) $
    returns ! (look_at ! 0 refl) $ free_all ! refl $ keep ! (0 ∷ 1 ∷ 2 ∷ []) $ states ! tt $ move ! (1 ∷ 2 ∷ 3 ∷ 0 ∷ []) $
    by ! (leave (Err (record {})) none)))))
