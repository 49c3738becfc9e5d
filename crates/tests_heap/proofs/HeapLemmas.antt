-- What the walks of `allocate` and `deallocate` share. Assumes `Logic`.
--     Heap, Tally, shown, at_heap      the rows of a heap and of its tally, a tally behind a `&`, and what a heap's methods are generic over
--     goes_heap, goes_word, goes_ptr      of a `&` to a heap, a number and a pointer, nothing is left at the return
--     Opened, opens           what a call on a `&` to a heap begins with: its two fields, the tally twice, since `allocate` asks it twice
--     Asking, Counting        the contracts of `refuses`, and of `hold` and `give_back`, which have one
--     asks, told, counts, counted      what each is handed, and what a caller has of it
use mathlib.Core.Path.{◌≡◌, refl, ap}
use mathlib.Core.Bool.{Bool}
use mathlib.Core.List.{List, [], ◌∷◌}
use Prim.Native.Nat.{ℕ, ◌+◌, ◌<◌, ◌^◌}
use seplogic.Ra.Ura.{Ura}
use mir.Syntax.{Args, a_type, dcons, dnil, named, w64}
use mir.Val.{Val, vbool, vint, vptr, vunit}
use base.Logic.{SProp, ent, guard, id⊢}
use base.Fml.{Fml, Lft, Share, flft, ftrue}
use prog.Memory.{align, size, up}
use prog.Model.{Model}
use types.Logic.{Logic, sem}
use types.Kit.{Item, ⋆, ‵, raw, ◌⊛◌, some, later, given, ◌$◌, ◌∵◌, !, qed, done, move, keep, drop}
use types.Kit.{use1, split, join, pick, await, check, show, fsplit, fjoin, feq_i, feq_l, updating, now}
use contract.Running.{Running}
use denote.Builtin.{RawPtr, bool, unit, usize}
use denote.Exit.{yes}
use denote.Memory.{hidden_shr}
use denote.Opens.{shr_dup, unhide}
use denote.Param.{bounded, param}
use denote.Plain.{uint_Makes}
use denote.RattleType.{RattleType, Denots, Valss, owns}
use denote.Ref.{Bor, ShrRef, shr_vals}
use denote.Signature.{Slot, plain, shr_ref_to}
use denote.Steps.{nothing, only, owned}
use denote.Triple.Clauses.{Lasts, lasts}
use denote.Triple.Spec.{triple_of}
use denote.Triple.Statement.{Contract}
use denote.Triple.Walked.{Goes, Goes-dropped, stay_dropped}
use Rattle.std.proofs.alloc.Calls.{Al, α, seen}
use Rattle.tests_heap.specs.contracts.heap.RefusingHeap as TheHeap
use Rattle.tests_heap.specs.contracts.tally.Tally as TheTally
use Rattle.tests_heap.specs.contracts.tally.Tally.refuses as Refuses
use Rattle.tests_heap.specs.contracts.tally.Tally.hold as Hold
use Rattle.tests_heap.proofs.tally.Tally.TheLaws as TallyLaws

abbrev pub Tally : RattleType
Tally = TheTally.the_row

abbrev pub shown : Lft → ℕ × ℕ → Tally.Denot → Fml
shown κ p t = hidden_shr Tally κ t p.0 p.1

module _ {M : Type 1} {𝓤 : Ura M} (𝓛 : Logic 𝓤) where
  pub goes_word : Goes 𝓛 2 (plain (λ _. usize)) yes (stay_dropped (plain (λ _. usize)) yes)
  goes_word = Goes-dropped 𝓛 2 (plain (λ _. usize)) yes (λ κs x w. refl)

  pub goes_ptr : Goes 𝓛 2 (plain (λ _. RawPtr)) yes (stay_dropped (plain (λ _. RawPtr)) yes)
  goes_ptr = Goes-dropped 𝓛 2 (plain (λ _. RawPtr)) yes (λ κs x w. refl)

module _ (Z : Al) where
  abbrev pub Heap : RattleType
  Heap = TheHeap.the_row (param 0 Z.row)

  abbrev pub at_heap : Args
  at_heap = bounded (a_type ∷ []) (Z.row, tt) (dcons Z.d (dcons Z.drops dnil))

  abbrev pub by_ref : Slot 2
  by_ref = shr_ref_to (0 ∷ []) tt (plain (λ _. Heap))

  pub goes_heap : {M : Type 1} {𝓤 : Ura M} (𝓛 : Logic 𝓤) → Goes 𝓛 2 by_ref yes (stay_dropped by_ref yes)
  goes_heap 𝓛 = Goes-dropped 𝓛 2 by_ref yes (λ κs x w. refl)

  -- where the fields of the heap at an address lie
  abbrev pub inner_of : ℕ × ℕ → ℕ × ℕ
  inner_of p = (p.0, p.1 + up (align (α Z)) 0)

  abbrev pub tally_of : ℕ × ℕ → ℕ × ℕ
  tally_of p = (p.0, p.1 + up 8 (up (align (α Z)) 0 + size (α Z)))

  module _ {M : Type 1} {𝓤 : Ura M} (𝓛 : Logic 𝓤) (κ : Lft) (q : Share) (idle : SProp 𝓤) where
    abbrev pub Opened : ℕ × ℕ → Heap.Denot → Item 𝓤
    Opened p h =
        ‵ (shown κ (tally_of p) h.tally) ⊛ ‵ (flft κ q) ⊛ ‵ (shown κ (tally_of p) h.tally) ⊛ ‵ (seen Z κ (inner_of p) h.inner) ⊛ raw idle

    pub opens : (rows : List RattleType) (r : Bor Heap.Denot) (xs : Denots rows) (vss : Valss rows)
        → ent 𝓤 (⋆ 𝓛 (((‵ (flft κ q) ⊛ raw idle) ⊛ ‵ (owns (ShrRef (named 0) κ Heap ∷ rows) (r, xs) (shr_vals r, vss))) ∷ []))
        (⋆ 𝓛 (Opened r.ref_ptr r.now ∷ []))
    opens rows r xs vss =
        let p : ℕ × ℕ = r.ref_ptr in let t : Tally.Denot = r.now.tally in
        qed 𝓛 (((‵ (flft κ q) ⊛ raw idle) ⊛ ‵ (owns (ShrRef (named 0) κ Heap ∷ rows) (r, xs) (shr_vals r, vss))) ∷ []) ∵
        split ! $ split ! $ move ! (2 ∷ []) $ fsplit ! $ fsplit ! $ drop ! $ unhide ! $ fsplit ! $ fsplit ! $ move ! (1 ∷ []) $ fsplit ! $
        use1 𝓛 (‵ (shown κ (tally_of p) t)) (id⊢ 𝓤 _) $ shr_dup ! Tally TallyLaws.the_row_laws.shr_laws t (tally_of p).0 (tally_of p).1 κ $
        -- [the tally; again; the end of the fields; the inner heap; the place; the other arguments; the token; the idle tokens]
        keep ! (0 ∷ 6 ∷ 1 ∷ 3 ∷ 7 ∷ []) $ done !

module _ {M : Type 1} {𝓤 : Ura M} (𝓛 : Logic 𝓤) (𝓜 : Model 𝓤 𝓛.H) (𝓡 : Running 𝓤 𝓛.H 𝓜) where
  open 𝓛 use {H}

  abbrev pub Asking : Contract 𝓤
  Asking = triple_of 𝓛 Refuses.signature (Refuses.spec 𝓛 𝓜.mem 𝓡.returns)

  abbrev pub Counting : Contract 𝓤
  Counting = triple_of 𝓛 Hold.signature (Hold.spec 𝓛 𝓜.mem 𝓡.returns)

  module _ (κ : Lft) (q : Share) (p : ℕ × ℕ) (t : Tally.Denot) where
    abbrev pub asking : Asking.Ghost
    asking = (((κ, tt), (q, tt), tt, (record { ref_ptr = p; now = t }, tt), (vptr p.0 p.1 ∷ [], tt)), tt)

    abbrev pub counting : ℕ → Counting.Ghost
    counting n = (((κ, tt), (q, tt), tt, (record { ref_ptr = p; now = t }, (n, tt)), (vptr p.0 p.1 ∷ [], (vint w64 n ∷ [], tt))), tt)

    pub asks : ent 𝓤 (⋆ 𝓛 (‵ (shown κ p t) ∷ ‵ (flft κ q) ∷ [])) (Asking.pre asking)
    asks =
        qed 𝓛 (‵ (shown κ p t) ∷ ‵ (flft κ q) ∷ []) ∵ feq_i ! _ (vptr p.0 p.1 ∷ []) _ refl $ fjoin ! $
        nothing ! $ move ! (1 ∷ 0 ∷ []) $ fjoin ! $ nothing ! $ move ! (2 ∷ 0 ∷ []) $ join ! $ join ! $
        nothing ! $ move ! (1 ∷ 0 ∷ []) $ done !

    pub counts : (n : ℕ) → n < 2 ^ 64 → ent 𝓤 (⋆ 𝓛 (‵ (shown κ p t) ∷ ‵ (flft κ q) ∷ [])) (Counting.pre (counting n))
    counts n fits =
        qed 𝓛 (‵ (shown κ p t) ∷ ‵ (flft κ q) ∷ []) ∵ feq_i ! _ (vptr p.0 p.1 ∷ []) _ refl $ fjoin ! $
        nothing ! $ owned ! usize _ (uint_Makes 𝓛 w64) n (vint w64 n ∷ []) (refl, fits) $ fjoin ! $ move ! (1 ∷ 0 ∷ []) $ fjoin ! $
        nothing ! $ move ! (2 ∷ 0 ∷ []) $ join ! $ join ! $ nothing ! $ move ! (1 ∷ 0 ∷ []) $ done !

    -- the tally answers yes or no
    pub told : (v : Val) → ent 𝓤 (Asking.post asking v) (H.⇛ (⋆ 𝓛 (some (λ (y : Bool). given (v ≡ vbool y) (‵ (flft κ q))) ∷ [])))
    told v =
        qed 𝓛 (raw (Asking.post asking v) ∷ []) ∵ updating ! $
        use1 𝓛 (later (some (λ (y : Bool). ((‵ (flft κ q) ⊛ ‵ ftrue) ⊛ ‵ (bool.own_val y (v ∷ [])))
        ⊛ some (λ (ws : Lasts Refuses.ended asking.0.0 asking.0.3). ‵ (lasts Refuses.ended asking.0.0 asking.0.3 ws) ⊛ ‵ ftrue)))) (id⊢ 𝓤 _) $
        await ! tt $ pick ! (λ y. split ! $ split ! $ split ! $ keep ! (0 ∷ 2 ∷ []) $ move ! (1 ∷ 0 ∷ []) $ feq_l ! (λ is.
        now ! $ show ! (λ (z : Bool). guard 𝓤 (v ≡ vbool z) (sem 𝓛 (flft κ q))) y $ check ! (ap only is) $ done !))

    pub counted : (n : ℕ) (v : Val) → ent 𝓤 (Counting.post (counting n) v) (H.⇛ (⋆ 𝓛 (given (v ≡ vunit) (‵ (flft κ q)) ∷ [])))
    counted n v =
        let y : Counting.Ghost = counting n in
        qed 𝓛 (raw (Counting.post y v) ∷ []) ∵ updating ! $
        use1 𝓛 (later (some (λ (r : Unit {0}). ((‵ (flft κ q) ⊛ ‵ ftrue) ⊛ ‵ (unit.own_val r (v ∷ [])))
        ⊛ some (λ (ws : Lasts Hold.ended y.0.0 y.0.3). ‵ (lasts Hold.ended y.0.0 y.0.3 ws) ⊛ ‵ ftrue)))) (id⊢ 𝓤 _) $
        await ! tt $ pick ! (λ _. split ! $ split ! $ split ! $ keep ! (0 ∷ 2 ∷ []) $ move ! (1 ∷ 0 ∷ []) $ feq_l ! (λ is.
        now ! $ check ! (ap only is) $ done !))
