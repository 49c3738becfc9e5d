-- The machine values of a `Handle`. Assumes `Logic`.
use base.Fml.{Fml}
use Rattle.std.proofs.Common.{◌≡◌, List, [], ◌∷◌, ◌++◌, refl, subst}
use mathlib.Core.Bool.{Bool, true, false, ◌&&◌}
use lib.Dec.{T}
use seplogic.Ra.Ura.{Ura}
use mir.Syntax.{impl, tnil, dnil, ty_ptr}
use mir.Val.{Val, vbool, vstruct, vcons, vnil, of_list, has_ty, WT}
use types.Logic.{Logic}
use types.Kit.{Item, Goal, Seq, Step, step, ‵, ◌$◌, move, drop, fsplit, fjoin, fpick, fpack, feq_i, feq_l}
use denote.RattleType.{RattleType, Valss}
use denote.Builtin.{RawPtr, bool}
use denote.Param.{layout}
use denote.RawPtr.{Ptr, ptr_val}
use denote.Steps.{nothing}
use denote.Struct.Struct.{within}
use denote.Struct.Owning.{shape}
use Rattle.core.proofs.alloc.Calls.{Al, handle_tells}
use Rattle.core.proofs.atomic.Steps.{Ptr-Good}
use Rattle.core.proofs.cell.Inside.{Good}
use Rattle.std.specs.contracts.alloc.Global as heap
use Rattle.std.proofs.alloc.Global.TheLaws as heap_laws
use Rattle.std.specs.declared.alloc.Global.{Global}
use Rattle.std.specs.contracts.impls.GlobalAllocator.TheImpl.{ghosts}
use Rattle.std.specs.declared.option.Option.{Option}
use Rattle.std.specs.declared.option.Option.TheVariants.{None, Some}
use Rattle.std_alloc.specs.Box.Ownership.{box_owns}
use Rattle.mini_moka_c.proofs.RawBoxValues.{both_tt}
use Rattle.mini_moka_c.specs.declared.handle.AnyCache.{AnyCache}
use Rattle.mini_moka_c.specs.declared.handle.Handle.{Handle}
use Rattle.mini_moka_c.specs.contracts.handle.AnyCache as kept
use Rattle.mini_moka_c.specs.contracts.handle.Handle as handle
use Rattle.mini_moka_c.specs.Held.{held}

abbrev pub Z : RattleType
Z = heap.the_row

abbrev pub al : Al
al = record { row = Z; laws = heap_laws.the_row_laws; g = ghosts; d = impl [] tnil dnil; drops = impl [] tnil dnil }

abbrev pub word : Ptr → Bool → Val → Val
word p c h = vstruct (vcons (ptr_val p) (vcons (vbool c) (vcons h vnil)))

pub word_good : (p : Ptr) (c : Bool) (h : Val) → Good (layout Z) h → T (has_ty ty_ptr (ptr_val p) && (has_ty (layout Z) h && true)) × WT (word p c h)
word_good p c h fits = (both_tt (has_ty ty_ptr (ptr_val p)) (has_ty (layout Z) h) (Ptr-Good p).0 fits.0, ((Ptr-Good p).1, (tt, (fits.1, tt))))

module _ {M : Type 1} {𝓤 : Ura M} {𝓛 : Logic 𝓤} {K : Type 0} {Γ : List (Item 𝓤)} {G : Goal 𝓤 𝓛.H} where
  pub handle_out : K → (d : Handle) (vs : List Val)
      → ((h : Val) → vs ≡ word d.at d.is_open h ∷ [] → Good (layout Z) h → Seq K 𝓛 (‵ (held d.is_open d.value (box_owns
      (ghosts.dealloc_token d.alloc) kept.the_row d.at)) ∷ ‵ (Z.own_val d.alloc (h ∷ [])) ∷ Γ) G)
      → Seq K 𝓛 (‵ ((handle.the_row).own_val d vs) ∷ Γ) G
  handle_out t d vs k =
      fsplit t $ fpick t (λ vss. fsplit t $ feq_l t (λ ev. fsplit t $ feq_l t (λ ep. fsplit t $ feq_l t (λ ec. fsplit t $
      handle_tells al t d.alloc vss.1.1.0 (λ h ea fits. move t (1 ∷ []) $ drop t $ move t (1 ∷ []) $
      k h (subst (λ (ws : List Val). vs ≡ vstruct (of_list (ptr_val d.at ∷ vbool d.is_open ∷ (ws ++ []))) ∷ []) ea
      (subst (λ (cs : List Val). vs ≡ vstruct (of_list (ptr_val d.at ∷ (cs ++ (vss.1.1.0 ++ [])))) ∷ []) ec
      (subst (λ (ps : List Val). vs ≡ vstruct (of_list (ps ++ (vss.1.0 ++ (vss.1.1.0 ++ [])))) ∷ []) ep ev))) fits)))))

  pub handle_in : K → (p : Ptr) (c : Bool) (h : Val) (a : Global) (x : Option AnyCache)
      → Step K 𝓛 (‵ ((handle.the_row).own_val (record { at = p; is_open = c; alloc = a; value = x }) (word p c h ∷ [])) ∷ Γ) G
      (‵ (held c x (box_owns (ghosts.dealloc_token a) kept.the_row p)) ∷ ‵ (Z.own_val a (h ∷ [])) ∷ Γ) G
  handle_in t p c h a x = step (λ s. let v : Val = word p c h in
      nothing t $ move t (2 ∷ 0 ∷ []) $ fjoin t $ feq_i t (List Val) (vbool c ∷ []) (vbool c ∷ []) refl $ fjoin t $
      feq_i t (List Val) (ptr_val p ∷ []) (ptr_val p ∷ []) refl $ fjoin t $
      feq_i t (List Val) (v ∷ []) (v ∷ []) refl $ fjoin t $
      fpack t (Valss (RawPtr ∷ bool ∷ Z ∷ [])) (within (shape handle.the_type) (p, (c, (((tt, tt), tt), tt))) (v ∷ [])) (
        ptr_val p ∷ [],
        (
          vbool c ∷ [],
          (h ∷ [], tt),
        ),
      ) $ fjoin t $ s)

  -- a handle is closed, or it is open and owns a value
  pub held_is : K → (c : Bool) (x : Option AnyCache) (own : AnyCache → Fml)
      → (c ≡ false → x ≡ None → Seq K 𝓛 Γ G) → ((y : AnyCache) → c ≡ true → x ≡ Some y → Seq K 𝓛 (‵ (own y) ∷ Γ) G) → Seq K 𝓛 (‵ (held c x own) ∷ Γ) G
  held_is t true (Some y) own shut kept-open = kept-open y refl refl
  held_is t true None own shut kept-open = fpick t (λ e. absurd e)
  held_is t false (Some y) own shut kept-open = fpick t (λ e. absurd e)
  held_is t false None own shut kept-open = drop t $ shut refl refl
