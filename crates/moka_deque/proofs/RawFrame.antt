-- How the walks over nodes begin and end: they prove the contract that the source states, by `proved` of `std`. Assumes `Logic`.
--     at_types        the rows of a call, of the types that its statement binds
--     Whole           a value that a call takes whole: its machine value is told, and at the call's end nothing is had of it.
--                     Lists of them have slots, machine values and laws below; `place`, `blank`, .. are the owners of a node
--     looks           the frame of a call on a `&` and such values:   the walk begins with what the `&` shows, its token and what the values own
--     changes         on a `&mut`:   with the reference's value, its borrow, its token and what the values own
--     lends           on a `&mut` that goes into the result, a `&mut` to a part
--     takes           on such values alone.        puts      on one of them and a value of a type parameter
-- A frame gives the walk `leave`, by which it ends: with the token, the result and what the `ensures` say. The tokens of the types' own lifetimes are idle.
use mathlib.Core.Path.{refl}
use mathlib.Core.List.{List, [], ◌∷◌, ◌++◌}
use Prim.Native.Nat.{ℕ}
use seplogic.Ra.Ura.{Ura}
use mir.Syntax.{Dict, Fn, Callee, named}
use mir.Val.{Val, vptr}
use base.Logic.{SProp, ent, sep, emp, via, fst∗}
use base.Fml.{Lft, GName, ftrue, flft, fobs, fbor}
use prog.Model.{Model}
use prog.Wp.{WpFn, Closed}
use types.Logic.{Logic, sem}
use types.SemTy.{Body as Borrowed}
use types.Kit.{Item, Goal, Step, prop, ⋆, ‵, raw, ◌⊛◌, ◌$◌, ◌∵◌, !, qed, by, move, keep, drop, use0, split, join, fsplit, fsplit3, fjoin, fjoin3}
use types.Kit.{feq_i, rewrite, regoal, suffices, frame, done}
use contract.Monad.{fact, fact_i}
use contract.Lifetimes.{Within, Outlives, Lfts, Shares, AllOutlive, toks}
use contract.Running.{Running, MachineTables, tables}
use denote.Exit.{Last, yes, no}
use denote.Laws.{Is, Tells, Ises, Spells, Tellss, valss}
use denote.Memory.{mem, hidden_shr}
use denote.RattleType.{RattleType, Denots, Valss, flat, owns}
use denote.Param.{param, layout}
use denote.Param.Laws.{Laws, param_laws}
use denote.Ref.{MutBor, ShrRef, MutRef, shr_vals, shr_Tells, mut_vals, mut_Tells}
use denote.Signature.{Slot, plain, shr_ref_to, mut_ref_to, types_at}
use denote.Steps.{nothing}
use denote.Triple.Carry.{AllWithin, insides, insides_out}
use denote.Triple.Clauses.{Ended, Clauses, closing}
use denote.Triple.Entry.{on_entry}
use denote.Triple.End.{Kepts, Fins}
use denote.Triple.Spec.{Meets}
use denote.Triple.Walked.{Stays, Goes, AllGo, needs, stay_dropped, stay_ref, fits_of, has_of, walk_of, Goes-dropped, Goes-ref, Goes-spent_ref}
use Rattle.core.specs.declared.alloc.Allocator.{Ghosts}
use Rattle.core.proofs.alloc.Calls.{Goes-blank}
use Rattle.std.proofs.raw_atomic.Walks.{proved, proved_at, leaves}
use Rattle.lru.proofs.Memory.{tells}
use Rattle.std_alloc.proofs.RcSteps.{Good, word}
use Rattle.moka_deque.proofs.RawMemory.{Two, RK, RV, RA, Lr, Np, Bl, Rm, Dt}
use Rattle.moka_deque.proofs.raw.block.NodePtr.TheLaws as NodePtr
use Rattle.moka_deque.proofs.raw.block.Blank.TheLaws as Blank
use Rattle.moka_deque.proofs.raw.block.SpareNode.TheLaws as SpareNode
use Rattle.moka_deque.proofs.raw.block.Detached.TheLaws as Detached
use Rattle.moka_deque.proofs.raw.list.List.TheLaws as TheList

abbrev pub at_types : (X : RattleType) → Laws X → (Y : RattleType) → Laws Y → (W : RattleType) → Laws W → Ghosts W.Denot → Dict → Dict → Two
at_types X LX Y LY W LW g d dd = record { id = X; id_laws = LX; element = Y; element_laws = LY; al = record { row = W; laws = LW; g = g; d = d; drops = dd } }

-- what a `requires` says beside the facts on the types' lifetimes: a fact, or nothing
pub record Need {M : Type 1} (𝓤 : Ura M) : Type 2 where
  pub pre : SProp 𝓤
  pub told : Type 0
  pub learn : {P Q : SProp 𝓤} → (told → ent 𝓤 P Q) → ent 𝓤 (sep 𝓤 P pre) Q

module _ {M : Type 1} (𝓤 : Ura M) where
  abbrev pub wants : Type 0 → Need 𝓤
  wants φ = record { pre = fact 𝓤 φ; told = φ; learn = λ {P} {Q} k. needs 𝓤 φ P k }

  abbrev pub wants_nothing : Need 𝓤
  wants_nothing = record { pre = emp 𝓤; told = Unit {0}; learn = λ {P} {Q} k. via 𝓤 P (fst∗ 𝓤 P (emp 𝓤)) (k tt) }

pub record Whole : Type 2 where
  pub row : RattleType
  pub vals : row.Denot → List Val
  pub tells : Tells row (Is row) vals
  pub last : (x : row.Denot) → Last (row.exit no) x
  pub goes : {M : Type 1} {𝓤 : Ura M} (𝓛 : Logic 𝓤) (n : ℕ) → Goes 𝓛 n (plain (λ _. row)) no (stay_dropped (plain (λ _. row)) no)

-- where a node or an end lies, and the owners of one
module _ (E : Two) where
  abbrev of_id : Laws (RK E)
  of_id = param_laws 0 E.id E.id_laws

  abbrev of_element : Laws (RV E)
  of_element = param_laws 1 E.element E.element_laws

  abbrev of_al : Laws (RA E)
  of_al = param_laws 2 E.al.row E.al.laws

  abbrev pub place : Whole
  place = record {
    row = Np E;
    vals = λ p. word p.ptr ∷ [];
    tells = (NodePtr.lowers (RK E) (RV E) (RA E) of_id of_element of_al).val_is;
    last = λ _. tt;
    goes = λ 𝓛 n. Goes-blank 𝓛 n (plain (λ _. Np E)) no (λ κs x w. tt);
  }

  abbrev pub blank : Whole
  blank = record {
    row = Bl E;
    vals = λ p. word p.ptr ∷ [];
    tells = (Blank.lowers (RK E) (RV E) (RA E) E.al.g of_id of_element of_al).val_is;
    last = λ _. tt;
    goes = λ 𝓛 n. Goes-blank 𝓛 n (plain (λ _. Bl E)) no (λ κs x w. tt);
  }

  abbrev pub spare : Whole
  spare = record {
    row = Rm E;
    vals = λ p. word p.ptr ∷ [];
    tells = (SpareNode.lowers (RK E) (RV E) (RA E) E.al.g of_id of_element of_al).val_is;
    last = λ _. tt;
    goes = λ 𝓛 n. Goes-blank 𝓛 n (plain (λ _. Rm E)) no (λ κs x w. tt);
  }

  abbrev pub detached : Whole
  detached = record {
    row = Dt E;
    vals = λ p. word p.ptr ∷ [];
    tells = (Detached.lowers (RK E) (RV E) (RA E) E.al.g of_id of_element of_al).val_is;
    last = λ _. tt;
    goes = λ 𝓛 n. Goes-blank 𝓛 n (plain (λ _. Dt E)) no (λ κs x w. tt);
  }

  abbrev pub whole_list : Whole
  whole_list = record {
    row = Lr E;
    vals = λ l. (TheList.lowers (RK E) (RV E) (RA E) E.al.g of_id of_element of_al).lowered l ∷ [];
    tells = (TheList.lowers (RK E) (RV E) (RA E) E.al.g of_id of_element of_al).val_is;
    last = λ _. tt;
    goes =
        λ 𝓛 n. Goes-blank 𝓛 n (plain (λ _. Lr E)) no (λ κs x w. tt);
  }

-- their slots, of which each is given up
module _ (n : ℕ) where
  abbrev pub slots : List Whole → List (Slot n)
  slots [] = []
  slots (w ∷ ws) = plain (λ _. w.row) ∷ slots ws

  abbrev pub kepts : (ws : List Whole) → Kepts (slots ws)
  kepts [] = tt
  kepts (w ∷ ws) = (no, kepts ws)

  abbrev pub gone : (ws : List Whole) → Stays (slots ws) (kepts ws)
  gone [] = tt
  gone (w ∷ ws) = (stay_dropped (plain (λ _. w.row)) no, gone ws)

  pub all_go : {M : Type 1} {𝓤 : Ura M} (𝓛 : Logic 𝓤) (ws : List Whole) → AllGo 𝓛 n (slots ws) (kepts ws) (gone ws)
  all_go 𝓛 [] = tt
  all_go 𝓛 (w ∷ ws) = (w.goes 𝓛 n, all_go 𝓛 ws)

  module _ (κs : Lfts n) where
    abbrev pub Rows : List Whole → List RattleType
    Rows ws = types_at (slots ws) κs

    abbrev pub spelled : (ws : List Whole) → Spells (Rows ws)
    spelled [] = tt
    spelled (w ∷ ws) = (w.vals, spelled ws)

    pub all_told : (ws : List Whole) → Tellss (Rows ws) (Ises (Rows ws)) (spelled ws)
    all_told [] = tt
    all_told (w ∷ ws) = (w.tells, all_told ws)

    abbrev pub lasts : (ws : List Whole) (xs : Denots (Rows ws)) → Fins κs (slots ws) (kepts ws) xs
    lasts [] xs = tt
    lasts (w ∷ ws) xs = (w.last xs.0, lasts ws xs.1)

    abbrev pub fit : (ws : List Whole) (xs : Denots (Rows ws)) → fits_of κs (slots ws) (kepts ws) (gone ws) xs (lasts ws xs)
    fit [] xs = tt
    fit (w ∷ ws) xs = (tt, fit ws xs.1)

    pub nothing_had : {M : Type 1} {𝓤 : Ura M} (𝓛 : Logic 𝓤) (ws : List Whole) (xs : Denots (Rows ws)) (vss : Valss (Rows ws))
        → ent 𝓤 (emp 𝓤) (sem 𝓛 (has_of κs (slots ws) (kepts ws) (gone ws) xs (lasts ws xs) vss))
    nothing_had 𝓛 [] xs vss = qed 𝓛 [] ∵ nothing ! $ done !
    nothing_had 𝓛 (w ∷ ws) xs vss = qed 𝓛 [] ∵ use0 𝓛 (‵ (has_of κs (slots ws) (kepts ws) (gone ws) xs.1 (lasts ws xs.1) vss.1))
        (nothing_had 𝓛 ws xs.1 vss.1) $ nothing ! $ fjoin ! $ done !

-- the call's own lifetime lies within that of type k
abbrev inside : (k : ℕ) → Within 4 k → Outlives 4
inside k is = record { long = k; long_ok = is; short = named 0; short_ok = tt }

-- and within that of every type
abbrev pub inside_all : List (Outlives 4)
inside_all = inside 1 tt ∷ inside 2 tt ∷ inside 3 tt ∷ []

abbrev pub inside_allocator : List (Outlives 4)
inside_allocator = inside 3 tt ∷ []

module _ (E : Two) where
  -- what the types' own lifetimes lie within
  abbrev pub lives : Lfts 3
  lives = (E.id.lives, (E.element.lives, (E.al.row.lives, tt)))

  module _ (outlives : List (Outlives 4)) (S : RattleType) (ws : List Whole) (R : Lft → RattleType) where
    abbrev seen : Slot 4
    seen = shr_ref_to (0 ∷ []) tt (plain (λ _. S))

    abbrev lent : Slot 4
    lent = mut_ref_to (0 ∷ []) tt (plain (λ _. S))

    abbrev pub Looks : Ended
    Looks = record {
      signature = record { lifetimes = 4; outlives = outlives; params = seen ∷ slots 4 ws; result = plain (λ κs. R κs.0) };
      kept = (yes, kepts 4 ws);
    }

    abbrev pub Changes : Ended
    Changes = record {
      signature = record { lifetimes = 4; outlives = outlives; params = lent ∷ slots 4 ws; result = plain (λ κs. R κs.0) };
      kept = (yes, kepts 4 ws);
    }

    module _ {M : Type 1} {𝓤 : Ura M} (𝓛 : Logic 𝓤) (𝓜 : Model 𝓤 𝓛.H) (𝓡 : Running 𝓤 𝓛.H 𝓜) where
      abbrev 𝓣 : MachineTables 𝓤 𝓛.H 𝓜
      𝓣 = tables 𝓤 𝓛.H 𝓜 𝓡 𝓡.env

      module _ (Asks : (κs : Lfts 4) → S.Denot → Denots (Rows 4 κs ws) → Need 𝓤) where
        module _ (Gives : (κs : Lfts 4) → S.Denot → Denots (Rows 4 κs ws) → (R κs.0).Denot → SProp 𝓤) where
          abbrev looking : Clauses 𝓤 Looks
          looking κs a = record {
            ghost = Unit {0};
            requires = λ _. insides 𝓤 3 κs.1 lives (Asks κs a.0.now a.1).pre;
            ensures = λ _ r _. Gives κs a.0.now a.1 r;
          }

          abbrev looked : Stays Looks.signature.params Looks.kept
          looked = (stay_dropped seen yes, gone 4 ws)

          pub looks : (k : Callee) (e : Fn) → Closed 𝓤 𝓛.H 𝓣.C 𝓣.Λ k e
              → ((κs : Lfts 4) (qs : Shares 4) → AllOutlive 4 outlives κs → AllWithin 3 κs.1 lives
              → (b o : ℕ) (s : S.Denot) (xs : Denots (Rows 4 κs ws)) (Post : Val → SProp 𝓤) → (Asks κs s xs).told
              → ((r : (R κs.0).Denot) (v : Val)
              → ent 𝓤 (⋆ 𝓛 (‵ ((R κs.0).own_val r (v ∷ [])) ∷ ‵ (flft κs.0 qs.0) ∷ raw (toks 𝓛 3 κs.1 qs.1) ∷ raw (Gives κs s xs r) ∷ [])) (Post v))
              → ent 𝓤 (⋆ 𝓛 (‵ (hidden_shr S κs.0 s b o) ∷ ‵ (flft κs.0 qs.0) ∷ raw (toks 𝓛 3 κs.1 qs.1)
              ∷ ‵ (owns (Rows 4 κs ws) xs (valss (Rows 4 κs ws) (spelled 4 κs ws) xs)) ∷ []))
              (WpFn 𝓤 𝓛.H 𝓣.C 𝓣.Λ e (vptr b o ∷ flat (Rows 4 κs ws) (valss (Rows 4 κs ws) (spelled 4 κs ws) xs)) Post))
              → Meets 𝓛 Looks.signature (𝓣.C k) (closing 𝓛 Looks looking)
          looks k e closed walk =
              proved 𝓛 Looks looked looking 𝓜 𝓡 (Goes-dropped 𝓛 4 seen yes (λ κs x w. refl), all_go 4 𝓛 ws) k e closed
              (λ κs. (shr_vals, spelled 4 κs ws)) (λ κs. (shr_Tells (named 0) κs.0 S, all_told 4 κs ws)) (λ κs qs bounds a _ are.
              let vss : Valss (Rows 4 κs ws) = valss (Rows 4 κs ws) (spelled 4 κs ws) a.1 in
              insides_out 𝓤 3 κs.1 lives (on_entry 𝓛 Looks.signature κs qs a (shr_vals a.0, vss)) (Asks κs a.0.now a.1).pre _
              (λ within. (Asks κs a.0.now a.1).learn (λ asked.
              qed 𝓛 ((‵ (flft κs.0 qs.0) ⊛ raw (toks 𝓛 3 κs.1 qs.1))
              ∷ (‵ ((ShrRef (named 0) κs.0 S).own_val a.0 (shr_vals a.0)) ⊛ ‵ (owns (Rows 4 κs ws) a.1 vss)) ∷ []) ∵
              split ! $ move ! (2 ∷ []) $ split ! $ fsplit ! $ drop ! $ move ! (0 ∷ 2 ∷ 3 ∷ 1 ∷ []) $
              by ! (walk κs qs bounds within a.0.ref_ptr.0 a.0.ref_ptr.1 a.0.now a.1 _ asked (λ r v.
              qed 𝓛 (‵ ((R κs.0).own_val r (v ∷ [])) ∷ ‵ (flft κs.0 qs.0) ∷ raw (toks 𝓛 3 κs.1 qs.1) ∷ raw (Gives κs a.0.now a.1 r) ∷ []) ∵
              suffices ! _ (leaves 𝓛 Looks looked looking ((κs, qs, bounds, a, (shr_vals a.0, vss)), tt) v r (tt, lasts 4 κs ws a.1) (tt, fit 4 κs ws a.1)) $
              move ! (1 ∷ 2 ∷ []) $ join ! $ frame ! $
              use0 𝓛 (‵ (has_of κs (slots 4 ws) (kepts 4 ws) (gone 4 ws) a.1 (lasts 4 κs ws a.1) vss)) (nothing_had 4 κs 𝓛 ws a.1 vss) $ nothing ! $
              fjoin ! $ frame ! $ frame ! $ done !)))))

        module _ (Gives : (κs : Lfts 4) → S.Denot → Denots (Rows 4 κs ws) → (R κs.0).Denot → S.Denot → SProp 𝓤) where
          abbrev changing : Clauses 𝓤 Changes
          changing κs a = record {
            ghost = Unit {0};
            requires = λ _. insides 𝓤 3 κs.1 lives (Asks κs a.0.now a.1).pre;
            ensures = λ _ r w. Gives κs a.0.now a.1 r w.0.now;
          }

          abbrev changed : Stays Changes.signature.params Changes.kept
          changed = (stay_ref (0 ∷ []) tt (plain (λ _. S)), gone 4 ws)

          pub changes : (k : Callee) (e : Fn) → Closed 𝓤 𝓛.H 𝓣.C 𝓣.Λ k e
              → ((κs : Lfts 4) (qs : Shares 4) (b o : ℕ) (γ : GName) (s : S.Denot) (xs : Denots (Rows 4 κs ws)) (Post : Val → SProp 𝓤) → (Asks κs s xs).told
              → ((r : (R κs.0).Denot) (v : Val) (new : S.Denot)
              → ent 𝓤 (⋆ 𝓛 (‵ (fobs γ (S.coded.code new)) ∷ ‵ (fbor κs.0 (Borrowed (mem S) b o γ)) ∷ ‵ (flft κs.0 qs.0) ∷ ‵ ((R κs.0).own_val r (v ∷ []))
              ∷ raw (toks 𝓛 3 κs.1 qs.1) ∷ raw (Gives κs s xs r new) ∷ [])) (Post v))
              → ent 𝓤 (⋆ 𝓛 (‵ (fobs γ (S.coded.code s)) ∷ ‵ (fbor κs.0 (Borrowed (mem S) b o γ)) ∷ ‵ (flft κs.0 qs.0)
              ∷ ‵ (owns (Rows 4 κs ws) xs (valss (Rows 4 κs ws) (spelled 4 κs ws) xs)) ∷ raw (toks 𝓛 3 κs.1 qs.1) ∷ []))
              (WpFn 𝓤 𝓛.H 𝓣.C 𝓣.Λ e (vptr b o ∷ flat (Rows 4 κs ws) (valss (Rows 4 κs ws) (spelled 4 κs ws) xs)) Post))
              → Meets 𝓛 Changes.signature (𝓣.C k) (closing 𝓛 Changes changing)
          changes k e closed walk =
              proved 𝓛 Changes changed changing 𝓜 𝓡 (Goes-ref 𝓛 4 0 tt (plain (λ _. S)), all_go 4 𝓛 ws) k e closed
              (λ κs. (mut_vals, spelled 4 κs ws)) (λ κs. (mut_Tells (named 0) κs.0 S, all_told 4 κs ws)) (λ κs qs bounds a _ are.
              let vss : Valss (Rows 4 κs ws) = valss (Rows 4 κs ws) (spelled 4 κs ws) a.1 in let b : ℕ = a.0.ref_ptr.0 in let o : ℕ = a.0.ref_ptr.1 in
              insides_out 𝓤 3 κs.1 lives (on_entry 𝓛 Changes.signature κs qs a (mut_vals a.0, vss)) (Asks κs a.0.now a.1).pre _
              (λ within. (Asks κs a.0.now a.1).learn (λ asked.
              qed 𝓛 ((‵ (flft κs.0 qs.0) ⊛ raw (toks 𝓛 3 κs.1 qs.1))
              ∷ (‵ ((MutRef (named 0) κs.0 S).own_val a.0 (mut_vals a.0)) ⊛ ‵ (owns (Rows 4 κs ws) a.1 vss)) ∷ []) ∵
              split ! $ move ! (2 ∷ []) $ split ! $ fsplit3 ! $ drop ! $ move ! (0 ∷ 1 ∷ 3 ∷ 2 ∷ []) $
              by ! (walk κs qs b o a.0.ghost_name a.0.now a.1 _ asked (λ r v new.
              qed 𝓛 (‵ (fobs a.0.ghost_name (S.coded.code new)) ∷ ‵ (fbor κs.0 (Borrowed (mem S) b o a.0.ghost_name)) ∷ ‵ (flft κs.0 qs.0)
              ∷ ‵ ((R κs.0).own_val r (v ∷ [])) ∷ raw (toks 𝓛 3 κs.1 qs.1) ∷ raw (Gives κs a.0.now a.1 r new) ∷ []) ∵
              suffices ! _ (leaves 𝓛 Changes changed changing ((κs, qs, bounds, a, (mut_vals a.0, vss)), tt) v r (new, lasts 4 κs ws a.1)
              (tt, fit 4 κs ws a.1)) $
              move ! (2 ∷ 4 ∷ []) $ join ! $ frame ! $ feq_i ! (List Val) (mut_vals a.0) (mut_vals a.0) refl $ fjoin3 ! $
              use0 𝓛 (‵ (has_of κs (slots 4 ws) (kepts 4 ws) (gone 4 ws) a.1 (lasts 4 κs ws a.1) vss)) (nothing_had 4 κs 𝓛 ws a.1 vss) $
              move ! (1 ∷ 0 ∷ []) $ fjoin ! $ frame ! $ frame ! $ done !)))))

  -- on a `&mut` that goes into the result, a `&mut` to a part
  module _ (outlives : List (Outlives 4)) (S : RattleType) (ws : List Whole) (P : RattleType) where
    abbrev handed : Slot 4
    handed = mut_ref_to (0 ∷ []) tt (plain (λ _. S))

    abbrev pub Lends : Ended
    Lends = record {
      signature = record {
        lifetimes = 4;
        outlives = outlives;
        params = handed ∷ slots 4 ws;
        result = mut_ref_to (0 ∷ []) tt (plain (λ _. P));
      };
      kept = (no, kepts 4 ws);
    }

    module _ {M : Type 1} {𝓤 : Ura M} (𝓛 : Logic 𝓤) (𝓜 : Model 𝓤 𝓛.H) (𝓡 : Running 𝓤 𝓛.H 𝓜) (Asks : (κs : Lfts 4) → S.Denot → Denots (Rows 4 κs ws) → Need 𝓤)
        (Gives : (κs : Lfts 4) → MutBor S.Denot → Denots (Rows 4 κs ws) → MutBor P.Denot → SProp 𝓤) where
      abbrev lending : Clauses 𝓤 Lends
      lending κs a = record { ghost = Unit {0}; requires = λ _. insides 𝓤 3 κs.1 lives (Asks κs a.0.now a.1).pre; ensures = λ _ r _. Gives κs a.0 a.1 r }

      abbrev spent : Stays Lends.signature.params Lends.kept
      spent = (stay_dropped handed no, gone 4 ws)

      pub lends : (k : Callee) (e : Fn) → Closed 𝓤 𝓛.H (tables 𝓤 𝓛.H 𝓜 𝓡 𝓡.env).C (tables 𝓤 𝓛.H 𝓜 𝓡 𝓡.env).Λ k e
          → ((κs : Lfts 4) (qs : Shares 4) (s : MutBor S.Denot) (xs : Denots (Rows 4 κs ws)) (Post : Val → SProp 𝓤) → (Asks κs s.now xs).told
          → ((r : MutBor P.Denot) (v : Val)
          → ent 𝓤 (⋆ 𝓛 (‵ ((MutRef (named 0) κs.0 P).own_val r (v ∷ [])) ∷ ‵ (flft κs.0 qs.0) ∷ raw (toks 𝓛 3 κs.1 qs.1) ∷ raw (Gives κs s xs r) ∷ []))
          (Post v))
          → ent 𝓤 (⋆ 𝓛 (‵ (fobs s.ghost_name (S.coded.code s.now)) ∷ ‵ (fbor κs.0 (Borrowed (mem S) s.ref_ptr.0 s.ref_ptr.1 s.ghost_name))
          ∷ ‵ (flft κs.0 qs.0) ∷ ‵ (owns (Rows 4 κs ws) xs (valss (Rows 4 κs ws) (spelled 4 κs ws) xs)) ∷ raw (toks 𝓛 3 κs.1 qs.1) ∷ []))
          (WpFn 𝓤 𝓛.H (tables 𝓤 𝓛.H 𝓜 𝓡 𝓡.env).C (tables 𝓤 𝓛.H 𝓜 𝓡 𝓡.env).Λ e
          (vptr s.ref_ptr.0 s.ref_ptr.1 ∷ flat (Rows 4 κs ws) (valss (Rows 4 κs ws) (spelled 4 κs ws) xs)) Post))
          → Meets 𝓛 Lends.signature ((tables 𝓤 𝓛.H 𝓜 𝓡 𝓡.env).C k) (closing 𝓛 Lends lending)
      lends k e closed walk =
          proved 𝓛 Lends spent lending 𝓜 𝓡 (Goes-spent_ref 𝓛 4 (0 ∷ []) tt (plain (λ _. S)), all_go 4 𝓛 ws) k e closed
          (λ κs. (mut_vals, spelled 4 κs ws)) (λ κs. (mut_Tells (named 0) κs.0 S, all_told 4 κs ws)) (λ κs qs bounds a _ are.
          let vss : Valss (Rows 4 κs ws) = valss (Rows 4 κs ws) (spelled 4 κs ws) a.1 in
          insides_out 𝓤 3 κs.1 lives (on_entry 𝓛 Lends.signature κs qs a (mut_vals a.0, vss)) (Asks κs a.0.now a.1).pre _
          (λ within. (Asks κs a.0.now a.1).learn (λ asked.
          qed 𝓛 ((‵ (flft κs.0 qs.0) ⊛ raw (toks 𝓛 3 κs.1 qs.1))
          ∷ (‵ ((MutRef (named 0) κs.0 S).own_val a.0 (mut_vals a.0)) ⊛ ‵ (owns (Rows 4 κs ws) a.1 vss)) ∷ []) ∵
          split ! $ move ! (2 ∷ []) $ split ! $ fsplit3 ! $ drop ! $ move ! (0 ∷ 1 ∷ 3 ∷ 2 ∷ []) $
          by ! (walk κs qs a.0 a.1 _ asked (λ r v.
          qed 𝓛 (‵ ((MutRef (named 0) κs.0 P).own_val r (v ∷ [])) ∷ ‵ (flft κs.0 qs.0) ∷ raw (toks 𝓛 3 κs.1 qs.1) ∷ raw (Gives κs a.0 a.1 r) ∷ []) ∵
          suffices ! _ (leaves 𝓛 Lends spent lending ((κs, qs, bounds, a, (mut_vals a.0, vss)), tt) v r (tt, lasts 4 κs ws a.1) (tt, fit 4 κs ws a.1)) $
          move ! (1 ∷ 2 ∷ []) $ join ! $ frame ! $
          use0 𝓛 (‵ (has_of κs (slots 4 ws) (kepts 4 ws) (gone 4 ws) a.1 (lasts 4 κs ws a.1) vss)) (nothing_had 4 κs 𝓛 ws a.1 vss) $ nothing ! $ fjoin ! $
          frame ! $ frame ! $ done !)))))

  module _ (ws : List Whole) (R : RattleType) where
    abbrev pub Takes : Ended
    Takes = record { signature = record { lifetimes = 3; outlives = []; params = slots 3 ws; result = plain (λ _. R) }; kept = kepts 3 ws }

    module _ {M : Type 1} {𝓤 : Ura M} (𝓛 : Logic 𝓤) (𝓜 : Model 𝓤 𝓛.H) (𝓡 : Running 𝓤 𝓛.H 𝓜) where
      abbrev 𝓣' : MachineTables 𝓤 𝓛.H 𝓜
      𝓣' = tables 𝓤 𝓛.H 𝓜 𝓡 𝓡.env

      module _ (Asks : (κs : Lfts 3) → Denots (Rows 3 κs ws) → Need 𝓤) (Gives : (κs : Lfts 3) → Denots (Rows 3 κs ws) → R.Denot → SProp 𝓤) where
        abbrev taking : Clauses 𝓤 Takes
        taking κs a = record { ghost = Unit {0}; requires = λ _. insides 𝓤 3 κs lives (Asks κs a).pre; ensures = λ _ r _. Gives κs a r }

        pub takes : (k : Callee) (e : Fn) → Closed 𝓤 𝓛.H 𝓣'.C 𝓣'.Λ k e
            → ((κs : Lfts 3) (qs : Shares 3) (xs : Denots (Rows 3 κs ws)) (Post : Val → SProp 𝓤) → (Asks κs xs).told
            → ((r : R.Denot) (v : Val) → ent 𝓤 (⋆ 𝓛 (‵ (R.own_val r (v ∷ [])) ∷ raw (toks 𝓛 3 κs qs) ∷ raw (Gives κs xs r) ∷ [])) (Post v))
            → ent 𝓤 (⋆ 𝓛 (‵ (owns (Rows 3 κs ws) xs (valss (Rows 3 κs ws) (spelled 3 κs ws) xs)) ∷ raw (toks 𝓛 3 κs qs) ∷ []))
            (WpFn 𝓤 𝓛.H 𝓣'.C 𝓣'.Λ e (flat (Rows 3 κs ws) (valss (Rows 3 κs ws) (spelled 3 κs ws) xs)) Post))
            → Meets 𝓛 Takes.signature (𝓣'.C k) (closing 𝓛 Takes taking)
        takes k e closed walk =
            proved 𝓛 Takes (gone 3 ws) taking 𝓜 𝓡 (all_go 3 𝓛 ws) k e closed (λ κs. spelled 3 κs ws) (λ κs. all_told 3 κs ws) (λ κs qs bounds xs _ are.
            let vss : Valss (Rows 3 κs ws) = valss (Rows 3 κs ws) (spelled 3 κs ws) xs in
            insides_out 𝓤 3 κs lives (on_entry 𝓛 Takes.signature κs qs xs vss) (Asks κs xs).pre _ (λ within. (Asks κs xs).learn (λ asked.
            qed 𝓛 (raw (toks 𝓛 3 κs qs) ∷ ‵ (owns (Rows 3 κs ws) xs vss) ∷ []) ∵ move ! (1 ∷ 0 ∷ []) $
            by ! (walk κs qs xs _ asked (λ r v.
            qed 𝓛 (‵ (R.own_val r (v ∷ [])) ∷ raw (toks 𝓛 3 κs qs) ∷ raw (Gives κs xs r) ∷ []) ∵
            suffices ! _ (leaves 𝓛 Takes (gone 3 ws) taking ((κs, qs, bounds, xs, vss), tt) v r (lasts 3 κs ws xs) (fit 3 κs ws xs)) $
            move ! (1 ∷ []) $ frame ! $ use0 𝓛 (‵ (has_of κs (slots 3 ws) (kepts 3 ws) (gone 3 ws) xs (lasts 3 κs ws xs) vss))
            (nothing_had 3 κs 𝓛 ws xs vss) $ frame ! $ frame ! $ done !)))))

  module _ (w : Whole) (i : ℕ) (Y : RattleType) (L : Laws Y) (R : RattleType) where
    abbrev pub Puts : Ended
    Puts = record {
      signature = record { lifetimes = 3; outlives = []; params = plain (λ _. w.row) ∷ plain (λ _. param i Y) ∷ []; result = plain (λ _. R) };
      kept = (no, (no, tt));
    }

    module _ {M : Type 1} {𝓤 : Ura M} (𝓛 : Logic 𝓤) (𝓜 : Model 𝓤 𝓛.H) (𝓡 : Running 𝓤 𝓛.H 𝓜) (Gives : w.row.Denot → Y.Denot → R.Denot → SProp 𝓤) where
      abbrev Body : Fn → List Val → (Val → SProp 𝓤) → SProp 𝓤
      Body = WpFn 𝓤 𝓛.H (tables 𝓤 𝓛.H 𝓜 𝓡 𝓡.env).C (tables 𝓤 𝓛.H 𝓜 𝓡 𝓡.env).Λ

      abbrev putting : Clauses 𝓤 Puts
      putting κs a = record { ghost = Unit {0}; requires = λ _. insides 𝓤 3 κs lives (emp 𝓤); ensures = λ _ r _. Gives a.0 a.1.0 r }

      abbrev put : Stays Puts.signature.params Puts.kept
      put = (stay_dropped (plain (λ _. w.row)) no, (stay_dropped (plain (λ _. param i Y)) no, tt))

      pub puts : (k : Callee) (e : Fn) → Closed 𝓤 𝓛.H (tables 𝓤 𝓛.H 𝓜 𝓡 𝓡.env).C (tables 𝓤 𝓛.H 𝓜 𝓡 𝓡.env).Λ k e
          → ((κs : Lfts 3) (qs : Shares 3) (x : w.row.Denot) (y : Y.Denot) (v : Val) → Good (layout Y) v → (Post : Val → SProp 𝓤)
          → ((r : R.Denot) (u : Val) → ent 𝓤 (⋆ 𝓛 (‵ (R.own_val r (u ∷ [])) ∷ raw (toks 𝓛 3 κs qs) ∷ raw (Gives x y r) ∷ [])) (Post u))
          → ent 𝓤 (⋆ 𝓛 (‵ (w.row.own_val x (w.vals x)) ∷ ‵ (Y.own_val y (v ∷ [])) ∷ raw (toks 𝓛 3 κs qs) ∷ [])) (Body e (w.vals x ++ v ∷ []) Post))
          → Meets 𝓛 Puts.signature ((tables 𝓤 𝓛.H 𝓜 𝓡 𝓡.env).C k) (closing 𝓛 Puts putting)
      puts k e closed walk =
          proved_at 𝓛 Puts put putting 𝓜 𝓡 (w.goes 𝓛 3, (Goes-dropped 𝓛 3 (plain (λ _. param i Y)) no (λ κs x f. refl), tt)) k e closed (λ z are.
          let κs : Lfts 3 = z.0.0 in let qs : Shares 3 = z.0.1 in let x : w.row.Denot = z.0.3.0 in let y : Y.Denot = z.0.3.1.0 in let us : List Val =
          z.0.4.0 in let vs : List Val = z.0.4.1.0 in
          insides_out 𝓤 3 κs lives (on_entry 𝓛 Puts.signature κs qs z.0.3 z.0.4) (emp 𝓤) _ (λ within.
          qed 𝓛 ((raw (toks 𝓛 3 κs qs) ⊛ (‵ (w.row.own_val x us) ⊛ ‵ (Y.own_val y vs) ⊛ ‵ ftrue)) ∷ raw (emp 𝓤) ∷ []) ∵ split ! $ move ! (1 ∷ []) $ split ! $
          move ! (1 ∷ []) $ split ! $
          tells Y L ! y vs (λ v is_v good. rewrite ! 2 (λ (ws : List Val). ‵ (w.row.own_val x ws)) (w.tells x us are.0) refl $ keep ! (2 ∷ 0 ∷ 3 ∷ []) $
          regoal ! (λ (ws : List Val × List Val). prop (Body e (ws.0 ++ (ws.1 ++ [])) ((walk_of 𝓛 Puts put putting).post z)))
          (λ j. (w.tells x us are.0 j, is_v j)) refl $
          by ! (walk κs qs x y v good _ (λ r u.
          qed 𝓛 (‵ (R.own_val r (u ∷ [])) ∷ raw (toks 𝓛 3 κs qs) ∷ raw (Gives x y r) ∷ []) ∵
          suffices ! _ (leaves 𝓛 Puts put putting z u r (w.last x, (tt, tt)) (tt, (tt, tt))) $
          move ! (1 ∷ []) $ frame ! $ nothing ! $ nothing ! $ fjoin ! $ nothing ! $ fjoin ! $ frame ! $ frame ! $ done !)))))

module _ {M : Type 1} {𝓤 : Ura M} {𝓛 : Logic 𝓤} {K : Type 0} {Γ : List (Item 𝓤)} {G : Goal 𝓤 𝓛.H} where
  -- a fact that the `ensures` want
  pub states : K → {φ : Type 0} → φ → Step K 𝓛 (raw (fact 𝓤 φ) ∷ Γ) G Γ G
  states t {φ} x = use0 𝓛 (raw (fact 𝓤 φ)) (fact_i 𝓤 φ (emp 𝓤) x)
