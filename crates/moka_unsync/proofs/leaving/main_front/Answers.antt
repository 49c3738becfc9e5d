use Rattle.std.proofs.Common.{◌≡◌, ◌∙◌, ap, refl, subst, sym, false}
use Rattle.moka_unsync_model.specs.Contents.{is_window, main_of}
use Rattle.moka_list.proofs.IdLemmas.{some_parts}
use Rattle.moka_unsync.proofs.AdmissionLemmas.{no_main}
use Rattle.moka_unsync.proofs.leaving.main_front.Goals as goal

pub returns-in_err-id-clause-absent : goal.returns-in_err-id-clause-absent
returns-in_err-id-clause-absent g c _ = ap (λ s. main_of s.entries) ((c.in_err-id.ensures {u = tt}).absent refl)

pub returns-then-is_windowed-clause-absent : goal.returns-then-is_windowed-clause-absent
returns-then-is_windowed-clause-absent g c _ =
    no_main g.K.PartialEq.eq c.args.store.now c.in_ok-id.id c.get.result.now (c.in_ok-id.ensures {u = tt}).order
    (c.in_ok-id.ensures {u = tt}).found c.get.ensures
    (sym c.is_windowed.ensures ∙ c.if-is_windowed.true)

pub returns-clause-found : goal.returns-clause-found
returns-clause-found g c =
    let f = (c.in_ok-id.ensures {u = tt}).found in (
      f,
      subst (λ e. is_window e.part ≡ false) (some_parts c.get.result.now f.entry (sym c.get.ensures ∙ f.stands))
          (sym c.is_windowed.ensures ∙ c.if-is_windowed.false),
    )
