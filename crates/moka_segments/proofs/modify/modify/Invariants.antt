use Rattle.std.proofs.Common.{[], ◌∷◌, Some}
use Rattle.moka_segments.proofs.CallLemmas.{call_of}
use Rattle.moka_segments.proofs.ModifyLemmas.{answered_as, asked_as, value_left}
use Rattle.moka_segments.proofs.modify.modify.Given as goal

abbrev pub ghosts-leave : goal.ghosts-leave
ghosts-leave g a =
    let value = value_left g.K.PartialEq.eq a._about.4 a._about.2.now a._about.1.value in
    record { entry = Some (call_of a._about.0.value (asked_as a._about.2.now a._about.3 value) (answered_as value) a._about.1.value ∷ []) }
