use Rattle.std.proofs.Common.{[], ◌∷◌, Some}
use Rattle.moka_unsync_model.specs.Step.{Done, InvalidateEntriesIf}
use Rattle.moka_segments.specs.TellsAll.{leavers}
use Rattle.moka_segments.proofs.sweep.remove_expired_in.Given as goal

abbrev pub ghosts-leave : goal.ghosts-leave
ghosts-leave g a = record {
  entry = Some (record {
    before = a._about.0.value;
    request = InvalidateEntriesIf (leavers g.K.PartialEq.eq a._about.0.value.contents.entries a._about.1.value.contents.entries);
    answer = Done;
    after = a._about.1.value;
  } ∷ []);
}
