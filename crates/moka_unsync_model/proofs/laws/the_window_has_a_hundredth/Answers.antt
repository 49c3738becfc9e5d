use Rattle.moka_unsync_model.proofs.ShareLemmas.{window-default}
use Rattle.moka_unsync_model.proofs.laws.the_window_has_a_hundredth.Goals as goal

pub returns : goal.returns
returns c = window-default
