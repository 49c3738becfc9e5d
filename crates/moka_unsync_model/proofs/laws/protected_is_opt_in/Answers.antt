use Rattle.moka_unsync_model.proofs.ShareLemmas.{protected-default}
use Rattle.moka_unsync_model.proofs.laws.protected_is_opt_in.Goals as goal

pub returns : goal.returns
returns c = protected-default
