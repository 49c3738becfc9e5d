use Rattle.moka_unsync_model.proofs.ToldLemmas.{statistics_count}
use Rattle.moka_unsync_model.proofs.listener.statistics_count_each_entry.Goals as goal

pub returns : goal.returns
returns g c = statistics_count
