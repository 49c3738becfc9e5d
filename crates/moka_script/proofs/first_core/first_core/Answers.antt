use Rattle.moka_script.proofs.FirstCoreLemmas.{built_is_new}
use Rattle.moka_script.proofs.first_core.first_core.Goals as goal

pub with_first_ticket-requires : goal.with_first_ticket-requires
with_first_ticket-requires g c = record { new = built_is_new _ _ _ c.in_ok-core.ensures.state }
