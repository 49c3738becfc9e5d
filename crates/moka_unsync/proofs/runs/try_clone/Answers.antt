use Rattle.std.proofs.Common.{ap, inr, refl}
use Rattle.std.specs.Prelude.{option_copied}
use Rattle.moka_unsync.proofs.runs.try_clone.Goals as goal

pub returns-in-Ok : goal.returns-in-Ok
returns-in-Ok g c = rw (ap option_copied c.in-Some.is) (inr (c.in-Ok.copy, refl, c.in-Ok.ensures.cases))
