use Rattle.std.proofs.Common.{◌≡◌, take}
use Rattle.moka_record.specs.Passes.{made_by}
use Rattle.moka_record.proofs.pass.made_by.Given as goal

abbrev pub invariant-loop-pass : goal.invariant-loop-pass
invariant-loop-pass l = l.made ≡ made_by (take l.pass-index l.passes)
