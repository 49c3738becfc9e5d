use Rattle.moka_examples.proofs.calling.empty_out.Goals as goal

pub returns : goal.returns
returns g c = let left = c.invalidate_all.ensures.told in (left.told, left.heard, left.each)
