use Rattle.std.proofs.Common.{rules}
use Rattle.moka_list.specs.HashIndex.{home_group, tag_of}
use Rattle.moka_list.proofs.group.probe_of.Goals as goal

pub returns-clause-home : goal.returns-clause-home
unfolding home_group
returns-clause-home c = let f = c.from.ensures in search rules

pub returns-clause-tag : goal.returns-clause-tag
unfolding tag_of
returns-clause-tag c = let f = c.from.ensures in let h = c.max.ensures in search rules
