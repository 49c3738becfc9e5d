use Rattle.std.proofs.Common.{ap, false, true, arith, is_err}
use Rattle.moka_common.specs.Keys.{Keys, keys_by}
use Rattle.moka_core.proofs.StepLemmas.{copied, copy_not_possible, copy_refused}
use Rattle.moka_core.proofs.machine.Machine.copy.Given.{Over}
use Rattle.moka_core.proofs.machine.Machine.copy.Goals as goal

-- the keys of the core
abbrev keys : (g : Over) → Keys g.row.K.Denot g.row.S.Denot
keys g = keys_by (record { eq = g.K.PartialEq.eq; hash_input = g.K.Hash.hash_input }) g.S.BuildHasher g.S.Hasher.Hasher

pub returns-then-shard-ge-SHARDS : goal.returns-then-shard-ge-SHARDS
returns-then-shard-ge-SHARDS g c =
    record {
      step = record {
        weight = 0;
        refused = false;
        weighed = tt;
        step = copy_not_possible (keys g) c.args.self.now.state c.args.shard
            (λ below. omega (arith, below, c.if-shard-ge-SHARDS.true)) _ false;
      };
    }

pub returns-in-Ok : goal.returns-in-Ok
returns-in-Ok g c =
    rw (← c.self.view_is)
    (record {
      step = record {
        weight = 0;
        refused = false;
        weighed = tt;
        step = copied (keys g) _ c.args.shard c.if-shard-ge-SHARDS.false _ c.in-Ok.rows (c.in-Ok.ensures {u = tt}).value;
      };
    })

pub returns-in-Err : goal.returns-in-Err
returns-in-Err g c =
    rw (← c.self.view_is)
    (record {
      step = record {
        weight = 0;
        refused = true;
        weighed = tt;
        step = copy_refused (keys g) _ c.args.shard c.if-shard-ge-SHARDS.false _ (c.copy.ensures.refused (ap is_err c.in-Err.is));
      };
    })
