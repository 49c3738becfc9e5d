use Rattle.std.proofs.Common.{◌∙◌, ap, false, refl}
use Rattle.moka_sync_model.specs.declared.event.Reply.TheVariants.{Bool as BoolReply}
use Rattle.moka_sync_model.specs.Entry.{entry_at}
use Rattle.moka_core.proofs.FreshLemmas.{fresh_is_unexpired}
use Rattle.moka_core.proofs.machine.Machine.contains_key.Goals as goal

pub returns : goal.returns
returns g c =
    rw (← c.self.view_is)
    (record {
      step = record {
        weight = 0;
        refused = false;
        weighed = tt;
        step = (
          ap BoolReply (c.contains_key.ensures ∙ fresh_is_unexpired c.self.inside.map.settings c.self.inside.valid_after c.args.now
              (entry_at g.K.PartialEq.eq c.args.key.now c.self.inside.map.entries)),
          refl,
        );
      };
    })
