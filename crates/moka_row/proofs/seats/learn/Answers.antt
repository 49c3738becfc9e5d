use Rattle.std.proofs.Common.{ap, rules, subst}
use mathlib.Core.Option.{none}
use Rattle.atomic_table.specs.Table.{step}
use Rattle.moka_row.specs.Visits.{Known, after_telling}
use Rattle.moka_row.specs.Kept.{Hears}
use Rattle.moka_row.proofs.Rules.{hears, tells}
use Rattle.moka_row.proofs.seats.learn.Goals as goal

pub join_seat-requires : goal.join_seat-requires
join_seat-requires g c = (c.requires.table.0, c.requires.note.0, c.requires.note.1, c.requires.table.1, tells g.P.Account.holds _ _ _ _ _)

pub load-requires : goal.load-requires
load-requires g c = (
  search rules,
  c.requires.table.1,
  hears g.P.Account.holds _ _ _ c.join_seat.new.seat.me (step c.args.row.now.table_id.slots 0 0 0 none),
)

pub returns-clause-told : goal.returns-clause-told
returns-clause-told g c =
    let v = c.args.me.now.me.0 in
    let w = c.load.new.seat.me.0 in
    let h : Hears (after_telling v c.args.note.me.0) c.args.note.me.0.seen w =
    subst (λ (u : Known g.row.E.Denot g.row.K.Denot). Hears u u.heard w) (ap (λ m. m.0) c.join_seat.ensures.2) c.load.ensures.2.1 in
    record { same = h.same; mine = h.mine; keeps = h.keeps; learns = h.learns }
