use Rattle.std.proofs.Common.{◌∙◌, ◌≤◌, ◌-◌, ap, is_some, nat_eq, sym, subst}
use Rattle.moka_list.proofs.ItemLemmas.{lookup-set, nat_eq-same}
use Rattle.std.proofs.lemmas.Bool.{cond-true}
use Rattle.moka_store.proofs.BalanceLemmas.{begins, begins_in, demotes, parted_demoted, weight_in_protected}
use Rattle.moka_store.proofs.parts.demote_first.Goals as goal

pub returns-in_default-clause-step : goal.returns-in_default-clause-step
returns-in_default-clause-step g c =
    begins c.args.entries.now.items c.args.marks.now c.args.weights.now c.requires.parted c.requires.some c.in_default.is

pub get_mut-entry-requires : goal.get_mut-entry-requires
get_mut-entry-requires g c =
    begins_in c.args.entries.now.items c.args.marks.now c.args.weights.now c.requires.parted c.requires.some c.in-Some.id c.in-Some.is

pub overflow_sub-weights : goal.overflow_sub-weights
overflow_sub-weights g c =
    subst (λ n. n ≤ c.args.weights.now.protected) (sym c.from.ensures)
    (weight_in_protected c.args.entries.now.items c.args.marks.now c.args.weights.now c.requires.parted c.requires.some c.in-Some.id c.in-Some.is
    c.get_mut-entry.result.now c.get_mut-entry.ensures.value)

pub next-marks-requires : goal.next-marks-requires
next-marks-requires g c =
    ap is_some (lookup-set c.in-Some.id c.in-Some.id _ c.args.entries.now.items (ap is_some c.get_mut-entry.ensures.value)
    ∙ cond-true (nat_eq c.in-Some.id c.in-Some.id) _ _ (nat_eq-same c.in-Some.id))

pub returns-clause-step : goal.returns-clause-step
returns-clause-step g c =
    demotes c.args.entries.now.items c.args.marks.now c.args.weights.now c.requires.parted c.requires.some c.in-Some.id c.in-Some.is
    c.get_mut-entry.result.now c.get_mut-entry.ensures.value

pub returns-clause-parted : goal.returns-clause-parted
returns-clause-parted g c =
    parted_demoted c.args.entries.now.items c.args.marks.now c.args.weights.now c.requires.parted c.requires.some c.in-Some.id c.in-Some.is
    c.get_mut-entry.result.now c.get_mut-entry.ensures.value c.next-marks.result c.next-marks.ensures _
    (λ i. record c.args.weights.now { protected = c.args.weights.now.protected - c.from.ensures i })
