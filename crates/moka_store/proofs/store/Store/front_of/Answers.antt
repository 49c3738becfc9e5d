use Rattle.std.proofs.Common.{◌∙◌, ap, sym}
use Rattle.moka_store.specs.Nodes.{start_of}
use Rattle.moka_store.proofs.FrontLemmas.{front_of_is, front_of_none, front_of_other, start_found}
use Rattle.moka_store.proofs.store.Store.front_of.Goals as goal

pub returns-in_err-id-clause-absent : goal.returns-in_err-id-clause-absent
returns-in_err-id-clause-absent g c _ =
    front_of_none c.args.part c.args.self.now.nodes (sym c.start_of.ensures ∙ c.in_err-id.was)

pub get-requires : goal.get-requires
get-requires g c =
    start_found c.args.part c.self.inside.entries.items c.self.invariant.0.keyed.once c.in_ok-id.id
    (ap (λ v. start_of c.args.part v.nodes) c.self.view_is ∙ (sym c.start_of.ensures ∙ c.in_ok-id.was))

pub returns-then-is_of-clause-found : goal.returns-then-is_of-clause-found
returns-then-is_of-clause-found g c =
    rw (← c.self.view_is)
    (front_of_is g.met.K.Eq.laws c.args.part _ c.self.invariant.0.keyed c.in_ok-id.id c.get.result.now
    (ap (λ v. start_of c.args.part v.nodes) c.self.view_is ∙ (sym c.start_of.ensures ∙ c.in_ok-id.was)) c.get.ensures
    (sym c.is_of.ensures ∙ c.if-is_of.true))

pub returns-else-is_of-clause-absent : goal.returns-else-is_of-clause-absent
returns-else-is_of-clause-absent g c =
    rw (← c.self.view_is)
    (λ _. front_of_other c.args.part c.self.inside.entries.items c.self.invariant.0.keyed c.self.invariant.0.order c.in_ok-id.id c.get.result.now
    (ap (λ v. start_of c.args.part v.nodes) c.self.view_is ∙ (sym c.start_of.ensures ∙ c.in_ok-id.was)) c.get.ensures
    (sym c.is_of.ensures ∙ c.if-is_of.false))
