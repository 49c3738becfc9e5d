use Rattle.std.proofs.Common.{◌≡◌, ◌∙◌, ℕ, Bool, false, nat_eq, IsSome, Some, subst, sym}
use Rattle.std.specs.List.{find}
use Rattle.std.specs.Map.{lookup, values_of}
use Rattle.moka_list.proofs.FindLemmas.{fails, found_passes, none_passes, passes, IsTested}
use Rattle.moka_unsync_model.specs.declared.entry.Entry.{Entry}
use Rattle.moka_store.specs.Store.{HasHash}
use Rattle.moka_store.proofs.FindLemmas.{has_hash, has_key, none_of_key, other_key, IsSought}
use Rattle.moka_store.proofs.NodeLemmas.{alone}
use Rattle.moka_store.proofs.WriteLemmas.{under-absent}
use Rattle.moka_store.proofs.store.Store.find_among.Goals.{After-from_residual}
use Rattle.moka_store.proofs.store.Store.find_among.Goals as goal

-- where none is found, the probe stands for no node's key
none : (g : _) (c : After-from_residual g) → (id : ℕ) (e : Entry g.row.K.Denot g.row.V.Denot)
    → lookup (nat_eq id) c.self.inside.entries.items ≡ Some e → g.Q.Lookup.stands_for c.args.probe e.key ≡ false
none g c id e stands =
    let stands_for = g.Q.Lookup.stands_for c.args.probe in
    let nodes = c.self.inside.entries.items in
    let hash = c.args.hash in
    let hashed = subst (λ v. HasHash stands_for v hash) (sym c.self.view_is) c.requires.hashed in
    let stood : lookup (nat_eq id) c.args.self.now.nodes ≡ Some e = rw (← c.self.view_is) stands in
    let test : Entry g.row.K.Denot g.row.V.Denot → Bool → Type 0 = IsSought stands_for hash in
    other_key stands_for hash e (has_hash stands_for nodes hash hashed id e stands)
    (λ own. fails test nodes id e stands
    (none_passes (IsTested test nodes) c.args.candidates (c.in_err-number.ensures {u = tt}) id (c.requires.candidates.ahead id e stood own)))

pub returns-in_err-number-clause-absent : goal.returns-in_err-number-clause-absent
returns-in_err-number-clause-absent g c =
    rw (← c.self.view_is)
    (λ _. none_of_key (g.Q.Lookup.stands_for c.args.probe) c.self.inside.entries.items c.self.invariant.0.keyed.once (none g c))

pub returns-in_err-number-clause-unwritten : goal.returns-in_err-number-clause-unwritten
returns-in_err-number-clause-unwritten g c =
    rw (← c.self.view_is)
    (λ _. under-absent (g.Q.Lookup.stands_for c.args.probe) c.self.inside.entries.items c.self.inside.writes.ids
    (none_of_key (g.Q.Lookup.stands_for c.args.probe) c.self.inside.entries.items c.self.invariant.0.keyed.once (none g c)))

pub returns-clause-found : goal.returns-clause-found
returns-clause-found g c =
    let stands_for = g.Q.Lookup.stands_for c.args.probe in
    let nodes = c.self.inside.entries.items in
    let test : Entry g.row.K.Denot g.row.V.Denot → Bool → Type 0 = IsSought stands_for c.args.hash in
    let f = found_passes (IsTested test nodes) c.args.candidates c.in_ok-number.number (c.in_ok-number.ensures {u = tt}) in
    let stands : IsSome (lookup (nat_eq c.in_ok-number.number) nodes) =
    subst (λ v. IsSome (lookup (nat_eq c.in_ok-number.number) v.nodes)) (sym c.self.view_is)
    (c.requires.candidates.standing c.in_ok-number.number f.0) in
    let p = passes test nodes c.in_ok-number.number stands f.1 in
    let is = has_key stands_for c.args.hash p.0 p.2 in
    rw c.from_number.ensures (rw (← c.self.view_is) (
      p.0,
      p.1,
      (λ i. find (λ x. g.met.Q.Lookup.stands_for_equals c.args.probe p.0.key x.key is i) (values_of nodes))
          ∙ alone g.met.K.Eq.laws c.self.invariant.0.keyed c.in_ok-number.number p.0 p.1 p.0.key (g.met.K.Eq.laws.refl p.0.key),
    ))
