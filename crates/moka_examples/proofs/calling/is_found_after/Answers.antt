use Rattle.std.proofs.Common.{◌≡◌, true, is_some, Option, Some, None, refl, sym, ap, ◌∙◌, subst, Bor}
use Rattle.std.specs.Prelude.{option_copied}
use Rattle.std.proofs.lemmas.Bool.{false≢true}
use Rattle.std.proofs.lemmas.List.{reverse-reverse}
use Rattle.mini_moka.specs.Common.Keys.{keys_by}
use Rattle.mini_moka.specs.Unsync.History.{Leads}
use Rattle.mini_moka.specs.Unsync.Step.{Found}
use Rattle.moka_examples.proofs.calling.is_found_after.Goals as goal

-- a reference that is there is to a value
value-of : {T : Type 0} (o : Option (Bor T)) → is_some o ≡ true → (value : T) × (option_copied o ≡ Some value)
value-of None there = absurd (false≢true there)
value-of (Some r) there = (r.now, refl)

pub returns : goal.returns
returns g c there =
    let keys = keys_by (record { eq = g.K.PartialEq.eq; hash_input = g.K.Hash.hash_input }) g.S.BuildHasher g.S.Hasher.Hasher in
    let old = c.args.cache.now in
    let (requests, answers, run, served) = c.in_ok-_replies.ensures.ok in
    let (past, leads, asked, answered) = c.runs_have_a_history.ensures _ _ _ _ run in
    let (value, found) = value-of c.get.result (sym c.is_some-found.ensures ∙ there) in (
      past,
      value,
      c.in_ok-_replies._replies.items,
      rw (asked, answered, reverse-reverse, reverse-reverse) served,
      c.hits_are_current.ensures old.settings old.shares old.weigher old.capacity past c.run.new.cache _ c.args.key.now c.args.now value
          (subst (λ cache. Leads keys g.W.Weigh.weighs cache past c.run.new.cache) c.requires.built leads)
          (ap Found (sym found ∙ c.get.ensures.value), refl),
    )
