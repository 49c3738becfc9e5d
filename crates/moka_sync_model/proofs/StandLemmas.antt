-- An entry stands until a step takes it.
use Rattle.std.proofs.Common.{◌≡◌, [], ◌∷◌, Option, Some, None, refl, sym, ◌∙◌, ap}
use Rattle.std.specs.Cmp.{IsEquivalence}
use Rattle.moka_common.specs.Keys.{Keys}
use Rattle.moka_sync_model.specs.Entry.{Entry, entry_of}
use Rattle.moka_sync_model.specs.Laws.{StandsUntilCause, TakesForCause}
use Rattle.moka_sync_model.proofs.ConsistentLemmas.{consistent_event}
use Rattle.moka_sync_model.proofs.CauseLemmas.{leaves_for_cause}

module _ {K V S : Type 0} (keys : Keys K S) (laws : IsEquivalence keys.eq) where
  pub stands_until_cause : StandsUntilCause V keys
  stands_until_cause old new [] t e good run stood gone = let both : Some e ≡ None = sym stood ∙ ap (λ c. entry_of t c.entries) (sym run)
      ∙ gone in absurd (cc)
  stands_until_cause old new (h ∷ hs) t e good run stood gone =
      by (entry_of t run.0.entries) refl
      (λ x there.
      stands_until_cause run.0 new hs t x (consistent_event keys laws old run.0 good h.reply h.event h.weight h.refused run.1) run.2
      there gone)
    where
      by : (o : Option (Entry K V)) → entry_of t run.0.entries ≡ o
          → ((x : Entry K V) → entry_of t run.0.entries ≡ Some x → TakesForCause V keys run.0 new hs t)
          → TakesForCause V keys old new (h ∷ hs) t
      by None left rest = record {
        before = [];
        taking = h;
        later = hs;
        are = refl;
        core = old;
        comes = refl;
        entry = e;
        stood = stood;
        cause = leaves_for_cause keys old run.0 h.event h.weight h.refused h.reply t e good run.1 stood left;
        next = run.0;
        step = run.1;
        left = left;
        goes_on = run.2;
      }
      by (Some x) there rest =
          let takes = rest x there in
          record {
            before = h ∷ takes.before;
            taking = takes.taking;
            later = takes.later;
            are = ap (λ xs. h ∷ xs) takes.are;
            core = takes.core;
            comes = (run.0, run.1, takes.comes);
            entry = takes.entry;
            stood = takes.stood;
            cause = takes.cause;
            next = takes.next;
            step = takes.step;
            left = takes.left;
            goes_on = takes.goes_on;
          }
