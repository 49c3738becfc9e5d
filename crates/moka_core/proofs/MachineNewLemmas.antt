-- A core as it was built.
use Rattle.std.proofs.Common.{◌≡◌, ℕ, [], replicate, get_or, sym, ◌∙◌, ap, subst, lit<}
use Rattle.std.proofs.lemmas.List.{get_or-replicate}
use Rattle.moka_sync_model.specs.declared.constants.TheConstants.{SHARDS}
use Rattle.moka_sync_model.specs.CoreState.{CoreState, IsNew, new_core}
use Rattle.moka_core.specs.Machine.{IsUntouched}
use Rattle.moka_core.specs.MapState.{IsNewMap, map_of}

module _ {K V S : Type 0} where
  -- a new core whose shards begin with another number is new
  pub new-started : (core : CoreState K V S) (first : ℕ) → IsNew core
      → record core { next_numbers = replicate SHARDS first } ≡ new_core core.settings first
  new-started core first (number, is) = ap (λ (c : CoreState K V S). record c { next_numbers = replicate SHARDS first }) is

  -- a new map in a core that is otherwise as built makes it new
  pub new-untouched : (core : CoreState K V S) (first : ℕ) → IsNewMap first (map_of core) → IsUntouched core → IsNew core
  new-untouched core first (none, numbers) h = (
    first,
    ap (λ es. record core { entries = es }) none
        ∙ ap (λ ns. record core { entries = []; next_numbers = ns }) numbers
        ∙ ap (λ n. record new {
          valid_after = n;
          read_log = core.read_log;
          write_log = core.write_log;
          pending = core.pending;
          maintenance = core.maintenance;
          sync_after = core.sync_after;
        }) h.valid_after
        ∙ ap (λ log. record new {
          read_log = log;
          write_log = core.write_log;
          pending = core.pending;
          maintenance = core.maintenance;
          sync_after = core.sync_after;
        }) h.read_log
        ∙ ap (λ log. record new { write_log = log; pending = core.pending; maintenance = core.maintenance; sync_after = core.sync_after })
        h.write_log
        ∙ ap (λ ps. record new { pending = ps; maintenance = core.maintenance; sync_after = core.sync_after }) h.pending
        ∙ ap (λ m. record new { maintenance = m; sync_after = core.sync_after }) h.maintenance
        ∙ ap (λ due. record new { sync_after = due }) h.sync_after,
  )
    where
      new : CoreState K V S
      new = new_core core.settings first

  -- a new core is as built
  pub untouched-new : (core : CoreState K V S) → IsNew core → IsUntouched core
  untouched-new core (first, is) = record {
    valid_after = ap (λ c. c.valid_after) is;
    read_log = ap (λ c. c.read_log) is;
    write_log = ap (λ c. c.write_log) is;
    pending = ap (λ c. c.pending) is;
    maintenance = ap (λ c. c.maintenance) is;
    sync_after = ap (λ c. c.sync_after) is;
  }

  -- so is its map, by the number of its first shard
  pub map-new : (core : CoreState K V S) (first : ℕ) → first ≡ get_or core.next_numbers 0 0 → IsNew core → IsNewMap first (map_of core)
  map-new core first is (number, new) =
      let same : number ≡ first =
      sym (is ∙ ap (λ (c : CoreState K V S). get_or c.next_numbers 0 0) new ∙ get_or-replicate SHARDS 0 number 0 (lit< tt)) in
      subst (λ n. IsNewMap n (map_of core)) same (ap (λ c. c.entries) new, ap (λ c. c.next_numbers) new)
