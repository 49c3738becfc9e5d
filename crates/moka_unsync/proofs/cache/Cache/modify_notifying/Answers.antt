use Rattle.std.proofs.Common.{◌≡◌, ◌∙◌, None, Some, ap, false, is_some, refl, subst, sym, true}
use Rattle.std.proofs.lemmas.Bool.{cond-false, false≢true}
use Rattle.std.specs.Fn.{FnOnceReturnsAtMut}
use Rattle.moka_common.specs.Keys.{keys_by}
use Rattle.moka_list.proofs.IdLemmas.{some_parts}
use Rattle.moka_unsync_model.specs.declared.entry.Entry.{Entry}
use Rattle.moka_unsync_model.specs.declared.entry.Part.TheVariants.{Probation}
use Rattle.moka_unsync_model.specs.CacheState.{CacheState}
use Rattle.moka_unsync_model.specs.Cleanup.{after_cleanup, is_expired, unexpired}
use Rattle.moka_unsync_model.specs.Contents.{entry_at}
use Rattle.moka_unsync_model.specs.Insert.{Refused, after_insert, after_update}
use Rattle.moka_store.specs.Store.{contents_of}
use Rattle.moka_unsync.specs.Cached.{IsCached}
use Rattle.moka_unsync.proofs.CachedLemmas.{IsCached-cleanup, IsCached-update, has_hash}
use Rattle.moka_unsync.proofs.InsertLemmas.{insert_updates}
use Rattle.moka_unsync.proofs.cache.Cache.modify_notifying.Goals as goal

pub find-requires : goal.find-requires
find-requires g c =
    has_hash (record { eq = g.K.PartialEq.eq; hash_input = g.K.Hash.hash_input }) g.S.BuildHasher g.S.Hasher.Hasher
    (g.K.PartialEq.eq c.args.key.now) (g.K.Hash.hash_input c.args.key.now) (g.met.K.Hash.respects_eq c.args.key.now)
    (IsCached-cleanup c.args.now c.self.invariant c.clean_up.ensures.step c.clean_up.ensures.kept)
    (subst (λ cache. c.args.hash ≡
    (keys_by (record { eq = g.K.PartialEq.eq; hash_input = g.K.Hash.hash_input }) g.S.BuildHasher g.S.Hasher.Hasher).hash_of
    cache.settings.hash_state c.args.key.now) (sym c.self.view_is) c.requires.hashed)

pub invariant_of-self : goal.invariant_of-self
invariant_of-self g c = IsCached-cleanup c.args.now c.self.invariant c.clean_up.ensures.step c.clean_up.ensures.kept

pub invariant_of-self-then-is_expired : goal.invariant_of-self-then-is_expired
invariant_of-self-then-is_expired g c = IsCached-cleanup c.args.now c.self.invariant c.clean_up.ensures.step c.clean_up.ensures.kept

pub invariant_of-self-2 : goal.invariant_of-self-2
invariant_of-self-2 g c =
    IsCached-update c.in-Some.id _ c.clean_up.new.store c.modify.new.self
    (IsCached-cleanup c.args.now c.self.invariant c.clean_up.ensures.step c.clean_up.ensures.kept) c.modify.ensures.step.step

-- no tables are asked for
abbrev no_tables : Refused
no_tables = record { table = true; tags = true }

pub returns-clause-step : goal.returns-clause-step
returns-clause-step g c =
    let eq = g.K.PartialEq.eq in
    let keys = keys_by (record { eq = eq; hash_input = g.K.Hash.hash_input }) g.S.BuildHasher g.S.Hasher.Hasher in
    let key = c.args.key.now in
    let now = c.args.now in
    let policy = c.self.inside.bounds in
    let store = c.self.inside.store in
    let m = c.modify.ensures.step in
    let parts : IsCached keys c.self.inside.hash_state policy c.self.inside.shares c.self.inside.windowed c.clean_up.new.store =
    IsCached-cleanup now c.self.invariant c.clean_up.ensures.step c.clean_up.ensures.kept in
    let found = (c.in-Some.ensures {u = tt}).found in
    let there : entry_at eq key (after_cleanup eq policy now (contents_of store)).entries ≡ Some found.0 =
    subst (λ s. entry_at eq key s.entries ≡ Some found.0) c.clean_up.ensures.step found.2 in
    let its = some_parts c.get.result.now found.0 (sym c.get.ensures ∙ found.1) in
    let fresh : is_expired policy now found.0 ≡ false =
    subst (λ e. is_expired policy now e ≡ false) its (sym c.is_expired.ensures ∙ c.if-is_expired.false) in
    let cache : CacheState g.row.K.Denot g.row.V.Denot g.row.S.Denot g.row.W.Denot = record {
      settings = record { hash_state = c.self.inside.hash_state; policy = policy; is_weighed = c.self.inside.is_weighed };
      shares = c.self.inside.shares;
      weigher = c.modify.new.weigher;
      contents = contents_of store;
      sketch = c.self.inside.sketch;
      memory = c.self.inside.memory;
      capacity = store.capacity;
    } in
    let new : Entry g.row.K.Denot g.row.V.Denot = record {
      key = key;
      value = m.value;
      hash = keys.hash_of c.self.inside.hash_state key;
      weight = m.weight;
      part = Probation;
      accessed = now;
      deadline = c.deadline.result;
      outlasts = c.is_beyond.result;
    } in
    let own = some_parts m.step.entry found.0 (sym m.step.stood ∙ found.1) in
    rw (← c.self.view_is)
    (record {
      entry = found.0;
      value = m.value;
      found = ap (unexpired policy now) there ∙ cond-false (is_expired policy now found.0) None (Some found.0) fresh;
      changed = subst (λ e. FnOnceReturnsAtMut g.F.FnOnce c.args.change e.value tt m.value) (some_parts m.entry found.0 (sym m.stood ∙ found.1)) m.changed;
      put = record {
        weight = m.weight;
        weigher = c.modify.new.weigher;
        refused = no_tables;
        capacity = store.capacity;
        room = λ absent. absurd (false≢true (ap is_some (sym absent ∙ there)));
        kept = λ fits. refl;
        weighed = m.weighed;
        small = m.small;
        step =
            insert_updates eq cache new now no_tables found.0 there (contents_of c.modify.new.self) c.modify.new.self.capacity
            (m.step.contents ∙ (λ i. after_update eq (parts.keeps i) (parts.protected i) (own i) new (c.clean_up.ensures.step i)))
            (m.step.kept.settings.capacity ∙ c.clean_up.ensures.kept.settings.capacity)
            ∙ (λ i. after_insert eq cache (record new { deadline = c.deadline.ensures i; outlasts = c.is_beyond.ensures i }) now no_tables);
      };
      same = refl;
    })
