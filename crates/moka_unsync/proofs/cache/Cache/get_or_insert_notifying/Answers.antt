use Rattle.std.proofs.Common.{◌≡◌, None, rules, subst, sym}
use Rattle.moka_common.specs.Keys.{keys_by}
use Rattle.moka_unsync_model.specs.Lookup.{after_get, found_by_get}
use Rattle.moka_unsync_model.specs.ToldCalls.{TellsGot, TellsInsert}
use Rattle.moka_unsync.proofs.cache.Cache.get_or_insert_notifying.Goals as goal

pub returns-clause-told : goal.returns-clause-told
returns-clause-told g c =
    let keys = keys_by (record { eq = g.K.PartialEq.eq; hash_input = g.K.Hash.hash_input }) g.S.BuildHasher g.S.Hasher.Hasher in
    let hears = g.L.Listener.hears in
    let none : found_by_get keys c.args.self.now c.args.key c.args.now ≡ None = search rules in
    let told : TellsInsert hears keys (after_get keys c.args.self.now c.args.key c.args.now) c.args.now c.args.key c.make-value.result
    c.insert_notifying.new.self
    c.get_notifying.new.listener c.insert_notifying.new.listener = search rules in
    subst (λ f. TellsGot hears keys c.args.self.now c.args.now f c.args.key c.insert_notifying.new.self c.args.listener.now c.insert_notifying.new.listener)
    (sym none) (c.make-value.result, c.get_notifying.new.listener, c.in_default.ensures.told, told)
