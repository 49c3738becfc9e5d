use Rattle.std.proofs.Common.{◌≡◌, ◌∙◌, Some, ap, option_copied, option_map, refl, subst, sym}
use Rattle.moka_common.specs.Keys.{hash_by, keys_by}
use Rattle.moka_unsync_model.specs.Contents.{entry_where}
use Rattle.moka_unsync_model.specs.Lookup.{after_get_where, found_where}
use Rattle.moka_unsync_model.specs.ToldCalls.{TellsLook}
use Rattle.moka_unsync.proofs.UsedLemmas.{got_value}
use Rattle.moka_unsync.proofs.notifying_cache.NotifyingCache.get_by.Goals as goal

pub returns : goal.returns
returns g c =
    let keys = keys_by (record { eq = g.K.PartialEq.eq; hash_input = g.K.Hash.hash_input }) g.S.BuildHasher g.S.Hasher.Hasher in
    let test = g.Q.Lookup.stands_for c.args.probe in
    let hash = c.hash_of-hash.result in
    let writes = g.Q.Hash.hash_input c.args.probe in
    let old = c.self.inside.cache in
    let got : c.get_notifying.follows.lender-at-none ≡ after_get_where keys old test hash c.args.now = c.get_notifying.follows.holds-at-none in
    let found : found_where keys old test c.args.now ≡ Some c.in_ok-get_notifying.field-0.now =
    sym c.get_notifying.ensures.value ∙ ap option_copied (c.in_ok-get_notifying.was {u = tt}) in
    let value : option_copied c.stored.result ≡ found_where keys old test c.args.now =
    c.stored.ensures
    ∙ (ap (λ s. option_map (λ e. e.value) (entry_where test s.contents.entries)) got
    ∙ (got_value keys g.met.K.Eq.laws old test (g.met.Q.Lookup.stands_for_equals c.args.probe) hash c.args.now c.in_ok-get_notifying.field-0.now found
    ∙ sym found)) in (
      (
        refl,
        λ end. tt,
        (
          got ∙ (ap (λ h. after_get_where keys old test h c.args.now) c.hash_of-hash.ensures
              ∙ ap (λ t. after_get_where keys t.cache test (hash_by g.S.BuildHasher g.S.Hasher.Hasher t.cache.settings.hash_state writes) c.args.now)
              c.self.view_is),
          subst (λ t. TellsLook g.L.Listener.hears keys t.cache c.args.now t.listener c.get_notifying.new.listener) c.self.view_is c.get_notifying.ensures.told,
        ),
      ),
      record { step = tt; value = value ∙ ap (λ t. found_where keys t.cache test c.args.now) c.self.view_is },
    )
