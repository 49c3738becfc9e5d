use Rattle.moka_common.specs.Keys.{keys_by}
use Rattle.moka_sync_model.proofs.AdmitLemmas.{admits_undisturbed}
use Rattle.moka_sync_model.proofs.laws.undisturbed_admissions_follow_the_policy.Goals as goal

pub returns : goal.returns
returns g c =
    admits_undisturbed (keys_by (record { eq = g.K.PartialEq.eq; hash_input = g.K.Hash.hash_input }) g.S.BuildHasher g.S.Hasher.Hasher)
