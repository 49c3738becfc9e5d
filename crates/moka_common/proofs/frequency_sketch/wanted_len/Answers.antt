use Rattle.std.proofs.Common.{◌≡◌, ◌≤◌, ℕ, arith, ap, subst, sym, ◌∙◌}
use Rattle.moka_common.specs.SketchCapacity.{next_power_of_two, table_len_for}
use Rattle.moka_common.specs.declared.constants.TheConstants.{MAX_TABLE_LEN}
use Rattle.moka_common.proofs.SketchLemmas.{next_power_is}
use Rattle.moka_common.proofs.UnpackedLemmas.{len_within}
use Rattle.moka_common.proofs.frequency_sketch.wanted_len.Goals as goal

pub returns : goal.returns
returns c =
    let value : c.next_power_of_two.result ≡ table_len_for c.args.cap =
    next_power_is c.min.result _ (omega arith) c.next_power_of_two.ensures.power c.next_power_of_two.ensures.lower_bound
    c.next_power_of_two.ensures.upper_bound
    ∙ ap next_power_of_two c.min.ensures in
    record { value = value; within = subst (λ n. n ≤ MAX_TABLE_LEN) (sym value) (len_within c.args.cap) }
