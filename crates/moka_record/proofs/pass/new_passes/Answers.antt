use Rattle.std.proofs.Common.{◌∙◌, ◌∷◌, ◌++◌, [], ap, arith, sym}
use Rattle.std.proofs.lemmas.List.FromFn.{map-range_with_len_more}
use Rattle.moka_record.proofs.pass.new_passes.Goals as goal

pub loop-place-preserved : goal.loop-place-preserved
loop-place-preserved g c =
    let place = c.loop-place.place in
    (c.in_ok-push.ensures {u = tt}).items ∙ ap (λ passes. passes ++ record { place = place; made = 0 } ∷ []) c.loop-place.invariant
    ∙ sym (map-range_with_len_more (λ p. record { place = p; made = 0 }) 0 place place (omega arith))
