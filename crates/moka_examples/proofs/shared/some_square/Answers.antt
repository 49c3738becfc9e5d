use Rattle.std.proofs.Common.{◌≡◌, ◌*◌, ℕ, subst, sym}
use Rattle.std.specs.List.{AllByRecursion}
use Rattle.std.proofs.lemmas.List.Elements.{recursion_from_All}
use Rattle.moka_examples.proofs.shared.some_square.Goals as goal

abbrev IsSquare : ℕ × ℕ → Type 0
IsSquare p = p.1 ≡ p.0 * p.0

pub returns : goal.returns
returns g c =
    let (first, rest) = subst (AllByRecursion IsSquare) c.in-Some.ensures.steps
    (recursion_from_All IsSquare c.in_ok-pairs.pairs c.in_ok-pairs.ensures.ruled) in
    subst IsSquare (sym c.pair_of.ensures) first
