use Rattle.std.proofs.Common.{◌≡◌, ◌*◌, ◌++◌, ◌∷◌, [], ℕ, List, subst, sym, ◌∙◌}
use Rattle.std.specs.List.{AllByRecursion}
use Rattle.std.proofs.lemmas.List.Elements.{All-from_recursion, recursion_from_All}
use Rattle.moka_examples.proofs.shared.pairs_in.Goals as goal

abbrev IsSquare : ℕ × ℕ → Type 0
IsSquare p = p.1 ≡ p.0 * p.0

-- what holds of all of a list holds of its beginning
of_beginning : (pairs rest : List (ℕ × ℕ)) → AllByRecursion IsSquare (pairs ++ rest) → AllByRecursion IsSquare pairs
of_beginning [] rest all = tt
of_beginning (p ∷ pairs) rest (first, others) = (first, of_beginning pairs rest others)

pub returns-clause-ruled : goal.returns-clause-ruled
returns-clause-ruled g c =
    let items = c.loop-entry.pairs.items in
    All-from_recursion IsSquare items (of_beginning items c.loop-entry.entry-iterator (subst (AllByRecursion IsSquare)
    (sym (c.loop-entry.invariant ∙ c.into_iter-entry-iterator.ensures.into_iter_gives))
    (recursion_from_All IsSquare c.in_ok-entry-items.entry-items c.in_ok-entry-items.ensures.ruled)))
