use Rattle.std.proofs.Common.{◌≡◌, ◌≢◌, ◌==◌, ◌+◌, [], length, refl, ap, arith}
use Rattle.moka_grammar.proofs.ReadLemmas.{Reads-push, behind_shorter}
use Rattle.moka_grammar.proofs.parser.lines_of.Goals as goal

pub loop-rest-smaller : goal.loop-rest-smaller
loop-rest-smaller g c = behind_shorter _ _ _ _ c.in-Ok.ensures

pub loop-rest-preserved : goal.loop-rest-preserved
loop-rest-preserved g c = rw c.in_ok-push-in-Ok.ensures.items (Reads-push _ _ _ _ _ _ c.loop-rest.invariant c.in-Ok.ensures)

pub returns-in-Err-Bad-clause-bad : goal.returns-in-Err-Bad-clause-bad
returns-in-Err-Bad-clause-bad g c n e =
    let lines = c.loop-rest.lines in
    let number : c.len.result + 2 ≡ n = cc in
    let some : c.loop-rest.rest.now ≢ [] = λ none. let empty = ap (λ l. length l == 0) none in cc in (
      length lines.items,
      omega (arith, number, c.len.ensures, lines.ok.0),
      record {
        good = lines.items;
        rest = c.loop-rest.rest.now;
        reads = c.loop-rest.invariant;
        number = refl;
        some = some;
        none = rw c.in-Err-Bad.field-0-is at c.in-Err-Bad.ensures;
      },
    )
