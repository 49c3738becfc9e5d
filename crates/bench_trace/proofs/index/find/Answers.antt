use Rattle.std.proofs.Common.{◌≡◌, ℕ, Bool, true, List, Option, None, Some, IfSome, rules}
use Rattle.moka_list.specs.HashIndex.{FindsFirst}
use Rattle.moka_list.specs.IdList.{is_listed}
use Rattle.moka_list.proofs.FindLemmas.{found_passes}
use Rattle.bench_trace.proofs.index.find.Goals as goal

-- what is found is one of the candidates
listed : (test : ℕ → Bool → Type 0) (ids : List ℕ) (found : Option ℕ) → FindsFirst test ids found
    → IfSome found (λ id. is_listed ids id ≡ true)
listed test ids None s = tt
listed test ids (Some id) s = (found_passes test ids id s).0

pub returns : goal.returns
returns c = search (rules, listed)
