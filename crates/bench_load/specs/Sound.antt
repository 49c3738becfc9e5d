-- What a contract sees of a report: when a soak is sound.
use Rattle.std.specs.Prelude.{◌≡◌, ◌≤◌, ℕ}
use Rattle.bench_load.specs.declared.soak.constants.TheConstants.{FILLED, LIMIT}
use Rattle.bench_load.specs.declared.soak.looks.Look.{Look}
use Rattle.bench_load.specs.declared.soak.looks.Looks.{Looks}
use Rattle.bench_load.specs.declared.soak.report.Report.{Report}
use Rattle.bench_load.specs.declared.soak.tally.Tally.{Tally}

-- each value named its key, each snapshot gave known keys once, and each policy was as it was set
abbrev pub HasNoFault : Tally → Type 0
HasNoFault tally = (tally.wrong_values ≡ 0) × (tally.wrong_keys ≡ 0) × (tally.wrong_policies ≡ 0)

-- no more is left than is counted, and that is within the limit
abbrev pub IsCovered : Look → Type 0
IsCovered look =
    (look.left.entries ≤ look.counted.entries) × (look.left.weight ≤ look.counted.weight) × (look.counted.weight ≤ LIMIT)

-- what is left is what is counted, with so many entries
abbrev pub AgreesOn : ℕ → Look → Type 0
AgreesOn entries look = (look.left ≡ look.counted) × (look.left.entries ≡ entries)

-- each look is as it must be
abbrev pub AreRight : Looks → Type 0
AreRight looks = IsCovered looks.joined × AgreesOn 0 looks.expired × AgreesOn FILLED looks.filled × AgreesOn 0 looks.emptied

-- nothing was wrong, and each look is as it must be
abbrev pub IsSound : Report → Type 0
IsSound report = HasNoFault report.tally × AreRight report.looks
