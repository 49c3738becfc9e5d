use Rattle.std.proofs.Common.{◌≡◌, ◌≤◌, ℕ, false, length}
use Rattle.moka_list.specs.HashIndex.{is_candidate}
use Rattle.bench_trace.proofs.index.fill.Given as goal

abbrev pub invariant-loop-id : goal.invariant-loop-id
invariant-loop-id l = record {
  absent : (other id : ℕ) → l.id ≤ id → is_candidate l.index other id ≡ false;
  room : length l.hashes ≤ l.index.ids;
  end : l.id-end ≡ length l.hashes;
}
