-- What lies behind the lock of a recording cache. No public clause cites this module.
use Rattle.std.specs.Prelude.{ℕ, List}
use Rattle.moka_record.specs.Record.{Record}

-- a record, and how many calls each pass has made
pub record Counted (K V S W A : Type 0) : Type 0 where
  pub kept : Record K V S W A
  pub made : List ℕ
