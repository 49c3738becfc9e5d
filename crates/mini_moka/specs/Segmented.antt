-- The definitions of the cache of segments, passed on.
pub use Rattle.moka_segments.specs.Plan
pub use Rattle.moka_segments.specs.Builder
pub use Rattle.moka_segments.specs.Rules
pub use Rattle.moka_segments.specs.History
pub use Rattle.moka_segments.specs.Calls
pub use Rattle.moka_segments.specs.Tells
pub use Rattle.moka_segments.specs.TellsAll
pub use Rattle.moka_segments.specs.Notifying
pub use Rattle.moka_segments.specs.Session
pub use Rattle.moka_row.specs.Visits
