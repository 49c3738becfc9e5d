-- The definitions of what the caches share, passed on.
pub use Rattle.moka_common.specs.Moment
pub use Rattle.moka_common.specs.Policy
pub use Rattle.moka_common.specs.Settings
pub use Rattle.moka_common.specs.Error
pub use Rattle.moka_common.specs.Keys
pub use Rattle.moka_common.specs.Weight
pub use Rattle.moka_common.specs.Sketch
pub use Rattle.moka_common.specs.SketchCapacity
pub use Rattle.moka_common.specs.TrueCount
pub use Rattle.moka_list.specs.Nodes
pub use Rattle.moka_deque.specs.Deque
pub use Rattle.moka_deque.specs.DequeLends
pub use Rattle.moka_common.specs.Prefix
pub use Rattle.moka_common.specs.Admission
pub use Rattle.moka_common.specs.Enabling
pub use Rattle.moka_common.specs.Laws
