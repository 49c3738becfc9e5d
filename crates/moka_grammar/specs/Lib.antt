pub mod Streams
pub mod Text
pub mod Spelling
pub mod Options
pub mod Lines
pub mod CoreLines
pub mod SketchLines
pub mod Grammar
pub mod Parsed
-- inside
pub mod Reading
pub mod ReadingOptions
pub mod ReadingLines
pub mod ReadingCoreLines
