pub mod ScriptKeys
pub mod Stored
pub mod Reply
pub mod ReplyValue
pub mod UnsyncRun
pub mod FirstCore
pub mod RecordedRun
pub mod CoreRun
pub mod SketchRun
-- inside
pub mod ScriptWeighers
