-- What follows from the definitions, invariants of loops among it.
pub mod Chain
pub mod Outlines
pub mod Frames
pub mod LineCode
pub mod FourFlips
pub mod SignLaws
pub mod MomentLaws
pub mod HeaderLaws
pub mod RowLaws
pub mod Seven
pub mod EntryLaws
pub mod LengthLaws
pub mod FrameLaws
pub mod TelegramLaws
pub mod LineLaws
pub mod Fifteen
pub mod RoundTrip
