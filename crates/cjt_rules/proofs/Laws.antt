-- What follows from the definitions.
pub mod FrameCode
pub mod FrontLaws
pub mod FrameParts
pub mod ListedLaws
pub mod BodyLaws
pub mod WrittenLaws
pub mod RoundTrip
