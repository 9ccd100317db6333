pub mod MarkLaws
pub mod FirstLaws
pub mod UnmarkingLaws
pub mod Along
pub mod PieceLaws
pub mod SoundLaws
