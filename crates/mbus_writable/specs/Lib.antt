-- What the walks over a telegram's entries hold on to.
pub mod Together
