-- What document 02 says, in 2026-04, of the error by formula C.1 of 000: the figures of an answer, and the replay of a bundle.
pub mod Figures
pub mod Errors
pub mod Shown
