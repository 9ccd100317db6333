-- Memory that is lent: what is copied there, what every function for C answers and leaves, and when two are the same.
pub mod Copying
pub mod Lent
pub mod Same
pub mod Pieces
pub mod Recorded
pub mod Handed
