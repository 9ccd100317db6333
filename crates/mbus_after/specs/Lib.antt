-- The first accepted line of a capture that began at or after a time.
pub mod After
