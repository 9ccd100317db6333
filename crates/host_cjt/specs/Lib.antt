-- What the calls on CJ/T 188 lines and energies answer to C, and what they leave in memory that was lent to them.
pub mod CjtCalls
