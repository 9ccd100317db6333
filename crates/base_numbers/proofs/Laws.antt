-- What follows from the definitions, invariants of loops among it.
pub mod Numbers
pub mod NumberLaws
pub mod RecordLaws
pub mod TwosComplement
pub mod ByteNumbers
pub mod Negation
pub mod BinaryLaws
pub mod Rounding
pub mod Integers
