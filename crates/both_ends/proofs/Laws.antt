-- What follows from the definitions: laws of the meter, of one line that arrives, of what happens next, and of whatever happens.
pub mod Meters
pub mod Arrivals
pub mod Phases
pub mod Ends
pub mod Turns
