-- What reading holds on to between the characters and the telegram.
pub mod Bodies
pub mod Taking
