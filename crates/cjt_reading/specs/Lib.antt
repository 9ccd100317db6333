-- What reading holds on to between the bytes and the telegram.
pub mod CjtParts
