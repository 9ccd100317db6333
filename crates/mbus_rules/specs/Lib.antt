-- What document 01 says of a line: one module for each paragraph, in 01's order.
pub mod Signs
pub mod Moments
pub mod Headers
pub mod Quantities
pub mod Entries
pub mod Telegrams
pub mod Lines
pub mod Outlines
pub mod Writing
pub mod Host
-- The chain before 02, 2026-05.
pub mod Fifteen
-- Demand 3: flipped bits, beginnings and cuts.
pub mod FourFlips
-- What the types of fields see to.
pub mod HeaderSizes
pub mod TelegramSizes
