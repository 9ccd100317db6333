-- What 02, 2026-08, says of a CJ/T 188 line, with documents 001 and 002: one module for each paragraph, in the frame's order.
pub mod CjtFrames
pub mod CjtAddresses
pub mod CjtUnits
pub mod CjtDecimals
pub mod CjtClocks
pub mod CjtLines
pub mod CjtOutlines
pub mod CjtWriting
pub mod CjtSizes
pub mod CjtHost
