-- Setting the resistance box: the resistance of a Pt1000 probe at a temperature, and the temperature for a resistance.
pub mod Resistances
