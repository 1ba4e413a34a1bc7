-- Document 01, "Grams": balance, oxides and dust, from the line's fuel in all.
pub mod Fuel
pub mod Opened
