mod Bits
mod Layering
mod Rows
mod Views
