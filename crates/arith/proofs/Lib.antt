pub mod Decimal
pub mod Worked
