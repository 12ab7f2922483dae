pub mod Pump
