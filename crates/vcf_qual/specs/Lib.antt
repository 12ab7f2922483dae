pub mod Qual
