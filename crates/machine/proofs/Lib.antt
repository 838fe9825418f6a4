pub mod Agree
pub mod Element
pub mod Refused
mod Table
