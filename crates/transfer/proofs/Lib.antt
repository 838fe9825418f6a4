pub mod Edges
pub mod Finishing
