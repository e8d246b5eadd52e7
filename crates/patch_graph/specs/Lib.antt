pub mod Independent
pub mod Fronts
pub mod Graph
pub mod Homes
pub mod Leads
