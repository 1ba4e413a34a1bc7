-- Laws about c x l, and about a survey's figures, cell and flag, which the layer above cites too.
pub mod Products
pub mod Surveys
mod Missing
pub mod Only
