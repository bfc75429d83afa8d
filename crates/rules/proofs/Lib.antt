pub mod Busy
pub mod EachBit
pub mod Lanes
pub mod Stored
pub mod NoLanes
pub mod One
pub mod Kept
mod Numbers
pub mod Runs
pub mod Good
pub mod Histories
pub mod Size
pub mod Aligned
pub mod WindowRuns
pub mod Demand3
pub mod Witness
pub mod WindowWitness
