mod Untold
mod IndexStates
mod WantedNodes
