pub mod ServerTowers
pub mod TowerFaults
pub mod Clients
pub mod Exports
