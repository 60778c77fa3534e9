pub mod Entries
pub mod LineOrders
pub mod LineAnswers
pub mod OrderSteps
pub mod HonestRuns
pub mod Views
pub mod Orders
