pub mod WordLists
pub mod CallEnds
pub mod CallLaws
