pub mod ValueTests
pub mod GroupLaws
