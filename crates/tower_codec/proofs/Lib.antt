pub mod StepLaws
pub mod Grammar
pub mod Known
pub mod TowersRead
pub mod FaultsRead
pub mod SpellingLaws
pub mod Writing
pub mod RpcLaws
pub mod Cuts
pub mod UuidTexts
pub mod Numbers
pub mod BindingLaws
pub mod BindingFaults
mod Examples
