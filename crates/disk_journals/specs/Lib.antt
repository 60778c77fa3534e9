pub mod KeptJournals
