pub mod FileLemmas
pub mod LogSteps
pub mod MemoryLemmas
pub mod SumLemmas
