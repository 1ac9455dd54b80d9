pub mod CodeListLemmas
pub mod ToleranceLemmas
pub mod DigitsBack
