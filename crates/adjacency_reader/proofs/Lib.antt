pub mod RowLemmas
pub mod PairLemmas
pub mod SetLemmas
pub mod LinkLemmas
