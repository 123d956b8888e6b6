pub mod KeyWordLemmas
pub mod SetWordLemmas
pub mod WrittenWords
pub mod OrderLemmas
pub mod RowPairLemmas
pub mod PlaceLemmas
