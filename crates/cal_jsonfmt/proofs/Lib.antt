pub mod Escapes
pub mod WritingLemmas
pub mod ChoosingLemmas
pub mod ObjectLemmas
pub mod KeyLemmas
pub mod NumberLemmas
