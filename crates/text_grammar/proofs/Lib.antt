pub mod ScriptLemmas
pub mod BitLemmas
pub mod GrammarLemmas
pub mod TestLemmas
pub mod CuttingLemmas
pub mod EntryLemmas
pub mod NameLemmas
pub mod PostLemmas
