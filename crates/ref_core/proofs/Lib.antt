pub mod SlotKeptRules
