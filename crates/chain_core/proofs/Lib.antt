pub mod ChainKeptRules
