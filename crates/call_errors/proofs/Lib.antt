pub mod Deciding
pub mod KeepingThroughErrors
pub mod Accounts
