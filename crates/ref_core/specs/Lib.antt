pub mod KeepingSlotRule
