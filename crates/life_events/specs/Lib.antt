pub mod LifeEventOfStep
