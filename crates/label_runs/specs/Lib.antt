pub mod AttemptLabelsLeft
