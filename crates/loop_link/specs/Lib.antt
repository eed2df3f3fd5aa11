pub mod ServingFedBytes
