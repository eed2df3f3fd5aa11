pub mod ServingConnections
pub mod ServiceSteps
