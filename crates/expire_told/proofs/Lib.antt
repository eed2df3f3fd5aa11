pub mod ClientAtOperation
pub mod StoredIdsOfCalls
pub mod ExpireEndedCall
pub mod OperationWordStorers
pub mod ExpireOutcomeCauses
pub mod WholeExpireReasons
pub mod JoinOutcomesWithCalls
