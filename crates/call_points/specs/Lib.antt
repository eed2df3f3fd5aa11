pub mod AsideCodeSteps
pub mod CallIdPoints
