pub mod TextsInOrder
pub mod Refusing
