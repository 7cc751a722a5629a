pub mod Fibonacci
pub mod KeyLaws
pub mod Parts
pub mod Rising
