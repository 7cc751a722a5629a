pub mod Fibonacci
