-- What holds of lists that are compared.
pub mod Pointwise
pub mod Prefix
