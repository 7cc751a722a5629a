-- What holds of a vector's history under its rule, and what each atomic step offers and gains.
pub mod WriterBound
pub mod WriterIndices
pub mod EachNew
pub mod History
pub mod Hold
pub mod HoldEnd
pub mod Keyless
pub mod Made
pub mod Offers
pub mod Steps
pub mod Tails
pub mod Tickets
