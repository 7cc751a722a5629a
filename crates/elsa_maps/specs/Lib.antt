pub mod FirstWins
pub mod InsertFault
pub mod Lent
