use types.Keyed.{entries_keyless, token}
use denote.Param.Send.{IsSend}
use Rattle.elsa_lock_free.specs.contracts.tokens.Writer.{the_row}

-- a writer may go to another thread: it is a name, and its tickets belong to no thread
pub send : IsSend the_row
send = record { owned = λ d vs. ((λ vss. (tt, ((λ uss. (tt, tt)), tt))), entries_keyless token d.name d.used (λ _. tt)); leaving = λ k f vs. tt }
