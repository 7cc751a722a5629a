use denote.RattleType.{RattleType}
use denote.Param.Send.{IsSend}
use Rattle.counted_slot.specs.declared.Fits.{Ghosts}
use Rattle.elsa_arena.specs.contracts.kept.Kept.{the_row}

-- A cell may be sent to another thread if its value may.
pub send : (T G : RattleType) (g : Ghosts T.Denot G.Denot) → IsSend T → IsSend (the_row T G g)
send T G g s = record { owned = λ d vs. ((λ _. tt), λ z. ((λ vss. (tt, (s.owned z vss.0, tt))), λ _. tt)); leaving = λ k d w. tt }
