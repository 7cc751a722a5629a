-- A record of items as a value. Assumes `Logic`.
use Rattle.std.proofs.Common.{List, [], ◌∷◌, refl}
use seplogic.Ra.Ura.{Ura}
use mir.Val.{vstruct, vnil}
use base.Fml.{ftrue}
use base.Logic.{ent}
use types.Logic.{Logic, sem}
use types.Kit.{‵, ◌$◌, ◌∵◌, !, qed, use0, done}
use denote.RattleType.{RattleType}
use denote.Shadow.{makes_shadow}
use denote.Struct.Struct.{Struct}
use denote.Struct.Owning.{shape}
use Rattle.elsa_slots.specs.contracts.slots.sink.Received as Received
use Rattle.elsa_slots.proofs.SlotLemmas.Tokens.{token_val}

-- A record is made of nothing.
pub record_made : {M : Type 1} {𝓤 : Ura M} (𝓛 : Logic 𝓤) (R : RattleType) (xs : List R.Denot)
    → ent 𝓤 (sem 𝓛 ftrue) (sem 𝓛 ((Received.the_row R).own_val (record { marker = record {}; items = xs }) (token_val ∷ [])))
record_made 𝓛 R xs = let F = (Struct (shape (Received.the_type R))).own_val (tt, tt) (token_val ∷ []) in
    qed 𝓛 (‵ ftrue ∷ []) ∵ use0 𝓛 (‵ F) (makes_shadow 𝓛 F (λ vss. (tt, ((λ uss. (tt, tt)), tt))) ((vstruct vnil ∷ [], tt), (refl, ((tt, (refl, tt)), tt)))) $ done !
