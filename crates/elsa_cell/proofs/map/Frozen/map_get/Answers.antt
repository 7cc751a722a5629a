use Rattle.std.proofs.Common.{refl}
use Rattle.elsa_cell.proofs.map.Frozen.map_get.Goals as goal

pub returns : goal.returns
returns g c = record { mapped = (c.in_ok-value.value.now, c.in_ok-value.ensures.holds, (c.in_ok-value.value, c.f.ensures, refl)) }
