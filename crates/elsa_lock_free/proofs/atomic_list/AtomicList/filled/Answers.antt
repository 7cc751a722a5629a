use Rattle.std.proofs.Common.{refl, arith}
use Rattle.elsa_slots.specs.contracts.slots.buffer.Buffer as Buffer
use Rattle.elsa_lock_free.specs.OneWord.{begins}
use Rattle.elsa_lock_free.proofs.RuleLemmas.EachNew.{none_is_new}
use Rattle.elsa_lock_free.proofs.RuleLemmas.Keyless.{rule_owns_keyless}
use Rattle.elsa_lock_free.proofs.atomic_list.AtomicList.filled.Goals as goal

pub open-first-requires : goal.open-first-requires
open-first-requires g c = (record { words = refl; small = omega arith; each_is_new = none_is_new g.K.ItemRule.is_new; made = begins }, rule_owns_keyless g.row.T (Buffer.the_row g.row.T g.row.A g.row.X g.A.Allocator) (λ r. r.0) (λ r item. g.X.Beside.fits r.1 item) c.start-start.result.0.names, c.start-start.ensures.0)
