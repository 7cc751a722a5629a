use Rattle.std.proofs.Common.{subst, sym}
use Rattle.elsa_lock_free_map.specs.Entries.{InsertsOnce}
use Rattle.elsa_lock_free_map.proofs.handle.MapHandle.try_insert.Goals as goal

pub returns-clause-inserted : goal.returns-clause-inserted
returns-clause-inserted g c = subst (λ r. InsertsOnce g.K.PartialEq.eq c.args.self.now c.try_insert_ref.new.self c.args.key r) (sym c.copied.ensures) c.in_ok-try_insert_ref.ensures.inserted
