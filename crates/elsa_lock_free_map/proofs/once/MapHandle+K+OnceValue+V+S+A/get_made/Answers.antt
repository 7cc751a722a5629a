use Rattle.std.proofs.Common.{ℕ, ap, subst, sym}
use Rattle.std.proofs.lemmas.Option.{IfSome_then}
use Rattle.std.specs.Sync.OnceLock.{Named}
use Rattle.elsa_lock_free.specs.SharedList.{items_of}
use Rattle.elsa_lock_free_map.specs.Entries.{Has}
use Rattle.elsa_lock_free_map.proofs.once.MapHandle+K+OnceValue+V+S+A.get_made.Goals as goal

-- the value is in the lock of the entry
pub returns-clause-found : goal.returns-clause-found
returns-clause-found g c =
    let named : ℕ → Named = λ i. record { id = i } in
    IfSome_then c.get.result c.get.ensures.cell (λ m same.
    subst (λ (n : Named). Has g.Q.Equivalent.equivalent (items_of c.get_ref.new.self.seen) c.args.query n) (ap named (sym same)) c.in_ok-get_ref.ensures.found)
