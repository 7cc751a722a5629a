use Rattle.std.proofs.Common.{ℕ, ap, subst, sym}
use Rattle.std.proofs.lemmas.Result.{IfOk-weaker}
use Rattle.std.specs.Sync.OnceLock.{Named}
use Rattle.elsa_lock_free.specs.SharedList.{items_of}
use Rattle.elsa_lock_free_map.specs.Entries.{Has}
use Rattle.elsa_lock_free_map.proofs.once.MapHandle+K+OnceValue+V+S+A.get_or_try_init.Goals as goal

-- the value is in the lock of the entry
pub returns-in-Ok-clause-found : goal.returns-in-Ok-clause-found
returns-in-Ok-clause-found g c =
    let named : ℕ → Named = λ i. record { id = i } in
    let here = c.in-Ok.ensures.inserted.0 in
    IfOk-weaker c.get_or_try_init.result _ _ (λ m same.
    subst (λ (n : Named). Has g.K.PartialEq.eq (items_of c.get_or_insert_with.new.self.seen) c.args.key n) (ap named (sym same)) (c.in-Ok.entry.index, here)) c.get_or_try_init.ensures.cell
