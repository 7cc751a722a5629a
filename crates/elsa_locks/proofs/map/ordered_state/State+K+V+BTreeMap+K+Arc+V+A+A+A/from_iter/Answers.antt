use Rattle.elsa_tables.proofs.RuleLemmas.{any_kept}
use Rattle.std.proofs.Common.{◌≡◌, Bool, List, [], ◌∷◌, ◌++◌, Some, refl, if◌then◌else◌}
use Rattle.std.proofs.lemmas.List.{reverse-append}
use Rattle.std.specs.Cmp.{IsEquivalence, eq_by_cmp_equiv}
use Rattle.elsa_tables.specs.FirstWins.{value_at, IsCollected}
use Rattle.elsa_locks.proofs.map.ordered_state.State+K+V+BTreeMap+K+Arc+V+A+A+A.from_iter.Goals as goal

-- If a pair is stored at its key, over what was collected before, the result is what is collected
-- from the earlier pairs and this one.
collected_more : {K V : Type 0} (eq : K → K → Bool) → IsEquivalence eq → (pairs es fs : List (K × V)) (k : K) (v : V) → IsCollected eq pairs es → ((q : K) → value_at eq fs q ≡ (if eq k q then Some v else value_at eq es q)) → IsCollected eq (pairs ++ (k, v) ∷ []) fs
collected_more eq laws pairs es fs k v c h q = rw (reverse-append pairs ((k, v) ∷ []), h q, c q, laws.symm k q) refl

pub loop-key-preserved : goal.loop-key-preserved
loop-key-preserved g c = rw (← c.in_ok-made.ensures.ok) (collected_more _ (eq_by_cmp_equiv g.met.K.Ord.total) c.loop-key.yielded _ _ c.in-Some.key _ c.loop-key.invariant c.in_ok-store.ensures)

pub over-requires : goal.over-requires
over-requires g c = any_kept _ (eq_by_cmp_equiv g.met.K.Ord.total) _
