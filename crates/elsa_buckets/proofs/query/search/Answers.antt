use Rattle.std.proofs.Common.{◌≡◌, true, ap, sym, ◌∙◌}
use Rattle.elsa_buckets.specs.Placed.{key_hash}
use Rattle.elsa_buckets.proofs.PlacedLemmas.{found_at, found_nowhere}
use Rattle.elsa_buckets.proofs.query.search.Goals as goal

pub returns-in-Ok-clause-found : goal.returns-in-Ok-clause-found
returns-in-Ok-clause-found g c keys placed compared =
    found_at _ g.met.K.Eq.laws _ (g.Q.Query.finds c.args.query) (g.met.Q.Query.respects_eq c.args.query) c.args.table.now keys c.in-Ok.index placed c.in-Ok.ensures.found.0
    (λ k at. sym (compared c.in-Ok.index true k at c.in-Ok.ensures.found.1))

pub returns-in-Err-clause-absent : goal.returns-in-Err-clause-absent
returns-in-Err-clause-absent g c keys placed compared =
    let agrees = λ (k : g.row.K.Denot) (pass : g.Q.Query.finds c.args.query k ≡ true).
    c.hash_of-hash.ensures ∙ ap (key_hash g.S.BuildHasher g.S.Hasher.Hasher c.args.hash_builder.now) (g.met.Q.Query.respects_hash c.args.query k pass) in
    found_nowhere _ g.met.K.Eq.laws _ (g.Q.Query.finds c.args.query) c.args.table.now keys c.hash_of-hash.result placed agrees
    (λ p k has at. sym (compared p _ k at (c.in-Err.ensures.absent p has)))
