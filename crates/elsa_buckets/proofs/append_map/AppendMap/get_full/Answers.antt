use Rattle.std.proofs.Common.{Some, List, slice_get, ap, subst, sym, ◌∙◌}
use Rattle.std.specs.Map.{keys_of}
use Rattle.std.specs.Prelude.{slice_index_or}
use Rattle.std.proofs.lemmas.List.{get_or_default}
use Rattle.std.proofs.lemmas.Option.{slice_get-get_or}
use Rattle.elsa_buckets.specs.Placed.{key_hash, IsPlaced}
use Rattle.elsa_buckets.proofs.append_map.AppendMap.get_full.Goals as goal

pub search-requires : goal.search-requires
search-requires g c =
    let hash = λ (k : g.row.K.Denot). key_hash g.S.BuildHasher g.S.Hasher.Hasher c.self.inside.hash_builder (g.K.Hash.hash_input k) in
    subst (λ (l : List (g.row.K.Denot × g.row.B.Denot)). IsPlaced g.K.PartialEq.eq hash c.self.inside.table (keys_of l)) (sym c.as_slice-pairs.ensures.value) c.self.invariant

pub returns-in-Ok-clause-entry : goal.returns-in-Ok-clause-entry
returns-in-Ok-clause-entry g c =
    let ps = c.as_slice-pairs.result.now in
    let i = c.in-Ok.index in
    let a = c.index-pairs-index.result in
    let b = c.index-pairs-index-in-Ok.result in
    ap (λ l. slice_get l i) (sym (c.as_slice-pairs.ensures.value ∙ c.self.view_is)) ∙ slice_get-get_or ps i a c.in-Ok.ensures.within
    ∙ ap (λ (p : g.row.K.Denot × g.row.B.Denot). Some ((slice_index_or ps i a).0, p.1)) (get_or_default ps i a b c.in-Ok.ensures.within)
