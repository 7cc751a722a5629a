use Rattle.std.proofs.Common.{◌≡◌, ◌<◌, None, Some, arith, length, position}
use Rattle.std.proofs.lemmas.List.{length-map}
use Rattle.std.proofs.lemmas.Result.{IfOk-weaker, on_err_weaker}
use Rattle.std.specs.Map.{keys_of, lookup, lookup_key}
use Rattle.std.specs.Prelude.{slice_index_or}
use Rattle.indexmap.proofs.MapLemmas.{Found-position, Missing-position}
use Rattle.elsa_buckets.proofs.AppendLemmas.{compared_keys, key_there, value_there}
use Rattle.elsa_buckets.proofs.append_map.search.Goals as goal

pub search-requires : goal.search-requires
search-requires g c index within = omega (arith, within, c.requires.counted, length-map c.args.pairs.now (λ e. e.0))

-- The index of the first key that the query finds, and the entry there.
pub returns-clause-found : goal.returns-clause-found
returns-clause-found g c =
    let pairs = c.args.pairs.now in let test = g.Q.Query.finds c.args.query in
    IfOk-weaker c.search.result _ (λ i. position test (keys_of pairs) ≡ Some i)
    (λ n h. h (keys_of pairs) c.requires (λ i b k at post. compared_keys test pairs i b k at post))
    c.search.ensures.found

pub returns-clause-within : goal.returns-clause-within
returns-clause-within g c =
    let pairs = c.args.pairs.now in let test = g.Q.Query.finds c.args.query in
    IfOk-weaker c.search.result (λ i. position test (keys_of pairs) ≡ Some i) (λ i. i < length pairs)
    (λ i at. (Found-position test pairs i at).within) (returns-clause-found g c)

pub returns-clause-found_key : goal.returns-clause-found_key
returns-clause-found_key g c =
    let pairs = c.args.pairs.now in let test = g.Q.Query.finds c.args.query in
    IfOk-weaker c.search.result (λ i. position test (keys_of pairs) ≡ Some i) (λ i. (d : g.row.K.Denot × g.row.B.Denot) → lookup_key test pairs ≡ Some (slice_index_or pairs i d).0)
    (λ i at. key_there test pairs i at) (returns-clause-found g c)

pub returns-clause-value : goal.returns-clause-value
returns-clause-value g c =
    let pairs = c.args.pairs.now in let test = g.Q.Query.finds c.args.query in
    IfOk-weaker c.search.result (λ i. position test (keys_of pairs) ≡ Some i) (λ i. (d : g.row.K.Denot × g.row.B.Denot) → lookup test pairs ≡ Some (slice_index_or pairs i d).1)
    (λ i at. value_there test pairs i at) (returns-clause-found g c)

-- There is none.
pub returns-clause-absent : goal.returns-clause-absent
returns-clause-absent g c =
    let pairs = c.args.pairs.now in let test = g.Q.Query.finds c.args.query in
    on_err_weaker c.search.result
    (λ h. h (keys_of pairs) c.requires (λ i b k at post. compared_keys test pairs i b k at post))
    c.search.ensures.absent

pub returns-clause-no_key : goal.returns-clause-no_key
returns-clause-no_key g c =
    let pairs = c.args.pairs.now in let test = g.Q.Query.finds c.args.query in
    on_err_weaker {P = position test (keys_of pairs) ≡ None} c.search.result (λ none. (Missing-position test pairs none).key) (returns-clause-absent g c)

pub returns-clause-no_value : goal.returns-clause-no_value
returns-clause-no_value g c =
    let pairs = c.args.pairs.now in let test = g.Q.Query.finds c.args.query in
    on_err_weaker {P = position test (keys_of pairs) ≡ None} c.search.result (λ none. (Missing-position test pairs none).value) (returns-clause-absent g c)
