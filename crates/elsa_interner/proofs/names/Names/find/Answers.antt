use Rattle.std.proofs.Common.{◌≡◌, ◌-◌, ◌<◌, ◌^◌, ℕ, List, length, position, slice_get, Some, IfSome, ap, subst, rules, arith}
use Rattle.std.proofs.lemmas.List.{length-map}
use Rattle.std.specs.Borrow.{Bor}
use Rattle.std.specs.Str.{bytes_eq}
use Rattle.elsa_interner.proofs.NameLemmas.{few_indices, named_index}
use Rattle.elsa_interner.proofs.names.Names.find.Goals as goal

pub search-requires-clause-counted : goal.search-requires-clause-counted
search-requires-clause-counted g c =
    omega (arith, c.self.invariant.0.counted, length-map c.self.inside.list.items (λ (b : Bor (List ℕ)). b.now), ap length c.as_slice.ensures.value)

pub returns-clause-named : goal.returns-clause-named
returns-clause-named g c =
    let names = c.args.self.now.0 in
    let text = c.args.text.now in
    let found : position (bytes_eq text) names ≡ c.ok.result = search rules in
    subst (λ o. IfSome o (λ n. slice_get names n ≡ Some text)) found (named_index names text)

pub returns-clause-fits : goal.returns-clause-fits
returns-clause-fits g c =
    let names = c.args.self.now.0 in
    let text = c.args.text.now in
    let found : position (bytes_eq text) names ≡ c.ok.result = search rules in
    subst (λ o. IfSome o (λ n. n < 2 ^ 32 - 1)) found (few_indices names text (2 ^ 32 - 1) (omega (arith, c.self.invariant.1, length-map c.self.inside.list.items (λ (b : Bor (List ℕ)). b.now), ap (λ v. length v.0) c.self.view_is)))
