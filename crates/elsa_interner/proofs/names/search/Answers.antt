use Rattle.std.proofs.Common.{ap, sym, ◌∙◌, arith}
use Rattle.std.proofs.lemmas.Result.{IfOk-weaker, on_err_weaker}
use Rattle.std.specs.Str.{bytes_eq}
use Rattle.elsa_interner.proofs.NameLemmas.{found_here, found_nowhere}
use Rattle.elsa_interner.proofs.names.search.Goals as goal

pub search-requires : goal.search-requires
search-requires g c index within = omega (arith, within, c.requires.counted)

pub returns-then-same_text-clause-found : goal.returns-then-same_text-clause-found
returns-then-same_text-clause-found g c =
    let text = c.args.text.now in
    let read = c.in-Some.ensures.lookup.3 in
    found_here c.args.names.now text c.args.known.guess c.requires.one_to_one read.0
    (λ d. sym c.if-same_text.true ∙ c.same_text.ensures ∙ ap (λ b. bytes_eq text b.now) (read.1 d))

pub returns : goal.returns
returns g c =
    let ks = c.args.names.now in
    let text = c.args.text.now in
    record {
      found = IfOk-weaker c.search.result _ _ (λ i h. found_here ks text i c.requires.one_to_one (omega (arith, h.0, c.requires.counted)) h.1) c.search.ensures.found;
      absent = on_err_weaker c.search.result (λ h. found_nowhere ks text (λ i there. h i (c.requires.entered i there))) c.search.ensures.absent;
      vacancy = c.search.ensures.vacancy;
    }
