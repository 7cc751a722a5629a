use Rattle.std.proofs.Common.{arith}
use Rattle.std_alloc.specs.String.{string_bytes}
use Rattle.std.proofs.lemmas.Result.{IfOk-weaker, on_err_weaker}
use Rattle.elsa_c.proofs.TextLemmas.{found_here, found_nowhere}
use Rattle.elsa_c.proofs.names.search.Goals as goal

pub search-requires : goal.search-requires
search-requires c index within = omega (arith, within, c.requires.counted)

pub returns : goal.returns
returns c =
    let ks = c.args.names.now in
    let text = c.args.text.now in
    record {
      found = IfOk-weaker c.search.result _ _ (λ i h. found_here string_bytes ks text i c.requires.one_to_one (omega (arith, h.0, c.requires.counted)) h.1) c.search.ensures.found;
      absent = on_err_weaker c.search.result (λ h. found_nowhere string_bytes ks text (λ i there. h i (c.requires.entered i there))) c.search.ensures.absent;
      vacancy = c.search.ensures.vacancy;
    }
