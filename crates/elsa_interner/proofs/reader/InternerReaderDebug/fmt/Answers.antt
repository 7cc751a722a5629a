use Rattle.std.proofs.Common.{◌≡◌, ℕ, List, ap, subst, sym, ◌∙◌}
use Rattle.std.specs.Borrow.{Bor}
use Rattle.std.specs.Fmt.{DisplaysOnOk, debug_list, debug_str}
use Rattle.elsa_interner.proofs.NameLemmas.{listed_names}
use Rattle.elsa_interner.proofs.reader.InternerReaderDebug.fmt.Goals as goal

pub returns : goal.returns
returns g c =
    let ks = c.as_slice.result.now in
    let same : debug_list (λ (b : Bor (List ℕ)). debug_str b.now) ks ≡ debug_list debug_str c.args.self.now =
    sym (listed_names ks) ∙ ap (debug_list debug_str) (c.as_slice.ensures.names ∙ c.self.view_is) in
    record { writes = subst (λ o. DisplaysOnOk g.W.Write.write_str_gives c.args.f.now c.fmt.result o c.fmt.new.f) same c.fmt.ensures.writes }
