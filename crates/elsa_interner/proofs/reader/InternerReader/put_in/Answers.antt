use Rattle.std.proofs.Common.{◌≡◌, Some, position, subst}
use Rattle.std.proofs.lemmas.Result.{IfOk-weaker}
use Rattle.std.specs.Str.{bytes_eq}
use Rattle.elsa_interner.proofs.NameLemmas.{at_index, stands_put}
use Rattle.elsa_interner.proofs.reader.InternerReader.put_in.Goals as goal

pub returns-clause-index_after : goal.returns-clause-index_after
returns-clause-index_after g c =
    IfOk-weaker c.put.result _ _ (λ n puts. subst (λ t. position (bytes_eq t) c.put.new.self.0 ≡ Some n) c.sought-sought.ensures.text
    (stands_put c.self.inside.names.0 c.sought-sought.result.text.now n c.put.new.self.0 puts)) c.put.ensures.numbered

pub returns-clause-value_after : goal.returns-clause-value_after
returns-clause-value_after g c =
    IfOk-weaker c.put.result _ _ (λ n found. at_index c.put.new.self.0 c.args.text.now n found) (returns-clause-index_after g c)
