use Rattle.std_alloc.specs.String.{string_bytes}
use Rattle.elsa_c.proofs.SharedLemmas.{another}
use Rattle.elsa_c.proofs.shared_kept.SharedKept.again.Goals as goal

pub returns : goal.returns
returns c = record { same = another string_bytes c.args.self.now c.self.inside.pass c.again-pass.result c.self.view_is c.again-pass.ensures }
