use Rattle.std.proofs.Common.{arith, ◌∙◌}
use Rattle.std.proofs.lemmas.List.{get_or-set_same, get_or-set_other}
use Rattle.elsa_buckets.proofs.groups.Group.fill.Goals as goal

pub returns : goal.returns
returns c =
    let g = c.args.self.now in
    let k = c.args.lane in
    record {
      tag = get_or-set_same g.tags k _ 0 (omega arith) ∙ c.tag_of.ensures;
      number = get_or-set_same g.numbers k _ 0 (omega arith);
      other_tags = λ j ne. get_or-set_other g.tags k j _ 0 ne;
      other_numbers = λ j ne. get_or-set_other g.numbers k j _ 0 ne;
    }
