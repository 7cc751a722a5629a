use Rattle.std.proofs.Common.{ap}
use Rattle.elsa_lock_free_map.proofs.once.MapHandle+K+OnceValue+V+S+A.same_value.Goals as goal

pub agrees-requires : goal.agrees-requires
agrees-requires g c =
    let f = c.requires.found in
    let same = c.same_index.ensures.value f.0 f.1.0 f.2.0 _ _ f.1.1 f.2.1 in
    ap (λ n. n.id) same.1
