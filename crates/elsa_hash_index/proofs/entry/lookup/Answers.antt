use Rattle.std.proofs.Common.{◌-◌, ap, ◌∙◌, sym, arith}
use Rattle.elsa_hash_index.specs.Entries.{keys_of}
use Rattle.elsa_hash_index.specs.Row.{word_at}
use Rattle.elsa_hash_index.proofs.EntryLemmas.{absent_by, entry_at, get_within, indexed_by, last_indexes, later_indexes, some_weaker, none_weaker}
use Rattle.elsa_hash_index.proofs.entry.lookup.Goals as goal

pub returns-clause-found : goal.returns-clause-found
returns-clause-found g c =
    let es = g.L.Shelf.seen c.args.list.now in
    let len = c.seen_len-n.ensures.0 in
    some_weaker c.find.result _ _ (λ p h. let at = get_within es p (let lt = h.0 in omega (arith, lt, len)) in (at.0, at.1, sym (h.1 at.0 at.1))) c.find.ensures.found

pub returns-clause-absent : goal.returns-clause-absent
returns-clause-absent g c =
    let es = g.L.Shelf.seen c.args.list.now in
    let n = c.seen_len-n.result in
    let len = c.seen_len-n.ensures.0 in
    let some = c.if-n-eq0.false in
    let last = c.item-last.result.now in
    let before = last_indexes g.K.PartialEq.eq g.L.Shelf.hash es (n - 1) last c.obeys_rule.ensures (omega (arith, len, some)) c.item-last.ensures in
    let view = c.of-view.result in
    let now = later_indexes g.L.Shelf.hash (keys_of es) last.seen.log view.seen.log c.of-view.ensures.known before in
    let all = indexed_by g.L.Shelf.hash (keys_of es) view.seen.log view.row.now.builder view.row.now.count view.built view.opened now in
    let builder = view.row.now.builder in
    let hashed = c.hash_of-hash.ensures ∙ ap (g.Q.Sought.hash c.args.sought.now) c.builder-builder.ensures in
    none_weaker c.find.result _ _
    (λ refused. absent_by (g.Q.Sought.stands_for c.args.sought.now) (g.L.Shelf.hash builder) es view.row.now.count (λ k. word_at k view.seen.log) c.hash_of-hash.result n (λ y e. hashed ∙ c.requires.lawful builder y e) len all refused (entry_at es))
    c.find.ensures.absent
