use Rattle.std.proofs.Common.{◌≡◌, ◌+◌, ◌-◌, ◌∷◌, ◌++◌, [], Some, length, slice_get, ap, subst, sym, ◌∙◌, arith}
use Rattle.elsa_hash_index.specs.Entries.{keys_of, HasLoad, IndexesKeys}
use Rattle.elsa_hash_index.specs.Row.{word_at, count_of, builder_of}
use Rattle.elsa_hash_index.proofs.EntryLemmas.{indexed_by, last_indexes, last_load, later_indexes, grown_by}
use Rattle.elsa_hash_index.proofs.RowLemmas.{count_prefix}
use Rattle.elsa_hash_index.proofs.entry.entered.Goals as goal

pub returns-clause-same_row : goal.returns-clause-same_row
returns-clause-same_row g c last at =
    let es = g.L.Shelf.seen c.args.list.now in
    let n = c.seen_len-n.ensures.0 in
    let some = c.requires.not_empty in
    let here : length es - 1 ≡ c.seen_len-n.result - 1 = omega (arith, n) in
    let same : Some last ≡ Some c.item-last.result.now = sym at ∙ (ap (slice_get es) here ∙ c.item-last.ensures) in
    let is : last ≡ c.item-last.result.now = cc same in
    ap (λ s. s.book) c.into_seen.ensures ∙ (ap (λ r. r.0) c.enter.ensures.same.1 ∙ (c.of-view.result.of ∙ (ap (λ r. r.first.book) c.of-view.ensures.same_row ∙ (sym (c.row.ensures c.item-last.result.now c.item-last.ensures) ∙ ap (λ e. e.seen.book) (sym is)))))

pub returns-clause-behind : goal.returns-clause-behind
returns-clause-behind g c v =
    let es = g.L.Shelf.seen c.args.list.now in
    let n = c.seen_len-n.result in
    let len = c.seen_len-n.ensures.0 in
    let some = c.requires.not_empty in
    let last = c.item-last.result.now in
    let before = last_indexes g.K.PartialEq.eq g.L.Shelf.hash es (n - 1) last c.obeys_rule.ensures (omega (arith, len, some)) c.item-last.ensures in
    let view = c.of-view.result in
    let now = later_indexes g.L.Shelf.hash (keys_of es) last.seen.log view.seen.log c.of-view.ensures.known before in
    let after = c.enter.new.words in
    let builder = view.row.now.builder in
    let all = indexed_by g.L.Shelf.hash (keys_of es) view.seen.log builder view.row.now.count view.built view.opened now in
    let same = ap (λ r. r.1) c.enter.ensures.same.1 in
    let counted = ap (λ s. count_of s.log) c.into_seen.ensures ∙ (after.opened ∙ c.enter.ensures.same.0) in
    let kept = last_load g.K.PartialEq.eq g.L.Shelf.hash es (n - 1) last c.obeys_rule.ensures (omega (arith, len, some)) c.item-last.ensures in
    let least = kept.0 in
    let most = kept.1 in
    let opened = view.opened in
    let free = c.if-n-count.false in
    let read = c.len-count.ensures in
    let same_count = count_prefix last.seen.log view.seen.log c.of-view.ensures.known (omega (arith, least, some)) in
    record {
      absent = c.requires.absent_key;
      load = subst (λ k. HasLoad k (length es + 1)) (sym counted) (omega (arith, free, read, len), omega (arith, most, same_count, opened));
      indexes = record {
        builder = builder;
        built = ap (λ s. builder_of s.log) c.into_seen.ensures ∙ (after.built ∙ ap Some same);
        all = subst (λ s. IndexesKeys (g.L.Shelf.hash builder) (count_of s.log) (λ k. word_at k s.log) (keys_of es ++ c.args.key.now ∷ [])) (sym c.into_seen.ensures)
            (grown_by (g.L.Shelf.hash builder) es c.args.key.now view.row.now.count after.row.now.count (λ k. word_at k view.seen.log) after.seen.log c.hash_of.result n all c.enter.ensures.same.0 after.opened c.enter.ensures.later
            (c.hash_of.ensures ∙ ap (λ s. g.L.Shelf.hash s c.args.key.now) c.builder-builder.ensures) len c.in_ok-enter.ensures.entered);
      };
    }
