use Rattle.std.proofs.Common.{◌∷◌, ◌++◌, ◌+◌, [], Some, length, ap, subst, sym, ◌∙◌}
use Rattle.elsa_hash_index.specs.Entries.{keys_of, HasLoad, IndexesKeys}
use Rattle.elsa_hash_index.specs.Row.{word_at, count_of, builder_of}
use Rattle.elsa_hash_index.proofs.EntryLemmas.{all_keys, grown_by}
use Rattle.elsa_hash_index.proofs.entry.regrown.Goals as goal

pub returns-clause-same_row : goal.returns-clause-same_row
returns-clause-same_row g c =
    ap (λ s. s.book) c.into_seen-seen.ensures ∙ (ap (λ r. r.0) c.enter.ensures.same.1 ∙ (ap (λ r. r.0) c.enter_all.ensures.same.1 ∙ ap (λ s. s.book) c.view-view.ensures.fresh))

pub returns-clause-behind : goal.returns-clause-behind
returns-clause-behind g c v =
    let es = g.L.Shelf.seen c.args.list.now in
    let n = c.seen_len-n.result in
    let len = c.seen_len-n.ensures.0 in
    let after = c.enter.new.words in
    let builder = c.args.builder in
    let same = ap (λ r. r.1) c.enter.ensures.same.1 ∙ (ap (λ r. r.1) c.enter_all.ensures.same.1 ∙ (ap (λ r. r.builder) c.view-view.ensures.same_row ∙ c.in_ok-row.ensures.1)) in
    let all = all_keys (g.L.Shelf.hash builder) es n _ (λ k. word_at k c.enter_all.new.words.seen.log) len c.in_ok-enter_all.ensures.entered in
    let counted = ap (λ s. count_of s.log) c.into_seen-seen.ensures ∙ (after.opened ∙ (c.enter.ensures.same.0 ∙ (c.enter_all.ensures.same.0 ∙ (ap (λ r. r.count) c.view-view.ensures.same_row ∙ c.in_ok-row.ensures.0)))) in
    record {
      absent = c.requires.absent_key;
      load = subst (λ k. HasLoad k (length es + 1)) (sym counted) c.requires.load;
      indexes = record {
        builder = builder;
        built = ap (λ s. builder_of s.log) c.into_seen-seen.ensures ∙ (after.built ∙ ap Some same);
        all = subst (λ s. IndexesKeys (g.L.Shelf.hash builder) (count_of s.log) (λ k. word_at k s.log) (keys_of es ++ c.args.key.now ∷ [])) (sym c.into_seen-seen.ensures)
            (grown_by (g.L.Shelf.hash builder) es c.args.key.now _ _ (λ k. word_at k c.enter_all.new.words.seen.log) after.seen.log c.hash_of.result n all c.enter.ensures.same.0 after.opened c.enter.ensures.later c.hash_of.ensures len c.in_ok-enter.ensures.entered);
      };
    }
