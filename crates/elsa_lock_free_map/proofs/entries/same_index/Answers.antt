use Rattle.std.proofs.Common.{fold, subst, sym, ◌∙◌}
use mathlib.Core.List.{IsPrefix}
use Rattle.elsa_lock_free.specs.SharedList.{items_of}
use Rattle.elsa_lock_free.proofs.RuleLemmas.History.{items_prefix}
use Rattle.elsa_lock_free_map.specs.Entries.{MayFollow, short}
use Rattle.elsa_lock_free_map.proofs.MapLemmas.{each_first, entries_agree, keys_agree}
use Rattle.elsa_lock_free_map.proofs.entries.same_index.Goals as goal

pub returns-clause-index : goal.returns-clause-index
returns-clause-index g c =
    let mine = c.args.pass.now.seen in
    let theirs = c.args.other.now.seen in
    let all = c.meet.new.self.seen in
    let both = c.meet.ensures.1.1 ∙ sym c.meet.ensures.1.0 in
    let one = subst (λ l. IsPrefix l all) c.again-one.ensures.1 c.meet.ensures.0.0.1 in
    let other = subst (λ l. IsPrefix l all) c.again-two.ensures.1 (subst (λ l. IsPrefix c.again-two.result.seen l) both c.meet.ensures.0.1.1) in
    let rule = each_first (MayFollow g.K.PartialEq.eq (λ s k. short (g.S.Hasher.Hasher.finish (fold g.S.Hasher.Hasher.write (g.S.BuildHasher.build_hasher s) (g.K.Hash.hash_input k))))) (λ e. g.L.EntryRule.holds e.key e.value) all c.obeys_rule.ensures.entries in
    keys_agree g.K.PartialEq.eq (λ s k. short (g.S.Hasher.Hasher.finish (fold g.S.Hasher.Hasher.write (g.S.BuildHasher.build_hasher s) (g.K.Hash.hash_input k)))) g.met.K.Eq.laws.symm
    (items_of mine) (items_of theirs) (items_of all) (items_prefix mine all one) (items_prefix theirs all other) rule

pub returns-clause-value : goal.returns-clause-value
returns-clause-value g c =
    let mine = c.args.pass.now.seen in
    let theirs = c.args.other.now.seen in
    let all = c.meet.new.self.seen in
    let both = c.meet.ensures.1.1 ∙ sym c.meet.ensures.1.0 in
    let one = subst (λ l. IsPrefix l all) c.again-one.ensures.1 c.meet.ensures.0.0.1 in
    let other = subst (λ l. IsPrefix l all) c.again-two.ensures.1 (subst (λ l. IsPrefix c.again-two.result.seen l) both c.meet.ensures.0.1.1) in
    let rule = each_first (MayFollow g.K.PartialEq.eq (λ s k. short (g.S.Hasher.Hasher.finish (fold g.S.Hasher.Hasher.write (g.S.BuildHasher.build_hasher s) (g.K.Hash.hash_input k))))) (λ e. g.L.EntryRule.holds e.key e.value) all c.obeys_rule.ensures.entries in
    entries_agree g.K.PartialEq.eq (λ s k. short (g.S.Hasher.Hasher.finish (fold g.S.Hasher.Hasher.write (g.S.BuildHasher.build_hasher s) (g.K.Hash.hash_input k)))) g.met.K.Eq.laws.symm g.met.K.Eq.laws.congr
    (items_of mine) (items_of theirs) (items_of all) (items_prefix mine all one) (items_prefix theirs all other) rule
