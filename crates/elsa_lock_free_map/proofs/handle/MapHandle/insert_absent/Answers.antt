use Rattle.std.proofs.Common.{◌≡◌, true, false, length, subst, ap, sym, ◌∙◌, ◌∷◌, [], ◌++◌, arith}
use base.Growing.{prefix_trans}
use Rattle.elsa_lock_free.specs.SharedList.{items_of, mine}
use Rattle.elsa_lock_free_map.specs.Entries.{PushesPair, Lacks}
use Rattle.elsa_lock_free_map.proofs.MapLemmas.{err_at, inserts_since, ok_at, pushed_at, stands_at}
use Rattle.elsa_lock_free_map.proofs.handle.MapHandle.insert_absent.Goals as goal

pub returns-in-Ok-clause-inserted : goal.returns-in-Ok-clause-inserted
returns-in-Ok-clause-inserted g c =
    let eq = g.K.PartialEq.eq in let b = c.loop.self in let after = c.push_absent.new.self in let i = c.in-Ok.index in let inv = c.loop.invariant in let key = c.args.key in let item = c.entry.result.now in
    let raw = ok_at c.in_ok-index.field-0 i _ c.in-Ok.is c.in_ok-index.ensures.pushed in
    let up = subst (λ q. (i ≡ length b.seen) × PushesPair b after q.0 q.1) inv.7 raw in
    let here = pushed_at eq g.met.K.Eq.laws.refl b after i key c.args.value up in let at = up.0 in
    inserts_since eq c.args.self.now b after key (record { value = item.value; index = i; is_new = true }) ((inv.2, inv.3), inv.4, inv.5) c.requires.absent
    (stands_at eq (items_of after.seen) i key item (here.0, here.1, here.2) c.entry.ensures) (omega (arith, at), up.1.3.1 ∙ ap (λ i. mine b ++ i ∷ []) (sym at))

pub returns-in-Some-seen_find-clause-inserted : goal.returns-in-Some-seen_find-clause-inserted
returns-in-Some-seen_find-clause-inserted g c =
    let eq = g.K.PartialEq.eq in let b = c.loop.self in let after = c.push_absent.new.self in let i = c.in-Some-seen_find.index in let inv = c.loop.invariant in let key = c.args.key in let item = c.entry-in-Some-seen_find.result.now in
    let back = err_at c.in_ok-index.field-0 (c.in-Err.key, c.in-Err.value) _ c.in-Err.is c.in_ok-index.ensures.again in
    let same = ap (λ q. q.0) (back.0 ∙ inv.7) in let f = c.in-Some-seen_find.ensures.found in
    inserts_since eq c.args.self.now b after key (record { value = item.value; index = i; is_new = false }) ((inv.2, inv.3), inv.4, inv.5) c.requires.absent
    (stands_at eq (items_of after.seen) i key item (f.0, f.1, subst (λ k. eq k f.0.key ≡ true) same f.2) c.entry-in-Some-seen_find.ensures) back.1

pub loop-preserved : goal.loop-preserved
loop-preserved g c =
    let inv = c.loop.invariant in let later = c.push_absent.ensures.later in
    let back = err_at c.in_ok-index.field-0 (c.in-Err.key, c.in-Err.value) _ c.in-Err.is c.in_ok-index.ensures.again in let pair = back.0 ∙ inv.7 in
    (tt, tt, later.0.0 ∙ inv.2, later.0.1 ∙ inv.3, prefix_trans c.args.self.now.seen c.loop.self.seen c.push_absent.new.self.seen inv.4 later.1, back.1 ∙ inv.5, subst (λ k. Lacks g.K.PartialEq.eq (items_of c.push_absent.new.self.seen) k) (ap (λ q. q.0) pair) c.in_default.ensures.absent, pair)
