use Rattle.std.proofs.Common.{◌≡◌, ◌+◌, List, ℕ, suc, length, take, refl, ap, sym, subst, ◌∙◌, arith}
use Rattle.std.proofs.lemmas.List.{length-take}
use Rattle.std.proofs.Math.Nat.{min-eq_left}
use Rattle.std.proofs.Math.Seq.{take-length}
use base.Growing.{prefix_trans}
use mathlib.Core.List.{IsPrefix}
use Rattle.elsa_lock_free.specs.SharedList.{AppendsAll, BeginsAmong, PushedAll, written_by}
use Rattle.elsa_lock_free.specs.History.{list_of}
use Rattle.elsa_lock_free.proofs.RuleLemmas.WriterIndices.{extend_indices, read_indices}
use Rattle.elsa_lock_free.proofs.handle.Handle+T+A.extend.Goals as goal

pub returns-clause-pushed : goal.returns-clause-pushed
returns-clause-pushed g c =
    let v = c.parts-seen.result.0.log in let log = c.extend-seen.result.0.log in let a = suc c.parts-seen.result.1.name in let n = c.parts-seen.result.1.used in let p = c.parts-seen.ensures in let up = c.extend-seen.ensures in let i = c.extend-seen.result.2 in
    let items : List g.row.T.Denot = take c.extend-seen.result.3 c.args.items.now in let many : length items ≡ c.extend-seen.result.3 = length-take c.extend-seen.result.3 c.args.items.now ∙ min-eq_left up.count.0 in
    let now = up.mine.0 ∙ (up.mine.1 ∙ ap (λ (k : ℕ). n + k) (sym many)) in
    let stand : AppendsAll (list_of v) (list_of log) i (written_by a items) = up.pushed in
    let more = extend_indices a n i (list_of v) (list_of log) items stand p.mine now in
    let few = c.if-pushed-items.false in let most = up.count.0 in let whole : items ≡ c.args.items.now = ap (λ (k : ℕ). take k c.args.items.now) (let z : c.extend-seen.result.3 ≡ length c.args.items.now = omega (arith, few, most) in z) ∙ take-length c.args.items.now in
    subst (λ (xs : List g.row.T.Denot). PushedAll c.args.self.now c.of.result i xs) whole
    (rw (sym c.self.view_is ∙ (sym c.lend.ensures.same_view ∙ p.same_view), c.of.ensures, up.same.1) (record { same = (cc (up.same.0.0, up.same.0.1), refl); stand = stand; indices = more }))

pub returns-then-pushed-items-clause-refused : goal.returns-then-pushed-items-clause-refused
returns-then-pushed-items-clause-refused g c =
    let v = c.parts-seen.result.0.log in let log = c.extend-seen.result.0.log in let a = suc c.parts-seen.result.1.name in let n = c.parts-seen.result.1.used in let p = c.parts-seen.ensures in let up = c.extend-seen.ensures in
    let why = up.refused c.if-pushed-items.true in let none = why.0 in let m = up.mine.0 in let u = up.mine.1 in let stand = up.pushed in
    let pre : IsPrefix (list_of v) (list_of log) = prefix_trans (list_of v) stand.0 (list_of log) stand.1 (written_by a (take c.extend-seen.result.3 c.args.items.now), sym stand.3) in
    let same = (read_indices a n (list_of v) (list_of log) pre p.mine (omega (arith, m, u, none))).1 in
    let long = up.length in let at : c.extend-seen.result.2 ≡ length (list_of log) = omega (arith, long, none) in
    rw (sym c.self.view_is ∙ (sym c.lend.ensures.same_view ∙ p.same_view), c.of.ensures, up.same.1)
    (((cc (up.same.0.0, up.same.0.1), refl), pre, same), subst (λ (i : ℕ). BeginsAmong i (length c.args.items.now)) at why.1)
