use Rattle.std.proofs.Common.{◌≢◌, ap, sym, ◌∙◌}
use Rattle.elsa_lock_free.proofs.RuleLemmas.WriterIndices.{apart_indices}
use Rattle.elsa_lock_free.proofs.pass.Pass.met.Goals as goal

pub returns-then-seen_len-clause-apart : goal.returns-then-seen_len-clause-apart
returns-then-seen_len-clause-apart g c = let t = c.known_apart-one.ensures in let r = c.raised-two.ensures in
    let one = c.known_apart-one.result.0 in let two = c.raised-two.result in
    let differ : one.writer ≢ two.writer = λ e. t.2 (ap (λ z. z.writer) (sym t.0) ∙ (e ∙ (r.same.1 ∙ ap (λ z. z.writer) t.1))) in
    rw (r.seen.0) (apart_indices one.writer two.writer one.seen differ)

pub returns-else-seen_len-clause-apart : goal.returns-else-seen_len-clause-apart
returns-else-seen_len-clause-apart g c = let t = c.known_apart-one.ensures in let r = c.raised-one.ensures in
    let one = c.raised-one.result in let two = c.known_apart-one.result.1 in
    let differ : one.writer ≢ two.writer = λ e. t.2 (ap (λ z. z.writer) (sym t.0) ∙ (sym r.same.1 ∙ (e ∙ ap (λ z. z.writer) t.1))) in
    rw (r.seen.0) (apart_indices one.writer two.writer two.seen differ)
