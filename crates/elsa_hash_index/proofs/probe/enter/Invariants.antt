use Rattle.std.proofs.Common.{◌≡◌, ◌+◌, ◌*◌, ◌<◌}
use Rattle.elsa_hash_index.specs.Words.{IsLater, PassesFilled}
use Rattle.elsa_hash_index.proofs.WordLemmas.{Untried}
use Rattle.elsa_hash_index.proofs.probe.enter.Given as goal

abbrev pub invariant-loop-step : goal.invariant-loop-step
invariant-loop-step g l =
    (g.W.Words.count l.words ≡ g.W.Words.count l.initial.words) × (g.W.Words.whose l.words ≡ g.W.Words.whose l.initial.words) × IsLater (g.W.Words.known l.initial.words) (g.W.Words.known l.words)
    × PassesFilled (g.W.Words.count l.initial.words) (g.W.Words.known l.words) l.hash l.step

-- Each lane has its bit, or its tag is set.
abbrev pub invariant-loop-free : goal.invariant-loop-free
invariant-loop-free g l =
    (g.W.Words.count l.words ≡ g.W.Words.count l.initial.words) × (g.W.Words.whose l.words ≡ g.W.Words.whose l.initial.words) × IsLater (g.W.Words.known l.initial.words) (g.W.Words.known l.words)
    × Untried (λ k. k < 16) l.free (λ k. 0 < g.W.Words.known l.words (16 * l.group + k))

abbrev pub decreases-loop-free : goal.decreases-loop-free
decreases-loop-free g l = l.free
