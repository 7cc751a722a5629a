use Rattle.std.proofs.Common.{◌≡◌, ℕ, ◌+◌, ◌*◌, ◌<◌, false, slice_index}
use Rattle.elsa_hash_index.specs.Words.{IsLater, number_of}
use Rattle.elsa_hash_index.proofs.WordLemmas.{Missed, Untried}
use Rattle.elsa_hash_index.proofs.probe.find.Given as goal

abbrev pub invariant-loop-step : goal.invariant-loop-step
invariant-loop-step g l =
    (g.W.Words.count l.words ≡ g.W.Words.count l.initial.words) × (g.W.Words.whose l.words ≡ g.W.Words.whose l.initial.words) × IsLater (g.W.Words.known l.initial.words) (g.W.Words.known l.words)
    × Missed (g.W.Words.count l.initial.words) (g.W.Words.known l.initial.words) l.hash (λ index. index < l.n → goal.F-post g l.is_it index false) l.step

-- Each lane with the tag of the hash has its bit, or its known number was tried.
abbrev pub invariant-loop-same : goal.invariant-loop-same
invariant-loop-same g l =
    (g.W.Words.count l.words ≡ g.W.Words.count l.initial.words) × (g.W.Words.whose l.words ≡ g.W.Words.whose l.initial.words) × IsLater (g.W.Words.known l.initial.words) (g.W.Words.known l.words)
    × Untried (λ k. slice_index l.tags k ≡ l.tag) l.same (λ k. (index : ℕ) → g.W.Words.known l.fn.words (number_of (g.W.Words.count l.fn.words) (16 * l.group + k)) ≡ index + 1 → index < l.n → goal.F-post g l.is_it index false)

abbrev pub decreases-loop-same : goal.decreases-loop-same
decreases-loop-same g l = l.same
