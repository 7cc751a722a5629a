use Rattle.std.proofs.Common.{◌≡◌, ℕ, ◌<◌}
use Rattle.elsa_hash_index.specs.Words.{IsIndexed, IsLater}
use Rattle.elsa_hash_index.proofs.probe.enter_all.Given as goal

abbrev pub invariant-loop-index : goal.invariant-loop-index
invariant-loop-index g l =
    (g.W.Words.count l.words ≡ g.W.Words.count l.initial.words) × (g.W.Words.whose l.words ≡ g.W.Words.whose l.initial.words) × IsLater (g.W.Words.known l.initial.words) (g.W.Words.known l.words)
    × ((p : ℕ) → p < l.index → (h : ℕ) × goal.H-post g l.hash_of p h × IsIndexed (g.W.Words.count l.words) (g.W.Words.known l.words) h p)

abbrev pub invariant-loop-next : goal.invariant-loop-next
invariant-loop-next g l =
    (g.W.Words.count l.words ≡ g.W.Words.count l.initial.words) × (g.W.Words.whose l.words ≡ g.W.Words.whose l.initial.words) × IsLater (g.W.Words.known l.initial.words) (g.W.Words.known l.words)
