-- Parts of a history.
use Rattle.std.proofs.Common.{ℕ, List, [], ◌∷◌, ◌++◌}
use Rattle.elsa_tables.specs.Replay.{Replays}

-- Two parts, of which the second starts in the state in which the first one ended, are one history.
pub replays_append : {S C R : Type 0} (step : S → C → R → S → Type 0) (s : S) (es : List (ℕ × C × R)) (t : S) (fs : List (ℕ × C × R)) (u : S) → Replays step s es t → Replays step t fs u → Replays step s (es ++ fs) u
replays_append step s [] t fs u p q = rw p q
replays_append step s (x ∷ xs) t fs u p q = (p.0, p.1, replays_append step p.0 xs t fs u p.2 q)
