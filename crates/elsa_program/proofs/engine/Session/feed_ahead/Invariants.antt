use Rattle.std.proofs.Common.{◌≡◌, List, ℕ, Bool, length, Option, false, [], take, drop}
use Rattle.std.specs.Prelude.{Result}
use denote.Text.{Utf8}
use denote.Shadow.{shadow}
use Rattle.elsa_program.specs.Ahead.{AreCut}
use Rattle.elsa_program.specs.Feeding.{Feeds}
use Rattle.elsa_interner.specs.Names.{text_hash}
use Rattle.elsa_program.specs.declared.devices.Failed.{Failed}
use Rattle.elsa_program.proofs.engine.Session.feed_ahead.Given as goal

-- If the rest of the text is read from the present state, the text was read from the first state.
abbrev pub invariant-loop-held : goal.invariant-loop-held
invariant-loop-held g l = record {
  utf8 : shadow (Utf8 l.rest);
  many : length l.held ≡ 16;
  fresh : (l.self.skips ≡ false) × (l.self.line.items ≡ []);
  calm : g.W.Sink.failures l.writer ≡ g.W.Sink.failures l.fn.writer;
  feeds : (r : Result (Unit {0}) Failed) (names : List (List ℕ)) (line : List ℕ) (skips : Bool) (new : Option (List ℕ)) (waits : List ℕ)
      → Feeds r l.self.names.0 l.self.line.items l.self.skips l.rest names line skips (g.W.Sink.held l.writer) l.out new waits
      → Feeds r l.fn.self.names.0 l.fn.self.line.items l.fn.self.skips l.fn.text names line skips (g.W.Sink.held l.fn.writer) l.fn.out new waits;
}

abbrev pub decreases-loop-held : goal.decreases-loop-held
decreases-loop-held g l = length l.rest

-- The replies to the first `i` of the requests are appended. `left` is the text from the next line
-- on.
abbrev pub invariant-loop-i : goal.invariant-loop-i
invariant-loop-i g l = record {
  fresh : (l.self.skips ≡ false) × (l.self.line.items ≡ []);
  calm : g.W.Sink.failures l.writer ≡ g.W.Sink.failures l.fn.writer;
  left : List ℕ;
  cut : AreCut (text_hash g.S.BuildHasher g.S.Hasher.Hasher l.self.names.1) (drop l.i (take l.count l.held)) left l.later;
  feeds : (r : Result (Unit {0}) Failed) (names : List (List ℕ)) (line : List ℕ) (skips : Bool) (new : Option (List ℕ)) (waits : List ℕ)
      → Feeds r l.self.names.0 l.self.line.items l.self.skips left names line skips (g.W.Sink.held l.writer) l.out new waits
      → Feeds r l.fn.self.names.0 l.fn.self.line.items l.fn.self.skips l.fn.text names line skips (g.W.Sink.held l.fn.writer) l.fn.out new waits;
}
