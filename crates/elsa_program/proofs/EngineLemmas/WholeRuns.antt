-- The whole run.
use Rattle.std.proofs.Common.{◌≡◌, ℕ, ◌+◌, ◌<◌, ◌≤◌, Bool, List, [], ◌++◌, length, take, subst, arith, inl, inr}
use Rattle.std.specs.Prelude.{Option, Ok, Err}
use Rattle.std.specs.Io.KnownBytes.{Appends, Consumes, Keeps, IsAtEnd}
use Rattle.std.proofs.KnownBytes.{Appends-trans, Consumes-kept, Consumes-trans}
use Rattle.std.proofs.lemmas.List.{append-nil, length-append}
use Rattle.elsa_program.specs.Engine.{HasAnswered, HasAnsweredAll, HasAnsweredSome}
use Rattle.elsa_program.specs.Feeding.{IsReached, Feeds, Ends}
use Rattle.elsa_program.proofs.EngineLemmas.KnownBytes.{some_later, written_all}
use Rattle.elsa_program.proofs.EngineLemmas.LinesOfChunks.{answers_reached}

-- What was read and written after n pieces.
pub record Further (n : ℕ) (a b h h' : Option (List ℕ)) (names : List (List ℕ)) (line : List ℕ) (skips : Bool) : Type 0 where
  pub bytes : List ℕ
  pub written : List ℕ
  pub many : n ≤ length bytes
  pub consumed : Consumes a b bytes
  pub reached : IsReached bytes names line skips written
  pub held : Appends h h' written

-- Another piece is read.
pub further : {T E : Type 0} (x : T) (n : ℕ) (a b c h h' h'' : Option (List ℕ)) (w v line line' piece : List ℕ) (names names' : List (List ℕ)) (skips skips' : Bool)
    → Further n a b h h' names line skips → 0 < length piece → Consumes b c piece → Feeds {E = E} (Ok x) names line skips piece names' line' skips' h' w h'' v → w ≡ [] → v ≡ [] → Further (n + 1) a c h h'' names' line' skips'
further x n a b c h h' h'' w v line line' piece names names' skips skips' s more p feeds e f =
    let m = feeds.from s.bytes s.written s.reached in
    let many = s.many in
    record {
      bytes = s.bytes ++ piece;
      written = s.written ++ m.0;
      many = rw length-append (omega arith);
      consumed = Consumes-trans a b c s.bytes piece s.consumed p;
      reached = m.1;
      held = Appends-trans h h' h'' s.written m.0 s.held (written_all h' h'' w v m.0 e f m.2);
    }

-- The reader failed, or the greatest number of reads was made.
pub has_answered : (i n : ℕ) (a b c h h' : Option (List ℕ)) (line : List ℕ) (names : List (List ℕ)) (skips : Bool) → Further n a b h h' names line skips → i ≤ n → Keeps b c → HasAnswered i a c h h'
has_answered i n a b c h h' line names skips s enough kept =
    let many = s.many in
    (s.bytes, s.written, omega arith, Consumes-kept a b c s.bytes s.consumed kept, answers_reached s.bytes s.written line names skips s.reached, s.held)

-- The writer failed at the replies to the lines of a piece.
pub has_answered_some : {T E : Type 0} (y : E) (n : ℕ) (a b c h h' h'' : Option (List ℕ)) (w v line line' piece : List ℕ) (names names' : List (List ℕ)) (skips skips' : Bool)
    → Further n a b h h' names line skips → Consumes b c piece → Feeds {T = T} (Err y) names line skips piece names' line' skips' h' w h'' v → w ≡ [] → HasAnsweredSome a c h h''
has_answered_some y n a b c h h' h'' w v line line' piece names names' skips skips' s p feeds e =
    let m = feeds.from s.bytes s.written s.reached in
    (s.bytes ++ piece, s.written ++ m.0, Consumes-trans a b c s.bytes piece s.consumed p, inl m.1, some_later h h' h'' s.written m.0 s.held (rw e at m.2))

consumes_nothing : (a b c : Option (List ℕ)) (bytes buf : List ℕ) (n : ℕ) → n ≡ 0 → Consumes a b bytes → Consumes b c (take n buf) → Consumes a c bytes
consumes_nothing a b c bytes buf n e p q =
    subst (λ t. Consumes a c t) (append-nil bytes) (Consumes-trans a b c bytes [] p (subst (λ t. Consumes b c (take t buf)) e q))

-- The input has ended.
pub has_answered_all : {T E : Type 0} (x : T) (n i : ℕ) (a b c h h' h'' : Option (List ℕ)) (w v line buf : List ℕ) (names : List (List ℕ)) (skips : Bool)
    → Further n a b h h' names line skips → i ≡ 0 → Consumes b c (take i buf) → IsAtEnd c → Ends {E = E} (Ok x) names line skips h' w h'' v → w ≡ [] → v ≡ [] → HasAnsweredAll a c h h''
has_answered_all x n i a b c h h' h'' w v line buf names skips s none p at_end ends e f =
    let m = ends.from s.bytes s.written s.reached in
    (s.bytes, s.written ++ m.0, consumes_nothing a b c s.bytes buf i none s.consumed p, at_end, m.1, Appends-trans h h' h'' s.written m.0 s.held (written_all h' h'' w v m.0 e f m.2))

-- The writer failed at the reply to the last line.
pub has_answered_last : {T E : Type 0} (y : E) (n i : ℕ) (a b c h h' h'' : Option (List ℕ)) (w v line buf : List ℕ) (names : List (List ℕ)) (skips : Bool)
    → Further n a b h h' names line skips → i ≡ 0 → Consumes b c (take i buf) → IsAtEnd c → Ends {T = T} (Err y) names line skips h' w h'' v → w ≡ [] → HasAnsweredSome a c h h''
has_answered_last y n i a b c h h' h'' w v line buf names skips s none p at_end ends e =
    let m = ends.from s.bytes s.written s.reached in
    (s.bytes, s.written ++ m.0, consumes_nothing a b c s.bytes buf i none s.consumed p, inr (at_end, m.1), some_later h h' h'' s.written m.0 s.held (rw e at m.2))
