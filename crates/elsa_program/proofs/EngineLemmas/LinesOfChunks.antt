-- The lines, the tail and the replies, as more bytes are read.
use Rattle.std.proofs.Common.{◌≡◌, ◌≢◌, ℕ, ◌<◌, Bool, true, false, List, [], ◌∷◌, ◌++◌, length, codes, refl, append_assoc, arith, sym, ap, subst, ◌∙◌, inl, inr}
use Rattle.std.proofs.KnownBytes.{Appends-nil}
use Rattle.std.proofs.lemmas.Bool.{cases_eq}
use Rattle.std.proofs.lemmas.List.{append-nil}
use Rattle.std.proofs.lemmas.List.Elements.{All-append, All-cons, All-nil}
use Rattle.std.proofs.lemmas.Result.{MatchResult-from_err}
use Rattle.std.specs.Prelude.{Option, Result, Ok, Err}
use Rattle.std.specs.Result.{IsErr}
use Rattle.elsa_program.specs.Devices.{Queues, AppendsSome, Queued}
use Rattle.elsa_program.specs.Lines.{AnswersLine, AnswersAll, AnswersLines, IsAnsweredTo, ended, with_tail}
use Rattle.elsa_program.specs.Feeding.{IsInside, IsSoFar, IsFinished, IsReached, Comes, Feeds, Ends}
use Rattle.elsa_program.proofs.EngineLemmas.KnownBytes.{adds_both, adds_failed}

ended_append : (ls : List (List ℕ)) (l : List ℕ) → ended (ls ++ l ∷ []) ≡ ended ls ++ (l ++ 10 ∷ [])
ended_append [] l = refl
ended_append (k ∷ ls) l = ap (λ t. k ++ 10 ∷ t) (ended_append ls l) ∙ sym (append_assoc k (10 ∷ ended ls) (l ++ 10 ∷ []))

answers_append : (names names' names'' ls xs : List (List ℕ)) (l x : List ℕ) → AnswersAll names ls xs names' → AnswersLine names' l x names'' → AnswersAll names (ls ++ l ∷ []) (xs ++ x ∷ []) names''
answers_append names names' names'' [] [] l x p q = (names'', subst (λ n. AnswersLine n l x names'') p q, refl)
answers_append names names' names'' [] (y ∷ xs) l x p q = absurd p
answers_append names names' names'' (k ∷ ls) [] l x p q = absurd p
answers_append names names' names'' (k ∷ ls) (y ∷ xs) l x p q = (p.0, p.1, answers_append p.0 names' names'' ls xs l x p.2 q)

-- Another line and its reply are appended.
answered_more : (lines names names' : List (List ℕ)) (written line answer : List ℕ)
    → IsAnsweredTo names lines written → AnswersLine names line answer names' → IsAnsweredTo names' (lines ++ line ∷ []) (written ++ (answer ++ 10 ∷ []))
answered_more lines names names' written line answer a next =
    (a.0 ++ answer ∷ [], answers_append [] names names' lines a.0 line answer a.1 next, ap (λ t. t ++ (answer ++ 10 ∷ [])) a.2 ∙ sym (ended_append a.0 answer))

-- The reply to the line that had begun.
finished_answers : (names names' : List (List ℕ)) (line end answer tail line' : List ℕ) (skips skips' : Bool)
    → IsFinished names line skips end answer names' line' skips' → IsSoFar line skips tail → AnswersLine names (tail ++ end) answer names'
finished_answers names names' line end answer tail line' false skips' f s = subst (λ t. AnswersLine names (t ++ end) answer names') (s.kept refl) (f.kept refl)
finished_answers names names' line end answer tail line' true skips' f s = inr (f.skipped refl)

-- At the start there is no line and no reply.
pub reached_new : (names : List (List ℕ)) (line : List ℕ) (skips : Bool) → names ≡ [] → line ≡ [] → skips ≡ false → IsReached [] names line skips []
reached_new names line skips e f h = record {
  lines = [];
  tail = [];
  cut = record { joined = refl; inside = All-nil _; after = All-nil _ };
  answered = ([], e, refl);
  so_far = record { kept = λ _. f; some = λ s. absurd (cc) };
}

reached_line : (bytes written end answer line line' : List ℕ) (names names' : List (List ℕ)) (skips skips' : Bool)
    → IsReached bytes names line skips written → IsFinished names line skips end answer names' line' skips' → IsInside end
    → IsReached (bytes ++ (end ++ 10 ∷ [])) names' line' skips' (written ++ (answer ++ 10 ∷ []))
reached_line bytes written end answer line line' names names' skips skips' r f inside =
    let joined : (ended r.lines ++ r.tail) ++ (end ++ 10 ∷ []) ≡ (ended r.lines ++ ((r.tail ++ end) ++ 10 ∷ [])) ++ [] = simp (append_assoc, append-nil) in
    record {
      lines = r.lines ++ (r.tail ++ end) ∷ [];
      tail = [];
      cut = record {
        joined = ap (λ t. t ++ (end ++ 10 ∷ [])) r.cut.joined ∙ joined ∙ ap (λ t. t ++ []) (sym (ended_append r.lines (r.tail ++ end)));
        inside = All-append IsInside r.lines ((r.tail ++ end) ∷ []) r.cut.inside (All-cons IsInside (r.tail ++ end) [] (All-append (λ (b : ℕ). b ≢ 10) r.tail end r.cut.after inside) (All-nil IsInside));
        after = All-nil _;
      };
      answered = answered_more r.lines names names' written (r.tail ++ end) answer r.answered (finished_answers names names' line end answer r.tail line' skips skips' f r.so_far);
      so_far = f.next;
    }

reached_tail : (bytes written piece line line' : List ℕ) (names names' : List (List ℕ)) (skips skips' : Bool)
    → IsReached bytes names line skips written → IsInside piece → ((tail : List ℕ) → IsSoFar line skips tail → IsSoFar line' skips' (tail ++ piece)) → names' ≡ names
    → IsReached (bytes ++ piece) names' line' skips' written
reached_tail bytes written piece line line' names names' skips skips' r inside keeps same = record {
  lines = r.lines;
  tail = r.tail ++ piece;
  cut = record {
    joined = ap (λ t. t ++ piece) r.cut.joined ∙ append_assoc (ended r.lines) r.tail piece;
    inside = r.cut.inside;
    after = All-append (λ (b : ℕ). b ≢ 10) r.tail piece r.cut.after inside;
  };
  answered = subst (λ n. IsAnsweredTo n r.lines written) (sym same) r.answered;
  so_far = keeps r.tail r.so_far;
}

-- If reading stops here, the bytes written are the replies to the lines.
pub answers_reached : (bytes written line : List ℕ) (names : List (List ℕ)) (skips : Bool) → IsReached bytes names line skips written → AnswersLines bytes written
answers_reached bytes written line names skips r = (r.lines, r.tail, names, r.cut, r.answered)

-- Also for any bytes that follow there are possible replies, since an allocation may fail for each
-- of their lines.
answers_rest : (rest bytes written line : List ℕ) (names : List (List ℕ)) (skips : Bool) → IsReached bytes names line skips written → (extra : List ℕ) × AnswersLines (bytes ++ rest) (written ++ extra)
answers_rest [] bytes written line names skips r = ([], rw (append-nil bytes, append-nil written) (answers_reached bytes written line names skips r))
answers_rest (b ∷ rest) bytes written line names skips r = elim (cases_eq b 10) [
  | inl e ↦
      let refused : IsFinished names line skips [] no_memory names [] false = record { kept = λ _. inr (refl, refl); skipped = λ _. (refl, refl); next = record { kept = λ _. refl; some = λ s. absurd (cc) } } in
      let next = reached_line bytes written [] no_memory line [] names names skips false r refused (All-nil _) in
      let more = answers_rest rest (bytes ++ 10 ∷ []) (written ++ (no_memory ++ 10 ∷ [])) [] names false next in
      ((no_memory ++ 10 ∷ []) ++ more.0, rw (e, ← append_assoc bytes (10 ∷ []) rest, ← append_assoc written (no_memory ++ 10 ∷ []) more.0) more.1)
  | inr n ↦
      let next = reached_tail bytes written (b ∷ []) r.tail (r.tail ++ b ∷ []) names names false false (kept_whole bytes written line names skips r)
      (All-cons (λ (b : ℕ). b ≢ 10) b [] n (All-nil _)) (λ tail so. record { kept = λ _. ap (λ t. t ++ b ∷ []) (so.kept refl); some = λ s. absurd (cc) }) refl in
      let more = answers_rest rest (bytes ++ b ∷ []) written (r.tail ++ b ∷ []) names false next in
      (more.0, rw (← append_assoc bytes (b ∷ []) rest) more.1)
]
  where
    no_memory : List ℕ
    no_memory = codes "no memory"

    -- The same state, if all of the tail is stored.
    kept_whole : (bytes written line : List ℕ) (names : List (List ℕ)) (skips : Bool) → (r : IsReached bytes names line skips written) → IsReached bytes names r.tail false written
    kept_whole bytes written line names skips r =
        record { lines = r.lines; tail = r.tail; cut = r.cut; answered = r.answered; so_far = record { kept = λ _. refl; some = λ s. absurd (cc) } }

comes : {T E : Type 0} (r : Result T E) (bytes written line : List ℕ) (names : List (List ℕ)) (skips : Bool) → IsReached bytes names line skips written → Comes r bytes names line skips written
comes (Ok x) bytes written line names skips h = h
comes (Err e) bytes written line names skips h = answers_reached bytes written line names skips h

past_line : (before end later piece : List ℕ) → piece ≡ end ++ 10 ∷ later → (before ++ (end ++ 10 ∷ [])) ++ later ≡ before ++ piece
past_line before end later piece e = append_assoc before (end ++ 10 ∷ []) later ∙ ap (λ t. before ++ t) (append_assoc end (10 ∷ []) later ∙ sym e)

-- The first line of a piece gets its reply, and then the rest of the piece is read.
pub feeds_line : {T E : Type 0} (r : Result T E) (piece end later answer line line1 line' : List ℕ) (names names1 names' : List (List ℕ)) (skips skips1 skips' : Bool) (a b c : Option (List ℕ)) (w v u : List ℕ)
    → piece ≡ end ++ 10 ∷ later → IsInside end → IsFinished names line skips end answer names1 line1 skips1 → Queued a w b v (answer ++ 10 ∷ [])
    → Feeds r names1 line1 skips1 later names' line' skips' b v c u → Feeds r names line skips piece names' line' skips' a w c u
feeds_line r piece end later answer line line1 line' names names1 names' skips skips1 skips' a b c w v u e inside f q feeds = record {
  from = λ before written reached.
      let x = answer ++ 10 ∷ [] in
      let m = feeds.from _ _ (reached_line before written end answer line line1 names names1 skips skips1 reached f inside) in (
        x ++ m.0,
        subst (λ t. Comes r t names' line' skips' (written ++ (x ++ m.0))) (past_line before end later piece e)
            (subst (λ t. Comes r ((before ++ (end ++ 10 ∷ [])) ++ later) names' line' skips' t) (append_assoc written x m.0) m.1),
        adds_both r a b c w v u x m.0 q m.2,
      );
}

-- The writer failed at the reply to a line.
pub feeds_stop : {T E : Type 0} (r : Result T E) (piece end later answer line line1 line' : List ℕ) (names names1 names' : List (List ℕ)) (skips skips1 skips' : Bool) (a c : Option (List ℕ)) (w u : List ℕ)
    → IsErr r → piece ≡ end ++ 10 ∷ later → IsInside end → IsFinished names line skips end answer names1 line1 skips1 → AppendsSome a c (w ++ (answer ++ 10 ∷ []))
    → Feeds r names line skips piece names' line' skips' a w c u
feeds_stop r piece end later answer line line1 line' names names1 names' skips skips1 skips' a c w u failed e inside f s = record {
  from = λ before written reached.
      let x = answer ++ 10 ∷ [] in
      let m = answers_rest later _ _ _ _ _ (reached_line before written end answer line line1 names names1 skips skips1 reached f inside) in (
        x ++ m.0,
        MatchResult-from_err r _ _ failed (λ _. subst (λ t. AnswersLines t (written ++ (x ++ m.0))) (past_line before end later piece e)
            (subst (λ t. AnswersLines ((before ++ (end ++ 10 ∷ [])) ++ later) t) (append_assoc written x m.0) m.1)),
        adds_failed r a c w u x m.0 failed s,
      );
}

-- No line ends in the piece, and the bytes that wait are written.
pub feeds_tail : {T E : Type 0} (r : Result T E) (piece line line' : List ℕ) (names names' : List (List ℕ)) (skips skips' : Bool) (a b : Option (List ℕ)) (w v : List ℕ)
    → IsInside piece → ((tail : List ℕ) → IsSoFar line skips tail → IsSoFar line' skips' (tail ++ piece)) → names' ≡ names → Queues r a w b v [] → Feeds r names line skips piece names' line' skips' a w b v
feeds_tail r piece line line' names names' skips skips' a b w v inside keeps same flushed = record {
  from = λ before written reached.
      ([], subst (λ t. Comes r (before ++ piece) names' line' skips' t) (sym (append-nil written)) (comes r _ _ _ _ _ (reached_tail before written piece line line' names names' skips skips' reached inside keeps same)), flushed);
}

tail_counts : (lines : List (List ℕ)) (tail : List ℕ) → 0 < length tail → with_tail lines tail ≡ lines ++ tail ∷ []
tail_counts lines [] some = absurd (omega arith)
tail_counts lines (b ∷ bs) some = refl

-- The last line has no byte 10, and gets its reply.
pub ends_line : {T E : Type 0} (r : Result T E) (line line' answer : List ℕ) (names names' : List (List ℕ)) (skips skips' : Bool) (a b : Option (List ℕ)) (w v : List ℕ)
    → IsFinished names line skips [] answer names' line' skips' → ((tail : List ℕ) → IsSoFar line skips tail → 0 < length tail) → Queues r a w b v (answer ++ 10 ∷ []) → Ends r names line skips a w b v
ends_line r line line' answer names names' skips skips' a b w v f some added = record {
  from = λ bytes written reached.
      let asks = subst (λ t. AnswersLine names t answer names') (append-nil reached.tail) (finished_answers names names' line [] answer reached.tail line' skips skips' f reached.so_far) in
      let all = answered_more reached.lines names names' written reached.tail answer reached.answered asks in (
        answer ++ 10 ∷ [],
        (reached.lines, reached.tail, names', reached.cut, subst (λ ls. IsAnsweredTo names' ls (written ++ (answer ++ 10 ∷ []))) (sym (tail_counts reached.lines reached.tail (some reached.tail reached.so_far))) all),
        added,
      );
}

-- If no line has begun, nothing is written at the end.
pub ends_none : {T E : Type 0} (x : T) (line : List ℕ) (names : List (List ℕ)) (skips : Bool) (a : Option (List ℕ)) (w : List ℕ) → ((tail : List ℕ) → IsSoFar line skips tail → tail ≡ []) → Ends {E = E} (Ok x) names line skips a w a w
ends_none x line names skips a w none = record {
  from = λ bytes written reached.
      ([], (reached.lines, reached.tail, names, reached.cut, rw (none reached.tail reached.so_far, append-nil written) reached.answered), ([], Appends-nil a, sym (append-nil w)));
}
