-- The known bytes of a device over several calls.
use Rattle.std.proofs.Common.{◌≡◌, ℕ, ◌+◌, List, [], ◌++◌, take, drop, Option, append_assoc, sym, ap, subst, ◌∙◌}
use Rattle.std.proofs.KnownBytes.{Appends-kept, Appends-trans}
use Rattle.std.proofs.Math.Seq.{take-add}
use Rattle.std.proofs.lemmas.List.{append-nil, take-append-drop}
use Rattle.std.proofs.lemmas.Result.{MatchResult-from_err, MatchResult-weaker}
use Rattle.std.specs.Prelude.{Result}
use Rattle.std.specs.Result.{IsErr}
use Rattle.std.specs.Io.KnownBytes.{Appends, Keeps}
use Rattle.elsa_program.specs.Devices.{Queues, AppendsSome, Queued}

-- Two pieces that are appended one after the other are appended as one.
pub appends_more : (a b c : Option (List ℕ)) (piece : List ℕ) (i n : ℕ) → Appends a b (take i piece) → Appends b c (take n (drop i piece)) → Appends a c (take (i + n) piece)
appends_more a b c piece i n p q = rw take-add (Appends-trans a b c (take i piece) (take n (drop i piece)) p q)

-- If a writer fails after i bytes of a piece, a beginning of the piece was written.
pub some_of_take : (a b c : Option (List ℕ)) (piece : List ℕ) (i : ℕ) → Appends a b (take i piece) → Keeps b c → AppendsSome a c piece
some_of_take a b c piece i p q = (take i piece, drop i piece, take-append-drop i piece, Appends-kept a b c (take i piece) p q)

-- If all of one piece and a beginning of the next were written, a beginning of both was.
pub some_later : (a b c : Option (List ℕ)) (xs ys : List ℕ) → Appends a b xs → AppendsSome b c ys → AppendsSome a c (xs ++ ys)
some_later a b c xs ys p s = (xs ++ s.0, s.1, append_assoc xs s.0 s.1 ∙ ap (λ t. xs ++ t) s.2, Appends-trans a b c xs s.0 p s.3)

-- If nothing waits before and after, exactly the piece was written.
pub written_all : (a b : Option (List ℕ)) (w v xs : List ℕ) → w ≡ [] → v ≡ [] → Queued a w b v xs → Appends a b xs
written_all a b w v xs e f q = subst (λ t. Appends a b t) (sym (append-nil q.0) ∙ ap (λ t. q.0 ++ t) (sym f) ∙ q.2 ∙ ap (λ t. t ++ xs) e) q.1

-- The bytes that were written and those that wait, after two pieces were appended.
moved : (gone more waits waited' waited xs ys : List ℕ) → gone ++ waited' ≡ waited ++ xs → more ++ waits ≡ waited' ++ ys → (gone ++ more) ++ waits ≡ waited ++ (xs ++ ys)
moved gone more waits waited' waited xs ys p q =
    append_assoc gone more waits ∙ (ap (λ t. gone ++ t) q ∙ (sym (append_assoc gone waited' ys) ∙ (ap (λ t. t ++ ys) p ∙ append_assoc waited xs ys)))

-- If a beginning of a piece was written, it is also a beginning of the piece followed by another.
pub adds_failed : {T E : Type 0} (r : Result T E) (a b : Option (List ℕ)) (w v xs ys : List ℕ) → IsErr r → AppendsSome a b (w ++ xs) → Queues r a w b v (xs ++ ys)
adds_failed r a b w v xs ys failed s =
    MatchResult-from_err r _ _ failed (λ _. (s.0, s.1 ++ ys, sym (append_assoc s.0 s.1 ys) ∙ ap (λ t. t ++ ys) s.2 ∙ append_assoc w xs ys, s.3))

-- Two pieces are appended one after the other.
pub adds_both : {T E : Type 0} (r : Result T E) (a b c : Option (List ℕ)) (w v u xs ys : List ℕ) → Queued a w b v xs → Queues r b v c u ys → Queues r a w c u (xs ++ ys)
adds_both r a b c w v u xs ys p q = MatchResult-weaker r q
    (λ _ k. (p.0 ++ k.0, Appends-trans a b c p.0 k.0 p.1 k.1, moved p.0 k.0 u v w xs ys p.2 k.2))
    (λ _ s. (p.0 ++ s.0, s.1, moved p.0 s.0 s.1 v w xs ys p.2 s.2, Appends-trans a b c p.0 s.0 p.1 s.3))

-- After a piece was appended, the bytes that wait are written.
pub adds_flushed : {T E : Type 0} (r : Result T E) (a b c : Option (List ℕ)) (w v u xs : List ℕ) → Queued a w b v xs → Queues r b v c u [] → Queues r a w c u xs
adds_flushed r a b c w v u xs p q = subst (λ t. Queues r a w c u t) (append-nil xs) (adds_both r a b c w v u xs [] p q)
