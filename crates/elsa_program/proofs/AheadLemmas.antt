-- Requests of lines that are cut ahead of their replies.
use Rattle.std.proofs.Common.{◌≡◌, ℕ, ◌+◌, ◌<◌, ◌≤◌, Bool, false, true≢false, List, [], ◌∷◌, ◌++◌, length, take, drop, get_or, slice_set, refl, ap, sym, subst, ◌∙◌, arith}
use Rattle.std.proofs.lemmas.List.{drop_all, drop_more, get_or-take, length-append, length-take-le, take_more_set}
use Rattle.elsa_program.specs.Ahead.{AreCut, IsHashed}
use Rattle.elsa_program.specs.Feeding.{IsFinished, IsInside}
use Rattle.elsa_program.specs.Lines.{AnswersLine, command_of}
use Rattle.elsa_program.specs.Replies.{asked}
use Rattle.elsa_program.specs.declared.ahead.Held.{Held}

cut_last : (hash : List ℕ → ℕ) (hs : List Held) (h : Held) (text mid line rest : List ℕ) → AreCut hash hs text mid → mid ≡ line ++ 10 ∷ rest → IsInside line
    → asked h.request ≡ command_of line → IsHashed hash (asked h.request) h.hash → AreCut hash (hs ++ h ∷ []) text rest
cut_last hash [] h text mid line rest cut joined inside asks hashed = (line, rest, cut ∙ joined, inside, asks, hashed, refl)
cut_last hash (k ∷ hs) h text mid line rest cut joined inside asks hashed =
    (cut.0, cut.1, cut.2, cut.3, cut.4, cut.5, cut_last hash hs h cut.1 mid line rest cut.6 joined inside asks hashed)

-- Another line was cut, and its request is the next of those that are held.
pub cut_more : (hash : List ℕ → ℕ) (held : List Held) (count : ℕ) (h : Held) (text mid line rest : List ℕ) → count < length held → AreCut hash (take count held) text mid
    → mid ≡ line ++ 10 ∷ rest → IsInside line → asked h.request ≡ command_of line → IsHashed hash (asked h.request) h.hash
    → AreCut hash (take (count + 1) (slice_set held count h)) text rest
cut_more hash held count h text mid line rest within cut joined inside asks hashed =
    subst (λ hs. AreCut hash hs text rest) (sym (take_more_set held count h within)) (cut_last hash (take count held) h text mid line rest cut joined inside asks hashed)

-- The request at `i` is that of the next line, after the replies to those before it.
pub cut_next : (hash : List ℕ → ℕ) (held : List Held) (count i : ℕ) (h : Held) (text rest : List ℕ) → i < count → count ≤ length held → AreCut hash (drop i (take count held)) text rest
    → AreCut hash (get_or held i h ∷ drop (i + 1) (take count held)) text rest
cut_next hash held count i h text rest below within cut =
    let first = drop_more (take count held) i h (omega (arith, below, length-take-le count held within)) in
    subst (λ k. AreCut hash (k ∷ drop (i + 1) (take count held)) text rest) (get_or-take count held i h below) (subst (λ hs. AreCut hash hs text rest) first cut)

-- After the replies to all requests that are held, what is left of the text is the rest.
pub cut_done : (hash : List ℕ → ℕ) (held : List Held) (count i : ℕ) (text rest : List ℕ) → count ≤ i → count ≤ length held → AreCut hash (drop i (take count held)) text rest → text ≡ rest
cut_done hash held count i text rest above within cut =
    let none = drop_all i (take count held) (omega (arith, above, length-take-le count held within)) in
    subst (λ hs. AreCut hash hs text rest) none cut

cut_length : (hash : List ℕ → ℕ) (hs : List Held) (text rest : List ℕ) → AreCut hash hs text rest → length hs + length rest ≤ length text
cut_length hash [] text rest cut = omega (arith, ap length cut)
cut_length hash (h ∷ hs) text rest cut =
    omega (arith, cut_length hash hs cut.1 rest cut.6, ap length cut.2, length-append cut.0 (10 ∷ cut.1))

-- If a line was cut, the rest is shorter than the text.
pub cut_shorter : (hash : List ℕ → ℕ) (held : List Held) (count : ℕ) (text rest : List ℕ) → 0 < count → count ≤ length held → AreCut hash (take count held) text rest → length rest < length text
cut_shorter hash held count text rest some within cut =
    omega (arith, some, cut_length hash (take count held) text rest cut, length-take-le count held within)

-- The reply to a line that begins and ends in the same piece.
pub finished_whole : (names names' : List (List ℕ)) (line end answer : List ℕ) (skips : Bool) → (skips ≡ false) × (line ≡ []) → AnswersLine names end answer names'
    → IsFinished names line skips end answer names' line skips
finished_whole names names' line end answer skips fresh answers = record {
  kept = λ _. subst (λ t. AnswersLine names (t ++ end) answer names') (sym fresh.1) answers;
  skipped = λ s. absurd (true≢false (sym s ∙ fresh.0));
  next = record { kept = λ _. fresh.1; some = λ s. absurd (true≢false (sym s ∙ fresh.0)) };
}
