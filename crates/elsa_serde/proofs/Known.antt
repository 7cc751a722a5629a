-- Items, keys and values that come back.
use Rattle.std.proofs.Common.{◌≡◌, ℕ, Bool, true, false, List, [], ◌∷◌, ◌++◌, Some, refl, subst, sym, ap, ◌∙◌, string_bytes}
use Rattle.serde.specs.Event.{Event, Log, Logs, signed, text, unsigned}
use Rattle.elsa_serde.specs.Back.{ComesBack, StartsValue, all_as_read, is_end}
use Rattle.elsa_serde.proofs.Back.{head_is, rest_is}

-- A value that is sent and read as one event, which is neither an end nor changed by the reader.
-- Different values have different events.
pub one_back : {T B X : Type 0} (of : X → Event) (read : T → X) (shown : B → X) → ((x y : X) → of x ≡ of y → x ≡ y) → ((x : X) → is_end (of x) ≡ false) → ((x : X) → all_as_read (of x ∷ []) ≡ of x ∷ [])
    → ComesBack (λ v. of (read v) ∷ []) (λ b old new. Logs old new (of (shown b))) (λ v b. read v ≡ shown b)
one_back of read shown tells no_end stays = record {
  sent = λ b. of (shown b) ∷ [];
  sends = λ b before log wrote. wrote;
  decodes = λ v b r s h. (
    tells (read v) (shown b) (head_is (of (read v)) (of (read v)) (of (shown b)) r s (h ∙ ap (λ es. es ++ s) (stays (shown b)))),
    rest_is (of (read v)) (of (shown b)) r s (h ∙ ap (λ es. es ++ s) (stays (shown b))),
  );
  starts = λ v. no_end (read v);
  starts_sent = λ b. subst StartsValue (sym (stays (shown b))) (no_end (shown b));
}

-- If an item comes back as the same one by a relation, it does by each weaker relation.
pub back_weaker : {T B : Type 0} {events : T → List Event} {writes : B → Log → Log → Type 0} {Same Alike : T → B → Type 0} → ((x : T) (b : B) → Same x b → Alike x b) → ComesBack events writes Same → ComesBack events writes Alike
back_weaker weaker back = record {
  sent = back.sent;
  sends = back.sends;
  decodes = λ x b r s h. let same = back.decodes x b r s h in (weaker x b same.0, same.1);
  starts = back.starts;
  starts_sent = back.starts_sent;
}

text_in : Event → List ℕ
text_in (text bytes) = bytes
text_in e = []

text_tells : (x y : List ℕ) → text x ≡ text y → x ≡ y
unfolding text_in
text_tells x y h = ap text_in h

-- A text comes back with its bytes.
pub text_back : {T B : Type 0} (read : T → List ℕ) (shown : B → List ℕ) → ComesBack (λ v. text (read v) ∷ []) (λ b old new. Logs old new (text (shown b))) (λ v b. read v ≡ shown b)
text_back read shown = one_back text read shown text_tells (λ x. refl) (λ x. refl)

number_in : Event → ℕ
number_in (unsigned n) = n
number_in e = 0

number_tells : (x y : ℕ) → unsigned x ≡ unsigned y → x ≡ y
unfolding number_in
number_tells x y h = ap number_in h

-- A number comes back.
pub number_back : {T B : Type 0} (read : T → ℕ) (shown : B → ℕ) → ComesBack (λ v. unsigned (read v) ∷ []) (λ b old new. Logs old new (unsigned (shown b))) (λ v b. read v ≡ shown b)
number_back read shown = one_back unsigned read shown number_tells (λ x. refl) (λ x. refl)
