-- What the last entry's evidence finds, and what is still found when other keys are entered.
use Rattle.std.proofs.Common.{◌≡◌, ◌⊎◌, ℕ, zero, suc, ◌+◌, ◌<◌, inl, inr, Bool, true, false, List, [], ◌∷◌, ◌++◌, length, refl, ap, sym, ◌∙◌, subst, arith, take, slice_get, Some, None}
use Rattle.std.specs.Prelude.{Option, IfSome, IfNone}
use Rattle.std.proofs.lemmas.List.{length-append, length-map, map-append}
use Rattle.std.proofs.lemmas.Option.{slice_get_within}
use mathlib.Core.List.{IsPrefix}
use Rattle.elsa_hash_index.specs.declared.row.Event.{Event}
use Rattle.elsa_hash_index.specs.declared.entry.Entry.{Entry}
use Rattle.elsa_hash_index.specs.Entries.{EachIsNew, HasLoad, key_of, keys_of, Indexes, IndexesKeys, IsBehind}
use Rattle.elsa_hash_index.specs.Row.{word_at, count_of, builder_of}
use Rattle.elsa_hash_index.specs.Words.{IsIndexed, IsLater}
use Rattle.elsa_hash_index.proofs.RowLemmas.{later_at, count_prefix, builder_prefix}
use Rattle.elsa_hash_index.proofs.WordLemmas.{later_indexed}

-- What is found by an observed history is found by a later one.
pub seen_indexed : {S : Type 0} (xs ys : List (Event S)) (hash index : ℕ) → IsPrefix xs ys → IsIndexed (count_of xs) (λ k. word_at k xs) hash index → IsIndexed (count_of ys) (λ k. word_at k ys) hash index
seen_indexed xs ys hash index p i =
    let some : 0 < count_of xs = let h = i.within in omega (arith, h) in
    subst (λ c. IsIndexed c (λ k. word_at k ys) hash index) (sym (count_prefix xs ys p some))
    (later_indexed (count_of xs) (λ k. word_at k xs) (λ k. word_at k ys) hash index (later_at xs ys p) i)

-- All items except the last one, and the last one.
pub take_last : {A : Type 0} (xs : List A) (n : ℕ) (x : A) → length xs ≡ suc n → slice_get xs n ≡ Some x → take n xs ++ x ∷ [] ≡ xs
take_last [] n x l e = absurd (omega (arith, l))
take_last (y ∷ []) zero x l e = let same : y ≡ x = cc e in ap (λ z. z ∷ []) (sym same)
take_last (y ∷ z ∷ zs) zero x l e = absurd (omega (arith, l))
take_last (y ∷ ys) (suc n) x l e = ap (λ l. y ∷ l) (take_last ys n x (omega (arith, l)) e)

-- An item of a list to which one was appended is an item of the list, or the appended one.
pub get_snoc : {A : Type 0} (xs : List A) (x y : A) (i : ℕ) → slice_get (xs ++ x ∷ []) i ≡ Some y → (slice_get xs i ≡ Some y) ⊎ ((i ≡ length xs) × (x ≡ y))
get_snoc [] x y zero e = inr (refl, cc e)
get_snoc [] x y (suc i) e = absurd (cc e)
get_snoc (z ∷ xs) x y zero e = inl e
get_snoc (z ∷ xs) x y (suc i) e = elim (get_snoc xs x y i e) [ inl h ↦ inl h | inr h ↦ inr (let a = h.0 in omega (arith, a), h.1) ]

module _ {K V S : Type 0} (equal : K → K → Bool) (hash : S → K → ℕ) where
  -- By the last entry's evidence, each key is found.
  pub last_indexes : (es : List (Entry K V S)) (n : ℕ) (e : Entry K V S) → EachIsNew (IsBehind equal hash) es → length es ≡ n + 1 → slice_get es n ≡ Some e
      → Indexes hash e.seen.log (keys_of es)
  last_indexes es n e rule len at =
      let all : keys_of (take n es) ++ e.key ∷ [] ≡ keys_of es = sym (map-append key_of (take n es) (e ∷ [])) ∙ ap keys_of (take_last es n e (omega (arith, len)) at) in
      subst (Indexes hash e.seen.log) all (rule n e at).indexes

  -- The last entry's row has a load for all entries.
  pub last_load : (es : List (Entry K V S)) (n : ℕ) (e : Entry K V S) → EachIsNew (IsBehind equal hash) es → length es ≡ n + 1 → slice_get es n ≡ Some e
      → HasLoad (count_of e.seen.log) (length es)
  last_load es n e rule len at =
      let all : length (take n es) + 1 ≡ length es = sym (length-append (take n es) (e ∷ [])) ∙ ap length (take_last es n e (omega (arith, len)) at) in
      subst (HasLoad (count_of e.seen.log)) all (rule n e at).load

module _ {K S : Type 0} (hash : S → K → ℕ) where
  -- By a later history, each key is found too.
  pub later_indexes : (keys : List K) (xs ys : List (Event S)) → IsPrefix xs ys → Indexes hash xs keys → Indexes hash ys keys
  later_indexes keys xs ys p before = record {
    builder = before.builder;
    built = builder_prefix xs ys before.builder p before.built;
    all = λ i y e. seen_indexed xs ys (hash before.builder y) i p (before.all i y e);
  }

  -- They are found under the hashes of the history's builder.
  pub indexed_by : (keys : List K) (log : List (Event S)) (s : S) (count : ℕ) → builder_of log ≡ Some s → count_of log ≡ count → Indexes hash log keys
      → IndexesKeys (hash s) count (λ k. word_at k log) keys
  indexed_by keys log s count is counted all =
      let both : Some all.builder ≡ Some s = sym all.built ∙ is in
      let same : all.builder ≡ s = cc both in
      subst (λ c. IndexesKeys (hash s) c (λ k. word_at k log) keys) counted (subst (λ b. IndexesKeys (hash b) (count_of log) (λ k. word_at k log) keys) same all.all)

module _ {K : Type 0} (hash : K → ℕ) where
  -- Another key is entered.
  pub indexes_more : (keys : List K) (x : K) (count : ℕ) (f g : ℕ → ℕ) (h n : ℕ) → IsLater f g → IndexesKeys hash count f keys → h ≡ hash x → n ≡ length keys
      → IsIndexed count g h n → IndexesKeys hash count g (keys ++ x ∷ [])
  indexes_more keys x count f g h n later all is len last i y e = elim (get_snoc keys x y i e) [
    | inl old ↦ later_indexed count f g (hash y) i later (all i y old)
    | inr new ↦ subst (λ k. IsIndexed count g k i) (is ∙ ap hash new.1) (subst (IsIndexed count g h) (len ∙ sym new.0) last)
  ]

module _ {K V S : Type 0} (test : K → Bool) (hash : K → ℕ) where
  -- A test that rejected each index under the hash rejected each key that it would accept.
  pub absent_by : (es : List (Entry K V S)) (count : ℕ) (words : ℕ → ℕ) (h n : ℕ) → (lawful : (y : K) → test y ≡ true → h ≡ hash y)
      → n ≡ length es → IndexesKeys hash count words (keys_of es)
      → ((p : ℕ) → p < n → IsIndexed count words h p → (e : Entry K V S) → slice_get es p ≡ Some e → false ≡ test e.key)
      → ((i : ℕ) (y : K) → slice_get (keys_of es) i ≡ Some y → (e : Entry K V S) × (slice_get es i ≡ Some e) × (e.key ≡ y))
      → (i : ℕ) (y : K) → slice_get (keys_of es) i ≡ Some y → test y ≡ false
  absent_by es count words h n lawful len all refused entry i y at = decide (test y) refl
    where
      decide : (b : Bool) → test y ≡ b → test y ≡ false
      decide false e = e
      decide true e =
          let here = entry i y at in
          let within : i < length es = slice_get_within es i here.0 here.1 in
          let found : IsIndexed count words h i = subst (λ k. IsIndexed count words k i) (sym (lawful y e)) (all i y at) in
          sym (refused i (omega (arith, within, len)) found here.0 here.1 ∙ ap test here.2)

-- The entry of a key's index.
pub entry_at : {K V S : Type 0} (es : List (Entry K V S)) (i : ℕ) (y : K) → slice_get (keys_of es) i ≡ Some y → (e : Entry K V S) × (slice_get es i ≡ Some e) × (e.key ≡ y)
entry_at [] i y at = absurd (cc at)
entry_at (e ∷ es) zero y at = (e, refl, cc at)
entry_at (e ∷ es) (suc i) y at = entry_at es i y at

-- There is an item at each index below the length.
pub get_within : {A : Type 0} (xs : List A) (i : ℕ) → i < length xs → (x : A) × (slice_get xs i ≡ Some x)
get_within [] i h = absurd (omega (arith, h))
get_within (x ∷ xs) zero h = (x, refl)
get_within (x ∷ xs) (suc i) h = get_within xs i (omega (arith, h))

-- If P implies Q and P holds for the number, if there is one, so does Q.
pub some_weaker : (o : Option ℕ) (P Q : ℕ → Type 0) → ((p : ℕ) → P p → Q p) → IfSome o P → IfSome o Q
some_weaker None P Q f h = tt
some_weaker (Some p) P Q f h = f p h

-- If P implies Q and P holds if there is no number, so does Q.
pub none_weaker : (o : Option ℕ) (P Q : Type 0) → (P → Q) → IfNone o P → IfNone o Q
none_weaker None P Q f h = f h
none_weaker (Some p) P Q f h = tt

module _ {K V S : Type 0} (hash : K → ℕ) where
  -- If each index was entered under the hash of its key, each key is found.
  pub all_keys : (es : List (Entry K V S)) (n count : ℕ) (words : ℕ → ℕ) → n ≡ length es
      → ((p : ℕ) → p < n → (h : ℕ) × ((e : Entry K V S) → slice_get es p ≡ Some e → h ≡ hash e.key) × IsIndexed count words h p) → IndexesKeys hash count words (keys_of es)
  all_keys es n count words len all i y at =
      let here = entry_at es i y at in
      let within : i < length es = slice_get_within es i here.0 here.1 in
      let found = all i (omega (arith, within, len)) in
      subst (λ h. IsIndexed count words h i) (found.1 here.0 here.1 ∙ ap hash here.2) found.2

  -- A history in which each key is found, and then another key.
  pub grown_by : (es : List (Entry K V S)) (key : K) (count after : ℕ) (f : ℕ → ℕ) (log : List (Event S)) (h n : ℕ) → IndexesKeys hash count f (keys_of es) → after ≡ count → count_of log ≡ after
      → IsLater f (λ k. word_at k log) → h ≡ hash key → n ≡ length es → IsIndexed after (λ k. word_at k log) h n → IndexesKeys hash (count_of log) (λ k. word_at k log) (keys_of es ++ key ∷ [])
  grown_by es key count after f log h n all same is later hashed len last =
      let same_count : count ≡ count_of log = sym (is ∙ same) in
      indexes_more hash (keys_of es) key (count_of log) f (λ k. word_at k log) h n later (subst (λ c. IndexesKeys hash c f (keys_of es)) same_count all) hashed
      (len ∙ sym (length-map es key_of)) (subst (λ c. IsIndexed c (λ k. word_at k log) h n) (sym is) last)
