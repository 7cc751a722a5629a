-- What the texts of a map's view are, by what is known of its entries and their keys.
use Rattle.std.proofs.Common.{◌≡◌, ◌∙◌, ◌==◌, ◌⊎◌, ℕ, suc, Bool, true, false, true≢false, List, [], ◌∷◌, ◌++◌, ap, append-nil, arith, length, refl, subst, sym, map, slice_get, position, Option, None, Some, inl, inr, if◌then◌else◌}
use Rattle.std.specs.Prelude.{IfSome, IfNone, ◌+◌, ◌<◌, ◌≤◌, ◌^◌}
use Rattle.std.proofs.lemmas.List.{length-map, map-append}
use Rattle.std.proofs.lemmas.Option.{slice_get-map, slice_get_cases}
use Rattle.std.specs.Option.{option_map}
use Rattle.std.specs.Str.{bytes_eq}
use Rattle.std.specs.Cmp.Lexicographic.{bytes_decides, nat_list_eq_equiv}
use mathlib.Core.List.{IsPrefix}
use Rattle.elsa_hash_index.specs.declared.entry.Entry.{Entry}
use Rattle.elsa_hash_index.specs.Entries.{IsAbsent, key_of, keys_of}
use Rattle.elsa_interner.specs.Names.{IsFull, IsOneToOne}
use Rattle.elsa_lock_free.specs.Distinct.{IsOneToOne as AreKeysOneToOne}
use Rattle.elsa_lock_free.specs.SharedList.{Continues, IsLaterPass, View, item_of, items_of, mine, indices_from}
use Rattle.elsa_lock_free.specs.declared.event.Entry.{Entry as Pushed}
use Rattle.elsa_lock_free.proofs.RuleLemmas.History.{items_prefix}
use Rattle.elsa_lock_free_map.specs.Entries.{Came, InsertsOnce}
use Rattle.elsa_lock_free_map.proofs.MapLemmas.{key_at, later_at}
use Rattle.elsa_tables.specs.declared.put.Inserted.{Inserted}
use Rattle.elsa_c.specs.declared.fault.Fault.{Fault}
use Rattle.elsa_c.specs.declared.fault.Fault.TheVariants.{Memory, NotUtf8, EndsOutOfOrder, Full, TooFewCodes, Busy, NoNames}
use Rattle.elsa_c.specs.Shared.{Became, IsAnother, IsAttempt, IsUnput, LacksText, PutsText, text_of, texts_of}
use Rattle.elsa_c.proofs.TextLemmas.{found_alone, found_never}

-- how a handle of C became another
pub became : (relation : View (List ℕ) → View (List ℕ) → Type 0) (old new : Option (View (List ℕ))) (a b : View (List ℕ)) → old ≡ Some a → new ≡ Some b → relation a b → Became relation old new
became relation old new a b is_old is_new h = subst (λ o. Became relation o new) (sym is_old) (b, is_new, h)

pub stayed : (relation : View (List ℕ) → View (List ℕ) → Type 0) → ((a : View (List ℕ)) → relation a a) → (old new : Option (View (List ℕ))) → new ≡ old → Became relation old new
stayed relation same None new e = e
stayed relation same (Some a) new e = (a, e, same a)

pub stays : (a : View (List ℕ)) → Continues a a
stays a = ((refl, refl), ([], append-nil a.seen), refl)

pub remains : (a : View (List ℕ)) → IsLaterPass a a
remains a = let s = stays a in (s.0, s.1)

-- an attempt that failed
pub failed : (text : List ℕ) (old new : Option (View (List ℕ))) (a b : View (List ℕ)) (code : ℕ) (fault : Fault) → old ≡ Some a → new ≡ Some b → IsUnput text a b fault → IsAttempt text old new code code (Some fault)
failed text old new a b code Memory is_old is_new h = ((λ e. absurd (cc (sym e ∙ is_old))), became (λ x y. IsUnput text x y Memory) old new a b is_old is_new h, refl)
failed text old new a b code Full is_old is_new h = ((λ e. absurd (cc (sym e ∙ is_old))), became (λ x y. IsUnput text x y Full) old new a b is_old is_new h, refl)
failed text old new a b code Busy is_old is_new h = ((λ e. absurd (cc (sym e ∙ is_old))), became (λ x y. IsUnput text x y Busy) old new a b is_old is_new h, refl)
failed text old new a b code NotUtf8 is_old is_new h = absurd h
failed text old new a b code EndsOutOfOrder is_old is_new h = absurd h
failed text old new a b code TooFewCodes is_old is_new h = absurd h
failed text old new a b code NoNames is_old is_new h = absurd h

module _ {K V S : Type 0} (bytes : K → List ℕ) where
  -- an entry of the text is at the index, and no entry has its key
  abbrev pub IsEntryAt : List (Pushed (Entry K V S)) → List ℕ → ℕ → Type 0
  IsEntryAt es text i = (e : Entry K V S) × (slice_get (items_of es) i ≡ Some e) × (bytes_eq text (bytes e.key) ≡ true)

  abbrev pub HasNone : List (Pushed (Entry K V S)) → List ℕ → Type 0
  HasNone es text = IsAbsent (λ t k. bytes_eq t (bytes k)) (keys_of (items_of es)) text

  -- the texts of a view are those of its keys
  abbrev pub texts : List (Pushed (Entry K V S)) → List (List ℕ)
  texts es = map bytes (keys_of (items_of es))

  pub items_texts : (es : List (Pushed (Entry K V S))) → items_of (map (text_of bytes) es) ≡ texts es
  items_texts [] = refl
  items_texts (e ∷ es) = ap (λ l. bytes e.item.key ∷ l) (items_texts es)

  texts_indices : (writer first : ℕ) (es : List (Pushed (Entry K V S))) → indices_from writer first (map (text_of bytes) es) ≡ indices_from writer first es
  texts_indices writer first [] = refl
  texts_indices writer first (e ∷ es) = ap (λ l. (if e.writer == writer then first ∷ [] else []) ++ l) (texts_indices writer (suc first) es)

  pub mine_texts : (pass : View (Entry K V S)) → mine (texts_of bytes pass) ≡ mine pass
  mine_texts pass = texts_indices pass.writer 0 pass.seen

  prefix_texts : (xs ys : List (Pushed (Entry K V S))) → IsPrefix xs ys → IsPrefix (map (text_of bytes) xs) (map (text_of bytes) ys)
  prefix_texts xs ys p = (map (text_of bytes) p.0, sym (map-append (text_of bytes) xs p.0) ∙ ap (map (text_of bytes)) p.1)

  prefix_keys : (xs ys : List (Pushed (Entry K V S))) → IsPrefix xs ys → IsPrefix (keys_of (items_of xs)) (keys_of (items_of ys))
  prefix_keys xs ys p = let q = items_prefix xs ys p in (keys_of q.0, sym (map-append key_of (items_of xs) q.0) ∙ ap keys_of q.1)

  -- a later view has later texts
  module _ (a b : View (Entry K V S)) where
    pub later_texts : IsLaterPass a b → IsLaterPass (texts_of bytes a) (texts_of bytes b)
    later_texts l = (l.0, prefix_texts a.seen b.seen l.1)

    pub mine_stays : mine b ≡ mine a → mine (texts_of bytes b) ≡ mine (texts_of bytes a)
    mine_stays m = mine_texts b ∙ (m ∙ sym (mine_texts a))

    pub continue_texts : Continues a b → Continues (texts_of bytes a) (texts_of bytes b)
    continue_texts c = (c.0, prefix_texts a.seen b.seen c.1, mine_stays c.2)

  -- what holds of two views of a map by their texts holds of a handle that had the first one and has the second
  pub moved : (relation : View (List ℕ) → View (List ℕ) → Type 0) (old : View (List ℕ)) (inside before after result : View (Entry K V S)) → texts_of bytes inside ≡ old → before ≡ inside
      → result ≡ after → relation (texts_of bytes before) (texts_of bytes after) → relation old (texts_of bytes result)
  moved relation old inside before after result view_is was is h =
      subst (λ v. relation v (texts_of bytes result)) view_is
      (subst (λ p. relation (texts_of bytes inside) (texts_of bytes p)) (sym is) (subst (λ p. relation (texts_of bytes p) (texts_of bytes after)) was h))

  -- another view of the same map
  pub another : (old : View (List ℕ)) (inside other : View (Entry K V S)) → texts_of bytes inside ≡ old → (other.vector ≡ inside.vector) × (other.seen ≡ inside.seen) × (mine other ≡ [])
      → IsAnother old (texts_of bytes other)
  another old inside other view_is h = subst (λ v. IsAnother v (texts_of bytes other)) view_is (h.0, ap (map (text_of bytes)) h.1, mine_texts other ∙ h.2)

  -- the text of an entry
  pub text_at : (es : List (Pushed (Entry K V S))) (i : ℕ) (e : Entry K V S) → slice_get (items_of es) i ≡ Some e → slice_get (items_of (map (text_of bytes) es)) i ≡ Some (bytes e.key)
  text_at es i e at = ap (λ l. slice_get l i) (items_texts es) ∙ slice_get-map bytes (keys_of (items_of es)) i ∙ ap (option_map bytes) (key_at (items_of es) i e at)

  has_text : (es : List (Pushed (Entry K V S))) (text : List ℕ) (i : ℕ) → IsEntryAt es text i → slice_get (texts es) i ≡ Some text
  has_text es text i h = slice_get-map bytes (keys_of (items_of es)) i ∙ ap (option_map bytes) (key_at (items_of es) i h.0 h.1) ∙ ap Some (sym ((bytes_decides text (bytes h.0.key)).0 h.2))

  -- the key of a text
  key_of_text : (es : List (Pushed (Entry K V S))) (i : ℕ) (text : List ℕ) → slice_get (texts es) i ≡ Some text → (k : K) × (slice_get (keys_of (items_of es)) i ≡ Some k) × (text ≡ bytes k)
  key_of_text es i text at =
      let read = slice_get-map bytes (keys_of (items_of es)) i in
      elim ((slice_get_cases (keys_of (items_of es)) i).1) [
        | inl h ↦ (h.0, h.2, cc (sym at ∙ read ∙ ap (option_map bytes) h.2))
        | inr h ↦ absurd (cc (sym at ∙ read ∙ ap (option_map bytes) h.1))
      ]

  -- a text whose key is absent has no index, and had none
  never : (xs ys : List (Pushed (Entry K V S))) (text : List ℕ) (i : ℕ) → IsPrefix xs ys → HasNone ys text → slice_get (texts xs) i ≡ Some text → ⊥
  never xs ys text i p none there =
      let k = key_of_text xs i text there in
      let later = later_at (keys_of (items_of xs)) (keys_of (items_of ys)) i k.0 (prefix_keys xs ys p) k.1 in
      true≢false (sym (ap (bytes_eq text) (sym k.2) ∙ nat_list_eq_equiv.refl text) ∙ none i k.0 later)

  absent : (xs ys : List (Pushed (Entry K V S))) (text : List ℕ) → IsPrefix xs ys → HasNone ys text → position (bytes_eq text) (items_of (map (text_of bytes) xs)) ≡ None
  absent xs ys text p none = ap (position (bytes_eq text)) (items_texts xs) ∙ found_never (texts xs) text (λ i there. never xs ys text i p none there)

  module _ (equal : K → K → Bool) (same : (x y : K) → equal x y ≡ bytes_eq (bytes x) (bytes y)) where
    -- different keys have different texts
    one_to_one : (es : List (Pushed (Entry K V S))) → AreKeysOneToOne equal (keys_of (items_of es)) → IsOneToOne (texts es)
    one_to_one es one i j text at_i at_j =
        let k = key_of_text es i text at_i in let l = key_of_text es j text at_j in
        one i j k.0 l.0 k.1 l.1 (same k.0 l.0 ∙ ap (λ t. bytes_eq t (bytes l.0)) (sym k.2) ∙ ap (bytes_eq text) (sym l.2) ∙ nat_list_eq_equiv.refl text)

    found_at : (es : List (Pushed (Entry K V S))) (text : List ℕ) (i : ℕ) → AreKeysOneToOne equal (keys_of (items_of es)) → IsEntryAt es text i → position (bytes_eq text) (items_of (map (text_of bytes) es)) ≡ Some i
    found_at es text i one there = ap (position (bytes_eq text)) (items_texts es) ∙ found_alone (texts es) text i (one_to_one es one) (has_text es text i there)

    -- what a look-up finds
    pub found : (es : List (Pushed (Entry K V S))) (text : List ℕ) (o : Option ℕ) → AreKeysOneToOne equal (keys_of (items_of es)) → IfSome o (IsEntryAt es text) → IfNone o (HasNone es text)
        → o ≡ position (bytes_eq text) (items_of (map (text_of bytes) es))
    found es text None one there none = sym (absent es es text ([], append-nil es) none)
    found es text (Some i) one there none = sym (found_at es text i one there)

    module _ (a b c : View (Entry K V S)) (text : List ℕ) (first : Continues a b) where
      -- a text that the look-up found
      pub puts_known : (i : ℕ) → AreKeysOneToOne equal (keys_of (items_of b.seen)) → IsEntryAt b.seen text i → PutsText text (texts_of bytes a) (texts_of bytes b) i
      puts_known i one there = (found_at b.seen text i one there, inl (mine_stays a b first.2), λ j at. mine_stays a b first.2)

      module _ (none : HasNone b.seen text) where
        -- a text that was not found and not put
        pub lacks : mine c ≡ mine b → LacksText text (texts_of bytes a) (texts_of bytes c)
        lacks m = (absent a.seen b.seen text first.1 none, mine_stays a c (m ∙ first.2))

        came : (is_new : Bool) (i : ℕ) → Came is_new b c i → (mine (texts_of bytes c) ≡ mine (texts_of bytes a)) ⊎ (mine (texts_of bytes c) ≡ mine (texts_of bytes a) ++ i ∷ [])
        came true i h = inr (mine_texts c ∙ h.1 ∙ ap (λ l. l ++ i ∷ []) (first.2 ∙ sym (mine_texts a)))
        came false i h = inl (mine_stays a c (h ∙ first.2))

        -- a text that was not found and then inserted
        pub puts_new : (key : K) (r : Inserted V ℕ) → bytes key ≡ text → AreKeysOneToOne equal (keys_of (items_of c.seen)) → InsertsOnce equal b c key r
            → PutsText text (texts_of bytes a) (texts_of bytes c) r.index
        puts_new key r is one h =
            let e = h.0 in (
              found_at c.seen text r.index one (e.0, e.1, subst (λ t. bytes_eq t (bytes e.0.key) ≡ true) is (sym (same key e.0.key) ∙ e.2)),
              came r.is_new r.index h.1,
              λ j at. absurd (never a.seen b.seen text j first.1 none (sym (ap (λ l. slice_get l j) (items_texts a.seen)) ∙ at)),
            )

-- a view of the greatest length is full
pub full : {K V S : Type 0} (bytes : K → List ℕ) (pass : View (Entry K V S)) (n : ℕ) → n ≡ length pass.seen → n < 2 ^ 32 → 2 ^ 32 ≤ length pass.seen + 1 → IsFull (items_of (texts_of bytes pass).seen)
full bytes pass n is limit most = omega (arith, is, limit, most, length-map pass.seen (text_of bytes), length-map (map (text_of bytes) pass.seen) item_of)
