-- Entries as a map observes them, compared with the indices of its table.
use Rattle.std.proofs.Common.{◌≡◌, ◌<◌, ℕ, zero, suc, arith, Bool, true, false, List, [], ◌∷◌, ◌++◌, map, length, position, slice_get, Option, None, Some, append_assoc, ap, sym, refl, ◌∙◌, cond}
use Rattle.std.proofs.lemmas.Bool.{true≢false}
use Rattle.std.proofs.lemmas.List.Quantifiers.{position-Some}
use Rattle.std.proofs.lemmas.Option.{get_or_from_slice_get, same_Some}
use Rattle.std.specs.Cmp.{IsEquivalence}
use Rattle.std.specs.Map.{keys_of, lookup}
use Rattle.std.specs.Option.{option_map, option_or}
use Rattle.indexmap.proofs.MapLemmas.{Found-position, Missing-position}
use Rattle.std_collections.proofs.HashLookup.{get_value}
use mathlib.Core.List.{IsPrefix}
use Rattle.elsa_cell.specs.declared.map.Entry.{Entry}
use Rattle.elsa_cell.specs.Entries.{Inserts, alone, entries_of, InsertsOnce, key_of, pair_of, pairs_of}

-- An item of a mapped list.
pub get_map : {X Y : Type 0} (f : X → Y) (xs : List X) (i : ℕ) → slice_get (map f xs) i ≡ option_map f (slice_get xs i)
get_map f [] i = refl
get_map f (x ∷ xs) zero = refl
get_map f (x ∷ xs) (suc i) = get_map f xs i

map_map : {X Y Z : Type 0} (f : X → Y) (g : Y → Z) (o : Option X) → option_map g (option_map f o) ≡ option_map (λ x. g (f x)) o
map_map f g None = refl
map_map f g (Some x) = refl

map_append : {X Y : Type 0} (f : X → Y) (xs ys : List X) → map f (xs ++ ys) ≡ map f xs ++ map f ys
map_append f [] ys = refl
map_append f (x ∷ xs) ys = ap (λ l. f x ∷ l) (map_append f xs ys)

-- The keys of the pairs are the keys of the entries.
pub keys_pairs : {K V : Type 0} (es : List (Entry K V)) → keys_of (pairs_of es) ≡ map key_of es
keys_pairs [] = refl
keys_pairs (e ∷ es) = ap (λ l. key_of e ∷ l) (keys_pairs es)

-- The value at the index of a key.
pub value_at : {K V : Type 0} (test : K → Bool) (es : List (Entry K V)) (i : ℕ) → position test (map key_of es) ≡ Some i → lookup test (pairs_of es) ≡ option_map (λ e. e.value) (slice_get es i)
value_at test es i at =
    let f = Found-position test (pairs_of es) i (ap (position test) (keys_pairs es) ∙ at) in
    f.value ∙ get_value (pairs_of es) i ∙ ap (option_map (λ p. p.1)) (get_map pair_of es i) ∙ map_map pair_of (λ p. p.1) (slice_get es i)

-- A key that isn't among the keys has no value.
pub absent_at : {K V : Type 0} (test : K → Bool) (es : List (Entry K V)) → position test (map key_of es) ≡ None → lookup test (pairs_of es) ≡ None
absent_at test es none = (Missing-position test (pairs_of es) (ap (position test) (keys_pairs es) ∙ none)).value

-- The keys after a push.
pub keys_push : {K V : Type 0} (es ns : List (Entry K V)) (e : Entry K V) → ns ≡ es ++ e ∷ [] → map key_of ns ≡ map key_of es ++ key_of e ∷ []
keys_push es ns e grown = ap (map key_of) grown ∙ map_append key_of es (e ∷ [])

-- Prefixes.
pub prefix_trans : {A : Type 0} (xs ys zs : List A) → IsPrefix xs ys → IsPrefix ys zs → IsPrefix xs zs
prefix_trans xs ys zs p q = (p.0 ++ q.0, sym (append_assoc xs p.0 q.0) ∙ (ap (λ l. l ++ q.0) p.1 ∙ q.1))

module _ {K B : Type 0} (test : K → Bool) where
  lookup-append : (es fs : List (K × B)) → lookup test (es ++ fs) ≡ option_or (lookup test es) (lookup test fs)
  lookup-append [] fs = refl
  lookup-append (e ∷ es) fs = ap (cond (test e.0) (Some e.1)) (lookup-append es fs) ∙ by (test e.0)
    where
      by : (b : Bool) → cond b (Some e.1) (option_or (lookup test es) (lookup test fs)) ≡ option_or (cond b (Some e.1) (lookup test es)) (lookup test fs)
      by true = refl
      by false = refl

-- What is found in entries is found in more of them.
pub found_later : {K V : Type 0} (test : K → Bool) (xs ys : List (Entry K V)) (v : V) → IsPrefix xs ys → lookup test (pairs_of xs) ≡ Some v → lookup test (pairs_of ys) ≡ Some v
found_later test xs ys v p is = ap (λ l. lookup test (pairs_of l)) (sym p.1) ∙ (ap (lookup test) (map_append pair_of xs p.0) ∙ (lookup-append test (pairs_of xs) (pairs_of p.0) ∙ ap (λ o. option_or o (lookup test (pairs_of p.0))) is))

-- What isn't found in entries isn't found in fewer of them.
pub absent_before : {K V : Type 0} (test : K → Bool) (xs ys : List (Entry K V)) → IsPrefix xs ys → lookup test (pairs_of ys) ≡ None → lookup test (pairs_of xs) ≡ None
absent_before {K} {V} test xs ys p none = by (lookup test (pairs_of xs)) refl
  where
    by : (o : Option V) → o ≡ lookup test (pairs_of xs) → lookup test (pairs_of xs) ≡ None
    by None e = sym e
    by (Some v) e = absurd (let found = found_later test xs ys v p (sym e) in cc (sym found ∙ none))

-- An insertion since a later moment is one since an earlier moment.
pub inserts_later : {K V : Type 0} (equal : K → K → Bool) (old mid after : List (Entry K V)) (key : K) (value kept : V) (index : ℕ) (is_new : Bool)
    → IsPrefix old mid → InsertsOnce equal mid after key value kept index is_new → InsertsOnce equal old after key value kept index is_new
inserts_later equal old mid after key value kept index is_new p i = (i.0, prefix_trans old mid i.0 p i.1, i.2)

-- Of an insertion, the value that the key has is the one to name.
pub inserts_kept : {K V : Type 0} (equal : K → K → Bool) (old after : List (Entry K V)) (key : K) (value kept : V) (index : ℕ) (is_new : Bool)
    → InsertsOnce equal old after key value kept index is_new → InsertsOnce equal old after key kept kept index is_new
inserts_kept equal old after key value kept index true i = (i.0, i.1, (i.2.0, (i.2.1.0, i.2.1.1 ∙ ap (λ v. (key, v)) (sym i.2.2), i.2.1.2), refl, i.2.3))
inserts_kept equal old after key value kept index false i = i

length_map : {X Y : Type 0} (f : X → Y) (xs : List X) → length (map f xs) ≡ length xs
length_map f [] = refl
length_map f (x ∷ xs) = ap suc (length_map f xs)

-- The index of a key is below the number of entries.
pub within_at : {K V : Type 0} (test : K → Bool) (es : List (Entry K V)) (i : ℕ) → position test (map key_of es) ≡ Some i → i < length es
within_at test es i at =
    let f = Found-position test (pairs_of es) i (ap (position test) (keys_pairs es) ∙ at) in let w = f.within in let l = length_map pair_of es in omega (arith, w, l)

last_item : {X : Type 0} (xs : List X) (x : X) → slice_get (xs ++ x ∷ []) (length xs) ≡ Some x
last_item [] x = refl
last_item (y ∷ xs) x = last_item xs x

-- The entry at the last index is the last one.
pub entry_last : {K V : Type 0} (es ns : List (Entry K V)) (e f : Entry K V) (i : ℕ) → ns ≡ es ++ e ∷ [] → i ≡ length es → slice_get ns i ≡ Some f → f ≡ e
entry_last es ns e f i grown at is = same_Some f e (sym is ∙ (ap (λ l. slice_get l i) grown ∙ (ap (slice_get (es ++ e ∷ [])) at ∙ last_item es e)))

-- The item that was appended is at the index that was the length.
pub appended_at : {X : Type 0} (xs ns : List X) (x y : X) (i : ℕ) → ns ≡ xs ++ x ∷ [] → i ≡ length xs → y ≡ x → slice_get ns i ≡ Some y
appended_at xs ns x y i grown at is = ap (λ l. slice_get l i) grown ∙ (ap (slice_get (xs ++ x ∷ [])) at ∙ (last_item xs x ∙ ap (λ z. Some z) (sym is)))

-- The pair at an index is that of the entry there.
pub pair_at : {K V : Type 0} (es : List (Entry K V)) (i : ℕ) (e : Entry K V) → slice_get es i ≡ Some e → slice_get (pairs_of es) i ≡ Some (pair_of e)
pair_at es i e at = get_map pair_of es i ∙ ap (option_map pair_of) at

pub no_pair_at : {K V : Type 0} (es : List (Entry K V)) (i : ℕ) → slice_get es i ≡ None → slice_get (pairs_of es) i ≡ None
no_pair_at es i none = get_map pair_of es i ∙ ap (option_map pair_of) none

-- The key at the index that a test finds passes it.
pub passes_at : {K V : Type 0} (test : K → Bool) (es : List (Entry K V)) (i : ℕ) (e : Entry K V) → position test (map key_of es) ≡ Some i → slice_get es i ≡ Some e → test (key_of e) ≡ true
passes_at test es i e found at =
    let p = position-Some test (map key_of es) i (key_of e) found in
    ap test (sym (get_or_from_slice_get (map key_of es) i (key_of e) (key_of e) (get_map key_of es i ∙ ap (option_map key_of) at))) ∙ p.1

-- Pairs as entries.
pub entries_push : {K V : Type 0} (ps : List (K × V)) (p : K × V) → entries_of (ps ++ p ∷ []) ≡ entries_of ps ++ record { key = p.0; value = p.1 } ∷ []
entries_push [] p = refl
entries_push (q ∷ ps) p = ap (λ es. record { key = q.0; value = q.1 } ∷ es) (entries_push ps p)

pub length_entries : {K V : Type 0} (ps : List (K × V)) → length (entries_of ps) ≡ length ps
length_entries [] = refl
length_entries (p ∷ ps) = ap suc (length_entries ps)

-- As pairs they are the pairs again.
pub pairs_back : {K V : Type 0} (ps : List (K × V)) → pairs_of (entries_of ps) ≡ ps
pairs_back [] = refl
pairs_back (p ∷ ps) = ap (λ qs. p ∷ qs) (pairs_back ps)

-- Keys as entries without values.
pub alone_push : {K : Type 0} (ks : List K) (k : K) → alone (ks ++ k ∷ []) ≡ alone ks ++ record { key = k; value = tt } ∷ []
alone_push [] k = refl
alone_push (j ∷ ks) k = ap (λ es. record { key = j; value = tt } ∷ es) (alone_push ks k)

pub length_alone : {K : Type 0} (ks : List K) → length (alone ks) ≡ length ks
length_alone [] = refl
length_alone (k ∷ ks) = ap suc (length_alone ks)

keys_back : {K : Type 0} (ks : List K) → map key_of (alone ks) ≡ ks
keys_back [] = refl
keys_back (k ∷ ks) = ap (λ js. k ∷ js) (keys_back ks)

-- Keys begin with those of a prefix of their entries.
pub keys_begin : {K : Type 0} (es : List (Entry K (Unit {0}))) (ks : List K) → IsPrefix es (alone ks) → IsPrefix (map key_of es) ks
keys_begin es ks p = (map key_of p.0, sym (map_append key_of es p.0) ∙ (ap (map key_of) p.1 ∙ keys_back ks))

-- Pairs begin with those of a prefix of their entries.
pub pairs_begin : {K V : Type 0} (es : List (Entry K V)) (ps : List (K × V)) → IsPrefix es (entries_of ps) → IsPrefix (pairs_of es) ps
pairs_begin es ps p = (pairs_of p.0, sym (map_append pair_of es p.0) ∙ (ap (map pair_of) p.1 ∙ pairs_back ps))

-- The entry that a key has after an insertion has an equal key; a new one is the inserted entry.
pub inserted_equal : {K V : Type 0} (equal : K → K → Bool) → IsEquivalence equal → (old new : List (Entry K V)) (key : K) (value kept : V) (index : ℕ) (is_new : Bool) (e : Entry K V) → Inserts equal old new key value kept index is_new → slice_get new index ≡ Some e
    → equal key (key_of e) ≡ true
inserted_equal equal laws old new key value kept index true e i at =
    let last = entry_last old new i.1.0 e index i.1.2 i.3 at in
    ap (equal key) (ap key_of last ∙ ap (λ p. p.0) i.1.1) ∙ laws.refl key
inserted_equal equal laws old new key value kept index false e i at = passes_at (equal key) old index e i.1 (ap (λ l. slice_get l index) (sym i.2) ∙ at)

pub inserted_own : {K V : Type 0} (equal : K → K → Bool) (old new : List (Entry K V)) (key : K) (value kept : V) (index : ℕ) (is_new : Bool) (e : Entry K V) → Inserts equal old new key value kept index is_new → slice_get new index ≡ Some e → is_new ≡ true → key_of e ≡ key
inserted_own equal old new key value kept index true e i at new_key = ap key_of (entry_last old new i.1.0 e index i.1.2 i.3 at) ∙ ap (λ p. p.0) i.1.1
inserted_own equal old new key value kept index false e i at new_key = absurd (true≢false (sym new_key))

-- After an insertion a key that equals itself is found, with the value that it then has.
pub found_once : {K V : Type 0} (equal : K → K → Bool) (before after : List (Entry K V)) (key : K) (value kept : V) (index : ℕ) (is_new : Bool) → equal key key ≡ true → InsertsOnce equal before after key value kept index is_new
    → lookup (equal key) (pairs_of after) ≡ Some kept
found_once {V = V} equal before after key value kept index true itself i =
    let e = i.2.1.0 in
    ap (λ l. lookup (equal key) (pairs_of l)) i.2.1.2 ∙ (ap (lookup (equal key)) (map_append pair_of i.0 (e ∷ [])) ∙ (lookup-append (equal key) (pairs_of i.0) (pair_of e ∷ [])
    ∙ (ap (λ (o : Option V). option_or o (lookup (equal key) (pair_of e ∷ []))) i.2.0 ∙ (ap (λ p. lookup (equal key) (p ∷ [])) i.2.1.1 ∙ (ap (λ b. cond b (Some value) None) itself ∙ ap Some (sym i.2.2))))))
found_once equal before after key value kept index false itself i = ap (λ l. lookup (equal key) (pairs_of l)) i.2.2 ∙ i.2.0
