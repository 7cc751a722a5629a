-- Facts that the rule of a map's list implies for its observed entries.
use Rattle.std.proofs.Common.{◌≡◌, ℕ, zero, suc, ◌<◌, ◌≤◌, ◌^◌, Bool, true, false, List, [], ◌∷◌, ◌++◌, drop, length, length-append, take, slice_get, Some, refl, ap, sym, ◌∙◌, subst, arith}
use Rattle.std.specs.Prelude.{Option, None, IfNone, IfSome, Result, Ok, Err, IfOk, IfErr}
use Rattle.std.specs.Option.{is_some}
use Rattle.std.specs.Borrow.{Bor}
use Rattle.std.specs.Str.{bytes_eq}
use mathlib.Core.List.{IsPrefix}
use Rattle.std.specs.List.{IsDistinct}
use Rattle.std.specs.Map.{keys_of as firsts_of}
use Rattle.std.specs.Prelude.{get_or}
use Rattle.std.proofs.lemmas.List.{length-map, map-append}
use Rattle.std.proofs.lemmas.Map.Keys.{IsDistinct-from_apart}
use Rattle.std.proofs.lemmas.Option.{slice_get-get_or}
use Rattle.elsa_hash_index.specs.declared.entry.Entry.{Entry}
use Rattle.elsa_hash_index.specs.Entries.{EachIsNew, IsAbsent, IsBehind, key_of, keys_of}
use Rattle.elsa_hash_index.proofs.EntryLemmas.{entry_at}
use Rattle.elsa_lock_free.specs.Distinct.{AgreeOnIndices, IsOneToOne, one_answer}
use Rattle.elsa_lock_free.specs.SharedList.{BeginsABuffer, Continues, View, entry, item_of, items_of}
use Rattle.elsa_lock_free.specs.declared.event.Entry.{Entry as Listed}
use Rattle.elsa_lock_free.proofs.RuleLemmas.EachNew.{agree_on_indices, items_are_new, one_to_one}
use Rattle.elsa_lock_free.proofs.RuleLemmas.History.{items_prefix}
use Rattle.elsa_tables.specs.declared.put.Inserted.{Inserted}
use Rattle.elsa_tables.specs.Rules.{HoldsAt}
use Rattle.elsa_lock_free_map.specs.Entries.{AgreeOnEntries, Came, FindsAt, HasAt, HoldsEach, InsertsOnce, Lacks, MayFollow, PushesPair, is_text, pairs_of}

last_at : {A : Type 0} (x : A) (xs : List A) → (y : A) × (slice_get (x ∷ xs) (length xs) ≡ Some y)
last_at x [] = (x, refl)
last_at x (z ∷ zs) = last_at z zs

taken : {A : Type 0} (n : ℕ) (xs : List A) → n ≤ length xs → length (take n xs) ≡ n
taken zero xs h = refl
taken (suc n) [] h = absurd (omega (arith, h))
taken (suc n) (x ∷ xs) h = ap suc (taken n xs (omega (arith, h)))

-- where no buffer begins there is an index before
pub some_before : (n : ℕ) → (BeginsABuffer n → ⊥) → 0 < n
some_before zero later = absurd (later (0, omega arith, refl))
some_before (suc n) later = omega arith

-- items that obey a rule and another fact obey each of the two
pub each_first : {A : Type 0} (rule : List A → A → Type 0) (more : A → Type 0) (es : List (Listed A)) → EachIsNew (λ fs f. rule (items_of fs) f.item × more f.item) es → EachIsNew rule (items_of es)
each_first rule more es all = items_are_new rule es (λ i e at. (all i e at).0)

pub each_holds : {A : Type 0} (rule : List A → A → Type 0) (more : A → Type 0) (es : List (Listed A)) → EachIsNew (λ fs f. rule (items_of fs) f.item × more f.item) es → (i : ℕ) (x : A) → slice_get (items_of es) i ≡ Some x → more x
each_holds rule more es all = items_are_new (λ xs x. more x) es (λ i e at. (all i e at).1)

-- the value of an entry whose key equals the query holds
pub stands_holds : {Q K V S : Type 0} (equal : Q → K → Bool) (holds : K → V → Type 0) (es : List (Entry K V S)) (key : Q) (i : ℕ) (value : V) → HoldsEach holds es → HasAt equal es i key value → HoldsAt holds (equal key) value
stands_holds equal holds es key i value all h = (h.0.key, h.2, subst (holds h.0.key) h.3 (all i h.0 h.1))

module _ {K V S : Type 0} (equal : K → K → Bool) (hash : S → K → ℕ) where
  -- each entry follows the entries before it
  pub each_behind : (es : List (Entry K V S)) → EachIsNew (MayFollow equal hash) es → EachIsNew (IsBehind equal hash) es
  each_behind es rule i e at = (rule i e at).0

  -- and they are fewer than 2 ^ 32
  pub few : (es : List (Entry K V S)) → EachIsNew (MayFollow equal hash) es → length es < 2 ^ 32
  few [] rule = omega arith
  few (e ∷ es) rule =
      let last = last_at e es in
      let low = (rule (length es) last.0 last.1).1 in
      let l = taken (length es) (e ∷ es) (omega arith) in
      omega (arith, low, l)

-- appending to a list does not change its prefixes
take_keys : {K V S : Type 0} (i : ℕ) (es : List (Entry K V S)) → keys_of (take i es) ≡ take i (keys_of es)
take_keys zero es = refl
take_keys (suc i) [] = refl
take_keys (suc i) (e ∷ es) = ap (λ l. e.key ∷ l) (take_keys i es)

-- the key at an index is that of the entry there
pub key_at : {K V S : Type 0} (es : List (Entry K V S)) (i : ℕ) (e : Entry K V S) → slice_get es i ≡ Some e → slice_get (keys_of es) i ≡ Some e.key
key_at [] i e at = absurd (cc at)
key_at (x ∷ es) zero e at = let same : x ≡ e = cc at in ap (λ y. Some y.key) same
key_at (x ∷ es) (suc i) e at = key_at es i e at

module _ {K V S : Type 0} (equal : K → K → Bool) (hash : S → K → ℕ) where
  -- each key was absent when it came
  pub keys_are_new : (es : List (Entry K V S)) → EachIsNew (MayFollow equal hash) es → EachIsNew (IsAbsent equal) (keys_of es)
  keys_are_new es rule i y at =
      let here = entry_at es i y at in
      subst (λ z. IsAbsent equal (take i (keys_of es)) z) here.2 (subst (λ l. IsAbsent equal l here.0.key) (take_keys i es) (rule i here.0 here.1).0.absent)

  -- so a key is at one index
  module _ (symm : (x y : K) → equal x y ≡ equal y x) (congr : (q x y : K) → equal q x ≡ true → equal q y ≡ equal x y) where
    pub one_index : (es : List (Entry K V S)) → EachIsNew (MayFollow equal hash) es → (key : K) (i j : ℕ) (x y : Entry K V S) → slice_get es i ≡ Some x → slice_get es j ≡ Some y
        → equal key x.key ≡ true → equal key y.key ≡ true → i ≡ j
    one_index es rule key i j x y at_i at_j is_x is_y =
        one_to_one equal symm (keys_of es) (keys_are_new es rule) i j x.key y.key (key_at es i x at_i) (key_at es j y at_j) (sym (congr key x.key y.key is_x) ∙ is_y)

-- what a beginning of a list has at an index, the list has
kept_at : {A : Type 0} (xs ys : List A) (i : ℕ) (x : A) → slice_get xs i ≡ Some x → slice_get (xs ++ ys) i ≡ Some x
kept_at [] ys i x at = absurd (cc at)
kept_at (y ∷ xs) ys zero x at = at
kept_at (y ∷ xs) ys (suc i) x at = kept_at xs ys i x at

-- an item keeps its index in each longer list
pub later_at : {A : Type 0} (xs ys : List A) (i : ℕ) (x : A) → IsPrefix xs ys → slice_get xs i ≡ Some x → slice_get ys i ≡ Some x
later_at {A} xs ys i x p at = subst (λ (l : List A). slice_get l i ≡ Some x) p.1 (kept_at xs p.0 i x at)

keys_prefix : {K V S : Type 0} (xs ys : List (Entry K V S)) → IsPrefix xs ys → IsPrefix (keys_of xs) (keys_of ys)
keys_prefix xs ys p = (keys_of p.0, sym (map-append key_of xs p.0) ∙ ap keys_of p.1)

-- and what it lacks, its beginnings lack
pub lacks_before : {Q K V S : Type 0} (equal : Q → K → Bool) (xs ys : List (Entry K V S)) (key : Q) → IsPrefix xs ys → Lacks equal ys key → Lacks equal xs key
lacks_before equal xs ys key p lacks i y at = lacks i y (later_at (keys_of xs) (keys_of ys) i y (keys_prefix xs ys p) at)

-- the keys of two beginnings of a map's list are at one index each
pub keys_agree : {K V S : Type 0} (equal : K → K → Bool) (hash : S → K → ℕ) (symm : (x y : K) → equal x y ≡ equal y x) (xs ys zs : List (Entry K V S)) → IsPrefix xs zs → IsPrefix ys zs
    → EachIsNew (MayFollow equal hash) zs → AgreeOnIndices equal (keys_of xs) (keys_of ys)
keys_agree equal hash symm xs ys zs p q rule = agree_on_indices equal symm (keys_of xs) (keys_of ys) (keys_of zs) (keys_prefix xs zs p) (keys_prefix ys zs q) (keys_are_new equal hash zs rule)

-- the entry at an index is the first of those from there on
pub pair_at : {K V S : Type 0} (es : List (Entry K V S)) (i : ℕ) (e : Entry K V S) → slice_get es i ≡ Some e → drop i (pairs_of es) ≡ (e.key, e.value) ∷ drop (suc i) (pairs_of es)
pair_at [] i e at = absurd (cc at)
pair_at (x ∷ es) zero e at = let same : x ≡ e = cc at in ap (λ y. (y.key, y.value) ∷ pairs_of es) same
pair_at (x ∷ es) (suc i) e at = pair_at es i e at

-- what a list has at an index isn't lacking in it
pub not_lacking : {Q K V S : Type 0} (equal : Q → K → Bool) (es : List (Entry K V S)) (key : Q) (i : ℕ) (e : Entry K V S) → Lacks equal es key → slice_get es i ≡ Some e → equal key e.key ≡ true → ⊥
not_lacking equal es key i e lacks at is = one_answer (sym (lacks i e.key (key_at es i e at)) ∙ is)

-- the entry that is read at an index where the key was found
pub stands_at : {Q K V S : Type 0} (equal : Q → K → Bool) (es : List (Entry K V S)) (i : ℕ) (key : Q) (x : Entry K V S)
    → ((e : Entry K V S) × (slice_get es i ≡ Some e) × (equal key e.key ≡ true)) → slice_get es i ≡ Some x → HasAt equal es i key x.value
stands_at equal es i key x found here =
    let both : Some found.0 ≡ Some x = sym found.1 ∙ here in
    let same : found.0 ≡ x = cc both in
    (x, here, subst (λ e. equal key e.key ≡ true) same found.2, refl)

-- and it has the key and the value that are read
pub finds_at : {Q K V S : Type 0} (equal : Q → K → Bool) (es : List (Entry K V S)) (i : ℕ) (key : Q) (x : Entry K V S)
    → ((e : Entry K V S) × (slice_get es i ≡ Some e) × (equal key e.key ≡ true)) → slice_get es i ≡ Some x → FindsAt equal es i key x.key x.value
finds_at equal es i key x found here =
    let both : Some found.0 ≡ Some x = sym found.1 ∙ here in
    let same : found.0 ≡ x = cc both in
    (x, here, subst (λ e. equal key e.key ≡ true) same found.2, refl, refl)

-- what a list has at one index has one value
pub one_value : {Q K V S : Type 0} (equal : Q → K → Bool) (es : List (Entry K V S)) (key : Q) (i j : ℕ) (v w : V) → i ≡ j → HasAt equal es i key v → HasAt equal es j key w → v ≡ w
one_value equal es key i j v w same h k =
    let both : Some h.0 ≡ Some k.0 = sym h.1 ∙ (ap (slice_get es) same ∙ k.1) in
    let one : h.0 ≡ k.0 = cc both in
    sym h.3 ∙ (ap (λ e. e.value) one ∙ k.3)

-- the entries of two beginnings of a map's list agree
pub entries_agree : {K V S : Type 0} (equal : K → K → Bool) (hash : S → K → ℕ) (symm : (x y : K) → equal x y ≡ equal y x) (congr : (q x y : K) → equal q x ≡ true → equal q y ≡ equal x y)
    (xs ys zs : List (Entry K V S)) → IsPrefix xs zs → IsPrefix ys zs → EachIsNew (MayFollow equal hash) zs → AgreeOnEntries equal xs ys
entries_agree equal hash symm congr xs ys zs p q rule key i j v w h k =
    let one = later_at xs zs i h.0 p h.1 in
    let two = later_at ys zs j k.0 q k.1 in
    let index = one_index equal hash symm congr zs rule key i j h.0 k.0 one two h.2 k.2 in
    (index, one_value equal zs key i j v w index (h.0, one, h.2, h.3) (k.0, two, k.2, k.3))

last : {A : Type 0} (xs : List A) (x : A) → slice_get (xs ++ x ∷ []) (length xs) ≡ Some x
last [] x = refl
last (y ∷ xs) x = last xs x

get_pushed : {A : Type 0} (xs ys : List (Listed A)) (writer i : ℕ) (x : A) → length xs ≡ i → ys ≡ xs ++ entry writer x ∷ [] → slice_get (items_of ys) i ≡ Some x
get_pushed {A} xs ys writer i x at is =
    ap (λ (l : List (Listed A)). slice_get (items_of l) i) is ∙ (ap (λ (l : List A). slice_get l i) (map-append item_of xs (entry writer x ∷ []))
    ∙ (ap (λ (k : ℕ). slice_get (items_of xs ++ x ∷ []) k) (sym at ∙ sym (length-map xs item_of)) ∙ last (items_of xs) x))

-- the index of an entry that was appended to a list is the length of the list before
pub pushed_at : {K V S : Type 0} (equal : K → K → Bool) (refl_key : (k : K) → equal k k ≡ true) (before after : View (Entry K V S)) (i : ℕ) (key : K) (value : V)
    → (i ≡ length before.seen) × PushesPair before after key value → HasAt equal (items_of after.seen) i key value
pushed_at equal refl_key before after i key value (at, (e, is_key, is_value, pushed)) =
    (e, get_pushed before.seen after.seen before.writer i e (sym at) pushed.0, subst (λ k. equal key k ≡ true) (sym is_key) (refl_key key), is_value)

within : {A : Type 0} (xs ys : List A) → IsPrefix xs ys → length xs ≤ length ys
within xs ys p = omega (arith, length-append xs p.0, ap length p.1)

-- an entry that is new to a later view is new to the earlier one
pub came_since : {T : Type 0} (a b c : View T) → Continues a b → (is_new : Bool) (i : ℕ) → Came is_new b c i → Came is_new a c i
came_since a b c on true i came = (let w = within a.seen b.seen on.1 in let l = came.0 in omega (arith, w, l), came.1 ∙ ap (λ l. l ++ i ∷ []) on.2)
came_since a b c on false i came = came ∙ on.2

-- what an insertion left by a pass that lacked the key and has gone on since
pub inserts_since : {Q K V S : Type 0} (equal : Q → K → Bool) (a b c : View (Entry K V S)) (key : Q) (r : Inserted V ℕ) → Continues a b → Lacks equal (items_of a.seen) key
    → HasAt equal (items_of c.seen) r.index key r.value → Came r.is_new b c r.index → InsertsOnce equal a c key r
inserts_since equal a b c key r on lacks here came = (here, came_since a b c on r.is_new r.index came, λ j v h. absurd (not_lacking equal (items_of a.seen) key j h.0 lacks h.1 h.2))

-- what an insertion left by a pass that has gone on since
pub inserts_later : {Q K V S : Type 0} (equal : Q → K → Bool) (a b c : View (Entry K V S)) (key : Q) (r : Inserted V ℕ) → Continues a b → InsertsOnce equal b c key r → InsertsOnce equal a c key r
inserts_later equal a b c key r on done =
    (done.0, came_since a b c on r.is_new r.index done.1, λ j v h. done.2 j v (h.0, later_at (items_of a.seen) (items_of b.seen) j h.0 (items_prefix a.seen b.seen on.1) h.1, h.2, h.3))

-- what holds of an item if there is one, where there is one
pub some_has : {A : Type 0} (o : Option A) (P : A → Type 0) → IfSome o P → is_some o ≡ true → (x : A) × P x
some_has None P h e = absurd (one_answer e)
some_has (Some x) P h e = (x, h)

-- and of this one, if it is there
pub some_at : {A : Type 0} (o : Option A) (x : A) (P : A → Type 0) → o ≡ Some x → IfSome o P → P x
some_at None x P e h = absurd (cc e)
some_at (Some y) x P e h = let same : y ≡ x = cc e in subst P same h

-- what holds where there is no item, where there is none
pub none_at : {A : Type 0} (o : Option A) (P : Type 0) → o ≡ None → IfNone o P → P
none_at None P e h = h
none_at (Some y) P e h = absurd (cc e)

-- what holds of a result's value, where this is its value; and of its error
pub ok_at : {A E : Type 0} (o : Result A E) (x : A) (P : A → Type 0) → o ≡ Ok x → IfOk o P → P x
ok_at (Ok y) x P e h = let same : y ≡ x = cc e in subst P same h
ok_at (Err y) x P e h = absurd (cc e)

pub err_at : {A E : Type 0} (o : Result A E) (x : E) (P : E → Type 0) → o ≡ Err x → IfErr o P → P x
err_at (Ok y) x P e h = absurd (cc e)
err_at (Err y) x P e h = let same : y ≡ x = cc e in subst P same h

-- a borrow of a text as a query finds the same keys as the text
module _ {V S : Type 0} (es : List (Entry (Bor (List ℕ)) V S)) (text : List ℕ) (key : Bor (List ℕ)) (same : key.now ≡ text) where
  pub text_lacks : Lacks is_text es text → Lacks (λ a b. bytes_eq a.now b.now) es key
  text_lacks lacks i y at = ap (λ t. bytes_eq t y.now) same ∙ lacks i y at

  pub text_stands : (i : ℕ) (value : V) → HasAt (λ a b. bytes_eq a.now b.now) es i key value → HasAt is_text es i text value
  text_stands i value h = (h.0, h.1, sym (ap (λ t. bytes_eq t h.0.key.now) same) ∙ h.2, h.3)

-- a test that can't be true is false
is_refuted : (b : Bool) → (b ≡ true → ⊥) → b ≡ false
is_refuted true refuted = absurd (refuted refl)
is_refuted false refuted = refl

-- keys that are at one index each are distinct
distinct_from : {K : Type 0} (equal : K → K → Bool) (ks : List K) → IsOneToOne equal ks → IsDistinct equal ks
distinct_from equal ks one = IsDistinct-from_apart equal ks (λ i j d lt within. is_refuted (equal (get_or ks i d) (get_or ks j d)) (λ same.
    let low : i < length ks = omega (arith, lt, within) in
    let one_index = one i j (get_or ks i d) (get_or ks j d) (slice_get-get_or ks i d low) (slice_get-get_or ks j d within) same in
    omega (arith, one_index, lt)))

-- the keys of the pairs are those of the entries
keys_of_pairs : {K V S : Type 0} (es : List (Entry K V S)) → keys_of es ≡ firsts_of (pairs_of es)
keys_of_pairs [] = refl
keys_of_pairs (e ∷ es) = ap (λ l. e.key ∷ l) (keys_of_pairs es)

-- so the pairs of entries have distinct keys
pub distinct_pairs : {K V S : Type 0} (equal : K → K → Bool) (es : List (Entry K V S)) → IsOneToOne equal (keys_of es) → IsDistinct equal (firsts_of (pairs_of es))
distinct_pairs equal es one = subst (IsDistinct equal) (keys_of_pairs es) (distinct_from equal (keys_of es) one)
