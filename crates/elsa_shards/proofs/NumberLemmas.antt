-- Lemmas on the numbers of an interner of shards.
use Rattle.std.proofs.Common.{◌≡◌, ℕ, ◌+◌, ◌*◌, ◌/◌, ◌%◌, ◌<◌, ◌≤◌, Bool, true, List, Some, inl, inr, length, map, slice_get, slice_set, ap, subst, sym, ◌∙◌, arith}
use Rattle.std.proofs.lemmas.Bool.{cases_eq}
use Rattle.std.proofs.lemmas.List.{length-map}
use Rattle.std.proofs.lemmas.Nat.{div-add-mod', div-mul-add, mod-mul-add}
use Rattle.std.proofs.lemmas.Option.{slice_get-map, slice_get_within}
use Rattle.std.specs.Option.{option_map}
use Rattle.elsa_lock_free.specs.Distinct.{AgreeOnIndices}
use Rattle.elsa_lock_free.specs.SharedList.{View, item_of, items_of}
use Rattle.elsa_shards.proofs.ShardLemmas.{some_equal}
use Rattle.elsa_shards.specs.Numbers.{AgreeOnNumbers}
use Rattle.elsa_hash_index.specs.declared.entry.Entry.{Entry}
use Rattle.elsa_hash_index.specs.Entries.{keys_of}

-- A number leads back to the index and to the shard.
pub index_of_number : (index shard count : ℕ) → shard < count → (index * count + shard) / count ≡ index
index_of_number index shard count lt = div-mul-add index count shard lt

pub shard_of_number : (index shard count : ℕ) → shard < count → (index * count + shard) % count ≡ shard
shard_of_number index shard count lt = mod-mul-add index count shard lt

-- Numbers of one shard and of one index are one number.
same_number : (i j n m : ℕ) → n ≡ m → i / n ≡ j / m → i % n ≡ j % m → i ≡ j
same_number i j n m count index shard =
    sym (div-add-mod' i n) ∙ (ap (λ p. p * n + i % n) index ∙ (ap (λ k. j / m * k + i % n) count ∙ (ap (λ s. j / m * m + s) shard ∙ div-add-mod' j m)))

-- In the views at the indices below k, equal names have one index.
abbrev pub AgreeBelow : {T V S : Type 0} → (T → T → Bool) → ℕ → List (View (Entry T V S)) → List (View (Entry T V S)) → Type 0
AgreeBelow {T} {V} {S} equal k one two =
    (i : ℕ) (a b : View (Entry T V S)) → i < k → slice_get one i ≡ Some a → slice_get two i ≡ Some b → AgreeOnIndices equal (keys_of (items_of a.seen)) (keys_of (items_of b.seen))

-- If they agree in all shards, equal names have one number.
pub agree_on_numbers : {T V S : Type 0} (equal : T → T → Bool) (shard : T → ℕ) (k : ℕ) (one two : List (View (Entry T V S))) → length one ≤ k → length one ≡ length two → AgreeBelow equal k one two → ((x y : T) → equal x y ≡ true → shard x ≡ shard y) → AgreeOnNumbers equal shard one two
agree_on_numbers equal shard k one two le counts all respects i j x y p q same =
    let shards = p.3 ∙ (respects x y same ∙ sym q.3) in
    let at_two = subst (λ s. slice_get two s ≡ Some q.0) (sym shards) q.1 in
    let within = slice_get_within one (i % length one) p.0 p.1 in
    let indices = all (i % length one) p.0 q.0 (omega (arith, within, le)) p.1 at_two (i / length one) (j / length two) x y p.2 q.2 same in
    same_number i j (length one) (length two) counts indices shards

-- At the next index they agree too.
pub agree_more : {T V S : Type 0} (equal : T → T → Bool) (k : ℕ) (one two : List (View (Entry T V S))) (a b : View (Entry T V S)) → AgreeBelow equal k one two → slice_get one k ≡ Some a → slice_get two k ≡ Some b → AgreeOnIndices equal (keys_of (items_of a.seen)) (keys_of (items_of b.seen)) → AgreeBelow equal (k + 1) one two
agree_more equal k one two a b all at at_two here i x y lt at_x at_y = elim (cases_eq i k) [
  | inl same ↦
      let x_is = some_equal a x (sym at ∙ subst (λ j. slice_get one j ≡ Some x) same at_x) in
      let y_is = some_equal b y (sym at_two ∙ subst (λ j. slice_get two j ≡ Some y) same at_y) in
      subst (λ v. AgreeOnIndices equal (keys_of (items_of v.seen)) (keys_of (items_of y.seen))) x_is (subst (λ v. AgreeOnIndices equal (keys_of (items_of a.seen)) (keys_of (items_of v.seen))) y_is here)
  | inr other ↦ all i x y (omega (arith, lt, other)) at_x at_y
]

-- Views at one index of two lists of the same vectors are of one vector.
pub vectors_at : {T : Type 0} (one two : List (View T)) (k : ℕ) (a b : View T) → map (λ v. v.vector) two ≡ map (λ v. v.vector) one → slice_get one k ≡ Some a → slice_get two k ≡ Some b → a.vector ≡ b.vector
vectors_at one two k a b same at at_two =
    some_equal a.vector b.vector (sym (ap (option_map (λ v. v.vector)) at) ∙ sym (slice_get-map (λ v. v.vector) one k) ∙ ap (λ vectors. slice_get vectors k) (sym same) ∙ slice_get-map (λ v. v.vector) two k ∙ ap (option_map (λ v. v.vector)) at_two)

-- A call changed one view, as P says, and no other.
pub on_shard_at : {X : Type 0} (items now : List X) (k shard : ℕ) (view after : X) (P : X → X → Type 0) → items ≡ now → k ≡ shard → slice_get items k ≡ Some view → P view after → (x x' : X) × (slice_get now shard ≡ Some x) × (slice_set items k after ≡ slice_set now shard x') × P x x'
on_shard_at items now k shard view after P same chosen at holds =
    (view, after, ap (λ xs. slice_get xs shard) (sym same) ∙ (ap (λ i. slice_get items i) (sym chosen) ∙ at), ap (λ xs. slice_set xs k after) same ∙ ap (λ i. slice_set now i after) chosen, holds)

-- The index of an item that a view has observed is below the view's length.
pub below_seen : {T : Type 0} (view : View T) (index : ℕ) (x : T) → slice_get (items_of view.seen) index ≡ Some x → index < length view.seen
below_seen view index x at = omega (arith, slice_get_within (items_of view.seen) index x at, length-map view.seen item_of)
