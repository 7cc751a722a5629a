-- The numbers of an interner of shards: a number says in which shard a name is, and at which index of the shard's list.
use Rattle.std.specs.Prelude.{◌≡◌, ℕ, ◌/◌, ◌%◌, Bool, true, List, Some, length, slice_get}
use Rattle.elsa_lock_free.specs.SharedList.{View, items_of}
use Rattle.elsa_hash_index.specs.declared.entry.Entry.{Entry}
use Rattle.elsa_hash_index.specs.Entries.{keys_of}

-- Of the views of all shards, the one that the number leads to has this name at the number's index. `shard` is the index of the
-- shard that a name belongs to, and the name is in that shard.
abbrev pub IsNumbered : {T V S : Type 0} → (T → ℕ) → List (View (Entry T V S)) → ℕ → T → Type 0
IsNumbered {T} {V} {S} shard views i x =
    (view : View (Entry T V S)) × (slice_get views (i % length views) ≡ Some view) × (slice_get (keys_of (items_of view.seen)) (i / length views) ≡ Some x)
    × (i % length views ≡ shard x)

-- Equal names have one number, by the views of one handle or of two.
abbrev pub AgreeOnNumbers : {T V S : Type 0} → (T → T → Bool) → (T → ℕ) → List (View (Entry T V S)) → List (View (Entry T V S)) → Type 0
AgreeOnNumbers {T} equal shard one two =
    (i j : ℕ) (x y : T) → IsNumbered shard one i x → IsNumbered shard two j y → equal x y ≡ true → i ≡ j

-- Equal names have one number, and a number leads to one name.
abbrev pub AreOneToOne : {T V S : Type 0} → (T → T → Bool) → (T → ℕ) → List (View (Entry T V S)) → Type 0
AreOneToOne {T} equal shard views =
    AgreeOnNumbers equal shard views views
    × ((i : ℕ) (x y : T) → IsNumbered shard views i x → IsNumbered shard views i y → x ≡ y)
