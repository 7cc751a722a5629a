-- Which shard a key belongs to, and what a call with a key changes.
use Rattle.std.specs.Prelude.{◌≡◌, ℕ, ◌+◌, ◌-◌, ◌*◌, ◌/◌, ◌%◌, ◌^◌, min, Bool, List, Some, All, fold, length, map, slice_get, slice_set}
use Rattle.std.specs.Hash.{HashWrites}
use Rattle.std.specs.List.{IsDistinct}
use Rattle.std.specs.Map.{keys_of}
use Rattle.std.specs.declared.hash.BuildHasher as builder
use Rattle.std.specs.declared.hash.Hasher as hasher
use Rattle.elsa_lock_free.specs.SharedList.{Continues, Meet, View}
use Rattle.elsa_tables.specs.Rules.{IsKept}

-- One of `count` indices for a hash: the hash is multiplied by an odd number, and the upper half of
-- the product's 64 bits is reduced modulo the count.
unfoldable pub spread_over : ℕ → ℕ → ℕ
spread_over count hash = hash * 11400714819323198485 % 2 ^ 64 / 2 ^ 32 % count

-- The index of a key's shard, by the hasher's result for the key's writes.
unfoldable pub shard_of : {S H : Type 0} → builder.Ghosts S H → hasher.Ghosts H → S → ℕ → HashWrites → ℕ
shard_of b h state count writes = spread_over count (h.finish (fold h.write (b.build_hasher state) writes))

-- Of the views of all shards, a call changed the view at one index, as `P` says, and no other.
abbrev pub OnShard : {X : Type 0} → List X → List X → ℕ → (X → X → Type 0) → Type 0
OnShard {X} old new index P =
    (before after : X) × (slice_get old index ≡ Some before) × (new ≡ slice_set old index after) × P before after

-- The views, each of the same vector as before, and the builder of hashers that stays.
abbrev pub IsSameMap : {T S : Type 0} → List (View T) × S → List (View T) × S → Type 0
IsSameMap old new = (new.1 ≡ old.1) × (map (λ v. v.vector) new.0 ≡ map (λ v. v.vector) old.0)

-- Each view of a list continues the view at the same index of another list.
abbrev pub AllContinue : {T : Type 0} → List (View T) → List (View T) → Type 0
AllContinue {T} old new =
    (length new ≡ length old)
    × ((i : ℕ) (before after : View T) → slice_get old i ≡ Some before → slice_get new i ≡ Some after → Continues before after)

-- Of two lists of views, those at the same index have met.
pub record AllMeet {T : Type 0} (one one_after two two_after : List (View T)) : Type 0 where
  pub counts : (length one_after ≡ length one) × (length two_after ≡ length two)
  pub met : (i : ℕ) (a a_after b b_after : View T) → slice_get one i ≡ Some a → slice_get one_after i ≡ Some a_after →
      slice_get two i ≡ Some b → slice_get two_after i ≡ Some b_after → Meet a a_after b b_after

-- The sum of the sizes, or the greatest number of 64 bits.
abbrev pub count_in_all : {X : Type 0} → (X → ℕ) → List X → ℕ
count_in_all size all = fold (λ sum it. min (sum + size it) (2 ^ 64 - 1)) 0 all

-- The number of entries that the views have observed in all, or the greatest number of 64 bits.
abbrev pub seen_in_all : {T : Type 0} → List (View T) → ℕ
seen_in_all views = count_in_all (λ view. length view.seen) views

-- P holds of the entries that the shards of a map had, those of each shard at a moment of its own:
-- no two keys of a shard are equal, and the entries obey the map's rule.
abbrev pub AtMoments : {K V : Type 0} → (K → K → Bool) → (K → V → Type 0) → ℕ → (List (List (K × V)) → Type 0) → Type 0
AtMoments {K} {V} same holds count P = (shards : List (List (K × V))) × (length shards ≡ count)
    × All (λ entries. IsDistinct same (keys_of entries) × IsKept same holds entries) shards × P shards
