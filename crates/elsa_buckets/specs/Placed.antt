-- The keys of a collection in the order of their insertion, and the hash table that finds their indices.
use Rattle.std.specs.Prelude.{◌≡◌, ℕ, ◌/◌, ◌%◌, ◌^◌, Bool, List, Some, length, slice_get, fold, bit_xor}
use Rattle.std.specs.Hash.{HashWrites}
use Rattle.std.specs.List.{IsDistinct}
use Rattle.std.specs.declared.hash.BuildHasher as builder
use Rattle.std.specs.declared.hash.Hasher as hasher
use Rattle.elsa_buckets.specs.Table.{Entries, indices, Has}

-- The 32 bits of hash under which the table has a key: the two halves of the hasher's result for
-- the key's writes, combined by xor.
unfoldable pub key_hash : {S H : Type 0} → builder.Ghosts S H → hasher.Ghosts H → S → HashWrites → ℕ
key_hash b h state writes =
    let hash = h.finish (fold h.write (b.build_hasher state) writes) in
    bit_xor hash (hash / 2 ^ 32) % 2 ^ 32

-- No two keys are equal. The table has the index of each key under the key's hash, and no other
-- index: the number of its indices is that of the keys.
pub record IsPlaced {K : Type 0} (same : K → K → Bool) (hash : K → ℕ) (table : Entries) (keys : List K) : Type 0 where
  pub distinct : IsDistinct same keys
  pub counted : indices table ≡ length keys
  pub entered : (i : ℕ) (key : K) → slice_get keys i ≡ Some key → Has table (hash key) i

-- `post i b` relates each index to what a comparison of the key there returns: `test` of that key.
abbrev pub AreCompared : {K : Type 0} → (ℕ → Bool → Type 0) → (K → Bool) → List K → Type 0
AreCompared {K} post test keys = (i : ℕ) (b : Bool) (key : K) → slice_get keys i ≡ Some key → post i b → b ≡ test key
