-- Lemmas on the entries that the shards of a map had, those of each shard at a moment of its own.
use Rattle.std.proofs.Common.{◌≡◌, ◌+◌, ◌-◌, ◌^◌, ◌++◌, ◌∷◌, ◌∙◌, ℕ, min, Bool, List, [], ap, flat_map, length, refl, subst, sym, arith}
use Rattle.std.specs.List.{IsDistinct}
use Rattle.std.specs.Map.{keys_of}
use Rattle.std.specs.declared.sync.Arc.{Arc}
use Rattle.std.specs.Arc.{arc_value}
use Rattle.std.proofs.lemmas.List.{append-nil, length-append, map-append}
use Rattle.std.proofs.lemmas.List.Concat.{flat_map-append}
use Rattle.std.proofs.lemmas.List.Elements.{All-push}
use Rattle.std.proofs.lemmas.List.Sums.{fold-append}
use Rattle.std.proofs.lemmas.Map.Made.{keys_of-map_values}
use Rattle.elsa_locks.specs.Shared.{shown}
use Rattle.elsa_tables.specs.Rules.{IsKept}
use Rattle.elsa_shards.specs.Shards.{AtMoments, count_in_all}

-- The sum plus the length of the next shard is that of the lists with the next shard's entries.
pub visited : {K V : Type 0} (same : K → K → Bool) (holds : K → V → Type 0) (count sum len after : ℕ)
    → AtMoments same holds count (λ shards. sum ≡ count_in_all length shards)
    → (es : List (K × V)) → IsDistinct same (keys_of es) → IsKept same holds es → len ≡ length es → after ≡ min (sum + len) (2 ^ 64 - 1)
    → AtMoments same holds (count + 1) (λ shards. after ≡ count_in_all length shards)
visited same holds count sum len after before es distinct kept has is = (
  before.0 ++ es ∷ [],
  length-append before.0 (es ∷ []) ∙ ap (λ n. n + 1) before.1,
  All-push (λ es. IsDistinct same (keys_of es) × IsKept same holds es) before.0 es before.2 (distinct, kept),
  rw (is, fold-append, ← before.3, ← has) refl,
)

-- Before the first shard there are no entries.
pub none_joined : {K V : Type 0} (same : K → K → Bool) (holds : K → V → Type 0) (before : List (K × V)) → before ≡ []
    → AtMoments same holds 0 (λ shards. before ≡ flat_map (λ entries. entries) shards)
none_joined same holds before none = ([], refl, (λ k d low. absurd (omega (arith, low))), none)

-- The entries of the next shard follow those of the shards before it.
pub joined : {K V : Type 0} (same : K → K → Bool) (holds : K → V → Type 0) (count : ℕ) (before after es : List (K × V))
    → AtMoments same holds count (λ shards. before ≡ flat_map (λ entries. entries) shards)
    → IsDistinct same (keys_of es) → IsKept same holds es → after ≡ before ++ es
    → AtMoments same holds (count + 1) (λ shards. after ≡ flat_map (λ entries. entries) shards)
joined {K} {V} same holds count before after es was distinct kept is =
    let last : flat_map (λ (entries : List (K × V)). entries) (es ∷ []) ≡ es = append-nil es in
    let all = flat_map-append (λ (entries : List (K × V)). entries) was.0 (es ∷ []) ∙ ap (λ (l : List (K × V)). flat_map (λ entries. entries) was.0 ++ l) last in (
      was.0 ++ es ∷ [],
      length-append was.0 (es ∷ []) ∙ ap (λ n. n + 1) was.1,
      All-push (λ es. IsDistinct same (keys_of es) × IsKept same holds es) was.0 es was.2 (distinct, kept),
      is ∙ (ap (λ (l : List (K × V)). l ++ es) was.3 ∙ sym all),
    )

-- The same for entries that have an `Arc` of their value.
pub joined_arcs : {K V Z : Type 0} (same : K → K → Bool) (holds : K → V → Type 0) (count : ℕ) (before after es : List (K × Arc V Z))
    → AtMoments same holds count (λ shards. shown before ≡ flat_map (λ entries. entries) shards)
    → IsDistinct same (keys_of es) → IsKept same holds (shown es) → after ≡ before ++ es
    → AtMoments same holds (count + 1) (λ shards. shown after ≡ flat_map (λ entries. entries) shards)
joined_arcs {K} {V} {Z} same holds count before after es was distinct kept is =
    joined same holds count (shown before) (shown after) (shown es) was
    (subst (IsDistinct same) (sym (keys_of-map_values arc_value es)) distinct) kept
    (ap (λ (l : List (K × Arc V Z)). shown l) is ∙ map-append (λ (e : K × Arc V Z). (e.0, arc_value e.1)) before es)
