-- When the receipts of the callers are the history of a recorder. A pass (`RecordPass`) is its
-- caller's number with its receipts, in the order in which it received them. A receipt is an index
-- of the history, a command and a reply. An entry of the history is a caller's number, a command
-- and a reply. The receipts are the history if each entry has exactly one receipt, each receipt
-- agrees with the entry at its index, and each caller's receipts are in the order of the history.
use Rattle.std.specs.Prelude.{◌≡◌, ◌-◌, ◌<◌, ◌≤◌, ◌==◌, ◌≢◌, ℕ, Bool, true, List, [], ◌∷◌, ◌++◌, All, AllPairs, count_by, length, slice_get, sum_by, Some, IfSome, IsSomeAnd}

-- The number of a pass's receipts for `index`.
abbrev pub receipts_for : {C R : Type 0} → ℕ → List (ℕ × C × R) → ℕ
receipts_for index receipts = count_by (λ receipt. receipt.0 == index) receipts

-- The number of receipts of all passes for `index`.
abbrev pub receipts_at : {C R : Type 0} → ℕ → List (ℕ × List (ℕ × C × R)) → ℕ
receipts_at index passes = sum_by (λ pass. receipts_for index pass.1) passes

-- The number of receipts of all passes: one for each call that succeeded.
abbrev pub receipt_count : {C R : Type 0} → List (ℕ × List (ℕ × C × R)) → ℕ
receipt_count passes = sum_by (λ pass. length pass.1) passes

-- The indices of a pass's receipts increase.
abbrev pub Rises : {C R : Type 0} → List (ℕ × C × R) → Type 0
Rises receipts = AllPairs (λ earlier later. earlier.0 < later.0) receipts

-- The entry has the caller's number, and the receipt's command and reply, by the `==` of their
-- types.
pub record IsCall {C R : Type 0} (eqc : C → C → Bool) (eqr : R → R → Bool) (caller : ℕ) (receipt entry : ℕ × C × R) : Type 0 where
  pub number : entry.0 ≡ caller
  pub command : eqc receipt.1 entry.1 ≡ true
  pub reply : eqr receipt.2 entry.2 ≡ true

-- The history has the receipt's call at the receipt's index.
abbrev pub IsAtIndex : {C R : Type 0} → (C → C → Bool) → (R → R → Bool) → List (ℕ × C × R) → ℕ → ℕ × C × R → Type 0
IsAtIndex eqc eqr history number receipt = IsSomeAnd (slice_get history receipt.0) (IsCall eqc eqr number receipt)

-- The receipts of the passes are the history: each entry has one receipt, each receipt agrees with
-- the entry at its index, and the indices increase within each pass.
pub record AreReceipts {C R : Type 0} (eqc : C → C → Bool) (eqr : R → R → Bool) (passes : List (ℕ × List (ℕ × C × R))) (history : List (ℕ × C × R)) : Type 0 where
  pub once : (index : ℕ) → index < length history → receipts_at index passes ≡ 1
  pub right : All (λ pass. All (IsAtIndex eqc eqr history pass.0) pass.1) passes
  pub rising : All (λ pass. Rises pass.1) passes

-- The receipts of the passes belong to the history: each agrees with the entry at its index, no
-- index has two receipts, and the indices increase within each pass.
pub record AreOf {C R : Type 0} (eqc : C → C → Bool) (eqr : R → R → Bool) (passes : List (ℕ × List (ℕ × C × R))) (history : List (ℕ × C × R)) : Type 0 where
  pub once : (index : ℕ) → receipts_at index passes ≤ 1
  pub right : All (λ pass. All (IsAtIndex eqc eqr history pass.0) pass.1) passes
  pub rising : All (λ pass. Rises pass.1) passes

-- An entry of the history has no receipt.
abbrev pub LacksAReceipt : {C R : Type 0} → List (ℕ × List (ℕ × C × R)) → List (ℕ × C × R) → Type 0
LacksAReceipt passes history = (index : ℕ) × (index < length history) × (receipts_at index passes ≡ 0)

-- The history is one call of that command by that caller.
abbrev pub IsOneCall : {C R : Type 0} → (C → C → Bool) → (R → R → Bool) → ℕ → C → List (ℕ × C × R) → Type 0
IsOneCall {C} {R} eqc eqr caller command history = (index : ℕ) × (reply : R) × AreReceipts eqc eqr ((caller, (index, command, reply) ∷ []) ∷ []) history

-- The pass has no receipt, or its last one is for another index.
abbrev pub EndsElsewhere : {C R : Type 0} → ℕ → List (ℕ × C × R) → Type 0
EndsElsewhere index receipts = IfSome (slice_get receipts (length receipts - 1)) (λ last. last.0 ≢ index)

-- The new pass is the old one without its last receipt, which was for `index` and had
-- that command and reply.
abbrev pub IsTakenFrom : {C R : Type 0} → ℕ → C × R → ℕ × List (ℕ × C × R) → ℕ × List (ℕ × C × R) → Type 0
IsTakenFrom index call old new = (old.0 ≡ new.0) × (old.1 ≡ new.1 ++ (index, call.0, call.1) ∷ [])

-- If the list has the number `nobody` at an index, no pass has a receipt for that index.
abbrev pub KnowsWhoLacks : {C R : Type 0} → ℕ → List ℕ → List (ℕ × List (ℕ × C × R)) → Type 0
KnowsWhoLacks nobody owners passes = (index : ℕ) → slice_get owners index ≡ Some nobody → receipts_at index passes ≡ 0
