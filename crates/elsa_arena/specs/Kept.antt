-- What a cell for one thread owns, and what a reference to it owns. While the cell is borrowed, one
-- thread at a time has its memory, which contains a value that fits the cell's tag.
use Rattle.std.specs.Prelude.{ℕ, ◌+◌}
use base.Fraction.{full_share}
use base.Fml.{Lft, Fml, ftrue, ffalse, fsep, fex}
use prog.Memory.{up, align}
use denote.RattleType.{RattleType}
use denote.Memory.{part_at, lone}
use denote.RawPtr.{Ptr, block_ptr, null_ptr}
use denote.Hidden.{guarded}

-- A plain fact, as a resource.
abbrev pub fact : Type 0 → Fml
fact φ = fex φ (λ _. ftrue)

-- The offset of the field of a struct with one field.
abbrev pub field : RattleType → ℕ → ℕ
field R o = o + up (align (lone R.mir)) 0

-- The memory of a cell contains a value that is `ok`.
abbrev pub content : (R : RattleType) → (R.Denot → Type 0) → ℕ → ℕ → Fml
content R ok b o = fex R.Denot (λ x. fsep (part_at R full_share x b (field R o)) (fact (ok x)))

-- What a reference of lifetime κ to a cell at p owns.
abbrev pub kept_shares : (R : RattleType) → (R.Denot → Type 0) → Ptr → Lft → Fml
kept_shares R ok (block_ptr b o) κ = guarded (b, o) (content R ok b o) κ
kept_shares R ok null_ptr κ = ffalse
