use Rattle.std.proofs.Common.{rules, ◌≡◌, Bool, List, Option, Some, Err, ap, ◌∙◌, inl, inr}
use Rattle.elsa_arena.specs.Extended.{TakesAll}
use Rattle.elsa_arena.specs.declared.fault.CellFault.{CellFault}
use Rattle.elsa_arena.specs.declared.fault.CellFault.TheVariants.{Memory, InUse, Full}
use Rattle.elsa_cell.specs.Extended.{ExtendsByFirsts}
use Rattle.elsa_cell.specs.declared.map.Entry.{Entry}
use Rattle.elsa_cell.proofs.map.Frozen.extend.Goals as goal

-- The fault of the call, of that of the guard.
abbrev of_guard : {X : Type 0} → CellFault X → CellFault (Option X)
of_guard (Memory x) = Memory (Some x)
of_guard (InUse x) = InUse (Some x)
of_guard (Full x) = Full (Some x)

taken_until : {U S K V : Type 0} (becomes : U → S → Type 0) (steps : S → Option (K × V) → S → Type 0) (equal : K → K → Bool) (from : U) (old new : List (Entry K V)) (f h : CellFault V) → h ≡ f → ExtendsByFirsts steps becomes equal from old new (Err f)
    → TakesAll becomes steps (λ p. p.1) from (Err (of_guard h))
taken_until becomes steps equal from old new f h same (it, xs, gives, firsts, (k, v, after, run, absent, why)) = inr (
  it,
  xs,
  (k, v),
  after,
  gives,
  run,
  elim why [
    | inl memory ↦ inl (ap of_guard (same ∙ memory.0))
    | inr full ↦ inr (ap of_guard (same ∙ full.0))
  ],
)

pub returns-in-Err-Memory : goal.returns-in-Err-Memory
returns-in-Err-Memory g c =
    let same : Memory c.in-Err-Memory.value ≡ c.in-Err-Memory.field-0 = search rules in
    record {
      taken = taken_until g.I.IntoIterator.into_iter_gives g.I.IntoIter.Iterator.next_gives g.T.Indices.same c.args.pairs c.in-Ok.hold.seen c.extend.new.self.seen c.in-Err-Memory.field-0 (Memory c.in-Err-Memory.value) same c.in-Err-Memory.ensures.extended;
    }

pub returns : goal.returns
returns g c =
    let same : Full c.in-Err-Full.value ≡ c.in-Err-Full.field-0 = search rules in
    record {
      taken = taken_until g.I.IntoIterator.into_iter_gives g.I.IntoIter.Iterator.next_gives g.T.Indices.same c.args.pairs c.in-Ok.hold.seen c.extend.new.self.seen c.in-Err-Full.field-0 (Full c.in-Err-Full.value) same c.in-Err-Full.ensures.extended;
    }
