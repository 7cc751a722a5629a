use Rattle.std.proofs.Common.{◌≡◌, ◌≤◌, length}
use Rattle.elsa_c.specs.Codes.{PutsAll, start_of, text_of}
use Rattle.elsa_c.proofs.names.Names.put_all.Given as goal

abbrev pub invariant-loop-at : goal.invariant-loop-at
invariant-loop-at g l = (l.start ≡ start_of l.ends l.at) × (length l.codes ≡ length l.fn.codes) × (length l.ends ≤ length l.codes)
    × PutsAll (text_of l.bytes l.ends) l.at l.fn.self l.self l.fn.codes l.codes
