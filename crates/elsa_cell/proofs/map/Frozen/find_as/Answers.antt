use Rattle.std.proofs.Common.{◌≤◌, ◌<◌, length, sym, ap, ◌∙◌, arith}
use Rattle.std.specs.Option.{option_map}
use Rattle.elsa_cell.proofs.EntryLemmas.{absent_at, value_at}
use Rattle.elsa_cell.proofs.SeenLemmas.{later_at, seen_at, seen_item}
use Rattle.elsa_cell.proofs.map.Frozen.find_as.Goals as goal

-- The key is that of a later entry.
pub returns-then-index-len-clause-index : goal.returns-then-index-len-clause-index
returns-then-index-len-clause-index g c =
    let test = g.Q.Seeks.finds c.args.query in let es = c.args.observed.now.seen in
    let past = c.if-index-len.true in let count = c.len.ensures.length in
    let above : length es ≤ c.in_ok-index.index = omega (arith, past, count) in
    sym (later_at test es c.in-Ok.hold.seen c.in-Ok.ensures.items c.in_ok-index.index (sym c.in_ok-index.ensures.index) above)

pub returns-then-index-len-clause-value : goal.returns-then-index-len-clause-value
returns-then-index-len-clause-value g c =
    let test = g.Q.Seeks.finds c.args.query in let es = c.args.observed.now.seen in
    let past = c.if-index-len.true in let count = c.len.ensures.length in
    let above : length es ≤ c.in_ok-index.index = omega (arith, past, count) in
    sym (absent_at test es (later_at test es c.in-Ok.hold.seen c.in-Ok.ensures.items c.in_ok-index.index (sym c.in_ok-index.ensures.index) above))

-- The key was observed.
pub returns-clause-index : goal.returns-clause-index
returns-clause-index g c =
    let test = g.Q.Seeks.finds c.args.query in let es = c.args.observed.now.seen in
    let within = c.if-index-len.false in let count = c.len.ensures.length in
    let below : c.in_ok-index.index < length es = omega (arith, within, count) in
    sym (seen_at test es c.in-Ok.hold.seen c.in-Ok.ensures.items c.in_ok-index.index (sym c.in_ok-index.ensures.index) below)

pub returns-clause-value : goal.returns-clause-value
returns-clause-value g c =
    let test = g.Q.Seeks.finds c.args.query in let es = c.args.observed.now.seen in let all = c.in-Ok.hold.seen in
    let within = c.if-index-len.false in let count = c.len.ensures.length in
    let below : c.in_ok-index.index < length es = omega (arith, within, count) in
    let at = seen_at test es all c.in-Ok.ensures.items c.in_ok-index.index (sym c.in_ok-index.ensures.index) below in
    sym (value_at test es c.in_ok-index.index at ∙ ap (option_map (λ e. e.value)) (seen_item es all c.in_ok-index.index c.in_ok-index.entry.now c.in-Ok.ensures.items c.in_ok-index.ensures.entry below))
