use borrow.Author.Tests.{eqb-true, eqb-false}
use Rattle.std.proofs.Common.{◌≡◌, ◌+◌, ◌<◌, ◌≤◌, length, set, slice_get, vec_capacity, vec_items, vec_len, arith, ap, refl, subst, sym, ◌∙◌}
use Rattle.std.proofs.lemmas.List.{nil_from_length}
use Rattle.std.proofs.lemmas.Option.{get_or_from_slice_get, slice_get_within}
use Rattle.std.proofs.lemmas.Result.{IfOk-weaker}
use Rattle.elsa_cell.specs.Ordered.{HasRoomAt, IsBlockGap}
use Rattle.elsa_cell.proofs.BlockLemmas.{filled_replaced, gap_first, gap_same, get_set, joined_same, positive, rank_set, table_same}
use Rattle.elsa_cell.proofs.ordered.OrderedIndices.reserve.Goals as goal

pub returns-then-is_empty-clause-room : goal.returns-then-is_empty-clause-room
returns-then-is_empty-clause-room g c =
    let blocks = c.args.self.now.blocks.items in let new = c.open.new.self.blocks.items in let fits = c.args.self.now.blocks.ok.0 in
    let zero = eqb-true _ _ (sym c.is_empty.ensures ∙ c.if-is_empty.true) in
    let none = nil_from_length blocks (omega (arith, zero, fits)) in
    let count = c.open.ensures.same in let few = c.if-self-ge-MOST.false in
    let below : c.open.new.self.count < 4294967295 = omega (arith, count, few) in
    IfOk-weaker c.open.result _ _ (λ e first keys key gap.
    let empty = ap length first.3 in let room = first.4 in
    subst (λ end. HasRoomAt vec_items vec_capacity new end × IsBlockGap vec_items (g.K.Ord.cmp key) new keys end × (c.open.new.self.count < 4294967295)) (sym first.2)
    ((first.0, ap (λ l. slice_get l 0) first.1, omega arith, omega (arith, empty, room)), gap_first vec_items (g.K.Ord.cmp key) blocks new keys c.args.end first.0 gap none first.1 first.3, below)) c.open.ensures.first

pub index-requires : goal.index-requires
index-requires g c =
    let blocks = c.args.self.now.blocks.items in let ends = c.requires.2 in let fits = c.args.self.now.blocks.ok.0 in
    let here = ends.there (positive (vec_len c.args.self.now.blocks) (length blocks) fits (eqb-false _ _ (sym c.is_empty.ensures ∙ c.if-is_empty.false))) in
    let b = here.0 in let there = here.1 in let le = here.2 in
    let lt = slice_get_within blocks c.args.end.0 b there in omega (arith, lt, fits)

pub split-requires : goal.split-requires
split-requires g c =
    let blocks = c.args.self.now.blocks.items in let ends = c.requires.2 in let fits = c.args.self.now.blocks.ok.0 in
    let here = ends.there (positive (vec_len c.args.self.now.blocks) (length blocks) fits (eqb-false _ _ (sym c.is_empty.ensures ∙ c.if-is_empty.false))) in
    let b = here.0 in let there = here.1 in let le = here.2 in
    let v = c.index.result.now in
    let same : v ≡ b = c.index.ensures ∙ get_or_from_slice_get blocks c.args.end.0 b v there in
    let len = c.len.ensures in let full = c.if-len-eq-FULL.true in let own = v.ok.0 in
    let size : length v.items ≡ 256 = omega (arith, len, full, own) in
    let long = subst (λ x. length (vec_items x) ≡ 256) same size in
    record { there = (b, there, long, omega (arith, le, long)) }

pub returns-then-len-eq-FULL-clause-room : goal.returns-then-len-eq-FULL-clause-room
returns-then-len-eq-FULL-clause-room g c =
    let blocks = c.args.self.now.blocks.items in let new = c.split.new.self.blocks.items in
    let count = c.split.ensures.count in let few = c.if-self-ge-MOST.false in
    let below : c.split.new.self.count < 4294967295 = omega (arith, count, few) in
    IfOk-weaker c.split.result _ _ (λ e room keys key gap.
    (room.0, gap_same vec_items (g.K.Ord.cmp key) blocks new keys c.args.end e room.0.0 gap c.split.ensures.same room.1 room.0.1 room.0.2, below)) c.split.ensures.room

pub index_mut-requires : goal.index_mut-requires
index_mut-requires g c =
    let blocks = c.args.self.now.blocks.items in let ends = c.requires.2 in let fits = c.args.self.now.blocks.ok.0 in
    let here = ends.there (positive (vec_len c.args.self.now.blocks) (length blocks) fits (eqb-false _ _ (sym c.is_empty.ensures ∙ c.if-is_empty.false))) in
    let b = here.0 in let there = here.1 in let le = here.2 in
    let lt = slice_get_within blocks c.args.end.0 b there in omega (arith, lt, fits)

pub returns-in_err-reserve-clause-stays : goal.returns-in_err-reserve-clause-stays
returns-in_err-reserve-clause-stays g c keys table =
    let blocks = c.args.self.now.blocks.items in let ends = c.requires.2 in let fits = c.args.self.now.blocks.ok.0 in
    let here = ends.there (positive (vec_len c.args.self.now.blocks) (length blocks) fits (eqb-false _ _ (sym c.is_empty.ensures ∙ c.if-is_empty.false))) in
    let b = here.0 in let there = here.1 in let le = here.2 in
    let same : c.index_mut.result.now ≡ b = c.index_mut.ensures.value ∙ get_or_from_slice_get blocks c.args.end.0 b c.index_mut.result.now there in
    let new = c.reserve.new.self in
    let e : new.items ≡ b.items = c.in_err-reserve.ensures.items ∙ ap vec_items same in
    table_same vec_items g.K.Ord.cmp blocks (set blocks c.args.end.0 new) c.args.self.now.count c.args.self.now.count keys (joined_same vec_items blocks c.args.end.0 b new there e)
    (filled_replaced vec_items blocks c.args.end.0 b new there (λ some. subst (λ l. 0 < length l) (sym e) some)) refl table

pub returns-clause-stays : goal.returns-clause-stays
returns-clause-stays g c keys table =
    let blocks = c.args.self.now.blocks.items in let ends = c.requires.2 in let fits = c.args.self.now.blocks.ok.0 in
    let here = ends.there (positive (vec_len c.args.self.now.blocks) (length blocks) fits (eqb-false _ _ (sym c.is_empty.ensures ∙ c.if-is_empty.false))) in
    let b = here.0 in let there = here.1 in let le = here.2 in
    let same : c.index_mut.result.now ≡ b = c.index_mut.ensures.value ∙ get_or_from_slice_get blocks c.args.end.0 b c.index_mut.result.now there in
    let new = c.reserve.new.self in
    let e : new.items ≡ b.items = c.in_ok-reserve.ensures.items ∙ ap vec_items same in
    table_same vec_items g.K.Ord.cmp blocks (set blocks c.args.end.0 new) c.args.self.now.count c.args.self.now.count keys (joined_same vec_items blocks c.args.end.0 b new there e)
    (filled_replaced vec_items blocks c.args.end.0 b new there (λ some. subst (λ l. 0 < length l) (sym e) some)) refl table

pub returns-clause-room : goal.returns-clause-room
returns-clause-room g c keys key gap =
    let blocks = c.args.self.now.blocks.items in let ends = c.requires.2 in let fits = c.args.self.now.blocks.ok.0 in
    let here = ends.there (positive (vec_len c.args.self.now.blocks) (length blocks) fits (eqb-false _ _ (sym c.is_empty.ensures ∙ c.if-is_empty.false))) in
    let b = here.0 in let there = here.1 in let le = here.2 in
    let same : c.index_mut.result.now ≡ b = c.index_mut.ensures.value ∙ get_or_from_slice_get blocks c.args.end.0 b c.index_mut.result.now there in
    let new = c.reserve.new.self in
    let e : new.items ≡ b.items = c.in_ok-reserve.ensures.items ∙ ap vec_items same in
    let long = ap length e in let room = c.in_ok-reserve.ensures.ok in let own = new.ok.0 in
    let put = get_set vec_items blocks c.args.end.0 b new there in
    let low : c.args.end.1 ≤ length new.items = omega (arith, le, long) in (
      (new, put, low, omega (arith, room, own)),
      gap_same vec_items (g.K.Ord.cmp key) blocks (set blocks c.args.end.0 new) keys c.args.end c.args.end new gap (joined_same vec_items blocks c.args.end.0 b new there e)
          (ap (λ n. n + c.args.end.1) (rank_set vec_items blocks c.args.end.0 new)) put low,
      c.if-self-ge-MOST.false,
    )
