use Rattle.std.proofs.Common.{◌≡◌, ◌-◌, ℕ, List, length, fold, ap, refl, sym, subst, arith, Some, slice_get, ◌∙◌}
use Rattle.std.proofs.lemmas.List.{length-map}
use Rattle.std.specs.Prelude.{MatchBool}
use Rattle.elsa_lock_free.specs.SharedList.{BeginsABuffer, item_of, items_of}
use Rattle.elsa_lock_free.specs.declared.event.Entry.{Entry as Listed}
use Rattle.elsa_hash_index.specs.declared.entry.Entry.{Entry}
use Rattle.elsa_hash_index.specs.Entries.{IsBehind}
use Rattle.elsa_lock_free_map.specs.Entries.{short}
use Rattle.elsa_lock_free_map.proofs.MapLemmas.{some_before}
use Rattle.elsa_lock_free_map.proofs.handle.MapHandle.publish_new.Goals as goal

pub publish_first-requires-clause-obeys_rule : goal.publish_first-requires-clause-obeys_rule
publish_first-requires-clause-obeys_rule g c =
    let l = length-map c.args.hold.seen item_of in
    let room = c.requires.room in
    let new : Entry g.row.K.Denot g.row.V.Denot g.row.S.Denot = record { key = c.args.key; value = c.args.value; seen = c.in-Ok.seen } in (
      (
        subst (λ (s : List (Listed (Entry g.row.K.Denot g.row.V.Denot g.row.S.Denot))). IsBehind g.K.PartialEq.eq (λ s k. short (g.S.Hasher.Hasher.finish (fold g.S.Hasher.Hasher.write (g.S.BuildHasher.build_hasher s) (g.K.Hash.hash_input k)))) (items_of s) new) (sym c.requires.held.1) (c.in-Ok.ensures.behind c.args.value),
        omega (arith, l, room),
      ),
      c.requires.rule,
    )

pub returns-then-begins_buffer-clause-pushed : goal.returns-then-begins_buffer-clause-pushed
returns-then-begins_buffer-clause-pushed g c =
    let up = c.in_ok-publish_first.ensures.pushed in
    let new : Entry g.row.K.Denot g.row.V.Denot g.row.S.Denot = record { key = c.args.key; value = c.args.value; seen = c.in-Ok.seen } in
    rw (sym c.self.view_is) (up.0, (new, refl, refl, up.1))

pub entered-requires-clause-not_empty : goal.entered-requires-clause-not_empty
entered-requires-clause-not_empty g c =
    let later : BeginsABuffer (length c.args.hold.seen) → ⊥ = subst (λ b. MatchBool b (BeginsABuffer (length c.args.hold.seen)) (BeginsABuffer (length c.args.hold.seen) → ⊥)) c.if-begins_buffer.false c.begins_buffer.ensures in
    let some = some_before (length c.args.hold.seen) later in let s = ap length c.requires.held.1 in let l = length-map c.args.self.now.seen item_of in
    omega (arith, some, s, l)

pub publish-requires-clause-obeys_rule : goal.publish-requires-clause-obeys_rule
publish-requires-clause-obeys_rule g c =
    let l = length-map c.args.hold.seen item_of in
    let room = c.requires.room in
    let new : Entry g.row.K.Denot g.row.V.Denot g.row.S.Denot = record { key = c.args.key; value = c.args.value; seen = c.in-Ok-entered.seen } in (
      (
        subst (λ (s : List (Listed (Entry g.row.K.Denot g.row.V.Denot g.row.S.Denot))). IsBehind g.K.PartialEq.eq (λ s k. short (g.S.Hasher.Hasher.finish (fold g.S.Hasher.Hasher.write (g.S.BuildHasher.build_hasher s) (g.K.Hash.hash_input k)))) (items_of s) new) (sym c.requires.held.1) (c.in-Ok-entered.ensures.behind c.args.value),
        omega (arith, l, room),
      ),
      c.requires.rule,
    )

pub publish-requires-clause-fits : goal.publish-requires-clause-fits
publish-requires-clause-fits g c = λ x last at fits.
    let l = length-map c.args.self.now.seen item_of in
    let here = subst (λ (s : List (Listed (Entry g.row.K.Denot g.row.V.Denot g.row.S.Denot))). slice_get (items_of s) (length s - 1) ≡ Some last) c.requires.held.1 at in
    c.in-Ok-entered.ensures.same_row last (subst (λ (k : ℕ). slice_get (items_of c.args.self.now.seen) (k - 1) ≡ Some last) (sym l) here) ∙ fits

pub returns-clause-pushed : goal.returns-clause-pushed
returns-clause-pushed g c =
    let up = c.publish.ensures.pushed in
    let new : Entry g.row.K.Denot g.row.V.Denot g.row.S.Denot = record { key = c.args.key; value = c.args.value; seen = c.in-Ok-entered.seen } in
    rw (sym c.self.view_is) (up.0, (new, refl, refl, up.1))
