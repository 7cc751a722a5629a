use Rattle.std.proofs.Common.{◌≡◌, ◌∷◌, [], suc, refl, ap, sym, ◌∙◌, arith}
use Rattle.elsa_lock_free.specs.declared.event.Event.TheVariants.{OfferOf}
use mathlib.Core.List.{IsPrefix}
use Rattle.elsa_lock_free.specs.SharedList.{count}
use Rattle.elsa_lock_free.specs.History.{list_of, writer_of, used_of}
use Rattle.elsa_lock_free.proofs.RuleLemmas.History.{list_prefix}
use Rattle.elsa_lock_free.proofs.RuleLemmas.Made.{both_prefixes}
use Rattle.elsa_lock_free.proofs.RuleLemmas.WriterIndices.{read_indices}
use Rattle.elsa_lock_free.proofs.RuleLemmas.HoldEnd.{read_mine}
use Rattle.elsa_lock_free.proofs.pass.Pass.read_length.Goals as goal

pub of-requires-clause-mine : goal.of-requires-clause-mine
of-requires-clause-mine g c =
    let v = c.parts-seen.result.0.log in let log = c.read_length-n.result.1.log in let a = c.parts-seen.result.1.name in let n = c.parts-seen.result.1.used in let p = c.parts-seen.ensures in let got = c.read_length-n.ensures.gained in let up = c.take_read-writer.ensures in
    let about : c.read_length-n.result.2.about ≡ OfferOf a n ∷ [] = got.1 in
    let seen : IsPrefix v log = both_prefixes v c.learn.new.self.log log c.learn.ensures.2 c.read_length-n.ensures.seen in
    let all : count (suc a) (list_of log) ≡ n = read_mine v log c.read_length-n.result.2.answer a n c.read_length-n.result.2.about seen got.2 about p.mine up.2 in
    let nm = up.0 ∙ ap writer_of about in let us = up.1 ∙ ap used_of about in
    ap (λ z. count (suc z) (list_of log)) nm ∙ (all ∙ sym us)

pub returns-clause-continues : goal.returns-clause-continues
returns-clause-continues g c =
    let v = c.parts-seen.result.0.log in let log = c.read_length-n.result.1.log in let a = c.parts-seen.result.1.name in let n = c.parts-seen.result.1.used in let p = c.parts-seen.ensures in let got = c.read_length-n.ensures.gained in let up = c.take_read-writer.ensures in
    let about : c.read_length-n.result.2.about ≡ OfferOf a n ∷ [] = got.1 in
    let seen : IsPrefix v log = both_prefixes v c.learn.new.self.log log c.learn.ensures.2 c.read_length-n.ensures.seen in
    let all : count (suc a) (list_of log) ≡ n = read_mine v log c.read_length-n.result.2.answer a n c.read_length-n.result.2.about seen got.2 about p.mine up.2 in
    let more = list_prefix v log seen in let of = c.read_length-n.ensures.same in
    let same = (read_indices (suc a) n (list_of v) (list_of log) more p.mine (omega (arith, all))).1 in
    rw (p.same_view, c.of.ensures, up.0 ∙ ap writer_of about, of.0 ∙ c.learn.ensures.0, of.1 ∙ c.learn.ensures.1) ((refl, refl), more, same)

pub returns-clause-fresh : goal.returns-clause-fresh
returns-clause-fresh g c =
    let log = c.read_length-n.result.1.log in let w = c.known.inside.seen.log in
    let seen : IsPrefix w log = both_prefixes w c.learn.new.self.log log c.learn.ensures.3 c.read_length-n.ensures.seen in
    rw (c.of.ensures, ← c.known.view_is) (list_prefix w log seen)
