use Rattle.std.proofs.Common.{[], ◌∷◌, ◌≡◌, ◌<◌, ◌+◌, ◌-◌, ◌++◌, suc, length, set, ap, ◌∙◌, arith, rules, take, append_assoc}
use Rattle.std.specs.Fmt.{decimal}
use Rattle.std.proofs.Math.Seq.{take-suc-set}
use borrow.Rule.Slice.PartMut.{put_mid}
use Rattle.elsa_program.proofs.DigitLemmas.{behind_first}
use Rattle.elsa_program.proofs.pending.Pending.add_number.Goals as goal

pub returns : goal.returns
returns c =
    let count = c.digit_count-count.result in
    let at = c.self.inside.len in
    let part = c.copy_from_slice.new.self in
    let copied = put_mid at (at + 8 - at) c.self.inside.bytes part in
    let begins : take count part ≡ decimal c.args.n = ap (take count) c.copy_from_slice.ensures.after ∙ c.digits_of.ensures in
    let within : at + count < length copied = search rules in
    let next : at + count + 1 ≡ suc (at + count) = omega arith in
    ap (λ k. take k (set copied (at + count) 10)) next
    ∙ take-suc-set copied (at + count) 10 within
    ∙ ap (λ t. t ++ 10 ∷ []) (behind_first at _ count c.self.inside.bytes part (decimal c.args.n) (omega (arith, c.self.told, c.requires.room)) (omega (arith, c.copy_from_slice.ensures.len)) begins)
    ∙ append_assoc (take at c.self.inside.bytes) (decimal c.args.n) (10 ∷ [])
    ∙ ap (λ t. t ++ (decimal c.args.n ++ 10 ∷ [])) c.self.view_is
