use Rattle.std.proofs.Common.{◌∙◌, refl}
use Rattle.std_alloc.specs.String.{string_bytes, string_eq}
use Rattle.elsa_c.proofs.SharedLemmas.{full, lacks, puts_known, puts_new}
use Rattle.elsa_c.proofs.shared_kept.attempt.Goals as goal

pub returns-in-Some-clause-puts : goal.returns-in-Some-clause-puts
returns-in-Some-clause-puts c =
    puts_known string_bytes string_eq (λ x y. refl) c.args.names.now c.find.new.self c.find.new.self c.args.text.now c.find.ensures.continues c.in-Some.number c.one_to_one.ensures c.in-Some.ensures.found

pub returns-in_default-from_str-clause-fault : goal.returns-in_default-from_str-clause-fault
returns-in_default-from_str-clause-fault c =
    lacks string_bytes string_eq (λ x y. refl) c.args.names.now c.find.new.self c.find.new.self c.args.text.now c.find.ensures.continues c.in_default.ensures.absent refl

pub returns-in-Ok-inserted-clause-puts : goal.returns-in-Ok-inserted-clause-puts
returns-in-Ok-inserted-clause-puts c =
    puts_new string_bytes string_eq (λ x y. refl) c.args.names.now c.find.new.self c.try_insert_ref-inserted.new.self c.args.text.now c.find.ensures.continues c.in_default.ensures.absent
    c.in-Ok.name _ c.in-Ok.ensures.ok c.one_to_one-2.ensures c.in-Ok-inserted.ensures.inserted

pub returns-in-Err-Busy-clause-fault : goal.returns-in-Err-Busy-clause-fault
returns-in-Err-Busy-clause-fault c =
    lacks string_bytes string_eq (λ x y. refl) c.args.names.now c.find.new.self c.try_insert_ref-inserted.new.self c.args.text.now c.find.ensures.continues c.in_default.ensures.absent
    c.in-Err-Busy.ensures.refused.0

pub returns-then-full-clause-fault : goal.returns-then-full-clause-fault
returns-then-full-clause-fault c = (
  lacks string_bytes string_eq (λ x y. refl) c.args.names.now c.find.new.self c.is_full-full.new.self c.args.text.now c.find.ensures.continues c.in_default.ensures.absent
      (c.is_full-full.ensures.continues.2 ∙ c.in-Err-Failed.ensures.refused.0),
  full string_bytes c.is_full-full.new.self c.seen_len.result c.seen_len.ensures.length c.seen_len.ensures.limit (c.is_full-full.ensures.full.0 c.if-full.true),
)

pub returns-clause-fault : goal.returns-clause-fault
returns-clause-fault c =
    lacks string_bytes string_eq (λ x y. refl) c.args.names.now c.find.new.self c.is_full-full.new.self c.args.text.now c.find.ensures.continues c.in_default.ensures.absent
    (c.is_full-full.ensures.continues.2 ∙ c.in-Err-Failed.ensures.refused.0)
