use Rattle.std.proofs.Common.{◌∙◌, refl, sym, subst, ◌≡◌, position}
use Rattle.std.specs.Str.{bytes_eq}
use Rattle.std_alloc.specs.String.{string_bytes, string_eq}
use Rattle.elsa_lock_free.specs.SharedList.{Continues, items_of}
use Rattle.elsa_c.specs.Shared.{texts_of}
use Rattle.elsa_c.proofs.SharedLemmas.{continue_texts, found, moved}
use Rattle.elsa_c.proofs.shared_kept.SharedKept.find.Goals as goal

pub returns-clause-continues : goal.returns-clause-continues
returns-clause-continues c =
    moved string_bytes Continues c.args.self.now c.self.inside.pass c.of-names.result c.find-number.new.self c.into_pass.result c.self.view_is (c.of-names.ensures.same_view ∙ c.replace.ensures.value) c.into_pass.ensures.same_view
    (continue_texts string_bytes c.of-names.result c.find-number.new.self c.find-number.ensures.continues)

pub returns-clause-found : goal.returns-clause-found
returns-clause-found c =
    subst (λ p. c.find-number.result ≡ position (bytes_eq c.args.text.now) (items_of (texts_of string_bytes p).seen)) (sym c.into_pass.ensures.same_view)
    (found string_bytes string_eq (λ x y. refl) c.find-number.new.self.seen c.args.text.now c.find-number.result c.one_to_one.ensures c.find-number.ensures.found c.find-number.ensures.absent)
