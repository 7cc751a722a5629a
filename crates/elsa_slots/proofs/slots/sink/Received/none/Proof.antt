-- `none` makes an empty record.
use Rattle.elsa_slots.proofs.ByHand.{SProp, emp, fact, fact_i, tables, param, layouts, RattleType, owns, types_at, nothing, Stays, walk_of, inst_fn, a_type, Val, alloc_all, pass_all, free_all, look_at, get, sets, ‵, raw, ◌⊛◌, ◌$◌, ◌∵◌, !, qed, by, keep, use0, use1, split, agg, returns, enter, no_more, and_then, leaves, proved, List, [], ◌∷◌, refl, ◌≡◌}
use Rattle.elsa_slots.specs.contracts.slots.sink.Received as Received
use Rattle.elsa_slots.proofs.SlotLemmas.Tokens.{token_val}
use Rattle.elsa_slots.proofs.SlotLemmas.Records.{record_made}
use Rattle.elsa_slots.specs.contracts.slots.sink.Received.none.{ended, clauses}
use Rattle.elsa_slots.specs.contracts.slots.sink.Received.none.Key.{name as #self}
use Rattle.elsa_slots.proofs.slots.sink.Received.none.Statement.{statement}
use Rattle.elsa_slots.proofs.slots.sink.Received.none.Code as code

-- The record of no item owns nothing.
pub none_spec : {M : Type 1} → statement M
none_spec 𝓤 𝓛 𝓜 𝓡 wired T L =
    let H = 𝓛.H in let 𝓣 = tables 𝓤 H 𝓜 𝓡 𝓡.env in let R : RattleType = param 0 T in let En = ended T in let S : RattleType = Received.the_row R in
    let inst = layouts (a_type ∷ []) (T, tt) in let fn = inst_fn inst code.function in let c = clauses T 𝓛 𝓜.mem 𝓡.returns in
    let hs : Stays En.signature.params En.kept = tt in
    proved 𝓛 En hs c 𝓜 𝓡 tt (#self inst) fn (code.unfolded 𝓤 H 𝓜 𝓡 wired (T, tt))
    (λ κs. tt) (λ κs. tt) (λ κs qs bounds a gh are.
    let xs : List T.Denot = [] in let r : S.Denot = record { marker = record {}; items = xs } in let Same : Type 0 = xs ≡ xs in
    let y : (walk_of 𝓛 En hs c).Ghost = ((κs, qs, bounds, a, tt), gh) in let Post : Val → SProp 𝓤 = (walk_of 𝓛 En hs c).post y in
    qed 𝓛 ((raw (denote.Triple.Entry.alive 𝓛 En.signature κs qs) ⊛ ‵ (owns (types_at En.signature.params κs) a y.0.4)) ∷ raw ((c κs a).requires gh) ∷ []) ∵ split ! $ keep ! (0 ∷ []) $
    enter ! 𝓣.C 𝓣.Λ fn ([]) Post $ alloc_all ! (λ l. pass_all ! refl tt $
    nothing ! $ use1 𝓛 (‵ (S.own_val r (token_val ∷ []))) (record_made 𝓛 R xs) $
    sets ! (agg ! (no_more !)) refl (tt, tt) $ sets ! (agg ! (and_then ! (get ! refl) (no_more !))) refl (tt, (tt, tt)) $
    use0 𝓛 (raw (fact 𝓤 Same)) (fact_i 𝓤 Same (emp 𝓤) refl) $ nothing ! $
    returns ! (look_at ! 0 refl) $ free_all ! refl $ keep ! (3 ∷ 0 ∷ 2 ∷ 1 ∷ []) $ by ! (leaves 𝓛 En hs c y token_val r tt tt)))
