-- `record` appends an item to the record.
use Rattle.elsa_slots.proofs.ByHand.{Fml, ftrue, fsep, flft, SProp, emp, fact, fact_i, tables, RefOf, yes, param, layouts, RattleType, owns, mut_vals, mut_Tells, shr_vals, shr_Tells, types_at, plain, nothing, opens, closes, Stays, stay_dropped, walk_of, Goes-dropped, stay_ref, Goes-ref, inst_fn, named, a_type, Val, vptr, vunit, alloc_all, pass_all, free_all, look_at, sets, ‵, raw, ◌⊛◌, ◌$◌, ◌∵◌, !, qed, by, move, keep, use0, split, join, fsplit, fjoin, feq_i, fsplit3, fjoin3, of_opd, returns, enter, unit_lit, leaves, proved, ℕ, List, [], ◌∷◌, ◌++◌, refl, ◌≡◌}
use Rattle.elsa_slots.specs.contracts.slots.sink.Received as Received
use Rattle.elsa_slots.specs.contracts.slots.sink.Received.record.{ended, clauses}
use Rattle.elsa_slots.specs.contracts.slots.sink.Received.record.Key.{name as #self}
use Rattle.elsa_slots.proofs.slots.sink.Received.record.Statement.{statement}
use Rattle.elsa_slots.proofs.slots.sink.Received.record.Code as code

-- A record owns nothing, so it may have any items.
pub record_spec : {M : Type 1} → statement M
record_spec 𝓤 𝓛 𝓜 𝓡 wired T L =
    let H = 𝓛.H in let 𝓣 = tables 𝓤 H 𝓜 𝓡 𝓡.env in let R : RattleType = param 0 T in let En = ended T in let S : RattleType = Received.the_row R in
    let inst = layouts (a_type ∷ []) (T, tt) in let fn = inst_fn inst code.function in let c = clauses T 𝓛 𝓜.mem 𝓡.returns in
    let item = RefOf (1 ∷ []) tt (plain (λ _. R)) (λ _. tt) in let hs : Stays En.signature.params En.kept = (stay_ref (0 ∷ []) tt (plain (λ _. S)), (stay_dropped item yes, tt)) in
    proved 𝓛 En hs c 𝓜 𝓡 (Goes-ref 𝓛 3 0 tt (plain (λ _. S)), (Goes-dropped 𝓛 3 item yes (λ κs x f. refl), tt)) (#self inst) fn (code.unfolded 𝓤 H 𝓜 𝓡 wired (T, tt))
    (λ κs. (mut_vals, (shr_vals, tt))) (λ κs. (mut_Tells (named 0) κs.0 S, (shr_Tells (named 1) κs.1.0 R, tt))) (λ κs qs bounds a gh are.
    let b : ℕ = a.0.ref_ptr.0 in let o : ℕ = a.0.ref_ptr.1 in let h : S.Denot = a.0.now in let x : T.Denot = a.1.0.now in let p : Val = vptr a.1.0.ref_ptr.0 a.1.0.ref_ptr.1 in
    let h' : S.Denot = record { marker = h.marker; items = h.items ++ x ∷ [] } in let Same : Type 0 = h'.items ≡ h'.items in
    let others : Fml = fsep (flft κs.1.0 qs.1.0) (fsep (flft κs.1.1.0 qs.1.1.0) ftrue) in
    let y : (walk_of 𝓛 En hs c).Ghost = ((κs, qs, bounds, a, (vptr b o ∷ [], (p ∷ [], tt))), gh) in let Post : Val → SProp 𝓤 = (walk_of 𝓛 En hs c).post y in
    qed 𝓛 (((‵ (flft κs.0 qs.0) ⊛ ‵ others) ⊛ ‵ (owns (types_at En.signature.params κs) a y.0.4)) ∷ raw ((c κs a).requires gh) ∷ []) ∵ keep ! (0 ∷ []) $ split ! $ split ! $ move ! (2 ∷ []) $ fsplit ! $ fsplit3 ! $
    -- [obs; the borrow; its token; the others]
    keep ! (1 ∷ 2 ∷ 4 ∷ 5 ∷ []) $
    enter ! 𝓣.C 𝓣.Λ fn (vptr b o ∷ p ∷ []) Post $ alloc_all ! (λ l. pass_all ! refl ((tt, tt), ((tt, tt), tt)) $ opens ! tt S b o (λ ts.
    closes ! tt S h' ts b o $ feq_i ! (List Val) (vptr b o ∷ []) (vptr b o ∷ []) refl $ fjoin3 ! $ nothing ! $ nothing ! $ fjoin ! $ move ! (1 ∷ 0 ∷ []) $ fjoin ! $ move ! (1 ∷ 2 ∷ []) $ join ! $
    sets ! (of_opd ! (unit_lit !)) refl (tt, tt) $ feq_i ! (List Val) (vunit ∷ []) (vunit ∷ []) refl $
    use0 𝓛 (raw (fact 𝓤 Same)) (fact_i 𝓤 Same (emp 𝓤) refl) $
    returns ! (look_at ! 0 refl) $ free_all ! refl $ keep ! (2 ∷ 3 ∷ 1 ∷ 0 ∷ []) $ by ! (leaves 𝓛 En hs c y vunit tt (h', (tt, tt)) (tt, (tt, tt))))))
