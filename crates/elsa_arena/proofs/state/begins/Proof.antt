-- `begins` compares what two pieces of evidence know.
use Rattle.elsa_slots.proofs.ByHand.{SProp, emp, fact, fact_i, tables, RefOf, yes, unhide, param, bounded, RattleType, owns, shr_vals, shr_Tells, types_at, plain, nothing, heard, Stays, stay_dropped, walk_of, Goes-dropped, inst_fn, named, a_type, dcons, dnil, Val, vptr, vunit, alloc_all, pass_all, free_all, look_at, sets, ‵, raw, ◌⊛◌, ◌$◌, ◌∵◌, !, qed, by, keep, move, drop, rewrite, use0, use2, split, fsplit, fjoin, feq_i, of_opd, returns, enter, unit_lit, leaves, proved, ℕ, List, [], ◌∷◌, refl, ◌≡◌}
use Rattle.std.proofs.Common.{◌≤◌, length}
use mathlib.Core.List.{IsPrefix}
use Rattle.elsa_slots.specs.WrittenPrefix.{prefix_written}
use Rattle.elsa_slots.specs.contracts.slots.written_prefix.WrittenPrefix as WrittenPrefix
use Rattle.elsa_arena.proofs.Beginnings.{prefix_begins}
use Rattle.elsa_arena.specs.contracts.state.begins.{ended, clauses}
use Rattle.elsa_arena.specs.contracts.state.begins.Key.{name as #self}
use Rattle.elsa_arena.proofs.state.begins.Statement.{statement}
use Rattle.elsa_arena.proofs.state.begins.Code as code

pub begins_spec : {M : Type 1} → statement M
begins_spec 𝓤 𝓛 𝓜 𝓡 wired T B L P g d _ =
    let H = 𝓛.H in let 𝓣 = tables 𝓤 H 𝓜 𝓡 𝓡.env in let T' : RattleType = param 0 T in let B' : RattleType = param 1 B in let En = ended T B g d in let S : RattleType = WrittenPrefix.the_row T' B' g in
    let inst = bounded (a_type ∷ a_type ∷ []) (T, (B, tt)) (dcons d dnil) in let fn = inst_fn inst code.function in let c = clauses T B g d 𝓛 𝓜.mem 𝓡.returns in
    let self = RefOf (0 ∷ []) tt (plain (λ _. S)) (λ _. tt) in let other = RefOf (1 ∷ []) tt (plain (λ _. S)) (λ _. tt) in let hs : Stays En.signature.params En.kept = (stay_dropped self yes, (stay_dropped other yes, tt)) in
    proved 𝓛 En hs c 𝓜 𝓡 (Goes-dropped 𝓛 4 self yes (λ κs x f. refl), (Goes-dropped 𝓛 4 other yes (λ κs x f. refl), tt)) (#self inst) fn (code.unfolded 𝓤 H 𝓜 𝓡 wired (T, (B, tt)) d)
    (λ κs. (shr_vals, (shr_vals, tt))) (λ κs. (shr_Tells (named 0) κs.0 S, (shr_Tells (named 1) κs.1.0 S, tt))) (λ κs qs bounds a gh are.
    let p : Val = vptr a.0.ref_ptr.0 a.0.ref_ptr.1 in let q : Val = vptr a.1.0.ref_ptr.0 a.1.0.ref_ptr.1 in let γs : List ℕ = a.0.now.buffer_slots in let δs : List ℕ = a.1.0.now.buffer_slots in let xs : List T'.Denot = a.0.now.items in let zs : List T'.Denot = a.1.0.now.items in
    let y : (walk_of 𝓛 En hs c).Ghost = ((κs, qs, bounds, a, (p ∷ [], (q ∷ [], tt))), gh) in let Post : Val → SProp 𝓤 = (walk_of 𝓛 En hs c).post y in let Asks : Type 0 = (γs ≡ δs) × (length xs ≤ length zs) in let Gives : Type 0 = IsPrefix xs zs in
    qed 𝓛 ((raw (denote.Triple.Entry.alive 𝓛 En.signature κs qs) ⊛ ‵ (owns (types_at En.signature.params κs) a y.0.4)) ∷ raw (fact 𝓤 _) ∷ raw (fact 𝓤 _) ∷ raw (fact 𝓤 Asks) ∷ []) ∵ keep ! (3 ∷ 0 ∷ []) $ heard ! Asks (λ asked. split ! $ keep ! (1 ∷ 0 ∷ []) $
    fsplit ! $ fsplit ! $ move ! (2 ∷ []) $ fsplit ! $ fsplit ! $ keep ! (4 ∷ 1 ∷ 5 ∷ []) $ unhide ! $ fsplit ! $ drop ! $ move ! (1 ∷ []) $ unhide ! $ fsplit ! $ drop ! $ move ! (1 ∷ []) $
    -- [the evidence; the other; the tokens]
    rewrite ! 0 (λ (ks : List ℕ). ‵ (prefix_written T' B' g.slot_names g.fits ks 0 xs)) asked.0 refl $ use2 𝓛 (raw (fact 𝓤 Gives)) (prefix_begins 𝓛 T' B' g.slot_names g.fits δs 0 xs zs asked.1) $ heard ! Gives (λ gives.
    enter ! 𝓣.C 𝓣.Λ fn (p ∷ q ∷ []) Post $ alloc_all ! (λ l. pass_all ! refl ((tt, tt), ((tt, tt), tt)) $
    sets ! (of_opd ! (unit_lit !)) refl (tt, tt) $ feq_i ! (List Val) (vunit ∷ []) (vunit ∷ []) refl $
    use0 𝓛 (raw (fact 𝓤 Gives)) (fact_i 𝓤 Gives (emp 𝓤) gives) $ nothing ! $ nothing ! $ fjoin ! $ nothing ! $ fjoin ! $
    returns ! (look_at ! 0 refl) $ free_all ! refl $ keep ! (3 ∷ 0 ∷ 2 ∷ 1 ∷ []) $ by ! (leaves 𝓛 En hs c y vunit tt (tt, (tt, tt)) (tt, (tt, tt)))))))
