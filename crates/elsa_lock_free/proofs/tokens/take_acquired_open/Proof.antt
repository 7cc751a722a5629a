use Rattle.elsa_lock_free.proofs.ByHand.{fsep, feq, ftrue, SProp, emp, fact_i, fact, tables, unit, usize, yes, no, param, bounded, uint_vals, uint_Tells, owns, RattleType, Valss, types_at, plain, nothing, Tuple, Stays, walk_of, stay_dropped, Goes-dropped, inst_fn, a_type, dcons, dnil, Val, vstruct, vcons, vnil, of_list, vint, alloc_all, pass_all, free_all, look_at, get, sets, env, ‵, raw, ◌⊛◌, ◌$◌, ◌∵◌, !, qed, by, keep, split, fjoin, use0, move, fsplit, given, fpack, learn, feq_i, drop, use1, fpick, agg, no_more, and_then, returns, enter, proved, token, Token, token_made, ends, token_told, ℕ, [], ◌∷◌, refl, List, ◌++◌, suc, length, w64}
use Rattle.logbook.specs.contracts.tokens.Gained as Gained
use Rattle.std.specs.contracts.alloc.Global as Global
use Rattle.std.specs.contracts.impls.GlobalAllocator.TheImpl as galloc
use Rattle.std_collections.specs.contracts.linked_list.LinkedList as LinkedList
use Rattle.std.proofs.Common.{drop as drops, slice_index_or}
use base.Fml.{fex}
use types.Kit.{fsplit3}
use Rattle.elsa_slots.specs.contracts.slots.rights.WriteRights as WriteRights
use Rattle.elsa_slots.specs.contracts.slots.rights.Written as Written
use Rattle.elsa_lock_free.specs.declared.event.Event.TheVariants.{Acquired}
use Rattle.elsa_lock_free.specs.History.{list_of, added}
use Rattle.elsa_lock_free.specs.contracts.event.Event as Event
use Rattle.elsa_lock_free.specs.contracts.rule.AcquireGain as AcquireGain
use Rattle.elsa_lock_free.specs.contracts.tokens.Held as Held
use Rattle.elsa_lock_free.specs.contracts.rule.AcquireGainGainEventLog.TheImpl as takes
use Rattle.elsa_lock_free.specs.Rights.{head, buffer_slots_of}
use Rattle.elsa_lock_free.proofs.RuleLemmas.Tails as tails
use Rattle.elsa_lock_free.specs.contracts.tokens.take_acquired_open.{ended, clauses}
use Rattle.elsa_lock_free.specs.contracts.tokens.take_acquired_open.Key.{name as #self}
use Rattle.elsa_lock_free.proofs.tokens.take_acquired_open.Statement.{statement}
use Rattle.elsa_lock_free.proofs.tokens.take_acquired_open.Code as code

-- inside an open buffer, what an acquire gained is the hold, the evidence of that buffer, and the rights to its slots and to the buffers from there on
pub take_acquired_open_spec : {M : Type 1} → statement M
take_acquired_open_spec 𝓤 𝓛 𝓜 𝓡 wired T B _ _ g d _ =
    let H = 𝓛.H in let 𝓣 = tables 𝓤 H 𝓜 𝓡 𝓡.env in let T' : RattleType = param 0 T in let B' : RattleType = param 1 B in let E' : RattleType = Event.the_row T' in let L' : RattleType = LinkedList.the_row E' Global.the_row galloc.ghosts in let En = ended T B g d in
    let inst = bounded (a_type ∷ a_type ∷ []) (T, (B, tt)) (dcons d dnil) in let fn = inst_fn inst code.function in let c = clauses T B g d 𝓛 𝓜.mem 𝓡.returns in
    let GT : RattleType = Tuple (E' ∷ L' ∷ AcquireGain.the_row B' ∷ []) in
    let hs : Stays En.signature.params En.kept = (stay_dropped (plain (λ _. Gained.the_row E' L' (AcquireGain.the_row B') (takes.ghosts T' B' g d))) no, (stay_dropped (plain (λ _. usize)) yes, (stay_dropped (plain (λ _. usize)) yes, tt))) in
    proved 𝓛 En hs c 𝓜 𝓡 (Goes-dropped 𝓛 2 (plain (λ _. Gained.the_row E' L' (AcquireGain.the_row B') (takes.ghosts T' B' g d))) no (λ κs x f. refl), (Goes-dropped 𝓛 2 (plain (λ _. usize)) yes (λ κs x f. refl), (Goes-dropped 𝓛 2 (plain (λ _. usize)) yes (λ κs x f. refl), tt))) (#self inst) fn (code.unfolded 𝓤 H 𝓜 𝓡 wired (T, (B, tt)) d)
    (λ κs. ((λ x. token ∷ []), (uint_vals w64, (uint_vals w64, tt)))) (λ κs. ((λ x vs is. token_told (GT) vs is.0), (uint_Tells w64, (uint_Tells w64, tt)))) (λ κs qs bounds a gh are.
    let y : (walk_of 𝓛 En hs c).Ghost = ((κs, qs, bounds, a, (token ∷ [], (vint w64 a.1.0 ∷ [], (vint w64 a.1.1.0 ∷ [], tt)))), gh) in let Post : Val → SProp 𝓤 = (walk_of 𝓛 En hs c).post y in
    let args : List Val = token ∷ vint w64 a.1.0 ∷ vint w64 a.1.1.0 ∷ [] in
    qed 𝓛 ((raw (denote.Triple.Entry.alive 𝓛 En.signature κs qs) ⊛ ‵ (owns (types_at En.signature.params κs) a y.0.4)) ∷ raw (fact 𝓤 _) ∷ raw (fact 𝓤 _) ∷ given _ (‵ ftrue) ∷ []) ∵ keep ! (3 ∷ 0 ∷ []) $ learn ! (λ asked. drop ! $ split ! $
    let up = a.0 in let b : ℕ = a.1.0 in let j : ℕ = a.1.1.0 in let buffer_slots : List ℕ = buffer_slots_of up.names in let n : ℕ = length (list_of up.answer) in
    move ! (1 ∷ []) $ fsplit ! $ fsplit ! $ move ! (2 ∷ []) $ fsplit ! $ move ! (1 ∷ []) $ fsplit ! $ keep ! (4 ∷ 5 ∷ []) $
    enter ! 𝓣.C 𝓣.Λ fn args Post $ alloc_all ! (λ l. pass_all ! refl ((tt, (tt, tt)), ((tt, record { fits = are.1.0.1 }), ((tt, record { fits = are.1.1.0.1 }), tt))) $ let Env = env fn.locals l in
    fsplit ! $ move ! (1 ∷ []) $ use1 𝓛 (‵ (fex B'.Denot (tails.Open 𝓛 T' B' g.slot_names g.fits buffer_slots b j))) (tails.open_of_rights 𝓛 T' B' g.slot_names g.fits buffer_slots n b j asked.0 asked.1) $ fpick ! (λ opened. fsplit ! $ fpick ! (λ len. drop ! $ fsplit3 ! $
    use0 𝓛 (‵ ((Token (B')).own_val (record {}, tt) (token ∷ []))) (token_made (B') 𝓛) $ fjoin ! $ move ! (1 ∷ []) $ use0 𝓛 (‵ ((Token (unit)).own_val (record {}, tt) (token ∷ []))) (token_made (unit) 𝓛) $ fjoin ! $ move ! (2 ∷ []) $ use0 𝓛 (‵ ((Token (unit)).own_val (record {}, tt) (token ∷ []))) (token_made (unit) 𝓛) $ fjoin ! $ move ! (3 ∷ []) $ use0 𝓛 (‵ ((Token (unit)).own_val (record {}, tt) (token ∷ []))) (token_made (unit) 𝓛) $ fjoin ! $ move ! (0 ∷ 3 ∷ 2 ∷ 1 ∷ []) $
    sets ! (agg ! (no_more !)) refl (tt, tt) $ sets ! (agg ! (and_then ! (get ! refl) (no_more !))) refl (tt, (tt, tt)) $ sets ! (agg ! (no_more !)) refl (tt, tt) $ sets ! (agg ! (and_then ! (get ! refl) (no_more !))) refl (tt, (tt, tt)) $ sets ! (agg ! (no_more !)) refl (tt, tt) $ sets ! (agg ! (and_then ! (get ! refl) (no_more !))) refl (tt, (tt, tt)) $ sets ! (agg ! (no_more !)) refl (tt, tt) $ sets ! (agg ! (and_then ! (get ! refl) (no_more !))) refl (tt, (tt, tt)) $ sets ! (agg ! (and_then ! (get ! refl) (and_then ! (get ! refl) (and_then ! (get ! refl) (and_then ! (get ! refl) (no_more !)))))) refl (tt, ((tt, tt), ((tt, tt), ((tt, tt), ((tt, tt), tt))))) $
    let h' : Held.the_row.Denot = record { marker = record {}; name = head up.names; added = added (up.answer ++ Acquired ∷ []) } in let w' : (Written.the_row B').Denot = record { marker = record {}; of = slice_index_or buffer_slots b 0; value = opened } in let s' : WriteRights.the_row.Denot = record { marker = record {}; of = drops j (g.slot_names opened) } in let b' : WriteRights.the_row.Denot = record { marker = record {}; of = drops (suc b) buffer_slots } in
    nothing ! $ move ! (4 ∷ 0 ∷ []) $ fjoin ! $ move ! (3 ∷ 0 ∷ []) $ fjoin ! $ move ! (2 ∷ 0 ∷ []) $ fjoin ! $ move ! (1 ∷ 0 ∷ []) $ fjoin ! $ let v : Val = vstruct (vcons token (vcons token (vcons token (vcons token (vnil))))) in let Rs : List RattleType = Held.the_row ∷ Written.the_row B' ∷ WriteRights.the_row ∷ WriteRights.the_row ∷ [] in feq_i ! (List Val) (v ∷ []) (v ∷ []) refl $ fjoin ! $ fpack ! (Valss Rs) (λ vss. fsep (feq (List Val) (v ∷ []) (vstruct (of_list (vss.0 ++ (vss.1.0 ++ (vss.1.1.0 ++ (vss.1.1.1.0 ++ []))))) ∷ [])) (owns Rs (h', (w', (s', (b', tt)))) vss)) (token ∷ [], (token ∷ [], (token ∷ [], (token ∷ [], tt)))) $
    nothing ! $ nothing ! $ fjoin ! $ nothing ! $ fjoin ! $ nothing ! $ fjoin ! $
    returns ! (look_at ! 0 refl) $ free_all ! refl $ keep ! (2 ∷ 0 ∷ 1 ∷ []) $ by ! (ends 𝓛 En hs c y (v) ((h', w', s', b')) (tt, (tt, (tt, tt))) (tt, (tt, (tt, tt))) (fact_i 𝓤 _ (emp 𝓤) ((refl, refl, record { index = asked.0; evidence = refl; whole = len; left = refl; rights = refl })))))))))
