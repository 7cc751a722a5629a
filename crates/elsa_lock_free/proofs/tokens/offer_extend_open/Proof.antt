use Rattle.elsa_lock_free.proofs.ByHand.{ftrue, latest, SProp, emp, three_quarters, fact_i, fact, tables, unit, RefOf, yes, no, param, bounded, owns, RattleType, shr_vals, shr_Tells, types_at, plain, nothing, Tuple, Stays, walk_of, stay_dropped, Goes-dropped, inst_fn, a_type, dcons, dnil, named, Val, vptr, alloc_all, pass_all, free_all, look_at, get, sets, env, ‵, raw, ◌⊛◌, ◌$◌, ◌∵◌, !, qed, by, keep, split, fjoin, use0, move, fsplit, given, learn, drop, use1, fjoin3, rewrite, agg, no_more, and_then, returns, enter, proved, token, Token, token_made, ends, token_told, offer_owns, ℕ, [], ◌∷◌, refl, List, None, arith, ◌++◌, suc, ◌≡◌, ◌+◌, length, sym}
use Rattle.std.proofs.Common.{ap, length-append}
use Rattle.logbook.specs.contracts.tokens.Seen as Seen
use Rattle.std.specs.contracts.alloc.Global as Global
use Rattle.std.specs.contracts.impls.GlobalAllocator.TheImpl as galloc
use Rattle.std_collections.specs.contracts.linked_list.LinkedList as LinkedList
use Rattle.elsa_slots.specs.Slot.{written, write_rights}
use Rattle.elsa_slots.specs.contracts.slots.rights.WriteRights as WriteRights
use Rattle.elsa_slots.specs.contracts.slots.rights.Written as Written
use Rattle.elsa_lock_free.specs.declared.event.Event.TheVariants.{Extended, OfferOf}
use Rattle.elsa_lock_free.specs.SharedList.{written_by, items_of}
use Rattle.elsa_lock_free.specs.contracts.event.Event as Event
use Rattle.elsa_lock_free.specs.contracts.rule.OneWord as OneWord
use Rattle.elsa_lock_free.specs.contracts.rule.ExtendGain as ExtendGain
use Rattle.elsa_lock_free.specs.contracts.tokens.Held as Held
use Rattle.elsa_lock_free.specs.contracts.tokens.Writer as Writer
use Rattle.elsa_slots.specs.contracts.slots.written_prefix.WrittenPrefix as WrittenPrefix
use Rattle.elsa_slots.proofs.SlotLemmas.Prefix.{prefix_behind, prefix_value}
use Rattle.elsa_lock_free.proofs.RuleLemmas.History.{written_by_items, written_by_length, behind_whole, items_length}
use Rattle.elsa_lock_free.specs.contracts.rule.OneWordRuleEventLog.TheImpl as rule
use Rattle.elsa_lock_free.specs.History.{behind, list_of}
use Rattle.elsa_lock_free.specs.Rights.{logs, head, buffer_slots_of, IsStep, rule_owns, extend_gain, rights_from, prefix_written}
use Rattle.elsa_lock_free.proofs.RuleLemmas.Offers as offers
use Rattle.elsa_lock_free.proofs.RuleLemmas.Tails as tails
use Rattle.elsa_lock_free.specs.contracts.tokens.offer_extend_open.{ended, clauses}
use Rattle.elsa_lock_free.specs.contracts.tokens.offer_extend_open.Key.{name as #self}
use Rattle.elsa_lock_free.proofs.tokens.offer_extend_open.Statement.{statement}
use Rattle.elsa_lock_free.proofs.tokens.offer_extend_open.Code as code

-- the offer holds what its maker gives: the hold, the evidence of the items and of the open buffer, the rights to its further slots and to the further buffers, and a writer
pub offer_extend_open_spec : {M : Type 1} → statement M
offer_extend_open_spec 𝓤 𝓛 𝓜 𝓡 wired T B K _ _ _ g d h e _ _ =
    let H = 𝓛.H in let 𝓣 = tables 𝓤 H 𝓜 𝓡 𝓡.env in let T' : RattleType = param 0 T in let B' : RattleType = param 1 B in let K' : RattleType = param 2 K in let E' : RattleType = Event.the_row T' in let L' : RattleType = LinkedList.the_row E' Global.the_row galloc.ghosts in let En = ended T B K g d h e in
    let inst = bounded (a_type ∷ a_type ∷ a_type ∷ []) (T, (B, (K, tt))) (dcons d (dcons e dnil)) in let fn = inst_fn inst code.function in let c = clauses T B K g d h e 𝓛 𝓜.mem 𝓡.returns in
    let S : RattleType = Seen.the_row E' L' (OneWord.the_row B' K') (rule.ghosts T' B' K' g d h e) in
    let hs : Stays En.signature.params En.kept = (stay_dropped (RefOf (0 ∷ []) tt (plain (λ _. S)) (λ _. tt)) yes, (stay_dropped (plain (λ _. Held.the_row)) yes, (stay_dropped (plain (λ _. WrittenPrefix.the_row T' B' g)) no, (stay_dropped (plain (λ _. Written.the_row B')) no, (stay_dropped (plain (λ _. WriteRights.the_row)) yes, (stay_dropped (plain (λ _. WriteRights.the_row)) yes, (stay_dropped (plain (λ _. Writer.the_row)) yes, tt))))))) in
    proved 𝓛 En hs c 𝓜 𝓡 (Goes-dropped 𝓛 4 (RefOf (0 ∷ []) tt (plain (λ _. S)) (λ _. tt)) yes (λ κs x f. refl), (Goes-dropped 𝓛 4 (plain (λ _. Held.the_row)) yes (λ κs x f. refl), (Goes-dropped 𝓛 4 (plain (λ _. WrittenPrefix.the_row T' B' g)) no (λ κs x f. refl), (Goes-dropped 𝓛 4 (plain (λ _. Written.the_row B')) no (λ κs x f. refl), (Goes-dropped 𝓛 4 (plain (λ _. WriteRights.the_row)) yes (λ κs x f. refl), (Goes-dropped 𝓛 4 (plain (λ _. WriteRights.the_row)) yes (λ κs x f. refl), (Goes-dropped 𝓛 4 (plain (λ _. Writer.the_row)) yes (λ κs x f. refl), tt))))))) (#self inst) fn (code.unfolded 𝓤 H 𝓜 𝓡 wired (T, (B, (K, tt))) d e)
    (λ κs. (shr_vals, ((λ x. token ∷ []), ((λ x. token ∷ []), ((λ x. token ∷ []), ((λ x. token ∷ []), ((λ x. token ∷ []), ((λ x. token ∷ []), tt)))))))) (λ κs. (shr_Tells (named 0) κs.0 S, ((λ x vs is. token_told (unit) vs is.0), ((λ x vs is. prefix_value T' B' g vs is.0), ((λ x vs is. token_told (B') vs is.0), ((λ x vs is. token_told (unit) vs is.0), ((λ x vs is. token_told (unit) vs is.0), ((λ x vs is. token_told (unit) vs is.0), tt)))))))) (λ κs qs bounds a gh are.
    let me = a.0.now in let p : Val = vptr a.0.ref_ptr.0 a.0.ref_ptr.1 in
    let y : (walk_of 𝓛 En hs c).Ghost = ((κs, qs, bounds, a, (p ∷ [], (token ∷ [], (token ∷ [], (token ∷ [], (token ∷ [], (token ∷ [], (token ∷ [], tt)))))))), gh) in let Post : Val → SProp 𝓤 = (walk_of 𝓛 En hs c).post y in
    let args : List Val = p ∷ token ∷ token ∷ token ∷ token ∷ token ∷ token ∷ [] in
    qed 𝓛 ((raw (denote.Triple.Entry.alive 𝓛 En.signature κs qs) ⊛ ‵ (owns (types_at En.signature.params κs) a y.0.4)) ∷ raw (fact 𝓤 _) ∷ raw (fact 𝓤 _) ∷ raw (fact 𝓤 _) ∷ given _ (‵ ftrue) ∷ []) ∵ keep ! (4 ∷ 0 ∷ []) $ learn ! (λ asked. drop ! $ split ! $
    let held = a.1.0 in let prefix = a.1.1.0 in let opened = a.1.1.1.0 in let writer' = a.1.1.1.1.1.1.0 in let buffer_slots : List ℕ = buffer_slots_of me.names in let xs : List T'.Denot = prefix.items in let n : ℕ = length xs in let v = me.log in let old : List T'.Denot = items_of (list_of v) in let cs : List T'.Denot = behind v xs in let writer-of : ℕ = suc writer'.name in let whole : old ++ cs ≡ xs = behind_whole v xs asked.3 in let begin = items_length (list_of v) in
    move ! (1 ∷ []) $ fsplit ! $ move ! (1 ∷ []) $ fsplit ! $ fsplit ! $ move ! (2 ∷ []) $ fsplit ! $ fsplit ! $ move ! (2 ∷ []) $ fsplit ! $ fsplit ! $ move ! (2 ∷ []) $ fsplit ! $ fsplit ! $ move ! (2 ∷ []) $ fsplit ! $ fsplit ! $ move ! (2 ∷ []) $ fsplit ! $ fsplit ! $ keep ! (8 ∷ 6 ∷ 4 ∷ 10 ∷ 12 ∷ 1 ∷ 14 ∷ []) $
    enter ! 𝓣.C 𝓣.Λ fn args Post $ alloc_all ! (λ l. pass_all ! refl ((tt, tt), ((tt, (tt, tt)), ((tt, (tt, tt)), ((tt, (tt, tt)), ((tt, (tt, tt)), ((tt, (tt, tt)), ((tt, (tt, tt)), tt))))))) $ let Env = env fn.locals l in
    let later = asked.4.later in let k = asked.4.at in rewrite ! 0 (λ (z : ℕ). ‵ (written B' z opened.value)) k.evidence refl $ rewrite ! 1 (λ (z : List ℕ). ‵ (write_rights z)) k.left refl $ rewrite ! 2 (λ (z : List ℕ). ‵ (write_rights z)) k.rights refl $
    fjoin3 ! $ use1 𝓛 (‵ (rights_from T' B' g.slot_names g.fits buffer_slots n)) (tails.rights_of_open 𝓛 T' B' g.slot_names g.fits buffer_slots n asked.4.buffer asked.4.slot opened.value k.index later k.whole) $
    rewrite ! 0 (λ (z : ℕ). ‵ (rights_from T' B' g.slot_names g.fits buffer_slots z)) (let e = written_by_length writer-of cs in let f = length-append old cs in let g' = ap length whole in let z : n ≡ length (list_of v) + length (written_by writer-of cs) = omega (arith, e, f, g', begin) in z) refl $
    rewrite ! 1 (λ (z : List ℕ). ‵ (prefix_written T' B' g.slot_names g.fits z 0 xs)) asked.2 refl $ rewrite ! 1 (λ (z : List T'.Denot). ‵ (prefix_written T' B' g.slot_names g.fits buffer_slots 0 z)) (sym whole) refl $ move ! (1 ∷ []) $
    use1 𝓛 (‵ (prefix_written T' B' g.slot_names g.fits buffer_slots (0 + length old) cs)) (prefix_behind 𝓛 T' B' g.slot_names g.fits buffer_slots 0 old cs) $ rewrite ! 0 (λ (z : ℕ). ‵ (prefix_written T' B' g.slot_names g.fits buffer_slots z cs)) (let z : 0 + length old ≡ length (list_of v) = omega (arith, begin) in z) refl $
    rewrite ! 0 (λ (z : List T'.Denot). ‵ (prefix_written T' B' g.slot_names g.fits buffer_slots (length (list_of v)) z)) (sym (written_by_items writer-of cs)) refl $ move ! (1 ∷ 0 ∷ []) $
    rewrite ! 2 (λ (z : ℕ). ‵ (latest logs three_quarters z held.added)) asked.0 refl $ rewrite ! 2 (λ (z : List ℕ). ‵ (latest logs three_quarters (head me.names) z)) asked.1 refl $
    fjoin ! $ move ! (1 ∷ 0 ∷ 2 ∷ []) $ fjoin3 ! $
    use1 𝓛 (‵ (offer_owns (rule_owns T' B' g.slot_names g.fits me.names) (IsStep {T = T'.Denot} (Extended writer-of cs)) (extend_gain T' B' g.slot_names g.fits (OfferOf writer'.name writer'.used ∷ Extended writer-of cs ∷ v)) None)) (offers.extend_offer 𝓛 T' B' g.slot_names g.fits me.names v cs writer'.name writer'.used) $
    use0 𝓛 (‵ ((Token (Tuple (E' ∷ L' ∷ OneWord.the_row B' K' ∷ ExtendGain.the_row B' ∷ []))).own_val (record {}, tt) (token ∷ []))) (token_made (Tuple (E' ∷ L' ∷ OneWord.the_row B' K' ∷ ExtendGain.the_row B' ∷ [])) 𝓛) $ fjoin ! $ sets ! (agg ! (no_more !)) refl (tt, tt) $ sets ! (agg ! (and_then ! (get ! refl) (no_more !))) refl (tt, (tt, tt)) $
    nothing ! $ nothing ! $ fjoin ! $ nothing ! $ fjoin ! $ nothing ! $ fjoin ! $ nothing ! $ fjoin ! $ nothing ! $ fjoin ! $ nothing ! $ fjoin ! $ nothing ! $ fjoin ! $
    returns ! (look_at ! 0 refl) $ free_all ! refl $ keep ! (2 ∷ 0 ∷ 1 ∷ []) $ by ! (ends 𝓛 En hs c y (token) (record { marker = record {}; names = me.names; ask = Extended writer-of cs; about = OfferOf writer'.name writer'.used ∷ Extended writer-of cs ∷ v; state = None }) (tt, (tt, (tt, (tt, (tt, (tt, (tt, tt))))))) (tt, (tt, (tt, (tt, (tt, (tt, (tt, tt))))))) (fact_i 𝓤 _ (emp 𝓤) ((refl, refl, refl, refl)))))))
