use Rattle.elsa_lock_free.proofs.ByHand.{fsep, ftrue, latest, SProp, emp, three_quarters, fact_i, fact, tables, unit, RefOf, usize, yes, no, param, bounded, uint_vals, uint_Tells, owns, RattleType, shr_vals, shr_Tells, types_at, plain, nothing, Tuple, Stays, walk_of, stay_dropped, Goes-dropped, inst_fn, a_type, dcons, dnil, named, Val, vptr, vint, alloc_all, pass_all, free_all, look_at, get, sets, env, ‵, raw, ◌⊛◌, ◌$◌, ◌∵◌, !, qed, by, keep, split, fjoin, use0, move, fsplit, given, learn, drop, use1, fjoin3, rewrite, agg, no_more, and_then, returns, enter, proved, token, Token, token_made, ends, token_told, offer_owns, ℕ, [], ◌∷◌, refl, List, None, suc, length, w64}
use Rattle.logbook.specs.contracts.tokens.Seen as Seen
use Rattle.std.specs.contracts.alloc.Global as Global
use Rattle.std.specs.contracts.impls.GlobalAllocator.TheImpl as galloc
use Rattle.std_collections.specs.contracts.linked_list.LinkedList as LinkedList
use Rattle.std.proofs.Common.{◌≡◌, ◌<◌, ◌∙◌, arith, slice_index_or, drop as drops}
use lib.Seq.{drop-cons}
use Rattle.elsa_slots.specs.Slot.{written, write_rights}
use Rattle.elsa_slots.specs.contracts.slots.rights.WriteRights as WriteRights
use Rattle.elsa_slots.specs.contracts.slots.rights.Written as Written
use Rattle.elsa_lock_free.specs.declared.event.Event.TheVariants.{Published, OfferOf}
use Rattle.elsa_lock_free.specs.SharedList.{entry}
use Rattle.elsa_lock_free.specs.History.{list_of}
use Rattle.elsa_lock_free.specs.contracts.event.Event as Event
use Rattle.elsa_lock_free.specs.contracts.rule.OneWord as OneWord
use Rattle.elsa_lock_free.specs.contracts.rule.PublishGain as PublishGain
use Rattle.elsa_lock_free.specs.contracts.tokens.Held as Held
use Rattle.elsa_lock_free.specs.contracts.tokens.Writer as Writer
use Rattle.elsa_lock_free.specs.contracts.rule.OneWordRuleEventLog.TheImpl as rule
use Rattle.elsa_lock_free.specs.Rights.{logs, head, buffer_slots_of, IsStep, rule_owns, publish_gain, rights_from, index_written}
use Rattle.elsa_lock_free.proofs.RuleLemmas.Offers as offers
use Rattle.elsa_lock_free.proofs.RuleLemmas.Tails as tails
use Rattle.elsa_lock_free.specs.contracts.tokens.offer_publish.{ended, clauses}
use Rattle.elsa_lock_free.specs.contracts.tokens.offer_publish.Key.{name as #self}
use Rattle.elsa_lock_free.proofs.tokens.offer_publish.Statement.{statement}
use Rattle.elsa_lock_free.proofs.tokens.offer_publish.Code as code

-- the offer has the right to release, the evidence of the item and of its buffer, the rights to the later slots and
-- buffers, and the writer
pub offer_publish_spec : {M : Type 1} → statement M
offer_publish_spec 𝓤 𝓛 𝓜 𝓡 wired T B K _ _ _ g d h e _ _ =
    let H = 𝓛.H in let 𝓣 = tables 𝓤 H 𝓜 𝓡 𝓡.env in let T' : RattleType = param 0 T in let B' : RattleType = param 1 B in let K' : RattleType = param 2 K in let E' : RattleType = Event.the_row T' in let L' : RattleType = LinkedList.the_row E' Global.the_row galloc.ghosts in let En = ended T B K g d h e in
    let inst = bounded (a_type ∷ a_type ∷ a_type ∷ []) (T, (B, (K, tt))) (dcons d (dcons e dnil)) in let fn = inst_fn inst code.function in let c = clauses T B K g d h e 𝓛 𝓜.mem 𝓡.returns in
    let S : RattleType = Seen.the_row E' L' (OneWord.the_row B' K') (rule.ghosts T' B' K' g d h e) in
    let hs : Stays En.signature.params En.kept = (stay_dropped (RefOf (0 ∷ []) tt (plain (λ _. S)) (λ _. tt)) yes, (stay_dropped (plain (λ _. Held.the_row)) yes, (stay_dropped (plain (λ _. Written.the_row B')) no, (stay_dropped (plain (λ _. WriteRights.the_row)) yes, (stay_dropped (plain (λ _. WriteRights.the_row)) yes, (stay_dropped (plain (λ _. Writer.the_row)) yes, (stay_dropped (plain (λ _. Written.the_row T')) no, (stay_dropped (plain (λ _. usize)) yes, (stay_dropped (plain (λ _. usize)) yes, tt))))))))) in
    proved 𝓛 En hs c 𝓜 𝓡 (Goes-dropped 𝓛 4 (RefOf (0 ∷ []) tt (plain (λ _. S)) (λ _. tt)) yes (λ κs x f. refl), (Goes-dropped 𝓛 4 (plain (λ _. Held.the_row)) yes (λ κs x f. refl), (Goes-dropped 𝓛 4 (plain (λ _. Written.the_row B')) no (λ κs x f. refl), (Goes-dropped 𝓛 4 (plain (λ _. WriteRights.the_row)) yes (λ κs x f. refl), (Goes-dropped 𝓛 4 (plain (λ _. WriteRights.the_row)) yes (λ κs x f. refl), (Goes-dropped 𝓛 4 (plain (λ _. Writer.the_row)) yes (λ κs x f. refl), (Goes-dropped 𝓛 4 (plain (λ _. Written.the_row T')) no (λ κs x f. refl), (Goes-dropped 𝓛 4 (plain (λ _. usize)) yes (λ κs x f. refl), (Goes-dropped 𝓛 4 (plain (λ _. usize)) yes (λ κs x f. refl), tt))))))))) (#self inst) fn (code.unfolded 𝓤 H 𝓜 𝓡 wired (T, (B, (K, tt))) d e)
    (λ κs. (shr_vals, ((λ x. token ∷ []), ((λ x. token ∷ []), ((λ x. token ∷ []), ((λ x. token ∷ []), ((λ x. token ∷ []), ((λ x. token ∷ []), (uint_vals w64, (uint_vals w64, tt)))))))))) (λ κs. (shr_Tells (named 0) κs.0 S, ((λ x vs is. token_told (unit) vs is.0), ((λ x vs is. token_told (B') vs is.0), ((λ x vs is. token_told (unit) vs is.0), ((λ x vs is. token_told (unit) vs is.0), ((λ x vs is. token_told (unit) vs is.0), ((λ x vs is. token_told (T') vs is.0), (uint_Tells w64, (uint_Tells w64, tt)))))))))) (λ κs qs bounds a gh are.
    let me = a.0.now in let p : Val = vptr a.0.ref_ptr.0 a.0.ref_ptr.1 in
    let y : (walk_of 𝓛 En hs c).Ghost = ((κs, qs, bounds, a, (p ∷ [], (token ∷ [], (token ∷ [], (token ∷ [], (token ∷ [], (token ∷ [], (token ∷ [], (vint w64 a.1.1.1.1.1.1.1.0 ∷ [], (vint w64 a.1.1.1.1.1.1.1.1.0 ∷ [], tt)))))))))), gh) in let Post : Val → SProp 𝓤 = (walk_of 𝓛 En hs c).post y in
    let args : List Val = p ∷ token ∷ token ∷ token ∷ token ∷ token ∷ token ∷ vint w64 a.1.1.1.1.1.1.1.0 ∷ vint w64 a.1.1.1.1.1.1.1.1.0 ∷ [] in
    qed 𝓛 ((raw (denote.Triple.Entry.alive 𝓛 En.signature κs qs) ⊛ ‵ (owns (types_at En.signature.params κs) a y.0.4)) ∷ raw (fact 𝓤 _) ∷ raw (fact 𝓤 _) ∷ raw (fact 𝓤 _) ∷ given _ (‵ ftrue) ∷ []) ∵ keep ! (4 ∷ 0 ∷ []) $ learn ! (λ asked. drop ! $ split ! $
    let held = a.1.0 in let opened = a.1.1.0 in let writer' = a.1.1.1.1.1.0 in let item = a.1.1.1.1.1.1.0 in let b : ℕ = a.1.1.1.1.1.1.1.0 in let j : ℕ = a.1.1.1.1.1.1.1.1.0 in let buffer_slots : List ℕ = buffer_slots_of me.names in let n : ℕ = length (list_of me.log) in
    move ! (1 ∷ []) $ fsplit ! $ move ! (1 ∷ []) $ fsplit ! $ fsplit ! $ move ! (2 ∷ []) $ fsplit ! $ fsplit ! $ move ! (2 ∷ []) $ fsplit ! $ fsplit ! $ move ! (2 ∷ []) $ fsplit ! $ fsplit ! $ move ! (2 ∷ []) $ fsplit ! $ fsplit ! $ move ! (2 ∷ []) $ fsplit ! $ fsplit ! $ move ! (2 ∷ []) $ fsplit ! $ move ! (1 ∷ []) $ fsplit ! $ keep ! (12 ∷ 10 ∷ 8 ∷ 4 ∷ 14 ∷ 6 ∷ 16 ∷ []) $
    enter ! 𝓣.C 𝓣.Λ fn args Post $ alloc_all ! (λ l. pass_all ! refl ((tt, tt), ((tt, (tt, tt)), ((tt, (tt, tt)), ((tt, (tt, tt)), ((tt, (tt, tt)), ((tt, (tt, tt)), ((tt, (tt, tt)), ((tt, record { fits = are.1.1.1.1.1.1.1.0.1 }), ((tt, record { fits = are.1.1.1.1.1.1.1.1.0.1 }), tt))))))))) $ let Env = env fn.locals l in
    let k = asked.2 in let slots = a.1.1.1.0 in let names : List ℕ = g.slot_names opened.value in
    let within : j < length names = let w = k.index.within in let l = k.whole in omega (arith, w, l) in
    let both : item.of ∷ slots.of ≡ slice_index_or names j 0 ∷ drops (suc j) names = k.left ∙ drop-cons names j 0 within in let behind : slots.of ≡ drops (suc j) names = cc both in let its : item.of ≡ slice_index_or names j 0 = cc both in
    rewrite ! 0 (λ (z : ℕ). ‵ (written B' z opened.value)) k.evidence refl $ rewrite ! 1 (λ (z : List ℕ). ‵ (write_rights z)) behind refl $ rewrite ! 2 (λ (z : List ℕ). ‵ (write_rights z)) k.rights refl $ rewrite ! 3 (λ (z : ℕ). ‵ (written T' z item.value)) its refl $
    fjoin3 ! $ fjoin ! $ use1 𝓛 (‵ (fsep (rights_from T' B' g.slot_names g.fits buffer_slots (suc n)) (index_written T' B' g.slot_names g.fits buffer_slots n item.value))) (tails.rights_after_write 𝓛 T' B' g.slot_names g.fits buffer_slots n b j opened.value item.value k.index k.whole asked.3) $
    rewrite ! 1 (λ (z : ℕ). ‵ (latest logs three_quarters z held.added)) asked.0 refl $ rewrite ! 1 (λ (z : List ℕ). ‵ (latest logs three_quarters (head me.names) z)) asked.1 refl $
    move ! (1 ∷ 0 ∷ 2 ∷ []) $ fjoin3 ! $ let x : Rattle.elsa_lock_free.specs.declared.event.Entry.Entry T'.Denot = entry (suc writer'.name) item.value in
    use1 𝓛 (‵ (offer_owns (rule_owns T' B' g.slot_names g.fits me.names) (IsStep {T = T'.Denot} (Published x)) (publish_gain T' B' g.slot_names g.fits (OfferOf writer'.name writer'.used ∷ me.log)) None)) (offers.publish_offer 𝓛 T' B' g.slot_names g.fits me.names me.log x writer'.name writer'.used refl) $
    use0 𝓛 (‵ ((Token (Tuple (E' ∷ L' ∷ OneWord.the_row B' K' ∷ PublishGain.the_row B' ∷ []))).own_val (record {}, tt) (token ∷ []))) (token_made (Tuple (E' ∷ L' ∷ OneWord.the_row B' K' ∷ PublishGain.the_row B' ∷ [])) 𝓛) $ fjoin ! $ sets ! (agg ! (no_more !)) refl (tt, tt) $ sets ! (agg ! (and_then ! (get ! refl) (no_more !))) refl (tt, (tt, tt)) $
    nothing ! $ nothing ! $ fjoin ! $ nothing ! $ fjoin ! $ nothing ! $ fjoin ! $ nothing ! $ fjoin ! $ nothing ! $ fjoin ! $ nothing ! $ fjoin ! $ nothing ! $ fjoin ! $ nothing ! $ fjoin ! $ nothing ! $ fjoin ! $
    returns ! (look_at ! 0 refl) $ free_all ! refl $ keep ! (2 ∷ 0 ∷ 1 ∷ []) $ by ! (ends 𝓛 En hs c y (token) (record { marker = record {}; names = me.names; ask = Published (entry (suc writer'.name) item.value); about = OfferOf writer'.name writer'.used ∷ me.log; state = None }) (tt, (tt, (tt, (tt, (tt, (tt, (tt, (tt, (tt, tt))))))))) (tt, (tt, (tt, (tt, (tt, (tt, (tt, (tt, (tt, tt))))))))) (fact_i 𝓤 _ (emp 𝓤) ((refl, refl, refl, refl)))))))
