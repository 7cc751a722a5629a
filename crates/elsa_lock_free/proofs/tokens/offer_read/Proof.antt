use Rattle.elsa_lock_free.proofs.ByHand.{SProp, emp, fact_i, tables, unit, RefOf, yes, param, bounded, owns, RattleType, shr_vals, shr_Tells, types_at, plain, nothing, Tuple, Stays, walk_of, stay_dropped, Goes-dropped, inst_fn, a_type, dcons, dnil, named, Val, vptr, alloc_all, pass_all, free_all, look_at, get, sets, env, ‵, raw, ◌⊛◌, ◌$◌, ◌∵◌, !, qed, by, keep, split, fjoin, use0, move, fsplit, use1, agg, no_more, and_then, returns, enter, proved, token, Token, token_made, ends, token_told, offer_owns, [], ◌∷◌, refl, List, None}
use Rattle.logbook.specs.contracts.tokens.Seen as Seen
use Rattle.std.specs.contracts.alloc.Global as Global
use Rattle.std.specs.contracts.impls.GlobalAllocator.TheImpl as galloc
use Rattle.std_collections.specs.contracts.linked_list.LinkedList as LinkedList
use Rattle.elsa_lock_free.specs.declared.event.Event.TheVariants.{OfferOf}
use Rattle.elsa_lock_free.specs.contracts.event.Event as Event
use Rattle.elsa_lock_free.specs.contracts.rule.OneWord as OneWord
use Rattle.elsa_lock_free.specs.contracts.rule.ReadGain as ReadGain
use Rattle.elsa_lock_free.specs.contracts.tokens.Writer as Writer
use Rattle.elsa_lock_free.specs.contracts.rule.OneWordRuleEventLog.TheImpl as rule
use Rattle.elsa_lock_free.specs.Rights.{IsStep, rule_owns, read_gain}
use Rattle.elsa_lock_free.proofs.RuleLemmas.Offers as offers
use Rattle.elsa_lock_free.specs.contracts.tokens.offer_read.{ended, clauses}
use Rattle.elsa_lock_free.specs.contracts.tokens.offer_read.Key.{name as #self}
use Rattle.elsa_lock_free.proofs.tokens.offer_read.Statement.{statement}
use Rattle.elsa_lock_free.proofs.tokens.offer_read.Code as code

-- the offer holds the writer of the pass that reads
pub offer_read_spec : {M : Type 1} → statement M
offer_read_spec 𝓤 𝓛 𝓜 𝓡 wired T B K _ _ _ g d h e _ _ =
    let H = 𝓛.H in let 𝓣 = tables 𝓤 H 𝓜 𝓡 𝓡.env in let T' : RattleType = param 0 T in let B' : RattleType = param 1 B in let K' : RattleType = param 2 K in let E' : RattleType = Event.the_row T' in let L' : RattleType = LinkedList.the_row E' Global.the_row galloc.ghosts in let En = ended T B K g d h e in
    let inst = bounded (a_type ∷ a_type ∷ a_type ∷ []) (T, (B, (K, tt))) (dcons d (dcons e dnil)) in let fn = inst_fn inst code.function in let c = clauses T B K g d h e 𝓛 𝓜.mem 𝓡.returns in
    let S : RattleType = Seen.the_row E' L' (OneWord.the_row B' K') (rule.ghosts T' B' K' g d h e) in
    let hs : Stays En.signature.params En.kept = (stay_dropped (RefOf (0 ∷ []) tt (plain (λ _. S)) (λ _. tt)) yes, (stay_dropped (plain (λ _. Writer.the_row)) yes, tt)) in
    proved 𝓛 En hs c 𝓜 𝓡 (Goes-dropped 𝓛 4 (RefOf (0 ∷ []) tt (plain (λ _. S)) (λ _. tt)) yes (λ κs x f. refl), (Goes-dropped 𝓛 4 (plain (λ _. Writer.the_row)) yes (λ κs x f. refl), tt)) (#self inst) fn (code.unfolded 𝓤 H 𝓜 𝓡 wired (T, (B, (K, tt))) d e)
    (λ κs. (shr_vals, ((λ x. token ∷ []), tt))) (λ κs. (shr_Tells (named 0) κs.0 S, ((λ x vs is. token_told (unit) vs is.0), tt))) (λ κs qs bounds a gh are.
    let me = a.0.now in let p : Val = vptr a.0.ref_ptr.0 a.0.ref_ptr.1 in
    let y : (walk_of 𝓛 En hs c).Ghost = ((κs, qs, bounds, a, (p ∷ [], (token ∷ [], tt))), gh) in let Post : Val → SProp 𝓤 = (walk_of 𝓛 En hs c).post y in
    let args : List Val = p ∷ token ∷ [] in
    qed 𝓛 ((raw (denote.Triple.Entry.alive 𝓛 En.signature κs qs) ⊛ ‵ (owns (types_at En.signature.params κs) a y.0.4)) ∷ raw ((c κs a).requires gh) ∷ []) ∵ keep ! (0 ∷ []) $ split ! $
    let held = a.1.0 in
    -- [alive; owns]
    move ! (1 ∷ []) $ fsplit ! $ move ! (1 ∷ []) $ fsplit ! $ fsplit ! $
    -- [token of the writer; what it owns; nothing; the Seen; alive]
    keep ! (1 ∷ 4 ∷ []) $
    enter ! 𝓣.C 𝓣.Λ fn args Post $ alloc_all ! (λ l. pass_all ! refl ((tt, tt), ((tt, (tt, tt)), tt)) $ let Env = env fn.locals l in
    use1 𝓛 (‵ (offer_owns (rule_owns T' B' g.slot_names g.fits me.names) (IsStep (OfferOf held.name held.used)) (read_gain T' B' g.slot_names g.fits me.names (OfferOf held.name held.used ∷ [])) None)) (offers.read_offer 𝓛 T' B' g.slot_names g.fits me.names held.name held.used (OfferOf held.name held.used ∷ []) refl) $
    use0 𝓛 (‵ ((Token (Tuple (E' ∷ L' ∷ OneWord.the_row B' K' ∷ ReadGain.the_row B' ∷ []))).own_val (record {}, tt) (token ∷ []))) (token_made (Tuple (E' ∷ L' ∷ OneWord.the_row B' K' ∷ ReadGain.the_row B' ∷ [])) 𝓛) $ fjoin ! $ sets ! (agg ! (no_more !)) refl (tt, tt) $ sets ! (agg ! (and_then ! (get ! refl) (no_more !))) refl (tt, (tt, tt)) $
    nothing ! $ nothing ! $ fjoin ! $ nothing ! $ fjoin ! $
    returns ! (look_at ! 0 refl) $ free_all ! refl $ keep ! (2 ∷ 0 ∷ 1 ∷ []) $ by ! (ends 𝓛 En hs c y (token) (record { marker = record {}; names = me.names; ask = OfferOf held.name held.used; about = OfferOf held.name held.used ∷ []; state = None }) (tt, (tt, tt)) (tt, (tt, tt)) (fact_i 𝓤 _ (emp 𝓤) ((refl, refl, refl, refl))))))
