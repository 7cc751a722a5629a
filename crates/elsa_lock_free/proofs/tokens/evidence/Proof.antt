use Rattle.elsa_lock_free.proofs.ByHand.{fhide, SProp, emp, fact_i, tables, RefOf, yes, hidden_shr, unhide, param, bounded, owns, RattleType, shr_vals, shr_Tells, types_at, plain, nothing, lent_out, Tuple, Stays, walk_of, stay_dropped, Goes-dropped, inst_fn, a_type, dcons, dnil, named, Val, vptr, alloc_all, pass_all, free_all, look_at, get, sets, ‵, raw, ◌⊛◌, later, ◌$◌, ◌∵◌, !, qed, by, keep, split, fjoin, await, move, fsplit, drop, use1, agg, no_more, and_then, returns, enter, proved, token, Token, ends, rules, seen_owns, ℕ, [], ◌∷◌, refl, List}
use Rattle.core.specs.contracts.marker.PhantomData as marker
use Rattle.logbook.specs.contracts.tokens.Seen as Seen
use Rattle.std.specs.contracts.alloc.Global as Global
use Rattle.std.specs.contracts.impls.GlobalAllocator.TheImpl as galloc
use Rattle.std_collections.specs.contracts.linked_list.LinkedList as LinkedList
use base.Fml.{Fml}
use Rattle.elsa_lock_free.specs.SharedList.{items_of}
use Rattle.elsa_lock_free.specs.History.{list_of}
use Rattle.elsa_lock_free.specs.contracts.event.Event as Event
use Rattle.elsa_lock_free.specs.contracts.rule.OneWord as OneWord
use Rattle.elsa_slots.specs.contracts.slots.written_prefix.WrittenPrefix as WrittenPrefix
use Rattle.elsa_lock_free.specs.contracts.rule.OneWordRuleEventLog.TheImpl as rule
use Rattle.elsa_lock_free.specs.Rights.{buffer_slots_of, prefix_written}
use Rattle.elsa_lock_free.proofs.RuleLemmas.WriterBound.{history_gives, rule_gives}
use Rattle.elsa_slots.proofs.SlotLemmas.Prefix.{prefix_made}
use Rattle.elsa_lock_free.specs.contracts.tokens.evidence.{ended, clauses}
use Rattle.elsa_lock_free.specs.contracts.tokens.evidence.Key.{name as #self}
use Rattle.elsa_lock_free.proofs.tokens.evidence.Statement.{statement}
use Rattle.elsa_lock_free.proofs.tokens.evidence.Code as code

-- a history that was seen shows for good that the indices of its list were written
pub evidence_spec : {M : Type 1} → statement M
evidence_spec 𝓤 𝓛 𝓜 𝓡 wired T B K _ _ _ g d h e _ _ =
    let H = 𝓛.H in let 𝓣 = tables 𝓤 H 𝓜 𝓡 𝓡.env in let T' : RattleType = param 0 T in let B' : RattleType = param 1 B in let K' : RattleType = param 2 K in let E' : RattleType = Event.the_row T' in let L' : RattleType = LinkedList.the_row E' Global.the_row galloc.ghosts in let En = ended T B K g d h e in
    let inst = bounded (a_type ∷ a_type ∷ a_type ∷ []) (T, (B, (K, tt))) (dcons d (dcons e dnil)) in let fn = inst_fn inst code.function in let c = clauses T B K g d h e 𝓛 𝓜.mem 𝓡.returns in
    let S : RattleType = Seen.the_row E' L' (OneWord.the_row B' K') (rule.ghosts T' B' K' g d h e) in
    let hs : Stays En.signature.params En.kept = (stay_dropped (RefOf (0 ∷ []) tt (plain (λ _. S)) (λ _. tt)) yes, tt) in
    proved 𝓛 En hs c 𝓜 𝓡 (Goes-dropped 𝓛 4 (RefOf (0 ∷ []) tt (plain (λ _. S)) (λ _. tt)) yes (λ κs x f. refl), tt) (#self inst) fn (code.unfolded 𝓤 H 𝓜 𝓡 wired (T, (B, (K, tt))) d e)
    (λ κs. (shr_vals, tt)) (λ κs. (shr_Tells (named 0) κs.0 S, tt)) (λ κs qs bounds a gh are.
    let me = a.0.now in let p : Val = vptr a.0.ref_ptr.0 a.0.ref_ptr.1 in let buffer_slots : List ℕ = buffer_slots_of me.names in let xs : List T'.Denot = items_of (list_of me.log) in
    let y : (walk_of 𝓛 En hs c).Ghost = ((κs, qs, bounds, a, (p ∷ [], tt)), gh) in let Post : Val → SProp 𝓤 = (walk_of 𝓛 En hs c).post y in
    let args : List Val = p ∷ [] in
    qed 𝓛 ((raw (denote.Triple.Entry.alive 𝓛 En.signature κs qs) ⊛ ‵ (owns (types_at En.signature.params κs) a y.0.4)) ∷ raw ((c κs a).requires gh) ∷ []) ∵ keep ! (0 ∷ []) $ split ! $
    let gg = rule.ghosts T' B' K' g d h e in let All : RattleType = Tuple (E' ∷ L' ∷ OneWord.the_row B' K' ∷ []) in let O : RattleType = OneWord.the_row B' K' in let law = rules gg.holds gg.shows gg.keeps in let cv = E'.coded in
    let X : Fml = prefix_written T' B' g.slot_names g.fits buffer_slots 0 xs in
    move ! (1 ∷ []) $ fsplit ! $ fsplit ! $
    -- [the reference; its Seen; nothing; alive]
    keep ! (1 ∷ 3 ∷ []) $
    enter ! 𝓣.C 𝓣.Λ fn args Post $ alloc_all ! (λ l. pass_all ! refl ((tt, tt), tt) $
    use1 𝓛 (‵ (hidden_shr (Token All) κs.0 (record {}, tt) a.0.ref_ptr.0 a.0.ref_ptr.1) ⊛ ‵ (fhide (seen_owns cv.code law me.book me.names me.log))) (lent_out 𝓛 (Seen.struct E' L' O gg) (Seen.the_codes E'.Denot L'.Denot O.Denot E'.coded L'.coded O.coded (marker.the_row All).coded) (Seen.the_heap E' L' O gg) (Seen.the_lent E' L' O gg) κs.0 me a.0.ref_ptr.0 a.0.ref_ptr.1) $ split ! $ drop ! $ unhide ! $
    use1 𝓛 (later (‵ X)) (history_gives 𝓛 cv law me.book me.names X me.log (λ log pre. rule_gives 𝓛 T' B' g.slot_names g.fits me.names me.log log pre)) $ await ! tt $
    use1 𝓛 (‵ ((WrittenPrefix.the_row T' B' g).own_val (record { marker = record {}; buffer_slots = buffer_slots; items = xs }) (token ∷ []))) (prefix_made 𝓛 T' B' g buffer_slots xs) $
    sets ! (agg ! (no_more !)) refl (tt, tt) $ sets ! (agg ! (and_then ! (get ! refl) (no_more !))) refl (tt, (tt, tt)) $
    nothing ! $ nothing ! $ fjoin ! $
    returns ! (look_at ! 0 refl) $ free_all ! refl $ keep ! (2 ∷ 0 ∷ 1 ∷ []) $ by ! (ends 𝓛 En hs c y (token) (record { marker = record {}; buffer_slots = buffer_slots; items = xs }) (tt, tt) (tt, tt) (fact_i 𝓤 _ (emp 𝓤) (refl, refl)))))
