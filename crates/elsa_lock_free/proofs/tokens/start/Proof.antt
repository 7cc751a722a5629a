use Rattle.elsa_lock_free.proofs.ByHand.{fsep, feq, latest, SProp, emp, via, three_quarters, fact_i, tables, unit, no, param, bounded, owns, RattleType, Valss, types_at, plain, nothing, Tuple, Stays, walk_of, stay_dropped, Goes-dropped, inst_fn, a_type, dcons, dnil, Val, vstruct, vcons, vnil, of_list, alloc_all, pass_all, free_all, look_at, get, sets, env, ‵, raw, ◌⊛◌, some, later, ◌$◌, ◌∵◌, !, qed, by, keep, split, fjoin, pick, use0, await, move, fsplit, fpack, feq_i, use1, basic, agg, no_more, and_then, returns, enter, proved, token, Token, token_made, ends, ℕ, [], ◌∷◌, refl, List, ◌++◌}
use Rattle.std.specs.contracts.alloc.Global as Global
use Rattle.std.specs.contracts.impls.GlobalAllocator.TheImpl as galloc
use Rattle.std_collections.specs.contracts.linked_list.LinkedList as LinkedList
use base.Fraction.{full_share}
use base.Share
use base.Share.{quarter}
use types.Growing.{latest_cut, latest_new}
use Rattle.logbook.specs.contracts.tokens.Start as Start
use Rattle.elsa_lock_free.specs.contracts.event.Event as Event
use Rattle.elsa_lock_free.specs.contracts.rule.OneWord as OneWord
use Rattle.elsa_lock_free.specs.contracts.tokens.Held as Held
use Rattle.elsa_slots.specs.contracts.slots.written_prefix.WrittenPrefix as WrittenPrefix
use Rattle.elsa_slots.proofs.SlotLemmas.Prefix.{prefix_made}
use Rattle.elsa_slots.proofs.SlotLemmas.Prefix.{prefix_value}
use Rattle.elsa_lock_free.specs.contracts.rule.OneWordRuleEventLog.TheImpl as rule
use Rattle.elsa_lock_free.specs.Rights.{logs}
use Rattle.elsa_lock_free.specs.contracts.tokens.start.{ended, clauses}
use Rattle.elsa_lock_free.specs.contracts.tokens.start.Key.{name as #self}
use Rattle.elsa_lock_free.proofs.tokens.start.Statement.{statement}
use Rattle.elsa_lock_free.proofs.tokens.start.Code as code

-- new names make an empty history, with the hold of its maker
pub start_spec : {M : Type 1} → statement M
start_spec 𝓤 𝓛 𝓜 𝓡 wired T B K _ _ _ g d h e _ _ =
    let H = 𝓛.H in let 𝓣 = tables 𝓤 H 𝓜 𝓡 𝓡.env in let T' : RattleType = param 0 T in let B' : RattleType = param 1 B in let K' : RattleType = param 2 K in let E' : RattleType = Event.the_row T' in let L' : RattleType = LinkedList.the_row E' Global.the_row galloc.ghosts in let En = ended T B K g d h e in
    let inst = bounded (a_type ∷ a_type ∷ a_type ∷ []) (T, (B, (K, tt))) (dcons d (dcons e dnil)) in let fn = inst_fn inst code.function in let c = clauses T B K g d h e 𝓛 𝓜.mem 𝓡.returns in
    let hs : Stays En.signature.params En.kept = (stay_dropped (plain (λ _. WrittenPrefix.the_row T' B' g)) no, tt) in
    proved 𝓛 En hs c 𝓜 𝓡 (Goes-dropped 𝓛 3 (plain (λ _. WrittenPrefix.the_row T' B' g)) no (λ κs x f. refl), tt) (#self inst) fn (code.unfolded 𝓤 H 𝓜 𝓡 wired (T, (B, (K, tt))) d e)
    (λ κs. ((λ x. token ∷ []), tt)) (λ κs. ((λ x vs is. prefix_value T' B' g vs is.0), tt)) (λ κs qs bounds a gh are.
    let y : (walk_of 𝓛 En hs c).Ghost = ((κs, qs, bounds, a, (token ∷ [], tt)), gh) in let Post : Val → SProp 𝓤 = (walk_of 𝓛 En hs c).post y in
    let args : List Val = token ∷ [] in
    qed 𝓛 ((raw (denote.Triple.Entry.alive 𝓛 En.signature κs qs) ⊛ ‵ (owns (types_at En.signature.params κs) a y.0.4)) ∷ raw ((c κs a).requires gh) ∷ []) ∵ keep ! (0 ∷ []) $ split ! $
    let from : List ℕ = a.0.buffer_slots in let xs : List T'.Denot = a.0.items in
    move ! (1 ∷ []) $ fsplit ! $ fsplit ! $ keep ! (1 ∷ 3 ∷ []) $
    enter ! 𝓣.C 𝓣.Λ fn args Post $ alloc_all ! (λ l. pass_all ! refl ((tt, (tt, tt)), tt) $ let Env = env fn.locals l in
    use0 𝓛 (later (some (λ (γ : ℕ). ‵ (latest logs full_share γ [])))) (via 𝓤 _ (latest_new logs 𝓛 []) (basic 𝓛 _)) $ await ! tt $ pick ! (λ γ.
    use1 𝓛 (‵ (latest logs quarter γ []) ⊛ ‵ (latest logs three_quarters γ [])) (latest_cut logs 𝓛 full_share quarter three_quarters γ [] base.Share.quarters) $ split ! $
    nothing ! $ nothing ! $ fjoin ! $ move ! (1 ∷ []) $ nothing ! $ move ! (1 ∷ 0 ∷ []) $ fjoin ! $ fjoin ! $
    use0 𝓛 (‵ ((Token (Tuple (E' ∷ L' ∷ OneWord.the_row B' K' ∷ []))).own_val (record {}, tt) (token ∷ []))) (token_made (Tuple (E' ∷ L' ∷ OneWord.the_row B' K' ∷ [])) 𝓛) $ fjoin ! $ move ! (1 ∷ []) $ use0 𝓛 (‵ ((Token (unit)).own_val (record {}, tt) (token ∷ []))) (token_made (unit) 𝓛) $ fjoin ! $ move ! (2 ∷ []) $ use1 𝓛 (‵ ((WrittenPrefix.the_row T' B' g).own_val (record { marker = record {}; buffer_slots = from; items = xs }) (token ∷ []))) (prefix_made 𝓛 T' B' g (from) (xs)) $ move ! (2 ∷ 1 ∷ 0 ∷ []) $
    sets ! (agg ! (no_more !)) refl (tt, tt) $ sets ! (agg ! (and_then ! (get ! refl) (no_more !))) refl (tt, (tt, tt)) $ sets ! (agg ! (no_more !)) refl (tt, tt) $ sets ! (agg ! (and_then ! (get ! refl) (no_more !))) refl (tt, (tt, tt)) $ sets ! (agg ! (no_more !)) refl (tt, tt) $ sets ! (agg ! (and_then ! (get ! refl) (no_more !))) refl (tt, (tt, tt)) $ sets ! (agg ! (and_then ! (get ! refl) (and_then ! (get ! refl) (and_then ! (get ! refl) (no_more !))))) refl (tt, ((tt, tt), ((tt, tt), ((tt, tt), tt)))) $
    let s' : (Start.the_row E' L' (OneWord.the_row B' K') (rule.ghosts T' B' K' g d h e)).Denot = record { marker = record {}; names = γ ∷ from; shown = [] } in let h' : Held.the_row.Denot = record { marker = record {}; name = γ; added = [] } in let b' : (WrittenPrefix.the_row T' B' g).Denot = record { marker = record {}; buffer_slots = from; items = xs } in
    nothing ! $ move ! (3 ∷ 0 ∷ []) $ fjoin ! $ move ! (2 ∷ 0 ∷ []) $ fjoin ! $ move ! (1 ∷ 0 ∷ []) $ fjoin ! $ let v : Val = vstruct (vcons token (vcons token (vcons token (vnil)))) in let Rs : List RattleType = Start.the_row E' L' (OneWord.the_row B' K') (rule.ghosts T' B' K' g d h e) ∷ Held.the_row ∷ WrittenPrefix.the_row T' B' g ∷ [] in feq_i ! (List Val) (v ∷ []) (v ∷ []) refl $ fjoin ! $ fpack ! (Valss Rs) (λ vss. fsep (feq (List Val) (v ∷ []) (vstruct (of_list (vss.0 ++ (vss.1.0 ++ (vss.1.1.0 ++ [])))) ∷ [])) (owns Rs (s', (h', (b', tt))) vss)) (token ∷ [], (token ∷ [], (token ∷ [], tt))) $
    nothing ! $ nothing ! $ fjoin ! $
    returns ! (look_at ! 0 refl) $ free_all ! refl $ keep ! (2 ∷ 0 ∷ 1 ∷ []) $ by ! (ends 𝓛 En hs c y (v) ((s', h', b')) (tt, tt) (tt, tt) (fact_i 𝓤 _ (emp 𝓤) ((refl, refl, refl, refl, refl, refl)))))))
