use Rattle.elsa_lock_free.proofs.ByHand.{fsep, feq, SProp, emp, fact_i, tables, unit, yes, owns, RattleType, Valss, types_at, plain, nothing, Stays, walk_of, stay_dropped, Goes-dropped, Val, vstruct, vcons, vnil, of_list, alloc_all, pass_all, free_all, look_at, get, sets, env, tickets_from, ‵, raw, ◌⊛◌, ◌$◌, ◌∵◌, !, qed, by, keep, split, fjoin, use0, move, fsplit, given, fpack, learn, use2, feq_i, agg, no_more, and_then, returns, enter, proved, token, Token, token_made, ends, token_told, [], ◌∷◌, refl, List, ◌++◌}
use Rattle.elsa_lock_free.specs.contracts.tokens.Writer as Writer
use Rattle.elsa_lock_free.proofs.RuleLemmas.Tickets.{two_names}
use Rattle.std.specs.Prelude.{◌≢◌}
use Rattle.elsa_lock_free.specs.contracts.tokens.apart.{ended, clauses}
use Rattle.elsa_lock_free.specs.contracts.tokens.apart.Key.{name as #self}
use Rattle.elsa_lock_free.proofs.tokens.apart.Statement.{statement}
use Rattle.elsa_lock_free.proofs.tokens.apart.Code as code

-- one name would have the same tickets twice
pub apart_spec : {M : Type 1} → statement M
apart_spec 𝓤 𝓛 𝓜 𝓡 wired =
    let H = 𝓛.H in let 𝓣 = tables 𝓤 H 𝓜 𝓡 𝓡.env in let fn = code.function in let c = clauses 𝓛 𝓜.mem 𝓡.returns in let En = ended in
    let hs : Stays En.signature.params En.kept = (stay_dropped (plain (λ _. Writer.the_row)) yes, (stay_dropped (plain (λ _. Writer.the_row)) yes, tt)) in
    proved 𝓛 En hs c 𝓜 𝓡 (Goes-dropped 𝓛 0 (plain (λ _. Writer.the_row)) yes (λ κs x f. refl), (Goes-dropped 𝓛 0 (plain (λ _. Writer.the_row)) yes (λ κs x f. refl), tt)) #self fn (code.unfolded 𝓤 H 𝓜 𝓡 wired)
    (λ κs. ((λ x. token ∷ []), ((λ x. token ∷ []), tt))) (λ κs. ((λ x vs is. token_told (unit) vs is.0), ((λ x vs is. token_told (unit) vs is.0), tt))) (λ κs qs bounds a gh are.
    let y : (walk_of 𝓛 En hs c).Ghost = ((κs, qs, bounds, a, (token ∷ [], (token ∷ [], tt))), gh) in let Post : Val → SProp 𝓤 = (walk_of 𝓛 En hs c).post y in
    let one = a.0 in let other = a.1.0 in
    qed 𝓛 ((raw (denote.Triple.Entry.alive 𝓛 En.signature κs qs) ⊛ ‵ (owns (types_at En.signature.params κs) a y.0.4)) ∷ raw ((c κs a).requires gh) ∷ []) ∵ keep ! (0 ∷ []) $ split ! $
    move ! (1 ∷ []) $ fsplit ! $ fsplit ! $ move ! (2 ∷ []) $ fsplit ! $ fsplit ! $ keep ! (4 ∷ 1 ∷ 5 ∷ []) $
    use2 𝓛 (given (one.name ≢ other.name) (‵ (tickets_from one.name one.used) ⊛ ‵ (tickets_from other.name other.used))) (two_names 𝓛 one.name other.name one.used other.used) $ learn ! (λ differ. split ! $
    enter ! 𝓣.C 𝓣.Λ fn (token ∷ token ∷ []) Post $ alloc_all ! (λ l. pass_all ! refl ((tt, (tt, tt)), ((tt, (tt, tt)), tt)) $ let Env = env fn.locals l in
    use0 𝓛 (‵ ((Token (unit)).own_val (record {}, tt) (token ∷ []))) (token_made (unit) 𝓛) $ fjoin ! $ move ! (1 ∷ []) $ use0 𝓛 (‵ ((Token (unit)).own_val (record {}, tt) (token ∷ []))) (token_made (unit) 𝓛) $ fjoin ! $ move ! (1 ∷ 0 ∷ []) $
    sets ! (agg ! (no_more !)) refl (tt, tt) $ sets ! (agg ! (and_then ! (get ! refl) (no_more !))) refl (tt, (tt, tt)) $ sets ! (agg ! (no_more !)) refl (tt, tt) $ sets ! (agg ! (and_then ! (get ! refl) (no_more !))) refl (tt, (tt, tt)) $ sets ! (agg ! (and_then ! (get ! refl) (and_then ! (get ! refl) (no_more !)))) refl (tt, ((tt, tt), ((tt, tt), tt))) $
    nothing ! $ move ! (2 ∷ 0 ∷ []) $ fjoin ! $ move ! (1 ∷ 0 ∷ []) $ fjoin ! $ let v : Val = vstruct (vcons token (vcons token (vnil))) in let Rs : List RattleType = Writer.the_row ∷ Writer.the_row ∷ [] in feq_i ! (List Val) (v ∷ []) (v ∷ []) refl $ fjoin ! $ fpack ! (Valss Rs) (λ vss. fsep (feq (List Val) (v ∷ []) (vstruct (of_list (vss.0 ++ (vss.1.0 ++ []))) ∷ [])) (owns Rs (one, (other, tt)) vss)) (token ∷ [], (token ∷ [], tt)) $
    nothing ! $ nothing ! $ fjoin ! $ nothing ! $ fjoin ! $
    returns ! (look_at ! 0 refl) $ free_all ! refl $ keep ! (2 ∷ 0 ∷ 1 ∷ []) $ by ! (ends 𝓛 En hs c y (v) ((one, other)) (tt, (tt, tt)) (tt, (tt, tt)) (fact_i 𝓤 _ (emp 𝓤) ((refl, refl, refl, refl, differ)))))))
