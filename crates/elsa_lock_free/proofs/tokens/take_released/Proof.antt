use Rattle.elsa_lock_free.proofs.ByHand.{SProp, emp, fact_i, tables, unit, no, param, bounded, owns, RattleType, types_at, plain, nothing, Tuple, Stays, walk_of, stay_dropped, Goes-dropped, inst_fn, a_type, dcons, dnil, Val, alloc_all, pass_all, free_all, look_at, get, sets, env, ‵, raw, ◌⊛◌, ◌$◌, ◌∵◌, !, qed, by, keep, split, fjoin, use0, move, fsplit, drop, fpick, agg, no_more, and_then, returns, enter, proved, token, Token, token_made, ends, token_told, [], ◌∷◌, refl, List}
use Rattle.logbook.specs.contracts.tokens.Gained as Gained
use Rattle.std.specs.contracts.alloc.Global as Global
use Rattle.std.specs.contracts.impls.GlobalAllocator.TheImpl as galloc
use Rattle.std_collections.specs.contracts.linked_list.LinkedList as LinkedList
use Rattle.elsa_lock_free.specs.History.{writer_of, used_of}
use Rattle.elsa_lock_free.specs.contracts.event.Event as Event
use Rattle.elsa_lock_free.specs.contracts.rule.ReleaseGain as ReleaseGain
use Rattle.elsa_lock_free.specs.contracts.rule.ReleaseGainGainEventLog.TheImpl as gives
use Rattle.elsa_lock_free.specs.contracts.tokens.take_released.{ended, clauses}
use Rattle.elsa_lock_free.specs.contracts.tokens.take_released.Key.{name as #self}
use Rattle.elsa_lock_free.proofs.tokens.take_released.Statement.{statement}
use Rattle.elsa_lock_free.proofs.tokens.take_released.Code as code

-- what a release gained is the writer, with all its tickets
pub take_released_spec : {M : Type 1} → statement M
take_released_spec 𝓤 𝓛 𝓜 𝓡 wired T B _ _ g d _ =
    let H = 𝓛.H in let 𝓣 = tables 𝓤 H 𝓜 𝓡 𝓡.env in let T' : RattleType = param 0 T in let B' : RattleType = param 1 B in let E' : RattleType = Event.the_row T' in let L' : RattleType = LinkedList.the_row E' Global.the_row galloc.ghosts in let En = ended T B g d in
    let inst = bounded (a_type ∷ a_type ∷ []) (T, (B, tt)) (dcons d dnil) in let fn = inst_fn inst code.function in let c = clauses T B g d 𝓛 𝓜.mem 𝓡.returns in
    let GG : RattleType = Tuple (E' ∷ L' ∷ ReleaseGain.the_row B' ∷ []) in
    let hs : Stays En.signature.params En.kept = (stay_dropped (plain (λ _. Gained.the_row E' L' (ReleaseGain.the_row B') (gives.ghosts T' B' g d))) no, tt) in
    proved 𝓛 En hs c 𝓜 𝓡 (Goes-dropped 𝓛 2 (plain (λ _. Gained.the_row E' L' (ReleaseGain.the_row B') (gives.ghosts T' B' g d))) no (λ κs x f. refl), tt) (#self inst) fn (code.unfolded 𝓤 H 𝓜 𝓡 wired (T, (B, tt)) d)
    (λ κs. ((λ x. token ∷ []), tt)) (λ κs. ((λ x vs is. token_told (GG) vs is.0), tt)) (λ κs qs bounds a gh are.
    let y : (walk_of 𝓛 En hs c).Ghost = ((κs, qs, bounds, a, (token ∷ [], tt)), gh) in let Post : Val → SProp 𝓤 = (walk_of 𝓛 En hs c).post y in
    let args : List Val = token ∷ [] in
    qed 𝓛 ((raw (denote.Triple.Entry.alive 𝓛 En.signature κs qs) ⊛ ‵ (owns (types_at En.signature.params κs) a y.0.4)) ∷ raw ((c κs a).requires gh) ∷ []) ∵ keep ! (0 ∷ []) $ split ! $
    let up = a.0 in
    move ! (1 ∷ []) $ fsplit ! $ fsplit ! $ keep ! (1 ∷ 3 ∷ []) $
    enter ! 𝓣.C 𝓣.Λ fn args Post $ alloc_all ! (λ l. pass_all ! refl ((tt, (tt, tt)), tt) $ let Env = env fn.locals l in
    fsplit ! $ move ! (1 ∷ []) $ fpick ! (λ so. drop ! $
    use0 𝓛 (‵ ((Token (unit)).own_val (record {}, tt) (token ∷ []))) (token_made (unit) 𝓛) $ fjoin ! $ sets ! (agg ! (no_more !)) refl (tt, tt) $ sets ! (agg ! (and_then ! (get ! refl) (no_more !))) refl (tt, (tt, tt)) $
    nothing ! $ nothing ! $ fjoin ! $
    returns ! (look_at ! 0 refl) $ free_all ! refl $ keep ! (2 ∷ 0 ∷ 1 ∷ []) $ by ! (ends 𝓛 En hs c y (token) (record { marker = record {}; name = writer_of up.about; used = used_of up.about }) (tt, tt) (tt, tt) (fact_i 𝓤 _ (emp 𝓤) ((refl, refl, so.0, so.1)))))))
