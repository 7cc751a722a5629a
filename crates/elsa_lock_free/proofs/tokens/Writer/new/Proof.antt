use Rattle.elsa_lock_free.proofs.ByHand.{SProp, emp, via, fact_i, tables, unit, owns, types_at, nothing, Stays, walk_of, Val, alloc_all, pass_all, free_all, look_at, get, sets, tickets_from, ‵, raw, ◌⊛◌, some, later, ◌$◌, ◌∵◌, !, qed, by, keep, split, fjoin, pick, use0, await, basic, agg, no_more, and_then, returns, enter, proved, token, Token, token_made, ends, ℕ, [], ◌∷◌, refl}
use types.Keyed.{entries_new, token as ticket_algebra}
use Rattle.elsa_lock_free.specs.contracts.tokens.Writer.new.{ended, clauses}
use Rattle.elsa_lock_free.specs.contracts.tokens.Writer.new.Key.{name as #self}
use Rattle.elsa_lock_free.proofs.tokens.Writer.new.Statement.{statement}
use Rattle.elsa_lock_free.proofs.tokens.Writer.new.Code as code

-- a fresh name has all its tickets
pub new_spec : {M : Type 1} → statement M
new_spec 𝓤 𝓛 𝓜 𝓡 wired =
    let H = 𝓛.H in let 𝓣 = tables 𝓤 H 𝓜 𝓡 𝓡.env in let fn = code.function in let c = clauses 𝓛 𝓜.mem 𝓡.returns in let En = ended in
    let hs : Stays En.signature.params En.kept = tt in
    proved 𝓛 En hs c 𝓜 𝓡 tt #self fn (code.unfolded 𝓤 H 𝓜 𝓡 wired)
    (λ κs. tt) (λ κs. tt) (λ κs qs bounds a gh are.
    let y : (walk_of 𝓛 En hs c).Ghost = ((κs, qs, bounds, a, tt), gh) in let Post : Val → SProp 𝓤 = (walk_of 𝓛 En hs c).post y in
    qed 𝓛 ((raw (denote.Triple.Entry.alive 𝓛 En.signature κs qs) ⊛ ‵ (owns (types_at En.signature.params κs) a y.0.4)) ∷ raw ((c κs a).requires gh) ∷ []) ∵ split ! $ keep ! (0 ∷ []) $
    enter ! 𝓣.C 𝓣.Λ fn ([]) Post $ alloc_all ! (λ l. pass_all ! refl tt $
    use0 𝓛 (later (some (λ (γ : ℕ). ‵ (tickets_from γ 0)))) (via 𝓤 _ (entries_new ticket_algebra 𝓛 0 (λ _. tt)) (basic 𝓛 _)) $ await ! tt $ pick ! (λ γ.
    use0 𝓛 (‵ ((Token (unit)).own_val (record {}, tt) (token ∷ []))) (token_made (unit) 𝓛) $ fjoin ! $ sets ! (agg ! (no_more !)) refl (tt, tt) $ sets ! (agg ! (and_then ! (get ! refl) (no_more !))) refl (tt, (tt, tt)) $
    nothing ! $
    returns ! (look_at ! 0 refl) $ free_all ! refl $ keep ! (2 ∷ 0 ∷ 1 ∷ []) $ by ! (ends 𝓛 En hs c y (token) (record { marker = record {}; name = γ; used = 0 }) tt tt (fact_i 𝓤 _ (emp 𝓤) (refl))))))
