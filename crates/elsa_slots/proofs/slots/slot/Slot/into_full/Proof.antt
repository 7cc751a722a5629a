use Rattle.elsa_slots.proofs.ByHand.{ent, sep, SProp, tables, no, Is, shows, Typed, lone, param, layouts, param_laws, RattleType, owns, types_at, plain, nothing, peeks, Stays, stay_dropped, walk_of, Goes-dropped, inst_fn, a_type, Val, vstruct, vcons, vnil, of_list, WpFn, alloc_all, pass_all, free_all, look_at, get, get_in, sets, ‵, raw, ◌⊛◌, ◌$◌, ◌∵◌, !, qed, fpick, by, keep, drop, split, fsplit, fjoin, rewrite, feq_l, sem, whole, sub, stop, fld, of_opd, returns, enter, proved_at, leaves, one, List, [], ◌∷◌, ◌++◌, refl, ◌≡◌}
use Rattle.std.proofs.Common.{sym, ap, ◌∙◌, subst}
use Rattle.std.specs.contracts.option.Option.{the_row as OptionOf}
use Rattle.core.proofs.option.Option.TheLaws.{the_row_laws as option_laws}
use base.Logic.{emp}
use contract.Monad.{fact, fact_i}
use types.Kit.{move, use0, use2}
use denote.Steps.{heard}
use Prim.Native.Nat.{ℕ}
use Rattle.std.specs.Prelude.{Option, Some}
use Rattle.elsa_slots.specs.Slot.{written}
use Rattle.elsa_slots.specs.contracts.slots.rights.Written as Written
use Rattle.elsa_slots.proofs.SlotLemmas.Tokens.{token_val, written_value}
use Rattle.elsa_slots.proofs.SlotLemmas.Taken.{ends}
use Rattle.elsa_slots.specs.contracts.slots.slot.Slot.TheInside as Inside
use Rattle.elsa_slots.specs.contracts.slots.slot.Slot.{the_row}
use Rattle.elsa_slots.specs.contracts.slots.slot.Slot.into_full.{ended, clauses}
use Rattle.elsa_slots.specs.contracts.slots.slot.Slot.into_full.Key.{name as #self}
use Rattle.elsa_slots.proofs.slots.slot.Slot.into_full.Statement.{statement}
use Rattle.elsa_slots.proofs.slots.slot.Slot.into_full.Code as code

-- The evidence shows what the memory of a slot contains that no reference borrows.
pub into_full_spec : {M : Type 1} → statement M
into_full_spec 𝓤 𝓛 𝓜 𝓡 wired T L =
    let H = 𝓛.H in let A = 𝓛.A in let 𝓣 = tables 𝓤 H 𝓜 𝓡 𝓡.env in let R : RattleType = param 0 T in let O : RattleType = OptionOf R in let LO = option_laws R (param_laws 0 T L) in let En = ended T in
    let inst = layouts (a_type ∷ []) (T, tt) in let fn = inst_fn inst code.function in let c = clauses T 𝓛 𝓜.mem 𝓡.returns in
    let self = plain (λ _. the_row R) in let S : RattleType = Written.the_row R in let token = plain (λ _. S) in let hs : Stays En.signature.params En.kept = (stay_dropped self no, (stay_dropped token no, tt)) in
    proved_at 𝓛 En hs c 𝓜 𝓡 (Goes-dropped 𝓛 1 self no (λ κs x f. refl), (Goes-dropped 𝓛 1 token no (λ κs x f. refl), tt)) (#self inst) fn (code.unfolded 𝓤 H 𝓜 𝓡 wired (T, tt))
    (λ y are. let us : List Val = y.0.4.0 in let ts : List Val = y.0.4.1.0 in let tok : S.Denot = y.0.3.1.0 in let x : T.Denot = tok.value in let γ : ℕ = y.0.3.0 in let e1 = written_value R ts are.1.0.0 in
    let Post : Val → SProp 𝓤 = (walk_of 𝓛 En hs c).post y in let toks : SProp 𝓤 = denote.Triple.Entry.alive 𝓛 En.signature y.0.0 y.0.1 in
    let Asks : Type 0 = tok.of ≡ γ in let fits : List Val → Type 0 = Typed (the_row R).mir in let some : Option T.Denot = Some x in
    qed 𝓛 ((raw toks ⊛ ‵ (owns (types_at En.signature.params y.0.0) y.0.3 y.0.4)) ∷ raw (fact 𝓤 _) ∷ raw (fact 𝓤 Asks) ∷ []) ∵ keep ! (2 ∷ 0 ∷ []) $ heard ! Asks (λ asked. split ! $ move ! (1 ∷ []) $ fsplit ! $ fsplit ! $ fpick ! (λ typed. drop ! $
    -- [the slot; the evidence and nothing; the tokens]
    move ! (1 ∷ []) $ fsplit ! $ fsplit ! $ drop ! $ rewrite ! 0 (λ (k : ℕ). ‵ (written R k x)) asked refl $ move ! (2 ∷ 0 ∷ []) $
    use2 𝓛 (‵ ((Inside.the_row R).own_val (record { value = some }) us)) (ends 𝓛 R (λ (v : Option T.Denot). (Inside.the_row R).own_val (record { value = v }) us) γ x) $
    fpick ! (λ vss. fsplit ! $ feq_l ! (λ e. fsplit ! $
    peeks ! O (Is O) (shows 𝓛 O) some vss.0 (λ is-v. let got = one (lone O.mir) vss.0 ((LO.lawful 𝓛).typed some vss.0 is-v) in let w : Val = got.0 in
    rewrite ! 0 (λ (ws : List Val). ‵ (O.own_val some ws)) got.1 refl $ keep ! (0 ∷ 3 ∷ []) $
    let v : Val = vstruct (vcons w vnil) in
    let ev : us ≡ v ∷ [] = e ∙ ap (λ (ws : List Val). vstruct (of_list (ws ++ [])) ∷ []) got.1 in
    by ! (subst (λ (ws : List Val × List Val). ent 𝓤 (sep 𝓤 (sem 𝓛 (O.own_val some (w ∷ []))) toks) (WpFn 𝓤 H 𝓣.C 𝓣.Λ fn (ws.0 ++ (ws.1 ++ [])) Post)) (λ j. (sym ev j, sym e1 j)) (qed 𝓛 (‵ (O.own_val some (w ∷ [])) ∷ raw toks ∷ []) ∵
    enter ! 𝓣.C 𝓣.Λ fn (v ∷ token_val ∷ []) Post $ alloc_all ! (λ l. pass_all ! refl ((subst fits ev typed).0, ((tt, (tt, tt)), tt)) $
    sets ! (of_opd ! (get_in ! (fld ! refl (stop !)) (sub ! 0 refl (whole !)))) refl got.2 $ sets ! (of_opd ! (get ! refl)) refl got.2 $
    use0 𝓛 (raw (fact 𝓤 (some ≡ some))) (fact_i 𝓤 (some ≡ some) (emp 𝓤) refl) $ nothing ! $ nothing ! $ fjoin ! $ nothing ! $ fjoin ! $
    returns ! (look_at ! 0 refl) $ free_all ! refl $ keep ! (3 ∷ 0 ∷ 2 ∷ 1 ∷ []) $ by ! (leaves 𝓛 En hs c y w some (tt, (tt, tt)) (tt, (tt, tt))))))))))))
