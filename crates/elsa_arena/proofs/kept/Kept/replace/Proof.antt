use Rattle.elsa_slots.proofs.ByHand.{Lft, Fml, ftrue, fsep, fex, Share, flft, full_share, SProp, ent, sep, wand, emp, id⊢, apply∗, fact, fact_i, tables_of, RefOf, yes, no, Is, shows, cell_at, param, bounded, RattleType, owns, types_at, plain, nothing, heard, peeks, Clauses, Ended, closing, on_entry, Meets, triple_of, entered, Stays, stay_dropped, walk_of, Goes-dropped, walk_Meets, inst_fn, a_type, dcons, dnil, Val, vptr, WpFn, Env, Calls, Loops, Tables, Ura, WpFn-mono, alloc_all, pass_all, free_all, look_at, get, through, sets, sets_last, env, Logic, sem, ‵, raw, ◌⊛◌, later, at_ret, ◌$◌, ◌∵◌, !, qed, fpick, fpack, by, move, keep, drop, use0, use1, use2, use3, split, join, fsplit, fjoin, await, rewrite, split3, fsplit3, stop, fld, addr, of_opd, first, blocks, exec, returns, enter, assigns, leaves, after, ℕ, List, [], ◌∷◌, ◌++◌, refl}
use Rattle.std.proofs.Common.{subst}
use mir.Syntax.{Fn, Callee}
use base.Logic.{via, fst∗, snd∗}
use base.Fml.{ftok, Incl-refl}
use base.Mask.{every, less}
use prog.Model.{Model}
use prog.Routine.{over, ◌≼⁺◌}
use contract.Beside.{Carries}
use contract.Monad.{fact_use}
use contract.Named.{bare_unfolds}
use contract.Running.{Running, bare_tables}
use types.Kit.{prop, regoal}
use types.Na.{na_acc_in}
use types.Run.{load, look_raw, store_raw}
use denote.Hidden.{guarded}
use denote.Laws.{Ises, Are, owns_show, showss}
use denote.Memory.{part_of, part_at}
use denote.Signature.{Signature}
use denote.Triple.Entry.{alive}
use denote.Triple.Handed.{holding, hands}
use denote.Triple.Walked.{AllGo}
use Rattle.core.proofs.mem.Param.{El, lawful, Good, one}
use Rattle.elsa_arena.specs.Kept.{field, content}
use Rattle.elsa_arena.specs.contracts.kept.Kept as cell
use Rattle.elsa_arena.specs.contracts.kept.Kept.replace.{ended, clauses}
use Rattle.elsa_arena.specs.contracts.kept.Kept.replace.Key.{name as #self}
use Rattle.elsa_arena.proofs.kept.Kept.replace.Statement.{statement}
use Rattle.elsa_arena.proofs.kept.Kept.replace.Code as compiled
use Rattle.elsa_arena.proofs.kept.Kept.replace.Code.{code}

-- A walk that has the token of its thread.
module _ {M : Type 1} {𝓤 : Ura M} (𝓛 : Logic 𝓤) (T : Ended) (hs : Stays T.signature.params T.kept) (c : Clauses 𝓤 T) where
  open 𝓛 use {H, A}

  abbrev S : Signature
  S = T.signature

  abbrev with_token : Clauses 𝓤 T
  with_token = holding 𝓤 T (A.tok every) c

  proved_with_token : (𝓜 : Model 𝓤 H) (𝓡 : Running 𝓤 H 𝓜) → AllGo 𝓛 S.lifetimes S.params T.kept hs → (k : Callee) (e : Fn) → over 𝓡.env e ≼⁺ 𝓡.env k
      → ((C : Calls 𝓤 H) (Λ : Loops 𝓤 H) (y : (walk_of 𝓛 T hs with_token).Ghost) → Are (types_at S.params y.0.0) (Ises (types_at S.params y.0.0)) y.0.3 y.0.4
      → ent 𝓤 ((walk_of 𝓛 T hs with_token).pre y) (WpFn 𝓤 H C Λ e ((walk_of 𝓛 T hs with_token).args y) ((walk_of 𝓛 T hs with_token).post y)))
      → Meets 𝓛 S (𝓡.run (𝓡.env k)) (closing 𝓛 T c)
  unfolding tables_of
  proved_with_token 𝓜 𝓡 go k e is walk =
      let 𝓒 : Carries 𝓤 H 𝓜 (A.tok every) = subst (Carries 𝓤 H 𝓜) 𝓛.turn_is 𝓡.carries in
      let 𝓣 : Tables 𝓤 H = tables_of 𝓤 H 𝓒.inner (bare_tables 𝓤 H 𝓒.inner 𝓡.allowed 𝓡.how 𝓡.env) in
      hands 𝓛 T (A.tok every) c 𝓜 𝓒 𝓡 (𝓡.env k)
      (entered 𝓤 H (triple_of 𝓛 S (closing 𝓛 T with_token)) 𝓣.C 𝓣.Λ k e (bare_unfolds 𝓤 H 𝓒.inner 𝓡.allowed 𝓡.how 𝓡.env k e is)
      (walk_Meets 𝓛 T hs go with_token (WpFn 𝓤 H 𝓣.C 𝓣.Λ e) (WpFn-mono 𝓤 H 𝓛.laws 𝓣 e) (λ y. let Rs = types_at S.params y.0.0 in let a = y.0.3 in let vss = y.0.4 in
      fact_use 𝓤 (Are Rs (Ises Rs) a vss) (via 𝓤 (sem 𝓛 (owns Rs a vss)) (via 𝓤 (on_entry 𝓛 S y.0.0 y.0.1 a vss) (fst∗ 𝓤 (on_entry 𝓛 S y.0.0 y.0.1 a vss) ((with_token y.0.0 a).requires y.1))
      (snd∗ 𝓤 (alive 𝓛 S y.0.0 y.0.1) (sem 𝓛 (owns Rs a vss)))) (owns_show 𝓛 Rs (Ises Rs) (showss 𝓛 Rs) a vss)) (walk 𝓣.C 𝓣.Λ y))))

-- The thread's token opens the cell. The value is exchanged, and the cell is closed with the other.
pub replace_spec : {M : Type 1} → statement M
unfolding code part_of
replace_spec 𝓤 𝓛 𝓜 𝓡 wired X Y L _ g d _ =
    let H = 𝓛.H in let A = 𝓛.A in let R : RattleType = param 0 X in let G : RattleType = param 1 Y in let En = ended X Y g d in let c₀ = clauses X Y g d 𝓛 𝓜.mem 𝓡.returns in let E : El = record { row = X; laws = L } in
    let inst = bounded (a_type ∷ a_type ∷ []) (X, (Y, tt)) (dcons d dnil) in let fn : Fn = inst_fn inst compiled.function in let Row : RattleType = cell.the_row R G g in
    let self = RefOf (0 ∷ []) tt (plain (λ _. Row)) (λ _. tt) in let item = plain (λ _. R) in let hs : Stays En.signature.params En.kept = (stay_dropped self yes, (stay_dropped item no, tt)) in
    let c = with_token 𝓛 En hs c₀ in
    proved_with_token 𝓛 En hs c₀ 𝓜 𝓡 (Goes-dropped 𝓛 3 self yes (λ κs x f. refl), (Goes-dropped 𝓛 3 item no (λ κs x f. refl), tt)) (#self inst) fn (wired.0.0 (#self inst) refl) (λ C Λ z are.
    let Post : Val → SProp 𝓤 = (walk_of 𝓛 En hs c).post z in let κs = z.0.0 in let qs = z.0.1 in let a = z.0.3 in let vss = z.0.4 in let κ : Lft = κs.0 in let q : Share = qs.0 in let τ : Lft = κs.1.0 in let r : Share = qs.1.0 in
    let rest : Fml = fsep (flft κs.1.1.0 qs.1.1.0) ftrue in let b : ℕ = a.0.ref_ptr.0 in let o : ℕ = a.0.ref_ptr.1 in let tag : Y.Denot = a.0.now in let ok = g.fits tag in let x : X.Denot = a.1.0 in
    let got = one E vss.1.0 ((lawful E 𝓛).typed x vss.1.0 are.1.0) in let vy : Val = got.0 in let fy : Good E vy = got.2 in
    let e : ℕ = field R o in let In : Fml = content R ok b o in let Left : Fml = ftok (less every (b, o)) in let Held : SProp 𝓤 = sep 𝓤 (sem 𝓛 In) (sem 𝓛 Left) in let Both : SProp 𝓤 = sep 𝓤 (A.lft κ q) (A.tok every) in
    qed 𝓛 (((‵ (flft κ q) ⊛ ‵ (flft τ r) ⊛ ‵ rest) ⊛ ‵ (owns (types_at En.signature.params κs) a vss)) ∷ ‵ (ftok every) ∷ raw (fact 𝓤 _) ∷ raw (fact 𝓤 _) ∷ raw (fact 𝓤 (ok x)) ∷ []) ∵
    keep ! (4 ∷ 1 ∷ 0 ∷ []) $ heard ! (ok x) (λ asked. move ! (1 ∷ []) $ split ! $ split3 ! $ move ! (3 ∷ []) $ fsplit3 ! $ fsplit ! $
    rewrite ! 2 (λ (us : List Val). ‵ (R.own_val x us)) got.1 refl $ keep ! (1 ∷ 4 ∷ 7 ∷ 2 ∷ 5 ∷ 6 ∷ []) $ use1 𝓛 (‵ (guarded (b, o) In κ)) (id⊢ 𝓤 _) $
    regoal ! (λ (us : List Val). prop (WpFn 𝓤 H C Λ fn us Post)) (λ i. are.0.0 i ++ (got.1 i ++ [])) refl $
    enter ! C Λ fn (vptr b o ∷ vy ∷ []) Post $ alloc_all ! (λ l. pass_all ! refl ((tt, tt), (fy, tt)) $ let Ev : Env 𝓤 H = env fn.locals l in
    use3 𝓛 (later (‵ In ⊛ ‵ Left ⊛ raw (wand 𝓤 Held (H.⇛ Both)))) (na_acc_in 𝓛 κ ((κ, q) ∷ []) every (b, o) In (Incl-refl κ) refl) $ await ! tt $ split3 ! $
    fpick ! (λ old. fsplit ! $ move ! (1 ∷ []) $ fpick ! (λ fit. drop ! $ fpick ! (λ vs. fsplit ! $ move ! (1 ∷ []) $ peeks ! R (Is R) (shows 𝓛 R) old vs (λ is_so.
    let was = one E vs ((lawful E 𝓛).typed old vs is_so) in let vo : Val = was.0 in let fo : Good E vo = was.2 in
    rewrite ! 0 (λ (ws : List Val). ‵ (R.own_val old ws)) was.1 refl $ rewrite ! 1 (λ (ws : List Val). ‵ (cell_at full_share R.mir ws b e)) was.1 refl $ move ! (1 ∷ []) $
    -- [the memory; the old value; the rest of the thread's token; the way back; the new value; X's
    -- token; the other]
    sets ! (addr ! (through ! refl (fld ! refl (stop !)))) refl (tt, tt) $ first ! $ blocks ! $
    sets ! (of_opd ! (load ! (through ! refl (stop !)) (look_raw ! 0 refl))) refl fo $ sets ! (of_opd ! (get ! refl)) refl fy $
    assigns ! (of_opd ! (get ! refl)) (through ! refl (stop !)) (store_raw ! 0 refl fy) $ sets_last ! (of_opd ! (get ! refl)) refl fo $
    exec ! C Λ Ev (after 2 fn.body) (at_ret Ev Post) $ sets ! (of_opd ! (get ! refl)) refl fo $
    move ! (0 ∷ 4 ∷ []) $ fjoin ! $ fpack ! (List Val) (λ us. fsep (cell_at full_share R.mir us b e) (R.own_val x us)) (vy ∷ []) $ nothing ! $ fpack ! (ok x) (λ _. ftrue) asked $ move ! (1 ∷ 0 ∷ []) $ fjoin ! $
    fpack ! X.Denot (λ w. fsep (part_at R full_share w b e) (fex (ok w) (λ _. ftrue))) x $ move ! (0 ∷ 2 ∷ []) $ join ! $ move ! (0 ∷ 2 ∷ []) $
    use2 𝓛 (later (‵ (flft κ q) ⊛ ‵ (ftok every))) (apply∗ 𝓤 Held (H.⇛ Both)) $ await ! tt $ split ! $
    -- [the token of the borrow; the thread's; the old value; X's token; the other]
    returns ! (look_at ! 0 refl) $ free_all ! refl $
    use0 𝓛 (raw (fact 𝓤 (ok old))) (fact_i 𝓤 (ok old) (emp 𝓤) fit) $ move ! (2 ∷ 0 ∷ []) $ join ! $ nothing ! $ nothing ! $ fjoin ! $ nothing ! $ fjoin ! $
    move ! (4 ∷ 5 ∷ []) $ join ! $ move ! (3 ∷ 0 ∷ []) $ join ! $ move ! (0 ∷ 1 ∷ 3 ∷ []) $ by ! (leaves 𝓛 En hs c z vo old (tt, (tt, tt)) (tt, (tt, tt))))))))))
