-- `take` moves the item out, given the evidence. Its memory is then a free slot under a new name.
-- Assumes `Logic`.
use Rattle.elsa_slots.proofs.ByHand.{◌*◌, ◌<◌, ◌^◌, Fml, ftrue, fsep, fat, flft, froom, full_share, ent, SProp, never, emp, id⊢, fact, fact_i, tables, usize, yes, no, layout, RattleType, owns, Ptr, in_a_block, types_at, plain, nothing, heard, opens, closes, Stays, stay_dropped, stay_ref, walk_of, Goes-dropped, Goes-ref, length, get_or, sym, subst, ◌∙◌, inst_fn, w64, Val, vptr, vint, arith, WpFn, alloc_all, pass_all, free_all, look_at, get, get_in, take_at, give_at, through, sets, sets_last, env, ‵, raw, ◌⊛◌, some, given, learn, ◌$◌, ◌∵◌, !, qed, fpack, Item, ⋆, at_ret, by, move, keep, use0, use1, use2, split, join, fsplit, fjoin, fjoin3, feq_i, pick, rewrite, feq_l, flt_l, fsplit3, whole, sub, stop, fld, bin, size_lit, of_opd, first, blocks, exec, returns, enter, leaves, proved_at, word_had, Good, El, R, args, elτ, times_below, one_below, word, word-Good, after}
use mathlib.Core.Path.{◌≡◌, refl}
use Prim.Native.Nat.{ℕ, suc, ◌+◌}
use mathlib.Core.List.{List, [], ◌∷◌, ◌++◌}
use lib.ListN.{set, length-set}
use base.Stored.{gnil}
use base.Fml.{fobs, fbor}
use types.SemTy.{Body as Borrowed}
use denote.Memory.{mem, part_at}
use types.Kit.{flt_i}
use types.Run.{look, load}
use types.Tokens.{name_new}
use Rattle.std.specs.Prelude.{None}
use Rattle.core.proofs.mem.Param.{el_x}
use Rattle.circular_buffer.proofs.Memory.{value_out}
use Rattle.elsa_slots.specs.Slot.{Rest, free, written, resting, at_rest, untagged, slots, cells_own}
use Rattle.elsa_slots.specs.contracts.slots.rights.Written as Written
use Rattle.elsa_slots.proofs.SlotLemmas.Tokens.{token_val, written_value}
use Rattle.elsa_slots.proofs.SlotLemmas.Memory.{Cr, Bs, sz}
use Rattle.elsa_slots.proofs.SlotLemmas.Taken.{Others, ends, one_out, one_in, later_kept}
use Rattle.elsa_slots.specs.contracts.slots.cells.Cells.take as F
use Rattle.elsa_slots.specs.contracts.slots.cells.Cells.take.Key.{name as #self}
use Rattle.elsa_slots.proofs.slots.cells.Cells.take.Statement.{statement}
use Rattle.elsa_slots.proofs.slots.cells.Cells.take.Code as code

-- The evidence shows what the slot contains, and the owner of the slots moves it out.
pub take_spec : {M : Type 1} → statement M
take_spec 𝓤 𝓛 𝓜 𝓡 wired T L =
    let E : El = record { row = T; laws = L } in let H = 𝓛.H in let 𝓣 = tables 𝓤 H 𝓜 𝓡 𝓡.env in let En = F.ended T in
    let fn = inst_fn (args E) code.function in let c = F.clauses T 𝓛 𝓜.mem 𝓡.returns in let S : RattleType = Written.the_row (R E) in let C : RattleType = Cr E in
    let base_slot = plain (λ _. Bs E) in let index_slot = plain (λ _. usize) in let token_slot = plain (λ _. S) in
    let hs : Stays En.signature.params En.kept = (stay_ref (0 ∷ []) tt (plain (λ _. C)), (stay_dropped base_slot no, (stay_dropped index_slot yes, (stay_dropped token_slot no, tt)))) in
    proved_at 𝓛 En hs c 𝓜 𝓡 (Goes-ref 𝓛 2 0 tt (plain (λ _. C)), (Goes-dropped 𝓛 2 base_slot no (λ κs x f. refl), (Goes-dropped 𝓛 2 index_slot yes (λ κs x f. refl), (Goes-dropped 𝓛 2 token_slot no (λ κs x f. refl), tt))))
    (#self (args E)) fn (code.unfolded 𝓤 H 𝓜 𝓡 wired (T, tt))
    (λ y are. let κs = y.0.0 in let qs = y.0.1 in let a = y.0.3 in let vss = y.0.4 in
    let rb : ℕ = a.0.ref_ptr.0 in let ro : ℕ = a.0.ref_ptr.1 in let d : C.Denot = a.0.now in let base = a.1.0 in let index : ℕ = a.1.1.0 in let tok : S.Denot = a.1.1.1.0 in let x : T.Denot = tok.value in
    let γ : ℕ = get_or d.names index 0 in let e3 = written_value (R E) vss.1.1.1.0 are.1.1.1.0.0 in
    let Post : Val → SProp 𝓤 = (walk_of 𝓛 En hs c).post y in let others : Fml = fsep (flft κs.1.0 qs.1.0) ftrue in
    let Asks : Type 0 = (base.ptr ≡ d.at) × (index < length d.names) × (tok.of ≡ γ) in
    let Had : List (Item 𝓤) = ‵ (fobs a.0.ghost_name (C.coded.code d)) ∷ ‵ (fbor κs.0 (Borrowed (mem C) rb ro a.0.ghost_name)) ∷ ‵ (flft κs.0 qs.0) ∷ ‵ (written (R E) tok.of x) ∷ ‵ others ∷ [] in
    qed 𝓛 (((‵ (flft κs.0 qs.0) ⊛ ‵ others) ⊛ ‵ (owns (types_at En.signature.params κs) a vss)) ∷ raw (fact 𝓤 _) ∷ raw (fact 𝓤 Asks) ∷ []) ∵
    keep ! (2 ∷ 0 ∷ []) $ heard ! Asks (λ asked. split ! $ split ! $ move ! (2 ∷ []) $ fsplit ! $ fsplit3 ! $ feq_l ! (λ e0. move ! (2 ∷ []) $ fsplit ! $ word_had ! base.ptr vss.1.0 (λ e1.
    fsplit ! $ fsplit ! $ feq_l ! (λ e2. flt_l ! (λ fits. fsplit ! $ fsplit ! $ keep ! (3 ∷ 4 ∷ 5 ∷ 1 ∷ 6 ∷ []) $
    by ! (subst (λ (ws : List Val × List Val × List Val × List Val). ent 𝓤 (⋆ 𝓛 Had) (WpFn 𝓤 H 𝓣.C 𝓣.Λ fn (ws.0 ++ (ws.1 ++ (ws.2 ++ (ws.3 ++ [])))) Post)) (λ j. (sym e0 j, sym e1 j, sym e2 j, sym e3 j)) (
    qed 𝓛 Had ∵ enter ! 𝓣.C 𝓣.Λ fn (vptr rb ro ∷ word base.ptr ∷ vint w64 index ∷ token_val ∷ []) Post $
    alloc_all ! (λ l. pass_all ! refl ((tt, tt), (word-Good [] base.ptr, ((tt, record { fits = fits }), ((tt, (tt, tt)), tt)))) $ let Ev = env fn.locals l in
    opens ! tt C {h = d} rb ro (λ vs. move ! (1 ∷ []) $ fsplit ! $ move ! (1 ∷ []) $
    in_a_block ! d.at (λ (z : Ptr). cells_own (R E) z d.names) (id⊢ 𝓤 (never 𝓤)) (λ b o e. fsplit ! $ flt_l ! (λ small.
    let s = sz E in let tiny : s < 2 ^ 64 = omega (arith, one_below (length d.names) s (2 ^ 63) (omega arith) small) in
    let far : index * s < 2 ^ 64 = omega (arith, times_below index (length d.names) s (2 ^ 63) (omega arith) small) in let at : ℕ = index * s + o in
    take_at ! 2 $ rewrite ! 0 (λ (z : Ptr). ‵ (fat full_share (layout (Bs E)) (l 2) 0 (word z))) (asked.0 ∙ e) refl $ give_at ! 2 $ first ! $ blocks ! $
    sets ! (bin ! (get ! refl) (size_lit ! (record { fits = tiny })) (record { fits = far })) refl (tt, record { fits = far }) $
    sets ! (bin ! (get_in ! (fld ! refl (stop !)) (sub ! 0 refl (whole !))) (get ! refl) tt) refl (tt, tt) $
    -- [the slots; the field; the open borrow's four; the evidence; the others]
    use1 𝓛 (‵ (at_rest (R E) (untagged (R E) b at) γ) ⊛ ‵ (Others 𝓛 (R E) b d.names index o)) (one_out 𝓛 (R E) b d.names index o at asked.1 refl) $ split ! $
    rewrite ! 7 (λ (k : ℕ). ‵ (written (R E) k x)) asked.2 refl $ move ! (0 ∷ 7 ∷ []) $
    use2 𝓛 (‵ (part_at (R E) full_share x b at)) (ends 𝓛 (R E) (untagged (R E) b at) γ x) $
    use1 𝓛 (some (λ (v : Val). given (Good (elτ E) v) (‵ (fat full_share (elτ E) b at v) ⊛ ‵ (E.row.own_val x (v ∷ []))))) (value_out 0 E.row E.laws 𝓛 x b at) $
    pick ! (λ v. learn ! (λ good. split ! $ sets_last ! (of_opd ! (load ! (through ! refl (stop !)) (look ! 0 refl))) refl good $
    exec ! 𝓣.C 𝓣.Λ Ev (after 1 fn.body) (at_ret Ev Post) $ sets ! (of_opd ! (get ! refl)) refl good $
    use1 𝓛 (‵ (froom (elτ E) b at)) (𝓛.laws.at_room (elτ E) b at v) $ use1 𝓛 (‵ (untagged (R E) b at None)) (𝓛.laws.room-raw (elτ E) b at) $
    name_new ! tt gnil (λ δ. let names : List ℕ = set d.names index δ in let new : C.Denot = record { mark = d.mark; at = d.at; names = names } in
    -- [the new right; the new name; the room; the item; the other slots; the field; the open
    -- borrow's four; the others]
    move ! (1 ∷ []) $ nothing ! $ fpack ! (Unit {0}) (λ _. ftrue) tt $ move ! (1 ∷ 0 ∷ []) $ fjoin ! $ move ! (2 ∷ 0 ∷ []) $ fjoin ! $
    fpack ! (Rest (el_x E)) (λ z. fsep (untagged (R E) b at z.0) (resting (R E) δ z)) (None, free) $ move ! (0 ∷ 3 ∷ []) $
    use2 𝓛 (‵ (slots (R E) b o names)) (one_in 𝓛 (R E) b d.names index o at δ asked.1 refl) $
    flt_i ! (length names * s) (2 ^ 63) (subst (λ k. k * s < 2 ^ 63) (sym (length-set d.names index δ)) small) $ fjoin ! $
    rewrite ! 0 (λ (z : Ptr). ‵ (cells_own (R E) z names)) (sym e) refl $ move ! (3 ∷ 0 ∷ []) $ fjoin ! $ move ! (3 ∷ 0 ∷ 4 ∷ 5 ∷ 6 ∷ []) $ closes ! tt C new vs rb ro $
    feq_i ! (List Val) vss.0 (vptr rb ro ∷ []) e0 $ fjoin3 ! $ nothing ! $ nothing ! $ fjoin ! $ nothing ! $ fjoin ! $ nothing ! $ fjoin ! $ move ! (1 ∷ 0 ∷ []) $ fjoin ! $ move ! (1 ∷ 4 ∷ []) $ join ! $
    let Told : Type 0 = (x ≡ x) × (d.at ≡ d.at) × (length names ≡ length d.names) × (lib.ListN.drop (suc index) names ≡ lib.ListN.drop (suc index) d.names) in
    use0 𝓛 (raw (fact 𝓤 Told)) (fact_i 𝓤 Told (emp 𝓤) (refl, refl, length-set d.names index δ, later_kept d.names index δ)) $
    returns ! (look_at ! 0 refl) $ free_all ! refl $ keep ! (1 ∷ 2 ∷ 4 ∷ 0 ∷ []) $ by ! (leaves 𝓛 En hs c y v x (new, (tt, (tt, (tt, tt)))) (tt, (tt, (tt, (tt, tt))))))))))))))))))))
