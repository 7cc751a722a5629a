-- A `&` to a cell is made of a borrow of it: the borrow of its content is shared by one thread at a
-- time. Assumes `Logic`.
use Rattle.std.proofs.Common.{◌≡◌, ℕ, zero, List, [], ◌∷◌, sym, subst}
use seplogic.Ra.Ura.{Ura}
use mir.Syntax.{Ty}
use mir.Val.{Val}
use base.Fraction.{full_share}
use base.Logic.{SProp, ent, sep, wand, ex, all_e, upd_i, apply∗, id⊢}
use base.Fml.{Lft, Share, Fml, ftrue, fsep, fseps, fwand, fupd, fdead, fbor, flft}
use types.Logic.{Logic, sem}
use types.Kit.{‵, raw, ◌⊛◌, some, later, ◌$◌, ◌∵◌, !, qed, by, move, keep, use1, use2, split, fsplit, fsplit3, fjoin, fpick, fpack, pick, show, assume, suffices, await, updating, now, done}
use types.Tokens.{bor_open, obor_alter}
use types.Na.{bor_na}
use denote.RattleType.{RattleType, Denots}
use denote.Laws.{Lawful}
use denote.Memory.{part_of, part_at, cell_at}
use denote.RawPtr.{block_ptr}
use denote.Hidden.{guarded_shr_laws}
use denote.Steps.{nothing}
use denote.Param.{layout}
use denote.Param.Laws.{Laws}
use denote.Struct.Struct.{Struct}
use denote.Struct.Members.{Member, row_of, rows_of, parts_at}
use denote.Struct.Parts.{PartsBack, Struct-parts, shape_of}
use denote.Struct.Lending.{Law}
use Rattle.core.proofs.cell.Borrows.{by_one}
use Rattle.counted_slot.specs.declared.Fits.{Ghosts}
use Rattle.elsa_arena.specs.Kept.{fact, field, content, kept_shares}
use Rattle.elsa_arena.specs.contracts.kept.Kept as C
use Rattle.elsa_arena.proofs.kept.Kept.TheLaw.Statement.{statement}

module _ {M : Type 1} {𝓤 : Ura M} (𝓛 : Logic 𝓤) (m : Member) (G : RattleType) (g : Ghosts m.row.Denot G.Denot) (d : G.Denot) (L : Lawful 𝓛 (row_of m)) (b o : ℕ) (κ : Lft) where
  open 𝓛 use {H, A}

  abbrev Pr : Type 2
  Pr = SProp 𝓤

  abbrev ◌⊢◌ : Pr → Pr → Type 1
  P ⊢ Q = ent 𝓤 P Q

  abbrev ◌∗◌ : Pr → Pr → Pr
  P ∗ Q = sep 𝓤 P Q

  abbrev ◌-∗◌ : Pr → Pr → Pr
  P -∗ Q = wand 𝓤 P Q

  abbrev ⟦◌⟧ : Fml → Pr
  ⟦ P ⟧ = sem 𝓛 P

  infix 26 ◌⊢◌
  infixr 35 ◌∗◌
  infixr 30 ◌-∗◌
  abbrev R : RattleType
  R = row_of m

  abbrev ok : R.Denot → Type 0
  ok = g.fits d

  abbrev ks : List Member
  ks = m ∷ []

  abbrev Data : RattleType
  Data = Struct (shape_of [] ks)

  abbrev P : Fml
  P = part_at (C.the_written R G g) full_share d b o

  abbrev Fields : R.Denot → Fml
  Fields x = part_at Data full_share (x, tt) b o

  abbrev At : R.Denot → Fml
  At x = part_at R full_share x b (field R o)

  apart : ⟦ P ⟧ ⊢ ex 𝓤 (λ (x : R.Denot). ⟦ Fields x ⟧ ∗ ⟦ fact (ok x) ⟧)
  unfolding part_of
  apart = qed 𝓛 (‵ P ∷ []) ∵ fpick ! (λ vs. fsplit ! $ move ! (1 ∷ []) $ fpick ! (λ x. fsplit ! $ move ! (2 ∷ 0 ∷ []) $ fjoin ! $
      fpack ! (List Val) (λ us. fsep (cell_at full_share Data.mir us b o) (Data.own_val (x, tt) us)) vs $ show ! (λ (z : R.Denot). ⟦ Fields z ⟧ ∗ ⟦ fact (ok z) ⟧) x $ done !))

  whole : (x : R.Denot) → ⟦ Fields x ⟧ ∗ ⟦ fact (ok x) ⟧ ⊢ ⟦ P ⟧
  unfolding part_of
  whole x = qed 𝓛 (‵ (Fields x) ∷ ‵ (fact (ok x)) ∷ []) ∵ fpick ! (λ vs. fsplit ! $ move ! (1 ∷ 2 ∷ []) $ fjoin ! $ fpack ! R.Denot (λ z. fsep (Data.own_val (z, tt) vs) (fact (ok z))) x $ move ! (1 ∷ 0 ∷ []) $ fjoin ! $
      fpack ! (List Val) (λ us. fsep (cell_at full_share Data.mir us b o) ((C.the_written R G g).own_val d us)) vs $ done !)

  way_back : PartsBack 𝓛 full_share [] ks b o ⊢ ⟦ fwand (fsep (fdead κ) (fseps (content R ok b o ∷ []))) (fupd P) ⟧
  unfolding fseps
  way_back = qed 𝓛 (raw (PartsBack 𝓛 full_share [] ks b o) ∷ []) ∵ assume ! (‵ (fsep (fdead κ) (fseps (content R ok b o ∷ [])))) $ suffices ! ⟦ P ⟧ (upd_i 𝓤 ⟦ P ⟧) $
      fsplit3 ! $ keep ! (1 ∷ 3 ∷ []) $ fpick ! (λ x. fsplit ! $ nothing ! $ move ! (1 ∷ 0 ∷ []) $ fjoin ! $ move ! (2 ∷ []) $
      use1 𝓛 (raw (⟦ parts_at full_share ks zero (x, tt) b o ⟧ -∗ ⟦ Fields x ⟧)) (all_e 𝓤 (λ (a : Denots (rows_of ks)). ⟦ parts_at full_share ks zero a b o ⟧ -∗ ⟦ part_at Data full_share a b o ⟧) (x, tt)) $
      move ! (1 ∷ 0 ∷ []) $ use2 𝓛 (‵ (Fields x)) (apply∗ 𝓤 ⟦ parts_at full_share ks zero (x, tt) b o ⟧ ⟦ Fields x ⟧) $ by ! (whole x))

  guarded_by : (q : Share) → A.bor κ P ∗ A.lft κ q ⊢ H.⇛ (⟦ kept_shares R ok (block_ptr b o) κ ⟧ ∗ A.lft κ q)
  unfolding fseps
  guarded_by q = qed 𝓛 (‵ (fbor κ P) ∷ ‵ (flft κ q) ∷ []) ∵ updating ! $ bor_open ! tt $ move ! (1 ∷ []) $ use1 𝓛 (some (λ (x : R.Denot). ‵ (Fields x) ⊛ ‵ (fact (ok x)))) apart $ pick ! (λ x. split ! $
      use1 𝓛 ((‵ (At x) ⊛ ‵ ftrue) ⊛ raw (PartsBack 𝓛 full_share [] ks b o)) (Struct-parts 𝓛 full_share [] ks (L, tt) (x, tt) b o) $ split ! $ split ! $
      move ! (0 ∷ 3 ∷ []) $ fjoin ! $ fpack ! R.Denot (λ y. fsep (At y) (fact (ok y))) x $ nothing ! $ move ! (1 ∷ 0 ∷ []) $ fjoin ! $ move ! (2 ∷ []) $
      use1 𝓛 (‵ (fwand (fsep (fdead κ) (fseps (content R ok b o ∷ []))) (fupd P))) way_back $ move ! (3 ∷ 1 ∷ 0 ∷ []) $ obor_alter ! tt (content R ok b o ∷ []) $
      use1 𝓛 (‵ (fbor κ (content R ok b o)) ⊛ ‵ ftrue) (id⊢ 𝓤 _) $ split ! $
      use1 𝓛 (later (‵ (kept_shares R ok (block_ptr b o) κ))) (bor_na 𝓛 κ (b, o) (content R ok b o)) $ await ! tt $ now ! $ keep ! (0 ∷ 2 ∷ []) $ done !)

pub shares : (T G : RattleType) (g : Ghosts T.Denot G.Denot) (L : Laws T) (K : Laws G) → statement T G g L K
shares T G g L K = let m : Member = record { row = T; ty = layout T } in
    let same : T ≡ row_of m = λ i. record { Denot = T.Denot; mir = L.one i; written = T.written; reaches = T.reaches; lives = T.lives; own_val = T.own_val; exit = T.exit; coded = T.coded; shr_at = T.shr_at } in
    subst (λ (τ : List Ty). Law (C.the_written (record T { mir = τ }) G g)) (sym L.one) (record {
      shr_laws = λ d b o. guarded_shr_laws (b, o) (content (row_of m) (g.fits d) b o);
      shares = λ M 𝓤 𝓛 d κ ts b o inc sp. by_one 𝓛 κ ts sp (𝓛.A.bor κ (part_at (C.the_written (row_of m) G g) full_share d b o)) (sem 𝓛 (kept_shares (row_of m) (g.fits d) (block_ptr b o) κ))
          (guarded_by 𝓛 m G g d (subst (Lawful 𝓛) same (L.lawful 𝓛)) b o κ);
    })
