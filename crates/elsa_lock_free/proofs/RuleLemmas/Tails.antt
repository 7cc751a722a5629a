-- The rights to append, as the rule owns them and as a holder has them. Assumes `Logic`.
use Rattle.std.proofs.Common.{◌≡◌, ℕ, suc, ◌+◌, ◌*◌, ◌^◌, ◌<◌, List, [], ◌∷◌, length, drop as drops, slice_index_or, subst, arith}
use native.Mathlib.Decide.{dec_lt}
use seplogic.Ra.Ura.{Ura}
use base.Logic.{SProp, ent, sep, id⊢}
use base.Fml.{Fml, ftrue, fsep, fex}
use types.Logic.{Logic, sem}
use types.Kit.{‵, ◌$◌, ◌∵◌, !, qed, by, move, keep, drop, fsplit, fsplit3, fjoin, fjoin3, fpick, fpack, done, use1}
use types.Tokens.{res_dup}
use denote.Steps.{nothing}
use denote.RattleType.{RattleType}
use Rattle.elsa_slots.specs.Slot.{written, write_rights}
use Rattle.elsa_slots.specs.Geometry.{IsAt}
use Rattle.elsa_slots.proofs.GeometryLemmas.OneToOne.{one_slot}
use Rattle.elsa_slots.proofs.GeometryLemmas.Powers.{four_suc, four_pos}
use Rattle.elsa_lock_free.specs.Rights.{fact, Location, Tail, at_new_buffer, in_buffer, index_written_at, index_written, IsTailAt, tail_rights, tail_owns, rights_from}

starts : (n b : ℕ) → n + 1 ≡ 4 ^ b → IsAt n b 0
starts n b e = let p = four_pos b in record { begins = omega arith; within = omega arith }

module _ {M : Type 1} {𝓤 : Ura M} (𝓛 : Logic 𝓤) (T B : RattleType) (slot_names : B.Denot → List ℕ) (fits : B.Denot → T.Denot → Type 0) (buffer_slots : List ℕ) where
  abbrev Pr : Type 2
  Pr = SProp 𝓤

  abbrev ◌⊢◌ : Pr → Pr → Type 1
  P ⊢ Q = ent 𝓤 P Q

  abbrev ◌∗◌ : Pr → Pr → Pr
  P ∗ Q = sep 𝓤 P Q

  abbrev ⟦◌⟧ : Fml → Pr
  ⟦ P ⟧ = sem 𝓛 P

  infix 26 ◌⊢◌
  infixr 35 ◌∗◌
  abbrev Rights : ℕ → Fml
  Rights n = rights_from T B slot_names fits buffer_slots n

  abbrev Buffer : ℕ → B.Denot → Fml
  Buffer b opened = written B (slice_index_or buffer_slots b 0) opened

  pub rights_of_closed : (n b : ℕ) → n + 1 ≡ 4 ^ b → ⟦ write_rights (drops b buffer_slots) ⟧ ⊢ ⟦ Rights n ⟧
  rights_of_closed n b e = let r : Tail B.Denot = at_new_buffer b in let F : Tail B.Denot → Fml = tail_owns T B slot_names fits buffer_slots n in let Φ : Type 0 = IsTailAt T B slot_names fits n r in
      qed 𝓛 (‵ (write_rights (drops b buffer_slots)) ∷ []) ∵ nothing ! $ fpack ! Φ (λ _. ftrue) e $ fjoin ! $ fpack ! (Tail B.Denot) F r $ done !

  closed_at : (n b : ℕ) → n + 1 ≡ 4 ^ b → (r : Tail B.Denot) → IsTailAt T B slot_names fits n r → ⟦ tail_rights T B slot_names fits buffer_slots r ⟧ ⊢ ⟦ write_rights (drops b buffer_slots) ⟧
  closed_at n b e (at_new_buffer c) f = let at = starts n b e in let to = starts n c f in subst (λ (k : ℕ). ⟦ write_rights (drops c buffer_slots) ⟧ ⊢ ⟦ write_rights (drops k buffer_slots) ⟧) (one_slot n c 0 b 0 to at).0 (id⊢ 𝓤 ⟦ write_rights (drops c buffer_slots) ⟧)
  closed_at n b e (in_buffer c j opened) f = let same = (one_slot n b 0 c j (starts n b e) f.0).1 in absurd (let pos : 0 < j = f.1 in omega (arith, same, pos))

  pub rights_of_open : (n b j : ℕ) (opened : B.Denot) → IsAt n b j → 0 < j → length (slot_names opened) ≡ 3 * 4 ^ b → ⟦ fsep (Buffer b opened) (fsep (write_rights (drops j (slot_names opened))) (write_rights (drops (suc b) buffer_slots))) ⟧ ⊢ ⟦ Rights n ⟧
  rights_of_open n b j opened at pos len = let r : Tail B.Denot = in_buffer b j opened in let F : Tail B.Denot → Fml = tail_owns T B slot_names fits buffer_slots n in let Φ : Type 0 = IsTailAt T B slot_names fits n r in
      qed 𝓛 (‵ (fsep (Buffer b opened) (fsep (write_rights (drops j (slot_names opened))) (write_rights (drops (suc b) buffer_slots)))) ∷ []) ∵ nothing ! $ fpack ! Φ (λ _. ftrue) (at, pos, len) $ fjoin ! $ fpack ! (Tail B.Denot) F r $ done !

  pub closed_of_rights : (n b : ℕ) → n + 1 ≡ 4 ^ b → ⟦ Rights n ⟧ ⊢ ⟦ write_rights (drops b buffer_slots) ⟧
  closed_of_rights n b e = qed 𝓛 (‵ (Rights n) ∷ []) ∵ fpick ! (λ r. fsplit ! $ fpick ! (λ f. drop ! $ by ! (closed_at n b e r f)))

  -- the open buffer b: its evidence, the rights to its slots from j on, and those to the further buffers
  abbrev pub Open : ℕ → ℕ → B.Denot → Fml
  Open b j opened = fsep (fact (length (slot_names opened) ≡ 3 * 4 ^ b)) (fsep (Buffer b opened) (fsep (write_rights (drops j (slot_names opened))) (write_rights (drops (suc b) buffer_slots))))

  open_at : (n b j : ℕ) → IsAt n b j → 0 < j → (r : Tail B.Denot) → IsTailAt T B slot_names fits n r → ⟦ tail_rights T B slot_names fits buffer_slots r ⟧ ⊢ ⟦ fex B.Denot (Open b j) ⟧
  open_at n b j at pos (at_new_buffer c) f = let same = (one_slot n b j c 0 at (starts n c f)).1 in absurd (omega (arith, same, pos))
  open_at n b j at pos (in_buffer c k opened) f =
      let same = one_slot n c k b j f.0 at in
      let P : ℕ → ℕ → Type 1 = λ x y. ⟦ tail_rights T B slot_names fits buffer_slots (in_buffer c k opened) ⟧ ⊢ ⟦ fex B.Denot (Open x y) ⟧ in
      let go : P c k = qed 𝓛 (‵ (tail_rights T B slot_names fits buffer_slots (in_buffer c k opened)) ∷ []) ∵ nothing ! $ fpack ! (length (slot_names opened) ≡ 3 * 4 ^ c) (λ _. ftrue) f.2 $ fjoin ! $ fpack ! B.Denot (Open c k) opened $ done ! in
      subst (λ (y : ℕ). P b y) same.1 (subst (λ (x : ℕ). P x k) same.0 go)

  pub open_of_rights : (n b j : ℕ) → IsAt n b j → 0 < j → ⟦ Rights n ⟧ ⊢ ⟦ fex B.Denot (Open b j) ⟧
  open_of_rights n b j at pos = qed 𝓛 (‵ (Rights n) ∷ []) ∵ fpick ! (λ r. fsplit ! $ fpick ! (λ f. drop ! $ by ! (open_at n b j at pos r f)))

  module _ (n b j : ℕ) (opened : B.Denot) (x : T.Denot) (at : IsAt n b j) (len : length (slot_names opened) ≡ 3 * 4 ^ b) (fit : fits opened x) where
    abbrev Left : Fml
    Left = fsep (Buffer b opened) (fsep (write_rights (drops (suc j) (slot_names opened))) (write_rights (drops (suc b) buffer_slots)))

    further : Dec (suc j < 3 * 4 ^ b) → ⟦ Left ⟧ ⊢ ⟦ Rights (suc n) ⟧
    further (yes more) = let r : Tail B.Denot = in_buffer b (suc j) opened in let F : Tail B.Denot → Fml = tail_owns T B slot_names fits buffer_slots (suc n) in let Φ : Type 0 = IsTailAt T B slot_names fits (suc n) r in
        let next : IsAt (suc n) b (suc j) = record { begins = let h = at.begins in omega arith; within = more } in
        qed 𝓛 (‵ Left ∷ []) ∵ nothing ! $ fpack ! Φ (λ _. ftrue) (next, (let z : 0 < suc j = omega arith in z), len) $ fjoin ! $ fpack ! (Tail B.Denot) F r $ done !
    further (no full) = let h = at.begins in let w = at.within in let q = four_suc b in
        qed 𝓛 (‵ Left ∷ []) ∵ fsplit3 ! $ keep ! (2 ∷ []) $ by ! (rights_of_closed (suc n) (suc b) (let z : suc n + 1 ≡ 4 ^ suc b = omega arith in z))

    -- what a holder has once it has written index n
    abbrev pub Had : Fml
    Had = fsep Left (written T (slice_index_or (slot_names opened) j 0) x)

    pub rights_after_write : ⟦ Had ⟧ ⊢ ⟦ fsep (Rights (suc n)) (index_written T B slot_names fits buffer_slots n x) ⟧
    rights_after_write = let Φ : Type 0 = IsAt n b j × (length (slot_names opened) ≡ 3 * 4 ^ b) × fits opened x in let w : Location B.Denot = record { buffer = b; slot = j; opened = opened } in let F : Location B.Denot → Fml = index_written_at T B slot_names fits buffer_slots n x in
        qed 𝓛 (‵ Had ∷ []) ∵ fsplit ! $ fsplit3 ! $ res_dup ! $ move ! (0 ∷ 2 ∷ 3 ∷ []) $ fjoin3 ! $ use1 𝓛 (‵ (Rights (suc n))) (further (dec_lt (suc j) (3 * 4 ^ b))) $ move ! (1 ∷ 2 ∷ []) $ fjoin ! $
        nothing ! $ fpack ! Φ (λ _. ftrue) (at, len, fit) $ fjoin ! $ fpack ! (Location B.Denot) F w $ move ! (1 ∷ 0 ∷ []) $ fjoin ! $ done !
