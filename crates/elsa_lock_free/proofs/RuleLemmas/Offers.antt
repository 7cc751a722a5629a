-- The offers of each step, over all that the rule owns. Assumes `Logic`.
use Rattle.std.proofs.Common.{◌≡◌, ℕ, suc, ◌+◌, ◌≤◌, ◌==◌, ◌⊎◌, inl, inr, Bool, true, false, List, [], ◌∷◌, ◌++◌, length, refl, ap, sym, ◌∙◌, subst, arith, length-append, None}
use Rattle.std.proofs.lemmas.List.{append-nil}
use seplogic.Ra.Ura.{Ura}
use base.Fraction.{full_share}
use base.Share.{quarter, three_quarters}
use base.Share
use base.Logic.{SProp, ent, sep, wand, all, upd, emp, all_i, upd_i}
use base.Fml.{Share as FShare, Fml, ftrue, fsep}
use base.Growing.{latest}
use types.Logic.{Logic, sem}
use types.Keyed.{ticket, tickets_from, entries_take, token}
use types.Growing.{latest_grows, latest_agrees, latest_cut, latest_glue}
use types.Kit.{‵, raw, ◌⊛◌, given, ◌$◌, ◌∵◌, !, qed, by, move, keep, drop, split, fsplit, fsplit3, fjoin, fjoin3, fpack, learn, frame, assume, suffices, settle, done, use0, use1, use2, rewrite}
use denote.Steps.{nothing}
use denote.RattleType.{RattleType}
use Rattle.logbook.specs.Kept.{offer_owns}
use Rattle.elsa_lock_free.specs.declared.event.Entry.{Entry}
use Rattle.elsa_lock_free.specs.declared.event.Event.{Event}
use Rattle.elsa_lock_free.specs.declared.event.Event.TheVariants.{Acquired, Published, Extended, Cloned, Released, OfferOf}
use Rattle.elsa_lock_free.specs.SharedList.{written_by, bit, copied, count, entry, items_of}
use Rattle.elsa_lock_free.specs.History.{begins_hold, is_held, list_of, entries, added}
use Rattle.elsa_lock_free.specs.Rights.{logs, head, buffer_slots_of, part, fact, writer, at_log, right, one_ticket, tickets, IsStep, index_written, prefix_written, rights_from, free_rights, rule_owns, acquire_gain, read_gain, release_gain, publish_gain, extend_gain}
use Rattle.elsa_lock_free.proofs.RuleLemmas.History.{count_snoc, held_snoc, items_append, items_length, list_snoc, added_prefix, added_list, added_same}
use Rattle.elsa_slots.proofs.SlotLemmas.Prefix.{prefix_append, prefix_dup}
use Rattle.elsa_lock_free.proofs.RuleLemmas.Tickets.{copied_tickets, tickets_append, tickets_bound}

module _ {M : Type 1} {𝓤 : Ura M} (𝓛 : Logic 𝓤) where
  abbrev Pr : Type 2
  Pr = SProp 𝓤

  abbrev ◌⊢◌ : Pr → Pr → Type 1
  P ⊢ Q = ent 𝓤 P Q

  abbrev ◌∗◌ : Pr → Pr → Pr
  P ∗ Q = sep 𝓤 P Q

  abbrev ◌-∗◌ : Pr → Pr → Pr
  P -∗ Q = wand 𝓤 P Q

  abbrev ⟦◌⟧ : Fml → Pr
  ⟦ P ⟧ = sem 𝓛 P

  infix 26 ◌⊢◌
  infixr 35 ◌∗◌
  infixr 30 ◌-∗◌
  module _ (T B : RattleType) (slot_names : B.Denot → List ℕ) (fits : B.Denot → T.Denot → Type 0) (names : List ℕ) where
    abbrev Log : Type 0
    Log = List (Event T.Denot)

    abbrev Entries : Type 0
    Entries = List (Entry T.Denot)

    abbrev Three : Type 0
    Three = Log × Log × Log

    abbrev buffer_slots : List ℕ
    buffer_slots = buffer_slots_of names

    abbrev Kept : Log → Fml
    Kept = rule_owns T B slot_names fits names

    abbrev at : FShare → Log → Fml
    at q log = at_log q names log

    abbrev Spare : Bool → ℕ → Fml
    Spare b n = free_rights T B slot_names fits b buffer_slots n

    abbrev Rights : ℕ → Fml
    Rights n = rights_from T B slot_names fits buffer_slots n

    abbrev All : Entries → Fml
    All es = prefix_written T B slot_names fits buffer_slots 0 (items_of es)

    module _ (moves : Log → Log → Log → Type 0) (gain : Log → Fml) where
      abbrev Trade : Three → Pr
      Trade z = ⟦ Kept z.0 ⟧ -∗ upd 𝓤 (⟦ Kept z.1 ⟧ ∗ ⟦ gain z.2 ⟧)

      pub offers : (P : Pr) → ((xs ys r : Log) → moves xs ys r → P ⊢ Trade (xs, ys, r)) → P ⊢ ⟦ offer_owns Kept moves gain None ⟧
      offers P h = all_i 𝓤 (λ (z : Three). all 𝓤 (λ (_ : moves z.0 z.1 z.2). Trade z)) (λ z. all_i 𝓤 (λ (_ : moves z.0 z.1 z.2). Trade z) (λ m. h z.0 z.1 z.2 m))

    -- acquire: the right, and the rights to write, go to the holder
    pub acquire_offer : emp 𝓤 ⊢ ⟦ offer_owns Kept (IsStep {T = T.Denot} Acquired) (acquire_gain T B slot_names fits names) None ⟧
    acquire_offer = offers (IsStep {T = T.Denot} Acquired) (acquire_gain T B slot_names fits names) (emp 𝓤) (λ xs ys r m. let Z : Pr = ⟦ Kept ys ⟧ ∗ ⟦ acquire_gain T B slot_names fits names r ⟧ in
        let longer : xs ++ Acquired ∷ [] ≡ ys = sym m.1.0 in
        let held : true ≡ is_held ys = sym (ap is_held m.1.0 ∙ held_snoc true xs Acquired) in
        let so : xs ≡ r = sym m.0 in
        let l : list_of xs ≡ list_of ys = sym (ap list_of m.1.0 ∙ (list_snoc xs Acquired ∙ append-nil (list_of xs))) in
        qed 𝓛 [] ∵ assume ! (‵ (Kept xs)) $ fsplit ! $ fsplit ! $ rewrite ! 0 (λ (b : Bool). ‵ (at (part b) xs)) m.1.1.was_free refl $ rewrite ! 1 (λ (b : Bool). ‵ (Spare b (length (list_of xs)))) m.1.1.was_free refl $
        use1 𝓛 (raw (upd 𝓤 ⟦ at full_share (xs ++ Acquired ∷ []) ⟧)) (latest_grows logs 𝓛 (head names) (added xs) (added (xs ++ Acquired ∷ [])) (added_prefix xs Acquired)) $ settle 𝓛 Z (‵ (at full_share (xs ++ Acquired ∷ []))) $
        use1 𝓛 (‵ (at quarter (xs ++ Acquired ∷ [])) ⊛ ‵ (at three_quarters (xs ++ Acquired ∷ []))) (latest_cut logs 𝓛 full_share quarter three_quarters (head names) (added (xs ++ Acquired ∷ [])) base.Share.quarters) $ split ! $
        suffices ! _ (upd_i 𝓤 Z) $
        -- [position; right; rights; all and tickets]
        rewrite ! 0 (λ (l : Log). ‵ (at quarter l)) longer refl $ rewrite ! 0 (λ (b : Bool). ‵ (at (part b) ys)) held refl $
        rewrite ! 1 (λ (l : Log). ‵ (at three_quarters (l ++ Acquired ∷ []))) so refl $ rewrite ! 2 (λ (l : Log). ‵ (Rights (length (list_of l)))) so refl $
        rewrite ! 3 (λ (es : Entries). ‵ (fsep (All es) (tickets [] es))) l refl $
        move ! (1 ∷ 2 ∷ []) $ fjoin ! $ move ! (1 ∷ []) $ nothing ! $ move ! (1 ∷ 0 ∷ []) $
        rewrite ! 1 (λ (b : Bool). ‵ (Spare b (length (list_of ys)))) held refl $ fjoin ! $ move ! (0 ∷ 2 ∷ []) $ fjoin ! $ done !)

    -- a read of the length: the evidence for the whole list, and the writer's tickets with what they show
    pub read_offer : (a n : ℕ) (about : Log) → about ≡ OfferOf a n ∷ [] → ⟦ writer a n ⟧ ⊢ ⟦ offer_owns Kept (IsStep {T = T.Denot} (OfferOf a n)) (read_gain T B slot_names fits names (OfferOf a n ∷ [])) None ⟧
    read_offer a n about ab = offers (IsStep {T = T.Denot} (OfferOf a n)) (read_gain T B slot_names fits names (OfferOf a n ∷ [])) ⟦ writer a n ⟧ (λ xs ys r m. let Z : Pr = ⟦ Kept ys ⟧ ∗ ⟦ read_gain T B slot_names fits names (OfferOf a n ∷ []) r ⟧ in let L : Entries = list_of xs in
        let so : xs ≡ r = sym m.0 in
        qed 𝓛 (‵ (writer a n) ∷ []) ∵ assume ! (‵ (Kept xs)) $ fsplit ! $ move ! (1 ∷ []) $ fsplit ! $ move ! (1 ∷ 3 ∷ []) $
        -- [tickets; writer; all; position and spare]
        use2 𝓛 (given (count (suc a) L ≤ n) (‵ (tickets [] L) ⊛ ‵ (tickets_from a n))) (tickets_bound 𝓛 T.Denot a n [] L (omega arith)) $ learn ! (λ le. split ! $ move ! (2 ∷ []) $
        use1 𝓛 (‵ (All L) ⊛ ‵ (All L)) (prefix_dup 𝓛 T B slot_names fits buffer_slots 0 (items_of L)) $ split ! $ move ! (0 ∷ 2 ∷ []) $ fjoin ! $ move ! (3 ∷ 0 ∷ []) $ fjoin ! $ rewrite ! 0 (λ (l : Log). ‵ (Kept l)) (sym m.1.0) refl $
        suffices ! _ (upd_i 𝓤 Z) $ frame ! $ rewrite ! 0 (λ (l : Log). ‵ (All (list_of l))) so refl $ nothing ! $
        fpack ! (count (suc a) (list_of r) ≤ n) (λ _. ftrue) (subst (λ (l : Log). count (suc a) (list_of l) ≤ n) so le) $ move ! (2 ∷ 0 ∷ 1 ∷ []) $ fjoin ! $ move ! (1 ∷ 0 ∷ []) $ fjoin ! $ done !))

    -- The release of the lock, by an event that adds entries or none. It takes the right to release, the rights to the
    -- slots after these entries, and their evidence. `pays`: the entries take tickets from the writer, which has used `k`
    -- tickets before and `left` after
    module _ (v : Log) (e : Event T.Denot) (ends : begins_hold e ≡ false) (a k left : ℕ) (pays : (L : Entries) → count (suc a) L ≤ k → ⟦ writer a k ⟧ ⊢ ⟦ tickets L (entries e) ⟧ ∗ ⟦ writer a left ⟧) where
      abbrev Goes : Log → Log → Log → Type 0
      Goes xs ys r = (r ≡ xs) × ((ys ≡ xs) ⊎ ((ys ≡ xs ++ e ∷ []) × (is_held xs ≡ true)))

      abbrev new : Entries
      new = entries e

      -- what the holder gives
      abbrev pub Given : Fml
      Given = fsep (right names v) (fsep (fsep (Rights (length (list_of v) + length new)) (prefix_written T B slot_names fits buffer_slots (length (list_of v)) (items_of new))) (writer a k))

      abbrev Known : Log → Type 0
      Known r = (length r ≡ length v) × (count (suc a) (list_of r) ≤ k)

      -- what it gets back
      abbrev pub Back : Log → Fml
      Back r = fsep (writer a left) (fact (Known r))

      one : (xs ys r : Log) → Goes xs ys r → ⟦ Given ⟧ ⊢ Trade Goes Back (xs, ys, r)
      one xs ys r (is, inl same) = let Z : Pr = ⟦ Kept ys ⟧ ∗ ⟦ Back r ⟧ in let L : Entries = list_of xs in
          qed 𝓛 (‵ Given ∷ []) ∵ assume ! (‵ (Kept xs)) $ fsplit ! $ fsplit ! $ move ! (3 ∷ []) $ fsplit3 ! $ move ! (3 ∷ 0 ∷ []) $
          -- [position; right; rights and evidence; writer; spare; all and tickets]
          use2 𝓛 (given (added xs ≡ added v) (‵ (at (part (is_held xs)) xs) ⊛ ‵ (right names v))) (latest_agrees logs 𝓛 (part (is_held xs)) three_quarters (head names) (added xs) (added v)) $ learn ! (λ agree. split ! $
          keep ! (5 ∷ 3 ∷ 0 ∷ 4 ∷ []) $ fsplit ! $ move ! (1 ∷ 2 ∷ []) $
          use2 𝓛 (given (count (suc a) L ≤ k) (‵ (tickets [] L) ⊛ ‵ (tickets_from a k))) (tickets_bound 𝓛 T.Denot a k [] L (omega arith)) $ learn ! (λ le. split ! $
          -- [tickets; writer; all; position; spare]
          move ! (2 ∷ 0 ∷ []) $ fjoin ! $ move ! (2 ∷ 3 ∷ []) $ fjoin ! $ move ! (0 ∷ 1 ∷ []) $ fjoin ! $
          suffices ! _ (upd_i 𝓤 Z) $ rewrite ! 0 (λ (l : Log). ‵ (Kept l)) (sym same) refl $ frame ! $
          use1 𝓛 (‵ (tickets L new) ⊛ ‵ (writer a left)) (pays L le) $ split ! $ drop ! $ nothing ! $
          fpack ! (Known r) (λ _. ftrue) ((ap length is ∙ added_same xs v agree), subst (λ (l : Log). count (suc a) (list_of l) ≤ k) (sym is) le) $ move ! (1 ∷ 0 ∷ []) $ fjoin ! $ done !))
      one xs ys r (is, inr (longer, held)) = let Z : Pr = ⟦ Kept ys ⟧ ∗ ⟦ Back r ⟧ in let L : Entries = list_of xs in
          let free : false ≡ is_held ys = sym (ap is_held longer ∙ (held_snoc true xs e ∙ ends)) in
          let l : L ++ new ≡ list_of ys = sym (ap list_of longer ∙ list_snoc xs e) in
          let i : items_of L ++ items_of new ≡ items_of (list_of ys) = sym (items_append L new) ∙ ap items_of l in
          qed 𝓛 (‵ Given ∷ []) ∵ assume ! (‵ (Kept xs)) $ fsplit ! $ fsplit ! $ move ! (3 ∷ []) $ fsplit3 ! $ move ! (3 ∷ 0 ∷ []) $
          -- [position; right; rights and evidence; writer; spare; all and tickets]
          use2 𝓛 (given (added xs ≡ added v) (‵ (at (part (is_held xs)) xs) ⊛ ‵ (right names v))) (latest_agrees logs 𝓛 (part (is_held xs)) three_quarters (head names) (added xs) (added v)) $ learn ! (λ agree. split ! $
          rewrite ! 0 (λ (b : Bool). ‵ (at (part b) xs)) held refl $ rewrite ! 1 (λ (y : List ℕ). ‵ (latest logs three_quarters (head names) y)) (sym agree) refl $
          use2 𝓛 (‵ (at full_share xs)) (latest_glue logs 𝓛 full_share quarter three_quarters (head names) (added xs) base.Share.quarters) $
          use1 𝓛 (raw (upd 𝓤 ⟦ at full_share (xs ++ e ∷ []) ⟧)) (latest_grows logs 𝓛 (head names) (added xs) (added (xs ++ e ∷ [])) (added_prefix xs e)) $ settle 𝓛 Z (‵ (at full_share (xs ++ e ∷ []))) $
          -- [position; rights and evidence; writer; spare; all and tickets]
          let len : length (list_of v) ≡ length L = sym (added_list xs v agree) in let more : length (list_of v) + length new ≡ length (list_of ys) = omega (arith, len, ap length l, length-append L new) in
          rewrite ! 0 (λ (y : Log). ‵ (at full_share y)) (sym longer) refl $ rewrite ! 0 (λ (b : Bool). ‵ (at (part b) ys)) free refl $
          move ! (1 ∷ []) $ fsplit ! $ rewrite ! 0 (λ (y : ℕ). ‵ (Rights y)) more refl $ rewrite ! 0 (λ (b : Bool). ‵ (Spare b (length (list_of ys)))) free refl $
          rewrite ! 1 (λ (y : ℕ). ‵ (prefix_written T B slot_names fits buffer_slots y (items_of new))) (let z : length (list_of v) ≡ 0 + length (items_of L) = omega (arith, len, items_length L) in z) refl $
          -- [spare; evidence; position; writer; old spare; all and tickets]
          keep ! (5 ∷ 3 ∷ 1 ∷ 2 ∷ 0 ∷ []) $ fsplit ! $ move ! (1 ∷ 2 ∷ []) $
          use2 𝓛 (given (count (suc a) L ≤ k) (‵ (tickets [] L) ⊛ ‵ (tickets_from a k))) (tickets_bound 𝓛 T.Denot a k [] L (omega arith)) $ learn ! (λ le. split ! $
          -- [tickets; writer; all; evidence; position; spare]
          move ! (1 ∷ []) $ use1 𝓛 (‵ (tickets L new) ⊛ ‵ (writer a left)) (pays L le) $ split ! $ move ! (2 ∷ 0 ∷ []) $
          use2 𝓛 (‵ (tickets [] (L ++ new))) (tickets_append 𝓛 T.Denot [] L new) $
          -- [tickets; writer; all; evidence; position; spare]
          move ! (2 ∷ 3 ∷ []) $ use2 𝓛 (‵ (prefix_written T B slot_names fits buffer_slots 0 (items_of L ++ items_of new))) (prefix_append 𝓛 T B slot_names fits buffer_slots 0 (items_of L) (items_of new)) $
          rewrite ! 0 (λ (y : List T.Denot). ‵ (prefix_written T B slot_names fits buffer_slots 0 y)) i refl $ rewrite ! 1 (λ (es : Entries). ‵ (tickets [] es)) l refl $
          -- [all; tickets; writer; position; spare]
          fjoin ! $ move ! (2 ∷ 3 ∷ []) $ fjoin ! $ move ! (0 ∷ 1 ∷ []) $ fjoin ! $
          suffices ! _ (upd_i 𝓤 Z) $ frame ! $ nothing ! $
          fpack ! (Known r) (λ _. ftrue) ((ap length is ∙ added_same xs v agree), subst (λ (y : Log). count (suc a) (list_of y) ≤ k) (sym is) le) $ move ! (1 ∷ 0 ∷ []) $ fjoin ! $ done !))

      pub ends_hold : (moves : Log → Log → Log → Type 0) → ((xs ys r : Log) → moves xs ys r → Goes xs ys r) → ⟦ Given ⟧ ⊢ ⟦ offer_owns Kept moves Back None ⟧
      ends_hold moves into = offers moves Back ⟦ Given ⟧ (λ xs ys r m. one xs ys r (into xs ys r m))

    -- release unchanged
    free_of_charge : (a k : ℕ) (L : Entries) → count (suc a) L ≤ k → ⟦ writer a k ⟧ ⊢ ⟦ tickets L [] ⟧ ∗ ⟦ writer a k ⟧
    free_of_charge a k L le = qed 𝓛 (‵ (writer a k) ∷ []) ∵ nothing ! $ done !

    pub release_offer : (v : Log) (a k : ℕ) → ⟦ fsep (right names v) (fsep (Rights (length (list_of v))) (writer a k)) ⟧ ⊢ ⟦ offer_owns Kept (IsStep {T = T.Denot} Released) (release_gain T B slot_names fits (OfferOf a k ∷ v)) None ⟧
    release_offer v a k = qed 𝓛 (‵ (fsep (right names v) (fsep (Rights (length (list_of v))) (writer a k))) ∷ []) ∵ fsplit3 ! $ move ! (1 ∷ []) $
        rewrite ! 0 (λ (y : ℕ). ‵ (Rights y)) (let z : length (list_of v) ≡ length (list_of v) + 0 = omega arith in z) refl $ nothing ! $ move ! (1 ∷ 0 ∷ []) $ fjoin ! $ move ! (1 ∷ 0 ∷ []) $ fjoin3 ! $ by ! (ends_hold v Released refl a k k (free_of_charge a k) (IsStep {T = T.Denot} Released) (λ xs ys r m. (m.0, elim m.1 [ inl s ↦ inl s | inr t ↦ inr (t.0, t.1.was_held) ])))

    -- publish the items of a clone
    copies_pay : (a k : ℕ) (cs : List T.Denot) (L : Entries) → count (suc a) L ≤ k → ⟦ writer a k ⟧ ⊢ ⟦ tickets L (copied cs) ⟧ ∗ ⟦ writer a k ⟧
    copies_pay a k cs L le = qed 𝓛 (‵ (writer a k) ∷ []) ∵ use0 𝓛 (‵ (tickets L (copied cs))) (copied_tickets 𝓛 T.Denot L cs) $ done !

    pub clone_offer : (v : Log) (cs : List T.Denot) (a k : ℕ) → ⟦ fsep (right names v) (fsep (fsep (Rights (length (list_of v) + length (copied cs))) (prefix_written T B slot_names fits buffer_slots (length (list_of v)) (items_of (copied cs)))) (writer a k)) ⟧
        ⊢ ⟦ offer_owns Kept (IsStep {T = T.Denot} (Cloned cs)) (release_gain T B slot_names fits (OfferOf a k ∷ v)) None ⟧
    clone_offer v cs a k = ends_hold v (Cloned cs) refl a k k (copies_pay a k cs) (IsStep {T = T.Denot} (Cloned cs)) (λ xs ys r m. (m.0, elim m.1 [ inl s ↦ inl s | inr t ↦ inr (t.0, t.1.was_held) ]))

    -- publish an entry
    entry_pays : (x : Entry T.Denot) (a k : ℕ) → x.writer ≡ suc a → (L : Entries) → count (suc a) L ≤ k → ⟦ writer a k ⟧ ⊢ ⟦ tickets L (x ∷ []) ⟧ ∗ ⟦ writer a (suc k) ⟧
    entry_pays x a k mine L le = let F : ℕ → Fml = λ j. fsep (ticket a j) (fact (count (suc a) L ≤ j)) in
        qed 𝓛 (‵ (writer a k) ∷ []) ∵ use1 𝓛 (‵ (ticket a k) ⊛ ‵ (tickets_from a (suc k))) (entries_take token 𝓛 a k (λ _. tt)) $ split ! $
        nothing ! $ fpack ! (count (suc a) L ≤ k) (λ _. ftrue) le $ move ! (1 ∷ 0 ∷ []) $ fjoin ! $ fpack ! ℕ F k $
        rewrite ! 0 (λ (b : ℕ). ‵ (one_ticket L b)) (sym mine) refl $ nothing ! $ move ! (1 ∷ 0 ∷ []) $ fjoin ! $ done !

    pub publish_offer : (v : Log) (x : Entry T.Denot) (a k : ℕ) → x.writer ≡ suc a → ⟦ fsep (right names v) (fsep (fsep (Rights (suc (length (list_of v)))) (index_written T B slot_names fits buffer_slots (length (list_of v)) x.item)) (writer a k)) ⟧
        ⊢ ⟦ offer_owns Kept (IsStep {T = T.Denot} (Published x)) (publish_gain T B slot_names fits (OfferOf a k ∷ v)) None ⟧
    publish_offer v x a k mine = qed 𝓛 (‵ (fsep (right names v) (fsep (fsep (Rights (suc (length (list_of v)))) (index_written T B slot_names fits buffer_slots (length (list_of v)) x.item)) (writer a k))) ∷ []) ∵
        fsplit3 ! $ move ! (1 ∷ []) $ fsplit ! $ rewrite ! 0 (λ (y : ℕ). ‵ (Rights y)) (let z : suc (length (list_of v)) ≡ length (list_of v) + 1 = omega arith in z) refl $ move ! (1 ∷ []) $ nothing ! $ move ! (1 ∷ 0 ∷ []) $ fjoin ! $
        move ! (1 ∷ 0 ∷ []) $ fjoin ! $ move ! (1 ∷ 0 ∷ 2 ∷ []) $ fjoin3 ! $ by ! (ends_hold v (Published x) refl a k (suc k) (entry_pays x a k mine) (IsStep {T = T.Denot} (Published x)) (λ xs ys r m. (m.0, elim m.1 [ inl s ↦ inl s | inr t ↦ inr (t.0, t.1.was_held) ])))

    -- publish many items of one writer
    at_most : (b : Bool) → bit b ≤ 1
    at_most true = omega arith
    at_most false = omega arith

    items_pay : (a k : ℕ) (cs : List T.Denot) (L : Entries) → count (suc a) L ≤ k → ⟦ writer a k ⟧ ⊢ ⟦ tickets L (written_by (suc a) cs) ⟧ ∗ ⟦ writer a (k + length cs) ⟧
    items_pay a k [] L le = let none : List T.Denot = [] in qed 𝓛 (‵ (writer a k) ∷ []) ∵ rewrite ! 0 (λ (n : ℕ). ‵ (writer a n)) (let z : k ≡ k + length none = omega arith in z) refl $ nothing ! $ done !
    items_pay a k (c ∷ cs) L le = let F : ℕ → Fml = λ j. fsep (ticket a j) (fact (count (suc a) L ≤ j)) in let x : Entry T.Denot = entry (suc a) c in let next : Entries = L ++ x ∷ [] in
        let more : count (suc a) next ≤ suc k = let s = count_snoc (suc a) L x in let b = at_most (x.writer == suc a) in omega (arith, s, b, le) in
        qed 𝓛 (‵ (writer a k) ∷ []) ∵ use1 𝓛 (‵ (ticket a k) ⊛ ‵ (tickets_from a (suc k))) (entries_take token 𝓛 a k (λ _. tt)) $ split ! $ move ! (1 ∷ []) $
        use1 𝓛 (‵ (tickets next (written_by (suc a) cs)) ⊛ ‵ (writer a (suc k + length cs))) (items_pay a (suc k) cs next more) $ split ! $ move ! (2 ∷ []) $
        nothing ! $ fpack ! (count (suc a) L ≤ k) (λ _. ftrue) le $ move ! (1 ∷ 0 ∷ []) $ fjoin ! $ fpack ! ℕ F k $ fjoin ! $
        rewrite ! 1 (λ (n : ℕ). ‵ (writer a n)) (let z : suc k + length cs ≡ k + length (c ∷ cs) = omega arith in z) refl $ done !

    pub extend_offer : (v : Log) (cs : List T.Denot) (a k : ℕ) → ⟦ fsep (right names v) (fsep (fsep (Rights (length (list_of v) + length (written_by (suc a) cs))) (prefix_written T B slot_names fits buffer_slots (length (list_of v)) (items_of (written_by (suc a) cs)))) (writer a k)) ⟧
        ⊢ ⟦ offer_owns Kept (IsStep {T = T.Denot} (Extended (suc a) cs)) (extend_gain T B slot_names fits (OfferOf a k ∷ Extended (suc a) cs ∷ v)) None ⟧
    extend_offer v cs a k = ends_hold v (Extended (suc a) cs) refl a k (k + length cs) (items_pay a k cs) (IsStep {T = T.Denot} (Extended (suc a) cs)) (λ xs ys r m. (m.0, elim m.1 [ inl s ↦ inl s | inr t ↦ inr (t.0, t.1.was_held) ]))
