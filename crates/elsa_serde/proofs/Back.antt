-- Lemmas on what comes back.
use Rattle.std.proofs.Common.{◌≡◌, ◌≢◌, ℕ, ◌+◌, Bool, true, false, true≢false, cond, List, [], ◌∷◌, ◌++◌, Option, Some, None, length, map, refl, subst, sym, ap, ◌∙◌, append_assoc, append-nil, arith}
use Rattle.serde.specs.Event.{Event, Log, Logs, WritesEach, WritesEntry, WritesMap, WritesSeq, seq_begins, seq_ends, map_begins, map_ends, key_begins, key_ends}
use Rattle.serde.specs.declared.deserializer.Deserializer.{Deserializer}
use Rattle.elsa_serde.specs.Read.{ReadsEvents, entry_events, events_of_each, map_events, seq_events}
use Rattle.elsa_serde.specs.Back.{ComesBack, GivesWhatWasSent, Pairwise, StartsValue, all_as_read, as_read, is_end}

-- ---- events of lists

events_of_each_join : {X : Type 0} (events : X → List Event) (xs ys : List X) → events_of_each events (xs ++ ys) ≡ events_of_each events xs ++ events_of_each events ys
events_of_each_join events [] ys = refl
events_of_each_join events (x ∷ xs) ys = ap (λ es. events x ++ es) (events_of_each_join events xs ys) ∙ sym (append_assoc (events x) (events_of_each events xs) (events_of_each events ys))

all_as_read_each : {X : Type 0} (sent : X → List Event) (xs : List X) → all_as_read (events_of_each sent xs) ≡ events_of_each (λ x. all_as_read (sent x)) xs
all_as_read_each sent [] = refl
all_as_read_each sent (x ∷ xs) = events_of_each_join as_read (sent x) (events_of_each sent xs) ∙ ap (λ es. all_as_read (sent x) ++ es) (all_as_read_each sent xs)

head_or : Event → List Event → Event
head_or d [] = d
head_or d (e ∷ es) = e

rest_of : List Event → List Event
rest_of [] = []
rest_of (e ∷ es) = es

pub head_is : (d e f : Event) (es fs : List Event) → e ∷ es ≡ f ∷ fs → e ≡ f
unfolding head_or
head_is d e f es fs h = ap (head_or d) h

pub rest_is : (e f : Event) (es fs : List Event) → e ∷ es ≡ f ∷ fs → es ≡ fs
unfolding rest_of
rest_is e f es fs h = ap rest_of h

-- An end isn't the start of a value.
clash : (ends : Event) (r es more rest : List Event) → is_end ends ≡ true → StartsValue es → ends ∷ r ≡ (es ++ more) ++ rest → ⊥
clash ends r [] more rest is starts h = starts
clash ends r (e ∷ es) more rest is starts h = true≢false (sym is ∙ ap is_end (head_is ends ends e r ((es ++ more) ++ rest) h) ∙ starts)

-- ---- sequences and maps

module _ {T B : Type 0} (events : T → List Event) (writes : B → Log → Log → Type 0) (Same : T → B → Type 0) (back : ComesBack events writes Same) where
  -- What the writer sends for the values, one after the other.
  each_sent : (bs : List B) (before : List Event) (old log : Log) → old ≡ Some before → WritesEach writes bs old log → log ≡ Some (before ++ events_of_each back.sent bs)
  each_sent [] before old log is wrote = wrote ∙ is ∙ ap Some (sym (append-nil before))
  each_sent (b ∷ bs) before old log is wrote =
      let sent = back.sends b before wrote.0 (subst (λ l. writes b l wrote.0) is wrote.1) in
      each_sent bs (before ++ back.sent b) wrote.0 log sent wrote.2 ∙ ap Some (append_assoc before (back.sent b) (events_of_each back.sent bs))

  -- Values that are read from what was sent are the same, one after the other.
  each_back : (ends : Event) → is_end ends ≡ true → (xs : List T) (bs : List B) (r s : List Event)
      → events_of_each events xs ++ ends ∷ r ≡ events_of_each (λ b. all_as_read (back.sent b)) bs ++ ends ∷ s → Pairwise Same xs bs × (r ≡ s)
  each_back ends is [] [] r s h = (tt, rest_is ends ends r s h)
  each_back ends is [] (b ∷ bs) r s h = absurd (clash ends r (all_as_read (back.sent b)) (events_of_each (λ c. all_as_read (back.sent c)) bs) (ends ∷ s) is (back.starts_sent b) h)
  each_back ends is (x ∷ xs) [] r s h = absurd (clash ends s (events x) (events_of_each events xs) (ends ∷ r) is (back.starts x) (sym h))
  each_back ends is (x ∷ xs) (b ∷ bs) r s h =
      let one = back.decodes x b (events_of_each events xs ++ ends ∷ r) (events_of_each (λ c. all_as_read (back.sent c)) bs ++ ends ∷ s)
      (sym (append_assoc (events x) (events_of_each events xs) (ends ∷ r)) ∙ h ∙ append_assoc (all_as_read (back.sent b)) (events_of_each (λ c. all_as_read (back.sent c)) bs) (ends ∷ s)) in
      let more = each_back ends is xs bs r s one.1 in
      ((one.0, more.0), more.1)

  -- The items between the marks of a sequence or a map come back.
  marked_back : (head ends opens : Event) → is_end ends ≡ true → as_read ends ≡ ends ∷ [] → as_read opens ≡ head ∷ [] → (xs : List T) (bs : List B) (before : List Event) (old first last new : Log)
      → old ≡ Some before → Logs old first opens → WritesEach writes bs first last → Logs last new ends
      → ((sent : List Event) → new ≡ Some (before ++ sent) → head ∷ (events_of_each events xs ++ ends ∷ []) ≡ all_as_read sent)
      → Pairwise Same xs bs
  marked_back head ends opens is same begun xs bs before old first last new at opened each closed equal =
      let each_events = events_of_each back.sent bs in
      let one : first ≡ Some (before ++ opens ∷ []) = subst (λ l. Logs l first opens) at opened in
      let two : last ≡ Some ((before ++ opens ∷ []) ++ each_events) = each_sent bs (before ++ opens ∷ []) first last one each in
      let three : new ≡ Some (((before ++ opens ∷ []) ++ each_events) ++ ends ∷ []) = subst (λ l. Logs l new ends) two closed in
      let sent = opens ∷ (each_events ++ ends ∷ []) in
      let all : new ≡ Some (before ++ sent) = three ∙ ap Some (append_assoc (before ++ opens ∷ []) each_events (ends ∷ []) ∙ append_assoc before (opens ∷ []) (each_events ++ ends ∷ [])) in
      let body : all_as_read (each_events ++ ends ∷ []) ≡ events_of_each (λ b. all_as_read (back.sent b)) bs ++ ends ∷ [] =
      events_of_each_join as_read each_events (ends ∷ []) ∙ ap (λ es. es ++ all_as_read (ends ∷ [])) (all_as_read_each back.sent bs)
      ∙ ap (λ es. events_of_each (λ b. all_as_read (back.sent b)) bs ++ (es ++ [])) same in
      let whole : all_as_read sent ≡ head ∷ (events_of_each (λ b. all_as_read (back.sent b)) bs ++ ends ∷ []) =
      ap (λ es. es ++ all_as_read (each_events ++ ends ∷ [])) begun ∙ ap (λ es. head ∷ es) body in
      (each_back ends is xs bs [] [] (rest_is head head _ _ (equal sent all ∙ whole))).0

module _ {T B : Type 0} (events : T → List Event) (writes : B → Log → Log → Type 0) (Same : T → B → Type 0) (back : ComesBack events writes Same)
    {F E M : Type 0} (gives : F → List ℕ → Event → F → Type 0) (stays : F → F → Type 0) where
  -- A sequence comes back.
  pub seq_back : (xs : List T) (bs : List B) (log_old log_new : Log) (old new : Deserializer F E M) → WritesSeq writes bs log_old log_new → ReadsEvents gives stays old (seq_events events xs) new
      → GivesWhatWasSent gives stays (seq_events events) log_old log_new old new → Pairwise Same xs bs
  seq_back xs bs log_old log_new old new wrote read only =
      marked_back events writes Same back (seq_begins None) seq_ends (seq_begins (Some (length bs))) refl refl refl xs bs only.0 log_old wrote.0 wrote.1 log_new
      only.1 wrote.2 wrote.3 wrote.4 (λ sent is. only.2 xs sent is read)

-- An entry comes back if its key and its value do.
module _ {K V B : Type 0} (key : K → List Event) (key_writes : K → Log → Log → Type 0) (SameKey : K → K → Type 0) (keys : ComesBack key key_writes SameKey)
    (value : V → List Event) (value_writes : B → Log → Log → Type 0) (SameValue : V → B → Type 0) (values : ComesBack value value_writes SameValue) where
  abbrev entry_sent : K × B → List Event
  entry_sent e = key_begins ∷ (keys.sent e.0 ++ key_ends ∷ values.sent e.1)

  entry_as_read : (e : K × B) → all_as_read (entry_sent e) ≡ key_begins ∷ (all_as_read (keys.sent e.0) ++ all_as_read (values.sent e.1))
  entry_as_read e = ap (λ es. key_begins ∷ es) (events_of_each_join as_read (keys.sent e.0) (key_ends ∷ values.sent e.1))

  entry_sends : (e : K × B) (before : List Event) (log : Log) → WritesEntry key_writes value_writes e (Some before) log → log ≡ Some (before ++ entry_sent e)
  entry_sends e before log wrote =
      let one : wrote.0 ≡ Some (before ++ key_begins ∷ []) = wrote.3 in
      let two : wrote.1 ≡ Some ((before ++ key_begins ∷ []) ++ keys.sent e.0) = keys.sends e.0 (before ++ key_begins ∷ []) wrote.1 (subst (λ l. key_writes e.0 l wrote.1) one wrote.4) in
      let three : wrote.2 ≡ Some (((before ++ key_begins ∷ []) ++ keys.sent e.0) ++ key_ends ∷ []) = subst (λ l. Logs l wrote.2 key_ends) two wrote.5 in
      let four = values.sends e.1 (((before ++ key_begins ∷ []) ++ keys.sent e.0) ++ key_ends ∷ []) log (subst (λ l. value_writes e.1 l log) three wrote.6) in
      four ∙ ap Some (append_assoc ((before ++ key_begins ∷ []) ++ keys.sent e.0) (key_ends ∷ []) (values.sent e.1) ∙ append_assoc (before ++ key_begins ∷ []) (keys.sent e.0) (key_ends ∷ values.sent e.1)
      ∙ append_assoc before (key_begins ∷ []) (keys.sent e.0 ++ key_ends ∷ values.sent e.1))

  entry_decodes : (p : K × V) (e : K × B) (r s : List Event) → entry_events key value p ++ r ≡ all_as_read (entry_sent e) ++ s → (SameKey p.0 e.0 × SameValue p.1 e.1) × (r ≡ s)
  entry_decodes p e r s h =
      let body : (key p.0 ++ value p.1) ++ r ≡ (all_as_read (keys.sent e.0) ++ all_as_read (values.sent e.1)) ++ s = rest_is key_begins key_begins _ _ (h ∙ ap (λ es. es ++ s) (entry_as_read e)) in
      let one = keys.decodes p.0 e.0 (value p.1 ++ r) (all_as_read (values.sent e.1) ++ s) (sym (append_assoc (key p.0) (value p.1) r) ∙ body ∙ append_assoc (all_as_read (keys.sent e.0)) (all_as_read (values.sent e.1)) s) in
      let two = values.decodes p.1 e.1 r s one.1 in
      ((one.0, two.0), two.1)

  abbrev pub SameEntry : K × V → K × B → Type 0
  SameEntry p e = SameKey p.0 e.0 × SameValue p.1 e.1

  entry_back : ComesBack (entry_events key value) (WritesEntry key_writes value_writes) SameEntry
  entry_back = record {
    sent = entry_sent;
    sends = entry_sends;
    decodes = entry_decodes;
    starts = λ p. refl;
    starts_sent = λ e. refl;
  }

  module _ {F E M : Type 0} (gives : F → List ℕ → Event → F → Type 0) (stays : F → F → Type 0) where
    -- A map comes back, entry by entry.
    pub map_back : (ps : List (K × V)) (es : List (K × B)) (log_old log_new : Log) (old new : Deserializer F E M) → WritesMap key_writes value_writes es log_old log_new → ReadsEvents gives stays old (map_events key value ps) new
        → GivesWhatWasSent gives stays (map_events key value) log_old log_new old new → Pairwise SameEntry ps es
    map_back ps es log_old log_new old new wrote read only =
        marked_back (entry_events key value) (WritesEntry key_writes value_writes) SameEntry entry_back (map_begins None) map_ends (map_begins (Some (length es))) refl refl refl ps es only.0 log_old wrote.0 wrote.1 log_new
        only.1 wrote.2 wrote.3 wrote.4 (λ sent is. only.2 ps sent is read)
