-- The histories of the running code, and the machine's worlds. The code's rule defines how an event extends a history.
-- Here each event of a history is a block of turns of the machine. The last turn of the block is the atomic step of the
-- event, and the turns before it change nothing that the threads share.
use Rattle.std.specs.Prelude.{ℕ, suc, ◌≡◌, ◌^◌, Bool, false, List, [], ◌∷◌, ◌++◌, length, map, replicate, is_some}
use Rattle.elsa_lock_free.specs.declared.event.Event.{Event}
use Rattle.elsa_lock_free.specs.declared.event.Event.TheVariants.{Acquired, Published, Extended, Cloned, Released, OfferOf}
use Rattle.elsa_lock_free.specs.AtomicSteps.{Acquires, Extends, Publishes, Releases, Shared}
use Rattle.elsa_lock_free.specs.History as history
use Rattle.elsa_lock_free.specs.History.{begins_hold, entries, held_from}
use Rattle.elsa_lock_free.specs.SharedList.{items_of}
use Rattle.elsa_machine.specs.declared.machine.Plan.{Plan}
use Rattle.elsa_machine.specs.declared.machine.Plan.TheVariants.{Pusher, Extender}
use Rattle.elsa_machine.specs.declared.machine.Turn.{Turn}
use Rattle.elsa_machine.specs.Machine.{world_of}
use Rattle.elsa_machine.specs.Turns.{shared_of}
use Rattle.elsa_machine.specs.Worlds.{written_by, list_of}

-- This number of items.
unfoldable pub zeros : ℕ → List ℕ
zeros n = replicate n 0

-- More items than a list can have. An extender of them acquires the lock, and its call fails.
abbrev pub too_many : List ℕ
too_many = zeros (2 ^ 62)

-- After these turns the machine has this list, each entry with the number of its thread, the length of it, and a thread
-- has the lock or not.
pub record Agrees {A : Type 0} (plans : List (Plan A)) (front : List Turn) (list : List (ℕ × ℕ)) (held : Bool) : Type 0 where
  pub list_is : list_of (world_of plans front).events ≡ list
  pub length_is : (world_of plans front).length ≡ length list
  pub held_is : is_some (world_of plans front).held ≡ held

-- Each of these turns, which come after the turns `front`, changes nothing that the threads share.
abbrev pub AreQuiet : {A : Type 0} → List (Plan A) → List Turn → List Turn → Type 0
AreQuiet plans front [] = Unit {0}
AreQuiet plans front (turn ∷ more) = (shared_of (world_of plans (front ++ turn ∷ [])) ≡ shared_of (world_of plans front)) × AreQuiet plans (front ++ turn ∷ []) more

-- The item of an entry of the machine's list.
abbrev pub number_of : ℕ × ℕ → ℕ
number_of entry = entry.1

-- The machine's items are numbers: `code` makes an item of the vector a number.
module _ {T : Type 0} (code : T → ℕ) where
  -- The items that an event publishes.
  abbrev pub items : Event T → List ℕ
  items e = map code (items_of (entries e))

  -- The plan of the thread that does what an event does, whose number is the index of the event. A thread that releases
  -- the lock without an item is one whose call fails. The items of a clone are an extension. A thread of an acquire takes
  -- turns only if the history ends with it: otherwise the thread of the next event acquires the lock.
  abbrev pub plan_of : {A : Type 0} → Event T → Plan A
  plan_of Acquired = Extender too_many
  plan_of (Published x) = Pusher (code x.item ∷ [])
  plan_of (Extended a xs) = Extender (map code xs)
  plan_of (Cloned xs) = Extender (map code xs)
  plan_of Released = Extender too_many
  plan_of (OfferOf a n) = Extender too_many

  -- The atomic step of the event with the index k, by the relations that the code's rule cites too.
  abbrev pub AtomicStep : ℕ → Event T → Shared (ℕ × ℕ) → Shared (ℕ × ℕ) → Type 0
  AtomicStep k Acquired v w = Acquires v.length v w
  AtomicStep k (Published x) v w = Publishes (k, code x.item) v w
  AtomicStep k (Extended a xs) v w = Extends (written_by k (map code xs)) v w
  AtomicStep k (Cloned xs) v w = Extends (written_by k (map code xs)) v w
  AtomicStep k Released v w = Releases v w
  AtomicStep k (OfferOf a n) v w = Releases v w

  -- After the turns `front`, quiet turns and then the one that is the event's atomic step.
  pub record Does {A : Type 0} (plans : List (Plan A)) (k : ℕ) (e : Event T) (front lead : List Turn) (turn : Turn) : Type 0 where
    pub are_quiet : AreQuiet plans front lead
    pub step : AtomicStep k e (shared_of (world_of plans (front ++ lead))) (shared_of (world_of plans ((front ++ lead) ++ turn ∷ [])))

  -- At each of these events, the first of which has the index k, the machine is at the list and the lock that the history
  -- has there; and turns that do the event lead to the next.
  abbrev pub Follows : {A : Type 0} → List (Plan A) → ℕ → List (Event T) → List Turn → List (ℕ × ℕ) → Bool → Type 0
  Follows plans k [] front list held = Agrees plans front list held
  Follows plans k (e ∷ es) front list held =
      Agrees plans front list held × ((lead : List Turn) × (turn : Turn) × Does plans k e front lead turn
      × Follows plans (suc k) es ((front ++ lead) ++ turn ∷ []) (list ++ written_by k (items e)) (begins_hold e))

  -- The history is one of the machine: for the plans of its events there is a schedule that it follows, from the end of
  -- its first event on. That event ends the hold of the vector's maker, which the machine doesn't have.
  abbrev pub IsOfMachine : Type 0 → List (Event T) → Type 0
  IsOfMachine A [] = Unit {0}
  IsOfMachine A (e ∷ es) = (front : List Turn) × Follows {A = A} (map plan_of (e ∷ es)) 1 es front (written_by 0 (items e)) (begins_hold e)

  -- After this schedule the machine has the items of the history's list, as numbers, the length of it, and a thread has
  -- the lock exactly if one has it in the history. Before the first event the machine's lock is free.
  pub record Reaches {A : Type 0} (plans : List (Plan A)) (log : List (Event T)) (schedule : List Turn) : Type 0 where
    pub items_are : map number_of (list_of (world_of plans schedule).events) ≡ map code (items_of (history.list_of log))
    pub length_is : (world_of plans schedule).length ≡ length (history.list_of log)
    pub held_is : is_some (world_of plans schedule).held ≡ held_from false log

  -- For the plans of its events, some schedule reaches what the history leaves.
  abbrev pub IsReached : Type 0 → List (Event T) → Type 0
  IsReached A log = (schedule : List Turn) × Reaches (map (plan_of {A = A}) log) log schedule
