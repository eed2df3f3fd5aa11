-- What leads a seat to an attempt of a call: the name under which it found the socket, the operation whose call has the id, the link of the socket, and the at word that it stored for it.
use Rattle.std.specs.Prelude.{ℕ, ◌≡◌, ◌≢◌, ◌-◌, ◌%◌, ◌<◌, ◌≤◌, ◌⊎◌, Bool, true, false, List, [], ◌∷◌}
use Rattle.sock_words.specs.PackedWords.{at_word, socket_id_slot, socket_id_version, call_id, id_slot, id_first}
use Rattle.corr_core.specs.IdSlotWord.{parts}
use Rattle.own_decisions.specs.Below.id_runs.specs.Goes.{FitsSock}
use Rattle.sock_message.specs.Asked.{Asked, name_of}
use Rattle.seat_programs.specs.Asides.{Step, Found, PutCall, MakeId, StoreCall, StoreAt}
use Rattle.seat_programs.specs.TableSteps.{TableStep, OnSlot, OnName, OnChain, OnMessage, LoadName, FindLink, ClaimRequest, PutMessage}
use Rattle.seat_programs.specs.LoopHeads.{Head, Exit, Unlocks}
use Rattle.seat_programs.specs.Programs.{Program, Aside, Round}
use Rattle.own_decisions.specs.Below.programs_allowed.specs.program_steps.specs.AtSteps.{Asks, AtSteps}
use Rattle.own_decisions.specs.Below.label_runs.specs.AttemptLabelsLeft.{FindsLabel, AtLabel, LeavesLabel}

-- of which call the seat knows the id: none; it made this id, and stores the word of its call next; or that of this operation
pub data Of : Type 0 where
  NoCall : Of
  Makes : ℕ → Of
  Knows : ℕ → ℕ → Of

-- the name with the socket that was found under it; whether the seat's claim is for that socket; the call; the link that was found of the socket; and the at word, by its operation,
-- that was stored with it
pub record Trail : Type 0 where
  pub name : List (ℕ × ℕ)
  pub claimed : Bool
  pub of : Of
  pub linked : List ℕ
  pub stored : List (ℕ × ℕ)

abbrev pub lost : Trail
lost = record { name = []; claimed = false; of = NoCall; linked = []; stored = [] }

abbrev pub Stays : Trail → Trail → Type 0
Stays t u = (u ≡ t) ⊎ (u ≡ lost)

abbrev pub unclaimed : Trail → Trail
unclaimed t = record { name = t.name; claimed = false; of = t.of; linked = t.linked; stored = t.stored }

-- the link of its socket, and the at word
abbrev pub with_link : ℕ → Trail → Trail
with_link k t = record { name = t.name; claimed = false; of = t.of; linked = k ∷ []; stored = [] }

abbrev pub with_stored : ℕ → ℕ → Trail → Trail
with_stored o w t = record { name = t.name; claimed = false; of = t.of; linked = t.linked; stored = (o, w) ∷ [] }

-- ## Steps on the sockets

abbrev pub GoesDo : Trail → TableStep → ℕ → Trail → Type 0
GoesDo t (OnName (LoadName m)) found u = (u ≡ t) ⊎ ((u ≡ lost) ⊎ ((found ≢ 0) × (u ≡ record { name = (m, found - 1) ∷ []; claimed = false; of = t.of; linked = []; stored = [] })))
GoesDo t (OnChain (ClaimRequest s q)) found u = (u ≡ unclaimed t) ⊎ ((u ≡ lost) ⊎ ((found % 2 ≡ 0) × (m : ℕ) × (t.name ≡ (m, s) ∷ []) × (u ≡ record { name = (m, s) ∷ []; claimed = true; of = t.of; linked = t.linked; stored = t.stored })))
GoesDo t (OnSlot (FindLink i h)) found u = (u ≡ t) ⊎ ((u ≡ lost) ⊎ ((m s : ℕ) × (t.name ≡ (m, s) ∷ []) × (i ≡ socket_id_slot s) × (h ≡ socket_id_version s) × (u ≡ with_link found t)))
GoesDo t call found u = Stays t u

-- ## Steps aside

-- the next step stores the word of the call that has the id
abbrev pub StoresNext : ℕ → Program → Type 0
StoresNext id (Aside (StoreCall o x) next) = x ≡ id
StoresNext id other = ⊥

-- the call that was put back is that of the word whose lock is given back next
abbrev pub PutsBack : ℕ → Asked → Program → Trail → Type 0
PutsBack i asked after u = (w : ℕ) × (advance : Bool) × (next : Exit (Unlocks i w advance) → Program) × (after ≡ Round (Unlocks i w advance) next) × (u ≡ record { name = []; claimed = false; of = Knows asked.operation (call_id i (parts w).first); linked = []; stored = [] }) × ((parts w).first < 4294967296)

-- these are the calls
module _ (is_call : Asked → Type 0) where
  -- the at word of operation o is that of an attempt of its call, over this link
  pub record IsAtOf (o w : ℕ) : Type 0 where
    pub asked : Asked
    pub called : is_call asked
    pub operation : asked.operation ≡ o
    pub id : ℕ
    pub attempt : ℕ
    pub link : ℕ
    pub word : w ≡ at_word (id_first id) (id_slot id) link attempt
    pub small : link < 65535
    pub few : attempt ≤ 6

  -- and the socket is that which was found under its name, whose link the word tells
  pub record IsOwnStore (t : Trail) (o w : ℕ) : Type 0 where
    pub of : IsAtOf o w
    pub socket : ℕ
    pub knows : t.of ≡ Knows o of.id
    pub name : t.name ≡ (name_of of.asked of.attempt, socket) ∷ []
    pub linked : t.linked ≡ of.link ∷ []

  abbrev pub GoesAside : Trail → (step : Step) → Program → Found step → Trail → Type 0
  GoesAside t (MakeId i range) after found u = (u ≡ record { name = t.name; claimed = t.claimed; of = Makes (call_id i (parts found).first); linked = t.linked; stored = t.stored }) × StoresNext (call_id i (parts found).first) after
  GoesAside t (StoreCall o id) after found u = (u ≡ lost) ⊎ ((t.of ≡ Makes id) × (u ≡ record { name = t.name; claimed = t.claimed; of = Knows o id; linked = t.linked; stored = t.stored }))
  GoesAside t (StoreAt o w) after found u = ((u ≡ lost) ⊎ (u ≡ with_stored o w t)) × IsOwnStore t o w
  GoesAside t (PutCall i asked) after found u = (Stays t u ⊎ PutsBack i asked after u) × is_call asked
  GoesAside t other after found u = Stays t u

  -- the message of a call is that of an attempt over the socket that was found under its name
  abbrev pub MayAttempt : Trail → TableStep → Type 0
  MayAttempt t (OnMessage (PutMessage q heading bytes)) = (heading.owner ≡ 0) ⊎ ((asked : Asked) × (s : ℕ) × is_call asked × (asked.operation ≡ heading.label.operation) × (t.name ≡ (name_of asked heading.label.attempt, s) ∷ []) × (t.claimed ≡ true)
      × ((k : ℕ) × (t.linked ≡ k ∷ []) × (t.stored ≡ (heading.label.operation, at_word (id_first heading.owner) (id_slot heading.owner) k heading.label.attempt) ∷ [])))
  MayAttempt t call = Unit {0}

  -- giving a lock back leaves what is known
  abbrev pub trail_behind : Head → Trail → Trail
  trail_behind (Unlocks i w advance) t = t
  trail_behind head t = lost

  -- ## Programs

  abbrev follows_asks : Asks Trail
  follows_asks = record {
    rest = λ t. Unit {0};
    word = λ t call next behind. MayAttempt t call × ((found : ℕ) → FitsSock call found → (u : Trail) × GoesDo t call found u × behind u found);
    said = λ t behind. behind t;
    moved = λ t behind. behind lost;
    written = λ t behind. behind lost;
    beside = λ t step next behind. (found : Found step) → FindsLabel is_call step found → (u : Trail) × GoesAside t step (next found) found u × behind u found;
    loop = λ t head behind. AtLabel is_call head × ((exit : Exit head) → LeavesLabel head exit → behind (trail_behind head t) exit);
    kept = λ t r behind. (r.attempt ≤ 6) × behind lost;
    tried = λ t requests behind. behind lost;
  }

  abbrev pub Follows : Trail → Program → Type 0
  Follows t program = AtSteps follows_asks t program
