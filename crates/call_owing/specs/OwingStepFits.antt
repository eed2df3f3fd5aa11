-- What the table of the sockets, the script and the answers of links say of a step, so that what is owed is kept.
use Rattle.std.specs.Prelude.{ℕ, ◌≡◌, ◌≢◌, ◌%◌, List, [], ◌∷◌, Option, Some}
use mathlib.Core.Option as core
use lib.ListN.{get_elem?}
use Rattle.sock_words.specs.declared.plain.Plan.{Plan}
use Rattle.sock_words.specs.PackedWords.{socket_id_version, socket_id_slot, vref_version, at_word_first, at_word_slot, call_id}
use Rattle.sock_model.specs.declared.chain.Heading.{Heading}
use Rattle.sock_model.specs.declared.home.Home.{Home}
use Rattle.sock_model.specs.declared.home.Home.TheVariants.{Message}
use Rattle.corr_core.specs.declared.marks.Plan.{Plan as IdPlan}
use Rattle.seat_programs.specs.TableSteps.{TableStep, OnSlot, AddRef, SetOdd, LookWord}
use Rattle.seat_programs.specs.Asides.{StoreAt, TakeBytes, Closed}
use Rattle.seat_programs.specs.Programs.{Program, Do, PutHome, Aside}
use Rattle.seat_programs.specs.Cores.{Core, SeatState, found_at, words_after, first_of}
use Rattle.seat_programs.specs.StepTables.{word_of, word_after}
use Rattle.seat_programs.specs.Ticks.{Answer, Moment, taken}
use Rattle.call_owing.specs.Owing.{Linked, Owing, InList, FindsCall}
use Rattle.call_owing.specs.SoundOwing.{at_of, FailedIn}
use Rattle.seat_programs.specs.LoopRounds.{first_step}

module _ (p : Plan) (life : ℕ → Option ℕ) (c : Core) (u : Owing) (call : TableStep) where
  abbrev pub found : ℕ
  found = found_at c.words (word_of p call)

  abbrev pub words' : List ℕ
  words' = words_after c.words (word_of p call) (word_after call (found_at c.words (word_of p call)))

  -- what is past stays so; a reader that sets its life odd, or that finds another version, finds it past; and a life at which a seat looks is held, so that an even version is its own
  pub record CallFits : Type 0 where
    pub finds : FindsCall life u call found
    pub failed : (k : ℕ) → FailedIn life c.words k → FailedIn life words' k
    pub odd : (k s : ℕ) → call ≡ OnSlot (SetOdd (socket_id_slot s)) → u.link ≡ k ∷ [] → life k ≡ Some s → FailedIn life words' k
    pub other : (k s : ℕ) → call ≡ OnSlot (AddRef s) → u.link ≡ k ∷ [] → life k ≡ Some s → vref_version found ≢ socket_id_version s → FailedIn life words' k
    pub live : (k s : ℕ) → call ≡ OnSlot (LookWord s) → life k ≡ Some s → vref_version found % 2 ≡ 0 → FailedIn life c.words k → ⊥

-- what goes home from a hand is no message
abbrev pub HoldsNoMessage : List Home → Type 0
HoldsNoMessage hand = (heading : Heading) (bytes : List ℕ) → first_of hand ≡ core.some (Message heading bytes) → ⊥

module _ (p : Plan) (q : IdPlan) (life : ℕ → Option ℕ) (calls : List ℕ) (c : Core) (seat : SeatState) (u : Owing) (answer : Answer) where
  -- the at word is one of the script's calls, and names no other id; a link answers its reader that it is closed only where its life isn't live
  abbrev pub StepFits : Program → Type 0
  StepFits (Do call next) = CallFits p life c u call × HoldsNoMessage seat.hand
  StepFits (PutHome k n after) = HoldsNoMessage seat.hand
  StepFits (Aside (StoreAt o w) next) = InList o calls × ((id n k : ℕ) → u.duty ≡ Linked id n k → at_of q c o ≢ 0 → call_id (at_word_slot (at_of q c o)) (at_word_first (at_of q c o)) ≡ id)
  StepFits (Aside (TakeBytes k room) next) = taken answer ≡ core.some Closed → u.link ≡ k ∷ [] → FailedIn life c.words k
  StepFits other = Unit {0}

-- at a tick of a seat with these marks
abbrev pub IsFittingOwing : Plan → IdPlan → (ℕ → Option ℕ) → List ℕ → Core → List Owing → Moment → Type 0
IsFittingOwing p q life calls c us m = (seat : SeatState) (u : Owing) → get_elem? c.seats m.seat ≡ core.some seat → get_elem? us m.seat ≡ core.some u → StepFits p q life calls c seat u m.answer (first_step seat.program)
