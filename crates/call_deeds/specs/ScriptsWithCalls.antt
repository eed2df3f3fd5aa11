-- What a run of clients with calls goes by: the links of the sockets that they open, and what is reported of their operations.
use Rattle.std.specs.Prelude.{◌≡◌, ◌≢◌, ℕ, ◌+◌, ◌<◌, List, [], ◌∷◌, slice_get, Option, Some, None}
use mathlib.Core.Option.{some}
use lib.ListN.{get_elem?}
use Rattle.sock_io.specs.declared.link.Out.{Ghosts}
use Rattle.sock_io.specs.LinkHalves.{OutState}
use Rattle.sock_words.specs.declared.outcome.Outcome.{Outcome}
use Rattle.sock_words.specs.declared.outcome.Outcome.TheVariants as outcome
use Rattle.sock_words.specs.declared.plain.Plan.{Plan}
use Rattle.corr_core.specs.declared.marks.Plan as id_plan
use Rattle.seat_programs.specs.declared.task.Op.{Op}
use Rattle.seat_programs.specs.declared.task.Op.TheVariants as ops
use Rattle.seat_programs.specs.declared.task.Task.{Task}
use Rattle.seat_programs.specs.Explained.{IsTask, Became}
use Rattle.call_places.specs.Below.RpcClient.Told.{Told}
use Rattle.call_places.specs.Below.CallRun.Threads.{opens_in, opens_of, Thread, AreThreads}
use Rattle.call_deeds.specs.RetriedCalls.{Again, all_asked}
use Rattle.call_places.specs.sock_deeds.specs.SocketTableRun.{IsOperation}

-- ## Links

-- the sockets of all clients are opened with the links in their order
abbrev pub IsNextLink : ℕ → Op → Type 0
IsNextLink first (ops.Open n k) = k ≡ first
IsNextLink first other = Unit {0}

abbrev pub HaveLinks : ℕ → List Task → Type 0
HaveLinks first [] = Unit {0}
HaveLinks first (t ∷ ts) = IsNextLink first t.op × HaveLinks (first + opens_in t.op) ts

abbrev pub AllHaveLinks : ℕ → List (List Task) → Type 0
AllHaveLinks first [] = Unit {0}
AllHaveLinks first (ts ∷ tss) = HaveLinks first ts × AllHaveLinks (first + opens_of ts) tss

-- ## What is reported

module _ (clients : List (List Task)) (outcomes : List (Option Outcome)) where
  -- what each client told of its operations is what became of them; of a send of which no client told, nothing is said; nothing is said of an operation that no client has; and that one is unopened is said only where a client told of it
  pub record Reports (told : List (List Told)) : Type 0 where
    pub said : (c i : ℕ) (ts : List Told) (t : Told) → get_elem? told c ≡ some ts → get_elem? ts i ≡ some t → Became clients outcomes t.number t.outcome
    pub unsaid : (c number n : ℕ) (bytes : List ℕ) → IsOperation clients outcomes c number (ops.Send n bytes)
        → ((d i : ℕ) (ts : List Told) (t : Told) → get_elem? told d ≡ some ts → get_elem? ts i ≡ some t → t.number ≢ number) → slice_get outcomes number ≡ Some None
    pub unopened : (n : ℕ) → Became clients outcomes n outcome.Unopened → (c i : ℕ) × (ts : List Told) × (t : Told) × (get_elem? told c ≡ some ts) × (get_elem? ts i ≡ some t) × (t.number ≡ n)
    pub alone : (n : ℕ) (by : Outcome) → Became clients outcomes n by → (c : ℕ) × (t : Task) × IsTask clients outcomes c t × (t.number ≡ n)

  -- a call of one of the clients asked for this, and it is a later attempt of it
  pub record IsLater (a : Again) : Type 0 where
    pub client : ℕ
    pub is : IsOperation clients outcomes client a.asked.operation (ops.Call a.asked)
    pub later : 0 < a.attempt

  -- so is each retry that these clients made
  abbrev pub AllLater : {O : Type 0} {g : Ghosts O} (state : O → OutState) (p : Plan) (q : id_plan.Plan) (names : List ℕ) (first : ℕ) (xs : List (Thread g)) → AreThreads state p q names first xs → Type 0
  AllLater state p q names first [] a = Unit {0}
  AllLater state p q names first (x ∷ xs) a = ((i : ℕ) (again : Again) → get_elem? (all_asked x a.0) i ≡ some again → IsLater again) × AllLater state p q names (first + opens_of x.tasks) xs a.2
