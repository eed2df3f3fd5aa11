-- A call whose id is open as the ending begins, in a run in which nothing went wrong: the link of its attempt took the request, and the link's reader waits for bytes.
use Rattle.std.specs.Prelude.{ℕ, ◌≡◌, ◌+◌, ◌<◌, ◌≤◌, List, slice_get, Some, IsTrue}
use mathlib.Core.Option.{some}
use lib.ListN.{get_elem?}
use Rattle.brpc_model.specs.Items.{Item, Shape}
use Rattle.brpc_model.specs.Operations.{Turn, link_shapes}
use Rattle.brpc_model.specs.FrameStream.{stream}
use Rattle.sock_message.specs.Asked.{Asked, request_of}
use Rattle.corr_core.specs.IdSlotWord.{Parts}
use Rattle.seat_programs.specs.Cores.{Core, SeatState}
use Rattle.seat_programs.specs.LoopHeads.{Exit, Reading, Reads}
use Rattle.seat_programs.specs.Programs.{Program, Round}
use Rattle.seat_programs.specs.ScriptSetupToEnding.{IsRunWithCalls}
use Rattle.seat_programs.specs.Tasks.{opens, plan_of, id_plan_of}
use Rattle.served_fits.specs.Below.script_facts.proofs.FilteredLists.{Has}
use Rattle.served_fits.specs.Below.call_owing.specs.SoundOwing.{id_word_of}
use Rattle.served_fits.specs.Below.outcome_stories.specs.Facts.{before_ending}
use Rattle.served_fits.specs.served_runs.specs.OfferedReplies.{TookSoFar}
use Rattle.sock_words.specs.PackedWords.{call_id}

module _ (script : List Item) (turns : List Turn) (core : Core) (is : IsRunWithCalls script turns core) where
  -- the word of id slot i there, and its id
  abbrev pub slot_word : ℕ → Parts
  slot_word i = id_word_of (before_ending script turns core is) i

  abbrev pub slot_id : ℕ → ℕ
  slot_id i = call_id i (slot_word i).first

  -- id slot i is open there
  pub record OpenCall (i : ℕ) : Type 0 where
    -- its versions fit
    pub inside : i < (id_plan_of script).slots
    pub open_ : (slot_word i).state ≡ 1
    pub versions : (slot_word i).attempt + 2 ≤ (slot_word i).range
    pub small : (slot_word i).first + 8 ≤ 67108864
    -- the call
    pub asked : Asked
    -- the link of the attempt, which has the server
    pub link : ℕ
    pub opening : ℕ
    pub shape : Shape
    pub opens_it : get_elem? (opens script) link ≡ some opening
    pub link_inside : link < (plan_of script).links
    pub opened : slice_get (link_shapes script) link ≡ Some shape
    pub serves : IsTrue shape.serve
    -- what it took by then, the call's request among it
    pub took : List ℕ
    pub took_so : TookSoFar (plan_of script) (before_ending script turns core is) link took
    pub request : Has (stream took).frames (request_of asked (slot_id i) (slot_word i).attempt)
    -- its reader waits for bytes
    pub seat : SeatState
    pub seat_there : get_elem? (before_ending script turns core is).seats (32 + link) ≡ some seat
    pub reading : Reading
    pub next : Exit (Reads reading) → Program
    pub reads : seat.program ≡ Round (Reads reading) next
    pub of_link : reading.link ≡ link
