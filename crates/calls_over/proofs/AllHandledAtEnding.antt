-- Where the reader of a link waits for bytes as the ending begins, it has handled each frame that the link gave.
use Rattle.std.proofs.Common.{◌≡◌, ℕ, ◌+◌, ◌<◌, ⊎_elim, List, ◌++◌, length, replicate, slice_get, Option, Some, None, refl, sym, ap, ◌∙◌, subst, arith}
use Rattle.std.specs.List.{AllByRecursion}
use mathlib.Core.Option.{some}
use lib.ListN.{get_elem?}
use Rattle.brpc_model.specs.Frame.{Frame}
use Rattle.brpc_model.specs.Items.{Item}
use Rattle.brpc_model.specs.Operations.{Turn}
use Rattle.seat_programs.specs.LoopHeads.{Exit, Reading, Reads}
use Rattle.seat_programs.specs.Programs.{Program, Round}
use Rattle.seat_programs.specs.ReaderProgram.{slot_in, version_in}
use Rattle.seat_programs.specs.Cores.{Core, SeatState}
use Rattle.seat_programs.specs.Ticks.{quiet}
use Rattle.seat_programs.specs.Tasks.{opens, calls, plan_of, id_plan_of}
use Rattle.seat_programs.specs.ScriptSetupToEnding.{opened, set_up, played, IsRunWithCalls}
use Rattle.served_fits.specs.Below.joint_runs.proofs.RunsOfBothTables.{AreMade}
use Rattle.served_fits.specs.Below.script_facts.proofs.ReadScriptFacts.{InRange}
use Rattle.served_fits.specs.Below.script_facts.proofs.Targets.{AreThere}
use Rattle.served_fits.specs.Below.call_stories.specs.LinkReadingLists.{gave_in, soon_at}
use Rattle.served_fits.specs.Below.call_causes.proofs.HandledWhole.{reads_played}
use Rattle.served_fits.specs.Below.call_causes.proofs.HandledResponses.{word_of, frames_in, all_at, IsResp, Done, Over, Frozen}
use Rattle.served_fits.specs.Below.call_causes.proofs.HandledSteps.{State, waiting, reading, seeking, taking, ending_, freeing, over}
use Rattle.served_fits.specs.Below.call_causes.proofs.HandledStates.{After}
use Rattle.served_fits.specs.Below.call_causes.proofs.HandledTicks.{sit}
use Rattle.served_fits.specs.Below.call_causes.proofs.HandledRuns.{Reads'}
use Rattle.served_fits.specs.Below.outcome_stories.specs.OperationStories.{In}
use Rattle.served_fits.specs.Below.outcome_stories.specs.Facts.{shown_in}

-- what a program waits for at the head of a reading
abbrev reading_in : Program → Option Reading
reading_in (Round (Reads r) next) = Some r
reading_in other = None

module _ (script : List Item) (made : AreMade script) (there : AreThere script) (range : AllByRecursion InRange script) (turns : List Turn) (core : Core) (is : IsRunWithCalls script turns core) where
  abbrev pub soon_setup : List (ℕ × ℕ)
  soon_setup = shown_in (soon_at (plan_of script)) (plan_of script) (opened script) (replicate is.setup (quiet 0))

  abbrev pub soon_clients : List (ℕ × ℕ)
  soon_clients = shown_in (soon_at (plan_of script)) (plan_of script) (set_up script is.setup) (is.scheduled ++ is.later)

  -- ## A reader

  module _ (k o : ℕ) (at : get_elem? (opens script) k ≡ some o) where
    abbrev pub many : length (calls script) ≡ (id_plan_of script).slots
    many = made.slots

    -- what it has handled where the ending begins
    pub reads_before : Reads' (plan_of script) (id_plan_of script) k (calls script) o many (soon_setup ++ soon_clients) (played script is.setup (is.scheduled ++ is.later))
    reads_before = reads_played script made there range turns core is k o at

    abbrev before : Core
    before = played script is.setup (is.scheduled ++ is.later)

    module _ (seat : SeatState) (at_seat : get_elem? (played script is.setup (is.scheduled ++ is.later)).seats (32 + k) ≡ some seat) (r : Reading) (next : Exit (Reads r) → Program) (waits : seat.program ≡ Round (Reads r) next) where
      -- no other reader waits so
      other : (x : Program) → seat.program ≡ x → reading_in x ≡ None → ⊥
      other x is none_ = let z : Some r ≡ None = sym (ap reading_in waits) ∙ (ap reading_in is ∙ none_) in cc

      -- it has handled each frame
      all_handled : (kept : List Frame) × Over k (id_plan_of script).slots (sit k before (soon_setup ++ soon_clients)) kept
      all_handled = by (reads_before seat at_seat)
        where
          by : State k (id_plan_of script).slots (calls script) o many (sit k before (soon_setup ++ soon_clients)) seat.program → (kept : List Frame) × Over k (id_plan_of script).slots (sit k before (soon_setup ++ soon_clients)) kept
          by (waiting is none_) = absurd (other _ is refl)
          by (reading r' is at') = (r'.kept, at'.handled)
          by (seeking r' bytes seen f fs kept w is resp sought m) = absurd (other _ is refl)
          by (taking r' bytes seen f fs kept first is resp b m) = absurd (other _ is refl)
          by (ending_ r' bytes seen f fs kept n outcome is resp b m) = absurd (other _ is refl)
          by (freeing r' bytes seen fs kept i n outcome is m) = absurd (other _ is refl)
          by (over kept ov a) = absurd (subst (After (Frozen k (id_plan_of script).slots (sit k before (soon_setup ++ soon_clients))) kept) waits a).0

      -- a response of an id that hasn't passed came before its call began
      pub in_soon : (n : ℕ) (f : Frame) → slice_get (frames_in (gave_in before k)) n ≡ Some f → IsResp k (id_plan_of script).slots f → (word_of (sit k before (soon_setup ++ soon_clients)) (slot_in f)).first < version_in f → In (k, n) (soon_setup ++ soon_clients)
      in_soon n f stands resp behind = ⊎_elim (λ gone. absurd (let z : ⊥ = omega (arith, gone, behind) in z))
          (λ kept. kept.0) (subst (λ j. Done k (id_plan_of script).slots (sit k before (soon_setup ++ soon_clients)) all_handled.0 j f) (let z : 0 + n ≡ n = omega arith in z)
          (all_at (Done k (id_plan_of script).slots (sit k before (soon_setup ++ soon_clients)) all_handled.0) 0 (frames_in (gave_in before k)) all_handled.1 n f stands) resp)
