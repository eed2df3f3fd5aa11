-- What is told of sockets in a run with calls.
use Rattle.std.proofs.Common.{◌≡◌, ℕ, ◌≤◌, List, ◌∷◌, length, Option}
use mathlib.Core.Option.{some}
use lib.ListN.{get_elem?}
use Rattle.sock_io.specs.declared.link.Out.{Ghosts}
use Rattle.sock_io.specs.LinkHalves.{OutState}
use Rattle.sock_words.specs.declared.outcome.Outcome.{Outcome}
use Rattle.sock_words.specs.declared.plain.Plan.{Plan}
use Rattle.sock_words.specs.declared.place_word.PlaceWord.{PlaceWord}
use Rattle.sock_words.specs.declared.vref.Vref.{Vref}
use Rattle.call_places.specs.Below.SockRule.ClosingWordsAndNotes.{PlacesDiffer}
use Rattle.seat_programs.specs.declared.task.Task.{Task}
use Rattle.seat_programs.specs.Cores.{Core}
use Rattle.seat_programs.specs.Explained.{AreTasks}
use Rattle.corr_core.specs.declared.marks.View as id_view
use Rattle.sock_message.specs.Asked.{Asked}
use Rattle.call_places.specs.Below.RpcClient.Told.{Told}
use Rattle.call_places.specs.Below.CallRun.Threads.{ids_of, opens_of, openings, opened_names, MayRunAll, RanWith}
use Rattle.call_places.specs.Below.CallRun.ReadersOfLinks.{LinkReader, AreReaders}
use Rattle.call_places.specs.sock_deeds.specs.SocketsTold.{ToldSockets}
use Rattle.call_places.specs.sock_deeds.specs.SocketTableRun.{DeedRun}
use Rattle.call_places.specs.sock_deeds.proofs.OrdersOfDeeds.{orders, IsLeft}
use Rattle.call_places.specs.sock_deeds.proofs.WholeSocketDeeds.{fixed, told_of_deeds}
use Rattle.call_deeds.specs.RetriedCalls.{all_asked}
use Rattle.call_deeds.specs.ScriptsWithCalls.{AllHaveLinks, Reports, AllLater}
use Rattle.call_deeds.proofs.ReadersBesideClients.{OpensLink}
use Rattle.call_deeds.proofs.Ran.{AreLater}
use Rattle.call_deeds.proofs.RunsAsDeeds.{deed_run_with}

-- these readers of the links sat beside the clients
module _ {O : Type 0} {g : Ghosts O} {state : O → OutState} {p : Plan} {slots : ℕ} {setup : List Task} {clients : List (List Task)} {opens_ : List ℕ} {told ended : List (List Told)} {places : List PlaceWord} {vrefs : List Vref} {outs : List O} {ids : List (id_view.View Asked)} {beside : List (LinkReader g)}
    (run : RanWith g state beside p slots setup clients opens_ told ended places vrefs outs ids) (outcomes : List (Option Outcome)) (tasks : AreTasks p (setup ∷ clients)) (may : MayRunAll p (ids_of p slots) setup clients) (links : AllHaveLinks 0 (setup ∷ clients))
    (long : length outcomes ≡ p.operations) (reports : Reports (setup ∷ clients) outcomes told) (main_later : AreLater (setup ∷ clients) outcomes (all_asked run.ran.main run.ran.main_is))
    (others_later : AllLater (setup ∷ clients) outcomes state p (ids_of p slots) (opened_names run.ran.main.ended.outcomes.items (openings setup)) (opens_of setup) run.ran.others run.ran.others_are)
    (calls : List ℕ) (are : AreReaders p (ids_of p slots) calls 0 opens_ beside) (asked : (k o : ℕ) → get_elem? opens_ k ≡ some o → OpensLink (setup ∷ clients) outcomes k o)
    -- no two messages have one place word
    (differ : PlacesDiffer run.closed.ordered.log) (gave : ℕ → List ℕ) where
  abbrev pub deeds_with : DeedRun g state p (setup ∷ clients) outcomes places vrefs outs
  deeds_with = deed_run_with run outcomes tasks may links long reports main_later others_later calls are asked

  pub told_of_run_with : p.operations ≤ 65536 → (c : Core) → IsLeft deeds_with differ c → ToldSockets p (setup ∷ clients) outcomes (fixed deeds_with differ gave) gave (orders deeds_with differ) c
  told_of_run_with few c left = told_of_deeds deeds_with differ gave few c left
