-- What the proofs on a run of a script on threads speak of.
use Rattle.std.specs.Prelude.{ℕ, List, ◌∷◌, ◌++◌, Option}
use Rattle.std.specs.List.{flat_map}
use Rattle.sock_io.specs.declared.link.Out.{Ghosts}
use Rattle.sock_io.specs.LinkHalves.{OutState, InState}
use Rattle.sock_words.specs.declared.outcome.Outcome.{Outcome}
use Rattle.sock_words.specs.declared.plain.Plan.{Plan}
use Rattle.brpc_model.specs.Items.{Item}
use Rattle.brpc_model.specs.ReturnedLink.{LinkEnd}
use Rattle.corr_core.specs.declared.marks.Plan as id_plan
use Rattle.corr_core.specs.declared.marks.View.{View}
use Rattle.sock_message.specs.Asked.{Asked}
use Rattle.seat_programs.specs.declared.task.Task.{Task}
use Rattle.seat_programs.specs.Tasks.{plan_of}
use Rattle.prpc_frame.specs.declared.frame.Frame.{Frame}
use Rattle.rpc_reader.specs.ReaderBooks.{Books}
use Rattle.call_run.specs.ReadersOfLinks.{LinkReader}
use Rattle.script_parts.specs.ThreadScriptTold.{outcomes_of}
use Rattle.script_threads.specs.ServedScriptTold.{seated_plan, seated_ids, begins_with, IsThreadsRun}

module _ {P : Type 0} {O I : Type 0} {g : Ghosts O} {out : O → OutState} {inn : I → InState} {script : List Item} {text : List ℕ} {links : List LinkEnd} (r : IsThreadsRun P g out inn script text links) where
  -- the sizes of its tables, the tasks of its clients with the setup's, and its readers; the seat that took in all, and what it has in the end; and what became of the operations
  pub record RunParts : Type 0 where
    pub p : Plan
    pub q : id_plan.Plan
    pub all : List (List Task)
    pub readers : List (LinkReader g)
    pub main : Books
    pub last : View Asked
    pub outcomes : List (Option Outcome)

  abbrev pub parts_of : RunParts
  parts_of = record {
    p = seated_plan script;
    q = seated_ids script;
    all = r.left.setup ∷ r.left.clients;
    readers = r.left.readers;
    main = begins_with (flat_map (λ (fs : List Frame). fs) r.kept) r.rest.main;
    last = r.rest.last.view;
    outcomes = outcomes_of (plan_of script).operations r.told (r.ended ++ r.read) r.last;
  }
