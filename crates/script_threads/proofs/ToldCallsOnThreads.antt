-- What is told of the calls of a script whose links were read beside its clients.
use Rattle.std.proofs.Common.{◌≡◌, ℕ, List, Ok, subst}
use Rattle.sock_io.specs.declared.link.Out.{Ghosts}
use Rattle.sock_io.specs.LinkHalves.{OutState, InState}
use Rattle.sock_words.specs.declared.outcome.Outcome.{Outcome}
use Rattle.brpc_model.specs.Items.{Item}
use Rattle.brpc_model.specs.ReturnedLink.{LinkEnd}
use Rattle.brpc_model.specs.Script.{script_of}
use Rattle.seat_programs.specs.declared.task.Op.TheVariants as ops
use Rattle.seat_programs.specs.declared.task.Task.{Task}
use Rattle.seat_programs.specs.ScriptSetupToEnding.{all_tasks}
use Rattle.seat_programs.specs.Tasks.{plan_of}
use Rattle.seat_programs.specs.Explained.{IsTask, Became}
use Rattle.seat_programs.specs.ExplainedCalls.{Order, Fixed}
use Rattle.script_parts.specs.attempts_told.specs.CountedAttempts.{last_attempt}
use Rattle.script_parts.specs.call_whys.specs.expire_told.specs.ExpireOutcomesSaid.{WhyExpired}
use Rattle.script_parts.specs.call_whys.specs.expire_told.proofs.WholeExpireReasons.{expire_why, once}
use Rattle.script_parts.specs.callless_fits.specs.sock_deeds.proofs.OrdersOfDeeds.{orders}
use Rattle.script_parts.specs.ThreadScriptTold.{AreCallsTold}
use Rattle.script_threads.specs.ServedScriptTold.{IsThreadsRun}
use Rattle.script_threads.proofs.Speaking.{parts_of}
use Rattle.script_threads.proofs.AttemptsOnThreads.{calls_apart}
use Rattle.script_threads.proofs.WhyThreadCallsFailed.{failed, again, expires}
use Rattle.script_threads.proofs.SocketsOfReadLinks as sockets
use Rattle.script_threads.proofs.ClientsTellingOperations.{keeps, of_calls, said, said_ended, begun_not}

module _ (P : Type 0) {O I : Type 0} (g : Ghosts O) (out : O → OutState) (inn : I → InState) (bytes : List ℕ) (script : List Item) (reads : script_of bytes ≡ Ok script) (text : List ℕ) (links : List LinkEnd) (r : IsThreadsRun P g out inn script text links) where
  open parts_of r use {p, all, last, outcomes}

  module _ (given : ℕ → List ℕ) (is_gave : given ≡ sockets.gave P g out inn bytes script reads text links r) where
    abbrev fixed : Fixed
    fixed = sockets.fixed P g out inn bytes script reads text links r

    abbrev by_link : ℕ → Order
    by_link = orders (sockets.run P g out inn bytes script reads text links r) (sockets.differ P g out inn bytes script reads text links r)

    -- but for the codes of a crowded id
    expired : (client of : ℕ) (t : Task) (by : Outcome) → IsTask all outcomes client t → t.op ≡ ops.Expire of → Became all outcomes t.number by → WhyExpired p all outcomes fixed given by_link client t.number of by
    expired = expire_why r.left.ran (sockets.are P g out inn bytes script reads text links r) (sockets.may P g out inn bytes script reads text links r) last.notes last.kept r.rest.words r.rest.closing (sockets.have P g out inn bytes script reads text links r) (keeps P g out inn bytes script reads text links r) outcomes (said P g out inn bytes script reads text links r) (said_ended P g out inn bytes script reads text links r) (begun_not P g out inn bytes script reads text links r)
        fixed given by_link (of_calls P g out inn bytes script reads text links r)

    told_here : AreCallsTold (plan_of script) all outcomes fixed given by_link (last_attempt last.notes) links
    told_here = record {
      expires = λ client of t by is op became. expires P g out inn bytes script reads text links r given is_gave client of t by is op became (expired client of t by is op became);
      expired_once = once r.left.ran (sockets.are P g out inn bytes script reads text links r) (sockets.may P g out inn bytes script reads text links r) last.notes last.kept r.rest.words r.rest.closing (sockets.have P g out inn bytes script reads text links r) (keeps P g out inn bytes script reads text links r) outcomes (said P g out inn bytes script reads text links r) (said_ended P g out inn bytes script reads text links r) (begun_not P g out inn bytes script reads text links r);
      failed = failed P g out inn bytes script reads text links r given is_gave;
      again = again P g out inn bytes script reads text links r given is_gave;
      versions = calls_apart P g out inn bytes script reads text links r;
    }

    pub calls_beside : AreCallsTold (plan_of script) (all_tasks script) outcomes fixed given by_link (last_attempt last.notes) links
    calls_beside = subst (λ (l : List (List Task)). AreCallsTold (plan_of script) l outcomes fixed given by_link (last_attempt last.notes) links) r.left.tasks told_here
