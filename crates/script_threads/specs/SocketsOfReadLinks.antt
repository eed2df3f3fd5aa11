-- What is told of the sockets of a script whose links were served and read beside its clients.
use Rattle.std.specs.Prelude.{ℕ, ◌≡◌, List, Option}
use Rattle.sock_words.specs.declared.outcome.Outcome.{Outcome}
use Rattle.sock_words.specs.declared.place_word.PlaceWord.{PlaceWord}
use Rattle.brpc_model.specs.Items.{Item}
use Rattle.brpc_model.specs.ReturnedLink.{LinkEnd}
use Rattle.seat_programs.specs.Cores.{Core}
use Rattle.seat_programs.specs.ScriptSetupToEnding.{all_tasks, place_words}
use Rattle.seat_programs.specs.Tasks.{plan_of}
use Rattle.seat_programs.specs.ExplainedCalls.{Order}
use Rattle.script_parts.specs.report_fits.specs.ScriptLinkEnds.{AreEndsOf}
use Rattle.script_parts.specs.callless_fits.specs.sock_deeds.specs.SocketsTold.{fixed_by, ToldSockets}

-- Why each operation on sockets has its outcome, by what became of all others; and each link took the messages that it accepted in one order, whole and once,
-- those of each client in its own order. Each life that failed was failed by a `fail`, by its own link, or by the reader of its link, whose reading ended early
pub record AreSocketsTold (script : List Item) (outcomes : List (Option Outcome)) (places : List PlaceWord) (gave : ℕ → List ℕ) (ends : List LinkEnd) : Type 0 where
  -- what the closed table left: its words, of which those of places are reported, and what the links took
  pub core : Core
  pub words : place_words (plan_of script) core.words ≡ places
  -- the links that answered a put that they failed, those whose reading ended early, and the `fail`s that were answered `failed`, each with the link of the life that it failed
  pub broken : List ℕ
  pub early : List ℕ
  pub fails : List (ℕ × ℕ)
  -- what each link accepted, and how many messages it took whole
  pub orders : ℕ → Order
  pub tells : ToldSockets (plan_of script) (all_tasks script) outcomes (fixed_by broken early fails) gave orders core
  -- the links are those of this run: they took what is at home, and show where they failed and where their reading ended early
  pub ends_told : AreEndsOf script core (fixed_by broken early fails) gave ends
