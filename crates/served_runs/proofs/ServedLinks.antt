-- In a whole run each link that was served gave the replies to what it took, and each call the reply to its own request.
use Rattle.std.proofs.Common.{◌≡◌, ℕ, suc, ◌<◌, Bool, true, false, cond, List, [], ◌∷◌, ◌++◌, length, filter_map, refl, sym, ap, ◌∙◌, arith}
use Rattle.std.specs.List.{AllByRecursion}
use Rattle.std.specs.Prelude.{slice_get, Some, IsTrue}
use Rattle.std.proofs.lemmas.Option.{slice_get_within}
use lib.ListN.{get_elem?}
use mathlib.Core.Option.{some}
use Rattle.chain_steps.proofs.TicketLists.{at_some}
use Rattle.brpc_model.specs.LinkFailureCauses.{HasFault}
use Rattle.brpc_model.specs.Frame.{Frame}
use Rattle.brpc_model.specs.Items.{Item, Shape, Open, opened_name, opened_shape}
use Rattle.brpc_model.specs.Reply.{reply}
use Rattle.brpc_model.specs.FrameStream.{stream}
use Rattle.brpc_model.specs.Operations.{Turn, link_shapes}
use Rattle.brpc_model.specs.ServedForTakenBytes.{given_for}
use Rattle.calm_runs.specs.send_causes.specs.Below.script_facts.proofs.ReadScriptFacts.{InRange}
use Rattle.calm_runs.specs.send_causes.specs.Below.script_facts.proofs.Targets.{AreThere}
use Rattle.seat_programs.specs.Asides.{AtEnd, Broken}
use Rattle.seat_programs.specs.Cores.{Core}
use Rattle.seat_programs.specs.Tasks.{opens, plan_of}
use Rattle.seat_programs.specs.ScriptSetupToEnding.{IsRunWithCalls}
use Rattle.calm_runs.specs.send_causes.specs.Below.outcome_stories.specs.Facts.{late_links_of_run}
use Rattle.calm_runs.specs.send_causes.specs.Below.outcome_stories.proofs.Members.{in_contains, contains_in}
use Rattle.calm_runs.specs.send_causes.specs.Below.joint_runs.proofs.RunsOfBothTables.{AreMade}
use Rattle.calm_runs.specs.send_causes.specs.Below.call_owing.specs.LivesOfLinks.{ClosesInRun}
use Rattle.calm_runs.specs.send_causes.specs.Below.run_theorems.specs.Heard.{heard_takes}
use Rattle.served_runs.specs.OfferedReplies.{OffersInRun}
use Rattle.calm_runs.specs.send_causes.specs.Below.call_stories.specs.LinkReadingLists.{gave_in}
use Rattle.calm_runs.specs.send_causes.specs.Below.accept_counts.proofs.EarlyClosedSockets.{known}
use Rattle.served_runs.specs.ServedLinks.{took_in_all, IsForCalls, GivesReplies, GivesFront, GivesLast, GivesNoFault, GivesCallReplies, GivesOwnReplies}
use Rattle.served_runs.proofs.OpenedLifeWord.{opened_word}
use Rattle.served_runs.proofs.OwnReplies.{IsReplied, replied_at, faultless, own_reply}
use Rattle.served_runs.proofs.RepliesOfWholeRun.{gives_all, gives_part, gives_at_end, link_inside}

by_true : {A : Type 0} (b : Bool) (x y : A) → IsTrue b → cond b x y ≡ x
by_true true x y is = refl
by_true false x y is = absurd (cc)

pub shapes_many : (items : List Item) → length (filter_map opened_shape items) ≡ length (filter_map opened_name items)
shapes_many [] = refl
shapes_many (Open name shape ∷ items) = ap suc (shapes_many items)
shapes_many (item ∷ items) = shapes_many items

module _ (script : List Item) (made : AreMade script) (there : AreThere script) (range : AllByRecursion InRange script) (turns : List Turn) (core : Core) (is : IsRunWithCalls script turns core) (closes : ClosesInRun script turns core is)
    (offers : OffersInRun script turns core is) where
  -- each link has an `open`
  link_open : (k : ℕ) (shape : Shape) → slice_get (link_shapes script) k ≡ Some shape → (o : ℕ) × (get_elem? (opens script) k ≡ some o)
  link_open k shape at = at_some (opens script) k (let l = slice_get_within (link_shapes script) k shape at in let m = shapes_many script in let n = (let x = known script made turns core is in x.as_many) in omega (arith, l, m, n))

  pub gives_replies : GivesReplies script turns core is
  gives_replies k shape s = let x = link_open k shape s.opened in
      gives_all script made turns core is offers k x.0 x.1 shape s.opened closes (λ m. s.in_time (in_contains (late_links_of_run script turns core is) k m))
      (opened_word script made there range turns core is closes s.name k s.slot s.version s.lived x.0 x.1) (λ m. s.whole (in_contains (heard_takes is k) Broken m)) s.faultless s.few
      ∙ by_true shape.serve (given_for shape (took_in_all script turns core is k)) [] s.serves

  part : (k : ℕ) (shape : Shape) → slice_get (link_shapes script) k ≡ Some shape → (more : List ℕ) × (gave_in core k ++ more ≡ cond shape.serve (given_for shape (took_in_all script turns core is k)) [])
  part k shape at = let x = link_open k shape at in gives_part script made turns core is offers k x.0 x.1 shape at closes

  pub gives_front : GivesFront script turns core is
  gives_front k shape at serves = let x = part k shape at in (x.0, x.1 ∙ by_true shape.serve (given_for shape (took_in_all script turns core is k)) [] serves)

  pub gives_last : GivesLast script turns core is
  gives_last k shape at serves end_ more = let x = link_open k shape at in
      gives_at_end script made turns core is offers k x.0 x.1 shape at closes (contains_in (heard_takes is k) AtEnd end_) more ∙ by_true shape.serve (given_for shape (took_in_all script turns core is k ++ more)) [] serves

  -- ## Calls

  module _ (k : ℕ) (shape : Shape) (s : IsForCalls script turns core is k shape) where
    low : k < (plan_of script).links
    low = let x = link_open k shape s.opened in link_inside script made turns core is offers k x.0 x.1 shape s.opened

    replied : (n : ℕ) (frame : Frame) → slice_get (stream (gave_in core k)).frames n ≡ Some frame → IsReplied script made there range turns core is closes k low s.unsent frame
    replied n frame stands = let x = gives_front k shape s.opened s.serves in replied_at script made there range turns core is closes k low s.unsent shape x.0 x.1 n frame stands

    no_fault : HasFault (gave_in core k) → ⊥
    no_fault fault = let x = gives_front k shape s.opened s.serves in faultless script made there range turns core is closes k low s.unsent shape x.0 x.1 fault

  pub gives_no_fault : GivesNoFault script turns core is
  gives_no_fault k shape s fault = no_fault k shape s fault

  pub gives_call_replies : GivesCallReplies script turns core is
  gives_call_replies k n shape frame s stands = let r = replied k shape s n frame stands in let m = r.made_so in record { client = m.client; task = m.task; asked = m.asked; outcome = m.outcome; id = m.id; attempt = m.attempt; is_task = m.is_task; op = m.op; became = m.became; shows = m.shows; few = m.few; made = m.tried; replies = sym (ap reply m.frame) ∙ r.replied }

  pub gives_own_replies : GivesOwnReplies script turns core is
  gives_own_replies k n id client shape frame t asked outcome s stands it op became shows above below =
      own_reply script made there range turns core is closes k (low k shape s) s.unsent n id client frame t asked outcome (replied k shape s n frame stands) it op became shows above below
