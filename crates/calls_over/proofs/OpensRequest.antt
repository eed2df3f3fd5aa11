-- What a link with the server took, in a run in which nothing went wrong: the request of each message that it accepted.
use Rattle.std.proofs.Common.{◌≡◌, ℕ, ◌<◌, inl, eqb, eq-eqb, List, [], ◌++◌, flat_map, append-nil, refl, sym, ap, ◌∙◌, subst, arith}
use Rattle.std.specs.List.{AllByRecursion}
use mathlib.Core.Option.{some}
use lib.ListN.{get_elem?}
use Rattle.chain_steps.proofs.TicketLists.{filter_in}
use Rattle.sock_model.specs.declared.chain.Entry.{Entry}
use Rattle.sock_model.specs.Entries.{on}
use Rattle.sock_model.specs.LinksInSlots.{Given}
use Rattle.brpc_model.specs.Frame.{IsFrame}
use Rattle.brpc_model.specs.FrameStream.{stream}
use Rattle.served_fits.specs.Below.script_facts.proofs.FilteredLists.{Has, all_at, all_from, filter_has}
use Rattle.served_fits.specs.Below.script_facts.proofs.ScriptSizes.{is_counted}
use Rattle.served_fits.specs.Below.script_facts.proofs.Targets.{are_there}
use Rattle.sock_message.specs.Asked.{Asked, request_of, frame_of}
use Rattle.seat_programs.specs.Cores.{Core}
use Rattle.seat_programs.specs.ScriptSetupToEnding.{all_tasks, played}
use Rattle.seat_programs.specs.Tasks.{plan_of}
use Rattle.seat_programs.specs.Explained.{Became}
use Rattle.seat_programs.specs.ExplainedCalls.{Order, Fixed, ExplainedCalls, IsSent, OfSend, OfCall}
use Rattle.served_fits.specs.Below.programs_allowed.specs.program_steps.specs.SoundSeats.{state}
use Rattle.served_fits.specs.Below.programs_allowed.specs.program_walks.proofs.WholeScriptSound.{views_played}
use Rattle.served_fits.specs.Below.outcome_stories.proofs.Delivered.{accepted_of}
use Rattle.served_fits.specs.Below.joint_runs.proofs.RunsOfBothTables.{first_views}
use Rattle.served_fits.specs.Below.owned_ids.proofs.OpensStored.{at_place, place_at}
use Rattle.served_fits.specs.Below.run_theorems.proofs.ScriptStartsSoundly.{made}
use Rattle.served_fits.specs.Below.call_stories.specs.LinkReadingLists.{gave_in}
use Rattle.served_fits.specs.send_causes.proofs.AllTold.{told_of_run}
use Rattle.served_fits.specs.send_causes.proofs.Assembled.{fixed_in_run}
use Rattle.served_fits.specs.Below.attempted_calls.proofs.AttemptedStored.{ids_at}
use Rattle.served_fits.specs.send_causes.proofs.OwnIds.{own_id}
use Rattle.served_fits.specs.Below.sent_once.proofs.SocketOperationsTold.{orders_of_run}
use Rattle.served_fits.specs.served_runs.specs.OfferedReplies.{TookSoFar}
use Rattle.served_fits.specs.served_runs.proofs.WholeFrameStreams.{IsPiece, IsSmall, request_is}
use Rattle.served_fits.specs.served_runs.proofs.OwnReplies.{id_small}
use Rattle.served_fits.specs.served_calls.proofs.ReplyFrames.{piece_has}
use Rattle.served_fits.specs.served_calls.proofs.RequestsTakenByLinks.{IsCalled, small_call}
use Rattle.calls_over.proofs.OpensEntered.{early_log, rested_sound, idle_there, StandsLater, stands_later}
use Rattle.calls_over.proofs.OpensGiven.{CalmRun, are_made, targets, range}
use Rattle.calls_over.proofs.OpensQuiet.{unsent, unfailed}
use Rattle.calls_over.proofs.OpensTook.{IsHome, home}

module _ (calm : CalmRun) where
  open calm use {bytes, script, reads, turns, core, is, closes}

  abbrev rested : Core
  rested = played script is.setup (is.scheduled ++ is.later)

  abbrev own_fixed : Fixed
  own_fixed = fixed_in_run script (made bytes script reads) (are_there bytes script reads) (is_counted bytes script reads).in_range bytes reads turns core is closes

  abbrev own_orders : ℕ → Order
  own_orders = orders_of_run script (made bytes script reads) turns core is closes

  pub own_told : ExplainedCalls (plan_of script) (all_tasks script) core.outcomes own_fixed (gave_in core) own_orders core
  own_told = told_of_run script (are_made calm) (targets calm) (range calm) turns core is closes bytes reads

  -- ## A message

  -- it is the request of an attempt of a call
  pub record IsAttempt (e : Entry) : Type 0 where
    pub asked : Asked
    pub id : ℕ
    pub small : IsSmall asked id e.heading.label.attempt
    pub bytes_are : e.bytes ≡ frame_of asked id e.heading.label.attempt
    pub own : ids_at script core e.heading.label.operation ≡ id

  pub attempt_of : (q : ℕ) (e : Entry) → get_elem? (early_log script (made bytes script reads) turns core is) q ≡ some e → IsAttempt e
  attempt_of q e at = by (all_at (IsSent (plan_of script) (all_tasks script) core.outcomes own_fixed (gave_in core) own_orders own_told.last e.link) (own_orders e.link).accepted (accepted_of e) (own_told.sent e.link later.low) (later.place, later.stands))
    where
      later : StandsLater script (are_made calm) turns core is closes e
      later = stands_later script (are_made calm) turns core is closes q e at

      by : IsSent (plan_of script) (all_tasks script) core.outcomes own_fixed (gave_in core) own_orders own_told.last e.link (accepted_of e) → IsAttempt e
      by (OfSend client t name slot version it number op first life untold) = absurd (unsent calm e.link later.low client t name slot version e.bytes it op life)
      by (OfCall client t asked outcome id slot version it number op became shows last bytes_ life) = let became' : Became (all_tasks script) core.outcomes t.number outcome = subst (λ n. Became (all_tasks script) core.outcomes n outcome) (sym number) became in record {
        asked = asked;
        id = id;
        small = small_call script (are_made calm) turns core is own_fixed own_orders own_told (id_small script (are_made calm) (targets calm) (range calm) turns core is closes) client t asked outcome id e.heading.label.attempt it op became' shows (let same = ap own_told.last number in omega (arith, last, same));
        bytes_are = bytes_;
        own = subst (λ n. ids_at script core n ≡ id) number (own_id script (are_made calm) (targets calm) (range calm) turns core is closes client t asked it op outcome became' id shows);
      }

  -- ## A link

  module _ (q : ℕ) (e : Entry) (at : get_elem? (early_log script (made bytes script reads) turns core is) q ≡ some e) (k : ℕ) (over : e.link ≡ k) where
    low : k < (plan_of script).links
    low = subst (λ j. j < (plan_of script).links) over (stands_later script (are_made calm) turns core is closes q e at).low

    given_so : (j : ℕ) × (h : ℕ) × Given (plan_of script) (state rested (views_played script turns core is (first_views script))) j h e.link
    given_so = (let o = (rested_sound script (are_made calm) turns core is).lawful in o.in_slots.entered q e at)

    at_home : IsHome (plan_of script) rested (views_played script turns core is (first_views script)) (rested_sound script (are_made calm) turns core is) (λ i v there. (idle_there script (are_made calm) turns core is i v there).1) k low
        (unfailed calm k) given_so.0 given_so.1 (subst (Given (plan_of script) (state rested (views_played script turns core is (first_views script))) given_so.0 given_so.1) over given_so.2)
    at_home = home (plan_of script) rested (views_played script turns core is (first_views script)) (rested_sound script (are_made calm) turns core is) (λ i v there. (idle_there script (are_made calm) turns core is i v there).1) k low
        (unfailed calm k) given_so.0 given_so.1 (subst (Given (plan_of script) (state rested (views_played script turns core is (first_views script))) given_so.0 given_so.1) over given_so.2)

    pub taken : List ℕ
    taken = at_home.took

    pub taken_so : TookSoFar (plan_of script) (played script is.setup (is.scheduled ++ is.later)) k taken
    unfolding taken
    taken_so = (at_home.next, at_home.done, inl at_home.is)

    bytes_of : Entry → List ℕ
    bytes_of x = x.bytes

    abbrev log_on : List Entry
    log_on = on k (early_log script (are_made calm) turns core is)

    piece : (x : Entry) → Has (early_log script (are_made calm) turns core is) x → IsPiece IsCalled x.bytes
    piece x h = let a = attempt_of h.0 x (at_place (early_log script (are_made calm) turns core is) h.0 x h.1) in record {
      frame = request_of a.asked a.id x.heading.label.attempt;
      is = subst (λ b. IsFrame b (request_of a.asked a.id x.heading.label.attempt)) (sym a.bytes_are) (request_is a.asked a.id x.heading.label.attempt a.small);
      holds = record { asked = a.asked; id = a.id; attempt = x.heading.label.attempt; small = a.small; frame = refl };
    }

    pieces : AllByRecursion (λ (x : Entry). IsPiece IsCalled x.bytes) log_on
    pieces = all_from (λ (x : Entry). IsPiece IsCalled x.bytes) log_on (λ x h. piece x (filter_has (λ (y : Entry). eqb y.link k) (early_log script (are_made calm) turns core is) x h).0)

    -- its request is among the frames of what it took
    pub request_there : (a : IsAttempt e) → Has (stream taken).frames (request_of a.asked a.id e.heading.label.attempt)
    unfolding taken
    request_there a = subst (λ l. Has (stream l).frames (request_of a.asked a.id e.heading.label.attempt)) (append-nil (flat_map (λ (x : Entry). x.bytes) log_on) ∙ sym at_home.took_is)
        (piece_has (λ (x : Entry). x.bytes) IsCalled log_on pieces e (request_of a.asked a.id e.heading.label.attempt) there
        (subst (λ b. IsFrame b (request_of a.asked a.id e.heading.label.attempt)) (sym a.bytes_are) (request_is a.asked a.id e.heading.label.attempt a.small)) [])
      where
        there : Has log_on e
        there = let i = filter_in (λ (y : Entry). eqb y.link k) (early_log script (are_made calm) turns core is) q e at (eq-eqb e.link k over) in (i.0, place_at log_on i.0 e i.1)
