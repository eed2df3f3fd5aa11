-- What is done at the table of sockets besides operations: a client waits for names, and gives back what it holds; and behind all clients the sockets are ended.
use Rattle.std.proofs.Common.{◌≡◌, ℕ, zero, suc, inl, inr, Option, Some, None, List, [], ◌∷◌, refl, ap}
use Rattle.atomic_table.specs.declared.shared.Seat.{Seat}
use Rattle.sock_io.specs.declared.link.Out.{Ghosts}
use Rattle.sock_io.specs.LinkHalves.{OutState}
use Rattle.sock_words.specs.ErrorCodes.{EEOF}
use Rattle.sock_words.specs.declared.outcome.Outcome.{Outcome}
use Rattle.sock_words.specs.declared.plain.Plan.{Plan}
use Rattle.sock_words.specs.declared.socket_id.SocketId.{SocketId}
use Rattle.sock_model.specs.declared.view.View.{View}
use Rattle.call_places.specs.Below.SockRule.SockHome.{SockHome}
use Rattle.call_places.specs.Below.SockTable.NotedVariants as noted
use Rattle.seat_programs.specs.declared.task.Task.{Task}
use Rattle.call_places.specs.Below.RpcClient.Held.{Held}
use Rattle.call_places.specs.Below.RpcClient.ToldOfOperation.{GaveFirst}
use Rattle.call_places.specs.Below.RpcReader.ReaderSocketFailing as reader
use Rattle.call_places.specs.Below.CallRun.EndingOfSockets.{FailedIf, EndedEach, EndedBehind}
use Rattle.call_places.specs.Below.CallRun.Threads.{FoundEach}
use Rattle.call_places.specs.sock_deeds.specs.Deeds.{Hand, Did, looks, takes, misses, sets, returns, own_number, DoneBy}
use Rattle.call_places.specs.sock_deeds.specs.SocketTableRun.{IsFor, listed, IsById, Ended}
use Rattle.call_places.specs.sock_deeds.proofs.DeedsByIdsAlone.{still_none_later}
use Rattle.call_places.specs.sock_deeds.proofs.StepsOfDeeds.{Steps, no_step, one_step, then_steps, steps_as}
use Rattle.call_places.specs.sock_deeds.proofs.WaitingForNames.{Waiting, no_wait, one_wait}

module _ {O : Type 0} (g : Ghosts O) (state : O → OutState) (p : Plan) where
  -- ## Waiting

  pub waiting : (names : List ℕ) (v w : View) → FoundEach p names v w → Waiting g state p names v w
  waiting [] v w e = no_wait v w e
  waiting (n ∷ ns) v w r = one_wait n ns v r.1 w r.0 r.2 (waiting ns r.1 w r.3)

  -- ## One deed that is no operation

  module _ (P : Did → Type 0) (held : List Held) where
    -- a hand with what is held still
    abbrev pub hand : View → Hand
    hand v = record { view = v; held = held }

    abbrev StepsHere : View → View → Type 0
    StepsHere v w = Steps g state p P [] (hand v) (hand w)

    did_one : (d : Did) (v w : View) → P d → listed (own_number d) ≡ [] → DoneBy g state p d (hand v) (hand w) → StepsHere v w
    did_one d v w is empty b = steps_as (listed (own_number d)) [] (hand v) (hand w) empty (one_step (record { did = d; before = hand v; after = hand w; done = b }) is)

    two : (u v w : View) → StepsHere u v → StepsHere v w → StepsHere u w
    two u v w a b = then_steps [] [] (hand u) (hand v) (hand w) a b

  -- ## What a client gives back in the end

  module _ (clients : List (List Task)) (outcomes : List (Option Outcome)) (c : ℕ) (held : List Held) where
    abbrev Fits : Did → Type 0
    Fits d = IsFor clients outcomes c d

    pub gave_steps : (h : List Held) (n : ℕ) (v w : View) → GaveFirst h n v w → StepsHere Fits held v w
    gave_steps h zero v w e = no_step (hand Fits held v) (hand Fits held w) (ap (hand Fits held) e)
    gave_steps h (suc n) v w r = two Fits held v r.0 w (gave_steps h n v r.0 r.2) (did_one Fits held (returns r.1.id.0) r.0 w tt refl (r.4, refl))

  -- ## The sockets that are ended

  -- by a seat that holds nothing by a name
  abbrev pub bare : View → Hand
  bare v = record { view = v; held = [] }

  abbrev EndSteps : View → View → Type 0
  EndSteps v w = StepsHere IsById [] v w

  then_end : (u v w : View) → EndSteps u v → EndSteps v w → EndSteps u w
  then_end u v w a b = two IsById [] u v w a b

  set_steps : (id : ℕ) (v w : View) → reader.SetOnce id EEOF v w → EndSteps v w
  set_steps id v w s = then_end v s.has w (did_one IsById [] (takes id) v s.has tt refl (s.live, s.held, refl))
      (then_end s.has s.set w (did_one IsById [] (sets id EEOF s.by) s.has s.set tt refl (s.set_by, refl, still_none_later id v s.has s.held s.live)) (did_one IsById [] (returns id) s.set w tt refl (s.returned, refl)))

  failed_steps : (id : Option SocketId) (v w : View) → FailedIf id v w → EndSteps v w
  failed_steps None v w e = no_step (bare v) (bare w) (ap bare e)
  failed_steps (Some id) v w f = elim f [ inl gone ↦ did_one IsById [] (misses id.0 gone.0) v w tt refl (gone.1, refl) | inr s ↦ set_steps id.0 v w s ]

  looked_steps : (operation : ℕ) (id : Option SocketId) (v w : View) → reader.OpenedBy p operation id v w → EndSteps v w
  looked_steps operation None v w b = did_one IsById [] (looks operation noted.Nothing) v w tt refl (b, refl)
  looked_steps operation (Some id) v w b = did_one IsById [] (looks operation (noted.Id id)) v w tt refl (b, refl)

  pub ended_steps : (os : List ℕ) (v w : View) → EndedEach p os v w → EndSteps v w
  ended_steps [] v w e = no_step (bare v) (bare w) (ap bare e)
  ended_steps (o ∷ os) v w r = let one = r.1 in then_end v r.0 w (then_end v one.noted r.0 (looked_steps o one.id v one.noted one.opened) (failed_steps one.id one.noted r.0 one.failed)) (ended_steps os r.0 w r.2)

  -- so a seat that took in these ended the sockets behind them
  pub ended_behind : (opens : List ℕ) (seats behind : List (Seat (SockHome O g) View)) → EndedBehind p opens seats behind → (e : Ended g state p seats) × (e.seat ∷ [] ≡ behind)
  ended_behind opens seats behind b =
      let s = ended_steps opens b.joined b.last.me.0 b.failed in
      (record { began = bare b.joined; took_in = b.took_in; deeds = s.deeds; ended = bare b.last.me.0; chain = s.chain; by_ids = s.each; seat = b.last; left = refl }, b.alone)
