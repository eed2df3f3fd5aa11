-- What all submitters noted of the queue's socket, once the table is closed.
use Rattle.std.proofs.Common.{◌≡◌, inl, inr, ℕ, zero, suc, ◌+◌, ◌<◌, ◌≤◌, Bool, true, false, cond, eqb, List, [], ◌∷◌, ◌++◌, flat_map, refl, sym, ap, ◌∙◌, subst, arith}
use mathlib.Core.Logic.{dite}
use native.Mathlib.Decide.{dec_lt}
use mathlib.Core.Option.{some, some-injective, some-ne-none}
use lib.ListN.{get_elem?}
use Rattle.atomic_table.specs.declared.shared.Seat.{Seat}
use Rattle.sock_io.specs.LinkHalves.{OutState}
use Rattle.sock_io.specs.declared.link.Out.{Ghosts}
use Rattle.sock_words.specs.declared.plain.Plan.{Plan}
use Rattle.sock_words.specs.declared.place_word.PlaceWord.{PlaceWord}
use Rattle.sock_words.specs.declared.vref.Vref.{Vref}
use Rattle.sock_words.specs.PackedWords.{socket_id_slot, socket_id_version}
use Rattle.sock_words.specs.Totals.{total}
use Rattle.sock_model.specs.declared.marks.Mark.{Mark}
use Rattle.sock_model.specs.declared.marks.SlotMark.{SlotMark}
use Rattle.sock_model.specs.declared.view.View.{View}
use Rattle.sock_model.specs.Marks.{about}
use Rattle.sock_model.specs.MarkWeights.{is_failer, is_known, is_saw, is_met, is_linked}
use Rattle.sock_model.specs.SlotRows.{marks_of}
use Rattle.sock_model.specs.SocketTableLayout.{request_index}
use Rattle.sock_rule.specs.LinkFaultNotes.{is_fault, faults_link}
use Rattle.sock_rule.specs.declared.homes.SockHome.{SockHome}
use Rattle.sock_table.specs.ClosedSocketTable.{ClosedBy}
use Rattle.chain_orders.specs.MessagesInOneOrder.{LinkFailed}
use Rattle.chain_orders.specs.PlacesInOrder.{LinkPlaced}
use Rattle.chain_orders.proofs.NotesOfSeats.{noted_by}
use Rattle.chain_orders.proofs.MergedLists.{map_there, map_back}
use Rattle.chain_orders.specs.SentMessages.{Sent}
use Rattle.exec_queue.specs.declared.task.Task.{Task}
use Rattle.exec_queue.specs.declared.queue.TaskQueue.{TaskQueue}
use Rattle.exec_queue.specs.declared.queue.TaskSubmitter.{TaskSubmitter}
use Rattle.exec_queue.specs.Submitters.{IsSubmitter, IsQueuePlan}
use Rattle.exec_queue.specs.StoppedQueue.{SawLater, failings, NotedFault, Failed, NotesFit}
use Rattle.exec_queue.specs.EndedQueue.{AreSubmitters, stops_of}
use Rattle.exec_queue.proofs.SentTasks.{seats_of}

-- ## Amounts

about_more : (f : Mark → ℕ) (i : ℕ) (ms ns : List SlotMark) → total f (about i (ms ++ ns)) ≡ total f (about i ms) + total f (about i ns)
about_more f i [] ns = omega arith
about_more f i (m ∷ ms) ns = let again = about_more f i ms ns in
    elim (eqb m.slot i) as (λ (t : Bool). total f (cond t (m.mark ∷ about i (ms ++ ns)) (about i (ms ++ ns))) ≡ total f (cond t (m.mark ∷ about i ms) (about i ms)) + total f (about i ns)) [
      | true ↦ omega arith
      | false ↦ again
    ]

module _ {S : Type 0} (f : Mark → ℕ) (i : ℕ) where
  abbrev pub amount : Seat S View → ℕ
  amount s = marks_of f i s.me.0

  -- what all noted together
  all_noted : (seats : List (Seat S View)) → total f (about i (flat_map (λ (s : Seat S View). s.me.0.marks) seats)) ≡ total amount seats
  all_noted [] = refl
  all_noted (s ∷ ss) = about_more f i s.me.0.marks (flat_map (λ (s : Seat S View). s.me.0.marks) ss) ∙ (let again = all_noted ss in omega arith)

  one_below : (seats : List (Seat S View)) (c : ℕ) (s : Seat S View) → get_elem? seats c ≡ some s → amount s ≤ total amount seats
  one_below [] c s at = absurd (some-ne-none s (sym at))
  one_below (x ∷ xs) zero s at = let e : amount x ≡ amount s = ap amount (some-injective x s at) in omega arith
  one_below (x ∷ xs) (suc c) s at = let h = one_below xs c s at in omega arith

-- the marks of one slot are among all
about_below : (k i : ℕ) (ms : List SlotMark) → total (is_fault k) (about i ms) ≤ total (faults_link k) ms
about_below k i [] = omega arith
about_below k i (m ∷ ms) = let again = about_below k i ms in
    elim (eqb m.slot i) as (λ (t : Bool). total (is_fault k) (cond t (m.mark ∷ about i ms) (about i ms)) ≤ faults_link k m + total (faults_link k) ms) [
      | true ↦ omega arith
      | false ↦ omega arith
    ]

-- ## What was found

right_part : {A : Type 0} (xs ys : List A) (n : ℕ) (u : A) → get_elem? ys n ≡ some u → (i : ℕ) × (get_elem? (xs ++ ys) i ≡ some u)
right_part [] ys n u at = (n, at)
right_part (x ∷ xs) ys n u at = let w = right_part xs ys n u at in (suc w.0, w.1)

left_part : {A : Type 0} (xs ys : List A) (n : ℕ) (u : A) → get_elem? xs n ≡ some u → get_elem? (xs ++ ys) n ≡ some u
left_part [] ys n u at = absurd (some-ne-none u (sym at))
left_part (x ∷ xs) ys zero u at = at
left_part (x ∷ xs) ys (suc n) u at = left_part xs ys n u at

pub found_among : {S : Type 0} (seats : List (Seat S View)) (c : ℕ) (s : Seat S View) (n x : ℕ) → get_elem? seats c ≡ some s → get_elem? s.me.0.found n ≡ some x → (m : ℕ) × (get_elem? (flat_map (λ (s : Seat S View). s.me.0.found) seats) m ≡ some x)
found_among [] c s n x at bt = absurd (some-ne-none s (sym at))
found_among {S} (y ∷ ys) zero s n x at bt = (n, left_part y.me.0.found (flat_map (λ (s : Seat S View). s.me.0.found) ys) n x (ap (λ (z : Seat S View). get_elem? z.me.0.found n) (some-injective y s at) ∙ bt))
found_among {S} (y ∷ ys) (suc c) s n x at bt = let w = found_among ys c s n x at bt in right_part y.me.0.found (flat_map (λ (s : Seat S View). s.me.0.found) ys) w.0 x w.1

-- ## The submitters

module _ {O : Type 0} {g : Ghosts O} (q : TaskQueue O g) where
  pub one_of : (tss : List (List Task)) (ss : List (TaskSubmitter O g)) → AreSubmitters q tss ss → (c : ℕ) (s : TaskSubmitter O g) → get_elem? ss c ≡ some s → (ts : List Task) × IsSubmitter q ts s
  one_of [] [] are c s at = absurd (some-ne-none s (sym at))
  one_of [] (x ∷ xs) are c s at = absurd are
  one_of (ts ∷ tss) [] are c s at = absurd are
  one_of (ts ∷ tss) (x ∷ xs) are zero s at = (ts, subst (IsSubmitter q ts) (some-injective x s at) are.0)
  one_of (ts ∷ tss) (x ∷ xs) are (suc c) s at = one_of tss xs are.1 c s at

  -- where each failed the life by calls of `stop` alone, these are the times that it was failed
  stops_all : (ss : List (TaskSubmitter O g)) → ((c : ℕ) (s : TaskSubmitter O g) → get_elem? ss c ≡ some s → failings q.id.0 s.seat.me.0 ≡ s.stops) → total (amount (is_failer (socket_id_version q.id.0)) (socket_id_slot q.id.0)) (seats_of q ss) ≡ stops_of ss
  stops_all [] each = refl
  stops_all (s ∷ ss) each = let e = each 0 s refl in let again = stops_all ss (λ c x at. each (suc c) x at) in omega arith

-- ## The closed table

module _ {O : Type 0} {g : Ghosts O} (q : TaskQueue O g) (tss : List (List Task)) (ss : List (TaskSubmitter O g)) (are : AreSubmitters q tss ss) (plan : IsQueuePlan q.table.rule.plan)
    {state : O → OutState} {places : List PlaceWord} {vrefs : List Vref} {outs : List O} (closed : ClosedBy state q.table.rule.plan (seats_of q ss) places vrefs outs) where
  abbrev p : Plan
  p = q.table.rule.plan

  abbrev slot : ℕ
  slot = socket_id_slot q.id.0

  abbrev version : ℕ
  version = socket_id_version q.id.0

  abbrev seats : List (Seat (SockHome O g) View)
  seats = seats_of q ss

  -- what the last view has of the slot is what all noted
  view_has : (f : Mark → ℕ) → marks_of f slot closed.view ≡ total (amount f slot) seats
  view_has f = ap (λ (ms : List SlotMark). total f (about slot ms)) closed.marks ∙ all_noted f slot seats

  seat_at : (c : ℕ) (s : TaskSubmitter O g) → get_elem? ss c ≡ some s → get_elem? seats c ≡ some s.seat
  seat_at c s at = map_there (λ (x : TaskSubmitter O g). x.seat) ss c s at

  view_more : (f : Mark → ℕ) (c : ℕ) (s : TaskSubmitter O g) → get_elem? ss c ≡ some s → 0 < marks_of f slot s.seat.me.0 → 0 < marks_of f slot closed.view
  view_more f c s at some_ = let e = view_has f in let h = one_below f slot seats c s.seat (seat_at c s at) in omega arith

  noted_at : (c : ℕ) (s : TaskSubmitter O g) → get_elem? ss c ≡ some s → NotesFit p q.id.0 s.stops s.told s.full s.seat.me.0
  noted_at c s at = (one_of q tss ss are c s at).1.noted

  -- a seat is that of a submitter
  submitter_at : (c : ℕ) (x : Seat (SockHome O g) View) → get_elem? seats c ≡ some x → (s : TaskSubmitter O g) × (get_elem? ss c ≡ some s) × (s.seat ≡ x)
  submitter_at c x at = map_back (λ (s : TaskSubmitter O g). s.seat) ss c x at

  inside : (c : ℕ) (s : TaskSubmitter O g) → get_elem? ss c ≡ some s → slot < p.slots
  inside c s at = (one_of q tss ss are c s at).1.ready.known.inside

  -- whoever found a later version: the life was failed once
  failed_once : (c : ℕ) (s : TaskSubmitter O g) → get_elem? ss c ≡ some s → SawLater q.id.0 s.seat.me.0 → marks_of (is_failer version) slot closed.view ≡ 1
  failed_once c s at saw = closed.closing.dead_failed slot version saw.0 (inside c s at) (view_more (is_known version) c s at (one_of q tss ss are c s at).1.ready.known.known) (view_more (is_saw saw.0) c s at saw.2) saw.1

  -- a link that was found is link 0
  met_zero : (c k : ℕ) (s : TaskSubmitter O g) → get_elem? ss c ≡ some s → 0 < marks_of (is_met version k) slot s.seat.me.0 → k ≡ 0
  met_zero c k s at met =
      let linked = closed.closing.met_linked slot version k (inside c s at) (view_more (is_met version k) c s at met) in
      let w = noted_by (is_linked version k) slot seats closed.view closed.marks linked in
      let m = submitter_at w.1.0 w.0 w.1.1 in
      ((noted_at w.1.0 m.0 m.1).made version k (subst (λ (x : Seat (SockHome O g) View). 0 < marks_of (is_linked version k) slot x.me.0) (sym m.2) w.2)).1

  module _ (messages : List Sent) (link : LinkPlaced state p seats places outs 0 messages) where
    -- a fault that was noted the half has
    pub fault_there : (c : ℕ) (s : TaskSubmitter O g) → get_elem? ss c ≡ some s → NotedFault q.id.0 s.seat.me.0 → 0 < (state link.out).faults
    fault_there c s at f =
        let zero_ = met_zero c f.0 s at f.2 in
        let some_ : 0 < marks_of (is_fault 0) slot s.seat.me.0 = subst (λ (k : ℕ). 0 < marks_of (is_fault k) slot s.seat.me.0) zero_ f.1 in
        let below = about_below 0 slot s.seat.me.0.marks in
        link.faulted c s.seat (seat_at c s at) (omega arith)

    module _ (clean : (c : ℕ) (s : TaskSubmitter O g) → get_elem? ss c ≡ some s → NotedFault q.id.0 s.seat.me.0 → ⊥) where
      stops_each : (c : ℕ) (s : TaskSubmitter O g) → get_elem? ss c ≡ some s → failings q.id.0 s.seat.me.0 ≡ s.stops
      stops_each c s at = by_notes (noted_at c s at).failed
        where
          by_notes : Failed q.id.0 s.stops s.seat.me.0 → failings q.id.0 s.seat.me.0 ≡ s.stops
          by_notes (inl e) = e
          by_notes (inr w) = absurd (clean c s at w.1)

      -- the life was failed as often as `stop` answered Ok
      stops_are : marks_of (is_failer version) slot closed.view ≡ stops_of ss
      stops_are = view_has (is_failer version) ∙ stops_all q ss stops_each

      pub stopped_once : (c : ℕ) (s : TaskSubmitter O g) → get_elem? ss c ≡ some s → SawLater q.id.0 s.seat.me.0 → stops_of ss ≡ 1
      stopped_once c s at saw = sym stops_are ∙ failed_once c s at saw

      pub one_stop : stops_of ss ≤ 1
      one_stop = dite (dec_lt 0 (stops_of ss)) some_stop (λ none_. omega arith)
        where
          some_stop : 0 < stops_of ss → stops_of ss ≤ 1
          some_stop some_ =
              let e = stops_are in
              let w = noted_by (is_failer version) slot seats closed.view closed.marks (omega arith) in
              let m = submitter_at w.1.0 w.0 w.1.1 in
              let saw = (noted_at w.1.0 m.0 m.1).dead (subst (λ (x : Seat (SockHome O g) View). 0 < marks_of (is_failer version) slot x.me.0) (sym m.2) w.2) in
              let once = stopped_once w.1.0 m.0 m.1 saw in
              omega arith

      pub told_stop : (c : ℕ) (s : TaskSubmitter O g) → get_elem? ss c ≡ some s → s.told ≡ true → stops_of ss ≡ 1
      told_stop c s at told = stopped_once c s at ((noted_at c s at).later told)

      -- its life was failed only where there was a stop
      pub link_stopped : LinkFailed p seats 0 → stops_of ss ≡ 0 → ⊥
      link_stopped f none_ =
          let m = submitter_at f.gives.0 f.giver f.gives.1 in
          let n = submitter_at f.fails.0 f.failer f.fails.1 in
          let slots = plan.slots in
          let low = f.inside in
          let own = inside f.gives.0 m.0 m.1 in
          let same : f.slot ≡ slot = omega arith in
          let given : 0 < marks_of (is_linked f.version 0) slot m.0.seat.me.0 = subst (λ (i : ℕ). 0 < marks_of (is_linked f.version 0) i m.0.seat.me.0) same (subst (λ (x : Seat (SockHome O g) View). 0 < marks_of (is_linked f.version 0) f.slot x.me.0) (sym m.2) f.given) in
          let life = ((noted_at f.gives.0 m.0 m.1).made f.version 0 given).0 in
          let failed : 0 < marks_of (is_failer version) slot n.0.seat.me.0 = subst (λ (h : ℕ). 0 < marks_of (is_failer h) slot n.0.seat.me.0) life (subst (λ (i : ℕ). 0 < marks_of (is_failer f.version) i n.0.seat.me.0) same (subst (λ (x : Seat (SockHome O g) View). 0 < marks_of (is_failer f.version) f.slot x.me.0) (sym n.2) f.failed)) in
          let e = stops_are in
          let some_ = view_more (is_failer version) f.fails.0 n.0 n.1 failed in
          omega arith

    pub found_full : (c : ℕ) (s : TaskSubmitter O g) → get_elem? ss c ≡ some s → s.full ≡ true → (r : ℕ) → r < p.requests → (n : ℕ) × (get_elem? (flat_map (λ (x : Seat (SockHome O g) View). x.me.0.found) seats) n ≡ some (request_index p r))
    found_full c s at full r low = let w = (noted_at c s at).taken full r low in found_among seats c s.seat w.0 (request_index p r) (seat_at c s at) w.1
