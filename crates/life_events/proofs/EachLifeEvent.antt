-- Each step of a seat, and so each tick of a machine, is one event of the plain model, or none.
use Rattle.std.proofs.Common.{◌≡◌, ℕ, List, [], ◌∷◌, set, refl, ap, true, false, eqb, eqb-true}
use mathlib.Core.Option.{Option, some, none}
use lib.ListN.{get_elem?}
use Rattle.atomic_table.specs.Table.{State}
use Rattle.sock_words.specs.declared.plain.Plan.{Plan}
use Rattle.sock_words.specs.PackedWords.{socket_id_version, socket_id_slot, vref_version}
use Rattle.sock_model.specs.declared.chain.Right.{Right}
use Rattle.sock_model.specs.declared.home.Home.{Home}
use Rattle.sock_model.specs.declared.view.View.{View}
use Rattle.sock_model.specs.declared.view.Hand.{Hand}
use Rattle.sock_model.specs.ChainRows.{taken_right}
use Rattle.sock_model.specs.UnplacedMessages.{HeadedBytes}
use Rattle.sock_model.specs.ChainLawReads.{message, link_home}
use Rattle.sock_model.specs.LawfulSockets.{Lawful}
use Rattle.sock_model.specs.PlainReferences.{Event, Nothing, Becomes, Leads, plain}
use Rattle.seat_programs.specs.TableSteps.{TableStep, OnSlot, ClaimSlot, CreateLife, AddRef, SubRef, SetOdd, Recycle, FreeSlot, StoreLink, ResetHead, ClearCode, StoreCode}
use Rattle.seat_programs.specs.Programs.{Program, Do, TakeMessage, TakeHome, PutHome, PutBytes, Write, Round}
use Rattle.seat_programs.specs.LoopRounds.{round, first_step}
use Rattle.seat_programs.specs.Cores.{Core, SeatState, found_at}
use Rattle.seat_programs.specs.StepTables.{word_of}
use Rattle.seat_programs.specs.SendAndWritePrograms.{block}
use Rattle.seat_programs.specs.Ticks.{Answer, OfPut, Moment, AreAnswered, ticked}
use Rattle.seat_programs.specs.StepTables.{row, hand_at}
use Rattle.seat_programs.specs.StepsOfMessages.{took_message}
use Rattle.seat_programs.specs.StepsOfLinks.{link_away, link_home_again, took_bytes}
use Rattle.seat_programs.specs.StepTables.{May}
use Rattle.sock_runs.specs.program_steps.specs.ProgramGoesOn.{GoesOn}
use Rattle.sock_runs.specs.program_steps.specs.SoundSeats.{Sound, state, views_with_message, views_with_link, views_with_put, views_with, views_of, views_after, views_along, AreFitting}
use Rattle.life_events.specs.LifeEventOfStep.{event_of, next_event, event_at, events_of}
use Rattle.sock_model.specs.declared.marks.Mark.TheVariants as mark
use Rattle.sock_model.specs.Marks.{at}
use Rattle.sock_runs.specs.program_steps.proofs.Leaves.{noting_marks}
use Rattle.sock_runs.specs.program_steps.proofs.AllowedRounds.{begins_round}
use Rattle.sock_runs.specs.program_steps.proofs.AsideStepsPass.{goes_round}
use Rattle.sock_runs.proofs.LinkTicks.{RetriesGo}
use Rattle.sock_runs.proofs.TicksKeepSeatsSound.{sound_ticks}
use Rattle.sock_runs.specs.program_steps.proofs.TickCases.{with_rights, right_rights, put_rights}
use Rattle.life_events.proofs.Grown.{Same, same_marks, silent_more}
use Rattle.life_events.proofs.StepsAsLifeEvents.{nothing, marks_event, claim_event, birth_event, add_event, sub_event, fail_event, recycle_event, free_event, stage_event, code_event}

-- each step is its event
pub each_step : {S : Type 0} (shows : S → Home) (p : Plan) (s : State S View) → Lawful shows p s → (id : ℕ) (v : View) → get_elem? s.views id ≡ some v → (call : TableStep) (hand : Hand) → May p v call
    → Becomes (plain s.views) (event_of id call (found_at s.words (word_of p call)) v) (plain (set s.views id (row p call (found_at s.words (word_of p call)) hand v)))
each_step shows p s o id v here (OnSlot (ClaimSlot i)) hand may = claim_event shows p s o id v here i (found_at s.words (word_of p (OnSlot (ClaimSlot i))))
each_step shows p s o id v here (OnSlot (CreateLife i k)) hand may = birth_event shows p s o id v here i may.0 k may.1
each_step shows p s o id v here (OnSlot (AddRef x)) hand may = let knows = may.0 in
    add_event shows p s o id v here (socket_id_slot x) knows.0 (socket_id_version x) (eqb (vref_version (found_at s.words (word_of p (OnSlot (AddRef x))))) (socket_id_version x)) (eqb-true (vref_version (found_at s.words (word_of p (OnSlot (AddRef x))))) (socket_id_version x)) knows.1
each_step shows p s o id v here (OnSlot (SubRef i)) hand may = sub_event shows p s o id v here i may.0 may.1
each_step shows p s o id v here (OnSlot (SetOdd i)) hand may = let held = may.1 in fail_event shows p s o id v here i may.0 held.0 held.1
each_step shows p s o id v here (OnSlot (Recycle i from)) hand may = recycle_event shows p s o id v here i may.0 from may.1 may.2 may.3
each_step shows p s o id v here (OnSlot (FreeSlot i)) hand may = free_event shows p s o id v here i
each_step shows p s o id v here (OnSlot (StoreLink i k)) hand may = let w : View = row p (OnSlot (StoreLink i k)) (found_at s.words (word_of p (OnSlot (StoreLink i k)))) hand v in stage_event shows p s o id v here i 0 0 1 k w.passes
each_step shows p s o id v here (OnSlot (ResetHead i k)) hand may = stage_event shows p s o id v here i 1 k 2 k v.passes
each_step shows p s o id v here (OnSlot (ClearCode i k)) hand may = stage_event shows p s o id v here i 2 k 3 k v.passes
each_step shows p s o id v here (OnSlot (StoreCode i h c)) hand may = code_event shows p s o id v here i h c
each_step shows p s o id v here call hand may = let found : ℕ = found_at s.words (word_of p call) in nothing shows p s o id v here (row p call found hand v)
    (noting_marks p v found hand (Same v.marks) (same_marks v.marks) (λ i w. silent_more v.marks v.marks (same_marks v.marks) i (mark.Saw w) refl) (λ i h k. silent_more v.marks v.marks (same_marks v.marks) i (mark.Met h k) refl)
    (λ i h c w. silent_more v.marks (at i (mark.Saw w) ∷ v.marks) (silent_more v.marks v.marks (same_marks v.marks) i (mark.Saw w) refl) i (mark.Told h c) refl) (λ i h. silent_more v.marks v.marks (same_marks v.marks) i (mark.Known h) refl) call refl)

module _ (p : Plan) (c : Core) (views : List View) (sound : Sound p c views) (m : Moment) where
  -- a move or a put of whoever writes a link leaves all but its right
  moved : (v w : View) → get_elem? views m.seat ≡ some v → (rights : List Right) × (w ≡ with_rights v rights) → Becomes (plain views) Nothing (plain (set views m.seat w))
  moved v w here x = marks_event (λ (home : Home). home) p (state c views) sound.lawful m.seat v here w (ap (λ (u : View). u.marks) x.1)

  of_letter : (v : View) → get_elem? views m.seat ≡ some v → (x : Option HeadedBytes) → Becomes (plain views) Nothing (plain (views_with_message p m.seat c views v x))
  of_letter v here none = (tt, refl)
  of_letter v here (some letter) = moved v (took_message letter.0 letter.1 v) here (right_rights v v.rights (λ r. taken_right r letter.0 letter.1))

  of_home : (v : View) → get_elem? views m.seat ≡ some v → (x : Option (List ℕ × ℕ)) → Becomes (plain views) Nothing (plain (views_with_link p m.seat c views v x))
  of_home v here none = (tt, refl)
  of_home v here (some home) = moved v (link_away v) here (right_rights v v.rights (λ r. record r { at_home = false }))

  of_put : (v : View) → get_elem? views m.seat ≡ some v → (answer : Answer) → Becomes (plain views) Nothing (plain (views_with_put p m.seat c views v answer))
  of_put v here (OfPut answer) = moved v (took_bytes answer v) here (put_rights v answer)
  of_put v here _ = (tt, refl)

  of_first : (program : Program) (v : View) → get_elem? views m.seat ≡ some v → GoesOn p v program → Becomes (plain views) (next_event p m.seat program c.words v) (plain (views_with p m.seat c views v m.answer program))
  of_first (Do call next) v here goes = each_step (λ (home : Home). home) p (state c views) sound.lawful m.seat v here call (hand_at p c.words c.homes call) goes.0
  of_first (TakeMessage q next) v here goes = of_letter v here (message (λ (home : Home). home) c.homes q)
  of_first (TakeHome k next) v here goes = of_home v here (link_home (λ (home : Home). home) p c.homes k)
  of_first (PutHome k n after) v here goes = moved v (link_home_again v) here (right_rights v v.rights (λ r. record r { at_home = true }))
  of_first (PutBytes k asked bytes next) v here goes = of_put v here m.answer
  of_first _ v here goes = (tt, refl)

  of_program : (program : Program) (v : View) → get_elem? views m.seat ≡ some v → GoesOn p v program → Becomes (plain views) (next_event p m.seat (first_step program) c.words v) (plain (views_of p m.seat c views v m.answer program))
  of_program (Write w after) v here goes = of_first (block w after) v here (begins_round p v w after goes)
  of_program (Round head next) v here goes = of_first (round head next) v here (goes_round p v head next goes)
  of_program program v here goes = of_first program v here goes

  of_view : (seat : SeatState) → get_elem? c.seats m.seat ≡ some seat → (o : Option View) → get_elem? views m.seat ≡ o
      → Becomes (plain views) (elim o as (λ o. Event) [ none ↦ Nothing | some v ↦ next_event p m.seat (first_step seat.program) c.words v ]) (plain (elim o as (λ o. List View) [ none ↦ views | some v ↦ views_of p m.seat c views v m.answer seat.program ]))
  of_view seat at_seat none here = (tt, refl)
  of_view seat at_seat (some v) here = of_program seat.program v here (sound.seats m.seat seat v at_seat here).goes_on

  of_seat : (o : Option SeatState) → get_elem? c.seats m.seat ≡ o → Becomes (plain views)
      (elim o as (λ o. Event) [ none ↦ Nothing | some seat ↦ elim (get_elem? views m.seat) as (λ o. Event) [ none ↦ Nothing | some v ↦ next_event p m.seat (first_step seat.program) c.words v ] ])
      (plain (elim o as (λ o. List View) [ none ↦ views | some seat ↦ elim (get_elem? views m.seat) as (λ o. List View) [ none ↦ views | some v ↦ views_of p m.seat c views v m.answer seat.program ] ]))
  of_seat none at_seat = (tt, refl)
  of_seat (some seat) at_seat = of_view seat at_seat (get_elem? views m.seat) refl

  -- each tick is one event, or none
  pub each_tick : Becomes (plain views) (event_at p c views m) (plain (views_after p c views m))
  each_tick = of_seat (get_elem? c.seats m.seat) refl

-- and each run of ticks is their events one after another
pub each_run : (p : Plan) → RetriesGo p → (moments : List Moment) (c : Core) (views : List View) → Sound p c views → AreAnswered p c moments → AreFitting p c moments → Leads (plain views) (events_of p c views moments) (plain (views_along p c views moments))
each_run p retries_go [] c views sound answered fitting = refl
each_run p retries_go (m ∷ moments) c views sound answered fitting = (plain (views_after p c views m), each_tick p c views sound m, each_run p retries_go moments (ticked p c m) (views_after p c views m) (sound_ticks p retries_go c views m sound answered.0 fitting.0) answered.1 fitting.1)
