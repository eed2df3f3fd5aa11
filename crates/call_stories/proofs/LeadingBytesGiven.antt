-- What each link gave so far is the beginning of what it gives in the end.
use Rattle.std.proofs.Common.{◌≡◌, ℕ, List, [], ◌∷◌, ◌++◌, length, length-set, get_or, get_or-set_same, get_or-set_other, set, sym, ap, ◌∙◌, append_assoc, arith}
use Rattle.std.proofs.lemmas.List.{get_or_past, append-nil}
use mathlib.Core.Logic.{dite}
use mathlib.Core.Option.{Option, none, some}
use native.Mathlib.Decide.{ℕ_discrete, dec_le}
use lib.ListN.{get_elem?}
use Rattle.sock_words.specs.declared.plain.Plan.{Plan}
use Rattle.sock_io.specs.declared.link.Put.{Put}
use Rattle.sock_io.specs.declared.link.Ready.{Ready}
use Rattle.sock_model.specs.UnplacedMessages.{HeadedBytes}
use Rattle.sock_model.specs.ChainLawReads.{message, link_home}
use Rattle.sock_model.specs.declared.home.Home.{Home}
use Rattle.corr_core.specs.declared.marks.Plan.{Plan as IdPlan}
use Rattle.seat_programs.specs.declared.task.Task.{Task}
use Rattle.seat_programs.specs.Asides.{Step, TakeBytes, Bytes, Found}
use Rattle.seat_programs.specs.Asides as asides
use Rattle.seat_programs.specs.Programs.{Program, TakeMessage, TakeHome, PutBytes, AskReady, Write, Aside, Round}
use Rattle.seat_programs.specs.SendAndWritePrograms.{block}
use Rattle.seat_programs.specs.LoopRounds.{round}
use Rattle.seat_programs.specs.FoundAndChangedAside.{found_in, calls_after}
use Rattle.seat_programs.specs.Cores.{Calls, Core, SeatState}
use Rattle.seat_programs.specs.Ticks.{Answer, OfPut, OfReady, Moment, taken, with_message, with_link, with_put, with_ready, with_found, step_with, tick_with, ticked, run}
use Rattle.call_stories.specs.LinkReadingLists.{gave_in}
use Rattle.call_stories.specs.Scenes.{LeadsTo}

-- each link gave what it gave before, and maybe more
abbrev Grows : List (List ℕ) → List (List ℕ) → Type 0
Grows old new = (k : ℕ) → (more : List ℕ) × (get_or new k [] ≡ get_or old k [] ++ more)

same_grows : (g : List (List ℕ)) → Grows g g
same_grows g k = ([], sym (append-nil (get_or g k [])))

more_grows : (g : List (List ℕ)) (l : ℕ) (bytes : List ℕ) → Grows g (set g l (get_or g l [] ++ bytes))
more_grows g l bytes k = dite (ℕ_discrete k l)
    (λ same. dite (dec_le (length g) l)
    (λ past. ([], get_or_past (set g l (get_or g l [] ++ bytes)) k [] (omega (arith, past, same, length-set g l (get_or g l [] ++ bytes))) ∙ (sym (get_or_past g k [] (omega (arith, past, same))) ∙ sym (append-nil (get_or g k [])))))
    (λ low. (bytes, ap (λ n. get_or (set g l (get_or g l [] ++ bytes)) n []) same ∙ (get_or-set_same g l (get_or g l [] ++ bytes) [] (omega (arith, low)) ∙ ap (λ n. get_or g n [] ++ bytes) (sym same)))))
    (λ ne. ([], get_or-set_other g l k (get_or g l [] ++ bytes) [] ne ∙ sym (append-nil (get_or g k []))))

step_grows : (step : Step) (found : Found step) (a : Calls) → Grows a.gave (calls_after step found a).gave
step_grows (TakeBytes l room) (Bytes bytes) a = more_grows a.gave l bytes
step_grows (TakeBytes l room) asides.Nothing a = same_grows a.gave
step_grows (TakeBytes l room) asides.NoMore a = same_grows a.gave
step_grows (TakeBytes l room) asides.AtEnd a = same_grows a.gave
step_grows (TakeBytes l room) asides.Closed a = same_grows a.gave
step_grows (TakeBytes l room) asides.Broken a = same_grows a.gave
step_grows _ found a = same_grows a.gave

module _ (p : Plan) (i : ℕ) (seat : SeatState) (c : Core) where
  found_grows : (step : Step) (x : Option (Found step)) (next : Found step → Program) → Grows c.calls.gave (with_found p i seat c step x next).calls.gave
  found_grows step none next = same_grows c.calls.gave
  found_grows step (some found) next = step_grows step found c.calls

  letter_grows : (r : ℕ) (x : Option HeadedBytes) (next : HeadedBytes → Program) → Grows c.calls.gave (with_message p i seat c r x next).calls.gave
  letter_grows r none next = same_grows c.calls.gave
  letter_grows r (some letter) next = same_grows c.calls.gave

  link_grows : (k : ℕ) (x : Option (List ℕ × ℕ)) (next : ℕ → Program) → Grows c.calls.gave (with_link p i seat c k x next).calls.gave
  link_grows k none next = same_grows c.calls.gave
  link_grows k (some home) next = same_grows c.calls.gave

  put_grows : (bytes : List ℕ) (answer : Answer) (next : Put → Program) → Grows c.calls.gave (with_put p i seat c bytes answer next).calls.gave
  put_grows bytes (OfPut put) next = same_grows c.calls.gave
  put_grows bytes _ next = same_grows c.calls.gave

  ready_grows : (answer : Answer) (next : Ready → Program) → Grows c.calls.gave (with_ready p i seat c answer next).calls.gave
  ready_grows (OfReady r) next = same_grows c.calls.gave
  ready_grows _ next = same_grows c.calls.gave

  with_grows : (answer : Answer) (program : Program) → Grows c.calls.gave (step_with p i seat c answer program).calls.gave
  with_grows answer (TakeMessage r next) = letter_grows r (message (λ (h : Home). h) c.homes r) (λ letter. next letter.0 letter.1)
  with_grows answer (TakeHome k next) = link_grows k (link_home (λ (h : Home). h) p c.homes k) next
  with_grows answer (PutBytes k asked bytes next) = put_grows bytes answer next
  with_grows answer (AskReady k next) = ready_grows answer next
  with_grows answer (Aside step next) = found_grows step (found_in step c.calls (taken answer)) next
  with_grows answer _ = same_grows c.calls.gave

  any_grows : (answer : Answer) (program : Program) → Grows c.calls.gave (tick_with p i seat c answer program).calls.gave
  any_grows answer (Write x after) = with_grows answer (block x after)
  any_grows answer (Round head next) = with_grows answer (round head next)
  any_grows answer program = with_grows answer program

tick_grows : (p : Plan) (c : Core) (m : Moment) → Grows c.calls.gave (ticked p c m).calls.gave
tick_grows p c m = by_seat (get_elem? c.seats m.seat)
  where
    by_seat : (x : Option SeatState) → Grows c.calls.gave (elim x as (λ o. Core) [ none ↦ c | some seat ↦ tick_with p m.seat seat c m.answer seat.program ]).calls.gave
    by_seat none = same_grows c.calls.gave
    by_seat (some seat) = any_grows p m.seat seat c m.answer seat.program

module _ (p : Plan) (q : IdPlan) (clients : List (List Task)) (gives : ℕ → List ℕ) where
  -- so a link gave the beginning of it before a tick, and before ticks one after another
  pub tick_leads : (c : Core) (m : Moment) → LeadsTo p q clients gives (ticked p c m) → LeadsTo p q clients gives c
  tick_leads c m lead k = let g = tick_grows p c m k in let l = lead k in (g.0 ++ l.0, sym (append_assoc (gave_in c k) g.0 l.0) ∙ (ap (λ xs. xs ++ l.0) (sym g.1) ∙ l.1))

  pub run_leads : (ms : List Moment) (c : Core) → LeadsTo p q clients gives (run p c ms) → LeadsTo p q clients gives c
  run_leads [] c lead = lead
  run_leads (m ∷ ms) c lead = tick_leads c m (run_leads ms (ticked p c m) lead)
