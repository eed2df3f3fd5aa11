-- Each tick keeps the whole rule, where it keeps what is lawful and each seat's view is of this table.
use Rattle.std.proofs.Common.{◌≡◌, ◌≢◌, ℕ, ◌+◌, ◌-◌, ◌*◌, ◌%◌, ◌==◌, cond, eq-eqb, ne_eqb, List, ◌++◌, get_or, set, refl, sym, ap, ◌∙◌, subst, ⊎_elim, arith, nat_lt, IsTrue, true, false, length}
use mathlib.Core.Logic.{dite}
use native.Mathlib.Decide.{ℕ_discrete}
use mathlib.Core.Option.{Option, some, none}
use lib.ListN.{get_elem?}
use Rattle.atomic_table.proofs.Lists.{at_set}
use Rattle.sock_words.specs.declared.plain.Plan.{Plan}
use Rattle.sock_io.specs.declared.link.Put.{Put}
use Rattle.sock_io.specs.declared.link.Ready.{Ready}
use Rattle.sock_model.specs.declared.chain.Right.{Right}
use Rattle.sock_model.specs.declared.home.Home.{Home}
use Rattle.sock_model.specs.declared.view.View.{View}
use Rattle.sock_model.specs.declared.view.Hand.{Hand}
use Rattle.sock_model.specs.SocketTableLayout.{head_index, name_index, open_index, request_index, all_words}
use Rattle.sock_model.specs.ChainRows.{entry_of, queued, righted, taken_right}
use Rattle.sock_model.specs.UnplacedMessages.{HeadedBytes}
use Rattle.sock_model.specs.ChainLawReads.{message, link_home}
use Rattle.sock_model.specs.LawfulSockets.{Lawful}
use Rattle.sock_model.specs.Rule.{Lasting, of_name, of_open, of_request, Rule}
use Rattle.seat_programs.specs.TableSteps.{TableStep, OnName, OnChain, StoreName, LoadName, StoreOpen, LoadOpen, ClaimRequest, SwapHead, FreeRequest}
use Rattle.seat_programs.specs.Programs.{Program, Do, TakeMessage, TakeHome, PutHome, PutBytes, AskReady, Write, Aside, Round}
use Rattle.seat_programs.specs.Asides.{Step, Found}
use Rattle.seat_programs.specs.FoundAndChangedAside.{found_in}
use Rattle.seat_programs.specs.LoopRounds.{round}
use Rattle.seat_programs.specs.SendAndWritePrograms.{block}
use Rattle.seat_programs.specs.Cores.{Core, SeatState, words_after, homes_after, found_at, lies_at, first_of, others_of, link_place, with_seat}
use Rattle.seat_programs.specs.TableWords.{TableWord, NameOf, OpenOf, RequestOf, index_of}
use Rattle.seat_programs.specs.StepTables.{May, word_of, word_after, row, hand_at}
use Rattle.seat_programs.specs.Ticks.{Answer, OfPut, OfReady, Moment, fed, with_places, onto_first, taken, with_message, with_link, with_put, with_ready, with_found, step_with, tick_with, ticked}
use Rattle.seat_programs.specs.StepViews.{by_claim}
use Rattle.seat_programs.specs.StepsOfChain.{exchanged}
use Rattle.seat_programs.specs.StepsOfMessages.{took_message}
use Rattle.seat_programs.specs.StepsOfLinks.{link_away, link_home_again, took_bytes}
use Rattle.sock_runs.specs.program_steps.proofs.WordFrame.{is_on, load_leaves, word_stays}
use Rattle.sock_runs.specs.program_steps.specs.ProgramGoesOn.{GoesOn}
use Rattle.sock_runs.specs.program_steps.specs.SoundSeats.{Sound, state, views_with_message, views_with_link, views_with_put, views_with, views_of, views_after}
use Rattle.sock_steps.proofs.SumsAsMarksChange.{either_way}
use Rattle.sock_runs.specs.program_steps.proofs.Leaves.{plan_stays}
use Rattle.sock_runs.specs.program_steps.proofs.AllowedRounds.{begins_round}
use Rattle.sock_runs.specs.program_steps.proofs.AsideStepsPass.{goes_round}
use Rattle.sock_runs.specs.program_steps.proofs.TickCases.{beside, with_rights, right_rights, put_rights}
use Rattle.sock_runs.proofs.FewAcceptedMessages.{row_same, IsShorter}
use Rattle.sock_steps.proofs.RuleFrame.{accept_rule, Lasts, lasts_all, lasts_set, lasting_in, still_rule, same_rule}
use Rattle.sock_words.specs.PackedWords.{IDLE}

positive : (w : ℕ) → IsTrue (nat_lt 0 w) → w ≢ 0
positive w some_ e = let z : false ≡ true = subst (λ (n : ℕ). IsTrue (nat_lt 0 n)) e some_ in cc

-- no step makes a lasting word 0
module _ (p : Plan) (ws : List ℕ) (sized : length ws ≡ all_words p) where
  load_lasts : (o : Option TableWord) → Lasts p ws (words_after ws (index_of p o) (found_at ws (index_of p o)))
  load_lasts o = subst (λ vs. Lasts p ws vs) (sym (load_leaves p ws o)) (lasts_all p ws)

  same_lasts : (vs : List ℕ) (x y : ℕ) → x ≡ y → get_or vs y 0 ≡ get_or ws y 0 → get_or ws x 0 ≢ 0 → get_or vs x 0 ≢ 0
  same_lasts vs x y e same some_ z = some_ (sym (subst (λ n. get_or vs n 0 ≡ get_or ws n 0) (sym e) same) ∙ z)

  -- a step on no word of a name, an operation or a request
  lasts_left : (v : View) (call : TableStep) → May p v call → (stored : ℕ) → is_on 5 call ≡ false → is_on 6 call ≡ false → is_on 7 call ≡ false → Lasts p ws (words_after ws (word_of p call) stored)
  lasts_left v call may stored name open_ request x (of_name n l e) = same_lasts (words_after ws (word_of p call) stored) x (name_index p n) e (word_stays p ws v call may stored (NameOf n) l (omega arith) name)
  lasts_left v call may stored name open_ request x (of_open o l e) = same_lasts (words_after ws (word_of p call) stored) x (open_index p o) e (word_stays p ws v call may stored (OpenOf o) l (omega arith) open_)
  lasts_left v call may stored name open_ request x (of_request q l e) = same_lasts (words_after ws (word_of p call) stored) x (request_index p q) e (word_stays p ws v call may stored (RequestOf q) l (omega arith) request)

  pub call_lasts : (v : View) (call : TableStep) → May p v call → Lasts p ws (words_after ws (word_of p call) (word_after call (found_at ws (word_of p call))))
  call_lasts v (OnName (StoreName n w)) may = lasts_set p ws sized (name_index p n) w (λ l. positive w may.1)
  call_lasts v (OnName (LoadName n)) may = load_lasts (some (NameOf n))
  call_lasts v (OnName (StoreOpen o w)) may = lasts_set p ws sized (open_index p o) w (λ l. ⊎_elim (λ e z. absurd (omega arith)) (λ a. positive w a.0) may.1)
  call_lasts v (OnName (LoadOpen o)) may = load_lasts (some (OpenOf o))
  call_lasts v (OnChain (ClaimRequest id q)) may = let found : ℕ = get_or ws (request_index p q) 0 in
      lasts_set p ws sized (request_index p q) (word_after (OnChain (ClaimRequest id q)) found) (λ l. dite (ℕ_discrete (found % 2) 0)
      (λ even z. let is : cond (found % 2 == 0) (found + 1) found ≡ found + 1 = ap (λ b. cond b (found + 1) found) (eq-eqb (found % 2) 0 even) in absurd (omega (arith, z, is)))
      (λ odd z. let is : cond (found % 2 == 0) (found + 1) found ≡ found = ap (λ b. cond b (found + 1) found) (ne_eqb (found % 2) 0 odd) in odd (omega (arith, z, is))))
  call_lasts v (OnChain (FreeRequest q g)) may = lasts_set p ws sized (request_index p q) (2 * (g + 1)) (λ l z. absurd (omega arith))
  call_lasts v call may = lasts_left v call may (word_after call (found_at ws (word_of p call))) refl refl refl

-- so no tick does: a name and an `open` keep having an id, and a request that was claimed once is never as new again
module _ (p : Plan) (c : Core) (views : List View) (sound : Sound p c views) (m : Moment) where
  -- there is a view for each seat
  no_view : (seat : SeatState) → get_elem? c.seats m.seat ≡ some seat → get_elem? views m.seat ≡ none → ⊥
  no_view seat at gone = beside c.seats views m.seat seat sound.each at gone

  letter_lasts : (seat : SeatState) (q : ℕ) (x : Option HeadedBytes) (next : HeadedBytes → Program) → Lasts p c.words (with_message p m.seat seat c q x next).words
  letter_lasts seat q none next = lasts_all p c.words
  letter_lasts seat q (some letter) next = lasts_all p c.words

  home_lasts : (seat : SeatState) (k : ℕ) (x : Option (List ℕ × ℕ)) (next : ℕ → Program) → Lasts p c.words (with_link p m.seat seat c k x next).words
  home_lasts seat k none next = lasts_all p c.words
  home_lasts seat k (some home) next = lasts_all p c.words

  put_lasts : (seat : SeatState) (bytes : List ℕ) (answer : Answer) (next : Put → Program) → Lasts p c.words (with_put p m.seat seat c bytes answer next).words
  put_lasts seat bytes (OfPut answer) next = lasts_all p c.words
  put_lasts seat bytes _ next = lasts_all p c.words

  ready_lasts : (seat : SeatState) (answer : Answer) (next : Ready → Program) → Lasts p c.words (with_ready p m.seat seat c answer next).words
  ready_lasts seat (OfReady answer) next = lasts_all p c.words
  ready_lasts seat _ next = lasts_all p c.words

  aside_lasts : (seat : SeatState) (step : Step) (x : Option (Found step)) (next : Found step → Program) → Lasts p c.words (with_found p m.seat seat c step x next).words
  aside_lasts seat step none next = lasts_all p c.words
  aside_lasts seat step (some found) next = lasts_all p c.words

  first_lasts : (seat : SeatState) (program : Program) (v : View) → GoesOn p v program → Lasts p c.words (step_with p m.seat seat c m.answer program).words
  first_lasts seat (Do call next) v goes = call_lasts p c.words sound.lawful.references.sized v call goes.0
  first_lasts seat (TakeMessage q next) v goes = letter_lasts seat q (message (λ (home : Home). home) c.homes q) (λ letter. next letter.0 letter.1)
  first_lasts seat (TakeHome k next) v goes = home_lasts seat k (link_home (λ (home : Home). home) p c.homes k) next
  first_lasts seat (PutBytes k asked bytes next) v goes = put_lasts seat bytes m.answer next
  first_lasts seat (AskReady k next) v goes = ready_lasts seat m.answer next
  first_lasts seat (Aside step next) v goes = aside_lasts seat step (found_in step c.calls (taken m.answer)) next
  first_lasts seat _ v goes = lasts_all p c.words

  program_lasts : (seat : SeatState) (program : Program) (v : View) → GoesOn p v program → Lasts p c.words (tick_with p m.seat seat c m.answer program).words
  program_lasts seat (Write w after) v goes = first_lasts seat (block w after) v (begins_round p v w after goes)
  program_lasts seat (Round head next) v goes = first_lasts seat (round head next) v (goes_round p v head next goes)
  program_lasts seat program v goes = first_lasts seat program v goes

  view_lasts : (seat : SeatState) → get_elem? c.seats m.seat ≡ some seat → (o : Option View) → get_elem? views m.seat ≡ o → Lasts p c.words (tick_with p m.seat seat c m.answer seat.program).words
  view_lasts seat at none here = absurd (no_view seat at here)
  view_lasts seat at (some v) here = program_lasts seat seat.program v (sound.seats m.seat seat v at here).goes_on

  seat_lasts : (o : Option SeatState) → get_elem? c.seats m.seat ≡ o → Lasts p c.words (elim o as (λ o. Core) [ none ↦ c | some seat ↦ tick_with p m.seat seat c m.answer seat.program ]).words
  seat_lasts none at = lasts_all p c.words
  seat_lasts (some seat) at = view_lasts seat at (get_elem? views m.seat) refl

  pub tick_lasts : Lasts p c.words (ticked p c m).words
  tick_lasts = seat_lasts (get_elem? c.seats m.seat) refl

-- all views are of this table, none was taken in
abbrev pub OfTable : Plan → List View → Type 0
OfTable p views = (id : ℕ) (v : View) → get_elem? views id ≡ some v → v.plan ≡ p

module _ (p : Plan) (c : Core) (views : List View) (sound : Sound p c views) (all : OfTable p views) (r : Rule (λ (home : Home). home) p (state c views))
    (shorter : (j : ℕ) (v : View) → get_elem? views j ≡ some v → IsShorter v) (m : Moment) where
  abbrev i : ℕ
  i = m.seat

  -- what is lawful after the tick is all that is wanted
  abbrev Kept : Core → List View → Type 0
  Kept c' views' = Lawful (λ (home : Home). home) p (state c' views') → Rule (λ (home : Home). home) p (state c' views') × OfTable p views'

  row_rule : (v : View) → get_elem? views i ≡ some v → (hand : List Home) (call : TableStep) → May p v call
      → Lawful (λ (home : Home). home) p record { words = words_after c.words (word_of p call) (word_after call (found_at c.words (word_of p call))); homes = homes_after p call hand c.homes; views = set views i (row p call (found_at c.words (word_of p call)) (hand_at p c.words c.homes call) v) }
      → Rule (λ (home : Home). home) p record { words = words_after c.words (word_of p call) (word_after call (found_at c.words (word_of p call))); homes = homes_after p call hand c.homes; views = set views i (row p call (found_at c.words (word_of p call)) (hand_at p c.words c.homes call) v) }
  row_rule v here hand (OnChain (SwapHead j own)) may law = let x = may.1 in let found : ℕ = get_or c.words (head_index j) 0 in let took : Hand = hand_at p c.words c.homes (OnChain (SwapHead j own)) in
      let P : View → Type 0 = λ w. Lawful (λ (home : Home). home) p record { words = set c.words (head_index j) own; homes = c.homes; views = set views i w } → Rule (λ (home : Home). home) p record { words = set c.words (head_index j) own; homes = c.homes; views = set views i w } in
      let low = may.0 in let apart : Lasting p (head_index j) → own ≢ 0 = λ l. let a = (lasting_in p (head_index j) l).0 in absurd (omega arith) in
      subst (λ cs. P (by_claim cs (exchanged found took v) v)) (sym x.claims)
      (either_way (nat_lt found IDLE) (queued v x.claim found) (righted v x.claim found took.took took.next) P
      (accept_rule r i v here (all i v here) (queued v x.claim found) (head_index j) own x.made x.taken_in (entry_of x.claim found) refl refl x.lists refl (shorter i v here x.made x.taken_in x.lists) apart)
      (accept_rule r i v here (all i v here) (righted v x.claim found took.took took.next) (head_index j) own x.made x.taken_in (entry_of x.claim (found - IDLE)) refl refl x.lists refl (shorter i v here x.made x.taken_in x.lists) apart)) law
  row_rule v here hand call may law = same_rule r i v here (all i v here) (row p call (found_at c.words (word_of p call)) (hand_at p c.words c.homes call) v) (words_after c.words (word_of p call) (word_after call (found_at c.words (word_of p call)))) (homes_after p call hand c.homes)
      (row_same p call (found_at c.words (word_of p call)) (hand_at p c.words c.homes call) v refl) (call_lasts p c.words r.lawful.references.sized v call may) law

  -- another view of this table in the place of the seat's
  table_set : (v w : View) → get_elem? views i ≡ some v → w.plan ≡ v.plan → OfTable p (set views i w)
  table_set v w here same j u g = ⊎_elim (λ y. ap (λ (z : View). z.plan) (sym y.1) ∙ (same ∙ all i v here)) (λ y. all j u y.1) (at_set views i j w u g)

  -- a move or a put of whoever writes a link leaves all but its right
  moved : (v w : View) (program : Program) (hand : List Home) (hs : List (Option Home)) → get_elem? views i ≡ some v → (rights : List Right) × (w ≡ with_rights v rights) → Kept (with_seat i program hand c.words hs c) (set views i w)
  moved v w program hand hs here x law = (
    still_rule r i v here (all i v here) w hs record { plan = ap (λ (u : View). u.plan) x.1; found = ap (λ (u : View). u.found) x.1; lists = ap (λ (u : View). u.lists) x.1 } law,
    table_set v w here (ap (λ (u : View). u.plan) x.1),
  )

  of_letter : (seat : SeatState) (v : View) → get_elem? views i ≡ some v → (q : ℕ) (x : Option HeadedBytes) (next : HeadedBytes → Program) → Kept (with_message p i seat c q x next) (views_with_message p i c views v x)
  of_letter seat v here q none next law = (r, all)
  of_letter seat v here q (some letter) next law = moved v (took_message letter.0 letter.1 v) (next letter) seat.hand (set c.homes q none) here (right_rights v v.rights (λ r. taken_right r letter.0 letter.1)) law

  of_home : (seat : SeatState) (v : View) → get_elem? views i ≡ some v → (k : ℕ) (x : Option (List ℕ × ℕ)) (next : ℕ → Program) → Kept (with_link p i seat c k x next) (views_with_link p i c views v x)
  of_home seat v here k none next law = (r, all)
  of_home seat v here k (some home) next law = moved v (link_away v) (next home.1) (lies_at c.homes (link_place p k) ++ seat.hand) (set c.homes (link_place p k) none) here (right_rights v v.rights (λ r. record r { at_home = false })) law

  of_put : (seat : SeatState) (v : View) → get_elem? views i ≡ some v → (bytes : List ℕ) (answer : Answer) (next : Put → Program) → Kept (with_put p i seat c bytes answer next) (views_with_put p i c views v answer)
  of_put seat v here bytes (OfPut answer) next law = moved v (took_bytes answer v) (next answer) (onto_first (fed bytes answer) seat.hand) c.homes here (put_rights v answer) law
  of_put seat v here bytes _ next law = (r, all)

  of_ready : (seat : SeatState) (answer : Answer) (next : Ready → Program) → Kept (with_ready p i seat c answer next) views
  of_ready seat (OfReady answer) next law = (r, all)
  of_ready seat _ next law = (r, all)

  of_aside : (seat : SeatState) (step : Step) (x : Option (Found step)) (next : Found step → Program) → Kept (with_found p i seat c step x next) views
  of_aside seat step none next law = (r, all)
  of_aside seat step (some found) next law = (r, all)

  of_first : (seat : SeatState) (program : Program) (v : View) → get_elem? views i ≡ some v → GoesOn p v program → Kept (step_with p i seat c m.answer program) (views_with p i c views v m.answer program)
  of_first seat (Do call next) v here goes law = let found : ℕ = found_at c.words (word_of p call) in let w : View = row p call (found_at c.words (word_of p call)) (hand_at p c.words c.homes call) v in
      (row_rule v here seat.hand call goes.0 law, table_set v w here (plan_stays p v found (hand_at p c.words c.homes call) call))
  of_first seat (TakeMessage q next) v here goes law = of_letter seat v here q (message (λ (home : Home). home) c.homes q) (λ letter. next letter.0 letter.1) law
  of_first seat (TakeHome k next) v here goes law = of_home seat v here k (link_home (λ (home : Home). home) p c.homes k) next law
  of_first seat (PutHome k n after) v here goes law =
      moved v (link_home_again v) after (others_of seat.hand) (set c.homes (link_place p k) (first_of (onto_first (with_places n) seat.hand))) here (right_rights v v.rights (λ r. record r { at_home = true })) law
  of_first seat (PutBytes k asked bytes next) v here goes law = of_put seat v here bytes m.answer next law
  of_first seat (AskReady k next) v here goes law = of_ready seat m.answer next law
  of_first seat (Aside step next) v here goes law = of_aside seat step (found_in step c.calls (taken m.answer)) next law
  of_first seat _ v here goes law = (r, all)

  of_program : (seat : SeatState) (program : Program) (v : View) → get_elem? views i ≡ some v → GoesOn p v program → Kept (tick_with p i seat c m.answer program) (views_of p i c views v m.answer program)
  of_program seat (Write w after) v here goes law = of_first seat (block w after) v here (begins_round p v w after goes) law
  of_program seat (Round head next) v here goes law = of_first seat (round head next) v here (goes_round p v head next goes) law
  of_program seat program v here goes law = of_first seat program v here goes law

  of_view : (seat : SeatState) → get_elem? c.seats i ≡ some seat → (o : Option View) → get_elem? views i ≡ o
      → Kept (tick_with p i seat c m.answer seat.program) (elim o as (λ o. List View) [ none ↦ views | some v ↦ views_of p i c views v m.answer seat.program ])
  of_view seat at none here law = absurd (no_view p c views sound m seat at here)
  of_view seat at (some v) here law = of_program seat seat.program v here (sound.seats i seat v at here).goes_on law

  of_seat : (o : Option SeatState) → get_elem? c.seats i ≡ o
      → Kept (elim o as (λ o. Core) [ none ↦ c | some seat ↦ tick_with p i seat c m.answer seat.program ])
      (elim o as (λ o. List View) [ none ↦ views | some seat ↦ elim (get_elem? views i) as (λ o. List View) [ none ↦ views | some v ↦ views_of p i c views v m.answer seat.program ] ])
  of_seat none at law = (r, all)
  of_seat (some seat) at law = of_view seat at (get_elem? views i) refl law

  -- a tick keeps the whole rule, where it keeps what is lawful and each seat may accept one message more
  pub tick_rule : Lawful (λ (home : Home). home) p (state (ticked p c m) (views_after p c views m)) → Rule (λ (home : Home). home) p (state (ticked p c m) (views_after p c views m)) × OfTable p (views_after p c views m)
  tick_rule law = of_seat (get_elem? c.seats m.seat) refl law
