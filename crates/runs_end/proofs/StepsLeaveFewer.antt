-- Each step of a seat on the sockets leaves fewer; and so does one aside, where what it costs is less than what was counted for it.
use Rattle.std.proofs.Common.{◌≡◌, ◌≢◌, ℕ, zero, suc, ◌+◌, ◌-◌, ◌*◌, ◌<◌, ◌≤◌, ◌⊎◌, Bool, true, false, List, [], ◌∷◌, ◌++◌, length, length-append, length-set, set, refl, sym, ap, ap₂, ◌∙◌, subst, inl, inr, ⊎_elim, arith, cond, eqb, lt-ltb, le-ltb, eq-eqb, lt_of_not-le}
use Rattle.std.proofs.lemmas.Bool.{true≢false}
use Rattle.std.proofs.lemmas.Option.{none-some}
use Rattle.std.specs.Prelude as std
use mathlib.Core.Logic.{dite}
use mathlib.Core.Option.{Option, some, none, some-injective}
use native.Mathlib.Decide.{ℕ_discrete, dec_le}
use lib.ListN.{get_elem?}
use Rattle.std.specs.Prelude.{slice_index, None}
use Rattle.atomic_table.proofs.Lists.{at_set, set_again}
use Rattle.sock_words.specs.declared.plain.Plan.{Plan}
use Rattle.seat_programs.specs.sock_io.specs.declared.link.Put.{Put}
use Rattle.seat_programs.specs.sock_io.specs.declared.link.Ready.{Ready}
use Rattle.seat_programs.specs.sock_io.specs.declared.link.Ready.TheVariants.{NotYet}
use Rattle.sock_model.specs.declared.chain.Entry.{Entry}
use Rattle.sock_model.specs.declared.chain.Heading.{Heading}
use Rattle.sock_model.specs.declared.chain.Right.{Right}
use Rattle.sock_model.specs.declared.home.Home.{Home}
use Rattle.sock_model.specs.declared.home.Home.TheVariants.{Link, Message}
use Rattle.sock_model.specs.declared.view.View.{View}
use Rattle.sock_model.specs.declared.view.Hand.{Hand}
use Rattle.sock_model.specs.Entries.{on}
use Rattle.sock_model.specs.SocketTableLayout.{head_index, link_index, next_index}
use Rattle.sock_model.specs.MarkWeights.{only}
use Rattle.sock_model.specs.UnplacedMessages.{HeadedBytes}
use Rattle.sock_model.specs.ChainRows.{entry_of, more, new_right, queued, righted}
use Rattle.sock_model.specs.ChainLawReads.{letter_of, took_of, as_link, shown, message, link_home}
use Rattle.sock_steps.specs.slot_steps.proofs.SlotWeightSums.{total-set}
use Rattle.sock_steps.specs.slot_steps.proofs.RuleNumbers.{only-same}
use Rattle.sock_steps.specs.chain_steps.proofs.FewRightsAndClaims.{few_rights}
use Rattle.sock_steps.proofs.Maps.{set_at}
use Rattle.sock_steps.proofs.AcceptSteps.{link_in, idle_home}
use Rattle.sock_steps.proofs.Walked.{walk_less, turn_less, accepted_count}
use Rattle.seat_programs.specs.Writings.{Holder, Writing, Puts, Waits, Empties, Reversing}
use Rattle.seat_programs.specs.TableSteps.{TableStep, OnChain, OnMessage, SwapHead, PutMessage, ReadNext, ReverseNext}
use Rattle.seat_programs.specs.Programs.{Program, Do, Say, Sent, Rest, TakeMessage, TakeHome, PutHome, PutBytes, AskReady, Write, Aside, Round, Keep, Retries}
use Rattle.seat_programs.specs.LoopHeads.{Retry}
use Rattle.seat_programs.specs.SendAndWritePrograms.{block}
use Rattle.seat_programs.specs.corr_core.specs.IdSlotWord.{parts}
use Rattle.seat_programs.specs.corr_core.specs.declared.marks.Plan.{Plan as IdPlan}
use Rattle.seat_programs.specs.corr_core.proofs.NoteSums.{at_length}
use Rattle.seat_programs.specs.id_rule.specs.LawfulIdTable.{id_index}
use Rattle.seat_programs.specs.Cores.{Calls, Core, SeatState, resolved, still_waiting, waiting_at, found_at, words_after, homes_after, hand_after, lies_at, first_of, others_of, link_place, with_seat, next_step, stepped}
use Rattle.seat_programs.specs.StepTables.{word_of, word_after}
use Rattle.seat_programs.specs.Ticks.{Answer, OfReady, FitsPut, IsAnswer, fed, with_places, onto_first, with_message, with_link, step_with, tick_with, waits_at, waits}
use Rattle.seat_programs.specs.ScheduledRuns.{kind_in}
use Rattle.seat_programs.specs.StepTables.{row, hand_at}
use Rattle.seat_programs.specs.StepsOfLinks.{as_hand, link_away, link_home_again, took_bytes}
use Rattle.seat_programs.specs.StepViews.{by_claim}
use Rattle.seat_programs.specs.StepsOfChain.{exchanged}
use Rattle.seat_programs.specs.StepsOfMessages.{took_message}
use Rattle.seat_programs.specs.StepTables.{May, Finds}
use Rattle.sock_runs.specs.program_steps.specs.ProgramGoesOn.{GoesOn}
use Rattle.sock_runs.specs.program_steps.specs.SoundSeats.{state, Sound, views_with_message, views_with_link, views_with, views_of}
use Rattle.sock_runs.specs.program_steps.specs.TicksLeftAtMost.{STALE, CHANGE, home_weight, accepted, walk_left, ACCEPT, entries, walks_left, expects, arriving, stale_cost, fresh, id_left, ids_left, LastsFor, Lasts}
use Rattle.sock_runs.proofs.Founds.{finds}
use Rattle.sock_runs.proofs.ChainTicks.{held_link_is, has_one}
use Rattle.sock_runs.specs.program_steps.proofs.Leaves.{is_exchange, lists_stay}
use Rattle.sock_runs.proofs.LinkTicks.{RetriesGo, message_there}
use Rattle.sock_steps.proofs.LinkSteps.{link_home_law}
use Rattle.sock_runs.specs.program_steps.proofs.AllowedRounds.{begins_round}
use Rattle.sock_runs.specs.program_steps.proofs.TickCases.{answer_begins}
use Rattle.runs_end.proofs.Costs.{lasts_round, lasts_walk}
use Rattle.runs_end.proofs.SeatCosts.{IsThere, waiting_left, waiting_set, settled}
use Rattle.runs_end.proofs.IdsLeft.{all_stale}
use Rattle.runs_end.proofs.WalksLeft.{rights_few, read_less, message_few, away_few, home_few, put_few, message_lists, away_lists, home_lists, put_lists, lists_more, all_more, all_rights, set_few, held_light, home_cost, homes_few}
use Rattle.runs_end.proofs.WalksLeft as WalksLeft
use Rattle.sock_words.specs.PackedWords.{ticket_request, IDLE, UNCONNECTED}
use Rattle.sock_words.specs.Totals.{total}

-- ## Steps

-- a program that isn't at the head of a loop
abbrev IsStep : Program → Type 0
IsStep (Write w after) = ⊥
IsStep (Aside step next) = ⊥
IsStep (Round head next) = ⊥
IsStep other = Unit {0}

-- a program that stands aside of the sockets next is no such one
abbrev pub IsOfSockets : Program → Type 0
IsOfSockets (Aside step next) = ⊥
IsOfSockets (Round head next) = ⊥
IsOfSockets other = Unit {0}

-- a round begins with a step
never_rests : (w : Writing) (after : Program) → kind_in (block w after) ≡ None → ⊥
never_rests (Reversing h top place successor) then_ e = none-some _ (sym e)
never_rests _ after e = none-some _ (sym e)

-- a link that is told how many places it has is no message
light_places : (n : ℕ) (xs : List Home) → home_weight (first_of xs) ≡ 0 → home_weight (first_of (onto_first (with_places n) xs)) ≡ 0
light_places n [] light = refl
light_places n (Link k took next done ∷ xs) light = refl
light_places n (x ∷ xs) light = light

-- ## What stands aside

-- what one seat counts for the word that it expects, and all seats
abbrev pub seat_stale_in : List ℕ → SeatState → ℕ
seat_stale_in words s = total (stale_cost words) (expects s.program)

abbrev pub stale_left : List ℕ → List SeatState → ℕ
stale_left words seats = total (λ (s : SeatState). total (stale_cost words) (expects s.program)) seats

-- the words of all ids are the same
abbrev pub AreSameIds : List ℕ → List ℕ → Type 0
AreSameIds words others = (j : ℕ) → slice_index words (id_index j) ≡ slice_index others (id_index j)

expected_same : (words others : List ℕ) → AreSameIds words others → (xs : List (ℕ × ℕ)) → total (stale_cost words) xs ≡ total (stale_cost others) xs
expected_same words others ids [] = refl
expected_same words others ids (x ∷ xs) = ap₂ (λ a b. a + b) (ap (λ w. cond (eqb w x.1) 0 STALE) (ids x.0)) (expected_same words others ids xs)

stale_same : (words others : List ℕ) → AreSameIds words others → (seats : List SeatState) → stale_left words seats ≡ stale_left others seats
stale_same words others ids [] = refl
stale_same words others ids (s ∷ seats) = ap₂ (λ a b. a + b) (expected_same words others ids (expects s.program)) (stale_same words others ids seats)

ids_same : (requests : ℕ) (words others : List ℕ) → AreSameIds words others → (n : ℕ) → ids_left requests words n ≡ ids_left requests others n
ids_same requests words others ids zero = refl
ids_same requests words others ids (suc n) = ap₂ (λ a b. a + b) (ap (λ w. id_left requests (parts w)) (ids n)) (ids_same requests words others ids n)

-- ## Sums

moves_sum : (num num' H H' W W' I I' T Ta T' S S' k y b b' n : ℕ) → num' + k ≡ num + y → Ta ≡ T → T' + b ≤ Ta + b' → num + (H + W + (I + T + S)) ≤ n → y + (H' + W') + I' + b' + S' < k + (H + W) + I + b + S → num' + (H' + W' + (I' + T' + S')) < n
moves_sum num num' H H' W W' I I' T Ta T' S S' k y b b' n numbers same waits old less = omega (arith, numbers, same, waits, old, less)

quiet_sum : (y q f b' m b S' Sb o S H H' W W' k I I' : ℕ) → y + q + f + b' ≤ m + b → S' ≡ Sb → Sb + o ≡ S + q → m + (H' + W') < k + o + f + (H + W) → I' ≡ I → y + (H' + W') + I' + b' + S' < k + (H + W) + I + b + S
quiet_sum y q f b' m b S' Sb o S H H' W W' k I I' settles same stale less ids = omega (arith, settles, same, stale, less, ids)

loud_sum : (y q b' m b S' S H W W' k I I' : ℕ) → y + q + 0 + b' ≤ m + b → S' ≤ 128 → W' ≡ W → m + CHANGE + I' ≤ k + I → y + (H + W') + I' + b' + S' < k + (H + W) + I + b + S
loud_sum y q b' m b S' S H W W' k I I' settles stale walk less = omega (arith, settles, stale, walk, less)

-- ## A seat moves

-- what is left of all walks, with what was paid for accepted messages
abbrev pub walks : List View → ℕ
walks vs = walks_left vs

abbrev same : ℕ → ℕ
same k = k

-- where the seat's lists stay, so does what each link accepted
accepted_stays : (vs : List View) (i : ℕ) (v w : View) → get_elem? vs i ≡ some v → w.lists ≡ v.lists → (k : ℕ) → accepted (set vs i w) k ≡ accepted vs k
accepted_stays vs i v w at lists k = let f : View → ℕ = λ u. total (λ (l : List Entry). length (on k l)) u.lists in
    omega (arith, total-set f vs i v w at, ap (total (λ (l : List Entry). length (on k l))) lists)

entries_stay : (vs : List View) (i : ℕ) (v w : View) → get_elem? vs i ≡ some v → w.lists ≡ v.lists → entries (set vs i w) ≡ entries vs
entries_stay vs i v w at lists = omega (arith, total-set (λ (u : View). total (λ (l : List Entry). length l) u.lists) vs i v w at, ap (total (λ (l : List Entry). length l)) lists)

rights_with : (vs : List View) (i : ℕ) (v w : View) → get_elem? vs i ≡ some v → w.lists ≡ v.lists
    → total (λ (u : View). total (walk_left (accepted (set vs i w))) u.rights) (set vs i w) + total (walk_left (accepted vs)) v.rights ≡ total (λ (u : View). total (walk_left (accepted vs)) u.rights) vs + total (walk_left (accepted vs)) w.rights
rights_with vs i v w at lists = subst (λ (c : ℕ → ℕ). total (λ (u : View). total (walk_left c) u.rights) (set vs i w) + total (walk_left (accepted vs)) v.rights ≡ total (λ (u : View). total (walk_left (accepted vs)) u.rights) vs + total (walk_left (accepted vs)) w.rights)
    (sym (λ j k. accepted_stays vs i v w at lists k j)) (total-set (λ (u : View). total (walk_left (accepted vs)) u.rights) vs i v w at)

walks_with : (vs : List View) (i : ℕ) (v w : View) → get_elem? vs i ≡ some v → w.lists ≡ v.lists → walks (set vs i w) + total (walk_left (accepted vs)) v.rights ≡ walks vs + total (walk_left (accepted vs)) w.rights
walks_with vs i v w at lists = omega (arith, rights_with vs i v w at lists, entries_stay vs i v w at lists)

-- fewer are left of the core and the views
abbrev pub Fewer : Plan → ℕ → Core → List View → Type 0
Fewer p n d us = (l : ℕ) × (l < n) × Lasts p d us l

module _ (p : Plan) (c : Core) (vs : List View) (n : ℕ) (lasts : Lasts p c vs n) (i : ℕ) (seat : SeatState) (v : View) (at_seat : get_elem? c.seats i ≡ some seat) (at_view : get_elem? vs i ≡ some v)
    (k : ℕ) (at_number : get_elem? lasts.numbers i ≡ some k) where
  -- the program that the seat comes to, with what waits there
  abbrev comes_to : Calls → Program → Program
  comes_to a program = next_step (resolved (waiting_at a.waiting i) program)

  abbrev seat_then : Calls → Program → List Home → SeatState
  seat_then a program hand = record { program = next_step (resolved (waiting_at a.waiting i) program); hand = hand }

  -- fewer are left where all that is counted is fewer
  seat_moves : (a : Calls) → a.waiting ≡ c.calls.waiting → (program : Program) (hand : List Home) (ws : List ℕ) (hs : List (Option Home)) (w : View) (y : ℕ) → LastsFor p w (comes_to a program) (y + arriving (comes_to a program))
      → y + (total home_weight hs + walks (set vs i w)) + ids_left p.requests a.words a.plan.slots + waiting_left p (still_waiting (waiting_at a.waiting i) program) + stale_left a.words (set c.seats i (seat_then a program hand))
      < k + (total home_weight c.homes + walks vs) + ids_left p.requests c.calls.words c.calls.plan.slots + waiting_left p (waiting_at a.waiting i) + stale_left c.calls.words c.seats
      → Fewer p n (with_seat i program hand ws hs (record c { calls = a })) (set vs i w)
  seat_moves a kept program hand ws hs w y l less = let new : SeatState = seat_then a program hand in let more : List (List Retry) = set a.waiting i (still_waiting (waiting_at a.waiting i) program) in (
    total same (set lasts.numbers i y) + (total home_weight hs + walks (set vs i w) + (ids_left p.requests a.words a.plan.slots + total (waiting_left p) more + stale_left a.words (set c.seats i new))),
    moves_sum (total same lasts.numbers) (total same (set lasts.numbers i y)) (total home_weight c.homes) (total home_weight hs) (walks vs) (walks (set vs i w)) (ids_left p.requests c.calls.words c.calls.plan.slots) (ids_left p.requests a.words a.plan.slots)
        (total (waiting_left p) c.calls.waiting) (total (waiting_left p) a.waiting) (total (waiting_left p) more) (stale_left c.calls.words c.seats) (stale_left a.words (set c.seats i new)) k y (waiting_left p (waiting_at a.waiting i)) (waiting_left p (still_waiting (waiting_at a.waiting i) program)) n
        (total-set same lasts.numbers i k y at_number) (ap (total (waiting_left p)) kept) (waiting_set p a.waiting i (still_waiting (waiting_at a.waiting i) program)) lasts.sum less,
    record {
      numbers = set lasts.numbers i y;
      each = length-set lasts.numbers i y ∙ (lasts.each ∙ sym (length-set c.seats i new));
      seats = λ j seat' u d e f g. dite (ℕ_discrete j i)
          (λ is. subst (λ (s : SeatState). LastsFor p u s.program (d + arriving s.program)) (some-injective new seat' (sym (here c.seats new seat at_seat) ∙ (ap (get_elem? (set c.seats i new)) (sym is) ∙ e)))
          (subst (λ (x : View). LastsFor p x (comes_to a program) (d + arriving (comes_to a program))) (some-injective w u (sym (here vs w v at_view) ∙ (ap (get_elem? (set vs i w)) (sym is) ∙ f)))
          (subst (λ (x : ℕ). LastsFor p w (comes_to a program) (x + arriving (comes_to a program))) (some-injective y d (sym (here lasts.numbers y k at_number) ∙ (ap (get_elem? (set lasts.numbers i y)) (sym is) ∙ g))) l)))
          (λ ne. lasts.seats j seat' u d (other c.seats j new seat' ne e) (other vs j w u ne f) (other lasts.numbers j y d ne g));
      sum = omega arith;
    },
  )
    where
      here : {A : Type 0} (l : List A) (a b : A) → get_elem? l i ≡ some b → get_elem? (set l i a) i ≡ some a
      here l a b e = set_at l i a (at_length l i b e)

      other : {A : Type 0} (l : List A) (j : ℕ) (a b : A) → j ≢ i → get_elem? (set l i a) j ≡ some b → get_elem? l j ≡ some b
      other l j a b ne e = ⊎_elim (λ x. absurd (ne x.0)) (λ x. x.1) (at_set l i j a b e)

  -- where the words of the ids stay, and the seat found this one there
  pub quiet_moves : (a : Calls) (left : std.Option (ℕ × ℕ)) → a.waiting ≡ c.calls.waiting → a.plan ≡ c.calls.plan → AreSameIds a.words c.calls.words → IsThere c.calls.words left
      → (program : Program) (hand : List Home) (ws : List ℕ) (hs : List (Option Home)) (w : View) (m : ℕ) → GoesOn p w program → LastsFor p w program m
      → m + (total home_weight hs + walks (set vs i w)) < k + total (stale_cost c.calls.words) (expects seat.program) + fresh left program + (total home_weight c.homes + walks vs)
      → Fewer p n (with_seat i program hand ws hs (record c { calls = a })) (set vs i w)
  quiet_moves a left kept plan ids there program hand ws hs w m goes l less = let new : SeatState = seat_then a program hand in let r = settled p w c.calls.words left there (waiting_at a.waiting i) program m goes l in
      seat_moves a kept program hand ws hs w r.0 r.2
      (quiet_sum r.0 (total (stale_cost c.calls.words) (expects new.program)) (fresh left program) (waiting_left p (still_waiting (waiting_at a.waiting i) program)) m (waiting_left p (waiting_at a.waiting i)) (stale_left a.words (set c.seats i new)) (stale_left c.calls.words (set c.seats i new)) (total (stale_cost c.calls.words) (expects seat.program)) (stale_left c.calls.words c.seats)
      (total home_weight c.homes) (total home_weight hs) (walks vs) (walks (set vs i w)) k (ids_left p.requests c.calls.words c.calls.plan.slots) (ids_left p.requests a.words a.plan.slots)
      r.1 (stale_same a.words c.calls.words ids (set c.seats i new)) (total-set (seat_stale_in c.calls.words) c.seats i seat new at_seat) less (ids_same p.requests a.words c.calls.words ids a.plan.slots ∙ ap (λ (q : IdPlan). ids_left p.requests c.calls.words q.slots) plan))

  -- where an id word changes, all that expect it are paid for
  pub loud_moves : length c.seats ≤ 64 → (a : Calls) → a.waiting ≡ c.calls.waiting → (program : Program) (m : ℕ) → GoesOn p v program → LastsFor p v program m
      → m + CHANGE + ids_left p.requests a.words a.plan.slots ≤ k + ids_left p.requests c.calls.words c.calls.plan.slots
      → Fewer p n (with_seat i program seat.hand c.words c.homes (record c { calls = a })) vs
  loud_moves few a kept program m goes l less = let new : SeatState = seat_then a program seat.hand in let r = settled p v c.calls.words None tt (waiting_at a.waiting i) program m goes l in
      subst (Fewer p n (with_seat i program seat.hand c.words c.homes (record c { calls = a }))) (set_again vs i v at_view)
      (seat_moves a kept program seat.hand c.words c.homes v r.0 r.2
      (loud_sum r.0 (total (stale_cost c.calls.words) (expects new.program)) (waiting_left p (still_waiting (waiting_at a.waiting i) program)) m (waiting_left p (waiting_at a.waiting i)) (stale_left a.words (set c.seats i new)) (stale_left c.calls.words c.seats)
      (total home_weight c.homes) (walks vs) (walks (set vs i v)) k (ids_left p.requests c.calls.words c.calls.plan.slots) (ids_left p.requests a.words a.plan.slots)
      r.1 (all_few (length (set c.seats i new)) (stale_left a.words (set c.seats i new)) (length-set c.seats i new) (all_stale a.words (set c.seats i new))) (ap walks (set_again vs i v at_view)) less))
    where
      all_few : (k s : ℕ) → k ≡ length c.seats → s ≤ STALE * k → s ≤ 128
      all_few k s is le = omega (arith, is, le, few)

  -- where nothing aside changes
  plain_moves : (program : Program) (hand : List Home) (ws : List ℕ) (hs : List (Option Home)) (w : View) (m : ℕ) → GoesOn p w program → LastsFor p w program m → m + (total home_weight hs + walks (set vs i w)) < k + (total home_weight c.homes + walks vs)
      → Fewer p n (with_seat i program hand ws hs c) (set vs i w)
  plain_moves program hand ws hs w m goes l less = quiet_moves c.calls None refl refl (λ j. refl) tt program hand ws hs w m goes l (omega (arith, less))

  -- the same where its lists stay
  seat_steps : (program : Program) (hand : List Home) (ws : List ℕ) (hs : List (Option Home)) (w : View) (m : ℕ) → GoesOn p w program → LastsFor p w program m → w.lists ≡ v.lists
      → m + (total home_weight hs + total (walk_left (accepted vs)) w.rights) < k + (total home_weight c.homes + total (walk_left (accepted vs)) v.rights)
      → Fewer p n (with_seat i program hand ws hs c) (set vs i w)
  seat_steps program hand ws hs w m goes l lists less = plain_moves program hand ws hs w m goes l (omega (arith, less, walks_with vs i v w at_view lists))

  -- what a step of the seat's law is told
  allowed : (sound : Sound p c vs) → (call : TableStep) → May p v call → Finds p v call (found_at c.words (word_of p call)) (hand_at p c.words c.homes call)
  allowed sound call may = finds p (state c vs) sound.lawful i v at_view sound.limits.slots call may

  -- a step that takes some of the seat's number, or some of its walk, by what it found
  pub found_steps : (sound : Sound p c vs) (call : TableStep) (next : ℕ → Program) (d m : ℕ) → is_exchange call ≡ false → May p v call → GoesOn p v (Do call next)
      → LastsFor p (row p call (found_at c.words (word_of p call)) (hand_at p c.words c.homes call) v) (next (found_at c.words (word_of p call))) m → m + home_cost call + d ≤ k
      → total (walk_left (accepted vs)) (row p call (found_at c.words (word_of p call)) (hand_at p c.words c.homes call) v).rights < total (walk_left (accepted vs)) v.rights + d
      → Fewer p n (stepped p i seat call next c) (set vs i (row p call (found_at c.words (word_of p call)) (hand_at p c.words c.homes call) v))
  found_steps sound call next d m other may goes l few less = let found : ℕ = found_at c.words (word_of p call) in let hand : Hand = hand_at p c.words c.homes call in
      seat_steps (next found) (hand_after p call c.homes seat.hand) (words_after c.words (word_of p call) (word_after call found)) (homes_after p call seat.hand c.homes) (row p call found hand v) m
      (goes.1 found hand (allowed sound call may)) l (lists_stay p v found hand call other)
      (omega (arith, few, less, homes_few p call seat.hand c.homes (held_light seat.hand v.rights v.hands (sound.seats i seat v at_seat at_view).hand)))

  call_steps : (sound : Sound p c vs) (call : TableStep) (next : ℕ → Program) (d : ℕ) → is_exchange call ≡ false → May p v call → GoesOn p v (Do call next)
      → (l : LastsFor p v (Do call next) k) → l.0 + home_cost call + d ≤ k
      → total (walk_left (accepted vs)) (row p call (found_at c.words (word_of p call)) (hand_at p c.words c.homes call) v).rights < total (walk_left (accepted vs)) v.rights + d
      → Fewer p n (stepped p i seat call next c) (set vs i (row p call (found_at c.words (word_of p call)) (hand_at p c.words c.homes call) v))
  call_steps sound call next d other may goes l few less = let found : ℕ = found_at c.words (word_of p call) in let hand : Hand = hand_at p c.words c.homes call in
      found_steps sound call next d l.0 other may goes (l.2 found hand (allowed sound call may)) few less

  -- ## The exchange

  module _ (sound : Sound p c vs) (j own : ℕ) (may : May p v (OnChain (SwapHead j own))) where
    abbrev link : ℕ
    link = may.1.claim.link

    abbrev found : ℕ
    found = slice_index c.words (head_index j)

    abbrev hand : Hand
    hand = hand_at p c.words c.homes (OnChain (SwapHead j own))

    -- the seat's lists have one entry more, of its claim's link
    counts_after : (e : Entry) (w : View) → e.link ≡ may.1.claim.link → w.lists ≡ more v.lists e → (q : ℕ) → accepted (set vs i w) q ≡ accepted vs q + only may.1.claim.link q
    counts_after e w is lists q = let x = may.1 in let f : View → ℕ = λ u. total (λ (l : List Entry). length (on q l)) u.lists in
        omega (
          arith,
          total-set f vs i v w at_view,
          ap (total (λ (l : List Entry). length (on q l))) (lists ∙ ap (λ (l : List (List Entry)). more l e) x.lists),
          ap (total (λ (l : List Entry). length (on q l))) x.lists,
          lists_more q e x.made x.taken_in,
          ap (λ z. only z q) is,
        )

    -- no two seats may write it
    one_right : total (λ (u : View). total (λ (r : Right). only may.1.claim.link r.link) u.rights) vs ≤ 1
    one_right = let o = sound.lawful in let x = may.1 in
        omega (arith, all_rights x.claim.link vs, few_rights o.chains x.claim.link (link_in (λ home. home) p (state c vs) o i j own v at_view x))

    -- one message more was accepted
    entries_after : (w : View) (e : Entry) → w.lists ≡ more v.lists e → entries (set vs i w) ≡ entries vs + 1
    entries_after w e lists = let x = may.1 in
        omega (
          arith,
          total-set (λ (u : View). total (λ (l : List Entry). length l) u.lists) vs i v w at_view,
          ap (total (λ (l : List Entry). length l)) (lists ∙ ap (λ (l : List (List Entry)). more l e) x.lists),
          ap (total (λ (l : List Entry). length l)) x.lists,
          length-append x.made (e ∷ []),
        )

    rights_after : (w : View) (e : Entry) → e.link ≡ may.1.claim.link → w.lists ≡ more v.lists e → total (walk_left (accepted (set vs i w))) w.rights ≡ total (walk_left (accepted (set vs i w))) v.rights
        → total (λ (u : View). total (walk_left (accepted (set vs i w))) u.rights) (set vs i w) ≤ total (λ (u : View). total (walk_left (accepted vs)) u.rights) vs + 2
    rights_after w e is lists rights = let after : ℕ → ℕ = accepted (set vs i w) in
        omega (arith, total-set (λ (u : View). total (walk_left after) u.rights) vs i v w at_view, rights, all_more (accepted vs) after may.1.claim.link (counts_after e w is lists) vs, one_right)

    walks_after : (w : View) (e : Entry) → e.link ≡ may.1.claim.link → w.lists ≡ more v.lists e → total (walk_left (accepted (set vs i w))) w.rights ≡ total (walk_left (accepted (set vs i w))) v.rights
        → walks (set vs i w) ≤ walks vs + (2 + ACCEPT)
    walks_after w e is lists rights = omega (arith, rights_after w e is lists rights, entries_after w e lists)

    busy_after : walks (set vs i (queued v may.1.claim (slice_index c.words (head_index j)))) ≤ walks vs + (2 + ACCEPT)
    busy_after = let x = may.1 in let n : ℕ = slice_index c.words (head_index j) in walks_after (queued v x.claim n) (entry_of x.claim n) refl refl refl

    hand_is : (q : ℕ) (sent : List ℕ) (places : ℕ) → slice_index c.words (link_index j) ≡ q → link_home (λ home. home) p c.homes q ≡ some (sent, places) → hand_at p c.words c.homes (OnChain (SwapHead j own)) ≡ record { link = q; took = sent; next = places }
    hand_is q sent places e h = ap (λ z. as_hand z (link_home (λ home. home) p c.homes z)) e ∙ ap (as_hand q) h

    -- whoever found an idle head has no walk left
    none_left : (sent : List ℕ) (places : ℕ) → places ≡ length (on may.1.claim.link sound.lawful.log)
        → walk_left (accepted (set vs i (righted v may.1.claim (slice_index c.words (head_index j)) sent places))) (new_right may.1.claim (slice_index c.words (head_index j)) sent places) ≡ 0
    none_left sent places all = let x = may.1 in let n : ℕ = slice_index c.words (head_index j) in let w : View = righted v x.claim n sent places in
        omega (arith, all, counts_after (entry_of x.claim (n - IDLE)) w refl refl x.claim.link, only-same x.claim.link, accepted_count (λ (u : View). u.lists) vs sound.lawful.log sound.lawful.authors x.claim.link)

    idle_after : IDLE ≤ slice_index c.words (head_index j)
        → walks (set vs i (righted v may.1.claim (slice_index c.words (head_index j)) (hand_at p c.words c.homes (OnChain (SwapHead j own))).took (hand_at p c.words c.homes (OnChain (SwapHead j own))).next)) ≤ walks vs + (2 + ACCEPT)
    idle_after idle = let o = sound.lawful in let x = may.1 in let n : ℕ = slice_index c.words (head_index j) in let a = idle_home (λ home. home) p (state c vs) o i j own v at_view x idle in
        let is : slice_index c.words (link_index j) ≡ x.claim.link = held_link_is p (state c vs) o i v at_view j x.life (x.holds.inside, x.holds.held) x.claim.link x.holds.met in
        subst (λ (z : Hand). walks (set vs i (righted v x.claim n z.took z.next)) ≤ walks vs + (2 + ACCEPT)) (sym (hand_is x.claim.link a.0 a.1 is a.2))
        (walks_after (righted v x.claim n a.0 a.1) (entry_of x.claim (n - IDLE)) refl refl (omega (arith, none_left a.0 a.1 a.3)))

    swapped : walks (set vs i (row p (OnChain (SwapHead j own)) (slice_index c.words (head_index j)) (hand_at p c.words c.homes (OnChain (SwapHead j own))) v)) ≤ walks vs + (2 + ACCEPT)
    swapped = let x = may.1 in let n : ℕ = slice_index c.words (head_index j) in let g : Hand = hand_at p c.words c.homes (OnChain (SwapHead j own)) in
        subst (λ cs. walks (set vs i (by_claim cs (exchanged n g v) v)) ≤ walks vs + (2 + ACCEPT)) (sym x.claims)
        (dite (dec_le IDLE n)
        (λ idle. subst (λ b. walks (set vs i (cond b (queued v x.claim n) (righted v x.claim n g.took g.next))) ≤ walks vs + (2 + ACCEPT)) (sym (le-ltb n IDLE idle)) (idle_after idle))
        (λ busy. subst (λ b. walks (set vs i (cond b (queued v x.claim n) (righted v x.claim n g.took g.next))) ≤ walks vs + (2 + ACCEPT)) (sym (lt-ltb n IDLE (lt_of_not-le busy))) busy_after))

    exchange_steps : (next : ℕ → Program) → GoesOn p v (Do (OnChain (SwapHead j own)) next) → LastsFor p v (Do (OnChain (SwapHead j own)) next) k
        → Fewer p n (stepped p i seat (OnChain (SwapHead j own)) next c) (set vs i (row p (OnChain (SwapHead j own)) (slice_index c.words (head_index j)) (hand_at p c.words c.homes (OnChain (SwapHead j own))) v))
    exchange_steps next goes l = let few = l.1 in let found : ℕ = slice_index c.words (head_index j) in let g : Hand = hand_at p c.words c.homes (OnChain (SwapHead j own)) in
        plain_moves (next found) seat.hand (set c.words (head_index j) own) c.homes (row p (OnChain (SwapHead j own)) found g v) l.0 (goes.1 found g (allowed sound (OnChain (SwapHead j own)) may)) (l.2 found g (allowed sound (OnChain (SwapHead j own)) may)) (omega (arith, few, swapped))

  -- ## Any step

  module _ (go : RetriesGo p) (sound : Sound p c vs) where
    pub call_moves : (call : TableStep) (next : ℕ → Program) → GoesOn p v (Do call next) → LastsFor p v (Do call next) k
        → Fewer p n (stepped p i seat call next c) (set vs i (row p call (found_at c.words (word_of p call)) (hand_at p c.words c.homes call) v))
    call_moves (OnChain (SwapHead j own)) next goes l = exchange_steps sound j own goes.0 next goes l
    call_moves (OnChain (ReverseNext q value)) next goes l = let may = goes.0 in let x = may.0 in let r : Right = x.mine.right in let o = sound.lawful in let few = l.1 in
        call_steps sound (OnChain (ReverseNext q value)) next 0 refl may goes l (omega (arith, few))
        (let z = WalksLeft.turn_less (accepted vs) p v (found_at c.words (word_of p (OnChain (ReverseNext q value)))) (hand_at p c.words c.homes (OnChain (ReverseNext q value))) q value r x.top x.at value x.before may.1 x.stage
        (omega (arith, turn_less o i x.mine.place v r at_view x.mine.has x.top x.at value x.before x.stage, accepted_count (λ (u : View). u.lists) vs o.log o.authors r.link)) in omega (arith, z))
    call_moves (OnMessage (PutMessage q heading bytes)) next goes l = let few = l.1 in call_steps sound (OnMessage (PutMessage q heading bytes)) next 1 refl goes.0 goes l (omega (arith, few)) (stays (OnMessage (PutMessage q heading bytes)) goes.0 refl)
      where
        stays : (call : TableStep) → May p v call → is_exchange call ≡ false
            → total (walk_left (accepted vs)) (row p call (found_at c.words (word_of p call)) (hand_at p c.words c.homes call) v).rights < total (walk_left (accepted vs)) v.rights + 1
        stays call may other = let z = rights_few (accepted vs) p v (found_at c.words (word_of p call)) (hand_at p c.words c.homes call) call may other in omega (arith, z)
    call_moves call next goes l = let few = l.1 in call_steps sound call next 1 refl goes.0 goes l (omega (arith, few))
        (let z = rights_few (accepted vs) p v (found_at c.words (word_of p call)) (hand_at p c.words c.homes call) call goes.0 refl in omega (arith, z))

    -- the message is at home, and stands for whoever writes it
    message_moves : (q : ℕ) (next : Heading → List ℕ → Program) → GoesOn p v (TakeMessage q next) → LastsFor p v (TakeMessage q next) k
        → Fewer p n (with_message p i seat c q (message (λ home. home) c.homes q) (λ letter. next letter.0 letter.1)) (views_with_message p i c vs v (message (λ home. home) c.homes q))
    message_moves q next goes l = let a = message_there p go c vs sound i seat v at_seat at_view q next goes in let heading : Heading = a.1.0 in let bytes : List ℕ = a.1.1 in let m = l heading bytes a.1.4 in
        let few = m.1 in
        subst (λ (x : Option HeadedBytes). Fewer p n (with_message p i seat c q x (λ letter. next letter.0 letter.1)) (views_with_message p i c vs v x)) (sym (ap (λ (h : Option (Option Home)). letter_of (shown (λ home. home) h)) a.1.2))
        (seat_steps (next heading bytes) seat.hand c.words (set c.homes q none) (took_message heading bytes v) m.0 (goes.1 heading bytes a.1.3 a.1.4) m.2 (message_lists v heading bytes)
        (omega (arith, few, message_few (accepted vs) v heading bytes, total-set home_weight c.homes q (some (Message heading bytes)) none a.1.2)))

    link_moves : (j : ℕ) (next : ℕ → Program) → GoesOn p v (TakeHome j next) → LastsFor p v (TakeHome j next) k
        → Fewer p n (with_link p i seat c j (link_home (λ home. home) p c.homes j) next) (views_with_link p i c vs v (link_home (λ home. home) p c.homes j))
    link_moves j next goes l = let r : Right = goes.0 in let x = goes.1 in let law = link_home_law (λ home. home) p (state c vs) sound.lawful i v at_view (has_one v r x.0) x.2 in
        let here : get_elem? c.homes (link_place p j) ≡ some (some (Link r.link r.sent r.places false)) = ap (λ y. get_elem? c.homes (link_place p y)) (sym x.1) ∙ (law.1 ∙ ap (λ y. some (some y)) law.2) in let few = l.1 in
        subst (λ (x : Option (List ℕ × ℕ)). Fewer p n (with_link p i seat c j x next) (views_with_link p i c vs v x)) (sym (ap (λ (h : Option (Option Home)). took_of (as_link (shown (λ home. home) h))) here))
        (seat_steps (next r.places) (lies_at c.homes (link_place p j) ++ seat.hand) c.words (set c.homes (link_place p j) none) (link_away v) l.0 goes.3 (l.2 r.places) (away_lists v)
        (omega (arith, few, away_few (accepted vs) v, set_few home_weight c.homes (link_place p j) none)))

    home_moves : (j places : ℕ) (after : Program) → GoesOn p v (PutHome j places after) → LastsFor p v (PutHome j places after) k
        → Fewer p n (with_seat i after (others_of seat.hand) c.words (set c.homes (link_place p j) (first_of (onto_first (with_places places) seat.hand))) c) (set vs i (link_home_again v))
    home_moves j places after goes l = let few = l.1 in let z : Option Home = first_of (onto_first (with_places places) seat.hand) in
        seat_steps after (others_of seat.hand) c.words (set c.homes (link_place p j) z) (link_home_again v) l.0 goes.5 l.2 (home_lists v)
        (omega (arith, few, home_few (accepted vs) v, set_few home_weight c.homes (link_place p j) z, light_places places seat.hand (held_light seat.hand v.rights v.hands (sound.seats i seat v at_seat at_view).hand)))

    put_moves : (j : ℕ) (asked : Bool) (bytes : List ℕ) (next : Put → Program) (answer : Put) → FitsPut asked bytes answer → GoesOn p v (PutBytes j asked bytes next) → LastsFor p v (PutBytes j asked bytes next) k
        → Fewer p n (with_seat i (next answer) (onto_first (fed bytes answer) seat.hand) c.words c.homes c) (set vs i (took_bytes answer v))
    put_moves j asked bytes next answer fits goes l = let a = l answer fits in let few = a.1 in
        seat_steps (next answer) (onto_first (fed bytes answer) seat.hand) c.words c.homes (took_bytes answer v) a.0 (goes.1 answer fits) a.2 (put_lists v answer) (omega (arith, few, put_few (accepted vs) v answer))

    ready_moves : (j : ℕ) (next : Ready → Program) (answer : Ready) → answer ≢ NotYet → GoesOn p v (AskReady j next) → LastsFor p v (AskReady j next) k → Fewer p n (with_seat i (next answer) seat.hand c.words c.homes c) vs
    ready_moves j next answer always_ready goes l = let a = l answer always_ready in let few = a.1 in
        subst (Fewer p n (with_seat i (next answer) seat.hand c.words c.homes c)) (set_again vs i v at_view) (seat_steps (next answer) seat.hand c.words c.homes v a.0 (goes.1 answer) a.2 refl (omega (arith, few)))

    module _ (answer : Answer) (always_ready : answer ≢ OfReady NotYet) where
      -- the seat is at rest, or fewer are left behind its first step
      first_moves : (program : Program) → IsStep program → GoesOn p v program → LastsFor p v program k → IsAnswer program answer
          → (kind_in program ≡ None) ⊎ Fewer p n (step_with p i seat c answer program) (views_with p i c vs v answer program)
      first_moves (Do call next) step goes l a = inr (call_moves call next goes l)
      first_moves (TakeMessage q next) step goes l a = inr (message_moves q next goes l)
      first_moves (TakeHome j next) step goes l a = inr (link_moves j next goes l)
      first_moves (PutHome j places after) step goes l a = inr (home_moves j places after goes l)
      first_moves (PutBytes j asked bytes next) step goes l a = inr (subst (λ (x : Answer). Fewer p n (step_with p i seat c x (PutBytes j asked bytes next)) (views_with p i c vs v x (PutBytes j asked bytes next))) (sym a.1) (put_moves j asked bytes next a.0 a.2 goes l))
      first_moves (AskReady j next) step goes l a = inr (subst (λ (x : Answer). Fewer p n (step_with p i seat c x (AskReady j next)) (views_with p i c vs v x (AskReady j next))) (sym a.1)
          (ready_moves j next a.0 (λ e. always_ready (a.1 ∙ ap OfReady e)) goes l))
      first_moves (Write w after) step goes l a = absurd step
      first_moves (Aside x next) step goes l a = absurd step
      first_moves (Round head next) step goes l a = absurd step
      first_moves _ step goes l a = inl refl

      -- the seat is at rest or waits, or fewer are left behind its tick
      abbrev pub Moves : Program → Type 0
      Moves program = ((kind_in program ≡ None) ⊎ (waits_at p c answer program ≡ true)) ⊎ Fewer p n (tick_with p i seat c answer program) (views_of p i c vs v answer program)

      round_moves : (w : Writing) (after : Program) → IsStep (block w after) → GoesOn p v (Write w after) → LastsFor p v (block w after) k → IsAnswer (block w after) answer
          → Fewer p n (step_with p i seat c answer (block w after)) (views_with p i c vs v answer (block w after))
      round_moves w after step goes l a = ⊎_elim (λ none_. absurd (never_rests w after none_)) (λ few. few) (first_moves (block w after) step (begins_round p v w after goes) l a)

      walk_moves : (h : Holder) (top place successor : ℕ) (then_ : Program) → GoesOn p v (Write (Reversing h top place successor) then_) → LastsFor p v (Write (Reversing h top place successor) then_) k → Moves (Write (Reversing h top place successor) then_)
      walk_moves h top place successor then_ goes l = by_found (eqb (slice_index c.words (next_index p (ticket_request place))) UNCONNECTED) refl
        where
          by_found : (b : Bool) → eqb (slice_index c.words (next_index p (ticket_request place))) UNCONNECTED ≡ b → Moves (Write (Reversing h top place successor) then_)
          by_found true is = inl (inr is)
          by_found false is = let found : ℕ = slice_index c.words (next_index p (ticket_request place)) in let r : Right = goes.0.0 in let o = sound.lawful in let call : TableStep = OnChain (ReadNext (ticket_request place)) in
              let w : View = row p call found (hand_at p c.words c.homes call) v in
              let turns : Program = Do (OnChain (ReverseNext (ticket_request place) successor)) (λ _. cond (eqb found h.last) (TakeMessage (ticket_request place) (λ heading bytes. Write (Puts (record h { last = top }) place heading bytes 0 false) then_)) (Write (Reversing h top found place) then_)) in
              let begins = begins_round p v (Reversing h top place successor) then_ goes in
              inr (seat_steps (cond (eqb found UNCONNECTED) (Write (Reversing h top place successor) then_) turns) seat.hand (set c.words (next_index p (ticket_request place)) found) c.homes w k
              (begins.1 found (hand_at p c.words c.homes call) (allowed sound call begins.0))
              (subst (λ b. LastsFor p w (cond b (Write (Reversing h top place successor) then_) turns) k) (sym is) (lasts_walk p v h top place successor found then_ k l w))
              (lists_stay p v found (hand_at p c.words c.homes call) call refl)
              (let z = WalksLeft.read_less (accepted vs) p v found (hand_at p c.words c.homes call) (ticket_request place) r top place successor goes.0.1.one goes.0.2.stage_is (λ e. true≢false (sym (eq-eqb found UNCONNECTED e) ∙ is))
              (omega (arith, walk_less o i 0 v r at_view (ap (λ (rs : List Right). get_elem? rs 0) goes.0.1.one) top place successor goes.0.2.stage_is, accepted_count (λ (u : View). u.lists) vs o.log o.authors r.link)) in omega (arith, z)))

      no_loop : (program : Program) → ((kind_in program ≡ None) ⊎ Fewer p n (step_with p i seat c answer program) (views_with p i c vs v answer program))
          → ((kind_in program ≡ None) ⊎ (waits_at p c answer program ≡ true)) ⊎ Fewer p n (step_with p i seat c answer program) (views_with p i c vs v answer program)
      no_loop program x = ⊎_elim (λ a. inl (inl a)) (λ a. inr a) x

      -- a tick of a seat that makes steps on the sockets alone
      pub tick_moves : (program : Program) → IsOfSockets program → GoesOn p v program → LastsFor p v program k → IsAnswer program answer → Moves program
      tick_moves (Aside step next) of goes l a = absurd of
      tick_moves (Round head next) of goes l a = absurd of
      tick_moves (Keep r next) of goes l a = inl (inl refl)
      tick_moves (Retries requests after) of goes l a = inl (inl refl)
      tick_moves (Write (Reversing h top place successor) then_) of goes l a = walk_moves h top place successor then_ goes l
      tick_moves (Write (Puts h now heading left taken asked) after) of goes l a =
          inr (round_moves (Puts h now heading left taken asked) after tt goes (lasts_round p v (Puts h now heading left taken asked) after k goes.0 (λ x. x) l) (answer_begins (Write (Puts h now heading left taken asked) after) answer a))
      tick_moves (Write (Waits h now heading left taken) after) of goes l a =
          inr (round_moves (Waits h now heading left taken) after tt goes (lasts_round p v (Waits h now heading left taken) after k goes.0 (λ x. x) l) (answer_begins (Write (Waits h now heading left taken) after) answer a))
      tick_moves (Write (Empties h) after) of goes l a =
          inr (round_moves (Empties h) after tt goes (lasts_round p v (Empties h) after k goes.0 (λ x. x) l) (answer_begins (Write (Empties h) after) answer a))
      tick_moves (Say o outcome next) of goes l a = inl (inl refl)
      tick_moves (Sent o next) of goes l a = inl (inl refl)
      tick_moves Rest of goes l a = inl (inl refl)
      tick_moves program of goes l a = no_loop program (first_moves program tt goes l a)
