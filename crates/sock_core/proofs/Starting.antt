-- All that holds of a machine holds where it begins.
use Rattle.std.proofs.Common.{◌≡◌, refl, ℕ, zero, suc, ◌+◌, ◌-◌, ◌*◌, ◌<◌, ◌≤◌, Bool, false, List, [], ◌∷◌, ◌++◌, map, fold, length, slice_index, slice_index_or, replicate, Option, None, ap, ap₂, sym, ◌∙◌, arith, subst}
use Rattle.std.proofs.Math.ListN.{length-map, length-replicate}
use Rattle.std.proofs.lemmas.List.{map-append}
use Rattle.std.proofs.lemmas.List.Sums.{fold-append}
use Rattle.std.proofs.lemmas.Option.{none-some}
use Rattle.std.specs.List.{AllByRecursion}
use mathlib.Core.Option as core
use lib.ListN.{get_elem?}
use Rattle.sock_words.specs.declared.plain.Plan.{Plan}
use Rattle.sock_words.specs.declared.outcome.Outcome.{Outcome}
use Rattle.corr_core.specs.declared.marks.Plan.{Plan as IdPlan}
use Rattle.sock_io.specs.LinkHalves.{OutState}
use Rattle.sock_model.specs.declared.home.Home.{Home}
use Rattle.sock_model.specs.declared.home.Home.TheVariants.{Link}
use Rattle.seat_programs.specs.declared.task.Task.{Task}
use Rattle.seat_programs.specs.declared.task.Sizes.{Sizes}
use Rattle.seat_programs.specs.LoopHeads.{Retry}
use Rattle.seat_programs.specs.Programs.{Program, Rest}
use Rattle.seat_programs.specs.ReaderProgram.{reader}
use Rattle.seat_programs.specs.ClientProgram.{client_from}
use Rattle.seat_programs.specs.Cores.{Calls, Core, SeatState, said, resolved, next_step}
use Rattle.seat_programs.specs.ScheduledRuns.{from_to}
use Rattle.seat_programs.specs.ScriptSetupToEnding.{sizes_of, programs, readers_from, all_programs, beginning, opening_homes, opening_words, opening_calls, new_links}
use Rattle.machine_model.specs.program_steps.specs.TicksLeftAtMost.{Lasts}
use Rattle.machine_model.specs.program_steps.specs.SoundSeats.{IsAhead, Sound}
use Rattle.machine_model.specs.run_theorems.specs.Below.programs_allowed.specs.SeatOpenings.{opening_views, all_seats}
use Rattle.id_rule.specs.LawfulIdTable.{call_index}
use Rattle.machine_model.specs.id_runs.proofs.IdRuleOpening.{unused}
use Rattle.machine_model.specs.id_runs.specs.Goes.{SoundIds}
use Rattle.machine_model.specs.run_theorems.specs.Below.joint_runs.proofs.StartsWithBothRules.{AreFor, opens_both, opens_bounded}
use Rattle.call_slots.specs.CallSlotState.{calls_with}
use Rattle.reader_seats.specs.ReaderState.{ReaderData, reader_program}
use Rattle.machine_model.specs.declared.home_message.HomeMessage.{HomeMessage}
use Rattle.client_seats.specs.ClientSeatState.{SeatData, seat_program}
use Rattle.machine_model.specs.MachineParts.{AreBegun, AreReading, said_first}
use Rattle.machine_model.specs.MachineLinks.{LinksData, Taken, Agrees, AgreesGave, ClosedAreDone, IsPaced, holder_of, link_home, homes_of, letter_home}
use Rattle.machine_model.specs.Machines.{MachineState, IsMachine, IsSoundMachine, ArePaced, AreCalled, READERS, between, resting, clients_with, readers_with, seats_with, waiting_of, given_by, machine_sizes, core_with}
use Rattle.machine_ticks.specs.machine_rules.proofs.HandsAndHomes.{HasNone, hand_none}
use Rattle.machine_steps.proofs.BegunTables.{told_length}
use Rattle.machine_ticks.specs.machine_rules.proofs.Paces.{calm_paced, client_calm}
use Rattle.machine_ticks.specs.machine_rules.proofs.Seatings.{core_is}
use Rattle.sock_words.specs.PackedWords.{id_first}

-- nothing was taken, and nothing given
abbrev pub NOTHING : Taken
NOTHING k = []

-- ## The homes of a machine that begins

free : (n j : ℕ) → slice_index_or {A = Option ℕ} (replicate n None) j None ≡ None
free zero j = refl
free (suc n) zero = refl
free (suc n) (suc j) = free n j

unplaced : (n j : ℕ) → slice_index_or {A = ℕ} (replicate n 0) j 0 ≡ 0
unplaced zero j = refl
unplaced (suc n) zero = refl
unplaced (suc n) (suc j) = unplaced n j

empty_homes : (n : ℕ) → map letter_home (replicate n None) ≡ replicate n core.none
empty_homes zero = refl
empty_homes (suc n) = ap (λ (hs : List (core.Option Home)). core.none ∷ hs) (empty_homes n)

links_are : (f : ℕ → core.Option Home) (a n : ℕ) → ((j : ℕ) → f j ≡ core.some (Link j [] 0 false)) → map f (from_to a n) ≡ new_links a n
links_are f a zero h = refl
links_are f a (suc n) h = ap₂ (λ (x : core.Option Home) xs. x ∷ xs) (h a) (links_are f (a + 1) n h)

-- the links and the messages of a table that is new
pub record AreNew (p : Plan) (l : LinksData) (letters : List (Option HomeMessage)) : Type 0 where
  pub letters_are : letters ≡ replicate p.requests None
  pub holders_are : l.holders ≡ replicate p.links None
  pub nexts_are : l.nexts ≡ replicate p.links 0
  pub open_ : (k : ℕ) (out : OutState) → get_elem? l.outs k ≡ core.some out → out.finished ≡ false

-- the seat of a program that begins
abbrev seat_begun : Program → SeatState
seat_begun program = record { program = next_step (resolved [] program); hand = [] }

module _ (p : Plan) (l : LinksData) (letters : List (Option HomeMessage)) (new : AreNew p l letters) where
  nobody : (k : ℕ) → holder_of l k ≡ None
  nobody k = ap (λ (hs : List (Option ℕ)). slice_index_or hs k None) new.holders_are ∙ free p.links k

  not_done : (o : core.Option OutState) → ((out : OutState) → o ≡ core.some out → out.finished ≡ false) → elim o as (λ o. Bool) [ core.none ↦ false | core.some out ↦ out.finished ] ≡ false
  not_done core.none open_ = refl
  not_done (core.some out) open_ = open_ out refl

  new_link : (k : ℕ) → link_home l NOTHING k ≡ core.some (Link k [] 0 false)
  new_link k = rw (nobody k, ap (λ (ns : List ℕ). slice_index_or ns k 0) new.nexts_are ∙ unplaced p.links k, not_done (get_elem? l.outs k) (λ out at. new.open_ k out at)) refl

  new_homes : homes_of l p letters NOTHING ≡ opening_homes p
  new_homes = ap₂ (λ (xs ys : List (core.Option Home)). xs ++ ys) (ap (λ ls. map letter_home ls) new.letters_are ∙ empty_homes p.requests) (links_are (link_home l NOTHING) 0 p.links new_link)

  has_none : (i : ℕ) → HasNone l i
  has_none i k own = none-some i (sym (nobody k) ∙ own)

  new_clients : (sizes : Sizes) (a : ℕ) (seats : List SeatData) (ps : List Program) → map (λ (seat : SeatData). seat_program sizes seat) seats ≡ map (λ (program : Program). next_step (resolved [] program)) ps →
      clients_with p l NOTHING sizes a seats ≡ map seat_begun ps
  new_clients sizes a [] [] e = refl
  new_clients sizes a [] (q ∷ ps) e = cc
  new_clients sizes a (s ∷ seats) [] e = cc
  new_clients sizes a (s ∷ seats) (q ∷ ps) e = let f : seat_program sizes s ≡ next_step (resolved [] q) = cc in
      let g : map (λ (seat : SeatData). seat_program sizes seat) seats ≡ map (λ (program : Program). next_step (resolved [] program)) ps = cc in
      ap₂ (λ (x : SeatState) xs. x ∷ xs) (λ k. record { program = f k; hand = hand_none l NOTHING p.links a (has_none a) k }) (new_clients sizes (a + 1) seats ps g)

  new_readers : (calls : List ℕ) (a k : ℕ) (readers : List ReaderData) (os : List ℕ) → map (reader_program calls) readers ≡ readers_from calls k os → readers_with p l NOTHING calls a readers ≡ map seat_begun (readers_from calls k os)
  new_readers calls a k [] [] e = refl
  new_readers calls a k [] (o ∷ os) e = cc
  new_readers calls a k (r ∷ rs) [] e = cc
  new_readers calls a k (r ∷ rs) (o ∷ os) e = let f : reader_program calls r ≡ reader calls k o = cc in let g : map (reader_program calls) rs ≡ readers_from calls (k + 1) os = cc in
      ap₂ (λ (x : SeatState) xs. x ∷ xs) (λ i. record { program = f i; hand = hand_none l NOTHING p.links a (has_none a) i }) (new_readers calls (a + 1) (k + 1) rs os g)

-- ## The rest of the core

gap_begun : (n : ℕ) → replicate n resting ≡ map seat_begun (replicate n Rest)
gap_begun zero = refl
gap_begun (suc n) = ap (λ (ss : List SeatState). resting ∷ ss) (gap_begun n)

abbrev say : List (Option Outcome) → Program → List (Option Outcome)
say os program = said (resolved [] program) os

gap_says : (n : ℕ) (os : List (Option Outcome)) → fold say os (replicate n Rest) ≡ os
gap_says zero os = refl
gap_says (suc n) os = gap_says n os

readers_say : (calls : List ℕ) (k : ℕ) (opens : List ℕ) (os : List (Option Outcome)) → fold say os (readers_from calls k opens) ≡ os
readers_say calls k [] os = refl
readers_say calls k (o ∷ opens) os = readers_say calls (k + 1) opens os

all_say : (ps : List Program) (calls opens : List ℕ) (os : List (Option Outcome)) → fold say os (all_programs ps (readers_from calls 0 opens)) ≡ fold say os ps
all_say ps calls opens os = fold-append say os ps (replicate (32 - length ps) Rest ++ readers_from calls 0 opens)
    ∙ fold-append say (fold say os ps) (replicate (32 - length ps) Rest) (readers_from calls 0 opens)
    ∙ readers_say calls 0 opens (fold say (fold say os ps) (replicate (32 - length ps) Rest)) ∙ gap_says (32 - length ps) (fold say os ps)

-- no seat keeps a retry
no_retries : (ss : List SeatData) → AllByRecursion (λ (s : SeatData). s.waiting ≡ []) ss → map (λ (s : SeatData). s.waiting) ss ≡ replicate (length ss) []
no_retries [] all = refl
no_retries (s ∷ ss) all = ap₂ (λ (w : List Retry) ws. w ∷ ws) all.0 (no_retries ss all.1)

no_readers_keep : (rs : List ReaderData) → map (λ (r : ReaderData). []) rs ≡ replicate {A = List Retry} (length rs) []
no_readers_keep [] = refl
no_readers_keep (r ∷ rs) = ap (λ (ws : List (List Retry)). [] ∷ ws) (no_readers_keep rs)

replicate_join : {A : Type 0} (m n : ℕ) (x : A) → replicate m x ++ replicate n x ≡ replicate (m + n) x
replicate_join zero n x = let e : n ≡ 0 + n = omega arith in ap (λ k. replicate k x) e
replicate_join (suc m) n x = let e : suc (m + n) ≡ suc m + n = omega arith in ap (λ (l : List _). x ∷ l) (replicate_join m n x) ∙ ap (λ k. replicate k x) e

none_given : (a n : ℕ) → map NOTHING (from_to a n) ≡ replicate n []
none_given a zero = refl
none_given a (suc n) = ap (λ (l : List (List ℕ)). [] ∷ l) (none_given (a + 1) n)

length_readers : (calls : List ℕ) (k : ℕ) (os : List ℕ) → length (readers_from calls k os) ≡ length os
length_readers calls k [] = refl
length_readers calls k (o ∷ os) = ap suc (length_readers calls (k + 1) os)

module _ (p : Plan) (q : IdPlan) (clients : List (List Task)) (m : MachineState) (f : AreFor p q clients m.calls m.opens) (plan : m.plan ≡ p) (id_plan : m.ids.plan ≡ q) (new : AreNew p m.links m.letters) (words : m.words ≡ opening_words p)
    (seats : AreBegun (sizes_of p q) m.seats clients) (readers : AreReading m.calls m.opens m.readers) (ids : (links : ℕ) → calls_with m.ids (replicate q.seats []) (replicate links []) false ≡ opening_calls q links) (ending : m.ending ≡ false)
    (outcomes : m.outcomes ≡ said_first (replicate p.operations None) (programs (sizes_of p q) clients)) where
  abbrev own_programs : List Program
  own_programs = programs (sizes_of p q) clients

  same_sizes : machine_sizes m ≡ sizes_of p q
  same_sizes = ap₂ sizes_of plan id_plan

  many_programs : length own_programs ≡ length clients
  many_programs = length-map clients (client_from (sizes_of p q) [])

  many : length m.seats ≡ length clients
  many = sym (length-map m.seats (λ (seat : SeatData). seat_program (sizes_of p q) seat)) ∙ ap length seats.0 ∙ length-map own_programs (λ (program : Program). next_step (resolved [] program)) ∙ many_programs

  many_readers : length m.readers ≡ length m.opens
  many_readers = sym (length-map m.readers (reader_program m.calls)) ∙ ap length readers ∙ length_readers m.calls 0 m.opens

  seats_are : seats_with m NOTHING ≡ map seat_begun (all_programs own_programs (readers_from m.calls 0 m.opens))
  seats_are =
      ap₂ (λ (ps : Plan) (sizes : Sizes). clients_with ps m.links NOTHING sizes 0 m.seats ++ (replicate (between m.seats) resting ++ readers_with ps m.links NOTHING m.calls READERS m.readers)) plan same_sizes
      ∙ ap₂ (λ (xs ys : List SeatState). xs ++ ys) (new_clients p m.links m.letters new (sizes_of p q) 0 m.seats own_programs seats.0)
      (ap₂ (λ (xs ys : List SeatState). xs ++ ys) (ap (λ n. replicate (32 - n) resting) (many ∙ sym many_programs) ∙ gap_begun (32 - length own_programs)) (new_readers p m.links m.letters new m.calls READERS 0 m.readers m.opens readers)
      ∙ sym (map-append seat_begun (replicate (32 - length own_programs) Rest) (readers_from m.calls 0 m.opens)))
      ∙ sym (map-append seat_begun own_programs (replicate (32 - length own_programs) Rest ++ readers_from m.calls 0 m.opens))

  waiting_none : waiting_of m.seats m.readers ≡ replicate q.seats []
  waiting_none = ap₂ (λ (xs ys : List (List Retry)). xs ++ ys) (no_retries m.seats seats.1) (ap (λ (ys : List (List Retry)). replicate (between m.seats) [] ++ ys) (no_readers_keep m.readers) ∙ replicate_join (between m.seats) (length m.readers) [])
      ∙ replicate_join (length m.seats) (between m.seats + length m.readers) []
      ∙ ap (λ n. replicate {A = List Retry} n []) (let few = f.few_clients in let is = f.seats in omega (arith, few, is, many, many_readers))

  pub begins_core : core_with m NOTHING NOTHING ≡ beginning p q (all_programs own_programs (readers_from m.calls 0 m.opens))
  begins_core = core_is _ _ _ _ _ _ _ _ _ _ words
      (ap (λ (x : Plan). homes_of m.links x m.letters NOTHING) plan ∙ new_homes p m.links m.letters new)
      seats_are
      (outcomes ∙ sym (all_say own_programs m.calls m.opens (replicate p.operations None)))
      (ap₂ (λ (ws : List (List Retry)) (e : Bool). calls_with m.ids ws (given_by m.plan.links NOTHING) e) waiting_none ending
      ∙ ap (λ (gs : List (List ℕ)). calls_with m.ids (replicate q.seats []) gs false) (none_given 0 m.plan.links ∙ ap (λ (x : Plan). replicate x.links []) plan) ∙ ids p.links)

  calm_at : (ss : List SeatData) (ts : List (List Task)) → map (λ (seat : SeatData). seat_program (sizes_of p q) seat) ss ≡ map (λ (program : Program). next_step (resolved [] program)) (programs (sizes_of p q) ts) → (i : ℕ) (seat : SeatData) → get_elem? ss i ≡ core.some seat →
      IsPaced m.links.outs (seat_program (sizes_of p q) seat)
  calm_at [] ts e i seat at = absurd (core.some-ne-none seat (sym at))
  calm_at (s ∷ ss) [] e i seat at = cc
  calm_at (s ∷ ss) (t ∷ ts) e zero seat at = let g : seat_program (sizes_of p q) s ≡ next_step (resolved [] (client_from (sizes_of p q) [] t)) = cc in
      subst (λ (x : SeatData). IsPaced m.links.outs (seat_program (sizes_of p q) x)) (core.some-injective s seat at) (subst (IsPaced m.links.outs) (sym g) (calm_paced m.links.outs _ (client_calm (sizes_of p q) [] [] t)))
  calm_at (s ∷ ss) (t ∷ ts) e (suc i) seat at = let g : map (λ (x : SeatData). seat_program (sizes_of p q) x) ss ≡ map (λ (program : Program). next_step (resolved [] program)) (programs (sizes_of p q) ts) = cc in calm_at ss ts g i seat at

  pub begins_paced : ArePaced (machine_sizes m) m.links m.seats
  begins_paced = subst (λ (z : Sizes). ArePaced z m.links m.seats) (sym same_sizes) (calm_at m.seats clients seats.0)

  begins_sound : Agrees m.links NOTHING → AgreesGave m.links NOTHING → IsSoundMachine m
  begins_sound agrees agrees_gave = let both = opens_both p q clients m.calls m.opens f in let b = opens_bounded p q clients m.calls m.opens f in let within = b.within in let few = f.few_opens in record {
    took = NOTHING;
    gave = NOTHING;
    agrees = agrees;
    agrees_gave = agrees_gave;
    ahead = subst IsAhead (sym begins_core) b.ahead;
    views = opening_views p (all_seats clients (length m.opens));
    sound = subst (λ (x : Plan). Sound x (core_with m NOTHING NOTHING) (opening_views p (all_seats clients (length m.opens)))) (sym plan) (subst (λ (x : Core). Sound p x (opening_views p (all_seats clients (length m.opens)))) (sym begins_core) both.sockets);
    id_views = both.id_views;
    ids = subst (λ (x : Plan). SoundIds x m.ids.plan (core_with m NOTHING NOTHING) both.id_views) (sym plan)
        (subst (λ (x : IdPlan). SoundIds p x (core_with m NOTHING NOTHING) both.id_views) (sym id_plan) (subst (λ (x : Core). SoundIds p q x both.id_views) (sym begins_core) both.ids));
    few = b.few;
    left = b.left;
    lasts = subst (λ (x : Plan). Lasts x (core_with m NOTHING NOTHING) (opening_views p (all_seats clients (length m.opens))) b.left) (sym plan)
        (subst (λ (x : Core). Lasts p x (opening_views p (all_seats clients (length m.opens))) b.left) (sym begins_core) b.lasts);
    bounded = omega (arith, within, few);
  }

  -- no call has an id yet
  begins_called : AreCalled m.ids
  begins_called o inside = subst (λ n. id_first n < 67108864) (sym none_there) (omega arith)
    where
      none_there : slice_index m.ids.words (call_index m.ids.plan o) ≡ 0
      none_there = ap (λ (ws : List ℕ). slice_index ws (call_index m.ids.plan o)) (ap (λ (a : Calls). a.words) (ids 0)) ∙ (unused q).rest (call_index m.ids.plan o) (let e = ap (λ (x : IdPlan). x.slots) id_plan in omega (arith, e))

  pub machine_begins : (room : ℕ) → Agrees m.links NOTHING → AgreesGave m.links NOTHING → ClosedAreDone m.links → length m.links.outs ≡ p.links → length m.links.inns ≡ p.links → length m.ends ≡ p.links → length m.opens ≡ p.links → length clients ≡ p.seats → 8 * p.operations ≤ room → IsMachine m room
  machine_begins room agrees agrees_gave closed outs inns ends opens seats_many has_room =
      let told = ap length outcomes ∙ told_length (replicate p.operations None) own_programs ∙ length-replicate p.operations None in
      let links_same : p.links ≡ m.plan.links = ap (λ (x : Plan). x.links) (sym plan) in record {
        sizes = ∣ record {
          tables = record {
            letters_are = ap length new.letters_are ∙ length-replicate p.requests None ∙ ap (λ (x : Plan). x.requests) (sym plan);
            holders_are = ap length new.holders_are ∙ length-replicate p.links None ∙ links_same;
            nexts_are = ap length new.nexts_are ∙ length-replicate p.links 0 ∙ links_same;
            outs_are = outs ∙ links_same;
            inns_are = inns ∙ links_same;
          };
          ends_are = ends ∙ links_same;
          seats_are = many ∙ seats_many ∙ ap (λ (x : Plan). x.seats) (sym plan);
          some_seat = (let a = f.are.some_ in omega (arith, a, many));
          few_seats = (let a = f.few_clients in omega (arith, a, many));
          readers_are = many_readers ∙ opens ∙ links_same;
          few_readers = (let a = f.few_opens in omega (arith, a, many_readers));
          slots_are = f.slots ∙ ap (λ (x : IdPlan). x.slots) (sym id_plan);
          few_slots = (let a = f.few_slots in let e = ap (λ (x : IdPlan). x.slots) id_plan in omega (arith, a, e));
          operations_are = ap (λ (x : IdPlan). x.operations) id_plan ∙ f.operations ∙ ap (λ (x : Plan). x.operations) (sym plan);
          calls_are = subst (λ (x : IdPlan). AllByRecursion (λ o. o < x.operations) m.calls) (sym id_plan) f.calls_in;
          id_seats_are = ap (λ (x : IdPlan). x.seats) id_plan ∙ f.seats ∙ ap (λ n. READERS + n) (sym many_readers);
          opens_are = subst (λ (x : Plan). AllByRecursion (λ o. o < x.operations) m.opens) (sym plan) f.opens_in;
          few_opens = f.few_opens;
          few_outcomes = (let b = f.limits.operations in omega (arith, told, b));
        } ∣₁;
        has_room = let e = ap (λ (x : Plan). x.operations) plan in omega (arith, e, has_room);
        sound = λ _. ∣ begins_sound agrees agrees_gave ∣₁;
        paced = λ _. ∣ begins_paced ∣₁;
        called = λ _. begins_called;
        closed = λ _. record { done = closed; held = λ k j own past. absurd (none-some j (sym (nobody p m.links m.letters new k) ∙ own)) };
      }
