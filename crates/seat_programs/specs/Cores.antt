-- All seats on one thread as plain data, and what one tick of one seat makes of it.
use Rattle.std.specs.Prelude.{ℕ, ◌+◌, true, List, [], ◌∷◌, ◌++◌, slice_index, slice_index_or, slice_set, Bool}
use Rattle.std.specs.Prelude as std
use mathlib.Core.Option.{Option, some, none}
use lib.ListN.{get_elem?}
use Rattle.sock_model.specs.sock_words.specs.declared.outcome.Outcome.{Outcome}
use Rattle.sock_model.specs.sock_words.specs.declared.plain.Plan.{Plan}
use Rattle.sock_model.specs.declared.home.Home.{Home}
use Rattle.sock_model.specs.declared.home.Home.TheVariants.{Link, Message}
use Rattle.seat_programs.specs.TableSteps.{TableStep, OnLink, OnMessage, TakeLink, FinishLink, PutLink, PutMessage}
use Rattle.seat_programs.specs.StepTables.{word_of, word_after}
use Rattle.seat_programs.specs.Programs.{Program, Say, Sent, Keep, Retries}
use Rattle.seat_programs.specs.LoopHeads.{Retry}
use Rattle.seat_programs.specs.CallAndRetryPrograms.{retry}
use Rattle.sock_message.specs.Asked.{Asked}
use Rattle.corr_core.specs.declared.marks.Plan.{Plan as IdPlan}

-- a seat: what it has still to do, and the links that it has in hand, the latest first
pub record SeatState : Type 0 where
  pub program : Program
  pub hand : List Home

-- what stands aside of the sockets: the sizes, words and homes of the table of ids, of each seat the retries that wait, the oldest first,
-- of each link what its reading half gave, and whether the run is ending
pub record Calls : Type 0 where
  pub plan : IdPlan
  pub words : List ℕ
  pub homes : List (Option (std.Option Asked))
  pub waiting : List (List Retry)
  pub gave : List (List ℕ)
  pub ending : Bool

-- the words, the homes of requests and links, each with what lies there or nothing, the seats, the outcome of each operation so far, and what
-- stands aside of the sockets
pub record Core : Type 0 where
  pub words : List ℕ
  pub homes : List (Option Home)
  pub seats : List SeatState
  pub outcomes : List (std.Option Outcome)
  pub calls : Calls

-- ## A step of seat i

-- what the step found: the word, or nothing of a move
abbrev pub found_at : List ℕ → Option ℕ → ℕ
found_at ws none = 0
found_at ws (some x) = slice_index ws x

-- the words after a step
abbrev pub words_after : List ℕ → Option ℕ → ℕ → List ℕ
words_after ws none w = ws
words_after ws (some x) w = slice_set ws x w

-- the first that is in hand, and the others
abbrev pub first_of : List Home → Option Home
first_of [] = none
first_of (x ∷ xs) = some x

abbrev pub others_of : List Home → List Home
others_of [] = []
others_of (x ∷ xs) = xs

-- what lies at a home
abbrev pub lies_at : List (Option Home) → ℕ → List Home
lies_at hs i = elim (get_elem? hs i) as (λ o. List Home) [ none ↦ [] | some x ↦ elim x as (λ o. List Home) [ none ↦ [] | some y ↦ y ∷ [] ] ]

-- a link whose writing half is ended
abbrev pub finished : Home → Home
finished (Link k took next done) = Link k took next true
finished other = other

module _ (p : Plan) where
  -- the home of a link stands behind those of the requests
  abbrev pub link_place : ℕ → ℕ
  link_place k = p.requests + k

  -- the homes after a move
  abbrev pub homes_after : TableStep → List Home → List (Option Home) → List (Option Home)
  homes_after (OnLink (TakeLink k)) hand hs = slice_set hs (link_place k) none
  homes_after (OnLink (PutLink k)) hand hs = slice_set hs (link_place k) (first_of hand)
  homes_after (OnMessage (PutMessage q heading bytes)) hand hs = slice_set hs q (some (Message heading bytes))
  homes_after other hand hs = hs

  -- what is in hand after a move, or after the link in hand is ended
  abbrev pub hand_after : TableStep → List (Option Home) → List Home → List Home
  hand_after (OnLink (TakeLink k)) hs hand = lies_at hs (link_place k) ++ hand
  hand_after (OnLink (PutLink k)) hs hand = others_of hand
  hand_after (OnLink (FinishLink k)) hs [] = []
  hand_after (OnLink (FinishLink k)) hs (x ∷ hand) = finished x ∷ hand
  hand_after other hs hand = hand

-- ## What is said, and the next step

-- where the retries that the seat keeps are to be tried, the oldest goes first, and where none waits what follows
abbrev pub resolved : List Retry → Program → Program
resolved w (Say o outcome next) = Say o outcome (resolved w next)
resolved w (Sent o next) = Sent o (resolved w next)
resolved w (Keep r next) = resolved (w ++ r ∷ []) next
resolved [] (Retries requests after) = resolved [] after
resolved (r ∷ w) (Retries requests after) = retry requests r.id r.attempt (Retries requests after)
resolved w other = other

-- the retries that still wait then
abbrev pub still_waiting : List Retry → Program → List Retry
still_waiting w (Say o outcome next) = still_waiting w next
still_waiting w (Sent o next) = still_waiting w next
still_waiting w (Keep r next) = still_waiting (w ++ r ∷ []) next
still_waiting [] (Retries requests after) = still_waiting [] after
still_waiting (r ∷ w) (Retries requests after) = w
still_waiting w other = w

-- the outcomes with those that are said before the next step
abbrev pub said : Program → List (std.Option Outcome) → List (std.Option Outcome)
said (Say o outcome next) os = said next (slice_set os o (std.Some outcome))
said (Sent o next) os = said next os
said other os = os

-- the program from its next step on
abbrev pub next_step : Program → Program
next_step (Say o outcome next) = next_step next
next_step (Sent o next) = next_step next
next_step other = other

abbrev pub waiting_at : List (List Retry) → ℕ → List Retry
waiting_at ws i = slice_index_or ws i []

-- seat i has this program and this in hand, and said what comes before its next step
abbrev pub with_seat : ℕ → Program → List Home → List ℕ → List (Option Home) → Core → Core
with_seat i program hand ws hs c = record {
  words = ws;
  homes = hs;
  seats = slice_set c.seats i (record { program = next_step (resolved (waiting_at c.calls.waiting i) program); hand = hand });
  outcomes = said (resolved (waiting_at c.calls.waiting i) program) c.outcomes;
  calls = record c.calls { waiting = slice_set c.calls.waiting i (still_waiting (waiting_at c.calls.waiting i) program) };
}

-- a step of seat i, which goes on by what it found
abbrev pub stepped : Plan → ℕ → SeatState → TableStep → (ℕ → Program) → Core → Core
stepped p i seat call next c =
    let found = found_at c.words (word_of p call) in
    with_seat i (next found) (hand_after p call c.homes seat.hand) (words_after c.words (word_of p call) (word_after call found)) (homes_after p call seat.hand c.homes) c
