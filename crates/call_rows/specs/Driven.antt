-- A run computed: each tick with what its link answers in memory, by its shape and with the built-in server behind it.
use Rattle.std.specs.Prelude.{ℕ, zero, suc, ◌+◌, ◌-◌, ◌*◌, ◌%◌, ◌==◌, ◌&&◌, ◌||◌, not, Bool, true, false, List, [], ◌∷◌, ◌++◌, length, take, drop, map, filter, flat_map, slice_index_or, slice_set, min, nat_le, nat_lt, if◌then◌else◌, bytes_eq}
use Rattle.std.specs.Prelude as std
use mathlib.Core.Option.{Option, some, none}
use lib.ListN.{get_elem?}
use Rattle.sock_words.specs.KindText.{kind_text}
use Rattle.sock_words.specs.declared.plain.Plan.{Plan}
use Rattle.sock_words.specs.declared.outcome.Outcome.{Outcome}
use Rattle.sock_io.specs.declared.link.Put.{Put}
use Rattle.sock_io.specs.declared.link.Put.TheVariants.{Took, Again, Failed}
use Rattle.sock_io.specs.declared.link.Ready.TheVariants as ready
use Rattle.sock_model.specs.declared.home.Home.{Home}
use Rattle.sock_model.specs.declared.home.Home.TheVariants.{Link}
use Rattle.brpc_model.specs.Items.{Item, Shape}
use Rattle.brpc_model.specs.FrameStream as streams
use Rattle.brpc_model.specs.Reply.{reply_frames}
use Rattle.brpc_model.specs.ServedForTakenBytes.{given_for}
use Rattle.brpc_model.specs.Operations.{Turn, Ticks, Until, clients, schedule, link_names, link_shapes}
use Rattle.seat_programs.specs.Writings as heads
use Rattle.seat_programs.specs.Asides.{Taking, Bytes, Nothing, AtEnd, Closed}
use Rattle.seat_programs.specs.LoopHeads.{Reads, Discards}
use Rattle.seat_programs.specs.ReaderProgram.{room_of}
use Rattle.seat_programs.specs.Programs.{Program, PutBytes, AskReady, Write, Round}
use Rattle.seat_programs.specs.Cores.{Core, SeatState, link_place}
use Rattle.seat_programs.specs.Ticks.{Answer, Unasked, OfPut, OfReady, OfTake, Moment, ticked, waits}
use Rattle.seat_programs.specs.ScheduledRuns.{from_to, next_kind}
use Rattle.seat_programs.specs.Tasks.{plan_of}
use Rattle.seat_programs.specs.ScriptSetupToEnding.{opened, ending, is_ending}
use Rattle.brpc_model.specs.FrameStream.{is_fault}

-- how often each link was put to, and whether it answered the last time that it takes no more yet
pub record Puts : Type 0 where
  pub count : ℕ
  pub again : Bool

pub record World : Type 0 where
  pub core : Core
  pub puts : List Puts

-- ## Links

abbrev pub no_puts : Puts
no_puts = record { count = 0; again = false }

abbrev pub put_to : Shape → Puts → List ℕ → Put
put_to shape u bytes = let n = u.count + 1 in
    if not (shape.fail == 0) && nat_le shape.fail n then Failed
    else if not (shape.again == 0) && (n % shape.again == 0) && not u.again then Again
    else Took (min (length bytes) shape.piece)

abbrev pub is_again : Put → Bool
is_again Again = true
is_again other = false

-- the link itself, at home or in some hand
abbrev pub link_in : ℕ → List Home → List Home
link_in k [] = []
link_in k (Link l took next done ∷ xs) = if l == k then Link l took next done ∷ [] else link_in k xs
link_in k (x ∷ xs) = link_in k xs

abbrev pub at_home : Option (Option Home) → List Home
at_home (some (some x)) = x ∷ []
at_home other = []

abbrev pub link_of : Plan → Core → ℕ → List Home
link_of p c k = link_in k (at_home (get_elem? c.homes (link_place p k)) ++ flat_map (λ (s : SeatState). s.hand) c.seats)

abbrev pub reached : std.Option ℕ → ℕ → Bool
reached std.None n = false
reached (std.Some m) n = nat_le m n

abbrev pub gives : Shape → List Home → List ℕ → ℕ → Taking
gives shape (Link k took next done ∷ xs) gave room =
    let there = drop (length gave) (if shape.serve then given_for shape took else []) in
    if nat_lt 0 (length there) then Bytes (take room there)
    else if shape.serve && (reached shape.end (length (reply_frames took)) || is_fault (streams.stream took).ending) then AtEnd
    else if done then Closed else Nothing
gives shape other gave room = Nothing

abbrev pub no_shape : Shape
no_shape = record { piece = 65536; again = 0; fail = 0; serve = false; end = std.None }

module _ (shapes : List Shape) (p : Plan) where
  abbrev pub shape_of : ℕ → Shape
  shape_of k = slice_index_or shapes k no_shape

  abbrev pub answer_in : World → Program → Answer
  answer_in w (PutBytes k asked bytes next) = OfPut (put_to (shape_of k) (slice_index_or w.puts k no_puts) bytes)
  answer_in w (AskReady k next) = OfReady ready.Now
  answer_in w (Write (heads.Waits h now heading left taken) after) = OfReady ready.Now
  answer_in w (Round (Reads r) next) = OfTake (gives (shape_of r.link) (link_of p w.core r.link) (slice_index_or w.core.calls.gave r.link []) (room_of r.total))
  answer_in w (Round (Discards k total) next) = OfTake (gives (shape_of k) (link_of p w.core k) (slice_index_or w.core.calls.gave k []) (room_of total))
  answer_in w other = Unasked

  abbrev pub program_of : Core → ℕ → Option SeatState
  program_of c i = get_elem? c.seats i

  abbrev pub puts_after : List Puts → Program → Answer → List Puts
  puts_after us (PutBytes k asked bytes next) (OfPut put) = slice_set us k (record { count = (slice_index_or us k no_puts).count + 1; again = is_again put })
  puts_after us other answer = us

  -- a tick of seat i, and whether it moved
  abbrev pub tick : ℕ → World → World × Bool
  tick i w = elim (program_of w.core i) as (λ o. World × Bool) [
    | none ↦ (w, false)
    | some seat ↦ (let answer = answer_in w seat.program in let m : Moment = record { seat = i; answer = answer } in
        (record { core = ticked p w.core m; puts = puts_after w.puts seat.program answer }, has_kind (next_kind w.core i) && not (waits p w.core m)))
  ]
    where
      has_kind : {A : Type 0} → std.Option A → Bool
      has_kind (std.Some a) = true
      has_kind std.None = false

  abbrev pub ticks : List ℕ → World → World × Bool
  ticks [] w = (w, false)
  ticks (i ∷ is) w = let a = tick i w in let b = ticks is a.0 in (b.0, a.1 || b.1)

  -- rounds of these seats until none moves
  abbrev pub rounds : ℕ → List ℕ → World → World
  rounds zero order w = w
  rounds (suc fuel) order w = let a = ticks order w in if a.1 then rounds fuel order a.0 else a.0

  -- ticks of one seat until it moves no more
  abbrev pub alone : ℕ → ℕ → World → World
  alone zero i w = w
  alone (suc fuel) i w = let a = tick i w in if a.1 then alone fuel i a.0 else a.0

  abbrev pub is_kind : std.Option Rattle.sock_words.specs.declared.kind.Kind.Kind → List ℕ → Bool
  is_kind (std.Some k) kind = bytes_eq (kind_text k) kind
  is_kind std.None kind = false

  abbrev pub up_to : ℕ → ℕ → List ℕ → World → World
  up_to zero i kind w = w
  up_to (suc fuel) i kind w = let a = tick i w in if a.1 && not (is_kind (next_kind w.core i) kind) then up_to fuel i kind a.0 else a.0

  abbrev pub turn : World → Turn → World
  turn w (Ticks i n) = (ticks (std.replicate n i) w).0
  turn w (Until i kind) = up_to 200 i kind w

  abbrev pub turns : List Turn → World → World
  turns [] w = w
  turns (t ∷ ts) w = turns ts (turn w t)

  -- the kinds of the steps that these ticks make, nothing where the seat waits or has none
  abbrev pub kind_words : Bool → std.Option Rattle.sock_words.specs.declared.kind.Kind.Kind → List ℕ
  kind_words true (std.Some k) = kind_text k
  kind_words moved k = []

  abbrev pub traced : List ℕ → World → List (List ℕ)
  traced [] w = []
  traced (i ∷ is) w = let a = tick i w in kind_words a.1 (next_kind w.core i) ∷ traced is a.0

-- the kinds of the ticks of these seats behind the setup
abbrev pub trace_of : List Item → List ℕ → List (List ℕ)
trace_of script seats = let p = plan_of script in let shapes = link_shapes script in
    traced shapes p seats (alone shapes p 200 0 (record { core = opened script; puts = map (λ (s : Shape). no_puts) shapes }))

-- the core in which the run of a script ends behind ticks of these seats
abbrev pub final_from : List Item → List ℕ → Core
final_from script seats = let p = plan_of script in let shapes = link_shapes script in let order = from_to 1 (clients script) ++ from_to 32 (length (link_names script)) in
    let w₀ : World = record { core = opened script; puts = map (λ (s : Shape). no_puts) shapes } in
    let w₁ = alone shapes p 200 0 w₀ in let w₂ = (ticks shapes p seats w₁).0 in let w₃ = rounds shapes p 300 order w₂ in
    let w₄ = alone shapes p 200 0 (record { core = ending script w₃.core; puts = w₃.puts }) in
    (rounds shapes p 300 order (record { core = is_ending w₄.core; puts = w₄.puts })).core

-- the core in which the run of a script ends by its own schedule
abbrev pub final : List Item → Core
final script = let p = plan_of script in let shapes = link_shapes script in let order = from_to 1 (clients script) ++ from_to 32 (length (link_names script)) in
    let w₀ : World = record { core = opened script; puts = map (λ (s : Shape). no_puts) shapes } in
    let w₁ = alone shapes p 200 0 w₀ in let w₂ = turns shapes p (schedule script) w₁ in let w₃ = rounds shapes p 200 order w₂ in
    let w₄ = alone shapes p 200 0 (record { core = ending script w₃.core; puts = w₃.puts }) in
    (rounds shapes p 200 order (record { core = is_ending w₄.core; puts = w₄.puts })).core

-- the outcomes, the place words other than 0 with their places, and what the links took
abbrev pub told_of : Core → List (std.Option Outcome) × List (ℕ × ℕ) × List (List ℕ)
told_of c = (c.outcomes, filter (λ (x : ℕ × ℕ). not (x.1 == 0)) (places_from 0 (drop (length c.words - 8 * length c.outcomes) c.words)), flat_map taken_by (c.homes))
  where
    taken_by : Option Home → List (List ℕ)
    taken_by (some (Link k took next done)) = took ∷ []
    taken_by other = []

    places_from : ℕ → List ℕ → List (ℕ × ℕ)
    places_from i [] = []
    places_from i (w ∷ ws) = (i, w) ∷ places_from (i + 1) ws
