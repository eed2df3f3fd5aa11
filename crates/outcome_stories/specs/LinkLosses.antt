-- Which links were lost in ticks besides those that answered that they failed: readers and the ending close their sockets.
use Rattle.std.specs.Prelude.{ℕ, ◌%◌, ◌==◌, ◌||◌, Bool, if◌then◌else◌, nat_le, List, [], ◌∷◌, ◌++◌, slice_index, Option, Some, None}
use mathlib.Core.Option.{none, some}
use lib.ListN.{get_elem?}
use Rattle.sock_words.specs.declared.plain.Plan.{Plan}
use Rattle.sock_words.specs.PackedWords.{vref_version}
use Rattle.sock_model.specs.SocketTableLayout.{ref_index, link_index}
use Rattle.seat_programs.specs.TableSteps.{TableStep, OnSlot, SetOdd}
use Rattle.seat_programs.specs.Cores.{Core}
use Rattle.seat_programs.specs.Ticks.{Moment, ticked, broken_at}
use Rattle.seat_programs.specs.SlotFreedByDrop.{call_in}

-- the link of the socket that the step sets failed, where it is live
abbrev pub lost_of : List ℕ → TableStep → List ℕ
lost_of ws (OnSlot (SetOdd i)) = if vref_version (slice_index ws (ref_index i)) % 2 == 0 then slice_index ws (link_index i) ∷ [] else []
lost_of ws other = []

abbrev pub lost_by : List ℕ → Option TableStep → List ℕ
lost_by ws (Some call) = lost_of ws call
lost_by ws None = []

-- seat 0 ends the run, and the seats of readers begin at 32
abbrev pub may_close : ℕ → Bool
may_close seat = (seat == 0) || nat_le 32 seat

-- the links whose sockets are closed in a tick
abbrev pub closed_at : Core → Moment → List ℕ
closed_at c m = if may_close m.seat then elim (get_elem? c.seats m.seat) as (λ o. List ℕ) [ none ↦ [] | some seat ↦ lost_by c.words (call_in seat.program) ] else []

-- the links that answered in a tick that they failed, or whose sockets were closed in it
abbrev pub lost_at : Core → Moment → List ℕ
lost_at c m = broken_at c m ++ closed_at c m

-- and in these ticks, one after another
abbrev pub lost_in : Plan → Core → List Moment → List ℕ
lost_in p c [] = []
lost_in p c (m ∷ ms) = lost_at c m ++ lost_in p (ticked p c m) ms
