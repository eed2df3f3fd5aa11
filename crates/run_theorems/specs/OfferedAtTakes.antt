-- What links gave of what their other ends offer, at each take.
use Rattle.std.specs.Prelude.{ℕ, ◌≡◌, ◌⊎◌, Bool, false, if◌then◌else◌, List, [], ◌∷◌, ◌++◌, take, flat_map, slice_index_or, Option}
use mathlib.Core.Option as core
use lib.ListN.{get_elem?}
use Rattle.sock_words.specs.declared.plain.Plan.{Plan}
use Rattle.brpc_model.specs.Frame.{frame_bytes}
use Rattle.brpc_model.specs.Reply.{reply_frames}
use Rattle.brpc_model.specs.ServedForTakenBytes.{first_of}
use Rattle.sock_model.specs.declared.home.Home.TheVariants.{Link}
use Rattle.seat_programs.specs.Asides.{TakeBytes, Taking, Bytes, Nothing, AtEnd, Closed}
use Rattle.seat_programs.specs.Programs.{Program, Aside}
use Rattle.seat_programs.specs.Cores.{Core, SeatState, link_place}
use Rattle.seat_programs.specs.Ticks.{Answer, Moment, taken, ticked}
use Rattle.owed_calls.specs.call_owing.specs.LivesOfLinks.{InHand}
use Rattle.seat_programs.specs.LoopRounds.{first_step}

-- what the other end of a link offers for these bytes: the server the replies, up to the number that is given, and another end nothing
abbrev pub offered : Bool → Option ℕ → List ℕ → List ℕ
offered serve end bytes = if serve then flat_map frame_bytes (first_of end (reply_frames bytes)) else []

-- A take finds as many of the bytes that wait as its room takes, from their front: of what is offered for what the link took, those that it didn't give so
-- far. Where it finds nothing, the link gave all of that and isn't finished; where it finds that the link is closed, it gave all of that; and where it finds
-- the end, also for whatever else it takes.
abbrev pub GaveSo : (serve : Bool) (end : Option ℕ) (took : List ℕ) (finished : Bool) (gave : List ℕ) (room : ℕ) → Taking → Type 0
GaveSo serve end took finished gave room (Bytes bytes) = (waiting : List ℕ) × (gave ++ waiting ≡ offered serve end took) × (bytes ≡ take room waiting)
GaveSo serve end took finished gave room Nothing = (gave ≡ offered serve end took) × (finished ≡ false)
GaveSo serve end took finished gave room AtEnd = (more : List ℕ) → gave ≡ offered serve end (took ++ more)
GaveSo serve end took finished gave room Closed = gave ≡ offered serve end took
GaveSo serve end took finished gave room other = Unit {0}

module _ (p : Plan) (k : ℕ) where
  -- link k took these bytes, and is finished or not, wherever it lies, at home or in a seat's hand
  abbrev pub HasTaken : Core → List ℕ → Bool → Type 0
  HasTaken c took done = (next : ℕ) × ((get_elem? c.homes (link_place p k) ≡ core.some (core.some (Link k took next done)))
      ⊎ ((j : ℕ) × (seat : SeatState) × (get_elem? c.seats j ≡ core.some seat) × InHand (Link k took next done) seat.hand))

  module _ (serve : Bool) (end : Option ℕ) where
    -- a take of it, which its other end answered so
    abbrev pub OffersAt : Core → Answer → Program → Type 0
    OffersAt c answer (Aside (TakeBytes j room) next) = j ≡ k → (taking : Taking) → taken answer ≡ core.some taking → (took : List ℕ) × (finished : Bool) × HasTaken c took finished × GaveSo serve end took finished (slice_index_or c.calls.gave k []) room taking
    OffersAt c answer other = Unit {0}

    -- at each of these ticks
    abbrev pub AreOffered : Core → List Moment → Type 0
    AreOffered c [] = Unit {0}
    AreOffered c (m ∷ ms) = ((seat : SeatState) → get_elem? c.seats m.seat ≡ core.some seat → OffersAt c m.answer (first_step seat.program)) × AreOffered (ticked p c m) ms
