-- The link in memory behind the other end of a link over rings, and what that gave and took of it.
use Rattle.std.specs.Prelude.{ℕ, ◌≡◌, ◌&&◌, not, if◌then◌else◌, Bool, true, false, List, [], ◌∷◌, Option, None, Some}
use Rattle.sock_io.specs.declared.ending.Ending.{Ending}
use Rattle.sock_io.specs.declared.ending.Ending.TheVariants as ending
use Rattle.sock_io.specs.declared.link.Take.{Take}
use Rattle.sock_io.specs.declared.link.Take.TheVariants as take_
use Rattle.sock_io.specs.LinkHalves.{Offer, IsServed}
use Rattle.sock_io.specs.Peer.{has_ended}
use Rattle.loop_link.specs.ServingFedBytes.{LoopInState, offer_of}

-- such a link: whether it was finished, what it took, and its reading half
pub record InnerState : Type 0 where
  pub finished : Bool
  pub took : List ℕ
  pub inn : LoopInState

abbrev pub inner_offer : InnerState → Offer
inner_offer l = offer_of l.inn

abbrev pub inner_gave : InnerState → List ℕ
inner_gave l = l.inn.half.given

-- what it offers belongs to what it took and gave
abbrev pub IsServing : InnerState → Type 0
IsServing l = IsServed l.took l.finished (inner_gave l) (inner_offer l)

-- one that took and gave nothing, at whose other end stands what was asked for
pub record IsNewInner (asked : Bool) (last : Option ℕ) (l : InnerState) : Type 0 where
  pub finished : l.finished ≡ false
  pub took : l.took ≡ []
  pub gave : inner_gave l ≡ []
  pub served : IsServing l
  pub serve : l.inn.peer.serve ≡ asked
  pub end : l.inn.peer.end ≡ last

-- what was asked of its other end stays
abbrev pub SameAsked : InnerState → InnerState → Type 0
SameAsked old new = (new.inn.peer.serve ≡ old.inn.peer.serve) × (new.inn.peer.end ≡ old.inn.peer.end)

-- what stands behind a mark that was taken
abbrev pub answer_behind : Ending → Take
answer_behind ending.Open = take_.Empty
answer_behind ending.Ended = take_.End
answer_behind ending.Closed = take_.Closed

-- what was handed on of such a link whose bytes all went out, with this mark behind them
abbrev pub handed_on : LoopInState → Ending → Offer
handed_on i e = record (offer_of i) { waiting = []; ending = e }

-- What a reading half knows of its other end once the two were compared: nothing, or of which link in memory all was handed on. That tells what was
-- offered once the mark was taken.
abbrev pub is_met : List LoopInState → Bool
is_met [] = false
is_met (i ∷ more) = true

abbrev pub offer_met : List LoopInState → Ending → Option Offer
offer_met [] e = None
offer_met (i ∷ more) ending.Open = None
offer_met (i ∷ more) ending.Ended = Some (handed_on i ending.Ended)
offer_met (i ∷ more) ending.Closed = Some (handed_on i ending.Closed)

-- behind a comparison: where the mark was taken and memory wasn't wanting it knows, and keeps what it knew before
abbrev pub met_after : (whole : Bool) → Ending → List LoopInState → LoopInState → List LoopInState
met_after whole e met i = if not (is_met met) && (has_ended e && whole) then i ∷ [] else met
