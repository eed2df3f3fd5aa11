-- Messages and links as a machine has them: at home, or in hand of a seat.
use Rattle.std.specs.Prelude.{ℕ, ◌≡◌, ◌≢◌, ◌==◌, ◌++◌, true, false, Bool, is_some, if◌then◌else◌, List, [], ◌∷◌, length, map, flat_map, slice_index_or, Option, Some, None, IfSome}
use mathlib.Core.Option as core
use lib.ListN.{get_elem?}
use Rattle.sock_words.specs.declared.plain.Plan.{Plan}
use Rattle.sock_words.specs.declared.shape.Shape.{Shape}
use Rattle.sock_io.specs.LinkHalves.{OutState, InState}
use Rattle.sock_io.specs.PutAnswers.{Pacing}
use Rattle.sock_model.specs.declared.home.Home.{Home}
use Rattle.sock_model.specs.declared.home.Home.TheVariants.{Link, Message}
use Rattle.seat_programs.specs.Writings as heads
use Rattle.seat_programs.specs.Programs.{Program, PutBytes, Write}
use Rattle.seat_programs.specs.Ticks.{Answer}
use Rattle.seat_programs.specs.ScheduledRuns.{from_to}
use Rattle.run_theorems.specs.ShapedPuts.{paced}
use Rattle.message_parts.specs.Parcels.{parcel_of}
use Rattle.seat_states.specs.ProgramAtPoint.{heading_by}
use Rattle.script_links.specs.OfferedLinks.{IsOffered, TellsPacing}
use Rattle.machine_model.specs.declared.home_message.HomeMessage.{HomeMessage}

-- the message that lies at the home of a request
abbrev pub letter_home : Option HomeMessage → core.Option Home
letter_home None = core.none
letter_home (Some letter) = core.some (Message (heading_by letter.author (parcel_of letter.message).parts) (parcel_of letter.message).bytes)

-- all links: who has each in hand, how many of its messages have places, and its halves
pub record LinksData : Type 0 where
  pub holders : List (Option ℕ)
  pub nexts : List ℕ
  pub outs : List OutState
  pub inns : List InState

-- what each link took, and what each gave: a half may not tell it, so these stand beside a machine
abbrev pub Taken : Type 0
Taken = ℕ → List ℕ

abbrev pub Given : Type 0
Given = ℕ → List ℕ

module _ (l : LinksData) where
  abbrev pub holder_of : ℕ → Option ℕ
  holder_of k = slice_index_or l.holders k None

  abbrev pub is_done : ℕ → Bool
  is_done k = elim (get_elem? l.outs k) as (λ o. Bool) [ core.none ↦ false | core.some out ↦ out.finished ]

  -- a link as a home has it
  abbrev pub link_with : Taken → ℕ → Home
  link_with took k = Link k (took k) (slice_index_or l.nexts k 0) (is_done k)

  -- a link that nobody has in hand lies at its home
  abbrev pub link_home : Taken → ℕ → core.Option Home
  link_home took k = if is_some (holder_of k) then core.none else core.some (link_with took k)

  abbrev pub homes_of : Plan → List (Option HomeMessage) → Taken → List (core.Option Home)
  homes_of p letters took = map letter_home letters ++ map (link_home took) (from_to 0 p.links)

  -- a link that a seat has in hand
  abbrev pub in_hand : Taken → ℕ → ℕ → List Home
  in_hand took i k = elim (holder_of k) as (λ o. List Home) [ None ↦ [] | Some j ↦ if j == i then link_with took k ∷ [] else [] ]

  -- all that it has, of so many links
  abbrev pub hand_of : ℕ → Taken → ℕ → List Home
  hand_of count took i = flat_map (in_hand took i) (from_to 0 count)

  -- where its writing half tells what a link took, it took this
  abbrev pub Agrees : Taken → Type 0
  Agrees took = (k : ℕ) (out : OutState) → get_elem? l.outs k ≡ core.some out → IfSome out.took (λ bytes. bytes ≡ took k)

  -- its reading half counts what it gave; and where it tells what that was, it gave this
  abbrev pub AgreesGave : Given → Type 0
  AgreesGave gave = (k : ℕ) (inn : InState) → get_elem? l.inns k ≡ core.some inn → (inn.gave ≡ length (gave k)) × IfSome inn.gave_bytes (λ bytes. bytes ≡ gave k)

  -- what they took and gave so far
  pub record SoFar : Type 0 where
    pub took : Taken
    pub gave : Given
    pub agrees : Agrees took
    pub agrees_gave : AgreesGave gave

  -- a link whose other end closed its half is finished: nothing else has it do so
  abbrev pub ClosedAreDone : Type 0
  ClosedAreDone = (k : ℕ) (inn : InState) → get_elem? l.inns k ≡ core.some inn → inn.closing ≡ Some true → is_done k ≡ true

  -- each of them tells whether its other end closed its half
  abbrev pub TellClosing : Type 0
  TellClosing = (k : ℕ) (inn : InState) → get_elem? l.inns k ≡ core.some inn → inn.closing ≢ None

  -- each of them is prompt
  abbrev pub AreAlwaysReady : Type 0
  AreAlwaysReady = (k : ℕ) (out : OutState) → get_elem? l.outs k ≡ core.some out → out.always_ready ≡ true

abbrev pub IsOffering : LinksData → ℕ → Bool → Option ℕ → Type 0
IsOffering l k serve end = IsOffered l.outs l.inns k serve end

-- each of these that was offered what belongs to it is so among the others
abbrev pub StayOffered : List OutState → List InState → LinksData → Type 0
StayOffered outs inns l = (k : ℕ) (serve : Bool) (end : Option ℕ) → IsOffered outs inns k serve end → IsOffering l k serve end

-- the puts of link k go by this shape, behind those that it answered so
abbrev pub IsShapedSo : LinksData → ℕ → Shape → List Answer → Type 0
IsShapedSo l k shape so_far = TellsPacing l.outs k (paced shape so_far)

-- the puts of each of these go on so among the others
abbrev pub StayPaced : List OutState → LinksData → Type 0
StayPaced outs l = (k : ℕ) (pacing : Pacing) → TellsPacing outs k pacing → TellsPacing l.outs k pacing

-- the next put into a link isn't answered `Again`, and the last one was
abbrev pub IsClear : List OutState → ℕ → Type 0
IsClear outs k = (out : OutState) → get_elem? outs k ≡ core.some out → out.clear ≡ true

abbrev pub WasRefused : List OutState → ℕ → Type 0
WasRefused outs k = (out : OutState) → get_elem? outs k ≡ core.some out → out.again ≡ true

-- a seat that was answered that its link takes more finds it so, and one that asks was answered `Again`
abbrev pub IsPaced : List OutState → Program → Type 0
IsPaced outs (Write (heads.Puts h now heading left taken asked) after) = asked ≡ true → IsClear outs h.link
IsPaced outs (Write (heads.Waits h now heading left taken) after) = WasRefused outs h.link
IsPaced outs (PutBytes k asked bytes next) = asked ≡ true → IsClear outs k
IsPaced outs other = Unit {0}
