-- The halves of a link, by what they took and gave.
use Rattle.std.specs.Prelude.{ℕ, ◌≡◌, ◌≢◌, ◌+◌, ◌<◌, ◌≤◌, ◌⊎◌, Bool, true, false, if◌then◌else◌, List, [], ◌∷◌, ◌++◌, length, min, take, flat_map, Option, None, Some, IfSome, option_map}
use Rattle.std.specs.Io.KnownBytes.{append_known}
use Rattle.sock_io.specs.declared.link.Put.{Put}
use Rattle.sock_io.specs.declared.link.Put.TheVariants as put
use Rattle.sock_io.specs.declared.link.Ready.{Ready}
use Rattle.sock_io.specs.declared.link.Ready.TheVariants as ready
use Rattle.sock_io.specs.declared.link.Take.{Take}
use Rattle.sock_io.specs.declared.link.Take.TheVariants as take_
use Rattle.sock_io.specs.declared.link.LinkSpec.{LinkSpec}
use Rattle.sock_io.specs.declared.ending.Ending.{Ending}
use Rattle.sock_io.specs.declared.ending.Ending.TheVariants as ending
use Rattle.brpc_model.specs.Frame.{frame_bytes}
use Rattle.brpc_model.specs.Reply.{reply_frames}
use Rattle.brpc_model.specs.ServedForTakenBytes.{first_of}
use Rattle.brpc_model.specs.ReturnedLink.{LinkEnd, HalfAnswer, PutTook, PutAgain, PutFailed, ReadyNow, ReadyNotYet, ReadyFailed, TakeAnswer, TakeTook, TakeEmpty, TakeEnd, TakeClosed, TakeFailed}
use Rattle.sock_io.specs.FaultCauses.{Rose}
use Rattle.sock_io.specs.PutAnswers.{Pacing, paced_on, next_answer}

-- a writing half
pub record OutState : Type 0 where
  -- which link it is
  pub link : ℕ
  -- all bytes that it took, where it tells them
  pub took : Option (List ℕ)
  -- all bytes that were put through it, where that is known, also where it keeps none of them
  pub put_bytes : Option (List ℕ)
  -- which way its bytes go, where that is known: the other end of the link stands at the end of the same way
  pub way : List ℕ
  -- its count of faults
  pub faults : ℕ
  -- whether it was finished
  pub finished : Bool
  -- whether its next put isn't `Again`
  pub clear : Bool
  -- whether its `ready` never answers `NotYet`
  pub always_ready : Bool
  -- whether its last put answered `Again`
  pub again : Bool
  -- whether a `Now` clears its next put whatever its last put answered
  pub steady : Bool
  -- whether it takes each piece whole until it is finished
  pub whole : Bool
  -- how its puts go, where it answers each as its shape says
  pub pacing : Option Pacing
  -- all that it answered, in order, where it tells that
  pub answers : Option (List HalfAnswer)

-- ## What the other end offers

-- What the other end of a link was asked to be: the built-in server, which gives its end after so many responses, or one that gives nothing; the bytes
-- of the link that it was fed; and of what it gave for them the bytes that wait to be taken, and what stands behind them.
pub record Offer : Type 0 where
  pub serve : Bool
  pub end : Option ℕ
  pub fed : List ℕ
  pub waiting : List ℕ
  pub ending : Ending

-- what it gives for these bytes: the server the replies, up to the number that is given
abbrev pub offered_by : Offer → List ℕ → List ℕ
offered_by o bytes = if o.serve then flat_map frame_bytes (first_of o.end (reply_frames bytes)) else []

-- for more bytes it gives nothing more
abbrev pub GivesNoMore : Offer → Type 0
GivesNoMore o = (more : List ℕ) → offered_by o (o.fed ++ more) ≡ offered_by o o.fed

-- What was offered to a link that took and gave these bytes is what the other end gives for the bytes that it was fed, and they stand first in what
-- the link took. Behind its end it gives no more; and it closes its half only where the link was finished and all was fed.
pub record IsServed (took : List ℕ) (finished : Bool) (gave : List ℕ) (o : Offer) : Type 0 where
  pub left : List ℕ
  pub begins : took ≡ o.fed ++ left
  pub offered : gave ++ o.waiting ≡ offered_by o o.fed
  pub ended : o.ending ≡ ending.Ended → GivesNoMore o
  pub closed : o.ending ≡ ending.Closed → (finished ≡ true) × (left ≡ [])

-- it was asked so, and nothing was fed or given so far
pub record IsNewOffer (spec : LinkSpec) (o : Offer) : Type 0 where
  pub serve : o.serve ≡ spec.shape.serve
  pub end : o.end ≡ spec.shape.end
  pub served : IsServed [] false [] o

-- a reading half
pub record InState : Type 0 where
  -- how many bytes it gave
  pub gave : ℕ
  -- whether it answered `End`
  pub gave_end : Bool
  -- whether it answered `Closed`, where it tells
  pub closed : Option Bool
  -- its count of faults
  pub faults : ℕ
  -- the bytes that it gave, where it tells them
  pub gave_bytes : Option (List ℕ)
  -- all that it answered, in order, where it tells that
  pub takes : Option (List TakeAnswer)
  -- whether the other end closed its half, so that a take may answer `Closed`, where it tells
  pub closing : Option Bool
  -- what its other end offers, where it tells
  pub offer : Option Offer
  -- which way its bytes come, where that is known
  pub way : List ℕ

-- what a put took of the piece
abbrev pub taken_of : List ℕ → Put → List ℕ
taken_of piece (put.Took n) = take n piece
taken_of piece put.Again = []
taken_of piece put.Failed = []

-- what a put answered, and what the question whether it takes more
abbrev pub of_put : Put → HalfAnswer
of_put (put.Took n) = PutTook n
of_put put.Again = PutAgain
of_put put.Failed = PutFailed

abbrev pub of_ready : Ready → HalfAnswer
of_ready ready.Now = ReadyNow
of_ready ready.NotYet = ReadyNotYet
of_ready ready.Failed = ReadyFailed

-- what a take answered
abbrev pub of_take : Take → TakeAnswer
of_take (take_.Took n) = TakeTook n
of_take take_.Empty = TakeEmpty
of_take take_.End = TakeEnd
of_take take_.Closed = TakeClosed
of_take take_.Failed = TakeFailed

-- with these answers behind those before, where they are told
abbrev pub more_told : {A : Type 0} → Option (List A) → List A → Option (List A)
more_told told more = option_map (λ answers. answers ++ more) told

-- a put that takes anything takes at least a byte of the piece and at most all
abbrev pub IsPutCount : List ℕ → Put → Type 0
IsPutCount piece (put.Took n) = (0 < n) × (n ≤ length piece)
IsPutCount piece other = Unit {0}

-- which link it is stays, which way its bytes go, and whether it is always ready
pub record SameOut (old new : OutState) : Type 0 where
  pub link : new.link ≡ old.link
  pub always_ready : new.always_ready ≡ old.always_ready
  pub way : new.way ≡ old.way
  pub later : old.faults ≤ new.faults

-- how it paces its puts stays
pub record SameKind (old new : OutState) : Type 0 where
  pub steady : new.steady ≡ old.steady
  pub whole : new.whole ≡ old.whole

-- what it answers to a put is what its shape says for the number of the put, the bytes that it took so far, and this piece
abbrev pub AnswersAsShaped : OutState → List ℕ → Put → Type 0
AnswersAsShaped out piece result = (p : Pacing) (took : List ℕ) → out.pacing ≡ Some p → out.took ≡ Some took → out.finished ≡ false → result ≡ next_answer p took piece

pub record PutStep (old new : OutState) (piece : List ℕ) (result : Put) : Type 0 where
  pub count : IsPutCount piece result
  pub took : new.took ≡ append_known old.took (taken_of piece result)
  pub put_bytes : new.put_bytes ≡ append_known old.put_bytes (taken_of piece result)
  pub answers : new.answers ≡ more_told old.answers (of_put result ∷ [])
  pub same : SameOut old new
  pub kind : SameKind old new
  pub finished : new.finished ≡ old.finished
  pub again : result ≡ put.Again → old.clear ≡ false
  pub last : (result ≡ put.Again → new.again ≡ true) × (result ≢ put.Again → new.again ≡ false)
  pub whole : old.whole ≡ true → old.finished ≡ false → result ≡ put.Took (length piece)
  pub shaped : AnswersAsShaped old piece result
  pub pacing : new.pacing ≡ option_map (paced_on result) old.pacing
  pub failed : result ≡ put.Failed → old.finished ≡ false → Rose old.faults new.faults
  pub kept : result ≢ put.Failed → new.faults ≡ old.faults
  -- after its end it fails, and no count rises
  pub ended : old.finished ≡ true → (result ≡ put.Failed) × (new.faults ≡ old.faults)

pub record ReadyStep (old new : OutState) (result : Ready) : Type 0 where
  pub took : new.took ≡ old.took
  pub put_bytes : new.put_bytes ≡ old.put_bytes
  pub answers : new.answers ≡ more_told old.answers (of_ready result ∷ [])
  pub same : SameOut old new
  pub kind : SameKind old new
  pub finished : new.finished ≡ old.finished
  pub again : new.again ≡ old.again
  pub pacing : new.pacing ≡ old.pacing
  -- after a put that answered `Again`, `Now` says that the next put doesn't
  pub now : result ≡ ready.Now → old.again ≡ true → new.clear ≡ true
  pub steady : result ≡ ready.Now → old.steady ≡ true → new.clear ≡ true
  -- asking never takes back what an earlier `Now` said
  pub clear : old.clear ≡ true → new.clear ≡ true
  pub always_ready : old.always_ready ≡ true → result ≢ ready.NotYet
  pub failed : result ≡ ready.Failed → old.finished ≡ false → Rose old.faults new.faults
  pub kept : result ≢ ready.Failed → new.faults ≡ old.faults
  pub ended : old.finished ≡ true → (result ≡ ready.Failed) × (new.faults ≡ old.faults)

pub record FinishStep (old new : OutState) : Type 0 where
  pub took : new.took ≡ old.took
  pub put_bytes : new.put_bytes ≡ old.put_bytes
  pub answers : new.answers ≡ old.answers
  pub same : SameOut old new
  pub kind : SameKind old new
  pub pacing : new.pacing ≡ old.pacing
  pub faults : new.faults ≡ old.faults
  pub finished : new.finished ≡ true

-- a take that takes anything gives at least a byte and at most the room's
abbrev pub IsTakeCount : List ℕ → Take → Type 0
IsTakeCount room (take_.Took n) = (0 < n) × (n ≤ length room)
IsTakeCount room other = Unit {0}

abbrev pub taken_count : Take → ℕ
taken_count (take_.Took n) = n
taken_count other = 0

-- what a take gave, as it stands at the front of the room
abbrev pub given_of : List ℕ → Take → List ℕ
given_of room (take_.Took n) = take n room
given_of room other = []

-- a take gives what waits in front; where it gives nothing, nothing waits, and it tells what stands behind
pub record OfferTaken (old new : Offer) (given : List ℕ) (result : Take) : Type 0 where
  pub same : new ≡ record old { waiting = new.waiting }
  pub waiting : given ++ new.waiting ≡ old.waiting
  pub empty : result ≡ take_.Empty → (old.waiting ≡ []) × (old.ending ≡ ending.Open)
  pub end : result ≡ take_.End → (old.waiting ≡ []) × (old.ending ≡ ending.Ended)
  pub closed : result ≡ take_.Closed → (old.waiting ≡ []) × (old.ending ≡ ending.Closed)

abbrev pub OffersTaken : Option Offer → Option Offer → List ℕ → Take → Type 0
OffersTaken None new given result = new ≡ None
OffersTaken (Some old) new given result = (o : Offer) × (new ≡ Some o) × OfferTaken old o given result

-- where it is told what waits, a take gives as much of that as the room takes
abbrev pub FillsRoom : Option Offer → List ℕ → Take → Type 0
FillsRoom None room result = Unit {0}
FillsRoom (Some offer) room (take_.Took n) = n ≡ min (length room) (length offer.waiting)
FillsRoom (Some offer) room other = Unit {0}

pub record TakeStep (old new : InState) (room : List ℕ) (result : Take) : Type 0 where
  pub count : IsTakeCount room result
  pub fills : FillsRoom old.offer room result
  pub gave : new.gave ≡ old.gave + taken_count result
  pub bytes : new.gave_bytes ≡ append_known old.gave_bytes (given_of room result)
  pub end : (result ≡ take_.End → new.gave_end ≡ true) × (result ≢ take_.End → new.gave_end ≡ old.gave_end)
  pub closed : (result ≡ take_.Closed → new.closed ≡ option_map (λ _. true) old.closed) × (result ≢ take_.Closed → new.closed ≡ old.closed)
  pub takes : new.takes ≡ more_told old.takes (of_take result ∷ [])
  -- it answers `Closed` only where the other end closed its half, and taking doesn't make it do so
  pub only_closing : result ≡ take_.Closed → old.closing ≢ Some false
  pub closing : new.closing ≡ old.closing
  pub offer : OffersTaken old.offer new.offer (given_of room result) result
  pub way : new.way ≡ old.way
  pub later : old.faults ≤ new.faults
  pub failed : result ≡ take_.Failed → Rose old.faults new.faults
  pub kept : result ≢ take_.Failed → new.faults ≡ old.faults

-- what was asked of the other end stays
abbrev pub OffersKept : Option Offer → Option Offer → Type 0
OffersKept None new = new ≡ None
OffersKept (Some old) new = (o : Offer) × (new ≡ Some o) × (o.serve ≡ old.serve) × (o.end ≡ old.end)

-- what settling a link changes: the other end may offer more, and where the link was finished, close its half
pub record SettleStep (out : OutState) (old new : InState) : Type 0 where
  pub same : new ≡ record old { closing = new.closing; offer = new.offer }
  pub offer : OffersKept old.offer new.offer
  pub closing : (new.closing ≡ old.closing) ⊎ ((out.finished ≡ true) × (new.closing ≡ option_map (λ _. true) old.closing))

-- a link that was served is served so that what is offered is what belongs to all that it took; and where the link was finished, what is still to
-- come from its other end is known to end
abbrev pub IsSettled : OutState → InState → InState → Type 0
IsSettled out old new = (o : Offer) (took gave : List ℕ) → old.offer ≡ Some o → out.took ≡ Some took → old.gave_bytes ≡ Some gave → IsServed took out.finished gave o
    → (o' : Offer) × (new.offer ≡ Some o') × IsServed took out.finished gave o' × (offered_by o' took ≡ offered_by o' o'.fed) × (out.finished ≡ true → o'.ending ≢ ending.Open)

-- no put was made so far, and they go by the shape that was asked for
abbrev pub new_pacing : LinkSpec → Pacing
new_pacing spec = record { shape = spec.shape; puts = 0; paused = false }

-- halves that took, gave and answered nothing so far
pub record IsUnused (out : OutState) (inn : InState) : Type 0 where
  pub took : IfSome out.took (λ bytes. bytes ≡ [])
  pub answers : IfSome out.answers (λ answers. answers ≡ [])
  pub put_faults : out.faults ≡ 0
  pub finished : out.finished ≡ false
  pub gave : inn.gave ≡ 0
  pub gave_bytes : IfSome inn.gave_bytes (λ bytes. bytes ≡ [])
  pub gave_end : inn.gave_end ≡ false
  pub takes : IfSome inn.takes (λ takes. takes ≡ [])
  pub take_faults : inn.faults ≡ 0

-- a link that was opened just now: it has this number, it took, gave and answered nothing, it wasn't found closed, and its other end didn't close its half
pub record IsFresh (out : OutState) (inn : InState) (number : ℕ) : Type 0 where
  pub link : out.link ≡ number
  pub unused : IsUnused out inn
  pub closed : IfSome inn.closed (λ closed. closed ≡ false)
  pub closing : IfSome inn.closing (λ closing. closing ≡ false)

-- the link that these halves are, or the connection, as it is given back
abbrev pub end_of : OutState → InState → LinkEnd
end_of out inn = record { link = out.link; took = out.took; put_faults = out.faults; gave = inn.gave_bytes; gave_count = inn.gave; take_faults = inn.faults; gave_end = inn.gave_end; closed = inn.closed; answers = out.answers; takes = inn.takes }

-- what was asked of each link that a linker opened, in order, how many connections it accepted, the links and the connections given back, in order, its
-- count of faults, and whether `ready` never answers `NotYet` on its links in mode `Loop`
pub record LinkerState : Type 0 where
  pub asked : List LinkSpec
  pub accepted : ℕ
  pub back : List LinkEnd
  pub done : List LinkEnd
  pub faults : ℕ
  pub always_ready : Bool

-- where these links were asked for, one may be asked for so: a put takes a byte at least, and there are at most 256
abbrev pub MayOpen : List LinkSpec → LinkSpec → Type 0
MayOpen asked spec = (0 < spec.shape.piece) × (length asked < 256)
