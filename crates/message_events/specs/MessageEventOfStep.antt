-- Which event of the plain model of messages each step is, by what it found and by the view of the seat that makes it.
use Rattle.std.specs.Prelude.{ℕ, ◌-◌, ◌%◌, ◌==◌, nat_lt, if◌then◌else◌, List, [], ◌∷◌, take}
use Rattle.sock_io.specs.declared.link.Put.{Put}
use Rattle.sock_io.specs.declared.link.Put.TheVariants.{Took}
use Rattle.sock_model.specs.declared.chain.Claim.{Claim}
use Rattle.sock_model.specs.declared.view.View.{View}
use Rattle.sock_model.specs.ChainRows.{entry_of}
use Rattle.seat_programs.specs.TableSteps.{TableStep, OnChain, OnPlace, ClaimRequest, SwapHead, FreeRequest, StorePlace, DropPlace}
use Rattle.message_events.specs.MessageModel.{Event, Nothing, Accept, Take, Place, Dropped, Free}
use Rattle.message_events.specs.MessageModel as messages
use Rattle.sock_words.specs.PackedWords.{IDLE}

-- the exchange of a head accepts the message of the seat's one claim, behind the ticket that it found
abbrev pub accept_event : ℕ → List Claim → Event
accept_event found [] = Nothing
accept_event found (c ∷ cs) = Accept (entry_of c (if nat_lt found IDLE then found else found - IDLE))

abbrev pub event_of : TableStep → ℕ → View → Event
event_of (OnChain (ClaimRequest id q)) found v = if found % 2 == 0 then messages.Claim q else Nothing
event_of (OnChain (SwapHead i own)) found v = accept_event found v.claims
event_of (OnPlace (StorePlace l k n)) found v = Place k
event_of (OnPlace (DropPlace l k n)) found v = Dropped k
event_of (OnChain (FreeRequest q g)) found v = Free q
event_of other found v = Nothing

-- a put of these bytes into link k
abbrev pub put_event : ℕ → List ℕ → Put → Event
put_event k bytes (Took n) = Take k (take n bytes)
put_event k bytes other = Nothing
