-- What whoever has the right to write a link has in hand.
use Rattle.std.specs.Prelude.{◌≡◌, ◌≢◌, ℕ, ◌+◌, ◌*◌, ◌<◌, ◌≤◌, ◌⊎◌, true, false, List, [], ◌∷◌, ◌++◌}
use Rattle.sock_io.specs.declared.link.Put.{Put}
use Rattle.atomic_table.specs.Table.{Me}
use Rattle.sock_io.specs.declared.link.Out.{Ghosts}
use Rattle.sock_words.specs.declared.plain.Plan.{Plan}
use Rattle.sock_words.specs.PackedWords.{socket_id_version, socket_id_slot, ticket_request}
use Rattle.sock_model.specs.declared.chain.Right.{Right}
use Rattle.sock_model.specs.declared.chain.Stage.{Stage}
use Rattle.sock_model.specs.declared.chain.Stage.TheVariants as stage
use Rattle.sock_model.specs.declared.view.View.{View}
use Rattle.sock_model.specs.LinksInSlots.{HoldsLink}
use Rattle.sock_model.specs.MarkWeights.{is_ref, is_saw}
use Rattle.sock_model.specs.SlotRows.{marks_of}
use Rattle.message_parts.specs.Parcels.{outgoing_of}
use Rattle.sock_rule.specs.LinkFaultNotes.{faults_of}
use Rattle.sock_rule.specs.HoldingWriteRight.{Rights}
use Rattle.sock_rule.specs.Shows.{way_at}
use Rattle.sock_rule.specs.ChainPlays.{IsTicket}
use Rattle.sock_rule.specs.declared.homes.LinkHome.{LinkHome}
use Rattle.sock_rule.specs.declared.homes.SockHome.{SockHome}
use Rattle.sock_rule.specs.declared.homes.SockHome.TheVariants.{Empty}
use Rattle.sock_table.specs.ReferenceCalls.{IsBetween, Rests}
use Rattle.sock_table.specs.ReferenceAnswers.{Holds}
use Rattle.write_chain.specs.LinkCalls.{MayPut, NoneFailed, IsTurn}
use Rattle.write_chain.specs.Puts.{Called}
use Rattle.write_chain.specs.declared.right.LinkCall.TheVariants as call
use Rattle.write_chain.specs.declared.right.WriteRight.{WriteRight}
use Rattle.write_chain.specs.declared.right.InHand.{InHand}
use Rattle.write_chain.specs.declared.right.LinkInHand.{LinkInHand}
use Rattle.write_chain.specs.declared.right.Doing.{Doing}
use Rattle.write_chain.specs.declared.right.Doing.TheVariants as doing
use Rattle.write_chain.specs.declared.right.Doing.TheVariants.{First}
use Rattle.write_chain.specs.declared.hold.Once.{Once}
use Rattle.write_chain.specs.declared.hold.Once.TheVariants as once
use Rattle.write_chain.specs.declared.hold.Tried.{Tried}
use Rattle.write_chain.specs.declared.hold.Tried.TheVariants as tried
use Rattle.sock_table.specs.declared.refs.SockRef.{SockRef}
use Rattle.write_chain.specs.declared.entry.Started.{Started}
use Rattle.write_chain.specs.declared.entry.Started.TheVariants as started

-- the seat's one right is x, to write this link up to the ticket `last`; it holds the life of this id, whose link it is, and has nothing else but references and notes
pub record IsWriter (p : Plan) (id last link : ℕ) (x : Right) (v : View) : Type 0 where
  pub one : Rights x v
  pub last_is : x.last ≡ last
  pub last_ticket : IsTicket p last
  pub link_is : x.link ≡ link
  pub holds : HoldsLink p v (socket_id_slot id) (socket_id_version id) link
  pub rests : Rests p v
  -- one reference more may be counted
  pub room : marks_of is_ref (socket_id_slot id) v < 65540

-- its link is at home, and no message is in hand
pub record Stands {S : Type 0} (p : Plan) (id last : ℕ) (at : Stage) (link : ℕ) (m : Me S View) : Type 0 where
  pub right_is : Right
  pub writer : IsWriter p id last link right_is m.0
  pub stage_is : right_is.stage ≡ at
  pub home : right_is.at_home ≡ true
  pub idle : right_is.taken ≡ false
  pub slots : m.1 ≡ []

-- the right was answered by `start`
pub record MayBegin {O : Type 0} {g : Ghosts O} (p : Plan) (right : WriteRight O g) (m : Me (SockHome O g) View) : Type 0 where
  pub first : right.doing ≡ First
  pub link : ℕ
  pub stands : Stands p right.sock.id.0 right.last.0 (stage.Writes right.last.0) link m

-- the seat has no right: it holds the life, and has references and notes alone
pub record GaveUp {S : Type 0} (p : Plan) (id : ℕ) (m : Me S View) : Type 0 where
  pub between : IsBetween p m.0
  pub holds : Holds p m.0 id
  pub slots : m.1 ≡ []

-- what the seat has once its message was accepted, in the one case and in the other
abbrev pub Begins : {O : Type 0} {g : Ghosts O} → Plan → SockRef → Started O g → Me (SockHome O g) View → Type 0
Begins p sock (started.Queued s) m = (s ≡ sock) × GaveUp p sock.id.0 m
Begins p sock (started.Right r) m = (r.sock ≡ sock) × MayBegin p r m

-- the link is in hand as the right has it
pub record HasHome {O : Type 0} {g : Ghosts O} (p : Plan) (ways : List (List ℕ)) (link : ℕ) (home : LinkHome O g) (x : Right) : Type 0 where
  pub away : x.at_home ≡ false
  pub link_in : link < p.links
  pub places_are : home.next ≡ x.places
  pub own : (g.state home.out).link ≡ link
  -- its bytes go the way that the table was told of this link
  pub way : (g.state home.out).way ≡ way_at ways link
  pub unfinished : (g.state home.out).finished ≡ false

-- the link is in hand, and no message; the homes that were taken since stand above that of the link
pub record HasLink {O : Type 0} {g : Ghosts O} (p : Plan) (ways : List (List ℕ)) (id last : ℕ) (at : Stage) (above : List (ℕ × SockHome O g)) (hand : LinkInHand O g) (m : Me (SockHome O g) View) : Type 0 where
  pub right_is : Right
  pub writer : IsWriter p id last hand.link right_is m.0
  pub has : HasHome p ways hand.link hand.home right_is
  pub stage_is : right_is.stage ≡ at
  pub idle : right_is.taken ≡ false
  pub took : hand.home.took.list ≡ right_is.sent
  -- its half has a fault where the seat noted one
  pub noted : 0 < faults_of hand.link m.0 → 0 < (g.state hand.home.out).faults
  pub slots : m.1 ≡ above ++ (p.requests + hand.link, Empty) ∷ []

-- the message of ticket `now` is in hand with the link, which took `begun` of it
pub record HasInHand {O : Type 0} {g : Ghosts O} (p : Plan) (ways : List (List ℕ)) (id last : ℕ) (hand : InHand O g) (m : Me (SockHome O g) View) : Type 0 where
  pub right_is : Right
  pub writer : IsWriter p id last hand.link right_is m.0
  pub has : HasHome p ways hand.link hand.home right_is
  pub stage_is : right_is.stage ≡ stage.Writes hand.now.0
  pub ticket : IsTicket p hand.now.0
  pub taken : right_is.taken ≡ true
  pub label_is : right_is.heading.label ≡ hand.label
  pub owner_is : right_is.heading.owner ≡ hand.owner
  pub place_in : hand.label.place < 8 * p.operations
  pub begun : List ℕ
  pub bytes_are : right_is.bytes ≡ begun ++ (outgoing_of hand.bytes).left
  pub took : hand.home.took.list ≡ right_is.sent ++ begun
  -- the half has a fault where the seat noted one
  pub noted : 0 < faults_of hand.link m.0 → 0 < (g.state hand.home.out).faults
  pub few : hand.home.next < 4294967295
  -- the half was put to behind looks alone since the message is in hand
  pub turn : IsTurn g.state hand.came.list hand.home.out hand.calls.list
  pub slots : m.1 ≡ (ticket_request hand.now.0, Empty) ∷ (p.requests + hand.link, Empty) ∷ []

-- and bytes are left, or none was put; the look before a put found the life live
abbrev pub IsPart : Right → List ℕ → List ℕ → Type 0
IsPart x begun left = (begun ≡ []) ⊎ ((x.clean ≡ true) × (left ≢ []))

abbrev pub HasRest : {O : Type 0} {g : Ghosts O} → Plan → List (List ℕ) → ℕ → ℕ → InHand O g → Me (SockHome O g) View → Type 0
HasRest p ways id last hand m = (h : HasInHand p ways id last hand m) × IsPart h.right_is h.begun (outgoing_of hand.bytes).left

-- the seat found that the life was failed
abbrev pub FoundDead : ℕ → View → Type 0
FoundDead id v = 0 < marks_of (is_saw (socket_id_version id + 1)) (socket_id_slot id) v

-- and where the link failed since the message is in hand, the life was found failed
abbrev pub HasPart : {O : Type 0} {g : Ghosts O} → Plan → List (List ℕ) → ℕ → ℕ → InHand O g → Me (SockHome O g) View → Type 0
HasPart p ways id last hand m = (h : HasInHand p ways id last hand m) × IsPart h.right_is h.begun (outgoing_of hand.bytes).left × (NoneFailed hand.calls.list ⊎ FoundDead id m.0)

-- the look before this found the life live, and is spent by no put yet
abbrev pub IsClean : {O : Type 0} {g : Ghosts O} → Plan → List (List ℕ) → ℕ → ℕ → InHand O g → Me (SockHome O g) View → Type 0
IsClean p ways id last hand m = (h : HasInHand p ways id last hand m) × (h.right_is.clean ≡ true) × MayPut hand.calls.list

-- the link took the whole message, and the look before its last put found the life live
abbrev pub HasWhole : {O : Type 0} {g : Ghosts O} → Plan → List (List ℕ) → ℕ → ℕ → InHand O g → Me (SockHome O g) View → Type 0
HasWhole p ways id last hand m = (h : HasInHand p ways id last hand m) × (h.right_is.clean ≡ true) × ((outgoing_of hand.bytes).left ≡ [])

-- so many faults the link in hand had: it has as many, or the life was found failed
abbrev pub FaultTold : {O : Type 0} {g : Ghosts O} → ℕ → ℕ → LinkHome O g → View → Type 0
FaultTold {O} {g} n id home v = ((g.state home.out).faults ≡ n) ⊎ FoundDead id v

-- what the seat has where it goes on by this
abbrev pub GoesBy : {O : Type 0} {g : Ghosts O} → Plan → List (List ℕ) → ℕ → ℕ → Doing O g → Me (SockHome O g) View → Type 0
GoesBy p ways id last First m = ⊥
GoesBy p ways id last (doing.Puts hand) m = HasPart p ways id last hand m
GoesBy p ways id last (doing.Waits hand) m = HasPart p ways id last hand m
GoesBy p ways id last (doing.Next link now) m = HasLink p ways id last (stage.Writes now.0) [] link m × IsTicket p now.0
GoesBy p ways id last (doing.Last link) m = HasLink p ways id last stage.Empties [] link m
GoesBy p ways id last (doing.Reversing link top) m = Stands p id last (stage.Reversing top.0 top.0 0) link m × IsTicket p top.0
GoesBy p ways id last (doing.Back w) m = HasLink p ways id last (stage.Reversing w.top.0 w.at.0 w.after) [] w.link m × IsTicket p w.top.0 × IsTicket p w.at.0

abbrev pub MayGoOn : {O : Type 0} {g : Ghosts O} → Plan → List (List ℕ) → WriteRight O g → Me (SockHome O g) View → Type 0
MayGoOn p ways right m = GoesBy p ways right.sock.id.0 right.last.0 right.doing m

-- and of the link, where it is in hand still
abbrev pub FaultsBy : {O : Type 0} {g : Ghosts O} → ℕ → ℕ → Doing O g → View → Type 0
FaultsBy n id First v = Unit {0}
FaultsBy n id (doing.Puts hand) v = FaultTold n id hand.home v
FaultsBy n id (doing.Waits hand) v = FaultTold n id hand.home v
FaultsBy n id (doing.Next link now) v = FaultTold n id link.home v
FaultsBy n id (doing.Last link) v = FaultTold n id link.home v
FaultsBy n id (doing.Reversing link top) v = Unit {0}
FaultsBy n id (doing.Back w) v = FaultTold n id w.link.home v

-- all that was noted has its place
abbrev pub IsLast : {O : Type 0} {g : Ghosts O} → Doing O g → Type 0
IsLast (doing.Last link) = Unit {0}
IsLast other = ⊥

-- the message isn't taken whole, or was dead, or the head has a newer ticket
abbrev pub IsLeft : {O : Type 0} {g : Ghosts O} → Doing O g → Type 0
IsLeft (doing.Puts hand) = Unit {0}
IsLeft (doing.Waits hand) = Unit {0}
IsLeft (doing.Reversing link top) = Unit {0}
IsLeft other = ⊥

abbrev pub OnceBy : {O : Type 0} {g : Ghosts O} → Plan → List (List ℕ) → SockRef → Once O g → Me (SockHome O g) View → Type 0
OnceBy p ways sock (once.Done s) m = (s ≡ sock) × GaveUp p sock.id.0 m
OnceBy p ways sock (once.Keep r) m = (r.sock ≡ sock) × MayGoOn p ways r m × IsLeft r.doing

-- of the message of ticket `now`
abbrev pub TriedBy : {O : Type 0} {g : Ghosts O} → Plan → List (List ℕ) → ℕ → ℕ → ℕ → Tried O g → Me (SockHome O g) View → Type 0
TriedBy p ways id last now (tried.Dead hand) m = HasPart p ways id last hand m × FoundDead id m.0
TriedBy p ways id last now (tried.Whole hand) m = HasWhole p ways id last hand m × (hand.now.0 ≡ now)
TriedBy p ways id last now (tried.Goes by) m = GoesBy p ways id last by m × IsLeft by

abbrev pub TriedFaults : {O : Type 0} {g : Ghosts O} → ℕ → ℕ → Tried O g → View → Type 0
TriedFaults n id (tried.Dead hand) v = FaultTold n id hand.home v
TriedFaults n id (tried.Whole hand) v = FaultTold n id hand.home v
TriedFaults n id (tried.Goes by) v = FaultsBy n id by v

-- all in hand is as it was, but for the calls
abbrev pub JustLooked : {O : Type 0} {g : Ghosts O} → InHand O g → InHand O g → Type 0
JustLooked old new = (numbered : old.label.attempt ≤ 6) × (new ≡ record old { calls = new.calls; numbered = numbered })

-- nothing was put, after a look
abbrev pub IsDead : {O : Type 0} {g : Ghosts O} → InHand O g → Tried O g → Type 0
IsDead old (tried.Dead hand) = JustLooked old hand
IsDead old other = ⊥

-- the message is in hand still, and has this
abbrev pub HandBy : {O : Type 0} {g : Ghosts O} → (InHand O g → Type 0) → Doing O g → Type 0
HandBy P (doing.Puts hand) = P hand
HandBy P (doing.Waits hand) = P hand
HandBy P other = ⊥

-- one put was made since
abbrev pub PutOnce : {O : Type 0} {g : Ghosts O} → InHand O g → InHand O g → Type 0
PutOnce old new = (answer : Put) × Called (call.Put answer) old new

-- the one put was made, whatever came of it
abbrev pub TriedPut : {O : Type 0} {g : Ghosts O} → InHand O g → Tried O g → Type 0
TriedPut old (tried.Dead hand) = ⊥
TriedPut old (tried.Whole hand) = PutOnce old hand
TriedPut old (tried.Goes by) = HandBy (PutOnce old) by

-- or nothing was left, and none was made
abbrev pub PutOrWhole : {O : Type 0} {g : Ghosts O} → InHand O g → Tried O g → Type 0
PutOrWhole old (tried.Dead hand) = ⊥
PutOrWhole old (tried.Whole hand) = PutOnce old hand ⊎ (((outgoing_of old.bytes).left ≡ []) × (hand.calls.list ≡ old.calls.list))
PutOrWhole old (tried.Goes by) = HandBy (PutOnce old) by

-- there was a look more that found the life live, and behind it one put
abbrev pub LookedAndPut : {O : Type 0} {g : Ghosts O} → InHand O g → InHand O g → Type 0
LookedAndPut old new = (new.came.list ≡ old.came.list) × (answer : Put) × (new.calls.list ≡ call.Put answer ∷ call.Looked true ∷ old.calls.list)

-- there was one look more, and where it found the life live one put, unless nothing was left
abbrev pub TriedOnce : {O : Type 0} {g : Ghosts O} → InHand O g → Tried O g → Type 0
TriedOnce old (tried.Dead hand) = hand.calls.list ≡ call.Looked false ∷ old.calls.list
TriedOnce old (tried.Whole hand) = LookedAndPut old hand ⊎ (((outgoing_of old.bytes).left ≡ []) × (hand.calls.list ≡ call.Looked true ∷ old.calls.list))
TriedOnce old (tried.Goes by) = HandBy (LookedAndPut old) by

-- since the message came into hand there was one look, and one put exactly where it found the life live
abbrev pub IsOneTry : {O : Type 0} {g : Ghosts O} → InHand O g → Type 0
IsOneTry hand = (hand.calls.list ≡ call.Looked false ∷ []) ⊎ ((answer : Put) × (hand.calls.list ≡ call.Put answer ∷ call.Looked true ∷ []))

-- a message that its link took whole by one put behind one look, or by the look alone, where it has no bytes
pub record TookAtOnce {O : Type 0} (g : Ghosts O) : Type 0 where
  pub hand : InHand O g
  pub turn : IsTurn g.state hand.came.list hand.home.out hand.calls.list
  pub whole : (outgoing_of hand.bytes).left ≡ []
  pub calls : (hand.calls.list ≡ call.Looked true ∷ []) ⊎ ((answer : Put) × (hand.calls.list ≡ call.Put answer ∷ call.Looked true ∷ []))

-- the head has a newer ticket
abbrev pub IsReversing : {O : Type 0} {g : Ghosts O} → Doing O g → Type 0
IsReversing (doing.Reversing link top) = Unit {0}
IsReversing other = ⊥

-- nothing that was noted is left to write
abbrev pub LeftAll : {O : Type 0} {g : Ghosts O} → Once O g → Type 0
LeftAll (once.Done s) = Unit {0}
LeftAll (once.Keep r) = IsReversing r.doing

-- the message that `start` accepted was tried once: it is in hand still, or the link took it whole
abbrev pub TriedAtOnce : {O : Type 0} {g : Ghosts O} → Doing O g → Type 0
TriedAtOnce {O} {g} (doing.Puts hand) = IsOneTry hand
TriedAtOnce {O} {g} (doing.Waits hand) = IsOneTry hand
TriedAtOnce {O} {g} other = TookAtOnce g

abbrev pub OnceTried : {O : Type 0} {g : Ghosts O} → Once O g → Type 0
OnceTried {O} {g} (once.Done s) = TookAtOnce g
OnceTried {O} {g} (once.Keep r) = TriedAtOnce r.doing

-- the right is kept
abbrev pub IsKeep : {O : Type 0} {g : Ghosts O} → Once O g → Type 0
IsKeep (once.Done s) = ⊥
IsKeep (once.Keep r) = Unit {0}

-- a message is written or dropped before the head is tried again
abbrev pub HasMore : {O : Type 0} {g : Ghosts O} → Doing O g → Type 0
HasMore First = ⊥
HasMore (doing.Last link) = ⊥
HasMore other = Unit {0}
