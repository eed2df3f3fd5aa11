-- What the calls of whoever writes a link want and leave. The seat has one right.
use Rattle.std.specs.Prelude.{◌≡◌, ◌≢◌, ℕ, ◌+◌, ◌*◌, ◌%◌, ◌<◌, ◌⊎◌, true, false, List, [], ◌∷◌, ◌++◌}
use Rattle.atomic_table.specs.Table.{Me, rest}
use Rattle.sock_words.specs.declared.plain.Plan.{Plan}
use Rattle.sock_model.specs.declared.chain.Right.{Right}
use Rattle.sock_model.specs.declared.chain.Stage.{Stage}
use Rattle.sock_model.specs.declared.chain.Stage.TheVariants.{Writes, Placed, Passes, Empties, Reversing, ReversesNext}
use Rattle.sock_model.specs.declared.view.View.{View}
use Rattle.sock_model.specs.LinksInSlots.{HoldsLink}
use Rattle.sock_model.specs.SlotRows.{marks_of, looked}
use Rattle.sock_model.specs.MarkWeights.{is_saw}
use Rattle.sock_model.specs.ChainRows.{with_right, without_right, walking_right, taken_right, passing_right, reading_right}
use Rattle.message_parts.specs.Parcels.{parcel_of}
use Rattle.sock_rule.specs.declared.homes.Letter.{Letter}
use Rattle.sock_rule.specs.Shows.{heading_of}
use Rattle.sock_rule.specs.ChainPlays.{IsTicket}
use Rattle.sock_rule.specs.SocketPlays.{WordFits}
use Rattle.sock_words.specs.PackedWords.{ticket_request, vref_version, UNCONNECTED}

-- the seat's one right is r
abbrev pub Rights : Right → View → Type 0
Rights r v = v.rights ≡ r ∷ []

-- its link is k, which is at home
pub record LinkAtHome (k : ℕ) (v : View) : Type 0 where
  pub right : Right
  pub one : Rights right v
  pub link_is : right.link ≡ k
  pub home : right.at_home ≡ true

-- the message of ticket `now` is the next to be taken
pub record MayTakeMsg (now : ℕ) (v : View) : Type 0 where
  pub right : Right
  pub one : Rights right v
  pub stage : right.stage ≡ Writes now
  pub idle : right.taken ≡ false

-- M2: the message is in hand, and the home where it lay is out with the seat, empty
abbrev pub TookMsg : {S : Type 0} → Right → ℕ → Letter → S → Me S View → Me S View → Type 0
TookMsg r now msg empty m n = n ≡ (with_right m.0 (taken_right r (heading_of msg) (parcel_of msg.bytes).bytes), (ticket_request now, empty) ∷ m.1)

-- A8 of whoever writes link k, whose life it holds in slot i
pub record MayLookToWrite (p : Plan) (i : ℕ) (v : View) : Type 0 where
  pub right : Right
  pub one : Rights right v
  pub life : ℕ
  pub holds : HoldsLink p v i life right.link

abbrev pub LookedToWrite : {S : Type 0} → Right → ℕ → ℕ → Me S View → Me S View → Type 0
LookedToWrite r i found m n = WordFits i found m.0 × (vref_version found % 2 ≡ 0 → n ≡ (with_right (looked i found m.0) (record r { clean = true }), m.1)) × (vref_version found % 2 ≢ 0 → n ≡ (looked i found m.0, m.1))

-- the message that the right took is for the place l, and takes the next place of its link k, which is in hand
pub record TakesNextPlace (p : Plan) (l k places : ℕ) (v : View) : Type 0 where
  pub right : Right
  pub one : Rights right v
  pub now : ℕ
  pub stage : right.stage ≡ Writes now
  pub taken : right.taken ≡ true
  pub away : right.at_home ≡ false
  pub place_is : right.heading.label.place ≡ l
  pub place_in : l < 8 * p.operations
  pub link_is : right.link ≡ k
  pub places_are : right.places ≡ places

-- P1 of a message that the link took whole
pub record MayStorePlace (p : Plan) (l k places : ℕ) (v : View) : Type 0 where
  pub placing : TakesNextPlace p l k places v
  pub clean : placing.right.clean ≡ true
  pub link_fits : k < 65536

-- what a link took of a message that is dropped is a part of it at most, and only a clean right took any
abbrev pub Part : Right → List ℕ → Type 0
Part q n = (n ≡ q.sent) ⊎ ((q.clean ≡ true) × (part : List ℕ) × (rest : List ℕ) × (n ≡ q.sent ++ part) × (q.bytes ≡ part ++ rest) × (rest ≢ []))

-- P1 of a message that is dropped, where the seat found that the life of its link was failed; the link took this by then
pub record MayDropPlace (p : Plan) (l k places : ℕ) (took : List ℕ) (v : View) : Type 0 where
  pub placing : TakesNextPlace p l k places v
  pub part : Part placing.right took
  pub slot : ℕ
  pub life : ℕ
  pub holds : HoldsLink p v slot life placing.right.link
  pub seen : 0 < marks_of (is_saw (life + 1)) slot v

-- what follows an entry whose request is given back
pub data Follows (last : ℕ) : Stage → ℕ → Stage → Type 0 where
  ends : (now : ℕ) → now ≡ last → Follows last (Placed now) now Empties
  goes_on : (now next : ℕ) → Follows last (Passes now next) now (Writes next)

-- C8: the message of ticket `now` has its place, and the home of its request was taken last
pub record MayFreeRequest {S : Type 0} (now : ℕ) (m : Me S View) : Type 0 where
  pub right : Right
  pub one : Rights right m.0
  pub next : Stage
  pub follows : Follows right.last right.stage now next
  pub value : S
  pub home : m.1 ≡ (ticket_request now, value) ∷ rest m.1

-- C4: all is written, and its link is at home
pub record MayEmptyHead (p : Plan) (i last : ℕ) (v : View) : Type 0 where
  pub right : Right
  pub one : Rights right v
  pub stage : right.stage ≡ Empties
  pub home : right.at_home ≡ true
  pub last_is : right.last ≡ last
  pub life : ℕ
  pub holds : HoldsLink p v i life right.link

abbrev pub Emptied : {S : Type 0} → Right → ℕ → ℕ → Me S View → Me S View → Type 0
Emptied r last found m n = (found ≡ last → n ≡ (without_right m.0 r.link, m.1)) × (found ≢ last → (n ≡ (with_right m.0 (walking_right r found), m.1)) × IsTicket m.0.plan found)

-- C5 after the message of ticket `now` has its place, where it isn't the last one
pub record MayReadOn (now : ℕ) (v : View) : Type 0 where
  pub right : Right
  pub one : Rights right v
  pub stage : right.stage ≡ Placed now
  pub more : now ≢ right.last

abbrev pub ReadOn : {S : Type 0} → Right → ℕ → ℕ → Me S View → Me S View → Type 0
ReadOn r now found m n = (n ≡ (with_right m.0 (passing_right r now found), m.1)) × IsTicket m.0.plan found

-- C5 and C6 on the walk, which stands at the ticket `at`
pub record MayReadBack (at : ℕ) (v : View) : Type 0 where
  pub right : Right
  pub one : Rights right v
  pub top : ℕ
  pub after : ℕ
  pub stage : right.stage ≡ Reversing top at after

abbrev pub ReadBack : {S : Type 0} → Right → ℕ → ℕ → ℕ → ℕ → Me S View → Me S View → Type 0
ReadBack r top at after found m n = (found ≡ UNCONNECTED → n ≡ m) × (found ≢ UNCONNECTED → (n ≡ (with_right m.0 (reading_right r top at after found), m.1)) × IsTicket m.0.plan found)

pub record MayTurnNext (at value : ℕ) (v : View) : Type 0 where
  pub right : Right
  pub one : Rights right v
  pub top : ℕ
  pub before : ℕ
  pub stage : right.stage ≡ ReversesNext top at value before
