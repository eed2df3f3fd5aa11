-- What a seat's view must say before a step on the word of request r, or on the head of slot i.
use Rattle.std.specs.Prelude.{◌≡◌, ◌≢◌, ℕ, ◌+◌, ◌<◌, ◌⊎◌, []}
use mathlib.Core.Option.{some}
use lib.ListN.{get_elem?}
use Rattle.sock_words.specs.declared.plain.Plan.{Plan}
use Rattle.sock_model.specs.declared.chain.Right.{Right}
use Rattle.sock_model.specs.declared.chain.Stage.TheVariants.{Placed, Passes, Reversing}
use Rattle.sock_model.specs.declared.view.View.{View}
use Rattle.sock_model.specs.ChainStepConditions.{HasRight, MayExchange, MayEmpty, MayTurn}
use Rattle.sock_words.specs.PackedWords.{ticket_request, ticket_generation, IDLE}

-- nothing: the step tells the seat nothing
abbrev pub MayLook : Plan → View → Type 0
MayLook p v = Unit {0}

-- C1: it has no claim
abbrev pub MayClaim : ℕ → Plan → View → Type 0
MayClaim r p v = (r < p.requests) × (v.claims ≡ [])

-- C2: its one claim has this ticket and is ready, and it holds the life in slot i
abbrev pub MaySwap : (i own : ℕ) → Plan → View → Type 0
MaySwap i own p v = MayExchange p v i own

-- C3: its entry of this request found this ticket in the head, and isn't connected
pub record MayConnect (r before : ℕ) (p : Plan) (v : View) : Type 0 where
  pub place : ℕ
  pub has : get_elem? v.loose place ≡ some (record { request = r; before = before })
  pub request_in : r < p.requests

-- C4: all up to the ticket `last` is written, its link is at home, and it holds the life in slot i
abbrev pub MayTry : (i last : ℕ) → Plan → View → Type 0
MayTry i last p v = MayEmpty p v i last (IDLE + last)

-- C5: the entry of this request has its place, and isn't the last one noted
pub record MayPass (r : ℕ) (p : Plan) (v : View) : Type 0 where
  pub mine : HasRight v
  pub now : ℕ
  pub stage : mine.right.stage ≡ Placed now
  pub not_last : now ≢ mine.right.last
  pub request_is : ticket_request now ≡ r

-- C5 of a request that isn't given back, since its generation is the last one
abbrev pub MayRetire : ℕ → Plan → View → Type 0
MayRetire r p v = (m : MayPass r p v) × (ticket_generation m.now ≡ 140737488355327)

-- C5 on the walk, which stands at this request
pub record MayRead (r : ℕ) (p : Plan) (v : View) : Type 0 where
  pub mine : HasRight v
  pub top : ℕ
  pub at : ℕ
  pub after : ℕ
  pub stage : mine.right.stage ≡ Reversing top at after
  pub request_is : ticket_request at ≡ r

-- C6: the walk read the next word of this request, whose successor is value
abbrev pub MayTurnTo : (r value : ℕ) → Plan → View → Type 0
MayTurnTo r value p v = (m : MayTurn v value) × (ticket_request m.at ≡ r)

-- the entry `now` has its place, and its next word was read, unless it is the last one noted
abbrev pub IsPassed : Right → ℕ → Type 0
IsPassed r now = ((r.stage ≡ Placed now) × (now ≡ r.last)) ⊎ ((next : ℕ) × (r.stage ≡ Passes now next))

-- C8: that entry is of this request, in this generation
pub record MayFree (r generation : ℕ) (p : Plan) (v : View) : Type 0 where
  pub mine : HasRight v
  pub now : ℕ
  pub passed : IsPassed mine.right now
  pub request_is : ticket_request now ≡ r
  pub generation_is : ticket_generation now ≡ generation
