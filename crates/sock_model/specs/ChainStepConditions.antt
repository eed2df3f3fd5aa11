-- What a seat's view says before a step on the chains, so that the step may be made.
use Rattle.std.specs.Prelude.{◌≡◌, ℕ, ◌+◌, ◌<◌, true, false, List, [], ◌∷◌, ◌++◌, ◌≢◌, ◌⊎◌, ◌*◌}
use mathlib.Core.Option.{some}
use lib.ListN.{get_elem?}
use Rattle.sock_words.specs.declared.plain.Plan.{Plan}
use Rattle.sock_model.specs.declared.chain.Entry.{Entry}
use Rattle.sock_model.specs.declared.chain.Right.{Right}
use Rattle.sock_model.specs.declared.chain.Claim.{Claim}
use Rattle.sock_model.specs.declared.chain.Stage.TheVariants.{Writes, Empties, ReversesNext}
use Rattle.sock_model.specs.declared.view.View.{View}
use Rattle.sock_model.specs.Entries.{ticket_of}
use Rattle.sock_model.specs.LinksInSlots.{HoldsLink}
use Rattle.sock_model.specs.MarkWeights.{is_hold, is_met, is_probe}
use Rattle.sock_model.specs.SlotRows.{marks_of}
use Rattle.sock_words.specs.PackedWords.{IDLE}

-- M1 and C7: its one claim is of request r
pub record HasClaim (r : ℕ) (p : Plan) (v : View) : Type 0 where
  pub claim : Claim
  pub claims : v.claims ≡ claim ∷ []
  pub request_is : claim.request ≡ r
  pub request_in : r < p.requests

-- C2: its one claim is filled and ready, and it holds the life of the claim's link, in slot i
pub record MayExchange (p : Plan) (v : View) (i own : ℕ) : Type 0 where
  pub claim : Claim
  pub claims : v.claims ≡ claim ∷ []
  pub is_filled : claim.filled ≡ true
  pub is_ready : claim.ready ≡ true
  pub own_is : own ≡ ticket_of claim.request claim.generation
  pub request_in : claim.request < p.requests
  pub life : ℕ
  pub holds : HoldsLink p v i life claim.link
  -- its own list of entries stands first
  pub made : List Entry
  pub taken_in : List (List Entry)
  pub lists : v.lists ≡ made ∷ taken_in

-- a right of the seat
pub record HasRight (v : View) : Type 0 where
  pub right : Right
  pub place : ℕ
  pub has : get_elem? v.rights place ≡ some right

-- C4: all is written, its link is at home, and its slot is i
pub record MayEmpty (p : Plan) (v : View) (i last empty : ℕ) : Type 0 where
  pub mine : HasRight v
  pub stage : mine.right.stage ≡ Empties
  pub link_home : mine.right.at_home ≡ true
  pub last_is : mine.right.last ≡ last
  pub empty_is : empty ≡ IDLE + last
  pub life : ℕ
  pub holds : HoldsLink p v i life mine.right.link

-- C6: its walk has read the next word at which it stands, whose successor is value
pub record MayTurn (v : View) (value : ℕ) : Type 0 where
  pub mine : HasRight v
  pub top : ℕ
  pub at : ℕ
  pub before : ℕ
  pub stage : mine.right.stage ≡ ReversesNext top at value before

-- P1: the link and a message that it took whole are in hand
pub record MayPlace (p : Plan) (v : View) : Type 0 where
  pub mine : HasRight v
  pub now : ℕ
  pub stage : mine.right.stage ≡ Writes now
  pub taken : mine.right.taken ≡ true
  pub is_clean : mine.right.clean ≡ true
  pub away : mine.right.at_home ≡ false
  pub label_in : mine.right.heading.label.place < 8 * p.operations

-- P1 with the dropped bit: a message is in hand, and the link took a part of it at most, which is in `sent` then
pub record MayDrop (p : Plan) (v : View) : Type 0 where
  pub mine : HasRight v
  pub now : ℕ
  pub sent : List ℕ
  pub stage : mine.right.stage ≡ Writes now
  pub taken : mine.right.taken ≡ true
  pub away : mine.right.at_home ≡ false
  pub label_in : mine.right.heading.label.place < 8 * p.operations
  pub part : (sent ≡ mine.right.sent) ⊎ ((mine.right.clean ≡ true) × (part : List ℕ) × (rest : List ℕ) × (sent ≡ mine.right.sent ++ part) × (mine.right.bytes ≡ part ++ rest) × (rest ≢ []))

-- M2: the message of the first entry without a place isn't in hand
pub record MayTake (v : View) : Type 0 where
  pub mine : HasRight v
  pub now : ℕ
  pub stage : mine.right.stage ≡ Writes now
  pub idle : mine.right.taken ≡ false

-- of each right of the seat whose life is in slot i it keeps a reference to the life, where one reference to the slot goes
abbrev pub KeepsRights : ℕ → View → Type 0
KeepsRights i v = (x : ℕ) (r : Right) (h : ℕ) → get_elem? v.rights x ≡ some r → 0 < marks_of (is_hold h) i v → 0 < marks_of (is_met h r.link) i v → (0 < marks_of is_probe i v) ⊎ (1 < marks_of (is_hold h) i v)
