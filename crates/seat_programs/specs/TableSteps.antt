-- The steps that seats make: each is one atomic step on a word, one move of a link, or one call on the link in hand. They stand by families: those on
-- the words of a slot, on those of names and of operations, on the chain of messages, on the places of messages, on links, and on messages.
use Rattle.std.specs.Prelude.{ℕ, List}
use Rattle.sock_model.specs.declared.chain.Heading.{Heading}

-- A step has the number of the slot, name, operation or link of which it is, and what it is to store; behind these, where the word alone doesn't tell
-- it, the link or the life for which it is made.

-- a step on the words of a slot
pub data SlotStep : Type 0 where
  -- swap of the slot's tag with 1
  ClaimSlot : ℕ → SlotStep
  -- one more reference on the slot's word, which makes the life: slot, link
  CreateLife : ℕ → ℕ → SlotStep
  -- one more reference, for the life of this id
  AddRef : ℕ → SlotStep
  -- one reference less
  SubRef : ℕ → SlotStep
  -- the version is made odd
  SetOdd : ℕ → SlotStep
  -- the slot's word becomes the next version without references, where it is this word
  Recycle : ℕ → ℕ → SlotStep
  -- the slot's tag becomes 0
  FreeSlot : ℕ → SlotStep
  -- the slot's word is loaded, for the life of this id
  LookWord : ℕ → SlotStep
  -- the slot's link is stored: slot, link
  StoreLink : ℕ → ℕ → SlotStep
  -- the link of a slot that was recycled is loaded: slot, the version to which it was recycled
  LoadLink : ℕ → ℕ → SlotStep
  -- the link of a life that the seat holds is loaded: slot, the version of the life
  FindLink : ℕ → ℕ → SlotStep
  -- the slot's head becomes idle, without any ticket: slot, link
  ResetHead : ℕ → ℕ → SlotStep
  -- the slot's error code becomes 0: slot, link
  ClearCode : ℕ → ℕ → SlotStep
  -- the slot's error code is stored: slot, the version of the life that failed, code
  StoreCode : ℕ → ℕ → ℕ → SlotStep
  -- the error code of a life that the seat holds is loaded: slot, the version of the life
  LoadCode : ℕ → ℕ → SlotStep

-- a step on the word of a name, or on that of an `open`
pub data NameStep : Type 0 where
  StoreName : ℕ → ℕ → NameStep
  LoadName : ℕ → NameStep
  StoreOpen : ℕ → ℕ → NameStep
  LoadOpen : ℕ → NameStep

-- a step on the chain of messages
pub data ChainStep : Type 0 where
  -- bit 0 of a request's word is set: the id of the life for whose link the request is to be used, request
  ClaimRequest : ℕ → ℕ → ChainStep
  -- the slot's head is exchanged with a ticket: slot, ticket
  SwapHead : ℕ → ℕ → ChainStep
  -- a request's next word becomes the ticket that the exchange found: request, ticket
  Connect : ℕ → ℕ → ChainStep
  -- the slot's head becomes idle behind this ticket, where it is this ticket: slot, ticket
  EmptyHead : ℕ → ℕ → ChainStep
  -- a request's next word is loaded
  ReadNext : ℕ → ChainStep
  -- on a walk a request's next word becomes the ticket of its successor, or 0: request, ticket
  ReverseNext : ℕ → ℕ → ChainStep
  -- a request's next word is marked as not connected
  Unconnect : ℕ → ChainStep
  -- a request's word becomes the generation after this one, not taken: request, generation
  FreeRequest : ℕ → ℕ → ChainStep

-- a step that notes where a message has its place, or that it was dropped: its number, link, position
pub data PlaceStep : Type 0 where
  -- the link took the message whole
  StorePlace : ℕ → ℕ → ℕ → PlaceStep
  DropPlace : ℕ → ℕ → ℕ → PlaceStep

-- a step on a link of its own: out of its home, into it, and the end of its writing half
pub data LinkStep : Type 0 where
  TakeLink : ℕ → LinkStep
  PutLink : ℕ → LinkStep
  FinishLink : ℕ → LinkStep

-- a message into its home: request, heading, bytes
pub data MessageStep : Type 0 where
  PutMessage : ℕ → Heading → List ℕ → MessageStep

-- a step, by its family
pub data TableStep : Type 0 where
  OnSlot : SlotStep → TableStep
  OnName : NameStep → TableStep
  OnChain : ChainStep → TableStep
  OnPlace : PlaceStep → TableStep
  OnLink : LinkStep → TableStep
  OnMessage : MessageStep → TableStep
