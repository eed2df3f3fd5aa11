-- The plain model: lives with their holders and links, the messages of each link, and which links are stopped; and what may happen to them.
use Rattle.std.specs.Prelude.{◌≡◌, ◌≢◌, ℕ, suc, ◌+◌, ◌<◌, ◌==◌, ◌⊎◌, Bool, true, false, if◌then◌else◌, List, [], ◌++◌, Contains}
use Rattle.sock_words.specs.declared.plain.Plan.{Plan}
use Rattle.sock_model.specs.declared.chain.Entry.{Entry}
use Rattle.sock_model.specs.Deliveries.{whole}
use Rattle.sock_model.specs.PlainReferences.{Life, life_at, Plain, same_life, no_lives}
use Rattle.sock_model.specs.PlainReferences as lives
use Rattle.message_events.specs.MessageModel.{Messages, IsOrder}
use Rattle.message_events.specs.MessageModel as messages

-- how often each life was made with each link
abbrev pub Links : Type 0
Links = Life → ℕ → ℕ

pub record World : Type 0 where
  -- which lives were born, failed and ended, and who holds them
  pub lives : Plain
  pub links : Links
  -- what each link accepted, gave places and took, and which requests are taken
  pub messages : Messages
  -- into which links nothing goes any more
  pub stopped : ℕ → Bool

-- ## What may happen

pub data Event : Type 0 where
  Nothing : Event
  -- a life is made, with this link
  Birth : Life → ℕ → Event
  -- a seat has one reference to the life more, or one less
  Hold : Life → ℕ → Event
  Drop : Life → ℕ → Event
  -- a seat sets the life failed, and gets the reference that stood for its being live
  Fail : Life → ℕ → Event
  -- the life ends
  End : Life → Event
  -- a request is taken
  Claim : ℕ → Event
  -- the link of this entry accepts its message, which a seat handed in
  Accept : Entry → ℕ → Event
  -- a link takes these bytes
  Take : ℕ → List ℕ → Event
  -- nothing goes into a link any more
  Stop : ℕ → Event
  -- the first message of a link that has no place gets it: taken whole, or dropped
  Place : ℕ → Event
  Dropped : ℕ → Event
  -- a request is given back
  Free : ℕ → Event

-- what it is for lives, and for messages
abbrev pub of_lives : Event → lives.Event
of_lives (Birth l k) = lives.Birth l
of_lives (Hold l seat) = lives.Hold l seat
of_lives (Drop l seat) = lives.Drop l seat
of_lives (Fail l seat) = lives.Fail l seat
of_lives (End l) = lives.End l
of_lives other = lives.Nothing

abbrev pub of_messages : Event → messages.Event
of_messages (Claim r) = messages.Claim r
of_messages (Accept e seat) = messages.Accept e
of_messages (Take k bytes) = messages.Take k bytes
of_messages (Place k) = messages.Place k
of_messages (Dropped k) = messages.Dropped k
of_messages (Free r) = messages.Free r
of_messages other = messages.Nothing

-- the link was given to this life
abbrev pub IsLinkOf : World → Life → ℕ → Type 0
IsLinkOf w l k = 0 < w.links l k

-- the first message of link k without a place isn't taken whole: what the link took goes on to its end
abbrev pub IsCutOff : World → ℕ → Type 0
IsCutOff w k = (es : List Entry) × (rest : List ℕ) × IsOrder w.messages k es × (whole es (suc (w.messages.placed k)) ≡ w.messages.took k ++ rest) × (rest ≢ [])

-- what each needs of lives and messages together; `broken` are the links that answered in this step that they failed
abbrev pub NeedsBoth : Plan → List ℕ → World → Event → Type 0
-- no life has the link, and nobody holds a life that the slot had
NeedsBoth p broken w (Birth l k) = ((m : Life) → m.slot < p.slots → w.links m k ≡ 0) × ((h : ℕ) → lives.IsUnheld w.lives (life_at l.slot h))
-- the seat holds the life of the link
NeedsBoth p broken w (Accept e seat) = (l : Life) × IsLinkOf w l e.link × (0 < w.lives.holds seat l)
NeedsBoth p broken w (Take k bytes) = w.stopped k ≡ false
-- the life of the link isn't live, or the link answered in this step that it failed
NeedsBoth p broken w (Stop k) = ((l : Life) × IsLinkOf w l k × (0 < w.lives.fails l)) ⊎ Contains broken k
NeedsBoth p broken w (Place k) = w.stopped k ≡ false
NeedsBoth p broken w (Dropped k) = (w.stopped k ≡ true) × IsCutOff w k
NeedsBoth p broken w other = Unit {0}

-- ## What each changes

-- the life l has the link k once more
abbrev pub links_after : Event → Links → Links
links_after (Birth l k) links other j = links other j + (if j == k then same_life l other else 0)
links_after other links l k = links l k

abbrev pub stopped_after : Event → (ℕ → Bool) → ℕ → Bool
stopped_after (Stop k) stopped j = if j == k then true else stopped j
stopped_after other stopped j = stopped j

-- the event may happen, and leads from one state to the next: it changes what is named, and nothing else
pub record Becomes (p : Plan) (broken : List ℕ) (before : World) (event : Event) (after : World) : Type 0 where
  pub lives : lives.Becomes before.lives (of_lives event) after.lives
  pub messages : messages.Becomes p before.messages (of_messages event) after.messages
  pub both : NeedsBoth p broken before event
  pub links : (l : Life) (k : ℕ) → after.links l k ≡ links_after event before.links l k
  pub stopped : after.stopped ≡ stopped_after event before.stopped

-- ## Before anything happened

pub record IsNew (p : Plan) (w : World) : Type 0 where
  pub lives : w.lives ≡ no_lives
  pub links : (l : Life) (k : ℕ) → w.links l k ≡ 0
  pub accepted : w.messages.accepted ≡ []
  pub placed : (k : ℕ) → k < p.links → w.messages.placed k ≡ 0
  pub took : (k : ℕ) → k < p.links → w.messages.took k ≡ []
  pub request : (r : ℕ) → r < p.requests → w.messages.request r ≡ 0
  pub stopped : (k : ℕ) → w.stopped k ≡ false
