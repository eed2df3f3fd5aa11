-- The packed words by their parts. Each word is a number below 2 ^ 64, and bit 0 is its lowest.
use Rattle.std.specs.Prelude.{◌≡◌, ℕ, ◌+◌, ◌-◌, ◌*◌, ◌/◌, ◌%◌, ◌^◌, ◌<◌, ◌≤◌, ◌==◌, Bool, if◌then◌else◌}

-- a bit as a number
abbrev pub bit : Bool → ℕ
bit b = if b then 1 else 0

-- ## The id of a socket

-- the version in bits 32 to 63, the slot in bits 0 to 31
abbrev pub socket_id : ℕ → ℕ → ℕ
socket_id version slot = version * 2 ^ 32 + slot

abbrev pub socket_id_version : ℕ → ℕ
socket_id_version word = word / 2 ^ 32

abbrev pub socket_id_slot : ℕ → ℕ
socket_id_slot word = word % 2 ^ 32

-- reading the word gives these parts
pub record IsSocketId (word version slot : ℕ) : Type 0 where
  pub version_is : socket_id_version word ≡ version
  pub slot_is : socket_id_slot word ≡ slot

-- no other parts have this word
abbrev pub OnlySocketId : ℕ → ℕ → ℕ → Type 0
OnlySocketId word version slot = (v s : ℕ) → v < 2 ^ 32 → s < 2 ^ 32 → socket_id v s ≡ word → (v ≡ version) × (s ≡ slot)

-- ## The reference word of a socket

-- the version in bits 32 to 63, the references in bits 0 to 31
abbrev pub vref : ℕ → ℕ → ℕ
vref version nref = version * 2 ^ 32 + nref

abbrev pub vref_version : ℕ → ℕ
vref_version word = word / 2 ^ 32

abbrev pub vref_nref : ℕ → ℕ
vref_nref word = word % 2 ^ 32

-- the word of a version that nobody refers to
abbrev pub vref_unused : ℕ → ℕ
vref_unused version = version * 2 ^ 32

-- reading the word gives these parts
pub record IsVref (word version nref : ℕ) : Type 0 where
  pub version_is : vref_version word ≡ version
  pub nref_is : vref_nref word ≡ nref

-- no other parts have this word
abbrev pub OnlyVref : ℕ → ℕ → ℕ → Type 0
OnlyVref word version nref = (v n : ℕ) → v < 2 ^ 32 → n < 2 ^ 32 → vref v n ≡ word → (v ≡ version) × (n ≡ nref)

-- the word of an operation that got no socket; one that got one has its id, plus 1
abbrev pub NO_SOCKET : ℕ
NO_SOCKET = 2 ^ 64 - 1

-- the socket is failed where the version is odd
abbrev pub IsFailedVref : ℕ → Type 0
IsFailedVref word = vref_version word % 2 ≡ 1

-- ## A ticket

-- whether the head is idle in bit 63, the generation in bits 16 to 62, one more than the request's
-- slot in bits 0 to 15
abbrev pub ticket : Bool → ℕ → ℕ → ℕ
ticket idle generation request = bit idle * 2 ^ 63 + generation * 2 ^ 16 + (request + 1)

abbrev pub ticket_idle : ℕ → Bool
ticket_idle word = word / 2 ^ 63 == 1

abbrev pub ticket_generation : ℕ → ℕ
ticket_generation word = word / 2 ^ 16 % 2 ^ 47

abbrev pub ticket_request : ℕ → ℕ
ticket_request word = word % 2 ^ 16 - 1

-- the word names a request
abbrev pub HasRequest : ℕ → Type 0
HasRequest word = 0 < word % 2 ^ 16

-- the parts that a ticket can have
pub record FitsTicket (generation request : ℕ) : Type 0 where
  pub generation_fits : generation < 2 ^ 47
  pub request_fits : request < 2 ^ 16 - 1

-- reading the word gives these parts
pub record IsTicket (word : ℕ) (idle : Bool) (generation request : ℕ) : Type 0 where
  pub idle_is : ticket_idle word ≡ idle
  pub generation_is : ticket_generation word ≡ generation
  pub request_is : ticket_request word ≡ request
  pub has_request : HasRequest word

-- no other parts have this word
abbrev pub OnlyTicket : ℕ → Bool → ℕ → ℕ → Type 0
OnlyTicket word idle generation request = (i : Bool) (g r : ℕ) → FitsTicket g r → ticket i g r ≡ word → (i ≡ idle) × (g ≡ generation) × (r ≡ request)

-- the head of a chain that no ticket was ever put into: the bit of an idle head alone
abbrev pub IDLE : ℕ
IDLE = 2 ^ 63

-- the next word of a request that isn't connected to the one before it; 0 where it has none behind it
abbrev pub UNCONNECTED : ℕ
UNCONNECTED = 2 ^ 64 - 1

-- ## The id of a call

-- the slot in bits 32 to 63; in bits 0 to 31 a version of its range, by which the first one names the
-- call and each other one an attempt
abbrev pub call_id : ℕ → ℕ → ℕ
call_id slot version = slot * 2 ^ 32 + version

abbrev pub id_slot : ℕ → ℕ
id_slot id = id / 2 ^ 32

abbrev pub id_first : ℕ → ℕ
id_first id = id % 2 ^ 32

-- reading the id gives these parts
pub record IsCallId (id slot version : ℕ) : Type 0 where
  pub slot_is : id_slot id ≡ slot
  pub version_is : id_first id ≡ version

-- ## The word of a call id

-- the first version in bits 38 to 63, the state in bits 36 and 37, one less than the range in bits 33
-- to 35, the current attempt in bits 30 to 32, the queued errors in bits 15 to 29 and 0 to 14
abbrev pub id_word : ℕ → ℕ → ℕ → ℕ → ℕ → ℕ → ℕ
id_word first state range attempt oldest second = first * 2 ^ 38 + state * 2 ^ 36 + (range - 1) * 2 ^ 33 + attempt * 2 ^ 30 + oldest * 2 ^ 15 + second

abbrev pub id_word_first : ℕ → ℕ
id_word_first word = word / 2 ^ 38

abbrev pub id_word_state : ℕ → ℕ
id_word_state word = word / 2 ^ 36 % 2 ^ 2

abbrev pub id_word_range : ℕ → ℕ
id_word_range word = word / 2 ^ 33 % 2 ^ 3 + 1

abbrev pub id_word_attempt : ℕ → ℕ
id_word_attempt word = word / 2 ^ 30 % 2 ^ 3

abbrev pub id_word_oldest : ℕ → ℕ
id_word_oldest word = word / 2 ^ 15 % 2 ^ 15

abbrev pub id_word_second : ℕ → ℕ
id_word_second word = word % 2 ^ 15

-- the parts that the word of a call id can have: the states are 0 for free, 1 for open and 2 for locked
pub record FitsIdWord (first state range attempt oldest second : ℕ) : Type 0 where
  pub first_fits : first < 2 ^ 26
  pub state_fits : state ≤ 2
  pub range_some : 1 ≤ range
  pub range_fits : range ≤ 8
  pub free_range : state ≡ 0 → range ≡ 1
  pub attempt_fits : attempt ≤ 7
  pub oldest_fits : oldest < 2 ^ 15
  pub second_fits : second < 2 ^ 15

-- reading the word gives these parts
pub record IsIdWord (word first state range attempt oldest second : ℕ) : Type 0 where
  pub first_is : id_word_first word ≡ first
  pub state_is : id_word_state word ≡ state
  pub range_is : id_word_range word ≡ range
  pub attempt_is : id_word_attempt word ≡ attempt
  pub oldest_is : id_word_oldest word ≡ oldest
  pub second_is : id_word_second word ≡ second

-- no other parts have this word
abbrev pub OnlyIdWord : ℕ → ℕ → ℕ → ℕ → ℕ → ℕ → ℕ → Type 0
OnlyIdWord word first state range attempt oldest second = (f s r a o e : ℕ) → FitsIdWord f s r a o e → id_word f s r a o e ≡ word → (f ≡ first) × (s ≡ state) × (r ≡ range) × (a ≡ attempt) × (o ≡ oldest) × (e ≡ second)

-- ## Where a call's attempt went

-- the id's first version in bits 38 to 63 and its slot in bits 22 to 37, one more than the link in
-- bits 6 to 21, the attempt in bits 0 to 2
abbrev pub at_word : ℕ → ℕ → ℕ → ℕ → ℕ
at_word first slot link attempt = first * 2 ^ 38 + slot * 2 ^ 22 + (link + 1) * 2 ^ 6 + attempt

-- no attempt went anywhere
abbrev pub no_at : ℕ
no_at = 0

abbrev pub at_word_first : ℕ → ℕ
at_word_first word = word / 2 ^ 38

abbrev pub at_word_slot : ℕ → ℕ
at_word_slot word = word / 2 ^ 22 % 2 ^ 16

abbrev pub at_word_link : ℕ → ℕ
at_word_link word = word / 2 ^ 6 % 2 ^ 16 - 1

-- the word names a link
abbrev pub HasLink : ℕ → Type 0
HasLink word = 0 < word / 2 ^ 6 % 2 ^ 16

abbrev pub at_word_attempt : ℕ → ℕ
at_word_attempt word = word % 2 ^ 3

-- the parts that the word can have
pub record FitsAtWord (first link attempt : ℕ) : Type 0 where
  pub first_fits : first < 2 ^ 26
  pub link_fits : link < 2 ^ 16 - 1
  pub attempt_fits : attempt ≤ 7

-- reading the word gives these parts
pub record IsAtWord (word first slot link attempt : ℕ) : Type 0 where
  pub first_is : at_word_first word ≡ first
  pub slot_is : at_word_slot word ≡ slot
  pub link_is : at_word_link word ≡ link
  pub has_link : HasLink word
  pub attempt_is : at_word_attempt word ≡ attempt

-- no other parts have this word
abbrev pub OnlyAtWord : ℕ → ℕ → ℕ → ℕ → ℕ → Type 0
OnlyAtWord word first slot link attempt = (f s l a : ℕ) → FitsAtWord f l a → s < 2 ^ 16 → at_word f s l a ≡ word → (f ≡ first) × (s ≡ slot) × (l ≡ link) × (a ≡ attempt)

-- ## Where a message stands

-- whether it was dropped in bit 63, the link in bits 32 to 47, one more than the position in bits 0
-- to 31
abbrev pub place_word : Bool → ℕ → ℕ → ℕ
place_word dropped link position = bit dropped * 2 ^ 63 + link * 2 ^ 32 + (position + 1)

-- the message was never accepted
abbrev pub no_place : ℕ
no_place = 0

abbrev pub place_word_dropped : ℕ → Bool
place_word_dropped word = word / 2 ^ 63 == 1

abbrev pub place_word_link : ℕ → ℕ
place_word_link word = word / 2 ^ 32 % 2 ^ 16

abbrev pub place_word_position : ℕ → ℕ
place_word_position word = word % 2 ^ 32 - 1

-- the least word with the dropped bit
abbrev pub DROPPED : ℕ
DROPPED = 2 ^ 63

-- the word tells a position
abbrev pub HasPosition : ℕ → Type 0
HasPosition word = 0 < word % 2 ^ 32

-- reading the word gives these parts
pub record IsPlaceWord (word : ℕ) (dropped : Bool) (link position : ℕ) : Type 0 where
  pub dropped_is : place_word_dropped word ≡ dropped
  pub link_is : place_word_link word ≡ link
  pub position_is : place_word_position word ≡ position
  pub has_position : HasPosition word

-- no other parts have this word
abbrev pub OnlyPlaceWord : ℕ → Bool → ℕ → ℕ → Type 0
OnlyPlaceWord word dropped link position = (d : Bool) (l p : ℕ) → l < 2 ^ 16 → p < 2 ^ 32 - 1 → place_word d l p ≡ word → (d ≡ dropped) × (l ≡ link) × (p ≡ position)
