-- All seats, with what each owes: each open id is owed its end by somebody.
use Rattle.std.specs.Prelude.{ℕ, ◌≡◌, ◌≢◌, ◌+◌, ◌<◌, ◌≤◌, ◌⊎◌, true, false, List, [], ◌∷◌, ◌++◌, length, slice_index, Option, Some}
use mathlib.Core.Option as core
use lib.ListN.{get_elem?}
use Rattle.sock_words.specs.PackedWords.{socket_id_version, socket_id_slot, vref_version, at_word, at_word_first, at_word_slot, at_word_attempt, call_id, id_slot, id_first}
use Rattle.sock_model.specs.declared.chain.Heading.{Heading}
use Rattle.sock_model.specs.declared.home.Home.TheVariants.{Message}
use Rattle.sock_model.specs.SocketTableLayout.{ref_index}
use Rattle.corr_core.specs.IdSlotWord.{Parts, parts, attempt_of}
use Rattle.corr_core.specs.declared.marks.Plan.{Plan as IdPlan}
use Rattle.seat_programs.specs.id_rule.specs.LawfulIdTable as ids
use Rattle.seat_programs.specs.LoopHeads.{Retry}
use Rattle.seat_programs.specs.Programs.{Rest}
use Rattle.seat_programs.specs.Cores.{Core, SeatState, waiting_at}
use Rattle.call_owing.specs.Owing.{Duty, Looking, Owing, Among, InList, DutyTo, duty_tokens}
use Rattle.call_owing.specs.Owes.{OwesOn}

abbrev pub id_word_of : Core → ℕ → Parts
id_word_of c i = parts (slice_index c.calls.words (ids.id_index i))

abbrev pub at_of : IdPlan → Core → ℕ → ℕ
at_of q c o = slice_index c.calls.words (ids.at_index q o)

-- ## Who owes

abbrev pub retry_tokens : List Retry → List (ℕ × ℕ)
retry_tokens [] = []
retry_tokens (r ∷ rs) = (r.id, r.attempt) ∷ retry_tokens rs

-- a seat has the duty, or keeps the retry, or the reader of the link in an at word hasn't loaded that word yet
pub data Owed (q : IdPlan) (life : ℕ → Option ℕ) (c : Core) (us : List Owing) (id n : ℕ) : Type 0 where
  by_seat : (j : ℕ) (u : Owing) → get_elem? us j ≡ core.some u → DutyTo id n u.duty → Owed q life c us id n
  by_retry : (j : ℕ) (u : Owing) → get_elem? us j ≡ core.some u → Among id n (retry_tokens (waiting_at c.calls.waiting j)) → Owed q life c us id n
  by_reader : (o k s j : ℕ) (u : Owing) → o < q.operations → life k ≡ Some s → at_of q c o ≡ at_word (id_first id) (id_slot id) k n → get_elem? us j ≡ core.some u → u.link ≡ k ∷ [] → InList o u.left → Owed q life c us id n

-- ## Tokens, and what is past

abbrev pub Past : List Owing → ℕ → ℕ → Type 0
Past us id n = (j : ℕ) × (u : Owing) × (get_elem? us j ≡ core.some u) × Among id n u.knows

-- a seat tries the attempt, or keeps its retry
abbrev pub tokens_at : Core → Owing → ℕ → List (ℕ × ℕ)
tokens_at c u j = duty_tokens u.duty ++ retry_tokens (waiting_at c.calls.waiting j)

abbrev pub Token : Core → List Owing → ℕ → ℕ → ℕ → Type 0
Token c us id n j = (u : Owing) × (get_elem? us j ≡ core.some u) × Among id n (tokens_at c u j)

abbrev pub Distinct : List (ℕ × ℕ) → Type 0
Distinct [] = Unit {0}
Distinct (x ∷ xs) = (Among x.0 x.1 xs → ⊥) × Distinct xs

abbrev pub HasEnded : IdPlan → Core → ℕ → Type 0
HasEnded q c id = (id_slot id < q.slots) × (id_first id < (id_word_of c (id_slot id)).first)

abbrev pub IsAt : IdPlan → Core → ℕ → ℕ → Type 0
IsAt q c id n = (id_slot id < q.slots) × ((id_word_of c (id_slot id)).first ≡ id_first id) × (0 < (id_word_of c (id_slot id)).state) × ((id_word_of c (id_slot id)).attempt ≡ n)

abbrev pub WasAt : IdPlan → Core → ℕ → ℕ → Type 0
WasAt q c id n = (id_slot id < q.slots) × ((id_word_of c (id_slot id)).first ≡ id_first id) × (0 < (id_word_of c (id_slot id)).state) × (n ≤ (id_word_of c (id_slot id)).attempt)

-- an error of a word
abbrev pub ErrorPast : List Owing → ℕ → ℕ → Type 0
ErrorPast us id e = e ≢ 0 → (attempt_of e ≡ 7) ⊎ Past us id (attempt_of e)

-- the version of a link's life is past
abbrev pub FailedIn : (ℕ → Option ℕ) → List ℕ → ℕ → Type 0
FailedIn life ws k = (s : ℕ) → life k ≡ Some s → socket_id_version s < vref_version (slice_index ws (ref_index (socket_id_slot s)))

abbrev pub Failed : (ℕ → Option ℕ) → Core → ℕ → Type 0
Failed life c k = FailedIn life c.words k

abbrev pub IsOpen : Core → ℕ → ℕ → Type 0
IsOpen c id n = ((id_word_of c (id_slot id)).first ≡ id_first id) × ((id_word_of c (id_slot id)).state ≡ 1) × ((id_word_of c (id_slot id)).attempt ≡ n)

-- the at word of an attempt that is looking names its link
abbrev pub Stored : IdPlan → List ℕ → Core → List Owing → Duty → Type 0
Stored q calls c us (Looking id n k o) = (o < q.operations) × InList o calls × Past us id n × (IsAt q c id n → at_of q c o ≡ at_word (id_first id) (id_slot id) k n) × (k < 65535)
Stored q calls c us other = Unit {0}

-- what holds of the words, the homes and the marks
pub record OwingLaw (q : IdPlan) (life : ℕ → Option ℕ) (calls : List ℕ) (c : Core) (us : List Owing) : Type 0 where
  pub room : length us ≤ length c.calls.waiting
  -- each open id is owed its end
  pub owed : (id n : ℕ) → id_slot id < q.slots → IsOpen c id n → Owed q life c us id n
  -- a token is of the current attempt, and of no attempt that is past, and each attempt has one at most
  pub current : (id n j : ℕ) → Token c us id n j → HasEnded q c id ⊎ IsAt q c id n
  pub coming : (id n j : ℕ) → Token c us id n j → Past us id n → ⊥
  pub single : (id n j l : ℕ) → Token c us id n j → Token c us id n l → j ≡ l
  pub distinct : (j : ℕ) (u : Owing) → get_elem? us j ≡ core.some u → Distinct (tokens_at c u j)
  -- what is past was made
  pub past : (id n : ℕ) → Past us id n → HasEnded q c id ⊎ WasAt q c id n
  -- errors, messages and at words are of attempts that are past
  pub errors : (id : ℕ) → id_slot id < q.slots → (id_word_of c (id_slot id)).first ≡ id_first id → 0 < (id_word_of c (id_slot id)).state → ErrorPast us id (id_word_of c (id_slot id)).oldest × ErrorPast us id (id_word_of c (id_slot id)).second
  pub letters : (r : ℕ) (heading : Heading) (bytes : List ℕ) → get_elem? c.homes r ≡ core.some (core.some (Message heading bytes)) → heading.owner ≢ 0 → Past us heading.owner heading.label.attempt × (heading.label.attempt ≤ 6)
  pub ats : (o : ℕ) → o < q.operations → at_of q c o ≢ 0 → Past us (call_id (at_word_slot (at_of q c o)) (at_word_first (at_of q c o))) (at_word_attempt (at_of q c o))
  -- each link that gets a socket has a reader, which has all at words to load unless it found the socket failed
  pub readers : (k s : ℕ) → life k ≡ Some s → (j : ℕ) × (u : Owing) × (get_elem? us j ≡ core.some u) × (u.link ≡ k ∷ []) × ((u.dead ≡ true) ⊎ (u.left ≡ calls))
  pub dead : (j k : ℕ) (u : Owing) → get_elem? us j ≡ core.some u → u.link ≡ k ∷ [] → u.dead ≡ true → Failed life c k
  pub stored : (j : ℕ) (u : Owing) → get_elem? us j ≡ core.some u → Stored q calls c us u.duty
  -- the reader of link k has seat 32 + k
  pub tied : (j k : ℕ) (ks : List ℕ) (u : Owing) → get_elem? us j ≡ core.some u → u.link ≡ k ∷ ks → j ≡ 32 + k
  -- only who may keep retries keeps some
  pub kept : (j : ℕ) (u : Owing) → get_elem? us j ≡ core.some u → u.keeps ≡ false → waiting_at c.calls.waiting j ≡ []

pub record SoundOwing (q : IdPlan) (life : ℕ → Option ℕ) (calls : List ℕ) (c : Core) (us : List Owing) : Type 0 where
  pub each : length us ≡ length c.seats
  pub law : OwingLaw q life calls c us
  pub seats : (j : ℕ) (seat : SeatState) (u : Owing) → get_elem? c.seats j ≡ core.some seat → get_elem? us j ≡ core.some u → OwesOn life u seat.program

-- ## At the end

-- no seat has anything left to do
abbrev pub AllRest : Core → Type 0
AllRest c = (j : ℕ) (seat : SeatState) → get_elem? c.seats j ≡ core.some seat → seat.program ≡ Rest
