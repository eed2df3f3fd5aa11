-- What the calls say of a seat.
use Rattle.std.specs.Prelude.{◌≡◌, ◌≢◌, ℕ, ◌+◌, ◌%◌, ◌<◌, ◌≤◌, ◌⊎◌, Bool, true, false, cond, ◌==◌, List, [], ◌∷◌, ◌++◌, Some, None}
use Rattle.std.specs.Prelude.{Option as Maybe}
use Rattle.corr_core.specs.IdSlotWord.{Parts, parts, error_of, locked_word}
use Rattle.corr_core.specs.IdSlotLaw.{LAST, only, pair, is_attempt, is_tried}
use Rattle.corr_core.specs.declared.marks.Hand.{Hand}
use Rattle.corr_core.specs.declared.marks.Hand.TheVariants.{Empty, Full}
use Rattle.corr_core.specs.declared.marks.Token.{Token}
use Rattle.corr_core.specs.declared.marks.Token.TheVariants.{Claimed, Locked}
use Rattle.corr_core.specs.declared.marks.Note.{Note}
use Rattle.corr_core.specs.declared.marks.Note.TheVariants.{Tried, Made, Locker, Attempt, Saw}
use Rattle.corr_core.specs.declared.marks.Noted.{Noted}
use Rattle.corr_core.specs.declared.marks.Kept.{Kept}
use Rattle.corr_core.specs.declared.marks.View.{View}
use Rattle.id_rule.specs.LawfulIdTable.{tokens_in, notes_of}
use Rattle.id_rule.specs.IdPlays.{IsHome, Fitting, hand_of, with_hand, value_of, hand_by}
use Rattle.sock_words.specs.PackedWords.{id_slot, id_first}
use Rattle.sock_words.specs.Totals.{total}

-- the word is free, or has another range than the version's
abbrev pub OutOf : Parts → ℕ → Type 0
OutOf w v = (w.state ≡ 0) ⊎ ((v < w.first) ⊎ (w.first + w.range ≤ v))

-- the word has the range whose first version this is
abbrev pub HasId : Parts → ℕ → Type 0
HasId w f = (w.first ≡ f) × (0 < w.state)

-- the word doesn't have it
abbrev pub LacksId : Parts → ℕ → Type 0
LacksId w f = (w.first ≢ f) ⊎ ((w.state ≢ 1) × (w.state ≢ 2))

-- 1 where the seat keeps in mind that it stored or found this word at this place
abbrev pub is_at : ℕ → ℕ → Kept → ℕ
is_at x word k = pair x word k.place k.word

-- an error for an attempt, or for the whole call
abbrev pub error_in : ℕ → Maybe ℕ → ℕ
error_in code None = error_of code 7
error_in code (Some n) = error_of code n

module _ {C : Type 0} where
  -- the view w is v, but its tokens of slot i are ts, and it has the notes ns more
  pub record Became (i : ℕ) (v w : View C) (ts : List (Token C)) (ns : List (Noted C)) : Type 0 where
    pub tokens : tokens_in i w ≡ ts
    pub others : (j : ℕ) → j ≢ i → tokens_in j w ≡ tokens_in j v
    pub notes : w.notes ≡ ns ++ v.notes
    pub kept : w.kept ≡ v.kept
    pub share : w.share ≡ v.share

  abbrev pub one : ℕ → Note C → List (Noted C)
  one i n = record { slot = i; note = n } ∷ []

  -- the seat has this token, and may change the home's value to y
  pub record MayMove (i : ℕ) (v : View C) (y : Maybe C) : Type 0 where
    pub token : Token C
    pub has : tokens_in i v ≡ token ∷ []
    pub ready : IsHome (hand_of token)
    pub fits : Fitting token (hand_by y)

  abbrev pub Moved : ℕ → View C → View C → Maybe C → Maybe C → Type 0
  Moved i v w y result = (t : Token C) → tokens_in i v ≡ t ∷ [] → (result ≡ value_of (hand_of t)) × Became i v w (with_hand t (hand_by y) ∷ []) []

  -- the seat has the claim of the slot, whose first version is f
  abbrev pub Claims : ℕ → View C → ℕ → Hand C → Type 0
  Claims i v f h = tokens_in i v ≡ Claimed f h ∷ []

  -- the seat has the lock of slot i, whose word it last found or left as w, and the content c is at h
  abbrev pub Locks : ℕ → View C → Parts → C → Hand C → Type 0
  Locks i v w c h = tokens_in i v ≡ Locked w.first w.range w.attempt c w.oldest w.second h ∷ []

  -- what a lock's token becomes where its unlocking exchange went from p to q
  abbrev pub tokens_left : Parts → Parts → C → List (Token C)
  tokens_left p q c = cond (p.oldest == 0) [] (Locked q.first q.range q.attempt c q.oldest q.second (Full c) ∷ [])

  abbrev pub advance_note : ℕ → Parts → Parts → List (Noted C)
  advance_note i p q = cond (p.attempt == q.attempt) [] (one i (Attempt p.first q.attempt))

  -- the notes that name an event: what was made, ended, locked, queued and advanced
  abbrev pub is_event : Note C → Bool
  is_event Tried = false
  is_event (Saw w) = false
  is_event _ = true

  abbrev pub events : List (Noted C) → List (Noted C)
  events [] = []
  events (n ∷ ns) = cond (is_event n.note) (n ∷ events ns) (events ns)

  abbrev pub is_saw : ℕ → Note C → ℕ
  is_saw x (Saw w) = only x w
  is_saw x _ = 0

  -- the seat found this word in slot i
  abbrev pub Found : ℕ → ℕ → View C → Type 0
  Found i word v = 0 < total (is_saw word) (notes_of i v.notes)

  -- this call, from v to w, found this word in slot i: the seat noted it once more
  abbrev pub FoundNow : ℕ → ℕ → View C → View C → Type 0
  FoundNow i word v w = total (is_saw word) (notes_of i v.notes) < total (is_saw word) (notes_of i w.notes)

  -- this call found slot i taken
  abbrev pub TakenNow : ℕ → View C → View C → Type 0
  TakenNow i v w = total is_tried (notes_of i v.notes) < total is_tried (notes_of i w.notes)

  -- this call found the open word of slot i by which the lock has the word k
  abbrev pub LockedNow : ℕ → View C → View C → Parts → Type 0
  LockedNow i v w k = (word : ℕ) × FoundNow i word v w × ((parts word).state ≡ 1) × (k ≡ locked_word (parts word))

  -- each word that it found there has a range that begins at this version or an earlier one
  abbrev pub FoundUpTo : ℕ → ℕ → View C → Type 0
  FoundUpTo i f v = (x : ℕ) → Found i x v → (parts x).first ≤ f

  -- each attempt to which it noted that this range advanced is this one or an earlier one
  abbrev pub ReachedUpTo : ℕ → ℕ → ℕ → View C → Type 0
  ReachedUpTo i f n v = (m : ℕ) → 0 < total (is_attempt f m) (notes_of i v.notes) → m ≤ n

  -- no event was added, all tokens stayed, and all notes
  pub record Quiet (v w : View C) : Type 0 where
    pub tokens : (j : ℕ) → tokens_in j w ≡ tokens_in j v
    pub events_same : events w.notes ≡ events v.notes
    pub grows : (j : ℕ) (g : Note C → ℕ) → total g (notes_of j v.notes) ≤ total g (notes_of j w.notes)
    pub kept : w.kept ≡ v.kept
    pub share : w.share ≡ v.share

  -- the tokens of slot i became ts, the events es were added, and all notes stayed
  pub record Did (i : ℕ) (v w : View C) (ts : List (Token C)) (es : List (Noted C)) : Type 0 where
    pub tokens : tokens_in i w ≡ ts
    pub others : (j : ℕ) → j ≢ i → tokens_in j w ≡ tokens_in j v
    pub added : events w.notes ≡ es ++ events v.notes
    pub grows : (j : ℕ) (g : Note C → ℕ) → total g (notes_of j v.notes) ≤ total g (notes_of j w.notes)
    pub kept : w.kept ≡ v.kept
    pub share : w.share ≡ v.share

  -- the id was made, with its range and content, in a slot of which the seat had nothing
  pub record MadeAs (v w : View C) (slots id r : ℕ) (c : C) : Type 0 where
    pub inside : id_slot id < slots
    pub first_some : 1 ≤ id_first id
    pub low : id_first id ≤ LAST
    -- each range of a word that the seat had seen taken there was an earlier one
    pub none_found : (w : ℕ) → 0 < total (is_saw w) (notes_of (id_slot id) v.notes) → 0 < (parts w).state → (parts w).first < id_first id
    -- and it had found the id at no operation: its words are those of even places
    pub unnoted : (x : ℕ) → x % 2 ≡ 0 → total (is_at x id) v.kept ≡ 0
    pub nothing_before : tokens_in (id_slot id) v ≡ []
    pub did : Did (id_slot id) v w [] (one (id_slot id) (Made (id_first id) r c))

  -- the id was locked by this seat, which had found this open word, and the lock has it as k; the content is in hand
  pub record GotLock (i : ℕ) (v w : View C) (open_word : ℕ) (k : Parts) (c : C) : Type 0 where
    pub found : Found i open_word w
    pub was_open : (parts open_word).state ≡ 1
    -- the words of a slot only go on to later ranges: none that it found had a later one
    pub latest : FoundUpTo i k.first w
    -- and a range only advances: to no later attempt did the seat note that it had
    pub reached : ReachedUpTo i k.first k.attempt w
    pub word_is : k ≡ locked_word (parts open_word)
    pub locks : Locks i w k c Empty
    pub did : Did i v w (tokens_in i w) (one i (Locker k.first c))
