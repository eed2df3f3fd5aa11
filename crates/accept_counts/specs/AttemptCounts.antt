-- How often an attempt of a call stands with seats, with retries, in claims and among accepted messages: once at most.
use Rattle.std.specs.Prelude.{ℕ, ◌≡◌, ◌≢◌, ◌+◌, ◌*◌, ◌<◌, ◌≤◌, ◌⊎◌, ◌==◌, true, if◌then◌else◌, List, [], ◌∷◌, length, slice_index}
use Rattle.std.specs.List.{AllByRecursion}
use mathlib.Core.Option.{some}
use lib.ListN.{get_elem?}
use Rattle.sock_model.specs.declared.chain.Claim.{Claim}
use Rattle.sock_model.specs.declared.chain.Entry.{Entry}
use Rattle.sock_model.specs.declared.chain.Heading.{Heading}
use Rattle.sock_model.specs.declared.view.View.{View}
use Rattle.corr_core.specs.IdSlotWord.{Parts, parts}
use Rattle.corr_core.specs.declared.marks.Plan.{Plan as IdPlan}
use Rattle.seat_programs.specs.id_rule.specs.LawfulIdTable.{id_index}
use Rattle.seat_programs.specs.Asides.{StoreAt}
use Rattle.sock_message.specs.Asked.{Asked, frame_of}
use Rattle.seat_programs.specs.FoundAndChangedAside.{call_at}
use Rattle.seat_programs.specs.LoopHeads.{Retry}
use Rattle.seat_programs.specs.Cores.{Core, SeatState}
use Rattle.sock_words.specs.declared.plain.Plan.{Plan}
use Rattle.sock_words.specs.PackedWords.{at_word, id_slot, id_first}
use Rattle.seat_programs.specs.Programs.{Program, Aside}
use Rattle.seat_programs.specs.Ticks.{Moment, ticked}
use Rattle.call_causes.specs.Below.id_runs.specs.HeldIdTokens.{IdView}
use Rattle.call_causes.specs.Below.id_runs.specs.Goes.{SoundIds, IsFittingIds}
use Rattle.label_runs.specs.AttemptLabelsLeft.{Trial, Idle, Tries, Sends, Labels}
use Rattle.seat_programs.specs.LoopRounds.{first_step}
use Rattle.sock_words.specs.Totals.{total}

-- 1 where these are attempt n of the call with this id
abbrev pub pair_of : ℕ → ℕ → ℕ → ℕ → ℕ
pair_of id n i m = if i == id then (if m == n then 1 else 0) else 0

abbrev pub of_trial : ℕ → ℕ → Trial → ℕ
of_trial id n Idle = 0
of_trial id n (Tries i m) = pair_of id n i m
of_trial id n (Sends o i m) = pair_of id n i m

abbrev pub of_retry : ℕ → ℕ → Retry → ℕ
of_retry id n r = pair_of id n r.id r.attempt

-- of an attempt, what is counted in such states of the seats, and in the retries that wait
abbrev pub with_waiting : {A : Type 0} → (ℕ → ℕ → A → ℕ) → ℕ → ℕ → Core → List A → ℕ
with_waiting of id n c xs = total (of id n) xs + total (total (of_retry id n)) c.calls.waiting

-- a message of a call is that of an attempt
abbrev pub of_heading : ℕ → ℕ → Heading → ℕ
of_heading id n h = if h.owner == 0 then 0 else pair_of id n h.owner h.label.attempt

abbrev pub of_claim : ℕ → ℕ → Claim → ℕ
of_claim id n x = of_heading id n x.heading

abbrev pub of_entry : ℕ → ℕ → Entry → ℕ
of_entry id n e = of_heading id n e.heading

abbrev pub of_view : ℕ → ℕ → View → ℕ
of_view id n v = total (of_claim id n) v.claims + total (total (of_entry id n)) v.lists

-- with the seats, the retries that wait, the claims, and the accepted messages
abbrev pub times_of : ℕ → ℕ → Core → List View → List Trial → ℕ
times_of id n c vs ts = total (of_trial id n) ts + (total (total (of_retry id n)) c.calls.waiting + total (of_view id n) vs)

-- ## What was made

abbrev pub word_of_id : List ℕ → ℕ → Parts
word_of_id ws i = parts (slice_index ws (id_index i))

-- the range of this id has ended, or it has come to this attempt
abbrev pub WasMade : IdPlan → List ℕ → ℕ → ℕ → Type 0
WasMade q ws id n = (id_slot id < q.slots) × ((id_first id < (word_of_id ws (id_slot id)).first)
    ⊎ (((word_of_id ws (id_slot id)).first ≡ id_first id) × (0 < (word_of_id ws (id_slot id)).state) × (n ≤ (word_of_id ws (id_slot id)).attempt)))

-- the range of this id has begun, and has come to this attempt
abbrev pub WasNow : IdPlan → List ℕ → ℕ → ℕ → Type 0
WasNow q ws id n = (id_slot id < q.slots) × (((word_of_id ws (id_slot id)).first ≡ id_first id) × (0 < (word_of_id ws (id_slot id)).state) × (n ≤ (word_of_id ws (id_slot id)).attempt))

-- ## The law

-- each operation's call has one id
module _ (ids : ℕ → ℕ) where
  abbrev pub TrialFits : Trial → Type 0
  TrialFits (Sends o id n) = (ids o ≡ id) × (id ≢ 0) × (n ≤ 6)
  TrialFits other = Unit {0}

  -- where a tick stores an at word, it is one of the operation's own call
  abbrev pub StoresOwn : Core → Moment → Type 0
  StoresOwn c m = (seat : SeatState) (o w : ℕ) (next : ℕ → Program) → get_elem? c.seats m.seat ≡ some seat → first_step seat.program ≡ Aside (StoreAt o w) next
      → (id n k : ℕ) → w ≡ at_word (id_first id) (id_slot id) k n → k < 65535 → n ≤ 6 → id_slot id < 65536 → (ids o ≡ id) × (id ≢ 0)

  -- at each of these ticks and behind them the table of the ids is sound, what steps on sockets find is as it relies on, and at words are the operations' own
  abbrev pub AreLabelled : Plan → IdPlan → Core → List Moment → Type 0
  AreLabelled p q c [] = (us : List IdView) × SoundIds p q c us
  AreLabelled p q c (m ∷ ms) = ((us : List IdView) × SoundIds p q c us) × IsFittingIds p c m × StoresOwn c m × AreLabelled p q (ticked p c m) ms

-- and these are the calls
module _ (is_call : Asked → Type 0) (ids : ℕ → ℕ) where
  -- a call's message is the frame of one of its attempts: its owner is the id of the operation's call, and the number of its place word tells its attempt
  abbrev pub IsOfCall : Heading → List ℕ → Type 0
  IsOfCall h bytes = (h.owner ≢ 0) × (ids h.label.operation ≡ h.owner) × (h.label.place ≡ 8 * h.label.operation + h.label.attempt) × (h.label.attempt ≤ 6)
      × ((asked : Asked) × is_call asked × (asked.operation ≡ h.label.operation) × (bytes ≡ frame_of asked h.owner h.label.attempt))

  -- that of a `send` has no owner
  abbrev pub HeadFits : Heading → List ℕ → Type 0
  HeadFits h bytes = ((h.owner ≡ 0) × (h.parts ≡ [])) ⊎ IsOfCall h bytes

  abbrev pub BodyFits : Plan → Heading → List ℕ → Type 0
  BodyFits p h bytes = (h.label.place < 8 * p.operations) × (bytes ≢ [])

  abbrev pub ClaimFits : Plan → Claim → Type 0
  ClaimFits p x = HeadFits x.heading x.bytes × (x.filled ≡ true → BodyFits p x.heading x.bytes)

  abbrev pub EntryFits : Plan → Entry → Type 0
  EntryFits p e = HeadFits e.heading e.bytes × BodyFits p e.heading e.bytes

  abbrev pub ViewFits : Plan → View → Type 0
  ViewFits p v = AllByRecursion (ClaimFits p) v.claims × AllByRecursion (AllByRecursion (EntryFits p)) v.lists

  pub record LabelLaw (p : Plan) (q : IdPlan) (c : Core) (vs : List View) (ts : List Trial) : Type 0 where
    pub once : (id n : ℕ) → times_of id n c vs ts ≤ 1
    -- none stands anywhere before it is made
    pub made : (id n : ℕ) → 0 < times_of id n c vs ts → WasMade q c.calls.words id n
    pub views : (j : ℕ) (v : View) → get_elem? vs j ≡ some v → ViewFits p v
    pub trials : (j : ℕ) (t : Trial) → get_elem? ts j ≡ some t → TrialFits ids t
    -- the calls at home are these
    pub calls : (k : ℕ) (asked : Asked) → call_at (get_elem? c.calls.homes k) ≡ some asked → is_call asked
    pub each : length ts ≡ length c.seats
    pub programs : (j : ℕ) (seat : SeatState) (t : Trial) → get_elem? c.seats j ≡ some seat → get_elem? ts j ≡ some t → Labels is_call t seat.program
