-- What a seat has of the id slots: one token at most; what each step does to it, what it has to be before, and what the step may find.
use Rattle.std.specs.Prelude.{ℕ, ◌≡◌, ◌≢◌, ◌+◌, ◌<◌, ◌≤◌, ◌⊎◌, ◌==◌, true, if◌then◌else◌, List, [], ◌∷◌, slice_index}
use Rattle.std.specs.Prelude as std
use Rattle.atomic_table.specs.Table.{State}
use Rattle.sock_words.specs.declared.plain.Plan.{Plan}
use Rattle.corr_core.specs.IdSlotWord.{parts}
use Rattle.corr_core.specs.declared.marks.Plan.{Plan as IdPlan}
use Rattle.corr_core.specs.declared.marks.Hand.TheVariants.{Empty, Full}
use Rattle.corr_core.specs.declared.marks.Token.{Token}
use Rattle.corr_core.specs.declared.marks.Token.TheVariants.{Claimed, Locked, Leaving}
use Rattle.corr_core.specs.declared.marks.Note.TheVariants.{Made, Queued, Saw}
use Rattle.corr_core.specs.declared.marks.Held.{Held}
use Rattle.corr_core.specs.declared.marks.View.{View}
use Rattle.id_rule.specs.LawfulIdTable.{call_index, at_index, tokens_in, with_token, no_token, with_note, with_kept}
use Rattle.id_rule.specs.IdPlays.{hand_of, with_hand, claimed_view, locked_view, popped_view, advanced_view, ended_view, found_view, Longer}
use Rattle.seat_programs.specs.sock_message.specs.Asked.{Asked}
use Rattle.sock_words.specs.PackedWords.{at_word_slot, at_word_first, call_id, id_slot, bit}
use Rattle.seat_programs.specs.Asides.{Step, ClaimId, PutCall, MakeId, StoreCall, LoadCall, StoreAt, LoadAt, LoadIdWord, LockId, PostId, UnlockId, EndId, FreeId, TakeCall, TakeBytes, Found}
use Rattle.seat_programs.specs.Cores.{Calls}
use Rattle.seat_programs.specs.Explained.{AskedFits}

-- a seat's view of the ids
abbrev pub IdView : Type 0
IdView = View Asked

-- the table of ids as its rule sees it
abbrev pub id_state : Calls → List IdView → State (std.Option Asked) IdView
id_state a us = record { words = a.words; homes = a.homes; views = us }

abbrev pub one : ℕ → Token Asked → List (Held Asked)
one i t = record { slot = i; token = t } ∷ []

-- ## Rows

abbrev pub by_token : List (Token Asked) → (Token Asked → IdView) → IdView → IdView
by_token [] then_ u = u
by_token (t ∷ ts) then_ u = then_ t

-- an id was made, opened again or ended by the seat that has this token, and its word was this
abbrev pub made_by : ℕ → ℕ → ℕ → IdView → Token Asked → IdView
made_by i range found u (Claimed seen (Full c)) = with_note i (Made (parts found).first range c) (no_token i u)
made_by i range found u other = u

abbrev pub unlocked_by : ℕ → ℕ → ℕ → ℕ → IdView → Token Asked → IdView
unlocked_by i from more found u (Locked f rg att c o s h) = if found == from
    then advanced_view i f (parts from).attempt ((parts from).attempt + more) (popped_view i f rg ((parts from).attempt + more) c (parts found).oldest (parts found).second u)
    else with_token i (Locked f rg att c (parts found).oldest (parts found).second (Full c)) u
unlocked_by i from more found u other = u

abbrev pub ended_by : ℕ → ℕ → IdView → Token Asked → IdView
ended_by i found u (Locked f rg att c o s h) = ended_view i f att ((parts found).first + (parts found).range) u
ended_by i found u other = u

abbrev pub locked_by : ℕ → ℕ → Asked → IdView → IdView
locked_by i found c u = locked_view i (parts found).first (parts found).range (parts found).attempt c u

-- the view after a step that found this, where this call was at home
abbrev pub id_row : IdPlan → (step : Step) → Found step → Asked → IdView → IdView
id_row q (ClaimId i) found c u = claimed_view i found u
id_row q (PutCall i asked) found c u = by_token (tokens_in i u) (λ t. with_token i (with_hand t (Full asked)) u) u
id_row q (MakeId i range) found c u = by_token (tokens_in i u) (made_by i range found u) u
id_row q (StoreCall o id) found c u = with_kept (call_index q o) true id u
id_row q (LoadCall o) found c u = found_view (call_index q o) found u
id_row q (StoreAt o w) found c u = with_kept (at_index q o) true w u
id_row q (LoadAt o) found c u = found_view (at_index q o) found u
id_row q (LoadIdWord i) found c u = with_note i (Saw found) u
id_row q (LockId i from) found c u = if found == from then locked_by i found c u else with_note i (Saw found) u
id_row q (PostId i from e) found c u = if found == from then (if (parts from).state == 1 then locked_by i found c u else with_note i (Queued (parts found).first e) u) else with_note i (Saw found) u
id_row q (UnlockId i from advance) found c u = by_token (tokens_in i u) (unlocked_by i from (bit advance) found u) u
id_row q (EndId i) found c u = by_token (tokens_in i u) (ended_by i found u) u
id_row q (FreeId i) found c u = no_token i u
id_row q (TakeCall i) found c u = by_token (tokens_in i u) (λ t. with_token i (with_hand t Empty) u) u
id_row q (TakeBytes k room) found c u = u

-- ## Before a step

-- the seat has this one token of slot i
abbrev pub HasOne : ℕ → Token Asked → IdView → Type 0
HasOne i t u = tokens_in i u ≡ t ∷ []

-- its call is at home
abbrev pub HasCallAt : ℕ → IdView → Type 0
HasCallAt i u = (t : Token Asked) × (c : Asked) × HasOne i t u × (hand_of t ≡ Full c)

abbrev pub MayPut : ℕ → Asked → IdView → Type 0
MayPut i asked u = ((seen : ℕ) × HasOne i (Claimed seen Empty) u) ⊎ ((f rg att o s : ℕ) × HasOne i (Locked f rg att asked o s Empty) u)

-- a stored word names an id of the table
abbrev pub CallFits : IdPlan → ℕ → Type 0
CallFits q w = id_slot w < q.slots

abbrev pub AtFits : IdPlan → ℕ → Type 0
AtFits q w = id_slot (call_id (at_word_slot w) (at_word_first w)) < q.slots

abbrev pub MayId : Plan → IdPlan → IdView → Step → Type 0
MayId p q u (ClaimId i) = i < q.slots
MayId p q u (PutCall i asked) = (i < q.slots) × MayPut i asked u × AskedFits p asked
MayId p q u (MakeId i range) = (i < q.slots) × ((seen : ℕ) × (c : Asked) × HasOne i (Claimed seen (Full c)) u) × (2 ≤ range) × (range ≤ 8)
MayId p q u (StoreCall o id) = (o < q.operations) × (id ≢ 0) × CallFits q id
MayId p q u (LoadCall o) = o < q.operations
MayId p q u (StoreAt o w) = (o < q.operations) × (w ≢ 0) × AtFits q w
MayId p q u (LoadAt o) = o < q.operations
MayId p q u (LoadIdWord i) = i < q.slots
MayId p q u (LockId i from) = (i < q.slots) × ((parts from).state ≡ 1)
MayId p q u (PostId i from e) = (i < q.slots) × (((parts from).state ≡ 1) ⊎ (((parts from).state ≡ 2) × ((parts from).second ≡ 0))) × (e ≢ 0) × (e < 32768)
MayId p q u (UnlockId i from advance) = (i < q.slots) × ((f rg att o s : ℕ) × (c : Asked) × HasOne i (Locked f rg att c o s (Full c)) u × Longer f rg att o s (parts from) × (att + bit advance + 2 ≤ rg))
MayId p q u (EndId i) = (i < q.slots) × ((f rg att o s : ℕ) × (c : Asked) × HasOne i (Locked f rg att c o s Empty) u)
MayId p q u (FreeId i) = (i < q.slots) × HasOne i Leaving u
MayId p q u (TakeCall i) = (i < q.slots) × HasCallAt i u
MayId p q u (TakeBytes k room) = Unit {0}

-- the words of calls and the at words that were stored
abbrev pub StoredFit : IdPlan → Calls → Type 0
StoredFit q a = ((o : ℕ) → o < q.operations → slice_index a.words (call_index q o) ≢ 0 → CallFits q (slice_index a.words (call_index q o)))
    × ((o : ℕ) → o < q.operations → slice_index a.words (at_index q o) ≢ 0 → AtFits q (slice_index a.words (at_index q o)))
