-- The steps of the chain of messages, C1 to C8: the kind and the word of each, what it stores, what the view of the seat says before it, what it may
-- find, and the view behind it.
use Rattle.std.specs.Prelude.{ℕ, ◌≡◌, ◌≢◌, ◌+◌, ◌*◌, ◌/◌, ◌%◌, ◌<◌, ◌⊎◌, ◌==◌, false, List, [], ◌∷◌, nat_lt, if◌then◌else◌, slice_index}
use lib.ListN.{get_elem?}
use mathlib.Core.Option.{Option, none, some}
use Rattle.sock_model.specs.sock_words.specs.declared.kind.Kind.{Kind}
use Rattle.sock_model.specs.sock_words.specs.declared.kind.Kind.TheVariants.{C1, C2, C3, C4, C5, C6, C7, C8}
use Rattle.sock_model.specs.sock_words.specs.declared.plain.Plan.{Plan}
use Rattle.sock_model.specs.sock_words.specs.PackedWords.{socket_id_version, socket_id_slot, ticket_request, ticket_generation, IDLE, UNCONNECTED}
use Rattle.sock_model.specs.declared.chain.Claim.{Claim}
use Rattle.sock_model.specs.declared.chain.Right.{Right}
use Rattle.sock_model.specs.declared.chain.Stage.{Stage}
use Rattle.sock_model.specs.declared.chain.Stage.TheVariants.{Writes, Placed, Passes, Empties, Reversing, ReversesNext}
use Rattle.sock_model.specs.declared.home.Home.{Home}
use Rattle.sock_model.specs.declared.view.View.{View}
use Rattle.sock_model.specs.declared.view.Hand.{Hand}
use Rattle.sock_model.specs.SocketTableLayout.{link_index}
use Rattle.sock_model.specs.SlotRows.{met_link}
use Rattle.sock_model.specs.ChainRows.{with_claim, fresh_claim, queued, righted, without_loose, with_right, without_right, turned_right, ready_claim}
use Rattle.sock_model.specs.ChainLawReads.{link_home}
use Rattle.sock_model.specs.MessageLabels.{blank}
use Rattle.sock_model.specs.ChainStepConditions.{MayExchange, MayEmpty, MayTurn}
use Rattle.seat_programs.specs.Programs.{LAST_GENERATION}
use Rattle.seat_programs.specs.TableWords.{TableWord, HeadOf, RequestOf, NextOf}
use Rattle.seat_programs.specs.TableSteps.{ChainStep, ClaimRequest, SwapHead, Connect, EmptyHead, ReadNext, ReverseNext, Unconnect, FreeRequest}
use Rattle.seat_programs.specs.StepViews.{HoldsLife, Claims, FindsLink, by_claim, by_right, settled}
use Rattle.seat_programs.specs.StepsOfLinks.{as_hand}

-- ## The kind

-- as the schedule of a script names it
abbrev pub chain_kind : ChainStep → Kind
chain_kind (ClaimRequest id q) = C1
chain_kind (SwapHead i own) = C2
chain_kind (Connect q before) = C3
chain_kind (EmptyHead i last) = C4
chain_kind (ReadNext q) = C5
chain_kind (ReverseNext q value) = C6
chain_kind (Unconnect q) = C7
chain_kind (FreeRequest q g) = C8

-- ## The word

-- the word that a step reads or changes
abbrev pub word_of_chain : ChainStep → Option TableWord
word_of_chain (ClaimRequest id q) = some (RequestOf q)
word_of_chain (SwapHead i own) = some (HeadOf i)
word_of_chain (Connect q before) = some (NextOf q)
word_of_chain (EmptyHead i last) = some (HeadOf i)
word_of_chain (ReadNext q) = some (NextOf q)
word_of_chain (ReverseNext q value) = some (NextOf q)
word_of_chain (Unconnect q) = some (NextOf q)
word_of_chain (FreeRequest q g) = some (RequestOf q)

-- the word behind a step that found this one
abbrev pub chain_after : ChainStep → ℕ → ℕ
chain_after (ClaimRequest id q) found = if found % 2 == 0 then found + 1 else found
chain_after (SwapHead i own) found = own
chain_after (Connect q before) found = before
chain_after (EmptyHead i last) found = if found == last then IDLE + last else found
chain_after (ReverseNext q value) found = value
chain_after (Unconnect q) found = UNCONNECTED
chain_after (FreeRequest q g) found = 2 * (g + 1)
chain_after other found = found

-- ## Before a step

-- the entry of request q isn't connected to the one before it yet
abbrev pub IsLoose : View → ℕ → ℕ → Type 0
IsLoose v q before = (n : ℕ) × (get_elem? v.loose n ≡ some (record { request = q; before = before }))

-- of its one right it placed a message that isn't the last one noted, or its walk has come to the entry: that of request q
abbrev pub MayReadNext : View → ℕ → Type 0
MayReadNext v q = (r : Right) × (v.rights ≡ r ∷ []) × (((now : ℕ) × (r.stage ≡ Placed now) × (now ≢ r.last) × (ticket_request now ≡ q)) ⊎ ((top at after : ℕ) × (r.stage ≡ Reversing top at after) × (ticket_request at ≡ q)))

-- of its one right it placed the message of this ticket, the last one noted, or it read what follows
abbrev pub MayFreeRequest : View → ℕ → Type 0
MayFreeRequest v now = (r : Right) × (v.rights ≡ r ∷ []) × (((r.stage ≡ Placed now) × (now ≡ r.last)) ⊎ ((next : ℕ) × (r.stage ≡ Passes now next)))

-- what the view of the seat says before a step, so that the rule allows it
abbrev pub ChainMay : Plan → View → ChainStep → Type 0
ChainMay p v (ClaimRequest id q) = (q < p.requests) × HoldsLife p v (socket_id_slot id) (socket_id_version id) × (v.claims ≡ [])
ChainMay p v (SwapHead i own) = (i < p.slots) × MayExchange p v i own
ChainMay p v (Connect q before) = (q < p.requests) × IsLoose v q before
ChainMay p v (EmptyHead i last) = (i < p.slots) × ((x : MayEmpty p v i last (IDLE + last)) × (v.rights ≡ x.mine.right ∷ []))
ChainMay p v (ReadNext q) = MayReadNext v q
ChainMay p v (ReverseNext q value) = (x : MayTurn v value) × (v.rights ≡ x.mine.right ∷ []) × (ticket_request x.at ≡ q)
ChainMay p v (Unconnect q) = (q < p.requests) × Claims v q
ChainMay p v (FreeRequest q g) = (now : ℕ) × (ticket_request now ≡ q) × (ticket_generation now ≡ g) × (g ≢ LAST_GENERATION) × MayFreeRequest v now

-- ## What is found

-- the link of a slot
abbrev pub link_in : List ℕ → ℕ → ℕ
link_in ws i = slice_index ws (link_index i)

-- the link that is to take the message for which a request is claimed or the head is exchanged
abbrev pub chain_hand : Plan → List ℕ → List (Option Home) → ChainStep → Hand
chain_hand p ws hs (ClaimRequest id q) = as_hand (link_in ws (socket_id_slot id)) none
chain_hand p ws hs (SwapHead i own) = as_hand (link_in ws i) (link_home (λ home. home) p hs (link_in ws i))
chain_hand p ws hs other = as_hand 0 none

-- what a step may find
abbrev pub ChainFinds : Plan → View → ChainStep → ℕ → Hand → Type 0
ChainFinds p v (ClaimRequest id q) found hand = FindsLink p v (socket_id_slot id) (socket_id_version id) hand.link × (found < 281474976710656)
ChainFinds p v other found hand = Unit {0}

-- ## Behind a step

-- a request just claimed for this link
abbrev pub new_claim : ℕ → ℕ → ℕ → Claim
new_claim k q found = fresh_claim k q found blank []

-- where the request was free it is claimed, and the link is noted as that of the life
abbrev pub claimed_request : ℕ → ℕ → ℕ → ℕ → View → View
claimed_request id q found k v = if found % 2 == 0 then with_claim (met_link (socket_id_slot id) (socket_id_version id) k v) (new_claim k q found) else v

-- the exchange found a busy head, or an idle one: then the seat has the right to write the link, which took this so far
abbrev pub exchanged : ℕ → Hand → View → Claim → View
exchanged found hand v c = if nat_lt found IDLE then queued v c found else righted v c found hand.took hand.next

-- the head was this ticket and is idle, or the walk begins at the one found
abbrev pub emptied : ℕ → ℕ → View → Right → View
emptied last found v r = if found == last then without_right v r.link else with_right v (record r { stage = Reversing found found 0 })

-- the next word of the message just placed was read, or that of the entry to which a walk has come
abbrev pub read_next : ℕ → View → Right → Stage → View
read_next found v r (Placed now) = with_right v (settled (record r { stage = Passes now found }))
read_next found v r (Reversing top at after) = if found == UNCONNECTED then v else with_right v (record r { stage = ReversesNext top at after found })
read_next found v r other = v

abbrev pub turned_next : View → Right → Stage → View
turned_next v r (ReversesNext top at after before) = with_right v (turned_right r top at before)
turned_next v r other = v

-- the request of the message just placed is free, and the right goes on
abbrev pub freed_stage : Stage → Stage
freed_stage (Placed now) = Empties
freed_stage (Passes now next) = Writes next
freed_stage other = other

abbrev pub freed_next : View → Right → View
freed_next v r = with_right v (record r { stage = freed_stage r.stage })

-- the view behind a step that found this word, and this link at home
abbrev pub chain_row : Plan → ChainStep → ℕ → Hand → View → View
chain_row p (ClaimRequest id q) found hand v = claimed_request id q found hand.link v
chain_row p (SwapHead i own) found hand v = by_claim v.claims (exchanged found hand v) v
chain_row p (Connect q before) found hand v = without_loose v q
chain_row p (EmptyHead i last) found hand v = by_right v.rights (emptied last found v) v
chain_row p (ReadNext q) found hand v = by_right v.rights (λ r. read_next found v r r.stage) v
chain_row p (ReverseNext q value) found hand v = by_right v.rights (λ r. turned_next v r r.stage) v
chain_row p (Unconnect q) found hand v = by_claim v.claims (λ c. with_claim v (ready_claim c)) v
chain_row p (FreeRequest q g) found hand v = by_right v.rights (freed_next v) v
