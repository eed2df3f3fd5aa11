-- What steps of several families ask of the view of a seat, and make of it.
use Rattle.std.specs.Prelude.{ℕ, ◌≡◌, ◌<◌, ◌==◌, ◌&&◌, List, [], ◌∷◌, if◌then◌else◌}
use Rattle.sock_model.specs.sock_words.specs.declared.plain.Plan.{Plan}
use Rattle.sock_model.specs.sock_words.specs.PackedWords.{socket_id_version, socket_id_slot, ticket_generation}
use Rattle.sock_model.specs.declared.chain.Claim.{Claim}
use Rattle.sock_model.specs.declared.chain.Right.{Right}
use Rattle.sock_model.specs.declared.chain.Stage.{Stage}
use Rattle.sock_model.specs.declared.chain.Stage.TheVariants.{Writes, Placed, Passes, Empties}
use Rattle.sock_model.specs.declared.view.View.{View}
use Rattle.sock_model.specs.MarkWeights.{is_ref, is_hold, is_known, is_met}
use Rattle.sock_model.specs.SlotRows.{marks_of}
use Rattle.seat_programs.specs.Programs.{LAST_GENERATION}

-- the seat may address the life of this id
abbrev pub Knows : Plan → View → ℕ → Type 0
Knows p v id = (socket_id_slot id < p.slots) × (0 < marks_of (is_known (socket_id_version id)) (socket_id_slot id) v)

-- one more reference to slot i may be counted
abbrev pub HasRoom : View → ℕ → Type 0
HasRoom v i = marks_of is_ref i v < 65540

-- the seat holds the life h of slot i
abbrev pub HoldsLife : Plan → View → ℕ → ℕ → Type 0
HoldsLife p v i h = (i < p.slots) × (0 < marks_of (is_hold h) i v)

-- its one claim is of request q
abbrev pub Claims : View → ℕ → Type 0
Claims v q = (c : Claim) × (v.claims ≡ c ∷ []) × (c.request ≡ q)

-- the link found is one of the table, and that which the seat found before for the life
abbrev pub FindsLink : Plan → View → ℕ → ℕ → ℕ → Type 0
FindsLink p v i h found = (found < p.links) × ((k : ℕ) → 0 < marks_of (is_met h k) i v → found ≡ k)

-- what becomes of the seat's one claim, or of its one right to write a link
abbrev pub by_claim : List Claim → (Claim → View) → View → View
by_claim [] then_ v = v
by_claim (c ∷ cs) then_ v = then_ c

abbrev pub by_right : List Right → (Right → View) → View → View
by_right [] then_ v = v
by_right (r ∷ rs) then_ v = then_ r

-- a request of the last generation isn't given back, so the right goes on at once
abbrev pub settled_stage : ℕ → Stage → Stage
settled_stage last (Placed now) = if (now == last) && (ticket_generation now == LAST_GENERATION) then Empties else Placed now
settled_stage last (Passes now next) = if ticket_generation now == LAST_GENERATION then Writes next else Passes now next
settled_stage last other = other

abbrev pub settled : Right → Right
settled r = record r { stage = settled_stage r.last r.stage }
