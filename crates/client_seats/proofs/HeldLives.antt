-- What is held, and what follows when some of it is given back.
use Rattle.std.proofs.Common.{◌≡◌, refl, ℕ, ◌<◌, ◌==◌, Bool, true, false, not, if◌then◌else◌, ap, ◌∙◌, arith, List, [], ◌∷◌, length, filter, Some, remove, slice_index_or}
use Rattle.sock_words.specs.PackedWords.{socket_id_slot}
use Rattle.seat_programs.specs.Programs.{release}
use Rattle.seat_programs.specs.ClientProgram.{HeldLife, without_name, held_under, give_back, operation}
use Rattle.seat_programs.specs.declared.task.Op.{Op}
use Rattle.seat_programs.specs.declared.task.Op.TheVariants as ops
use Rattle.sock_message.specs.Asked.{Asked}
use Rattle.seat_programs.specs.CallAndRetryPrograms.{call}
use Rattle.seat_programs.specs.SendAndWritePrograms.{send}
use Rattle.seat_programs.specs.declared.task.Sizes.{Sizes}
use Rattle.sock_words.specs.declared.socket_id.SocketId.{SocketId}
use Rattle.client_seats.specs.declared.seat.Held.{Held}
use Rattle.seat_states.specs.declared.point.Continuation.TheVariants as thens
use Rattle.seat_states.specs.ProgramAtPoint.{Context, client_on, then_program}
use Rattle.client_seats.specs.ClientSeatState.{lives}

-- nothing is held under the name any more
pub lives_without : (name : ℕ) (hs : List Held) → lives (filter (λ (h : Held). not (h.name == name)) hs) ≡ without_name name (lives hs)
lives_without name [] = refl
lives_without name (h ∷ hs) = step (h.name == name) (lives_without name hs)
  where
    step : (b : Bool) → lives (filter (λ (x : Held). not (x.name == name)) hs) ≡ without_name name (lives hs) → lives (if not b then h ∷ filter (λ (x : Held). not (x.name == name)) hs else filter (λ (x : Held). not (x.name == name)) hs) ≡ (if not b then (record { name = h.name; id = h.id.0 }) ∷ without_name name (lives hs) else without_name name (lives hs))
    step true e = e
    step false e = ap (λ (ls : List HeldLife). (record { name = h.name; id = h.id.0 }) ∷ ls) e

-- the oldest is given back first
pub gives_oldest : (a : Context) (held : List Held) (x : Held) (i : ℕ) (rest : List Held) → i ≡ socket_id_slot x.id.0 → x ≡ slice_index_or held 0 x → 0 < length held → rest ≡ remove held 0 →
    a.goes_on ≡ give_back → a.held ≡ lives rest → release i (then_program a thens.GaveBack) ≡ give_back (lives held)
gives_oldest a [] x i rest slot is some gone on are = absurd (omega arith)
gives_oldest a (h ∷ hs) x i rest slot is some gone on are =
    let e : i ≡ socket_id_slot h.id.0 = slot ∙ ap (λ (y : Held). socket_id_slot y.id.0) is in
    let f : rest ≡ hs = gone in
    rw (e, on, are, f) refl

-- a life that is held is given back
pub drops : (a : Context) (sizes : Sizes) (number name : ℕ) (id : SocketId) (held : List HeldLife) (i : ℕ) → i ≡ socket_id_slot id.0 → Some id.0 ≡ held_under name held → a.held ≡ without_name name held →
    release i (then_program a (thens.Dropped number)) ≡ operation sizes held number a.goes_on (ops.Drop name)
drops a sizes number name id held i slot is rest = rw (slot, ← is, rest) refl

-- a message is sent
pub sends : (a : Context) (sizes : Sizes) (number name : ℕ) (bytes : List ℕ) (held : List HeldLife) (op : Op) → a.sizes ≡ sizes → a.held ≡ held → a.message ≡ bytes → op ≡ ops.Send name bytes →
    send a.sizes.requests number name a.message (client_on a) ≡ operation sizes held number a.goes_on op
sends a sizes number name bytes held op e f g h = rw (e, f, g, h) refl

-- a call begins
pub calls : (a : Context) (sizes : Sizes) (number : ℕ) (asked : Asked) (held : List HeldLife) (op : Op) → a.sizes ≡ sizes → a.held ≡ held → a.asked ≡ asked → op ≡ ops.Call asked →
    call a.sizes.requests a.sizes.ids a.asked (client_on a) ≡ operation sizes held number a.goes_on op
calls a sizes number asked held op e f g h = rw (e, f, g, h) refl
