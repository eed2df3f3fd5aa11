-- What a queue begins with.
use Rattle.std.specs.Prelude.{ℕ, ◌≡◌, ◌+◌, List, [], ◌∷◌, Vec, vec_len, false}
use Rattle.std.specs.Vec.{vec_capacity}
use Rattle.atomic_table.specs.Seated.{TableId}
use Rattle.atomic_table.specs.declared.shared.Seat.{Seat}
use Rattle.sock_io.specs.declared.link.Out.{Ghosts}
use Rattle.sock_words.specs.declared.plain.Plan.{Plan}
use Rattle.sock_model.specs.declared.view.View.{View}
use Rattle.write_chain.specs.ReadyToSend.{IsFree, IsReady}
use Rattle.exec_queue.specs.declared.queue.TaskQueue.{TaskQueue}
use Rattle.exec_queue.specs.declared.queue.TaskSubmitter.{TaskSubmitter}
use Rattle.exec_queue.specs.StoppedQueue.{NotesFit}
use Rattle.exec_queue.specs.Submitters.{IsSubmitter}

-- a seat of which nothing was accepted, and that holds nothing
pub record IsIdle {S : Type 0} (z : TableId) (p : Plan) (s : Seat S View) : Type 0 where
  pub free : IsFree z p s
  pub lists : s.me.0.lists ≡ [] ∷ []

-- and that knows the queue's socket, which it never found stopped
pub record IsBeginner {S : Type 0} (z : TableId) (p : Plan) (id : ℕ) (s : Seat S View) : Type 0 where
  pub ready : IsReady z p id s
  pub lists : s.me.0.lists ≡ [] ∷ []
  pub noted : NotesFit p id 0 false false s.me.0

-- a submitter of which no task was accepted, and that was answered nothing yet
pub record IsNew {O : Type 0} {g : Ghosts O} (q : TaskQueue O g) (number : ℕ) (s : TaskSubmitter O g) : Type 0 where
  pub is : IsSubmitter q [] s
  pub number_is : s.number ≡ number
  pub stops : s.stops ≡ 0
  pub told : s.told ≡ false
  pub full : s.full ≡ false

-- such submitters, with the numbers from n on
abbrev pub AreNewFrom : {O : Type 0} {g : Ghosts O} → TaskQueue O g → ℕ → List (TaskSubmitter O g) → Type 0
AreNewFrom q n [] = Unit {0}
AreNewFrom q n (s ∷ ss) = IsNew q n s × AreNewFrom q (n + 1) ss

-- an empty list with room for n values
abbrev pub HasPlaces : {T A : Type 0} → ℕ → Vec T A → Type 0
HasPlaces n v = (v.items ≡ []) × (vec_len v ≡ 0) × (vec_capacity v ≡ n)
