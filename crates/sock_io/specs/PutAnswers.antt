-- How the puts of a link are answered, by their numbers.
use Rattle.std.specs.Prelude.{ℕ, ◌≡◌, ◌%◌, ◌-◌, ◌<◌, ◌≤◌, ◌==◌, ◌&&◌, ◌||◌, nat_lt, nat_le, min, not, Bool, true, false, List, length, if◌then◌else◌}
use Rattle.sock_words.specs.declared.shape.Shape.{Shape}
use Rattle.sock_io.specs.declared.shaped.TheConstants.{TAKEN_ROOM}
use Rattle.sock_io.specs.declared.link.Put.{Put}
use Rattle.sock_io.specs.declared.link.Put.TheVariants as put
use Rattle.sock_io.specs.FaultCauses.{next_number}

-- put `fail` and all later ones fail, where it is asked for
abbrev pub fails_at : Shape → ℕ → Bool
fails_at shape number = nat_lt 0 shape.fail && nat_le shape.fail number

-- a put whose number `again` divides answers `Again`, where it is asked for, unless the put before it did
abbrev pub pauses_at : Shape → ℕ → Bool
pauses_at shape number = nat_lt 0 shape.again && (number % shape.again == 0)

-- how much a put takes at most: so much of the piece, as the room that is left allows
abbrev pub most_of : Shape → (room : ℕ) → List ℕ → ℕ
most_of shape room piece = min (min (length piece) shape.piece) room

-- what the put of this number answers, where the half inside takes all that it is handed: to fail goes before `Again`
abbrev pub answer_at : Shape → (number : ℕ) → (after_again : Bool) → (room : ℕ) → List ℕ → Put
answer_at shape number after_again room piece =
    if room == 0 || fails_at shape number then put.Failed
    else (if pauses_at shape number && not after_again then put.Again
    else put.Took (most_of shape room piece))

-- a put takes at most so much
abbrev pub TakesAtMost : ℕ → Put → Type 0
TakesAtMost most (put.Took n) = n ≤ most
TakesAtMost most other = Unit {0}

-- what the put of this number may answer, whatever the half inside takes
pub record FollowsShape (shape : Shape) (number : ℕ) (after_again : Bool) (room : ℕ) (piece : List ℕ) (result : Put) : Type 0 where
  pub most : TakesAtMost (most_of shape room piece) result
  pub failed : fails_at shape number ≡ true → result ≡ put.Failed
  pub full : room ≡ 0 → result ≡ put.Failed
  pub again : 0 < room → fails_at shape number ≡ false → pauses_at shape number ≡ true → after_again ≡ false → result ≡ put.Again

-- How the puts of a half go that answers each as its shape says: its shape, how many puts were made, and whether the last one answered `Again`.
pub record Pacing : Type 0 where
  pub shape : Shape
  pub puts : ℕ
  pub paused : Bool

abbrev pub is_again : Put → Bool
is_again put.Again = true
is_again other = false

-- behind one put more, which was answered so
abbrev pub paced_on : Put → Pacing → Pacing
paced_on result p = record { shape = p.shape; puts = next_number p.puts; paused = is_again result }

-- what its next put answers, where it took this so far
abbrev pub next_answer : Pacing → List ℕ → List ℕ → Put
next_answer p took piece = answer_at p.shape (next_number p.puts) p.paused (TAKEN_ROOM - length took) piece
