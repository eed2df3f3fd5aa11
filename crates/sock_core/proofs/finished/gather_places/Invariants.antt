use Rattle.std.proofs.Common.{◌≡◌, map, vec_len, vec_capacity}
use Rattle.seat_programs.specs.ScheduledRuns.{from_to}
use Rattle.sock_core.proofs.OnePlaceWordMore.{word_of_place}
use Rattle.sock_core.proofs.finished.gather_places.Given as goal

-- the place words so far
abbrev pub invariant-loop-number : goal.invariant-loop-number
invariant-loop-number l = record {
  told : l.places.items ≡ map (word_of_place l.plan l.words) (from_to 0 l.number);
  many : vec_len l.places ≡ l.number;
  room : vec_capacity l.places ≡ vec_capacity l.fn.places;
}
