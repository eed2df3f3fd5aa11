use Rattle.std.proofs.Common.{◌≡◌, ◌+◌}
use Rattle.format_rows.proofs.scripts.drawn_seats.Given as goal

abbrev pub invariant-seats : goal.invariant-seats
invariant-seats l = record { total : l.seats.clients + l.seats.links ≡ 5 }
