-- The frame of an attempt, as it goes to a link.
use Rattle.std.specs.Prelude.{ℕ, ◌≤◌}
use Rattle.message_parts.specs.declared.parcel.Parcel.TheVariants.{Frame}
use Rattle.sock_message.specs.Asked.{Asked, frame_of, parts_of}
use Rattle.sock_model.specs.MessageLabels.{attempt_label}
use Rattle.sock_rule.specs.declared.homes.Letter.{Letter}

abbrev pub letter_for : (asked : Asked) (id n : ℕ) → n ≤ 6 → Letter
letter_for asked id n low = record { bytes = Frame (record { bytes = frame_of asked id n; parts = parts_of asked id n }); label = attempt_label asked.operation n; owner = id; numbered = low }
