use Rattle.std.proofs.Common.{◌≡◌, map, take}
use Rattle.brpc_reasons.specs.SentencePieces.{shown_byte}
use Rattle.brpc_reasons.proofs.piece.put_shown.Given as goal

abbrev pub invariant-bytes : goal.invariant-bytes
invariant-bytes l = take l.i l.room ≡ map shown_byte (take l.i l.bytes)
