use Rattle.std.proofs.Common.{◌≡◌, ◌∷◌, [], rules, Ok}
use Rattle.brpc_model.specs.Text.{words}
use Rattle.script_items.specs.PartReaderAnswers.{both_of}
use Rattle.script_items.proofs.SideBySide.{to_read}
use Rattle.script_items.proofs.forms.read_to.Goals as goal

pub returns : goal.returns
returns c = λ before clients links.
    let split : words c.args.args.now ≡ c.in_ok-seat.seat.now ∷ c.in_ok-kind.kind.now ∷ [] = search rules in
    let both : both_of c.read_seat.result c.read_kind.result ≡ Ok (c.in_ok-seat-2.seat, c.in_ok-seat-2.kind) = search rules in
    to_read before _ _ _ _ _ c.read_seat.result c.read_kind.result split (c.read_seat.ensures before clients links) c.read_kind.ensures both
