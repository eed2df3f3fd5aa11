use Rattle.std.proofs.Common.{ℕ, List, drop, Ok, subst, arith, length-take, length-drop}
use Rattle.std.proofs.lemmas.List.{take-append-drop}
use Rattle.prpc_frame.specs.Header.{HeaderSays}
use Rattle.prpc_frame.proofs.FrontFramePlace.{whole_sizes_are}
use Rattle.prpc_frame.proofs.front.whole_sizes.Goals as goal

pub returns-in-Ok : goal.returns-in-Ok
returns-in-Ok c =
    let bytes = c.args.bytes.now in
    let P : List ℕ → Type 0 = λ l. HeaderSays l (Ok c.in-Ok.sizes) in
    whole_sizes_are bytes c.in-Ok.sizes (subst P (take-append-drop 12 bytes) (c.in-Ok.ensures (drop 12 bytes) (omega (arith, length-take 12 bytes, length-drop 12 bytes, c.if-bytes-lt-HEADER_BYTES.false))))
