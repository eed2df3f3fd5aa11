use Rattle.std.proofs.Common.{◌≡◌, ◌==◌, false, refl, arith}
use Rattle.std.proofs.lemmas.Bool.Decides.{nat_tests}
use Rattle.reader_points.proofs.follows.opened.Goals as goal
use Rattle.sock_words.specs.PackedWords.{NO_SOCKET}

pub returns-then-found-eq0-clause-program : goal.returns-then-found-eq0-clause-program
returns-then-found-eq0-clause-program c a hand = rw c.if-found-eq0.true refl

pub returns-else-found-eq-NO_SOCKET-clause-program : goal.returns-else-found-eq-NO_SOCKET-clause-program
returns-else-found-eq-NO_SOCKET-clause-program c a hand =
    let some : (c.args.found == 0) ≡ false = grind (arith, nat_tests, c.if-found-eq0.false) in
    let there : (c.args.found == NO_SOCKET) ≡ false = grind (arith, nat_tests, c.if-found-eq-NO_SOCKET.false) in
    rw (c.to_take.ensures, some, there, hand.0, hand.1) refl
