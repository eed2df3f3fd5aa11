use Rattle.std.proofs.Common.{◌≡◌, ◌∙◌, true, false, sym, refl, ap}
use Rattle.seat_programs.specs.ReaderProgram.{version_in}
use Rattle.corr_core.specs.IdSlotWord.{parts}
use Rattle.corr_core.specs.IdRangeVersions.{is_early}
use Rattle.id_points.specs.IdsAndAttemptNumbers.{id_of}
use Rattle.reader_points.specs.declared.point.Behind.TheVariants as behinds
use Rattle.reader_points.proofs.ReaderAfterWordSteps.{answers_as}
use Rattle.reader_points.proofs.point.Reader.locked.Goals as goal
use Rattle.sock_words.specs.PackedWords.{call_id}

pub returns-then-comes_early-clause-program : goal.returns-then-comes_early-clause-program
returns-then-comes_early-clause-program c a is =
    let e : is_early (version_in a.frame) (parts c.in-NotThere.found.0) ≡ true = sym (c.comes_early.ensures a.frame is) ∙ c.if-comes_early.true in
    rw (c.in-NotThere.is, e) refl

pub returns-else-comes_early-clause-program : goal.returns-else-comes_early-clause-program
returns-else-comes_early-clause-program c a is =
    let e : is_early (version_in a.frame) (parts c.in-NotThere.found.0) ≡ false = sym (c.comes_early.ensures a.frame is) ∙ c.if-comes_early.false in
    rw (c.in-NotThere.is, e) refl

pub returns-in-Has-clause-program : goal.returns-in-Has-clause-program
returns-in-Has-clause-program c a is =
    rw c.in-Has.is (answers_as a (behinds.Frames c.args.self) (id_of c.id_at-id.result) (parts c.in-Has.word.0).first
    (c.id_at-id.ensures.id ∙ ap (λ s. call_id s (parts c.in-Has.word.0).first) is.slot) (c.id_at-id.ensures.slot ∙ is.slot))
