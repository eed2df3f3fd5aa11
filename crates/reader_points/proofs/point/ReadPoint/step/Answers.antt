use Rattle.std.proofs.Common.{Some, sym, subst}
use Rattle.id_points.specs.IdsAndAttemptNumbers.{id_of}
use Rattle.seat_programs.specs.ReaderProgram.{answered, posted_last}
use Rattle.call_points.specs.CallIdPoints.{lock_program, post_program}
use Rattle.call_points.specs.AsideCodeSteps.{step_of}
use Rattle.call_points.specs.declared.aside.Aside.{Aside}
use Rattle.reader_points.specs.declared.point.ReadPoint.{ReadPoint}
use Rattle.reader_points.specs.declared.point.ReadStep.TheVariants as steps
use Rattle.seat_states.proofs.AsidesAndAttempts.{in_aside}
use Rattle.reader_points.specs.ReaderPoints.{error_in, on_call, frames_behind, posts_program, answer_program, GoesBy}
use Rattle.reader_points.proofs.StepKinds.{locks_by, posts_by, answers_by, nowhere}
use Rattle.reader_points.proofs.point.ReadPoint.step.Goals as goal

pub returns-in-Lock-clause-program : goal.returns-in-Lock-clause-program
returns-in-Lock-clause-program c a =
    let k = answered a.frame a.kept (frames_behind a c.in-Lock.field-0) in
    rw c.in-Lock.is (sym (in_aside (lock_program c.in-Lock.locker k c.in-Lock.step) (step_of a.asked c.step.result) (sym (c.step.ensures a.asked k))))

pub returns-in-Answer-clause-program : goal.returns-in-Answer-clause-program
returns-in-Answer-clause-program c a =
    rw c.in-Answer.is (sym (in_aside (answer_program a c.in-Answer.field-0 (id_of c.in-Answer.id) c.in-Answer.step) (step_of a.asked c.aside.result) (sym (c.aside.ensures a c.in-Answer.field-0))))

pub returns-in-Post-clause-program : goal.returns-in-Post-clause-program
returns-in-Post-clause-program c a =
    let l = c.in-Post.lost in
    let k = posted_last (id_of l.id) (error_in l) a.kept (posts_program a l.closing) in
    rw c.in-Post.is (sym (in_aside (post_program (on_call l) k c.in-Post.step) (step_of a.asked c.post_step.result) (sym (rw c.error.ensures at (c.post_step.ensures a.asked k)))))

-- with an aside it goes on so
abbrev GoesWith : Aside → ReadPoint → Type 0
GoesWith x point = GoesBy point (Some (steps.Aside x))

pub returns-in-Lock-clause-kind : goal.returns-in-Lock-clause-kind
returns-in-Lock-clause-kind c =
    let k = answered nowhere.frame nowhere.kept (frames_behind nowhere c.in-Lock.field-0) in
    subst (GoesWith c.step.result) (sym c.in-Lock.is) (locks_by nowhere.asked c.in-Lock.field-0 c.in-Lock.locker c.in-Lock.step c.step.result k (c.step.ensures nowhere.asked k))

pub returns-in-Answer-clause-kind : goal.returns-in-Answer-clause-kind
returns-in-Answer-clause-kind c =
    subst (GoesWith c.aside.result) (sym c.in-Answer.is) (answers_by nowhere c.in-Answer.field-0 c.in-Answer.id c.in-Answer.step c.aside.result (c.aside.ensures nowhere c.in-Answer.field-0))

pub returns-in-Post-clause-kind : goal.returns-in-Post-clause-kind
returns-in-Post-clause-kind c =
    let l = c.in-Post.lost in
    let k = posted_last (id_of l.id) (error_in l) nowhere.kept (posts_program nowhere l.closing) in
    subst (GoesWith c.post_step.result) (sym c.in-Post.is) (posts_by nowhere.asked l c.in-Post.step c.post_step.result k (rw c.error.ensures at (c.post_step.ensures nowhere.asked k)))

pub returns-in-Fail-clause-kind : goal.returns-in-Fail-clause-kind
returns-in-Fail-clause-kind c = subst (GoesWith c.fail_step.result) (sym c.in-Fail.is) c.fail_step.ensures.kind
