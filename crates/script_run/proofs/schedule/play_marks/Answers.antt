use Rattle.std.proofs.Common.{refl, map, take, ◌∙◌}
use Rattle.brpc_model.specs.Operations.{schedule}
use Rattle.script_run.specs.Outlines.{meant}
use Rattle.seat_programs.specs.ScheduledRuns.{Scheduled}
use Rattle.machine_model.proofs.Same.{same_links_none, same_links_join}
use Rattle.script_run.proofs.Playing.{none_played}
use Rattle.script_run.proofs.ScheduleLines.{mark_played, whole_played}
use Rattle.script_run.proofs.schedule.play_marks.Goals as goal

pub loop-mark-init : goal.loop-mark-init
loop-mark-init g c = record {
  played = none_played (λ d. Scheduled c.args.machine.now.plan d (schedule (map meant (take 0 c.args.marks.now)))) c.args.machine.now (λ d. refl);
  playable = c.requires.playable;
  ends = same_links_none c.args.machine.now;
  says = refl;
}

pub returns-in_err-play_mark-clause-ends : goal.returns-in_err-play_mark-clause-ends
returns-in_err-play_mark-clause-ends g c = same_links_join c.args.machine.now c.loop-mark.machine c.play_mark.new.machine c.loop-mark.invariant.ends c.play_mark.ensures.ends

pub returns-in_err-play_mark-clause-says : goal.returns-in_err-play_mark-clause-says
returns-in_err-play_mark-clause-says g c = c.play_mark.ensures.says ∙ c.loop-mark.invariant.says

pub loop-mark-preserved : goal.loop-mark-preserved
loop-mark-preserved g c =
    let i = c.loop-mark.invariant in
    let step = c.in_ok-play_mark.ensures in record {
      played = mark_played c.args.marks.now c.loop-mark.mark-index c.mark-item.result c.args.machine.now c.loop-mark.machine c.play_mark.new.machine c.loop-mark-test.true c.mark-item.is i.played step.played;
      playable = step.playable;
      ends = same_links_join c.args.machine.now c.loop-mark.machine c.play_mark.new.machine i.ends step.ends;
      says = step.says ∙ i.says;
    }

pub returns-clause-played : goal.returns-clause-played
returns-clause-played g c = whole_played c.args.marks.now c.loop-mark.mark-index c.args.machine.now c.loop-mark.machine c.loop-mark-test.false c.loop-mark.invariant.played
