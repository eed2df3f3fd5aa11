use Rattle.std.proofs.Common.{◌+◌, map, drop, [], ◌∷◌, ◌++◌, if◌then◌else◌, arith, ap, sym, ◌∙◌}
use Rattle.std.proofs.lemmas.List.{map-append}
use Rattle.seat_programs.specs.ScriptSetupToEnding.{all_tasks}
use Rattle.script_items.specs.LineMeaning.{item}
use Rattle.seat_programs.specs.Tasks.{numbered}
use Rattle.script_lang.specs.TasksByLine.{tasks_along}
use Rattle.script_lang.proofs.LineSteps.{line_step}
use Rattle.script_lang.proofs.OperationOfClientIndex.{known_by}
use Rattle.script_lang.proofs.ByLine.{to_items, sofar_same, sofar_client, sofar_operation, sofar_other, tasks_are, left_is}
use Rattle.script_lang.proofs.tasks.tasks_of.Goals as goal
use Rattle.script_lang.proofs.tasks.tasks_of.Goals.{then-is_client+in_ok-push+in_ok-tasks-2, else-is_client+then-is_operation+in_ok-push_task+then-is_open, else-is_client+then-is_operation+in_ok-push_task+else-is_open, else-is_client+else-is_operation}

pub loop-line-init : goal.loop-line-init
loop-line-init c = let script = map item c.args.lines.now in record {
  room = omega (arith, left_is 0 1 script, c.requires.limits.operations);
  few = omega arith;
  short = c.requires.calls;
  tasks = ap (λ qs. map (λ q. q.items) qs ++ tasks_along (numbered script) c.args.names.now 0 0 c.in_ok-tasks.tasks.items script) c.new-clients.ensures.items
      ∙ ap (λ ts. tasks_along (numbered script) c.args.names.now 0 0 ts script) c.in_ok-tasks.ensures
      ∙ ap (λ ns. tasks_along (numbered script) ns 0 0 [] script) c.requires.names
      ∙ tasks_are script;
}

pub loop-line-preserved : goal.loop-line-preserved
loop-line-preserved c =
    let l = c.loop-line in
    let lines = c.args.lines.now in
    let rest = map item (drop (l.line-index + 1) lines) in
    let here = item c.line-item.result in
    let whole = all_tasks (map item lines) in
    let done = map (λ q. q.items) l.clients.items in
    let all = numbered (map item lines) in
    let ns = c.args.names.now in
    let own = l.tasks.items in
    let old = to_items (map item (drop l.line-index lines)) (here ∷ rest) (line_step lines l.line-index c.line-item.result c.loop-line-test.true c.line-item.is) l.invariant in
    elim c.if-is_client.branch [
      | then-is_client+in_ok-push+in_ok-tasks-2 w ↦
          sofar_same (ap (λ v. map (λ q. q.items) v.items) w.clients-is ∙ ap (map (λ q. q.items)) w.in_ok-push.ensures.items ∙ map-append (λ q. q.items) l.clients.items (l.tasks ∷ []))
          w.number-is w.link-is (ap (λ q. q.items) w.tasks-is ∙ w.in_ok-tasks-2.ensures)
          (sofar_client whole done all ns l.number l.link own here rest old (sym c.is_client.ensures ∙ w.if-is_client.true))
      | else-is_client+then-is_operation+in_ok-push_task+then-is_open w ↦
          let open_ = sym w.is_open.ensures ∙ w.if-is_open.true in
          sofar_same (ap (λ v. map (λ q. q.items) v.items) w.clients-is) w.number-is (w.link-is ∙ sym (ap (λ b. if b then l.link + 1 else l.link) open_))
          (ap (λ q. q.items) w.tasks-is ∙ w.in_ok-push_task.ensures all (known_by (map item lines) c.requires.numbering))
          (sofar_operation whole done all ns l.number l.link own here rest old (sym c.is_client.ensures ∙ w.if-is_client.false) (sym w.is_operation.ensures ∙ w.if-is_operation.true))
      | else-is_client+then-is_operation+in_ok-push_task+else-is_open w ↦
          let open_ = sym w.is_open.ensures ∙ w.if-is_open.false in
          sofar_same (ap (λ v. map (λ q. q.items) v.items) w.clients-is) w.number-is (w.link-is ∙ sym (ap (λ b. if b then l.link + 1 else l.link) open_))
          (ap (λ q. q.items) w.tasks-is ∙ w.in_ok-push_task.ensures all (known_by (map item lines) c.requires.numbering))
          (sofar_operation whole done all ns l.number l.link own here rest old (sym c.is_client.ensures ∙ w.if-is_client.false) (sym w.is_operation.ensures ∙ w.if-is_operation.true))
      | else-is_client+else-is_operation w ↦
          sofar_same (ap (λ v. map (λ q. q.items) v.items) w.clients-is) w.number-is w.link-is (ap (λ q. q.items) w.tasks-is)
          (sofar_other whole done all ns l.number l.link own here rest old (sym c.is_client.ensures ∙ w.if-is_client.false) (sym w.is_operation.ensures ∙ w.if-is_operation.false))
    ]
