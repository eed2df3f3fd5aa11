use Rattle.std.proofs.Common.{refl, ◌∙◌, ap, sym, subst, length, arith, Bool}
use Rattle.call_client.specs.ClientRun.{MayMakeAll, RunBy}
use Rattle.call_run.proofs.FindingNamedSockets.{waited_go}
use Rattle.call_run.proofs.worker.Worker.work.Goals as goal

pub run-ran-requires : goal.run-ran-requires
run-ran-requires g c = let was = c.args.self.now.caller in let p = c.args.tables.now.socks.rule.plan in let q = c.args.tables.now.ids.plan in let few = c.requires.few in let same = c.replace-tasks.ensures.value in let long = ap (λ v. length v.items) same in (
  c.type_bounds.send-G,
  (
    c.type_bounds.sync-G,
    (
      omega arith,
      (
        waited_go c.args.tables.now.socks.rule.table.shared.table_id p c.args.tables.now.ids.table.shared.table_id c.args.names.now was c.wait_all.new.seat c.requires.go c.wait_all.ensures.rest c.wait_all.ensures.found,
        (
          subst (λ v. MayMakeAll p q v.items (length was.passes.items)) (sym same) c.requires.may,
          c.requires.fed,
        ),
      ),
    ),
  ),
)

pub returns : goal.returns
returns g c = let was = c.args.self.now in let r = c.run-ran.ensures in let p = c.args.tables.now.socks.rule.plan in let q = c.args.tables.now.ids.plan in let began = record was.caller { seat = c.wait_all.new.seat } in record {
  began = began;
  waited = c.wait_all.ensures.found;
  same = refl;
  ran = subst (λ v. RunBy g.O.Out.state p q c.is_err-self.result v.items began c.run-ran.new.self) c.replace-tasks.ensures.value
      (subst (λ (b : Bool). RunBy g.O.Out.state p q b c.replace-tasks.result.items began c.run-ran.new.self) (sym c.is_err-self.ensures.value) r.ran);
  done = r.done;
  share = r.share ∙ c.wait_all.ensures.rest.share;
  ids = r.ids;
  id_stays = r.same;
  id_share = r.id_share;
}
