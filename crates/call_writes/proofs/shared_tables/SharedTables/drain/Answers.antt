use Rattle.std.proofs.Common.{refl, subst}
use Rattle.sock_table.specs.declared.refs.SockRef.{SockRef}
use Rattle.write_chain.specs.declared.keep.Kept.TheVariants as kept
use Rattle.write_chain.specs.KeepingOnWriting.{KeptBy, KeptWriting}
use Rattle.call_errors.specs.ClientBooks.{stand_of}
use Rattle.call_errors.proofs.KeepingThroughErrors.{keeps_none, keeps_then}
use Rattle.call_writes.specs.Draining.{none, one_more}
use Rattle.call_writes.proofs.shared_tables.SharedTables.drain.Goals as goal

pub drops-init : goal.drops-init
drops-init g c = record { can_go = tt; is_finite = tt; still = record { seat = c.requires.seat; same = refl; may = c.requires.may }; keeps = keeps_none c.args.self.now.ids.now.table.shared.table_id c.args.calls.now c.requires.ids; dropped = none }

pub keep_write-requires-clause-seat : goal.keep_write-requires-clause-seat
keep_write-requires-clause-seat g c = c.drops.invariant.still.seat

pub keep_write-requires-clause-may : goal.keep_write-requires-clause-may
keep_write-requires-clause-may g c = c.drops.invariant.still.may

pub tell_dropped-requires-clause-ids : goal.tell_dropped-requires-clause-ids
tell_dropped-requires-clause-ids g c = c.drops.invariant.keeps.ids

pub tell_dropped-requires-clause-code : goal.tell_dropped-requires-clause-code
tell_dropped-requires-clause-code g c = c.in-Dropped.ensures.kept.3.fits

pub drops-preserved : goal.drops-preserved
drops-preserved g c = let p = c.args.self.now.socks.now.rule.plan in
    let w = subst (λ (y : SockRef). KeptBy p c.args.self.now.socks.now.rule.ways.list y (kept.Dropped c.in-Dropped.next c.in-Dropped.msg c.in-Dropped.code) c.drops.seat.me.0 c.keep_write.new.seat.me) c.drops.invariant.still.same c.in-Dropped.ensures.kept in
    let wrote = subst (λ (y : SockRef). KeptWriting p y (kept.Dropped c.in-Dropped.next c.in-Dropped.msg c.in-Dropped.code) c.drops.seat.me.0 c.keep_write.new.seat.me.0) c.drops.invariant.still.same c.in-Dropped.ensures.wrote in record {
      can_go = tt;
      is_finite = tt;
      still = record { seat = c.keep_write.ensures.seat; same = w.0; may = w.1 };
      keeps = keeps_then c.args.self.now.ids.now.table.shared.table_id c.args.calls.now c.drops.calls c.tell_dropped.new.calls c.drops.invariant.keeps c.tell_dropped.ensures.keeps;
      dropped = one_more c.drops.seat.me.0 (stand_of c.drops.calls) c.keep_write.new.seat.me.0 (stand_of c.tell_dropped.new.calls) c.drops.invariant.dropped record {
        msg = c.in-Dropped.msg;
        code = c.in-Dropped.code;
        wrote = wrote;
        dead = w.2;
        code_is = w.3;
        told = c.tell_dropped.ensures.told;
      };
    }

pub returns-in-Done-clause-gave : goal.returns-in-Done-clause-gave
returns-in-Done-clause-gave g c = let p = c.args.self.now.socks.now.rule.plan in subst (λ (y : SockRef). KeptBy p c.args.self.now.socks.now.rule.ways.list y (kept.Done c.in-Done.sock) c.drops.seat.me.0 c.keep_write.new.seat.me) c.drops.invariant.still.same c.in-Done.ensures.kept

pub returns-in-Done-clause-keeps : goal.returns-in-Done-clause-keeps
returns-in-Done-clause-keeps g c = c.drops.invariant.keeps

pub returns-in-Done-clause-drained : goal.returns-in-Done-clause-drained
returns-in-Done-clause-drained g c = let p = c.args.self.now.socks.now.rule.plan in record {
  last = c.drops.seat.me.0;
  dropped = c.drops.invariant.dropped;
  wrote = subst (λ (y : SockRef). KeptWriting p y (kept.Done c.in-Done.sock) c.drops.seat.me.0 c.keep_write.new.seat.me.0) c.drops.invariant.still.same c.in-Done.ensures.wrote;
}
