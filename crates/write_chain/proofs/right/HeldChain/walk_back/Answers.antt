use Rattle.std.proofs.Common.{refl, sym, ap, subst}
use Rattle.sock_words.specs.declared.plain.Plan.{Plan}
use Rattle.sock_rule.specs.ChainPlays.{IsTicket}
use Rattle.write_chain.specs.declared.right.Doing.TheVariants.{Back}
use Rattle.write_chain.specs.WritingRightInHand.{GoesBy}
use Rattle.write_chain.proofs.NotingWhileWriting.{rights_only, rights_then}
use Rattle.write_chain.proofs.WriterThroughSteps.{reads_at, turned_last, turned_on}
use Rattle.write_chain.proofs.right.HeldChain.walk_back.Goals as goal

pub read_back-found-requires-clause-may : goal.read_back-found-requires-clause-may
read_back-found-requires-clause-may g c = let h = c.requires.may.0 in record { right = h.right_is; one = h.writer.one; top = c.args.walk.top.0; after = c.args.walk.after; stage = h.stage_is }

pub read_back-found-requires-clause-ticket : goal.read_back-found-requires-clause-ticket
read_back-found-requires-clause-ticket g c = let t = c.requires.may.2 in (t.some_slot, t.inside)

pub returns-then-found-clause-goes : goal.returns-then-found-clause-goes
returns-then-found-clause-goes g c = let h = c.requires.may.0 in let read = c.read_back-found.ensures.view h.right_is c.args.walk.top.0 c.args.walk.after h.writer.one h.stage_is in
    (refl, subst (λ q. GoesBy c.args.self.table.now.rule.plan c.args.self.table.now.rule.ways.list c.args.self.sock.id.0 c.args.self.last.0 (Back c.args.walk) q) (sym (read.0 c.if-found.true)) c.requires.may)

pub returns-then-found-clause-others : goal.returns-then-found-clause-others
returns-then-found-clause-others g c = let h = c.requires.may.0 in let read = c.read_back-found.ensures.view h.right_is c.args.walk.top.0 c.args.walk.after h.writer.one h.stage_is in
    rights_only c.args.seat.now.me.0 c.read_back-found.new.seat.me.0 c.args.seat.now.me.0.rights (ap (λ m. m.0) (read.0 c.if-found.true))

pub reverse_next-requires-clause-may : goal.reverse_next-requires-clause-may
reverse_next-requires-clause-may g c = let h = c.requires.may.0 in let read = (c.read_back-found.ensures.view h.right_is c.args.walk.top.0 c.args.walk.after h.writer.one h.stage_is).1 c.if-found.false in
    let t = reads_at c.args.walk.top.0 c.args.walk.at.0 c.args.walk.after c.read_back-found.result c.args.walk.link c.args.seat.now.me c.read_back-found.new.seat.me h read.0 in record { right = t.right_is; one = t.writer.one; top = c.args.walk.top.0; before = c.read_back-found.result; stage = t.stage_is }

pub reverse_next-requires-clause-ticket : goal.reverse_next-requires-clause-ticket
reverse_next-requires-clause-ticket g c = let t = c.requires.may.2 in (t.some_slot, t.inside)

pub returns-then-found-end-clause-goes : goal.returns-then-found-end-clause-goes
returns-then-found-end-clause-goes g c = let h = c.requires.may.0 in let read = (c.read_back-found.ensures.view h.right_is c.args.walk.top.0 c.args.walk.after h.writer.one h.stage_is).1 c.if-found.false in
    let t = reads_at c.args.walk.top.0 c.args.walk.at.0 c.args.walk.after c.read_back-found.result c.args.walk.link c.args.seat.now.me c.read_back-found.new.seat.me h read.0 in
    (refl, (turned_last c.args.walk.top.0 c.args.walk.at.0 c.args.walk.after c.read_back-found.result c.args.walk.link c.read_back-found.new.seat.me c.reverse_next.new.seat.me t (c.reverse_next.ensures.view t.right_is c.args.walk.top.0 c.args.walk.after c.read_back-found.result t.writer.one t.stage_is) c.if-found-end.true c.requires.may.1, c.requires.may.2))

pub returns-then-found-end-clause-others : goal.returns-then-found-end-clause-others
returns-then-found-end-clause-others g c = let h = c.requires.may.0 in let read = (c.read_back-found.ensures.view h.right_is c.args.walk.top.0 c.args.walk.after h.writer.one h.stage_is).1 c.if-found.false in
    let t = reads_at c.args.walk.top.0 c.args.walk.at.0 c.args.walk.after c.read_back-found.result c.args.walk.link c.args.seat.now.me c.read_back-found.new.seat.me h read.0 in
    rights_then c.args.seat.now.me.0 c.read_back-found.new.seat.me.0 c.reverse_next.new.seat.me.0 (rights_only c.args.seat.now.me.0 c.read_back-found.new.seat.me.0 _ (ap (λ m. m.0) read.0))
    (rights_only c.read_back-found.new.seat.me.0 c.reverse_next.new.seat.me.0 _ (ap (λ m. m.0) (c.reverse_next.ensures.view t.right_is c.args.walk.top.0 c.args.walk.after c.read_back-found.result t.writer.one t.stage_is)))

pub returns-clause-goes : goal.returns-clause-goes
returns-clause-goes g c = let h = c.requires.may.0 in let read = (c.read_back-found.ensures.view h.right_is c.args.walk.top.0 c.args.walk.after h.writer.one h.stage_is).1 c.if-found.false in
    let t = reads_at c.args.walk.top.0 c.args.walk.at.0 c.args.walk.after c.read_back-found.result c.args.walk.link c.args.seat.now.me c.read_back-found.new.seat.me h read.0 in
    let on = turned_on c.args.walk.top.0 c.args.walk.at.0 c.args.walk.after c.read_back-found.result c.args.walk.link c.read_back-found.new.seat.me c.reverse_next.new.seat.me t (c.reverse_next.ensures.view t.right_is c.args.walk.top.0 c.args.walk.after c.read_back-found.result t.writer.one t.stage_is) c.if-found-end.false in (
      refl,
      (
        on,
        c.requires.may.1,
        subst (λ (q : Plan). IsTicket q c.read_back-found.result) c.requires.seat.1 read.1,
      ),
    )

pub returns-clause-others : goal.returns-clause-others
returns-clause-others g c = let h = c.requires.may.0 in let read = (c.read_back-found.ensures.view h.right_is c.args.walk.top.0 c.args.walk.after h.writer.one h.stage_is).1 c.if-found.false in
    let t = reads_at c.args.walk.top.0 c.args.walk.at.0 c.args.walk.after c.read_back-found.result c.args.walk.link c.args.seat.now.me c.read_back-found.new.seat.me h read.0 in
    rights_then c.args.seat.now.me.0 c.read_back-found.new.seat.me.0 c.reverse_next.new.seat.me.0 (rights_only c.args.seat.now.me.0 c.read_back-found.new.seat.me.0 _ (ap (λ m. m.0) read.0))
    (rights_only c.read_back-found.new.seat.me.0 c.reverse_next.new.seat.me.0 _ (ap (λ m. m.0) (c.reverse_next.ensures.view t.right_is c.args.walk.top.0 c.args.walk.after c.read_back-found.result t.writer.one t.stage_is)))

pub returns-then-found-clause-more : goal.returns-then-found-clause-more
returns-then-found-clause-more g c = tt

pub returns-then-found-end-clause-more : goal.returns-then-found-end-clause-more
returns-then-found-end-clause-more g c = tt

pub returns-clause-more : goal.returns-clause-more
returns-clause-more g c = tt
