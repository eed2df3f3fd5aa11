use Rattle.std.proofs.Common.{refl, ap, ◌∙◌, subst}
use Rattle.sock_words.specs.declared.plain.Plan.{Plan}
use Rattle.sock_model.specs.declared.chain.Stage.TheVariants.{Writes, Empties}
use Rattle.sock_model.specs.ChainRows.{passing_right, freed_right}
use Rattle.sock_rule.specs.ChainPlays.{IsTicket}
use Rattle.sock_rule.proofs.HoldingWriteRight.{one_right}
use Rattle.write_chain.proofs.NotingWhileWriting.{rights_only, rights_then}
use Rattle.write_chain.proofs.WriterThroughSteps.{may_free, ends_at, past_end, passes_by, goes_to, past_next}
use Rattle.write_chain.proofs.right.HeldChain.go_past.Goals as goal

pub give_request_back-requires-clause-may : goal.give_request_back-requires-clause-may
give_request_back-requires-clause-may g c = let h = c.requires.may.0 in may_free Empties c.args.now.0 c.args.link c.args.seat.now.me h (ends_at c.args.now.0 c.args.link c.args.seat.now.me h c.if-now-self.true)

pub returns-then-now-self-clause-goes : goal.returns-then-now-self-clause-goes
returns-then-now-self-clause-goes g c = let h = c.requires.may.0 in past_end c.args.now.0 c.args.link c.args.seat.now.me c.give_request_back.new.seat.me h (c.give_request_back.ensures.view h.right_is h.writer.one)

pub returns-then-now-self-clause-others : goal.returns-then-now-self-clause-others
returns-then-now-self-clause-others g c = let h = c.requires.may.0 in rights_only c.args.seat.now.me.0 c.give_request_back.new.seat.me.0 _ (ap (λ m. m.0) (c.give_request_back.ensures.view h.right_is h.writer.one))

pub give_request_back-requires-2-clause-may : goal.give_request_back-requires-2-clause-may
give_request_back-requires-2-clause-may g c = let h = c.requires.may.0 in let on = passes_by c.args.now.0 c.read_on-found.result c.args.link c.args.seat.now.me c.read_on-found.new.seat.me h (c.read_on-found.ensures.view h.right_is h.writer.one).0 in
    may_free (Writes c.read_on-found.result) c.args.now.0 c.args.link c.read_on-found.new.seat.me on (goes_to c.args.now.0 c.read_on-found.result c.args.link c.read_on-found.new.seat.me on)

pub returns-clause-goes : goal.returns-clause-goes
returns-clause-goes g c = let h = c.requires.may.0 in let read = c.read_on-found.ensures.view h.right_is h.writer.one in let on = passes_by c.args.now.0 c.read_on-found.result c.args.link c.args.seat.now.me c.read_on-found.new.seat.me h read.0 in (
  past_next c.args.now.0 c.read_on-found.result c.args.link c.read_on-found.new.seat.me c.give_request_back-2.new.seat.me on (c.give_request_back-2.ensures.view on.right_is on.writer.one),
  subst (λ (q : Plan). IsTicket q c.read_on-found.result) c.requires.seat.1 read.1,
)

pub returns-clause-others : goal.returns-clause-others
returns-clause-others g c = let h = c.requires.may.0 in let read = c.read_on-found.ensures.view h.right_is h.writer.one in let on = passes_by c.args.now.0 c.read_on-found.result c.args.link c.args.seat.now.me c.read_on-found.new.seat.me h read.0 in
    rights_then c.args.seat.now.me.0 c.read_on-found.new.seat.me.0 c.give_request_back-2.new.seat.me.0 (rights_only c.args.seat.now.me.0 c.read_on-found.new.seat.me.0 _ (ap (λ m. m.0) read.0))
    (rights_only c.read_on-found.new.seat.me.0 c.give_request_back-2.new.seat.me.0 _ (ap (λ m. m.0) (c.give_request_back-2.ensures.view on.right_is on.writer.one)))

pub returns-then-now-self-clause-last : goal.returns-then-now-self-clause-last
returns-then-now-self-clause-last g c = λ e. tt

pub returns-clause-last : goal.returns-clause-last
returns-clause-last g c = λ e. absurd (c.if-now-self.false e)

pub returns-then-now-self-clause-message : goal.returns-then-now-self-clause-message
returns-then-now-self-clause-message g c = λ r one. (freed_right r, ap (λ m. m.0.rights) (c.give_request_back.ensures.view r one) ∙ one_right c.args.seat.now.me.0 r (freed_right r) one refl, refl, refl, refl)

pub returns-clause-message : goal.returns-clause-message
returns-clause-message g c = λ r one. let on = passing_right r c.args.now.0 c.read_on-found.result in let has = ap (λ m. m.0.rights) (c.read_on-found.ensures.view r one).0 ∙ one_right c.args.seat.now.me.0 r on one refl in
    (freed_right on, ap (λ m. m.0.rights) (c.give_request_back-2.ensures.view on has) ∙ one_right c.read_on-found.new.seat.me.0 on (freed_right on) has refl, refl, refl, refl)
