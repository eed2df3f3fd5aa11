use Rattle.std.proofs.Common.{List, sym, subst}
use Rattle.sock_words.specs.PackedWords.{socket_id_slot}
use Rattle.sock_table.specs.ReferenceAnswers.{is_freed}
use Rattle.rpc_client.specs.declared.holding.Held.{Held}
use Rattle.rpc_client.specs.HoldAndDropOutcomes.{IsHolder}
use Rattle.rpc_client.proofs.CountedReferences.{gave_one, given_by, holds_listed, holder_less, removed_there}
use Rattle.rpc_client.proofs.FindingReferences.{seen_became}
use Rattle.rpc_client.proofs.holding.give_back.Goals as goal

pub release-released-requires-clause-held : goal.release-released-requires-clause-held
release-released-requires-clause-held g c = holds_listed c.args.table.now.rule.plan c.args.held.now.items c.args.seat.now.me.0 c.requires.holder c.args.at c.remove-gone.result c.requires.there c.remove-gone.ensures.value

pub returns-clause-holder : goal.returns-clause-holder
returns-clause-holder g c = let p = c.args.table.now.rule.plan in subst (λ (h : List Held). IsHolder p h c.release-released.new.seat.me.0) (sym c.remove-gone.ensures.items)
    (holder_less p c.args.held.now.items c.args.seat.now.me.0 c.requires.holder c.args.at c.remove-gone.result c.requires.there c.remove-gone.ensures.value c.release-released.new.seat.me.0 (gave_one c.remove-gone.result.id.0 c.args.seat.now.me.0 c.release-released.new.seat.me.0 _ c.release-released.ensures.back))

pub returns-clause-by : goal.returns-clause-by
returns-clause-by g c = given_by c.args.at (is_freed c.release-released.result) c.told_of.result c.args.held.now.items c.args.seat.now.me.0 c.remove-gone.new.self.items c.release-released.new.seat.me.0 c.told_of.ensures
    record { held = c.remove-gone.result; there = removed_there c.args.held.now.items c.args.at c.remove-gone.result c.requires.there c.remove-gone.ensures.value; left = c.remove-gone.ensures.items; back = c.release-released.ensures.back }

pub returns-clause-seen : goal.returns-clause-seen
returns-clause-seen g c = seen_became (socket_id_slot c.remove-gone.result.id.0) c.args.seat.now.me.0 c.release-released.new.seat.me.0 _ _ c.release-released.ensures.back.became
