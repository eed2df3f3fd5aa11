use Rattle.std.proofs.Common.{◌≡◌, ◌++◌, sym, ◌∙◌, subst}
use Rattle.loop_link.specs.ServingFedBytes.{Follows, NewReplies}
use Rattle.rpc_server.specs.Feeding.{has_fault}
use Rattle.loop_link.proofs.RepliesFollowingPieces.{follows_next, new_replies}
use Rattle.loop_link.proofs.server.Server.feed.Goals as goal

pub invariant_of-server : goal.invariant_of-server
invariant_of-server c = subst (λ l. Follows l c.feeds.new.conn) (sym c.of.ensures) (follows_next _ _ _ _ _ _ c.self.invariant c.in_ok-faulty.ensures.replied)

pub returns-clause-replies : goal.returns-clause-replies
returns-clause-replies c =
    subst (λ l. NewReplies l c.args.piece.now c.feeds.new.out.items) c.self.view_is (new_replies _ _ _ _ _ _ c.self.invariant c.in_ok-faulty.ensures.replied c.new-replies.ensures.items)

pub returns-clause-faulty : goal.returns-clause-faulty
returns-clause-faulty c =
    subst (λ l. c.in_ok-faulty.faulty ≡ has_fault (l ++ c.args.piece.now)) c.self.view_is (c.in_ok-faulty.ensures.fault ∙ sym (c.self.invariant.faults c.args.piece.now))
