use Rattle.loop_link.proofs.loop_peer.LoopPeer.pass.Given as goal

abbrev pub ghost-of : goal.ghost-of
ghost-of a = a.by.now.now
